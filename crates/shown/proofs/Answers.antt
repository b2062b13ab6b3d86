-- What the number that an entry gives tells of its answer.
use Prim.Native.Nat.{ℕ, ◌+◌, ◌/◌, ◌%◌, ◌≤◌, ◌<◌}
use native.Mathlib.Omega.{arith}
use mathlib.Core.List.{[], ◌∷◌, ◌++◌}
use mathlib.Core.Path.{◌≡◌, sym, ap, ◌∙◌}
use borrow.Author.Tests.{lt-ltb, le-ltb}
use lib.ListN.{length, drop, length-append, length-drop}
use lib.Seq.{length-take-le}
use Rattle.paper.specs.Units.{Text, Fields}
use Rattle.paper.specs.Text.{ascii, digits}
use Rattle.paper.specs.Answer.{Answer, refused, accepted, handed_back}
use Rattle.paper.specs.Demands.{IsAnswer}
use Rattle.paper.proofs.Digits.{digits_length}
use Rattle.paper.proofs.Lengths.{line_length}
use Rattle.io.specs.Counts.{IsPrefixLen}
use Rattle.lines.specs.Written.{Place, Wrote, refusal_line}
use Rattle.lines.proofs.Written.{written_length}
use Rattle.shown.specs.Shown.{Told, shown_text}

-- A refusal's line is short
pub refusal_short : (number line : ℕ) → number < 100 → line < 100_000 → length (refusal_line number line) ≤ 32_768
refusal_short number line n l =
    let fields : Fields = ascii "N" ∷ digits number ∷ digits line ∷ [] in
    omega (arith, line_length fields (omega arith), digits_length number 1 n, digits_length line 4 l)

-- What is shown of an answer fits 32,768 bytes
shown_fits : (a : Answer) → IsAnswer 13 a → length (shown_text a) ≤ 32_768
shown_fits (refused number line) (low, high, below) = refusal_short number line (omega arith) (omega arith)
shown_fits (accepted report) fits = fits

-- What is written at a buffer's start, and fits it, is counted in it
counted : (t b : Text) (next : Place) (after : Text) → length t ≤ length b → Wrote t 0 b next after → IsPrefixLen next after
counted t b next after h w =
    let long : length after ≡ length b = ap length w.1 ∙ written_length t 0 b (omega arith) in
    let low : next ≤ length after = omega (arith, w.0) in
    (low, sym (length-take-le next after low))

-- What a number and a buffer that an answer hands back tell of it, where the buffer has room for it
module _ (a : Answer) (is : IsAnswer 13 a) (buffer : Text) (long : 32_768 ≤ length buffer) {number : ℕ} {left : Text} (given : ◌≡◌ {A = ℕ × Text} (number, left) (handed_back a buffer)) where
  -- Its text fits the buffer
  fits : length (shown_text a) ≤ length buffer
  fits = omega (arith, shown_fits a is, long)

  -- The number is that of a refusal 1..13, or below 65,536
  number_low : number / 65_536 < 100
  number_low = go a is given
    where
      go : (a : Answer) → IsAnswer 13 a → ◌≡◌ {A = ℕ × Text} (number, left) (handed_back a buffer) → number / 65_536 < 100
      go (refused n l) (low, high, below) same = omega (arith, ap (λ (x : ℕ × Text). x.0) same, high, below)
      go (accepted report) fits same = omega (arith, ap (λ (x : ℕ × Text). x.0) same, fits)

  -- The buffer is as long as it was
  left_long : length left ≡ length buffer
  left_long = go a given fits
    where
      go : (a : Answer) → ◌≡◌ {A = ℕ × Text} (number, left) (handed_back a buffer) → length (shown_text a) ≤ length buffer → length left ≡ length buffer
      go (refused n l) same room = ap (λ (x : ℕ × Text). length x.1) same
      go (accepted report) same room =
          ap (λ (x : ℕ × Text). length x.1) same ∙ omega (arith, length-append report (drop (length report) buffer), length-drop (length report) buffer)

  -- So `tell` may be asked
  pub tellable : (32_768 ≤ length left) × (number / 65_536 < 100)
  tellable = (omega (arith, long, left_long), number_low)

  -- What is told by it is the answer's text, at the buffer's start
  told_shown : {next : Place} {after : Text} → Told number left next after → Wrote (shown_text a) 0 buffer next after
  told_shown {next} {after} told = go a is given
    where
      go : (a : Answer) → IsAnswer 13 a → ◌≡◌ {A = ℕ × Text} (number, left) (handed_back a buffer) → Wrote (shown_text a) 0 buffer next after
      go (refused n l) (low, high, below) same =
          let whole = ap (λ (x : ℕ × Text). x.0) same in
          let first : number / 65_536 ≡ n = omega (arith, whole, below) in
          let second : number % 65_536 ≡ l = omega (arith, whole, below) in
          let written : Wrote (refusal_line (number / 65_536) (number % 65_536)) 0 left next after = rw (le-ltb number 65_536 (omega (arith, whole, low)), Told) at told in
          rw (first, second, ap (λ (x : ℕ × Text). x.1) same) at written
      go (accepted report) fits same =
          let whole = ap (λ (x : ℕ × Text). x.0) same in
          let counted : length report ≡ 0 + length report = omega arith in
          let text : (next ≡ number) × (after ≡ left) = rw (lt-ltb number 65_536 (omega (arith, whole, fits)), Told) at told in
          (text.0 ∙ whole ∙ counted, text.1 ∙ ap (λ (x : ℕ × Text). x.1) same ∙ ap (λ (n : ℕ). report ++ drop n buffer) counted)

  -- ... and is counted in it
  pub shown : {next : Place} {after : Text} → Told number left next after → Wrote (shown_text a) 0 buffer next after × IsPrefixLen next after
  shown told = (told_shown told, counted (shown_text a) buffer _ _ fits (told_shown told))
