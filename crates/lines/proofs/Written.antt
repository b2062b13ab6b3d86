-- Texts written one behind the other are one text written, and so are the fields of a line.
use Prim.Native.Nat.{ℕ, suc, ◌+◌, ◌≤◌}
use native.Mathlib.Nat.{add-zero, add_assoc}
use native.Mathlib.Omega.{arith}
use mathlib.Core.List.{[], ◌∷◌, ◌++◌, append_assoc}
use mathlib.Core.Path.{◌≡◌, refl, sym, ap, ap₂, ◌∙◌}
use lib.ListN.{length, get_or, set, take, drop, take-append-drop, length-append, length-drop}
use lib.Seq.{length-take-le, take-suc, set_at, take_at, drop_at, drop-drop}
use Rattle.paper.specs.Units.{Byte, Text, Fields}
use Rattle.paper.specs.Text.{semicolon, line_of}
use Rattle.lines.specs.Written.{Place, written, Wrote}

-- No text leaves all as it was
pub none_written : (at : Place) (b : Text) → Wrote [] at b at b
none_written at b = rw add-zero (refl, sym (take-append-drop at b))

-- A text that fits leaves a buffer as long as it was
pub written_length : (t : Text) (at : Place) (b : Text) → at + length t ≤ length b → length (written t at b) ≡ length b
written_length t at b fits = simp (length-append, length-drop, length-take-le at b (omega arith)) (omega arith)

-- A text written behind another is the two written as one
pub written_on : (t u : Text) (at : Place) (b : Text) → at + length t ≤ length b
    → written u (at + length t) (written t at b) ≡ written (t ++ u) at b
written_on t u at b fits =
    let next = at + length t in
    let head = take at b ++ t in
    let tail = drop next b in
    let split : written t at b ≡ head ++ tail = sym (append_assoc (take at b) t tail) in
    let size : length head ≡ next =
    length-append (take at b) t ∙ ap (λ (n : ℕ). n + length t) (length-take-le at b (omega arith)) in
    rw (
      split,
      take_at head tail next size,
      ← (drop-drop (length u) next (head ++ tail)),
      drop_at head tail next size,
      drop-drop (length u) next b,
      length-append,
      ← (add_assoc at (length t) (length u)),
    )
    (simp append_assoc)

-- A byte set before a text that is written is one byte more written
pub written_before : (x : Byte) (t : Text) (at : Place) (b : Text) → at + suc (length t) ≤ length b
    → set (written t (suc at) b) at x ≡ written (x ∷ t) at b
written_before x t at b fits =
    let next : suc at + length t ≡ at + suc (length t) = omega arith in
    rw (take-suc b at 0 (omega arith), append_assoc (take at b) (get_or b at 0 ∷ []) (t ++ drop (suc at + length t) b), next)
    (set_at (take at b) (get_or b at 0) (t ++ drop (at + suc (length t)) b) x at (length-take-le at b (omega arith)))

-- A text in two parts
pub record Parts (whole t u : Text) : Type 0 where
  pub are : whole ≡ t ++ u

pub parts : (t u : Text) → Parts (t ++ u) t u
parts t u = record { are = refl }

-- ... that fits
module _ {whole t u : Text} (p : Parts whole t u) (at : Place) (b : Text) (fits : at + length whole ≤ length b) where
  -- The first part does
  pub front : at + length t ≤ length b
  front = omega (arith, ap length p.are, length-append t u)

  module _ {next : Place} {after : Text} (w : Wrote t at b next after) where
    -- The second fits behind it
    pub room : next + length u ≤ length after
    room = omega (arith, ap length p.are, length-append t u, ap length w.1 ∙ written_length t at b front)

    -- And written there, it makes the text whole
    pub joined : {last : Place} {end : Text} → Wrote u next after last end → Wrote whole at b last end
    joined v = rw p.are (omega (arith, length-append t u), v.1 ∙ ap₂ (written u) w.0 w.1 ∙ written_on t u at b front)

-- A line of several fields is the first of them with `;`, then the line of the others
line_first : (f g : Text) (fs : Fields) → Parts (line_of (f ∷ g ∷ fs)) (f ++ (semicolon ∷ [])) (line_of (g ∷ fs))
line_first f g fs = record { are = simp append_assoc }

-- Of a line that goes to a place of a buffer, the fields still to be written, and where: they fit, and make the line whole
pub record Left (line : Text) (at : Place) (b : Text) (fields : Fields) (next : Place) (after : Text) : Type 0 where
  pub fits : next + length (line_of fields) ≤ length after
  pub whole : {last : Place} {end : Text} → Wrote (line_of fields) next after last end → Wrote line at b last end

-- At first all of them
pub all_left : (fields : Fields) (at : Place) (b : Text) → at + length (line_of fields) ≤ length b
    → Left (line_of fields) at b fields at b
all_left fields at b h = record { fits = h; whole = λ w. w }

module _ {line : Text} {at : Place} {b f g : Text} {fs : Fields} {next : Place} {after : Text} (l : Left line at b (f ∷ g ∷ fs) next after) where
  -- The first fits with its `;`
  pub field_fits : next + length (f ++ (semicolon ∷ [])) ≤ length after
  field_fits = front (line_first f g fs) next after l.fits

  -- Once it is written, the others are left
  pub others_left : {last : Place} {end : Text} → Wrote (f ++ (semicolon ∷ [])) next after last end → Left line at b (g ∷ fs) last end
  others_left w =
      record {
        fits = room (line_first f g fs) next after l.fits w;
        whole = λ v. l.whole (joined (line_first f g fs) next after l.fits w v);
      }
