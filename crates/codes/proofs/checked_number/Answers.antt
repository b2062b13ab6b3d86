-- `codes::checked_number` meets its contract. The loop's invariant: the bytes that are left, read on from the number and the
-- two sums so far, give the answer. The number is below a power of 43, and no sum above 18 for each byte, so that nothing
-- overflows.
use Prim.Native.Nat.{ℕ, ◌+◌, ◌-◌, ◌*◌, ◌/◌, ◌%◌, ◌≤◌, ◌<◌}
use native.Mathlib.Omega.{arith}
use mathlib.Core.Bool.{true, false}
use mathlib.Core.Path.{◌≡◌, sym, ap, ◌∙◌}
use borrow.Author.Rules.{rules}
use borrow.Author.Tests.{lt-leb, le-leb}
use lib.Dec.{eqb}
use lib.ListN.{length, get_or, take}
use lib.Seq.{get_or-take, length-take-le}
use Rattle.std.specs.Prelude.{None}
use Rattle.std.specs.Bool.{then_some}
use Rattle.std.proofs.lemmas.Grind.{common_steps}
use Rattle.answers.specs.Options.{answer}
use Rattle.paper.specs.Units.{Byte, Text}
use Rattle.paper.specs.Lists.{between}
use Rattle.paper.specs.Text.{is_digit, is_letter}
use Rattle.paper.proofs.Lists.{bounds}
use Rattle.codes.specs.Counts.{counts_table, checked_in}
use Rattle.codes.proofs.Checks.{Read, Moved, its, outside, unlisted, room, start, stopped, next, ended, answer_when}
use Rattle.codes.proofs.checked_number.Goals as goal
use Rattle.codes.proofs.checked_number.Goals.{then-b-lt65, else-b-lt65}

-- How a letter and a digit find the sums
moved_letter : (b counts moved : ℕ) → between 48 90 b ≡ true → 65 ≤ b → moved ≡ counts → Moved b counts moved
moved_letter b counts moved h far e =
    let d = bounds 48 90 b h in
    let letter : is_letter b ≡ true = simp (le-leb 65 b far, le-leb b 90 d.1) in
    rw letter (e ∙ omega arith)

moved_digit : (b counts moved : ℕ) → b < 65 → moved ≡ counts / 256 + 256 * (counts % 256) → Moved b counts moved
moved_digit b counts moved near e = let letter : is_letter b ≡ false = simp (lt-leb 65 b near) in rw letter e

-- A byte of the eleven
module _ (t : Text) (twelve : length t ≡ 12) (n counts i : ℕ) (more : i < length (take 11 t)) (r : Read t n counts i) where
  abbrev byte : Byte
  byte = get_or (take 11 t) i 0

  few : i < 11
  few = omega (arith, length-take-le 11 t (omega arith))

  here : byte ≡ get_or t i 0
  here = get_or-take 11 t i 0 few

  -- One that no code has
  no_code : between 48 90 byte ≡ false → None ≡ answer (checked_in t)
  no_code h = sym (ap answer (stopped t twelve n counts i byte few here r (outside byte h)))

  module _ (within : between 48 90 byte ≡ true) (place : ℕ) (is : place ≡ byte - 48) where
    told : get_or counts_table place 0 ≡ get_or counts_table (byte - 48) 0
    told = ap (λ (k : ℕ). get_or counts_table k 0) is

    not_listed : get_or counts_table place 0 ≡ 65535 → None ≡ answer (checked_in t)
    not_listed h = sym (ap answer (stopped t twelve n counts i byte few here r (unlisted byte (get_or counts_table place 0) within told h)))

    -- One that is taken
    again : (get_or counts_table place 0 ≡ 65535 → ⊥) → (digit moved : ℕ) → digit ≡ byte - 48 → Moved byte counts moved
        → Read t (43 * n + digit) (moved + get_or counts_table place 0) (i + 1)
    again listed digit moved e m =
        let w = its byte (get_or counts_table place 0) within told listed in
        rw (e, w.1) (next t twelve n counts i byte moved few here r w.0 within m)

pub loop-b-init : goal.loop-b-init
loop-b-init c = start c.args.text.now c.requires

pub returns-then-not-contains : goal.returns-then-not-contains
returns-then-not-contains c =
    let l = c.loop-b in
    no_code c.args.text.now c.requires l.n l.counts l.b-index c.loop-b-test.true l.invariant (grind (arith, common_steps))

pub returns-then-more : goal.returns-then-more
unfolding counts_table
returns-then-more c =
    let l = c.loop-b in
    not_listed c.args.text.now c.requires l.n l.counts l.b-index c.loop-b-test.true l.invariant (search rules) c.from.result c.from.ensures c.if-more.true

pub overflow_mul-n : goal.overflow_mul-n
overflow_mul-n c =
    let l = c.loop-b in
    omega (arith, room l.n l.b-index l.invariant.small (few c.args.text.now c.requires l.n l.counts l.b-index c.loop-b-test.true l.invariant))

pub overflow_add-n : goal.overflow_add-n
overflow_add-n c =
    let l = c.loop-b in
    let within : between 48 90 (get_or (take 11 c.args.text.now) l.b-index 0) ≡ true = search rules in
    omega (
      arith,
      room l.n l.b-index l.invariant.small (few c.args.text.now c.requires l.n l.counts l.b-index c.loop-b-test.true l.invariant),
      c.from-in-loop-b.ensures,
      bounds 48 90 (get_or (take 11 c.args.text.now) l.b-index 0) within,
    )

pub overflow_add-counts : goal.overflow_add-counts
unfolding counts_table
overflow_add-counts c =
    let l = c.loop-b in
    let t = c.args.text.now in
    let within : between 48 90 (get_or (take 11 t) l.b-index 0) ≡ true = search rules in
    let read = again t c.requires l.n l.counts l.b-index c.loop-b-test.true l.invariant within c.from.result c.from.ensures c.if-more.false c.from-in-loop-b.result c.if-b-lt65.moved c.from-in-loop-b.ensures
    (elim c.if-b-lt65.branch [
      | then-b-lt65 m ↦ moved_digit _ l.counts c.if-b-lt65.moved m.if-b-lt65.true m.moved-is
      | else-b-lt65 m ↦ moved_letter _ l.counts c.if-b-lt65.moved within m.if-b-lt65.false m.moved-is
    ]) in
    omega (arith, read.twice, few t c.requires l.n l.counts l.b-index c.loop-b-test.true l.invariant)

pub loop-b-preserved : goal.loop-b-preserved
unfolding counts_table
loop-b-preserved c =
    let l = c.loop-b in
    let t = c.args.text.now in
    let within : between 48 90 (get_or (take 11 t) l.b-index 0) ≡ true = search rules in
    again t c.requires l.n l.counts l.b-index c.loop-b-test.true l.invariant within c.from.result c.from.ensures c.if-more.false c.from-in-loop-b.result c.if-b-lt65.moved c.from-in-loop-b.ensures
    (elim c.if-b-lt65.branch [
      | then-b-lt65 m ↦ moved_digit _ l.counts c.if-b-lt65.moved m.if-b-lt65.true m.moved-is
      | else-b-lt65 m ↦ moved_letter _ l.counts c.if-b-lt65.moved within m.if-b-lt65.false m.moved-is
    ])

-- The eleven read
module _ (t : Text) (twelve : length t ≡ 12) (n counts i : ℕ) (all : length (take 11 t) ≤ i) (no_more : i ≤ length (take 11 t)) (r : Read t n counts i) where
  last : Read t n counts 11
  last =
      let eleven : i ≡ 11 = omega (arith, length-take-le 11 t (omega arith)) in
      rw eleven at r

  -- The last byte is no digit
  no_digit : is_digit (get_or t 11 0) ≡ false → None ≡ answer (checked_in t)
  no_digit h = sym (rw (ended t twelve n counts last, h))

  -- It is one
  checked : is_digit (get_or t 11 0) ≡ true → (digit again : ℕ) → digit ≡ get_or t 11 0 - 48 → again ≡ get_or t 11 0 - 48
      → then_some (eqb ((counts / 256 + digit) % 10) 0) (10 * n + again) ≡ answer (checked_in t)
  checked h digit again d e =
      rw (ended t twelve n counts last, h, d, e) (sym (answer_when (eqb ((counts / 256 + (get_or t 11 0 - 48)) % 10) 0) (10 * n + (get_or t 11 0 - 48))))

pub returns-then-not-is_ascii_digit : goal.returns-then-not-is_ascii_digit
returns-then-not-is_ascii_digit c =
    let l = c.loop-b in
    let other = sym c.is_ascii_digit.ensures.value ∙ c.if-not-is_ascii_digit.true in
    no_digit c.args.text.now c.requires l.n l.counts l.b-index c.loop-b-test.false l.auto.b-index-end l.invariant other

pub returns : goal.returns
returns c =
    let l = c.loop-b in
    let digit = sym c.is_ascii_digit.ensures.value ∙ c.if-not-is_ascii_digit.false in
    c.then_some.ensures
    ∙ checked c.args.text.now c.requires l.n l.counts l.b-index c.loop-b-test.false l.auto.b-index-end l.invariant digit c.from-2.result c.from-3.result c.from-2.ensures c.from-3.ensures
