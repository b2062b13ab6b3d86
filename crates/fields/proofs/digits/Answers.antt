-- `fields::digits` meets its contract. The loop's invariant: the bytes that are left, read on from `n`, make the number, and whether
-- all are digits is whether those are.
use Prim.Native.Nat.{ℕ, ◌+◌, ◌-◌, ◌*◌, ◌^◌, ◌≤◌, ◌<◌}
use native.Mathlib.Nat.{pow-succ', pow-le-pow_right, lt_of_lt_of_le}
use native.Mathlib.Numerals.{add-one}
use native.Mathlib.Omega.{arith}
use mathlib.Core.Bool.{true, false}
use mathlib.Core.List.{[]}
use mathlib.Core.Path.{◌≡◌, sym, ap, ◌∙◌}
use lib.Dec.{lit<}
use lib.ListN.{length, get_or, drop, drop_of_length-le}
use Rattle.std.specs.Prelude.{None, Some}
use Rattle.std.proofs.lemmas.List.{drop_more}
use Rattle.answers.specs.Options.{answer}
use Rattle.paper.specs.Units.{Text}
use Rattle.paper.specs.Lists.{every}
use Rattle.paper.specs.Text.{is_digit, decimal}
use Rattle.paper.proofs.Lists.{bounds}
use Rattle.fields.specs.Values.{digits_in}
use Rattle.fields.proofs.digits.Invariants.{Read}
use Rattle.fields.proofs.digits.Goals as goal

module _ (t : Text) (few : length t ≤ 19) (n i : ℕ) (r : Read t n i) where
  -- All digits
  done : length t ≤ i → Some n ≡ answer (digits_in t)
  done h =
      let none : drop i t ≡ [] = drop_of_length-le t {i = i} h in
      let good : every is_digit t ≡ true = r.tests ∙ ap (every is_digit) none in
      sym (rw (good, r.number, none))

  module _ (h : i < length t) where
    -- The number before another digit
    limit : n < 10 ^ 18
    limit = let most : i ≤ 18 = omega arith in lt_of_lt_of_le r.small (pow-le-pow_right (lit< tt) most)

    -- Another byte
    spoilt : is_digit (get_or t i 0) ≡ false → None ≡ answer (digits_in t)
    spoilt e = let bad : every is_digit t ≡ false = r.tests ∙ ap (every is_digit) (drop_more t i 0 h) ∙ rw (e, every) in sym (rw bad)

    -- A digit more
    step : is_digit (get_or t i 0) ≡ true → (digit : ℕ) → digit ≡ get_or t i 0 - 48 → Read t (10 * n + digit) (i + 1)
    step e digit is =
        let d = bounds 48 57 (get_or t i 0) e in
        record {
          small = rw (add-one i, pow-succ' 10 i) (omega (arith, r.small));
          number = r.number ∙ ap (decimal n) (drop_more t i 0 h) ∙ rw is;
          tests = r.tests ∙ ap (every is_digit) (drop_more t i 0 h) ∙ rw (e, every);
        }

pub returns-then-not-is_ascii_digit : goal.returns-then-not-is_ascii_digit
returns-then-not-is_ascii_digit c =
    let l = c.loop-b in
    spoilt c.args.text.now c.requires l.n l.b-index l.invariant c.loop-b-test.true
    (sym c.is_ascii_digit.ensures.value ∙ c.if-not-is_ascii_digit.true)

pub overflow_mul-n : goal.overflow_mul-n
overflow_mul-n c = let l = c.loop-b in omega (arith, limit c.args.text.now c.requires l.n l.b-index l.invariant c.loop-b-test.true)

pub overflow_add-n : goal.overflow_add-n
overflow_add-n c =
    let l = c.loop-b in
    let digit = sym c.is_ascii_digit.ensures.value ∙ c.if-not-is_ascii_digit.false in
    omega (
      arith,
      limit c.args.text.now c.requires l.n l.b-index l.invariant c.loop-b-test.true,
      c.from.ensures,
      bounds 48 57 (get_or c.args.text.now l.b-index 0) digit,
    )

pub loop-b-preserved : goal.loop-b-preserved
loop-b-preserved c =
    let l = c.loop-b in
    let digit = sym c.is_ascii_digit.ensures.value ∙ c.if-not-is_ascii_digit.false in
    step c.args.text.now c.requires l.n l.b-index l.invariant c.loop-b-test.true digit c.from.result c.from.ensures

pub returns : goal.returns
returns c = let l = c.loop-b in done c.args.text.now c.requires l.n l.b-index l.invariant c.loop-b-test.false
