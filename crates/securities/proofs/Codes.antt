-- The number of a code is above 0.
use Prim.Native.Nat.{◌+◌, ◌-◌, ◌*◌, ◌<◌}
use native.Mathlib.Omega.{arith}
use mathlib.Core.Bool.{true}
use mathlib.Core.List.{[], ◌∷◌}
use mathlib.Core.Path.{◌≡◌}
use lib.ListN.{take}
use Rattle.paper.specs.Units.{Text, Code}
use Rattle.paper.specs.Lists.{every}
use Rattle.paper.specs.Text.{is_letter, is_code}
use Rattle.paper.proofs.Lists.{bounds, every_cons}
use Rattle.paper.proofs.Fields.{code_form, code_parts}
use Rattle.tables.specs.Numbers.{code_number}
use Rattle.tables.proofs.Numbers.{Coded, more, code_coded, code_grows}

-- A code's number is above 0: it starts with a letter
pub code_positive : (t : Code) → is_code t ≡ true → 0 < code_number t
code_positive t h = go (code_coded t h) (code_parts t (code_form t h)).letters
  where
    go : {t : Text} → Coded 10 11 t → every is_letter (take 2 t) ≡ true → 0 < code_number t
    go (more {b} {c} p q r) letters =
        let first = bounds 65 90 b (every_cons is_letter b (c ∷ []) letters).0 in
        omega (arith, code_grows (43 * 0 + (b - 48)) r)
