-- A refusal has its number.
use Rattle.std.proofs.Common.{◌≡◌, ◌≤◌, zero, suc, refl, arith}
use Rattle.paper.specs.Units.{Number}
use Rattle.answers.specs.Refusals.{number_of, refusal}

-- The refusal of a number has that number
pub number_back : (number : Number) → 1 ≤ number → number ≤ 13 → number_of (refusal number) ≡ number
number_back zero low high = absurd (omega arith)
number_back (suc zero) low high = refl
number_back (suc (suc zero)) low high = refl
number_back (suc (suc (suc zero))) low high = refl
number_back (suc (suc (suc (suc zero)))) low high = refl
number_back (suc (suc (suc (suc (suc zero))))) low high = refl
number_back (suc (suc (suc (suc (suc (suc zero)))))) low high = refl
number_back (suc (suc (suc (suc (suc (suc (suc zero))))))) low high = refl
number_back (suc (suc (suc (suc (suc (suc (suc (suc zero)))))))) low high = refl
number_back (suc (suc (suc (suc (suc (suc (suc (suc (suc zero))))))))) low high = refl
number_back (suc (suc (suc (suc (suc (suc (suc (suc (suc (suc zero)))))))))) low high = refl
number_back (suc (suc (suc (suc (suc (suc (suc (suc (suc (suc (suc zero))))))))))) low high = refl
number_back (suc (suc (suc (suc (suc (suc (suc (suc (suc (suc (suc (suc zero)))))))))))) low high = refl
number_back (suc (suc (suc (suc (suc (suc (suc (suc (suc (suc (suc (suc (suc n))))))))))))) low high = let e : n ≡ 0 = omega arith in rw e
