-- Rounding (01, "Units"; 02, f): to the nearest, halves away from zero, once, after all multiplying.
-- What is divided has the unit of the quotient times that of the divisor; so have the remainder, and what is missing to the
-- next whole quotient.
use Rattle.std.specs.Prelude.{ℕ, suc, ◌+◌, ◌-◌, ◌/◌, ◌%◌, true, false, eqb, ltb, ℤ, pos, negsuc, neg_ℤ}

-- How a remainder stands to half of its divisor
pub data Half : Type 0 where
  less_than_half : Half
  tie : Half
  more_than_half : Half

-- A remainder is less than half of its divisor where it is less than what is missing to the whole, and as much is the tie
abbrev pub by_half : ℕ → ℕ → Half
by_half remainder divisor =
    let missing = divisor - remainder in
    elim (ltb remainder missing) [
      | true ↦ less_than_half
      | false ↦ elim (eqb remainder missing) [ true ↦ tie | false ↦ more_than_half ]
    ]

-- Rounded, not below zero
unfoldable pub nearest : ℕ → ℕ → ℕ
nearest product divisor =
    let quotient = product / divisor in
    elim (by_half (product % divisor) divisor) [
      | less_than_half ↦ quotient
      | tie ↦ quotient + 1  -- up
      | more_than_half ↦ quotient + 1
    ]

-- Rounded, signed: below zero the size is divided, and the sign put back
unfoldable pub rounded : ℤ → ℕ → ℤ
rounded (pos product) divisor = pos (nearest product divisor)
rounded (negsuc less) divisor =
    let size = suc less in
    let quotient = size / divisor in
    elim (by_half (size % divisor) divisor) [
      | less_than_half ↦ neg_ℤ (pos quotient)
      | tie ↦ neg_ℤ (pos (quotient + 1))  -- down, away from zero
      | more_than_half ↦ neg_ℤ (pos (quotient + 1))
    ]
