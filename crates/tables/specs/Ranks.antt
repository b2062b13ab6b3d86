-- Where a code or a currency stands among rising ones, by its number.
use Rattle.std.specs.Prelude.{ℕ, suc, ◌≤◌, ◌<◌, true, false, List, [], ◌∷◌, ◌≡◌, eqb, ltb, length, get_or, Option, Result, Ok, Err}
use Rattle.std.specs.Bool.{then_some}
use Rattle.std.specs.List.{insert}
use Rattle.arrayvec.specs.ArrayVec.{ArrayVec}
use Rattle.tables.specs.Numbers.{highest, number_place}

-- The first so many of 256 codes rise, below the highest number, which stands behind them
pub record Searchable (codes : List ℕ) (count : ℕ) : Type 0 where
  pub rise : (i j : ℕ) → i < j → j < count → get_or codes i 0 < get_or codes j 0
  pub low : (i : ℕ) → i < count → get_or codes i 0 < highest
  pub rest : (i : ℕ) → count ≤ i → i < 256 → get_or codes i 0 ≡ highest

-- The place of a number among numbers, where it is there
abbrev pub found_place : List ℕ → ℕ → Option ℕ
found_place ns n = then_some (ltb (number_place ns n) (length ns)) (number_place ns n)

-- One place further on
abbrev pub one_further : Result ℕ ℕ → Result ℕ ℕ
one_further (Ok rank) = Ok (suc rank)
one_further (Err rank) = Err (suc rank)

-- Where a currency's number stands among rising ones, or, as an error, would stand
abbrev pub ranked_of : List ℕ → ℕ → Result ℕ ℕ
ranked_of [] own = Err 0
ranked_of (n ∷ ns) own =
    elim (eqb n own) [ true ↦ Ok 0 | false ↦ elim (ltb n own) [ true ↦ one_further (ranked_of ns own) | false ↦ Err 0 ] ]

-- The rank, whether it stands there or would
abbrev pub rank_of : Result ℕ ℕ → ℕ
rank_of (Ok rank) = rank
rank_of (Err rank) = rank

-- Currencies with one more at a rank
abbrev pub inserted_at : ArrayVec ℕ → ℕ → ℕ → ArrayVec ℕ
inserted_at c rank own = record { items = insert c.items rank own }
