-- The trades of a sheet, valued and summed by security and by currency, as the code holds them.
use Rattle.std.specs.Prelude.{ℕ, ◌<◌, true, List, [], ◌∷◌, map, ◌≡◌, pos, ◌+ℤ◌, get_or, set, replicate}
use Rattle.tables.specs.Padded.{padded}
use Rattle.tables.specs.Blanks.{no_security}
use Rattle.tables.specs.declared.Security.{Security}
use Rattle.tables.specs.declared.Trade.{Trade}
use Rattle.valuation.specs.Valued.{Ranged, Quoted, value_of}
use Rattle.valuation.specs.declared.Valued.{Valued}
use Rattle.margin.specs.declared.Sums.{Sums}

-- Amounts summed by their keys: at each place below a size, the sum of the amounts whose key it is, of one unit
abbrev pub gathered : {A M N : Type 0} → (M → N → N) → N → ℕ → (A → ℕ) → (A → M) → List A → List N
gathered plus zero size key amount [] = replicate size zero
gathered plus zero size key amount (a ∷ rest) =
    let sums = gathered plus zero size key amount rest in
    set sums (key a) (plus (amount a) (get_or sums (key a) zero))

-- The security of a trade, by its place
abbrev pub security_in : List Security → Trade → Security
security_in ss t = get_or ss t.security no_security

-- The figures of a trade, both in cents
abbrev pub value_in : List Security → Trade → Valued
value_in ss t = value_of t (security_in ss t)

-- The mark-to-market of each trade, the worths of each security and the mark-to-market of each currency: cents
abbrev pub sums_of : List Security → List Trade → Sums
sums_of ss ts =
    record {
      marks = padded 500 (pos 0) (map (λ t. (value_in ss t).mark) ts);
      worths = gathered ◌+ℤ◌ (pos 0) 200 (λ t. t.security) (λ t. (value_in ss t).worth) ts;
      totals = gathered ◌+ℤ◌ (pos 0) 8 (λ t. (security_in ss t).currency) (λ t. (value_in ss t).mark) ts;
    }

-- A trade whose security and currency have a place, within the ranges of the rules where it is margined
pub record Placed (ss : List Security) (t : Trade) : Type 0 where
  pub security : t.security < 200
  pub currency : (security_in ss t).currency < 8
  pub ranged : t.margined ≡ true → Ranged t × Quoted (security_in ss t) t.accrual
