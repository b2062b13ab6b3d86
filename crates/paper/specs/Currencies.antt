-- The currencies of a sheet (01, "The sheet": at most 8; "Report": only currencies of S rows appear, rising).
use Rattle.std.specs.Prelude.{Bool, true, false, List, [], ◌∷◌}
use Rattle.paper.specs.Units.{Currency}
use Rattle.paper.specs.Lists.{given, first_that}
use Rattle.paper.specs.Text.{same, before}
use Rattle.paper.specs.Rows.{SecurityRow}

-- A currency put into its place among rising ones, where it is new
abbrev pub placed : Currency → List Currency → List Currency
placed c [] = c ∷ []
placed c (d ∷ ds) = elim (same c d) [
  | true ↦ d ∷ ds
  | false ↦ elim (before c d) [ true ↦ c ∷ d ∷ ds | false ↦ d ∷ placed c ds ]
]

-- The currencies of S rows, rising by bytes
abbrev pub currencies : List SecurityRow → List Currency
currencies [] = []
currencies (s ∷ ss) = placed s.currency (currencies ss)

-- Whether one of the S rows has a currency
abbrev pub has_currency : List SecurityRow → Currency → Bool
has_currency ss c = given (first_that (λ s. same s.currency c) ss)
