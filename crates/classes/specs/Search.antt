-- The class of a security, looked for among the C rows of a table.
use Rattle.std.specs.Prelude.{ℕ, Bool, ◌&&◌, List, eqb, leb, Option, option_map}
use Rattle.std.specs.List.{find}
use Rattle.paper.specs.Units.{Class, Duration}
use Rattle.tables.specs.Numbers.{kind_number}
use Rattle.tables.specs.Back.{kind_of}
use Rattle.tables.specs.declared.ClassRow.{ClassRow}

-- Whether a row is of a kind, by its number, and has a border that is not below a duration
abbrev pub suits : ℕ → Duration → ClassRow → Bool
suits kind duration c = eqb (kind_number (kind_of c.kind)) kind && leb duration c.border

-- The number of the first class that does (01, "Class")
abbrev pub class_in : List ClassRow → ℕ → Duration → Option Class
class_in cs kind duration = option_map (λ c. c.class) (find (suits kind duration) cs)
