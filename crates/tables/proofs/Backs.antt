-- The table of C rows that keep the rules: the paper's rows are got back from it, and its classes are 1 to 40.
use Prim.Native.Nat.{ℕ}
use mathlib.Core.Bool.{true}
use mathlib.Core.List.{List, [], ◌∷◌, map}
use mathlib.Core.Option.{Option, none, some}
use mathlib.Core.Path.{◌≡◌, refl, ap₂}
use lib.Dec.{T}
use Rattle.paper.specs.Lists.{between, Each, nil, cons}
use Rattle.paper.specs.Rows as paper
use Rattle.paper.specs.Rows.{government, corporate, inflation, floating}
use Rattle.paper.specs.Refusals.{is_duration, class_kind}
use Rattle.paper.specs.Tables.{hold_down}
use Rattle.paper.proofs.Lists.{tests, within, each_first, each_rest, each_every}
use Rattle.paper.proofs.Rules.{ClassFacts, class_facts, each_holds}
use Rattle.tables.specs.Held.{held_class, class_table}
use Rattle.tables.specs.Back.{paper_class, paper_classes, ranged}

-- A C row is got back from how it is held
class_back : (c : paper.ClassRow) → T (is_duration c.kind c.border) → paper_class (held_class c) ≡ c
class_back c h = go c.kind c.border h
  where
    go : (kind : paper.Kind) (border : Option ℕ) → T (is_duration kind border)
        → paper_class (held_class (record { class = c.class; kind = kind; border = border; deposit = c.deposit }))
        ≡ record { class = c.class; kind = kind; border = border; deposit = c.deposit }
    go government (some d) h = refl
    go corporate (some d) h = refl
    go inflation none h = refl
    go floating none h = refl
    go government none h = elim h [ ]
    go corporate none h = elim h [ ]
    go inflation (some d) h = elim h [ ]
    go floating (some d) h = elim h [ ]

-- So are all
classes_back : (cs : List paper.ClassRow) → Each (λ c. T (is_duration c.kind c.border)) cs → map paper_class (map held_class cs) ≡ cs
classes_back [] each = refl
classes_back (c ∷ cs) each =
    ap₂ (λ (h : paper.ClassRow) (t : List paper.ClassRow). h ∷ t) (class_back c (each_first each)) (classes_back cs (each_rest each))

module _ (cs : List paper.ClassRow) (down : T (hold_down class_kind [] cs)) where
  -- C rows that keep the rules are those that their table stands for
  pub table_classes : paper_classes (class_table cs) ≡ cs
  table_classes = classes_back cs (each_holds class_kind (λ c. T (is_duration c.kind c.border)) (λ above c h. search tests) [] cs down)

  -- Their numbers are 1 to 40
  pub table_ranged : ranged (class_table cs) ≡ true
  table_ranged = each_every (λ c. between 1 40 c.class) (numbers cs (each_holds class_kind ClassFacts class_facts [] cs down))
    where
      numbers : (cs : List paper.ClassRow) → Each ClassFacts cs → Each (λ c. between 1 40 c.class ≡ true) (map held_class cs)
      numbers [] each = nil
      numbers (c ∷ cs) each = cons (within 1 40 c.class (each_first each).low (each_first each).high) (numbers cs (each_rest each))
