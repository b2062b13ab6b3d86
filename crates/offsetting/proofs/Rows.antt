-- Offsetting row by row: what an offset leaves of the bounds on positions, and what one row more does.
use Prim.Native.Nat.{ℕ, zero, suc, ◌-◌, ◌<◌}
use native.Mathlib.Nat.{not-suc-le-zero, le_of_suc-le-suc}
use native.Mathlib.Omega.{arith}
use mathlib.Core.List.{List, [], ◌∷◌, map}
use mathlib.Core.Path.{◌≡◌, refl}
use lib.ListN.{length, get_or, take}
use Rattle.paper.specs.Units.{Class, Factor}
use Rattle.paper.specs.Offsetting.{Book, position, taken, offset, offset_row, offset_all}
use Rattle.paper.specs.Bounds.{most_position, BookFacts}
use Rattle.paper.proofs.Lists.{set_most}
use Rattle.tables.specs.declared.PriorityRow.{PriorityRow}
use Rattle.offsetting.specs.Books.{row_of}

-- An offset keeps every position within its bound, whole units
pub offset_most : (factor : Factor) (n m : Class) (b : Book) → BookFacts b → BookFacts (offset factor n m b)
offset_most factor n m b f =
    let amount = taken factor n m b in
    record {
      long = λ k. set_most most_position b.long n (position b.long n - amount) k (f.long k) (omega (arith, f.long n));
      short = λ k. set_most most_position b.short m (position b.short m - amount) k (f.short k) (omega (arith, f.short m));
    }

-- The rows up to one more: that row, from what those before it left
pub row_more : (rows : List PriorityRow) (i : ℕ) (other : PriorityRow) (b : Book) → i < length rows
    → offset_row (row_of (get_or rows i other)) (offset_all (map row_of (take i rows)) b) ≡ offset_all (map row_of (take (suc i) rows)) b
unfolding offset_all
row_more [] i other b h = absurd (not-suc-le-zero h)
row_more (r ∷ rows) zero other b h = refl
row_more (r ∷ rows) (suc i) other b h = row_more rows i other (offset_row (row_of r) b) (le_of_suc-le-suc h)
