-- Laws of offsetting: what a row takes, what it leaves alone, and which rows may be swapped.
use Prim.Native.Nat.{zero, suc, ◌+◌, ◌-◌, ◌≤◌, min}
use native.Mathlib.Nat.{le_refl, le_trans}
use native.Mathlib.Omega.{arith}
use mathlib.Core.Bool.{Bool, true, false, ◌||◌, true≢false}
use mathlib.Core.List.{List, [], ◌∷◌, cons≢nil}
use mathlib.Core.Logic.{◌≢◌}
use mathlib.Core.Path.{◌≡◌, refl, sym, ap, ap₂, ◌∙◌, subst, fun_ext}
use borrow.Author.Tests.{eq-eqb}
use lib.Dec.{eqb}
use lib.ListN.{set}
use lib.Seq.{set_comm, get_or-set_other}
use Rattle.paper.specs.Units.{Class, Factor, Whole}
use Rattle.paper.specs.Lists.{sum}
use Rattle.paper.specs.Rows.{PriorityRow}
use Rattle.paper.specs.Offsetting.{Book, position, taken, less, offset, offset_row, offset_all}
use Rattle.paper.specs.Demands.{names, naming}
use Rattle.paper.proofs.Lists.{only_kept, only_left}
use Rattle.paper.proofs.Rounding.{share_below}
use Rattle.paper.proofs.Reordering.{in_turn, Reordered, Apart, same_in_turn, same_naming}

-- ---- an amount off one position

-- The position itself, with none where the class has no place
less_there : (n : Class) (amount : Whole) (ps : List Whole) → position (less n amount ps) n ≡ position ps n - amount
less_there n a [] = omega arith
less_there zero a (p ∷ ps) = refl
less_there (suc n) a (p ∷ ps) = less_there n a ps

-- Every other position stays
less_elsewhere : (n m : Class) (amount : Whole) (ps : List Whole) → m ≢ n → position (less n amount ps) m ≡ position ps m
less_elsewhere n m a ps h = get_or-set_other ps n m (position ps n - a) 0 h

-- None grows
less_lowers : (n m : Class) (amount : Whole) (ps : List Whole) → position (less n amount ps) m ≤ position ps m
less_lowers n m a [] = le_refl (position [] m)
less_lowers zero zero a (p ∷ ps) = omega arith
less_lowers zero (suc m) a (p ∷ ps) = le_refl (position ps m)
less_lowers (suc n) zero a (p ∷ ps) = le_refl p
less_lowers (suc n) (suc m) a (p ∷ ps) = less_lowers n m a ps

-- The sum falls by the amount, where that is there
less_sum : (n : Class) (amount : Whole) (ps : List Whole) → amount ≤ position ps n → sum (less n amount ps) + amount ≡ sum ps
less_sum n a [] h = omega arith
less_sum zero a (p ∷ ps) h = omega arith
less_sum (suc n) a (p ∷ ps) h = omega (arith, less_sum n a ps h)

-- Amounts off two positions, in either order
less_commutes : (n m : Class) (a c : Whole) (ps : List Whole) → n ≢ m → less m c (less n a ps) ≡ less n a (less m c ps)
less_commutes n m a c ps h =
    ap (λ (x : Whole). set (less n a ps) m (x - c)) (less_elsewhere n m a ps (λ e. h (sym e)))
    ∙ set_comm ps n m (position ps n - a) (position ps m - c) h
    ∙ ap (λ (x : Whole). set (less m c ps) n (x - a)) (sym (less_elsewhere m n c ps h))

-- ---- what a factor takes

-- No more than is there, on either side
pub taken_there : (factor : Factor) (n m : Class) (b : Book) → factor ≤ 10_000
    → (taken factor n m b ≤ position b.long n) × (taken factor n m b ≤ position b.short m)
taken_there f n m b h =
    let least = min (position b.long n) (position b.short m) in
    let within : taken f n m b ≤ least = share_below f least h in
    (omega arith, omega arith)

-- The same is taken of positions that are the same
taken_same : (factor : Factor) (n m : Class) (b c : Book) → position b.long n ≡ position c.long n
    → position b.short m ≡ position c.short m → taken factor n m b ≡ taken factor n m c
taken_same f n m b c p q = rw (p, q)

-- ---- a row

-- A row that names one class twice
pub row_one : (o : PriorityRow) (b : Book) → eqb o.first o.second ≡ true → offset_row o b ≡ offset o.factor o.first o.first b
unfolding offset_row
row_one o b e = rw (e, offset_row)

-- A row that names two classes
pub row_two : (o : PriorityRow) (b : Book) → eqb o.first o.second ≡ false
    → offset_row o b ≡ offset o.factor o.second o.first (offset o.factor o.first o.second b)
unfolding offset_row
row_two o b e = rw (e, offset_row)

-- A row names its two classes
names_first : (o : PriorityRow) → names o.first o ≡ true
names_first o = rw (eq-eqb o.first o.first refl)

names_second : (o : PriorityRow) → names o.second o ≡ true
names_second o = go (eqb o.first o.second)
  where
    go : (t : Bool) → (t || eqb o.second o.second) ≡ true
    go true = refl
    go false = eq-eqb o.second o.second refl

-- A row is one or two offsets between classes that it names: what holds of those, and of one step after another, holds of it
by_offsets : (Q : (Book → Book) → Type 0) (o : PriorityRow)
    → ((n m : Class) → names n o ≡ true → names m o ≡ true → Q (offset o.factor n m))
    → ((f g : Book → Book) → Q f → Q g → Q (λ b. g (f b)))
    → Q (offset_row o)
by_offsets Q o each join = go (eqb o.first o.second) refl
  where
    go : (t : Bool) → eqb o.first o.second ≡ t → Q (offset_row o)
    go true e = subst Q (sym (fun_ext (λ b. row_one o b e))) (each o.first o.first (names_first o) (names_first o))
    go false e =
        subst Q (sym (fun_ext (λ b. row_two o b e)))
        (join (offset o.factor o.first o.second) (offset o.factor o.second o.first)
        (each o.first o.second (names_first o) (names_second o))
        (each o.second o.first (names_second o) (names_first o)))

-- A row takes as much off the longs as off the shorts: the sums before and after, crosswise
pub row_conserves : (o : PriorityRow) → o.factor ≤ 10_000 → (b : Book)
    → sum b.long + sum (offset_row o b).short ≡ sum b.short + sum (offset_row o b).long
row_conserves o h =
    by_offsets (λ f. (b : Book) → sum b.long + sum (f b).short ≡ sum b.short + sum (f b).long) o
    (λ n m t u b.
    let a = taken o.factor n m b in
    let there = taken_there o.factor n m b h in
    omega (arith, less_sum n a b.long there.0, less_sum m a b.short there.1))
    (λ f g p q b. omega (arith, p b, q (f b)))

-- A row lets no position grow
pub row_lowers : (o : PriorityRow) (b : Book) (n : Class)
    → (position (offset_row o b).long n ≤ position b.long n) × (position (offset_row o b).short n ≤ position b.short n)
row_lowers o b n =
    by_offsets
    (λ f. (b : Book) → (position (f b).long n ≤ position b.long n) × (position (f b).short n ≤ position b.short n)) o
    (λ k m t u b.
    let a = taken o.factor k m b in
    (less_lowers k n a b.long, less_lowers m n a b.short))
    (λ f g p q b. (le_trans (q (f b)).0 (p b).0, le_trans (q (f b)).1 (p b).1))
    b

-- Whoever names one class and not another: the two differ
differ : (o : PriorityRow) (n m : Class) → names n o ≡ true → names m o ≡ false → n ≢ m
differ o n m t f e = true≢false (sym t ∙ ap (λ (k : Class). names k o) e ∙ f)

-- A row leaves the positions of a class that it does not name
pub row_keeps : (o : PriorityRow) (b : Book) (n : Class) → names n o ≡ false
    → (position (offset_row o b).long n ≡ position b.long n) × (position (offset_row o b).short n ≡ position b.short n)
row_keeps o b n out =
    by_offsets
    (λ f. (b : Book) → (position (f b).long n ≡ position b.long n) × (position (f b).short n ≡ position b.short n)) o
    (λ k m t u b.
    let a = taken o.factor k m b in
    (less_elsewhere k n a b.long (λ e. differ o k n t out (sym e)), less_elsewhere m n a b.short (λ e. differ o m n u out (sym e))))
    (λ f g p q b. ((q (f b)).0 ∙ (p b).0, (q (f b)).1 ∙ (p b).1))
    b

-- ---- two rows

-- Offsets of other longs and other shorts commute
offsets_commute : (f g : Factor) (n m p q : Class) → n ≢ p → m ≢ q → (b : Book)
    → offset f n m (offset g p q b) ≡ offset g p q (offset f n m b)
offsets_commute f g n m p q h k b =
    let a = taken f n m b in
    let c = taken g p q b in
    let first : taken f n m (offset g p q b) ≡ a =
    taken_same f n m (offset g p q b) b (less_elsewhere p n c b.long h) (less_elsewhere q m c b.short k)
    in
    let second : taken g p q (offset f n m b) ≡ c =
    taken_same g p q (offset f n m b) b (less_elsewhere n p a b.long (λ e. h (sym e)))
    (less_elsewhere m q a b.short (λ e. k (sym e)))
    in
    ap (λ (x : Whole). book (less n x (less p c b.long)) (less m x (less q c b.short))) first
    ∙ ap₂ book (less_commutes p n c a b.long (λ e. h (sym e))) (less_commutes q m c a b.short (λ e. k (sym e)))
    ∙ sym (ap (λ (x : Whole). book (less p x (less n a b.long)) (less q x (less m a b.short))) second)
  where
    book : List Whole → List Whole → Book
    book long short = record { long = long; short = short }

-- What commutes with each of two steps commutes with both in turn
both_commute : (h f g : Book → Book) → ((b : Book) → f (h b) ≡ h (f b)) → ((b : Book) → g (h b) ≡ h (g b)) → (b : Book)
    → g (f (h b)) ≡ h (g (f b))
both_commute h f g p q b = ap g (p b) ∙ q (f b)

-- Rows that name no class in common commute
pub rows_commute : (o r : PriorityRow) → ((n : Class) → names n o ≡ true → names n r ≡ false) → (b : Book)
    → offset_row r (offset_row o b) ≡ offset_row o (offset_row r b)
rows_commute o r apart =
    by_offsets (λ f. (b : Book) → f (offset_row o b) ≡ offset_row o (f b)) r
    (λ p q t u b.
    sym (by_offsets (λ f. (b : Book) → f (offset r.factor p q b) ≡ offset r.factor p q (f b)) o
    (λ n m v w. offsets_commute o.factor r.factor n m p q (apart_differ n p v t) (apart_differ m q w u))
    (both_commute (offset r.factor p q)) b))
    (both_commute (offset_row o))
  where
    apart_differ : (n p : Class) → names n o ≡ true → names p r ≡ true → n ≢ p
    apart_differ n p v t e = differ r p n t (apart n v) (sym e)

-- ---- all rows

-- All rows let no position grow
pub rows_lower : (os : List PriorityRow) (b : Book) (n : Class)
    → (position (offset_all os b).long n ≤ position b.long n) × (position (offset_all os b).short n ≤ position b.short n)
unfolding offset_all
rows_lower [] b n = (le_refl (position b.long n), le_refl (position b.short n))
rows_lower (o ∷ os) b n =
    let rest = rows_lower os (offset_row o b) n in
    let here = row_lowers o b n in
    (le_trans rest.0 here.0, le_trans rest.1 here.1)

-- A class that no row names keeps both its positions
pub rows_keep : (os : List PriorityRow) (b : Book) (n : Class) → naming n os ≡ []
    → (position (offset_all os b).long n ≡ position b.long n) × (position (offset_all os b).short n ≡ position b.short n)
unfolding offset_all
rows_keep [] b n none = (refl, refl)
rows_keep (o ∷ os) b n none = go (names n o) refl (rows_keep os (offset_row o b) n)
  where
    go : (t : Bool) → names n o ≡ t
        → (naming n os ≡ []
        → (position (offset_all os (offset_row o b)).long n ≡ position (offset_row o b).long n)
        × (position (offset_all os (offset_row o b)).short n ≡ position (offset_row o b).short n))
        → (position (offset_all os (offset_row o b)).long n ≡ position b.long n)
        × (position (offset_all os (offset_row o b)).short n ≡ position b.short n)
    go true t rest = absurd (cons≢nil (sym (only_kept (names n) o os t) ∙ none))
    go false t rest =
        let later = rest (sym (only_left (names n) o os t) ∙ none) in
        let here = row_keeps o b n t in
        (later.0 ∙ here.0, later.1 ∙ here.1)

-- Priority lists in which each class meets the same rows in the same order are one list in another order
pub rows_reordered : (os rs : List PriorityRow) → ((n : Class) → naming n os ≡ naming n rs) → Reordered (Apart names) os rs
rows_reordered os rs same = same_naming names (λ o. (o.first, names_first o)) os rs same

-- What all rows leave is what they leave one after the other
in_turn_lem : (os : List PriorityRow) (b : Book) → offset_all os b ≡ in_turn offset_row os b
unfolding offset_all
in_turn_lem [] b = refl
in_turn_lem (o ∷ os) b = in_turn_lem os (offset_row o b)

-- They leave the same positions
pub same_offsets : (os rs : List PriorityRow) → Reordered (Apart names) os rs → (b : Book) → offset_all os b ≡ offset_all rs b
same_offsets os rs r b = in_turn_lem os b ∙ same_in_turn (Apart names) offset_row rows_commute r b ∙ sym (in_turn_lem rs b)
