-- What is seen of the rows above judges a row as all of them do: classes rise, and so do the borders of one kind, so that
-- the last class and the last border of a kind are the highest.
use Prim.Native.Nat.{ℕ, ◌+◌, ◌≤◌, ◌<◌}
use native.Mathlib.Numerals.{add-one}
use native.Mathlib.Omega.{arith}
use mathlib.Core.Bool.{Bool, true, false, not, ◌&&◌, ◌||◌, true≢false}
use mathlib.Core.List.{List, [], ◌∷◌}
use mathlib.Core.Option
use mathlib.Core.Option.{Option, none, some, some-injective}
use mathlib.Core.Path.{◌≡◌, refl, sym, ap, ◌∙◌}
use borrow.Author.Tests.{ltb-true, leb-true, lt-ltb, le-leb}
use lib.Dec.{T, leb, ltb}
use lib.ListN.{length, get_or, length-set}
use lib.Seq.{get_or-set_same, get_or-set_other}
use Rattle.paper.specs.Units.{Duration}
use Rattle.paper.specs.Lists.{every}
use Rattle.paper.specs.Rows.{Kind, government, corporate, inflation, floating, ClassRow, kind_letter, kind_in, same_kind}
use Rattle.paper.specs.Valuation.{lower}
use Rattle.paper.specs.Refusals.{is_duration, may_precede, rules_of, class_kind}
use Rattle.paper.specs.Tables.{hold}
use Rattle.paper.proofs.Lists.{both, tests, every_step}
use Rattle.paper.proofs.Order.{same_true, same_refl}
use Rattle.paper.proofs.Fields.{kind_back}
use Rattle.paper.proofs.Rules.{class_facts}
use Rattle.tables.specs.Numbers.{kind_number}
use Rattle.tables.proofs.Numbers.{kind_below}
use Rattle.tables.specs.Held.{held_class}
use Rattle.classes.specs.Seen.{none_seen, fits_of, after_of, seen_of}
use Rattle.classes.specs.declared.Seen.{Seen}

-- A row's border in the code, ten-thousandths of a year: 0 where it is blank
abbrev border_number : ClassRow → Duration
border_number c = (held_class c).border

-- Whether a row may stand below what is seen
abbrev row_fits : Seen → ClassRow → Bool
row_fits seen c = fits_of seen (held_class c)

-- What is seen with it too
abbrev after_row : Seen → ClassRow → Seen
after_row seen c = after_of seen (held_class c)

-- A row whose class is at least 1, and whose border is as its kind asks
pub record Formed (c : ClassRow) : Type 0 where
  pub class : 1 ≤ c.class
  pub border : T (is_duration c.kind c.border)

-- Rows, the nearest first, each of which may stand below all behind it
pub data Rising : List ClassRow → Type 0 where
  nil : Rising []
  cons : {c : ClassRow} {above : List ClassRow} → Formed c → every (λ a. may_precede a c) above ≡ true → Rising above
      → Rising (c ∷ above)

-- What the rules of a row say of it
pub formed : (above : List ClassRow) (c : ClassRow) → T (hold (rules_of class_kind above c)) → Formed c
formed above c h = record { class = (class_facts above c h).low; border = search tests }

-- A row that the rules admit may be put in front
pub admitted : (above : List ClassRow) (c : ClassRow) → T (hold (rules_of class_kind above c)) → Rising above → Rising (c ∷ above)
admitted above c h r =
    let may : every (λ a. may_precede a c) above ≡ true = search tests in
    cons (formed above c h) may r

-- A border is at most 1,000,000 ten-thousandths of a year
pub border_most : (c : ClassRow) → Formed c → border_number c ≤ 1_000_000
border_most c f = go c.border f.border
  where
    go : (o : Option Duration) → T (is_duration c.kind o) → Option.get_or o 0 ≤ 1_000_000
    go none h = omega arith
    go (some d) h = search tests

-- The kind of a number
abbrev kind_of : ℕ → Kind
kind_of n = get_or (government ∷ corporate ∷ inflation ∷ floating ∷ []) n floating

number_back : (k : Kind) → kind_of (kind_number k) ≡ k
number_back government = refl
number_back corporate = refl
number_back inflation = refl
number_back floating = refl

-- Two kinds are one, or have two letters and two numbers
data Kinds (a b : Kind) : Type 0 where
  one : a ≡ b → Kinds a b
  two : same_kind a b ≡ false → (kind_number b ≡ kind_number a → ⊥) → Kinds a b

kinds : (a b : Kind) → Kinds a b
kinds a b = go (same_kind a b) refl
  where
    go : (x : Bool) → same_kind a b ≡ x → Kinds a b
    go true e =
        let letters : kind_letter a ≡ kind_letter b = same_true (kind_letter a) (kind_letter b) e in
        one (some-injective a b (sym (kind_back a) ∙ ap kind_in letters ∙ kind_back b))
    go false e =
        two e (λ n.
        let k : b ≡ a = sym (number_back b) ∙ ap kind_of n ∙ number_back a in
        true≢false (sym (same_refl (kind_letter a)) ∙ ap (same_kind a) (sym k) ∙ e))

-- No border is both blank and there
blank_apart : (k : Kind) (d : Duration) → T (is_duration k none) → T (is_duration k (some d)) → ⊥
blank_apart government d h g = h
blank_apart corporate d h g = h
blank_apart inflation d h g = g
blank_apart floating d h g = g

-- Of one kind, a border is below another where the least that may follow it is at most the other
lower_least : (k : Kind) (x y : Option Duration) → T (is_duration k x) → T (is_duration k y)
    → lower x y ≡ leb (Option.get_or x 0 + 1) (Option.get_or y 0)
lower_least k none none h g = refl
lower_least k none (some b) h g = absurd (blank_apart k b h g)
lower_least k (some a) none h g = absurd (blank_apart k a g h)
lower_least k (some a) (some b) h g = rw add-one

-- What may follow a border may follow what is at most it
enough : (m n b : Duration) → m ≤ n → (leb (n + 1) b && leb m b) ≡ leb (n + 1) b
enough m n b h = go (leb (n + 1) b) refl
  where
    go : (x : Bool) → leb (n + 1) b ≡ x → (x && leb m b) ≡ x
    go true e = le-leb m b (omega (arith, leb-true (n + 1) b e))
    go false e = refl

-- There is a least border for each kind
four : (above : List ClassRow) → length (seen_of above).least ≡ 4
four [] = refl
four (c ∷ above) = simp length-set (four above)

-- ... which is 0 where there is no row
none_least : (k : Kind) → get_or none_seen.least (kind_number k) 0 ≡ 0
none_least government = refl
none_least corporate = refl
none_least inflation = refl
none_least floating = refl

-- The least border of a row's kind, ten-thousandths of a year
abbrev least_of : Seen → ClassRow → Duration
least_of seen c = get_or seen.least (kind_number c.kind) 0

-- A row above, and what is seen of those behind it, on which it fits
module _ (seen : Seen) (d c : ClassRow) (all : length seen.least ≡ 4) (formed_d : Formed d) (formed_c : Formed c)
    (fits : row_fits seen d ≡ true) where
  -- Its class is above the last, and its border not below the least
  parts : (ltb seen.last d.class ≡ true) × (leb (least_of seen d) (border_number d) ≡ true)
  parts = both (ltb seen.last d.class) (leb (least_of seen d) (border_number d)) fits

  -- Of one kind, the row's border decides on the next; of two kinds, what is seen behind it does
  by_kind : Kinds d.kind c.kind
      → ((not (same_kind d.kind c.kind) || lower d.border c.border) && leb (least_of seen c) (border_number c))
      ≡ leb (least_of (after_row seen d) c) (border_number c)
  by_kind (one e) =
      let kinds_one : same_kind d.kind c.kind ≡ true = ap (same_kind d.kind) (sym e) ∙ same_refl (kind_letter d.kind) in
      let numbers : kind_number c.kind ≡ kind_number d.kind = ap kind_number (sym e) in
      let lowers : lower d.border c.border ≡ leb (border_number d + 1) (border_number c) =
      lower_least d.kind d.border c.border formed_d.border (rw e formed_c.border) in
      let last_of_kind : least_of (after_row seen d) c ≡ border_number d + 1 =
      rw (numbers, get_or-set_same seen.least (kind_number d.kind) (border_number d + 1) 0 (omega (arith, kind_below d.kind))) in
      let behind : least_of seen c ≤ border_number d = rw numbers (leb-true (least_of seen d) (border_number d) parts.1) in
      simp (kinds_one, lowers, last_of_kind) (enough (least_of seen c) (border_number d) (border_number c) behind)
  by_kind (two e n) = simp (e, get_or-set_other seen.least (kind_number d.kind) (kind_number c.kind) (border_number d + 1) 0 n)

  -- So the row and what is seen behind it judge the next as what is seen with it does
  step : (may_precede d c && row_fits seen c) ≡ row_fits (after_row seen d) c
  step = go (ltb d.class c.class) refl
    where
      go : (x : Bool) → ltb d.class c.class ≡ x → (may_precede d c && row_fits seen c) ≡ row_fits (after_row seen d) c
      go true e =
          let last : seen.last < d.class = ltb-true seen.last d.class parts.0 in
          let rises : seen.last < c.class = omega (arith, ltb-true d.class c.class e) in
          simp (e, lt-ltb seen.last c.class rises) (by_kind (kinds d.kind c.kind))
      go false e = simp e

-- What is seen judges a row as all rows above it do
pub fits_all : (above : List ClassRow) (c : ClassRow) → Rising above → Formed c
    → every (λ a. may_precede a c) above ≡ row_fits (seen_of above) c
fits_all [] c nil f = simp (lt-ltb 0 c.class f.class, none_least c.kind, le-leb 0 (border_number c) (omega arith))
fits_all (d ∷ above) c (cons g p r) f =
    every_step (λ a. may_precede a c) d above
    ∙ ap (λ (b : Bool). may_precede d c && b) (fits_all above c r f)
    ∙ step (seen_of above) d c (four above) g f (sym (fits_all above d r g) ∙ p)
