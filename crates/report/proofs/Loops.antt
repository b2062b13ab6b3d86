-- A loop that writes a text for each rank, one behind the other: what it has written is the texts so far, joined.
use Prim.Native.Nat.{ℕ, zero, suc, ◌+◌, ◌≤◌, ◌<◌}
use native.Mathlib.Nat.{zero-add, le_of_suc-le-suc, not-suc-le-zero}
use native.Mathlib.Numerals.{add-one}
use native.Mathlib.Omega.{arith}
use mathlib.Core.List.{List, [], ◌∷◌, ◌++◌, map, map-append, append_assoc, append-nil}
use mathlib.Core.Path.{◌≡◌, refl, sym, ap, ◌∙◌, subst}
use lib.ListN.{length, length-append}
use Rattle.paper.specs.Units.{Text}
use Rattle.paper.specs.Lists.{joined_up}
use Rattle.lines.specs.Written.{Place, Wrote}
use Rattle.lines.proofs.Written.{Parts, none_written, written_length, room, joined}
use Rattle.margin.specs.Openings.{from_rank}
use Rattle.margin.proofs.Forwards.{ranks_more}

-- A text that fits leaves a buffer as long as it was
pub as_long : (t : Text) (at : Place) (b : Text) {next : Place} {after : Text} → at + length t ≤ length b → Wrote t at b next after
    → length after ≡ length b
as_long t at b fits w = ap length w.1 ∙ written_length t at b fits

-- One more text stands behind those joined
joined_last : (ts : List Text) (t : Text) → joined_up (ts ++ (t ∷ [])) ≡ joined_up ts ++ t
joined_last [] t = append-nil t
joined_last (u ∷ ts) t = ap (λ (l : Text). u ++ l) (joined_last ts t) ∙ sym (append_assoc u (joined_up ts) t)

module _ (text : ℕ → Text) where
  -- The texts of so many ranks, joined
  abbrev pub texts : ℕ → Text
  texts many = joined_up (from_rank text many 0)

  -- Those of a rank more end with its text
  texts_more : (i : ℕ) → Parts (texts (i + 1)) (texts i) (text i)
  texts_more i =
      record {
        are =
            ap texts (add-one i) ∙ ap joined_up (ranks_more text i 0) ∙ joined_last (from_rank text i 0) (text (0 + i))
            ∙ ap (λ (n : ℕ). texts i ++ text n) (zero-add i);
      }

  -- Those of more ranks are at least as long
  texts_longer : (i many rank : ℕ) → i ≤ many
      → length (joined_up (from_rank text i rank)) ≤ length (joined_up (from_rank text many rank))
  texts_longer zero many rank h = omega arith
  texts_longer (suc i) zero rank h = absurd (not-suc-le-zero h)
  texts_longer (suc i) (suc many) rank h =
      simp length-append (omega (arith, texts_longer i many (suc rank) (le_of_suc-le-suc h)))

  module _ (many : ℕ) (from : Place) (b : Text) (fits : from + length (texts many) ≤ length b) (i : ℕ) (less : i < many) {at : Place} {now : Text} (w : Wrote (texts i) from b at now) where
    -- The texts so far and the next fit
    next_fits : from + length (texts (i + 1)) ≤ length b
    next_fits = omega (arith, texts_longer (i + 1) many 0 (omega arith))

    -- Of the next text, as a turn has it
    module _ {t : Text} (is : t ≡ text i) where
      -- It has room
      pub turn_room : at + length t ≤ length now
      turn_room = rw is (room (texts_more i) from b next_fits w)

      -- And once it is written, the texts of a rank more are
      pub turn : {next : Place} {after : Text} → Wrote t at now next after → Wrote (texts (i + 1)) from b next after
      turn v = joined (texts_more i) from b next_fits w (rw is at v)

-- ... or for each entry of a list
module _ {A : Type 0} (text : A → Text) where
  -- The texts of entries, joined
  abbrev told : List A → Text
  told xs = joined_up (map text xs)

  -- Those of an entry more end with its text
  told_more : (xs : List A) (x : A) → Parts (told (xs ++ (x ∷ []))) (told xs) (text x)
  told_more xs x = record { are = ap joined_up (map-append text xs (x ∷ [])) ∙ joined_last (map text xs) (text x) }

  -- Those of more entries are at least as long
  told_longer : (xs rest : List A) → length (told xs) ≤ length (told (xs ++ rest))
  told_longer [] rest = omega arith
  told_longer (x ∷ xs) rest = simp length-append (omega (arith, told_longer xs rest))

  -- The texts of all entries but those left are written
  pub record Told (all left : List A) (from : Place) (b : Text) (at : Place) (now : Text) : Type 0 where
    pub before : List A
    pub are : before ++ left ≡ all
    pub wrote : Wrote (told before) from b at now

  module _ (all : List A) (from : Place) (b : Text) where
    -- At first all are left
    pub told_none : Told all all from b from b
    told_none = record { before = []; are = refl; wrote = none_written from b }

    module _ (left : List A) {at : Place} {now : Text} (w : Told all left from b at now) where
      -- Where none is left, all are written
      pub told_all : left ≡ [] → Wrote (told all) from b at now
      told_all none =
          let same : w.before ≡ all = sym (append-nil w.before) ∙ ap (λ (l : List A). w.before ++ l) (sym none) ∙ w.are in
          subst (λ (l : List A). Wrote (told l) from b at now) same w.wrote

      module _ (fits : from + length (told all) ≤ length b) (x : A) (rest : List A) (next : left ≡ x ∷ rest) where
        -- The texts so far and the next are the front of all
        more : (w.before ++ (x ∷ [])) ++ rest ≡ all
        more = append_assoc w.before (x ∷ []) rest ∙ ap (λ (l : List A). w.before ++ l) (sym next) ∙ w.are

        -- ... and fit
        told_fits : from + length (told (w.before ++ (x ∷ []))) ≤ length b
        told_fits = omega (arith, told_longer (w.before ++ (x ∷ [])) rest, ap (λ (l : List A). length (told l)) more)

        -- The next has room
        pub told_room : at + length (text x) ≤ length now
        told_room = room (told_more w.before x) from b told_fits w.wrote

        -- And once it is written, one fewer is left
        pub told_next : {last : Place} {end : Text} → Wrote (text x) at now last end → Told all rest from b last end
        told_next v =
            record { before = w.before ++ (x ∷ []); are = more; wrote = joined (told_more w.before x) from b told_fits w.wrote v }
