-- Laws of lines and fields by their places: what stands up to the last LF, the line that starts at a place, and its fields.
use Prim.Native.Nat.{ℕ, zero, suc, ◌+◌, ◌-◌, ◌≤◌, ◌<◌}
use native.Mathlib.Nat.{add-zero}
use native.Mathlib.Numerals.{add-one}
use native.Mathlib.Omega.{arith}
use mathlib.Core.Bool.{Bool, true, false}
use mathlib.Core.List.{List, [], ◌∷◌, ◌++◌, append_assoc}
use mathlib.Core.Path.{◌≡◌, refl, sym, ap, ◌∙◌}
use borrow.Author.Tests.{eqb-true, eqb-false, eq-eqb, ne_eqb}
use lib.Dec.{eqb}
use lib.ListN.{length, get_or, take, drop, replicate, length-append, length-drop, get_or-append, drop_of_length-le}
use lib.Seq.{slice, length-slice, take-add, take-append_seam, length-take-le, drop-cons, drop-drop, drop_at, drop-append-add, get_or-take}
use Rattle.paper.specs.Units.{Byte, Text, Fields}
use Rattle.paper.specs.Lists.{every}
use Rattle.paper.specs.Text.{LF, semicolon, same, pieces, lines_of, lines, parted, line_of}
use Rattle.paper.proofs.Lists.{every_step, every_cons}
use Rattle.paper.proofs.Lines.{plain, filled, line_first}
use Rattle.places.specs.Places.{Place, ended_length, ends_from, last_place, line_at, field_text, Stands}

-- ---- the last LF

-- A byte before a text: the last LF is behind it, is itself, or is nowhere
data Front (b : Byte) (t : Text) : Type 0 where
  behind : (n : ℕ) → ended_length t ≡ suc n → ended_length (b ∷ t) ≡ suc (suc n) → Front b t
  itself : b ≡ LF → ended_length t ≡ 0 → ended_length (b ∷ t) ≡ 1 → Front b t
  nowhere : (b ≡ LF → ⊥) → ended_length t ≡ 0 → ended_length (b ∷ t) ≡ 0 → Front b t

front : (b : Byte) (t : Text) → Front b t
front b t = go (ended_length t) refl (eqb b LF) refl
  where
    go : (n : ℕ) → ended_length t ≡ n → (c : Bool) → eqb b LF ≡ c → Front b t
    go (suc n) e c k = behind n e (rw (e, ended_length))
    go zero e true k = itself (eqb-true b LF k) e (rw (e, ended_length, k))
    go zero e false k = nowhere (eqb-false b LF k) e (rw (e, ended_length, k))

-- An LF stands before what is ended behind it
pub ended_append : (t r : Text) → ended_length (t ++ (LF ∷ r)) ≡ suc (length t + ended_length r)
ended_append [] r = go (front LF r)
  where
    go : Front LF r → ended_length (LF ∷ r) ≡ suc (0 + ended_length r)
    go (behind n e k) = omega arith
    go (itself l e k) = omega arith
    go (nowhere l e k) = absurd (l refl)
ended_append (b ∷ t) r = go (front b (t ++ (LF ∷ r))) (ended_append t r)
  where
    go : Front b (t ++ (LF ∷ r)) → ended_length (t ++ (LF ∷ r)) ≡ suc (length t + ended_length r)
        → ended_length (b ∷ (t ++ (LF ∷ r))) ≡ suc (suc (length t) + ended_length r)
    go (behind n e k) h = omega arith
    go (itself l e k) h = absurd (omega arith)
    go (nowhere l e k) h = absurd (omega arith)

-- A last byte that is no LF changes nothing
pub ended_other : (t : Text) (b : Byte) → (b ≡ LF → ⊥) → ended_length (t ++ (b ∷ [])) ≡ ended_length t
ended_other [] b n = rw (ne_eqb b LF n)
ended_other (c ∷ t) b n = rw (ended_other t b n, ended_length)

-- No byte is an LF; a byte is one, and none behind it is
pub ended_none : (t : Text) → ((k : ℕ) → k < length t → get_or t k 0 ≡ LF → ⊥) → 0 ≡ ended_length t
ended_none [] n = refl
ended_none (b ∷ t) n = rw (sym (ended_none t (λ k h. n (suc k) (omega arith))), ne_eqb b LF (n 0 (omega arith)), ended_length)

pub ended_last : (t : Text) (n : ℕ) → n < length t → get_or t n 0 ≡ LF → ((k : ℕ) → n + 1 ≤ k → k < length t → get_or t k 0 ≡ LF → ⊥)
    → n + 1 ≡ ended_length t
ended_last [] n h e none = absurd (omega arith)
ended_last (b ∷ t) zero h e none =
    let rest : ended_length t ≡ 0 = sym (ended_none t (λ k h. none (suc k) (omega arith) (omega arith))) in
    rw (rest, eq-eqb b LF e, ended_length)
ended_last (b ∷ t) (suc n) h e none =
    let rest : ended_length t ≡ suc n = sym (ended_last t n (omega arith) e (λ k i l. none (suc k) (omega arith) (omega arith))) ∙ add-one n in
    rw (rest, ended_length) (omega arith)

-- What is ended is in the text
pub ended_most : (t : Text) → ended_length t ≤ length t
ended_most [] = omega arith
ended_most (b ∷ t) = go (front b t) (ended_most t)
  where
    go : Front b t → ended_length t ≤ length t → ended_length (b ∷ t) ≤ suc (length t)
    go (behind n e k) h = omega arith
    go (itself l e k) h = omega arith
    go (nowhere l e k) h = omega arith

-- What is ended behind a place
pub ended_drop : (s : Text) (at : Place) → at ≤ ended_length s → at + ended_length (drop at s) ≡ ended_length s
ended_drop s zero h = omega arith
ended_drop [] (suc at) h = absurd (omega arith)
ended_drop (b ∷ s) (suc at) h = go (front b s) (ended_drop s at)
  where
    go : Front b s → (at ≤ ended_length s → at + ended_length (drop at s) ≡ ended_length s)
        → suc at + ended_length (drop at s) ≡ ended_length (b ∷ s)
    go (behind n e k) rest = omega (arith, rest (omega arith))
    go (itself l e k) rest = omega (arith, rest (omega arith))
    go (nowhere l e k) rest = absurd (omega arith)

-- An LF stands right before the place behind the last LF
ended_at : (s : Text) (n : ℕ) → ended_length s ≡ suc n → get_or s n 0 ≡ LF
ended_at [] n e = absurd (omega arith)
ended_at (b ∷ t) n e = go (front b t) (ended_at t)
  where
    go : Front b t → ((m : ℕ) → ended_length t ≡ suc m → get_or t m 0 ≡ LF) → get_or (b ∷ t) n 0 ≡ LF
    go (behind m k l) rest =
        let later : n ≡ suc m = omega arith in
        rw later (rest m k)
    go (itself q k l) rest =
        let first : n ≡ 0 = omega arith in
        rw first q
    go (nowhere q k l) rest = absurd (omega arith)

pub ended_lf : (s : Text) → 0 < ended_length s → get_or s (ended_length s - 1) 0 ≡ LF
ended_lf s h = ended_at s (ended_length s - 1) (omega arith)

-- ---- behind the last LF

-- A text without LF is one piece
one_piece : (t : Text) → ended_length t ≡ 0 → pieces LF t ≡ t ∷ []
one_piece [] e = refl
one_piece (b ∷ t) e = go (front b t) (one_piece t)
  where
    go : Front b t → (ended_length t ≡ 0 → pieces LF t ≡ t ∷ []) → pieces LF (b ∷ t) ≡ (b ∷ t) ∷ []
    go (behind n k l) rest = absurd (omega arith)
    go (itself q k l) rest = absurd (omega arith)
    go (nowhere q k l) rest = rw (ne_eqb b LF q, rest k)

-- At the place behind the last LF no line starts where the text ends there, and else one that counts as having no fields
module _ (s : Text) (at : Place) (here : at ≡ ended_length s) where
  left_over : lines (drop at s) ≡ lines_of (drop at s ∷ [])
  unfolding lines
  left_over = ap lines_of (one_piece (drop at s) (omega (arith, ended_drop s at (omega arith))))

  pub no_line : at ≡ length s → lines (drop at s) ≡ []
  no_line e = left_over ∙ rw (drop_of_length-le s {i = at} (omega arith))

  pub unended_line : at < length s → lines (drop at s) ≡ [] ∷ []
  unended_line h = left_over ∙ rw (drop-cons s at 0 h)

-- ---- a text that starts with a line

-- Where the fields of a line end that starts at a place
abbrev ends_of : Place → Fields → List Place
ends_of p [] = []
ends_of p (f ∷ fs) = (p + length f) ∷ ends_of (suc (p + length f)) fs

length_ends : (p : Place) (fs : Fields) → length (ends_of p fs) ≡ length fs
length_ends p [] = refl
length_ends p (f ∷ fs) = ap suc (length_ends (suc (p + length f)) fs)

-- A line at a place: its fields, of which it has one at least, and the text behind its LF
record Cut (p : Place) (t : Text) : Type 0 where
  first : Text
  others : Fields
  rest : Text
  whole : t ≡ line_of (first ∷ others) ++ rest
  marks : every (every plain) (first ∷ others) ≡ true
  ends : ends_from p t ≡ ends_of p (first ∷ others)

-- One byte more in the first field
parted_byte : (b : Byte) (f : Text) (fs : Fields) → parted semicolon ((b ∷ f) ∷ fs) ≡ b ∷ parted semicolon (f ∷ fs)
parted_byte b f [] = refl
parted_byte b f (g ∷ fs) = refl

-- A byte before a line: LF is a line of its own, `;` ends a blank field, any other is of the first field
cut_lf : (p : Place) (b : Byte) (t : Text) → b ≡ LF → Cut p (b ∷ t)
cut_lf p b t e =
    record {
      first = [];
      others = [];
      rest = t;
      whole = rw e;
      marks = refl;
      ends = rw (eq-eqb b LF e, ends_from, add-zero);
    }

cut_mark : (p : Place) (b : Byte) (t : Text) → (b ≡ LF → ⊥) → b ≡ semicolon → Cut (suc p) t → Cut p (b ∷ t)
cut_mark p b t n e c =
    record {
      first = [];
      others = c.first ∷ c.others;
      rest = c.rest;
      whole = rw (e, c.whole);
      marks = c.marks;
      ends = rw (ne_eqb b LF n, ends_from, eq-eqb b semicolon e, add-zero, c.ends);
    }

cut_byte : (p : Place) (b : Byte) (t : Text) → (b ≡ LF → ⊥) → (b ≡ semicolon → ⊥) → Cut (suc p) t → Cut p (b ∷ t)
cut_byte p b t n m c =
    let is_plain : plain b ≡ true = simp (ne_eqb b semicolon m, ne_eqb b LF n) in
    let k = every_cons (every plain) c.first c.others c.marks in
    record {
      first = b ∷ c.first;
      others = c.others;
      rest = c.rest;
      whole = rw (parted_byte b c.first c.others, c.whole);
      marks = rw (every_step (every plain) (b ∷ c.first) c.others, every_step plain b c.first, is_plain, k.0) k.1;
      ends =
          rw (ne_eqb b LF n, ends_from, ne_eqb b semicolon m)
          (c.ends ∙ ap (λ (e : Place). e ∷ ends_of (suc e) c.others) (omega arith));
    }

-- So a text that has an LF starts with a line
cut : (p : Place) (t : Text) → 0 < ended_length t → Cut p t
cut p [] h = absurd (omega arith)
cut p (b ∷ t) h = go (eqb b LF) refl (eqb b semicolon) refl (front b t) (cut (suc p) t)
  where
    later : Front b t → (b ≡ LF → ⊥) → 0 < ended_length t
    later (behind m e k) n = omega arith
    later (itself q e k) n = absurd (n q)
    later (nowhere q e k) n = absurd (omega arith)

    go : (c : Bool) → eqb b LF ≡ c → (d : Bool) → eqb b semicolon ≡ d → Front b t → (0 < ended_length t → Cut (suc p) t) → Cut p (b ∷ t)
    go true e d k f rest = cut_lf p b t (eqb-true b LF e)
    go false e true k f rest =
        let n = eqb-false b LF e in
        cut_mark p b t n (eqb-true b semicolon k) (rest (later f n))
    go false e false k f rest =
        let n = eqb-false b LF e in
        cut_byte p b t n (eqb-false b semicolon k) (rest (later f n))

-- ---- the fields of a line in a text

-- A field in a text, from a place up to another
pub record FieldAt (s : Text) (start end : Place) (f : Text) : Type 0 where
  pub is : slice start end s ≡ f
  pub ordered : start ≤ end
  pub inside : end < length s

-- Bytes at a place, before another byte
module _ (s : Text) (p : Place) (f : Text) (b : Byte) (u : Text) (e : drop p s ≡ f ++ (b ∷ u)) where
  room : p + length f < length s
  room = omega (arith, length-drop p s, ap length e, length-append f (b ∷ u))

  part : slice p (p + length f) s ≡ f
  part =
      rw (take-add p (length f) s, drop_at (take p s) (take (length f) (drop p s)) p (length-take-le p s (omega (arith, room))), e)
      (take-append_seam f (b ∷ u))

  part_field : FieldAt s p (p + length f) f
  part_field = record { is = part; ordered = omega arith; inside = room }

  behind_part : drop (suc (p + length f)) s ≡ u
  behind_part =
      let place : suc (p + length f) ≡ p + (length f + 1) = omega arith in
      ap (λ (k : ℕ). drop k s) place
      ∙ sym (drop-drop (length f + 1) p s)
      ∙ ap (drop (length f + 1)) e
      ∙ drop-append-add f (b ∷ u) 1

-- A line by its first field
line_last : (f r : Text) → line_of (f ∷ []) ++ r ≡ f ++ (LF ∷ r)
line_last f r = append_assoc f (LF ∷ []) r

line_more : (f g : Text) (fs : Fields) (r : Text) → line_of (f ∷ g ∷ fs) ++ r ≡ f ++ (semicolon ∷ (line_of (g ∷ fs) ++ r))
line_more f g fs r = simp append_assoc

-- Where a field starts: the first with the line, another behind the end of the one before it
abbrev pub start_of : Place → List Place → ℕ → Place
start_of at ends zero = at
start_of at ends (suc k) = get_or ends k 0 + 1

start_next : (p q : Place) (ends : List Place) (k : ℕ) → start_of p (q ∷ ends) (suc k) ≡ start_of (suc q) ends k
start_next p q ends zero = add-one q
start_next p q ends (suc k) = refl

module _ (s r : Text) where
  -- Each field stands between its places
  field_in : (p : Place) (fs : Fields) → drop p s ≡ line_of fs ++ r → (k : ℕ) → k < length fs
      → FieldAt s (start_of p (ends_of p fs) k) (get_or (ends_of p fs) k 0) (get_or fs k [])
  field_in p [] e k h = absurd (omega arith)
  field_in p (f ∷ []) e zero h = part_field s p f LF r (e ∙ line_last f r)
  field_in p (f ∷ []) e (suc k) h = absurd (omega arith)
  field_in p (f ∷ g ∷ fs) e zero h = part_field s p f semicolon (line_of (g ∷ fs) ++ r) (e ∙ line_more f g fs r)
  field_in p (f ∷ g ∷ fs) e (suc k) h =
      let q = p + length f in
      let rest = behind_part s p f semicolon (line_of (g ∷ fs) ++ r) (e ∙ line_more f g fs r) in
      rw (start_next p q (ends_of (suc q) (g ∷ fs)) k) (field_in (suc q) (g ∷ fs) rest k (omega arith))

  -- The text behind the line's LF
  behind_line : (p : Place) (f : Text) (fs : Fields) → drop p s ≡ line_of (f ∷ fs) ++ r
      → (drop (suc (last_place (ends_of p (f ∷ fs)))) s ≡ r) × (p ≤ last_place (ends_of p (f ∷ fs))) × (last_place (ends_of p (f ∷ fs)) < length s)
  behind_line p f [] e = (behind_part s p f LF r (e ∙ line_last f r), omega arith, room s p f LF r (e ∙ line_last f r))
  behind_line p f (g ∷ fs) e =
      let l = behind_line (suc (p + length f)) g fs (behind_part s p f semicolon (line_of (g ∷ fs) ++ r) (e ∙ line_more f g fs r)) in
      (l.0, omega (arith, l.1), l.2)

-- ---- a line of a sheet

-- A line that has its LF starts at a place of the sheet: what it is read as, and where it and its fields stand
pub record LineThere (s : Text) (at : Place) : Type 0 where
  pub fields : Fields
  pub read : lines (drop at s) ≡ fields ∷ lines (drop (line_at s at).next s)
  pub written : drop at s ≡ line_of fields ++ drop (line_at s at).next s
  pub has_field : filled fields ≡ true
  pub all_plain : every (every plain) fields ≡ true
  pub count : (line_at s at).count ≡ length fields
  pub further : at < (line_at s at).next
  pub most : (line_at s at).next ≤ ended_length s
  pub field : (k : ℕ) → k < length fields → k < 10
      → FieldAt s (start_of at (line_at s at).ends k) (get_or (line_at s at).ends k 0) (get_or fields k [])

-- Of the ends the first ten are kept
kept : (ends : List Place) (k : ℕ) → k < length ends → k < 10 → get_or (take 10 (ends ++ replicate 10 0)) k 0 ≡ get_or ends k 0
kept ends k h t = get_or-take 10 (ends ++ replicate 10 0) k 0 t ∙ get_or-append ends (replicate 10 0) 0 k h

kept_start : (p : Place) (ends : List Place) (k : ℕ) → k < length ends → k < 10
    → start_of p (take 10 (ends ++ replicate 10 0)) k ≡ start_of p ends k
kept_start p ends zero h t = refl
kept_start p ends (suc k) h t = ap (λ (e : Place). e + 1) (kept ends k (omega arith) (omega arith))

-- A line that has its LF is within what is ended
last_within : (s : Text) (at next : Place) (t r : Text) → at ≤ ended_length s → drop at s ≡ (t ++ (LF ∷ [])) ++ r → drop next s ≡ r
    → next ≤ length s → next ≤ ended_length s
last_within s at next t r h e k m =
    let whole : drop at s ≡ t ++ (LF ∷ r) = e ∙ append_assoc t (LF ∷ []) r in
    omega (
      arith,
      ended_drop s at h,
      ap ended_length whole,
      ended_append t r,
      length-drop at s,
      ap length whole,
      length-append t (LF ∷ r),
      length-drop next s,
      ap length k,
    )

pub line_there : (s : Text) (at : Place) → at < ended_length s → LineThere s at
line_there s at h =
    let c = cut at (drop at s) (omega (arith, ended_drop s at (omega arith))) in
    let fs = c.first ∷ c.others in
    let l = behind_line s c.rest at c.first c.others c.whole in
    let next : (line_at s at).next ≡ suc (last_place (ends_of at fs)) = rw c.ends in
    let rest : drop (line_at s at).next s ≡ c.rest = ap (λ (k : ℕ). drop k s) next ∙ l.0 in
    record {
      fields = fs;
      read = ap (λ (t : Text). lines t) c.whole ∙ line_first fs c.rest c.marks ∙ ap (λ (t : Text). fs ∷ lines t) (sym rest);
      written = c.whole ∙ ap (λ (t : Text). line_of fs ++ t) (sym rest);
      has_field = refl;
      all_plain = c.marks;
      count = rw c.ends (length_ends at fs);
      further = omega (arith, l.1);
      most = last_within s at (line_at s at).next (parted semicolon fs) c.rest (omega arith) c.whole rest (omega (arith, l.2));
      field = λ k p q.
          let size : k < length (ends_of at fs) = rw (length_ends at fs) p in
          rw (c.ends, kept (ends_of at fs) k size q, kept_start at (ends_of at fs) k size q) (field_in s c.rest at fs c.whole k p);
    }

-- A field is blank where it starts at its end
pub blank_field : (s : Text) (ends : List Place) (k : ℕ) → Stands s ends k
    → eqb (get_or ends k 0 + 1) (get_or ends (k + 1) 0) ≡ same (field_text s ends k) []
blank_field s ends k h = go (eqb (get_or ends k 0 + 1) (get_or ends (k + 1) 0)) refl (field_text s ends k) refl
  where
    size : length (field_text s ends k) ≡ get_or ends (k + 1) 0 - (get_or ends k 0 + 1)
    size = length-slice (get_or ends k 0 + 1) (get_or ends (k + 1) 0) s h.inside

    go : (b : Bool) → eqb (get_or ends k 0 + 1) (get_or ends (k + 1) 0) ≡ b → (t : Text) → field_text s ends k ≡ t → b ≡ same t []
    go true e [] i = refl
    go false e (x ∷ t) i = refl
    go true e (x ∷ t) i = absurd (omega (arith, size, ap length i, eqb-true (get_or ends k 0 + 1) (get_or ends (k + 1) 0) e))
    go false e [] i = absurd (eqb-false (get_or ends k 0 + 1) (get_or ends (k + 1) 0) e (omega (arith, size, ap length i, h.ordered)))
