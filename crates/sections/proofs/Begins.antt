-- Whether a line has a letter, by two bytes of the sheet: the letter stands where the line starts, and a mark behind it.
use Prim.Native.Nat.{ℕ, ◌+◌, ◌-◌, ◌<◌}
use native.Mathlib.Nat.{add-zero}
use native.Mathlib.Omega.{arith}
use mathlib.Core.Bool.{Bool, true, false, not, ◌&&◌, ◌||◌, and-false}
use mathlib.Core.List.{[], ◌∷◌, ◌++◌, append_assoc}
use mathlib.Core.Path.{◌≡◌, refl, sym, ap, ◌∙◌}
use borrow.Author.Tests.{eq-eqb, ne_eqb, eqb-true, eqb-false, not-true, lt-ltb, ltb-true, ltb-false}
use lib.Dec.{eqb, ltb}
use lib.ListN.{length, get_or, drop}
use lib.Seq.{get_or-drop}
use Rattle.paper.specs.Units.{Byte, Text, Fields}
use Rattle.paper.specs.Lists.{every}
use Rattle.paper.specs.Text.{LF, semicolon, same, line_of}
use Rattle.paper.specs.Sheet.{begins}
use Rattle.paper.proofs.Lists.{both, never, every_cons}
use Rattle.paper.proofs.Lines.{plain, filled}
use Rattle.places.specs.Places.{Place, ended_length, line_at}
use Rattle.places.proofs.Places.{line_there, ended_lf, ended_most}
use Rattle.sections.specs.Sections.{fields_at}
use Rattle.sections.specs.Sections.{goes_on}

-- A byte that ends a field
abbrev pub is_mark : Byte → Bool
is_mark b = eqb b semicolon || eqb b LF

-- A byte of a field ends none
plain_no_mark : (b : Byte) → plain b ≡ true → is_mark b ≡ false
plain_no_mark b e =
    let k = both (not (eqb b semicolon)) (not (eqb b LF)) e in
    rw (not-true (eqb b semicolon) k.0, not-true (eqb b LF) k.1)

module _ (letter : Byte) (n : letter ≡ LF → ⊥) (m : letter ≡ semicolon → ⊥) where
  -- A field before a mark is the letter where its first byte is, and the byte behind that is a mark
  field_letter : (f : Text) (mark : Byte) (u : Text) → is_mark mark ≡ true → every plain f ≡ true
      → same (letter ∷ []) f ≡ (eqb (get_or (f ++ (mark ∷ u)) 0 0) letter && is_mark (get_or (f ++ (mark ∷ u)) 1 0))
  field_letter [] mark u e k = rw (ne_eqb mark letter (λ q. other q))
    where
      other : mark ≡ letter → ⊥
      other q = let p : is_mark letter ≡ true = rw (sym q) e in never (sym (rw (ne_eqb letter semicolon m, ne_eqb letter LF n)) ∙ p)
  field_letter (b ∷ []) mark u e k = go (eqb letter b) refl
    where
      go : (c : Bool) → eqb letter b ≡ c → same (letter ∷ []) (b ∷ []) ≡ (eqb b letter && is_mark mark)
      go true q = rw (q, same, eq-eqb b letter (sym (eqb-true letter b q)), e)
      go false q = rw (q, same, ne_eqb b letter (λ p. eqb-false letter b q (sym p)))
  field_letter (b ∷ c ∷ f) mark u e k =
      let rest = (every_cons plain b (c ∷ f) k).1 in
      longer (eqb letter b) refl ∙ sym (rw (plain_no_mark c (every_cons plain c f rest).0, and-false))
    where
      longer : (d : Bool) → eqb letter b ≡ d → same (letter ∷ []) (b ∷ c ∷ f) ≡ false
      longer true q = rw (q, same)
      longer false q = rw (q, same)

  -- A line is its first field, a mark and more
  line_letter : (fs : Fields) (r : Text) → filled fs ≡ true → every (every plain) fs ≡ true
      → begins (letter ∷ []) fs ≡ (eqb (get_or (line_of fs ++ r) 0 0) letter && is_mark (get_or (line_of fs ++ r) 1 0))
  line_letter [] r h k = never h
  line_letter (f ∷ []) r h k =
      let e : line_of (f ∷ []) ++ r ≡ f ++ (LF ∷ r) = append_assoc f (LF ∷ []) r in
      rw e (field_letter f LF r refl (every_cons (every plain) f [] k).0)
  line_letter (f ∷ g ∷ fs) r h k =
      let e : line_of (f ∷ g ∷ fs) ++ r ≡ f ++ (semicolon ∷ (line_of (g ∷ fs) ++ r)) = simp append_assoc in
      rw e (field_letter f semicolon (line_of (g ∷ fs) ++ r) refl (every_cons (every plain) f (g ∷ fs) k).0)

  module _ (s : Text) (at end : Place) (h : at < end) (k : end ≡ ended_length s) where
    -- So does the line at a place of the sheet
    by_bytes : begins (letter ∷ []) (fields_at s at) ≡ (eqb (get_or s at 0) letter && is_mark (get_or s (at + 1) 0))
    by_bytes =
        let l = line_there s at (omega arith) in
        let here : get_or (drop at s) 0 0 ≡ get_or s at 0 = get_or-drop at s 0 0 ∙ ap (λ (i : ℕ). get_or s i 0) (add-zero at) in
        ap (λ fss. begins (letter ∷ []) (get_or fss 0 [])) l.read
        ∙ line_letter l.fields (drop (line_at s at).next s) l.has_field l.all_plain
        ∙ rw (sym l.written, here, get_or-drop at s 1 0)

    pub goes_by_bytes : goes_on s at end letter ≡ (eqb (get_or s at 0) letter && is_mark (get_or s (at + 1) 0))
    goes_by_bytes = rw (lt-ltb at end h) by_bytes

    -- Where the letter stands, another byte of the line is behind it
    pub behind : get_or s at 0 ≡ letter → at + 1 < length s
    behind e = go (ltb (at + 1) end) refl
      where
        go : (c : Bool) → ltb (at + 1) end ≡ c → at + 1 < length s
        go true q = omega (arith, ltb-true (at + 1) end q, ended_most s)
        go false q =
            let last : at ≡ ended_length s - 1 = omega (arith, ltb-false (at + 1) end q) in
            absurd (n (sym e ∙ ap (λ (i : ℕ). get_or s i 0) last ∙ ended_lf s (omega arith)))

-- What `goes_on` tells: whether it is so
pub goes : (s : Text) (at end : Place) (letter : Byte) → goes_on s at end letter ≡ true
    → (at < end) × (begins (letter ∷ []) (fields_at s at) ≡ true)
goes s at end letter e =
    let k = both (ltb at end) (begins (letter ∷ []) (fields_at s at)) e in
    (ltb-true at end k.0, k.1)

-- or not, where a line stands there
pub stops : (s : Text) (at end : Place) (letter : Byte) → goes_on s at end letter ≡ false → at < end
    → begins (letter ∷ []) (fields_at s at) ≡ false
stops s at end letter e h = rw (lt-ltb at end h) at e
