-- Laws of numbers of codes that rise up to the highest: where one is looked for, those below it and those above it are passed.
use Prim.Native.Nat.{ℕ, zero, suc, ◌+◌, ◌-◌, ◌*◌, ◌≤◌, ◌<◌}
use native.Mathlib.Nat.{zero-add, add-zero, not-suc-le-zero, le_of_suc-le-suc, eq-or-lt_of_le}
use native.Mathlib.Decide.{dec_lt}
use native.Mathlib.Omega.{arith}
use mathlib.Core.List.{List, [], ◌∷◌}
use mathlib.Core.Logic.{◌⊎◌, inl, inr, ⊎_elim}
use mathlib.Core.Path.{◌≡◌, sym, ap, ◌∙◌}
use borrow.Author.Tests.{eq-eqb, ne_eqb, lt-ltb, le-ltb}
use Rattle.std.specs.Prelude.{Some, None}
use Rattle.std.specs.Bool.{then_some}
use lib.ListN.{length, get_or, take, drop}
use lib.Seq.{drop-cons, drop-length, length-take-le, get_or-take}
use Rattle.tables.specs.Numbers.{highest, number_place}
use Rattle.tables.specs.Ranks.{Searchable, found_place}

-- Numbers that are not the one looked for are passed
passed : (code : ℕ) (ms : List ℕ) (n : ℕ) → n ≤ length ms → ((k : ℕ) → k < n → get_or ms k 0 ≡ code → ⊥)
    → number_place ms code ≡ n + number_place (drop n ms) code
passed code ms zero h other = sym (zero-add (number_place ms code))
passed code [] (suc n) h other = absurd (not-suc-le-zero h)
passed code (m ∷ ms) (suc n) h other =
    rw (ne_eqb m code (other 0 (omega arith)), number_place)
    (ap suc (passed code ms n (le_of_suc-le-suc h) (λ k l. other (suc k) (omega arith))) ∙ omega arith)

module _ (codes : List ℕ) (code : ℕ) where
  -- All codes up to a place are below the one looked for; none is from the one before a place on
  abbrev pub Below : ℕ → Type 0
  Below n = (k : ℕ) → k < n → get_or codes k 0 < code

  abbrev pub Above : ℕ → Type 0
  Above n = (k : ℕ) → n ≤ suc k → k < 256 → code ≤ get_or codes k 0

module _ (codes : List ℕ) (count code : ℕ) (long : length codes ≡ 256) (few : count ≤ 200) (ordered : Searchable codes count) where
  -- No code is above one behind it
  climbs : (i j : ℕ) → i < j → j < 256 → get_or codes i 0 ≤ get_or codes j 0
  climbs i j h l = go (dec_lt j count) (dec_lt i count)
    where
      go : Dec (j < count) → Dec (i < count) → get_or codes i 0 ≤ get_or codes j 0
      go (yes c) d = omega (arith, ordered.rise i j h c)
      go (no c) (yes d) = omega (arith, ordered.low i d, ordered.rest j (omega (arith, c)) l)
      go (no c) (no d) = omega (arith, ordered.rest i (omega (arith, d)) (omega arith), ordered.rest j (omega (arith, c)) l)

  -- The last code is the highest
  pub none_above : code ≤ highest → Above codes code 256
  none_above h k i l = omega (arith, ordered.rest k (omega arith) l)

  -- What the code at a place decides
  pub below : (m : ℕ) → m < 256 → get_or codes m 0 < code → Below codes code (suc m)
  below m inside e k h = go (dec_lt k m)
    where
      go : Dec (k < m) → get_or codes k 0 < code
      go (yes l) = omega (arith, climbs k m l inside)
      go (no l) = let one : k ≡ m = omega (arith, l) in rw one e

  pub above : (m : ℕ) → code ≤ get_or codes m 0 → Above codes code (suc m)
  above m e k h l = ⊎_elim (λ i. rw (← i) e) (λ i. omega (arith, climbs m k i l)) (eq-or-lt_of_le (le_of_suc-le-suc h))

  -- A code at a place told whether a step is made: where it is below the one looked for
  abbrev pub Told : ℕ → ℕ → ℕ → Type 0
  Told m part step = ((get_or codes m 0 < code) × (step ≡ part)) ⊎ ((code ≤ get_or codes m 0) × (step ≡ 0))

  -- What three codes decide, at the ends of three of four parts: as many parts are below as are told
  pub quarters : (low part first second third : ℕ) → 1 ≤ part → low + 4 * part ≤ 256 → Below codes code low → Above codes code (low + 4 * part)
      → Told (low + part - 1) part first → Told (low + 2 * part - 1) part second → Told (low + 3 * part - 1) part third
      → Below codes code (low + (first + second + third)) × Above codes code (low + (first + second + third) + part)
  quarters low part first second third some room b a (inr (p, e)) (inr (q, f)) (inr (r, g)) =
      (λ k h. b k (omega (arith, e, f, g)), λ k h l. above (low + part - 1) p k (omega (arith, e, f, g)) l)
  quarters low part first second third some room b a (inl (p, e)) (inr (q, f)) (inr (r, g)) =
      (λ k h. below (low + part - 1) (omega arith) p k (omega (arith, e, f, g)), λ k h l. above (low + 2 * part - 1) q k (omega (arith, e, f, g)) l)
  quarters low part first second third some room b a (inl (p, e)) (inl (q, f)) (inr (r, g)) =
      (λ k h. below (low + 2 * part - 1) (omega arith) q k (omega (arith, e, f, g)), λ k h l. above (low + 3 * part - 1) r k (omega (arith, e, f, g)) l)
  quarters low part first second third some room b a (inl (p, e)) (inl (q, f)) (inl (r, g)) =
      (λ k h. below (low + 3 * part - 1) (omega arith) r k (omega (arith, e, f, g)), λ k h l. a k (omega (arith, e, f, g)) l)
  quarters low part first second third some room b a (inr (p, e)) (inl (q, f)) t =
      absurd (omega (arith, p, q, climbs (low + part - 1) (low + 2 * part - 1) (omega arith) (omega arith)))
  quarters low part first second third some room b a s (inr (q, f)) (inl (r, g)) =
      absurd (omega (arith, q, r, climbs (low + 2 * part - 1) (low + 3 * part - 1) (omega arith) (omega arith)))

  -- The codes that are looked through
  abbrev used : List ℕ
  used = take count codes

  used_length : length used ≡ count
  used_length = length-take-le count codes (omega arith)

  -- None of them is the one looked for
  none : ((k : ℕ) → k < count → get_or codes k 0 ≡ code → ⊥) → count ≡ number_place used code
  none other =
      sym
      (passed code used (length used) (omega arith)
      (λ k l e. let low : k < count = omega (arith, used_length) in other k low (sym (get_or-take count codes k 0 low) ∙ e))
      ∙ ap (λ (l : List ℕ). length used + number_place l code) (drop-length used)
      ∙ omega (arith, used_length))

  -- The place up to which all are below it, and from which on none is
  module _ (place : ℕ) (inside : place < 256) (b : Below codes code place) (a : Above codes code (suc place)) where
    pub found : place < count → get_or codes place 0 ≡ code → Some place ≡ found_place used code
    found h e =
        let here : get_or used place 0 ≡ code = get_or-take count codes place 0 h ∙ e in
        let its : number_place used code ≡ place =
        passed code used place (omega (arith, used_length))
        (λ k l i. let low = b k l in omega (arith, sym (get_or-take count codes k 0 (omega arith)) ∙ i))
        ∙ ap (λ (l : List ℕ). place + number_place l code) (drop-cons used place 0 (omega (arith, used_length)))
        ∙ rw (eq-eqb (get_or used place 0) code here, number_place) (add-zero place) in
        sym (rw (its, used_length, lt-ltb place count h, then_some))

    pub missing : (place < count → get_or codes place 0 ≡ code → ⊥) → None ≡ found_place used code
    missing e = sym (rw (← none other, used_length, le-ltb count count (omega arith), then_some))
      where
        other : (k : ℕ) → k < count → get_or codes k 0 ≡ code → ⊥
        other k l i = go (dec_lt k place) (dec_lt place k)
          where
            go : Dec (k < place) → Dec (place < k) → ⊥
            go (yes h) d = let low = b k h in omega (arith, i)
            go (no h) (yes d) =
                let up = ordered.rise place k d l in
                let least = a place (omega arith) inside in
                omega (arith, i)
            go (no h) (no d) = let one : k ≡ place = omega (arith, h, d) in e (rw one at l) (rw one at i)
