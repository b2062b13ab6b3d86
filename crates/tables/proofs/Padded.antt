-- Laws of a column of a fixed size: one entry more, and what stands in front; so of the codes of S rows.
use Prim.Native.Nat.{ℕ, zero, suc, ◌+◌, ◌-◌, ◌≤◌, ◌<◌}
use native.Mathlib.Omega.{arith}
use mathlib.Core.List.{List, [], ◌∷◌, ◌++◌, map, map-append, reverse, reverse-cons}
use mathlib.Core.Path.{◌≡◌, refl, sym, ap, ◌∙◌}
use lib.ListN.{length, take, set, replicate, length-append, length-map, length-reverse}
use lib.Seq.{take-take, take-append_seam, take-append-add, append_snoc, set-append_seam, take-set-lt}
use Rattle.std.proofs.lemmas.List.{length-take-le, length-set, take_more_set, set-append_left}
use Rattle.paper.specs.Rows.{SecurityRow}
use Rattle.tables.specs.Padded.{padded}
use Rattle.tables.specs.Numbers.{code_number, highest}
use Rattle.tables.specs.Held.{codes_of}

-- So many of one thing, up to so many
take_replicate : {H : Type 0} (m k : ℕ) (x : H) → m ≤ k → take m (replicate k x) ≡ replicate m x
take_replicate zero k x h = refl
take_replicate (suc m) zero x h = absurd (omega arith)
take_replicate (suc m) (suc k) x h = ap (λ (l : List _). x ∷ l) (take_replicate m k x (omega arith))

-- A column that holds nothing
pub padded_none : {H : Type 0} (most : ℕ) (x : H) → padded most x [] ≡ replicate most x
padded_none most x = take_replicate most most x (omega arith)

-- A column as what it holds and what is free
pub padded_parts : {H : Type 0} (most free k : ℕ) (x : H) (hs : List H) → most ≡ length hs + free → free ≤ k
    → take most (hs ++ replicate k x) ≡ hs ++ replicate free x
padded_parts most free k x hs e h =
    ap (λ (n : ℕ). take n (hs ++ replicate k x)) e ∙ take-append-add hs (replicate k x) free
    ∙ ap (λ (l : List _). hs ++ l) (take_replicate free k x h)

-- An entry more in a column that has room
pub padded_more : {H : Type 0} (most : ℕ) (x h : H) (hs : List H) → length hs < most
    → set (padded most x hs) (length hs) h ≡ padded most x (hs ++ (h ∷ []))
padded_more {H} most x h hs l = go (most - suc (length hs)) (omega arith)
  where
    go : (free : ℕ) → most ≡ length hs + suc free → set (padded most x hs) (length hs) h ≡ padded most x (hs ++ (h ∷ []))
    go free e =
        ap (λ (t : List H). set t (length hs) h) (padded_parts most (suc free) most x hs e (omega arith))
        ∙ set-append_seam hs x (replicate free x) h
        ∙ sym (append_snoc hs h (replicate free x))
        ∙ sym (padded_parts most free most x (hs ++ (h ∷ [])) (omega (arith, length-append hs (h ∷ []))) (omega arith))

-- What a column holds stands in front
pub padded_front : {H : Type 0} (most : ℕ) (x : H) (hs : List H) → length hs ≤ most → take (length hs) (padded most x hs) ≡ hs
padded_front most x hs h = take-take (length hs) most (hs ++ replicate most x) h ∙ take-append_seam hs (replicate most x)

-- A column that is the entries in front of it, so many, and what stands for none behind them
abbrev Filled : {H : Type 0} → ℕ → H → ℕ → List H → Type 0
Filled most x count ps = (count ≤ length ps) × (length ps ≡ most) × (ps ≡ padded most x (take count ps))

-- ... is one with an entry more
pub filled_more : {H : Type 0} (most count : ℕ) (x h : H) (ps : List H) → Filled most x count ps → count < most → Filled most x (count + 1) (set ps count h)
filled_more {H} most count x h ps f l =
    let size : length (take count ps) ≡ count = length-take-le count ps f.0 in
    let stored : set ps count h ≡ padded most x (take count ps ++ (h ∷ [])) =
    ap (λ (qs : List H). set qs count h) f.2
    ∙ ap (λ (n : ℕ). set (padded most x (take count ps)) n h) (sym size)
    ∙ padded_more most x h (take count ps) (omega (arith, size)) in (
      omega (arith, length-set ps count h, f.1),
      length-set ps count h ∙ f.1,
      stored ∙ ap (padded most x) (sym (take_more_set ps count h (omega (arith, f.1)))),
    )

-- ... and with another entry in the place of one
pub filled_set : {H : Type 0} (most count i : ℕ) (x h : H) (ps : List H) → Filled most x count ps → i < count → Filled most x count (set ps i h)
filled_set {H} most count i x h ps f l =
    let size : length (take count ps) ≡ count = length-take-le count ps f.0 in
    let stored : set ps i h ≡ padded most x (set (take count ps) i h) =
    ap (λ (qs : List H). set qs i h) f.2
    ∙ sym (take-set-lt most (take count ps ++ replicate most x) i h (omega (arith, f.0, f.1)))
    ∙ ap (take most) (set-append_left (take count ps) (replicate most x) i h (omega (arith, size))) in (
      omega (arith, length-set ps i h, f.0),
      length-set ps i h ∙ f.1,
      stored ∙ ap (padded most x) (sym (take-set-lt count ps i h l)),
    )

-- Rows that were read, the nearest first, with one more
pub table_more : {R H : Type 0} (most : ℕ) (x : H) (held : R → H) (above : List R) {rows : List H} {count : ℕ}
    → rows ≡ padded most x (map held (reverse above)) → count ≡ length above → (r : R) → count < most
    → set rows count (held r) ≡ padded most x (map held (reverse (r ∷ above)))
table_more {R} {H} most x held above {rows} {count} table counted r l =
    let hs = map held (reverse above) in
    let size : count ≡ length hs = counted ∙ sym (length-reverse above) ∙ sym (length-map (reverse above) held) in
    ap (λ (rows : List H). set rows count (held r)) table
    ∙ ap (λ (n : ℕ). set (padded most x hs) n (held r)) size
    ∙ padded_more most x (held r) hs (omega arith)
    ∙ ap (padded most x) (sym (map-append held (reverse above) (r ∷ [])))
    ∙ ap (λ (l : List R). padded most x (map held l)) (sym (reverse-cons r above))

-- The rows that a table holds
pub table_front : {R H : Type 0} (most : ℕ) (x : H) (held : R → H) (rs : List R) → length rs ≤ most
    → take (length rs) (padded most x (map held rs)) ≡ map held rs
table_front most x held rs h =
    ap (λ (n : ℕ). take n (padded most x (map held rs))) (sym (length-map rs held))
    ∙ padded_front most x (map held rs) (omega (arith, length-map rs held))

-- The codes of S rows, the nearest first, with one more
pub codes_more : (above : List SecurityRow) {codes : List ℕ} {count : ℕ} → codes ≡ padded 256 highest (codes_of (reverse above)) → count ≡ length above
    → (s : SecurityRow) → count < 256 → set codes count (code_number s.code) ≡ padded 256 highest (codes_of (reverse (s ∷ above)))
codes_more above are counted s l = table_more 256 highest (λ (s : SecurityRow). code_number s.code) above are counted s l

-- ... stand in front in their column
pub codes_front : (ss : List SecurityRow) → length ss ≤ 256 → take (length ss) (padded 256 highest (codes_of ss)) ≡ codes_of ss
codes_front ss h = table_front 256 highest (λ (s : SecurityRow). code_number s.code) ss h
