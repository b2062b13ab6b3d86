-- A text that is cut behind so many of its lines.
use Prim.Native.Nat.{ℕ, zero, suc, ◌≤◌}
use native.Mathlib.Omega.{arith}
use mathlib.Core.Bool.{Bool, true, false, not}
use mathlib.Core.List.{List, [], ◌∷◌, ◌++◌}
use mathlib.Core.Path.{◌≡◌, refl, sym, ap, ◌∙◌, subst}
use borrow.Author.Tests.{eqb-true, not-true}
use lib.Dec.{eqb}
use lib.Seq.{take-nil}
use lib.ListN.{length, take}
use Rattle.paper.specs.Units.{Byte, Text, Fields}
use Rattle.paper.specs.Lists.{every}
use Rattle.paper.specs.Text.{LF, lines, same}
use Rattle.paper.specs.Demands.{first_lines}
use Rattle.paper.proofs.Lists.{every_cons}
use Rattle.paper.proofs.Lines.{joined_first, lines_ended, lines_joined}

-- LF ends a line, and another byte does not
past_lf : (n : ℕ) (b : Byte) (bs : Text) → eqb b LF ≡ true → first_lines (suc n) (b ∷ bs) ≡ b ∷ first_lines n bs
past_lf n b bs e = rw (e, first_lines)

past_other : (n : ℕ) (b : Byte) (bs : Text) → eqb b LF ≡ false → first_lines (suc n) (b ∷ bs) ≡ b ∷ first_lines (suc n) bs
past_other n b bs e = rw (e, first_lines)

-- So a cut is made byte by byte
byte_cut : (P : Text → Type 0) (n : ℕ) (b : Byte) (bs : Text) → (eqb b LF ≡ true → P (b ∷ first_lines n bs))
    → (eqb b LF ≡ false → P (b ∷ first_lines (suc n) bs)) → P (first_lines (suc n) (b ∷ bs))
byte_cut P n b bs past joined = go (eqb b LF) refl
  where
    go : (ends : Bool) → eqb b LF ≡ ends → P (first_lines (suc n) (b ∷ bs))
    go true e = subst P (sym (past_lf n b bs e)) (past e)
    go false e = subst P (sym (past_other n b bs e)) (joined e)

-- The lines of a text that is cut behind so many are the first of its lines
pub lines_cut : (n : ℕ) (t : Text) → lines (first_lines n t) ≡ take n (lines t)
unfolding lines
lines_cut zero t = refl
lines_cut (suc n) [] = refl
lines_cut (suc n) (b ∷ bs) =
    byte_cut (λ t. lines t ≡ take (suc n) (lines (b ∷ bs))) n b bs
    (λ e.
    subst (λ (c : Byte). lines (c ∷ first_lines n bs) ≡ take (suc n) (lines (c ∷ bs))) (sym (eqb-true b LF e))
    (lines_ended (first_lines n bs) ∙ ap (λ (fss : List Fields). ([] ∷ []) ∷ fss) (lines_cut n bs)
    ∙ sym (ap (take (suc n)) (lines_ended bs))))
    (λ e.
    lines_joined b (first_lines (suc n) bs) e ∙ ap (joined_first b) (lines_cut (suc n) bs) ∙ kept (lines bs)
    ∙ sym (ap (take (suc n)) (lines_joined b bs e)))
  where
    kept : (fss : List Fields) → joined_first b (take (suc n) fss) ≡ take (suc n) (joined_first b fss)
    kept [] = ap (λ (fss : List Fields). [] ∷ fss) (sym (take-nil n))
    kept ([] ∷ fss) = refl
    kept ((f ∷ fs) ∷ fss) = refl

-- It has no more bytes
pub cut_shorter : (n : ℕ) (t : Text) → length (first_lines n t) ≤ length t
cut_shorter zero t = omega arith
cut_shorter (suc n) [] = omega arith
cut_shorter (suc n) (b ∷ bs) =
    byte_cut (λ t. length t ≤ suc (length bs)) n b bs (λ e. omega (arith, cut_shorter n bs)) (λ e. omega (arith, cut_shorter (suc n) bs))

-- A text in which only the last byte may be LF stands at the start of a sheet exactly where it stands at the start of its
-- first line
pub starts_alike : (p : Text) (last : Byte) (t : Text) → every (λ b. not (eqb b LF)) p ≡ true
    → same (p ++ (last ∷ [])) (take (suc (length p)) (first_lines 1 t)) ≡ same (p ++ (last ∷ [])) (take (suc (length p)) t)
starts_alike p last [] h = refl
starts_alike [] last (b ∷ bs) h =
    byte_cut (λ t. same (last ∷ []) (take 1 t) ≡ same (last ∷ []) (b ∷ [])) 0 b bs (λ e. refl) (λ e. refl)
starts_alike (c ∷ p) last (b ∷ bs) h =
    let (other, rest) = every_cons (λ b. not (eqb b LF)) c p h in
    go (eqb c b) refl (not-true (eqb c LF) other) (starts_alike p last bs rest)
  where
    whole : Text
    whole = c ∷ (p ++ (last ∷ []))

    alike : Text → Type 0
    alike t = same whole (take (suc (suc (length p))) t) ≡ same whole (take (suc (suc (length p))) (b ∷ bs))

    behind : Text → Bool
    behind t = same (p ++ (last ∷ [])) (take (suc (length p)) t)

    go : (equal : Bool) → eqb c b ≡ equal → eqb c LF ≡ false → behind (first_lines 1 bs) ≡ behind bs → alike (first_lines 1 (b ∷ bs))
    go false e other below = byte_cut alike 0 b bs (λ k. rw (e, same)) (λ k. rw (e, same))
    go true e other below =
        let goes_on : eqb b LF ≡ false = ap (λ (b : Byte). eqb b LF) (sym (eqb-true c b e)) ∙ other in
        subst alike (sym (past_other 0 b bs goes_on)) (ap (λ (r : Bool). elim (eqb c b) [ true ↦ r | false ↦ false ]) below)
