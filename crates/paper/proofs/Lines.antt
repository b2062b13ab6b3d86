-- Laws of text as lines and fields: it is cut at its marks and put together again, and nothing is lost on either
-- way; and which lines a text has that is put together of lines.
use Prim.Native.Nat.{◌≤◌}
use native.Mathlib.Omega.{arith}
use mathlib.Core.Bool.{Bool, true, false, not, ◌&&◌}
use mathlib.Core.List.{List, [], ◌∷◌, ◌++◌, map, append-nil, append_assoc}
use mathlib.Core.Path.{◌≡◌, refl, sym, ap, ◌∙◌, subst}
use borrow.Author.Tests.{eqb-true, eq-eqb, not-true}
use lib.Dec.{eqb}
use lib.ListN.{length, length-append}
use Rattle.paper.specs.Units.{Byte, Text, Fields}
use Rattle.paper.specs.Lists.{joined_up, every}
use Rattle.paper.specs.Text.{LF, semicolon, pieced, pieces, lines_of, lines, parted, line_of}
use Rattle.paper.specs.Reasons.{HasLine}
use Rattle.paper.proofs.Lists.{never, both, every_step, every_cons, every_append, every_weaker, Among, joined_parts, joined_among}

-- Neither `;` nor LF
abbrev pub plain : Byte → Bool
plain b = not (eqb b semicolon) && not (eqb b LF)

-- A line with a field
abbrev pub filled : Fields → Bool
filled [] = false
filled (f ∷ fs) = true

-- A line that is read as it was written: it has a field, and no field holds a mark
abbrev pub proper : Fields → Bool
proper fs = filled fs && every (every plain) fs

-- A text has pieces
pieces_filled : (mark : Byte) (t : Text) → filled (pieces mark t) ≡ true
pieces_filled mark [] = refl
pieces_filled mark (b ∷ bs) = go (eqb b mark) (pieces mark bs)
  where
    go : (c : Bool) (ps : List Text) → filled (pieced c b ps) ≡ true
    go true ps = refl
    go false [] = refl
    go false (p ∷ ps) = refl

-- A text cut at its marks and put together again is the text
pub parted_pieces : (mark : Byte) (t : Text) → parted mark (pieces mark t) ≡ t
parted_pieces mark [] = refl
parted_pieces mark (b ∷ bs) =
    go (eqb b mark) refl (pieces mark bs) (pieces_filled mark bs) ∙ ap (λ (t : Text). b ∷ t) (parted_pieces mark bs)
  where
    go : (c : Bool) → eqb b mark ≡ c → (ps : List Text) → filled ps ≡ true
        → parted mark (pieced c b ps) ≡ b ∷ parted mark ps
    go c e [] h = never h
    go true e (p ∷ ps) h = rw (eqb-true b mark e)
    go false e (p ∷ []) h = refl
    go false e (p ∷ q ∷ ps) h = refl

-- Not the mark
abbrev other : Byte → Byte → Bool
other mark b = not (eqb b mark)

-- Bytes other than the mark, before a text, join its first piece
joined : (mark : Byte) (p t q : Text) (qs : List Text) → every (other mark) p ≡ true → pieces mark t ≡ q ∷ qs
    → pieces mark (p ++ t) ≡ (p ++ q) ∷ qs
joined mark [] t q qs h e = e
joined mark (b ∷ p) t q qs h e =
    let k = every_cons (other mark) b p h in
    rw (not-true (eqb b mark) k.0, joined mark p t q qs k.1 e)

-- So a text up to a mark is a piece, and so is one without marks
pieces_mark : (mark : Byte) (p t : Text) → every (other mark) p ≡ true
    → pieces mark (p ++ (mark ∷ t)) ≡ p ∷ pieces mark t
pieces_mark mark p t h =
    rw (append-nil p) at (joined mark p (mark ∷ t) [] (pieces mark t) h (rw (eq-eqb mark mark refl)))

pieces_none : (mark : Byte) (p : Text) → every (other mark) p ≡ true → pieces mark p ≡ p ∷ []
pieces_none mark p h = rw (append-nil p) at (joined mark p [] [] [] h refl)

-- Pieces without the mark, put together and cut again, are the pieces
pieces_parted : (mark : Byte) (ps : List Text) → filled ps ≡ true → every (every (other mark)) ps ≡ true
    → pieces mark (parted mark ps) ≡ ps
pieces_parted mark [] f h = never f
pieces_parted mark (p ∷ []) f h = pieces_none mark p (every_cons (every (other mark)) p [] h).0
pieces_parted mark (p ∷ q ∷ ps) f h =
    let k = every_cons (every (other mark)) p (q ∷ ps) h in
    pieces_mark mark p (parted mark (q ∷ ps)) k.0
    ∙ ap (λ (r : List Text). p ∷ r) (pieces_parted mark (q ∷ ps) refl k.1)

-- What the mark passes and each byte of each piece passes, each byte of the whole passes
every_parted : (test : Byte → Bool) (mark : Byte) (ps : List Text) → test mark ≡ true → every (every test) ps ≡ true
    → every test (parted mark ps) ≡ true
every_parted test mark [] m h = refl
every_parted test mark (p ∷ []) m h = (every_cons (every test) p [] h).0
every_parted test mark (p ∷ q ∷ ps) m h =
    let k = every_cons (every test) p (q ∷ ps) h in
    every_append test p (mark ∷ parted mark (q ∷ ps)) k.0
    (rw (every_step test mark (parted mark (q ∷ ps)), m) (every_parted test mark (q ∷ ps) m k.1))

-- A piece that a mark ends is a line
lines_of_cons : (p : Text) (ps : List Text) → filled ps ≡ true → lines_of (p ∷ ps) ≡ pieces semicolon p ∷ lines_of ps
lines_of_cons p [] h = never h
lines_of_cons p (q ∷ ps) h = refl

-- A line that is written before a text is the first line of the whole
pub line_first : (fs : Fields) (t : Text) → proper fs ≡ true → lines (line_of fs ++ t) ≡ fs ∷ lines t
unfolding lines
line_first fs t h =
    let p = parted semicolon fs in
    let k = both (filled fs) (every (every plain) fs) h in
    let no_lf = every_parted (other LF) semicolon fs refl (without LF (λ b e. (plain_both b e).1) k.1) in
    let no_semicolon = without semicolon (λ b e. (plain_both b e).0) k.1 in
    ap (λ (r : Text). lines r) (append_assoc p (LF ∷ []) t)
    ∙ ap lines_of (pieces_mark LF p t no_lf)
    ∙ lines_of_cons p (pieces LF t) (pieces_filled LF t)
    ∙ ap (λ (r : Fields). r ∷ lines t) (pieces_parted semicolon fs k.0 no_semicolon)
  where
    plain_both : (b : Byte) → plain b ≡ true → (other semicolon b ≡ true) × (other LF b ≡ true)
    plain_both b e = both (other semicolon b) (other LF b) e

    without : (mark : Byte) → ((b : Byte) → plain b ≡ true → other mark b ≡ true) → every (every plain) fs ≡ true
        → every (every (other mark)) fs ≡ true
    without mark f = every_weaker (every plain) (every (other mark)) (every_weaker plain (other mark) f) fs

-- Lines that are written are read again
pub lines_written : (fss : List Fields) → every proper fss ≡ true → lines (joined_up (map line_of fss)) ≡ fss
unfolding lines
lines_written [] h = refl
lines_written (fs ∷ fss) h =
    let k = every_cons proper fs fss h in
    line_first fs (joined_up (map line_of fss)) k.0 ∙ ap (λ (r : List Fields). fs ∷ r) (lines_written fss k.1)

-- Lines that are read, each ended by LF, are written as they were
pub written_lines : (t : Text) → every filled (lines t) ≡ true → joined_up (map line_of (lines t)) ≡ t
unfolding lines
written_lines t h = go (pieces LF t) h ∙ parted_pieces LF t
  where
    go : (ps : List Text) → every filled (lines_of ps) ≡ true → joined_up (map line_of (lines_of ps)) ≡ parted LF ps
    go [] e = refl
    go ([] ∷ []) e = refl
    go ((b ∷ bs) ∷ []) e = never e
    go (p ∷ q ∷ ps) e =
        let k = every_cons filled (pieces semicolon p) (lines_of (q ∷ ps)) e in
        rw (parted_pieces semicolon p, append_assoc p, go (q ∷ ps) k.1)

-- A text has no more lines than bytes
pub lines_fewer : (t : Text) → length (lines t) ≤ length t
unfolding lines
lines_fewer t = rw (parted_pieces LF t) at (go (pieces LF t))
  where
    go : (ps : List Text) → length (lines_of ps) ≤ length (parted LF ps)
    go [] = omega arith
    go ([] ∷ []) = omega arith
    go ((b ∷ bs) ∷ []) = omega arith
    go (p ∷ q ∷ ps) = omega (arith, go (q ∷ ps), length-append p (LF ∷ parted LF (q ∷ ps)))

-- A text that begins with LF has an empty line first
pub lines_ended : (t : Text) → lines (LF ∷ t) ≡ ([] ∷ []) ∷ lines t
unfolding lines
lines_ended t = lines_of_cons [] (pieces LF t) (pieces_filled LF t)

-- Another byte joins the first line; where there is none, or one without LF, that has no LF either
abbrev pub joined_first : Byte → List Fields → List Fields
joined_first b [] = [] ∷ []
joined_first b ([] ∷ fss) = [] ∷ fss
joined_first b ((f ∷ fs) ∷ fss) = pieced (eqb b semicolon) b (f ∷ fs) ∷ fss

pub lines_joined : (b : Byte) (t : Text) → eqb b LF ≡ false → lines (b ∷ t) ≡ joined_first b (lines t)
unfolding lines
lines_joined b t e = rw e (go (pieces LF t) (pieces_filled LF t))
  where
    first : (fs : Fields) (fss : List Fields) → filled fs ≡ true → pieced (eqb b semicolon) b fs ∷ fss ≡ joined_first b (fs ∷ fss)
    first [] fss h = never h
    first (f ∷ fs) fss h = refl

    go : (ps : List Text) → filled ps ≡ true → lines_of (pieced false b ps) ≡ joined_first b (lines_of ps)
    go [] h = never h
    go ([] ∷ []) h = refl
    go ((c ∷ p) ∷ []) h = refl
    go (p ∷ q ∷ ps) h = first (pieces semicolon p) (lines_of (q ∷ ps)) (pieces_filled semicolon p)

-- ---- a text of lines

-- A text is lines, each by its fields
abbrev pub IsLines : Text → Type 0
IsLines text = (all : List Fields) × (text ≡ joined_up (map line_of all))

-- One line is
pub line_is : (fs : Fields) → IsLines (line_of fs)
line_is fs = (fs ∷ [], sym (append-nil (line_of fs)))

-- Two such texts, one behind the other, are
pub both_are : {a b : Text} → IsLines a → IsLines b → IsLines (a ++ b)
both_are (above, e) (below, k) = (above ++ below, rw (e, k) (sym (joined_parts line_of above below)))

-- So are pieces
pub all_are : {R : Type 0} (piece : R → Text) → ((r : R) → IsLines (piece r)) → (rs : List R) → IsLines (joined_up (map piece rs))
all_are piece each [] = ([], refl)
all_are piece each (r ∷ rs) = both_are (each r) (all_are piece each rs)

-- A line of one of them is a line of both
pub line_above : {a b : Text} (fs : Fields) → HasLine fs a → IsLines b → HasLine fs (a ++ b)
line_above fs (above, (below, e)) (rest, k) = (
  above,
  (
    below ++ rest,
    rw (e, k)
        (sym (joined_parts line_of (above ++ (fs ∷ below)) rest)
        ∙ ap (λ (l : List Fields). joined_up (map line_of l)) (append_assoc above (fs ∷ below) rest)),
  ),
)

pub line_below : {a b : Text} (fs : Fields) → IsLines a → HasLine fs b → HasLine fs (a ++ b)
line_below fs (rest, k) (above, (below, e)) = (
  rest ++ above,
  (
    below,
    rw (e, k)
        (sym (joined_parts line_of rest (above ++ (fs ∷ below)))
        ∙ ap (λ (l : List Fields). joined_up (map line_of l)) (sym (append_assoc rest above (fs ∷ below)))),
  ),
)

-- ... and one of a piece is a line of all pieces
pub line_among : {R : Type 0} (piece : R → Text) → ((r : R) → IsLines (piece r)) → {r : R} {rs : List R} → Among r rs
    → (fs : Fields) → HasLine fs (piece r) → HasLine fs (joined_up (map piece rs))
line_among piece each among fs h =
    subst (HasLine fs) (sym (joined_among piece among))
    (line_below fs (all_are piece each among.0) (line_above fs h (all_are piece each among.1)))
