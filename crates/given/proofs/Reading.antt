-- What a reader gives, one read after the other.
use Rattle.std.proofs.Common.{◌≡◌, ℕ, ◌+◌, ◌<◌, ◌≤◌, List, [], ◌++◌, length, take, drop, Option, None, Some, arith, sym, ap, ◌∙◌, subst}
use Rattle.std.proofs.Math.Seq.{take-append-add}
use Rattle.std.proofs.lemmas.Grind.{common_steps}
use Rattle.std.specs.Io.KnownBytes.{Consumes, IsAtEnd}
use Rattle.std.proofs.KnownBytes.{Consumes-trans}
use borrow.Rule.Slice.PartMut.{put_mid}
use Rattle.given.specs.Bytes.{Gave}

-- What a list begins with, after its part from a place on was written
begun : (a k n : ℕ) (xs ys : List ℕ) → a ≤ length xs → n ≤ length ys → take a xs ++ take n ys ≡ take (a + n) (put_mid a k xs ys)
begun a k n xs ys within fits =
    grind (arith, common_steps, take-append-add)

-- What a read gives into the part from a place on comes behind what stood before it
pub read_on : (a k n : ℕ) (xs ys : List ℕ) (before between after : Option (List ℕ)) → a ≤ length xs → n ≤ length ys
    → Consumes before between (take a xs) → Consumes between after (take n ys) → Consumes before after (take (a + n) (put_mid a k xs ys))
read_on a k n xs ys before between after within fits first second =
    subst (Consumes before after) (begun a k n xs ys within fits) (Consumes-trans before between after _ _ first second)

-- Where the room is full, or the reader is at its end, the first of its bytes were read
first_of : (room : ℕ) (text others : List ℕ) → length text ≤ room → (length text < room → others ≡ []) → text ≡ take room (text ++ others)
first_of room text others within end = grind (arith, common_steps)

-- ... and it has the others left
left_of : (room : ℕ) (text others : List ℕ) → length text ≤ room → (length text < room → others ≡ []) → others ≡ drop room (text ++ others)
left_of room text others within end = grind (arith, common_steps)

-- What was read in all
pub read_all : (room : ℕ) (text : List ℕ) (before after : Option (List ℕ)) → length text ≤ room
    → (length text < room → IsAtEnd after) → Consumes before after text → Gave before after room text
read_all room text None after within end lost = tt
read_all room text (Some bytes) None within end lost = absurd lost
read_all room text (Some bytes) (Some others) within end lost =
    (first_of room text others within end ∙ ap (take room) (sym lost), ap (λ xs. Some xs) (left_of room text others within end ∙ ap (drop room) (sym lost)))

-- What is read of known bytes is fixed, and so is what is left of them
pub gave_once : (room : ℕ) (bytes text other : List ℕ) (after behind : Option (List ℕ)) → Gave (Some bytes) after room text
    → Gave (Some bytes) behind room other → (text ≡ other) × (after ≡ behind)
gave_once room bytes text other after behind first second = (first.0 ∙ sym second.0, first.1 ∙ sym second.1)
