-- The opening positions of one currency among those of all: their sums are the paper's.
use Prim.Native.Nat.{ℕ, ◌<◌}
use mathlib.Core.Bool.{Bool, true, false}
use mathlib.Core.List.{List, ◌∷◌, map}
use mathlib.Core.Path.{◌≡◌, refl, sym, ap, ◌∙◌}
use borrow.Author.Tests.{eqb-true, eqb-false}
use lib.Dec.{eqb}
use lib.ListN.{get_or, get_or-replicate}
use Rattle.paper.specs.Units.{Class, SignedWhole}
use Rattle.paper.specs.Lists.{only, Each, nil, cons}
use Rattle.paper.specs.Offsetting as paper
use Rattle.paper.specs.Offsetting.{Netted, opening, summed}
use Rattle.paper.proofs.Lists.{only_kept, only_left}
use Rattle.offsetting.specs.Books.{book_of, held_book}
use Rattle.offsetting.specs.declared.Book.{Book}
use Rattle.margin.specs.Openings.{Net, no_book, with_net, openings_of}
use Rattle.margin.proofs.Gathered.{gathered_own, gathered_other}

-- Entries that have a net, of which those that pass a test have a rank
module _ {A : Type 0} (test : A → Bool) (netted : A → Netted) (net : A → Net) (rank : ℕ) (low : rank < 8) where
  -- What is asked of an entry: its rank, class and net are those of the paper
  abbrev Ranked : A → Type 0
  Ranked x = (test x ≡ eqb (net x).rank rank) × ((net x).class ≡ (netted x).class) × ((net x).net ≡ (netted x).net)

  -- The positions in the currency of the rank are the paper's: whole units
  pub rank_opened : {xs : List A} → Each Ranked xs → book_of (get_or (openings_of (map net xs)) rank no_book) ≡ opening (map netted (only test xs))
  unfolding summed
  rank_opened nil = ap book_of (get_or-replicate 8 rank no_book no_book low)
  rank_opened (cons {a = x} {rest = xs} (own, class, is) rest) = go (test x) refl (rank_opened rest)
    where
      grown : Class → SignedWhole → paper.Book → paper.Book
      grown class net b = book_of (with_net class net (held_book b))

      books : List Book
      books = openings_of (map net xs)

      go : (b : Bool) → test x ≡ b → book_of (get_or books rank no_book) ≡ opening (map netted (only test xs))
          → book_of (get_or (openings_of (map net (x ∷ xs))) rank no_book) ≡ opening (map netted (only test (x ∷ xs)))
      go true e more =
          ap book_of (gathered_own (λ n b. with_net n.class n.net b) no_book 8 (λ n. n.rank) (λ n. n) (net x) (map net xs) rank low (eqb-true _ _ (sym own ∙ e)))
          ∙ ap (grown (net x).class (net x).net) more
          ∙ rw (only_kept test x xs e, class, is)
      go false e more =
          ap book_of (gathered_other (λ n b. with_net n.class n.net b) no_book 8 (λ n. n.rank) (λ n. n) (net x) (map net xs) rank (eqb-false _ _ (sym own ∙ e)))
          ∙ more
          ∙ sym (ap (λ (ys : List A). opening (map netted ys)) (only_left test x xs e))
