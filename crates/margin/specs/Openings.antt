-- The opening positions of all currencies, from the securities and what their trades sum up to.
use Rattle.std.specs.Prelude.{ℕ, zero, suc, ◌+◌, ◌≤◌, ◌<◌, List, [], ◌∷◌, pos, length, get_or, set, replicate}
use Rattle.paper.specs.Units.{Class, SignedCents, SignedWhole}
use Rattle.paper.specs.Rounding.{rounded}
use Rattle.paper.specs.Signs.{above_zero, below_zero}
use Rattle.paper.specs.Offsetting.{position}
use Rattle.tables.specs.Blanks.{no_security}
use Rattle.tables.specs.declared.Security.{Security}
use Rattle.offsetting.specs.declared.Book.{Book}
use Rattle.margin.specs.Sums.{gathered}

-- Something for each of so many ranks from one on
abbrev pub from_rank : {A : Type 0} → (ℕ → A) → ℕ → ℕ → List A
from_rank make zero rank = []
from_rank make (suc many) rank = make rank ∷ from_rank make many (suc rank)

-- A security's net in whole units, with its class and the rank of its currency
pub record Net : Type 0 where
  pub rank : ℕ
  pub class : Class
  pub net : SignedWhole

-- The net of the security at a place; worths in cents
abbrev pub net_at : List Security → List SignedCents → ℕ → Net
net_at ss worths i =
    let s = get_or ss i no_security in
    record { rank = s.currency; class = s.class; net = rounded (get_or worths i (pos 0)) 100 }

-- The nets of all securities
abbrev pub nets_of : List Security → List SignedCents → List Net
nets_of ss worths = from_rank (net_at ss worths) (length ss) 0

-- No positions
abbrev pub no_book : Book
no_book = record { long = replicate 41 0; short = replicate 41 0 }

-- Positions with a net more in a class, whole units: one above zero is long, and one below zero short
abbrev pub with_net : Class → SignedWhole → Book → Book
with_net class net b =
    record {
      long = set b.long class (position b.long class + above_zero net);
      short = set b.short class (position b.short class + below_zero net);
    }

-- The positions in each of eight currencies, from nets
abbrev pub openings_of : List Net → List Book
openings_of = gathered (λ n b. with_net n.class n.net b) no_book 8 (λ n. n.rank) (λ n. n)

-- A security whose class and currency have a place
pub record Seated (s : Security) : Type 0 where
  pub class : s.class ≤ 40
  pub currency : s.currency < 8
