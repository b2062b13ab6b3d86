-- Offsetting and margins (01, "Offsetting" and "Class margin"; 000 III and IV, 001 articles 3.2 and 3.3).
use Rattle.std.specs.Prelude.{zero, suc, ◌+◌, ◌-◌, ◌*◌, min, max, true, false, List, [], ◌∷◌, map, eqb, pos, ◌-ℤ◌, get_or, set}
use Rattle.std.proofs.Math.Option
use Rattle.paper.specs.Units.{Class, Code, Currency, Factor, Cents, SignedCents, Whole, SignedWhole}
use Rattle.paper.specs.Lists.{only}
use Rattle.paper.specs.Rounding.{nearest}
use Rattle.paper.specs.Signs.{above_zero, below_zero}
use Rattle.paper.specs.Text.{same}
use Rattle.paper.specs.Rows.{ClassRow, PriorityRow, SecurityRow, Tables}
use Rattle.paper.specs.Valuation.{Valued, valued_in, signed_worths_in, net_of, class_of}

-- The positions of all classes in one currency, whole units: the list has each class's at the place of its number
pub record Book : Type 0 where
  pub long : List Whole
  pub short : List Whole

-- The position of a class, whole units
abbrev pub position : List Whole → Class → Whole
position ps n = get_or ps n 0

-- A security by its code, with its class, and its net in whole units
pub record Netted : Type 0 where
  pub code : Code
  pub class : Class
  pub net : SignedWhole

-- The net of a security, from the margined trades
abbrev pub netted_in : List ClassRow → List Valued → SecurityRow → Netted
netted_in cs vs s =
    record {
      code = s.code;
      class = Option.get_or (class_of cs s.kind s.duration) 0;
      net = net_of (signed_worths_in s.code vs);
    }

-- The nets of a currency's securities
abbrev pub nets_in : Tables → List Valued → Currency → List Netted
nets_in t vs c = map (netted_in t.classes vs) (only (λ s. same s.currency c) t.securities)

-- No position, for the classes up to a number
abbrev pub flat : Class → List Whole
flat zero = 0 ∷ []
flat (suc n) = 0 ∷ flat n

-- One side of the nets, summed by class, whole units
unfoldable pub summed : (SignedWhole → Whole) → List Netted → List Whole
summed side [] = flat 40
summed side (n ∷ ns) =
    let ps = summed side ns in
    set ps n.class (position ps n.class + side n.net)

-- Long and short of each class (01, "Offsetting"), from the nets of one currency: those above zero, and those below
abbrev pub opening : List Netted → Book
opening ns = record { long = summed above_zero ns; short = summed below_zero ns }

-- A factor's share of an amount: ten-thousandths × whole units / 10,000
abbrev pub share : Factor → Whole → Whole
share factor amount = nearest (factor * amount) 10_000

-- What a factor takes of the long of one class and the short of another: its share of the smaller, whole units
abbrev pub taken : Factor → Class → Class → Book → Whole
taken factor n m b = share factor (min (position b.long n) (position b.short m))

-- An amount off the position of a class, whole units
abbrev pub less : Class → Whole → List Whole → List Whole
less n amount ps = set ps n (position ps n - amount)

-- The long of one class and the short of another, each less what is taken
abbrev pub offset : Factor → Class → Class → Book → Book
offset factor n m b =
    let amount = taken factor n m b in
    record { long = less n amount b.long; short = less m amount b.short }

-- A row: one class against itself, or the long of each class against the short of the other
unfoldable pub offset_row : PriorityRow → Book → Book
offset_row o b =
    elim (eqb o.first o.second) [
      | true ↦ offset o.factor o.first o.first b
      | false ↦ offset o.factor o.second o.first (offset o.factor o.first o.second b)
    ]

-- A row's turn: the positions that it met, and those that it left, whole units
pub record Turn : Type 0 where
  pub met : Book
  pub left : Book

-- The walk: all rows in their order, each from what the one before left
abbrev pub turns : List PriorityRow → Book → List Turn
turns [] b = []
turns (o ∷ os) b = record { met = b; left = offset_row o b } ∷ turns os (offset_row o b)

-- What the last turn left, of turns that began with a book
abbrev pub last_left : Book → List Turn → Book
last_left b [] = b
last_left b (u ∷ us) = last_left u.left us

-- What all rows leave
unfoldable pub offset_all : List PriorityRow → Book → Book
offset_all os b = last_left b (turns os b)

-- The opening positions of a currency, whole units
abbrev pub opening_in : Tables → Currency → Book
opening_in t c = opening (nets_in t (valued_in t) c)

-- ... and what all rows leave of them
abbrev pub remaining_in : Tables → Currency → Book
remaining_in t c = offset_all t.priorities (opening_in t c)

-- Class margin (01): deposit factor × larger remaining side / 10,000, whole units
abbrev pub margin : Factor → Whole → Whole → Whole
margin deposit long short = share deposit (max long short)

-- Total (01): 100 × initial - mark-to-market, in cents, or 0 where that is below zero
abbrev pub total : Whole → SignedCents → Cents
total initial mark = above_zero (pos (100 * initial) -ℤ mark)
