-- Laws of an explanation's nets: what they add up to, whose they are, and which are left out.
use Prim.Native.Nat.{zero, suc, ◌+◌, ◌≤◌}
use native.Mathlib.Omega.{arith}
use mathlib.Core.Bool.{Bool, true, false}
use mathlib.Core.List.{List, [], ◌∷◌, map}
use mathlib.Core.Option.{Option, none, some, get_or}
use mathlib.Core.Path.{◌≡◌, refl, sym, ap, ◌∙◌}
use borrow.Author.Tests.{eqb-true, eqb-false, eq-eqb, ltb-true, ltb-false}
use lib.Dec.{eqb}
use lib.IntN.{pos, negsuc, nat_abs}
use lib.ListN.{length, set, length-set}
use lib.Seq.{get_or-set_same, get_or-set_other}
use Rattle.paper.specs.Units.{Class, Currency, Whole, SignedWhole}
use Rattle.paper.specs.Lists.{sum, only, Each, InOrder}
use Rattle.paper.specs.Text.{same, before}
use Rattle.paper.specs.Rows.{SecurityRow, Tables}
use Rattle.paper.specs.Valuation.{valued_in, security_of, class_of}
use Rattle.paper.specs.Offsetting.{position, Netted, netted_in, nets_in, summed}
use Rattle.paper.specs.Explanation.{is_net, listed}
use Rattle.paper.specs.Reasons.{NetSo, NetListed}
use Rattle.paper.specs.Tables.{Admitted}
use Rattle.paper.proofs.Lists.{both, each_map, each_self, each_kept, kept_each, none_kept, each_made, made_each, order_only, order_made}
use Rattle.paper.proofs.Rules.{security_order, each_code}
use Rattle.paper.proofs.Order.{same_refl}
use Rattle.paper.proofs.Totals.{flat_zero}

-- A net that fails the test is 0, and one that passes it is not
net_none : (net : SignedWhole) → is_net net ≡ false → net ≡ pos 0
net_none (pos zero) e = refl
net_none (pos (suc n)) e = absurd (omega (arith, ltb-false 0 (suc n) e))
net_none (negsuc n) e = absurd (omega (arith, ltb-false 0 (suc n) e))

net_some : (net : SignedWhole) → is_net net ≡ true → net ≡ pos 0 → ⊥
net_some net e z = omega (arith, ltb-true 0 (nat_abs net) e, ap nat_abs z)

-- Positions by class have a place for each class up to 40
summed_length : (side : SignedWhole → Whole) (ns : List Netted) → length (summed side ns) ≡ 41
unfolding summed
summed_length side [] = refl
summed_length side (n ∷ ns) =
    let ps = summed side ns in
    length-set ps n.class (position ps n.class + side n.net) ∙ summed_length side ns

-- One side of nets, summed by class, is for each class the sum of those that are listed: whole units
pub summed_listed : (side : SignedWhole → Whole) → ((z : SignedWhole) → side z ≤ nat_abs z) → (c : Class) → c ≤ 40
    → (ns : List Netted) → position (summed side ns) c ≡ sum (map (λ n. side n.net) (only (listed c) ns))
unfolding summed
summed_listed side within c known [] = flat_zero 40 c
summed_listed side within c known (n ∷ ns) =
    go (eqb n.class c) refl (is_net n.net) refl (summed_listed side within c known ns)
  where
    ps : List Whole
    ps = summed side ns

    more : Whole
    more = position ps n.class + side n.net

    there : eqb n.class c ≡ true → position (set ps n.class more) c ≡ position ps c + side n.net
    there e = rw (eqb-true n.class c e) (get_or-set_same ps c (position ps c + side n.net) 0 (omega (arith, summed_length side ns)))

    go : (x : Bool) → eqb n.class c ≡ x → (y : Bool) → is_net n.net ≡ y
        → position ps c ≡ sum (map (λ n. side n.net) (only (listed c) ns))
        → position (set ps n.class more) c ≡ sum (map (λ n. side n.net) (only (listed c) (n ∷ ns)))
    go true e true k rest = rw (e, k, only) (omega (arith, there e))
    go true e false k rest = rw (e, k, only) (omega (arith, there e, within n.net, ltb-false 0 (nat_abs n.net) k))
    go false e y k rest = rw (e, only) (get_or-set_other ps n.class c more 0 (λ z. eqb-false n.class c e (sym z)) ∙ rest)

-- A class that is 1 or more, where no class counts as 0, is there
class_there : (o : Option Class) (n : Class) → 1 ≤ n → get_or o 0 ≡ n → o ≡ some n
class_there none n low e = absurd (omega arith)
class_there (some m) n low e = ap some e

-- A listed net is that of a security of the currency and the class, found under its code, and it is not zero
pub listed_own : (t : Tables) → Admitted t → (c : Currency) (n : Class) → 1 ≤ n
    → Each (NetSo t c n) (only (listed n) (nets_in t (valued_in t) c))
listed_own t a c n low =
    each_kept (listed n) (nets_in t (valued_in t) c)
    (each_made net (only (λ s. same s.currency c) t.securities)
    (each_kept (λ s. same s.currency c) t.securities (each_map own (each_code t.classes t.securities a.3))))
  where
    net : SecurityRow → Netted
    net = netted_in t.classes (valued_in t)

    own : (s : SecurityRow) → security_of t.securities s.code ≡ some s → same s.currency c ≡ true → listed n (net s) ≡ true
        → NetSo t c n (net s)
    own s found currency e =
        let (class, some_net) = both (eqb (net s).class n) (is_net (net s).net) e in
        record {
          security = s;
          found = found;
          belongs =
              record {
                currency = currency;
                class = class_there (class_of t.classes s.kind s.duration) n low (eqb-true (net s).class n class);
              };
          net = refl;
          some = net_some (net s).net some_net;
        }

-- A security of the currency and the class whose net is not listed has a net of 0
pub listed_all : (t : Tables) (c : Currency) (n : Class)
    → Each (NetListed t c n (only (listed n) (nets_in t (valued_in t) c))) t.securities
listed_all t c n = each_map left_out (each_self ss unlisted)
  where
    ss : List SecurityRow
    ss = t.securities

    net : SecurityRow → Netted
    net = netted_in t.classes (valued_in t)

    nets : List Netted
    nets = only (listed n) (nets_in t (valued_in t) c)

    Unlisted : SecurityRow → Type 0
    Unlisted s = only (λ p. same p.code s.code) nets ≡ []

    OtherCode : SecurityRow → SecurityRow → Type 0
    OtherCode s r = same r.currency c ≡ true → listed n (net r) ≡ true → same r.code s.code ≡ true → ⊥

    unlisted : (s : SecurityRow) → Unlisted s → Each (OtherCode s) ss
    unlisted s e =
        kept_each (λ s. same s.currency c) ss
        (made_each net (only (λ s. same s.currency c) ss)
        (kept_each (listed n) (nets_in t (valued_in t) c) (none_kept (λ p. same p.code s.code) nets e)))

    left_out : (s : SecurityRow) → (Unlisted s → OtherCode s s) → NetListed t c n nets s
    left_out s other belongs e = go (is_net (net s).net) refl
      where
        go : (b : Bool) → is_net (net s).net ≡ b → (net s).net ≡ pos 0
        go true k = absurd (other e belongs.currency (rw (belongs.class, eq-eqb n n refl, k)) (same_refl s.code))
        go false k = net_none (net s).net k

-- They are in sheet order, in which codes rise
pub listed_order : (t : Tables) → Admitted t → (c : Currency) (n : Class)
    → InOrder (λ p q. before p.code q.code) (only (listed n) (nets_in t (valued_in t) c))
listed_order t a c n =
    let own = only (λ s. same s.currency c) t.securities in
    order_only (listed n) (nets_in t (valued_in t) c)
    (order_made (netted_in t.classes (valued_in t)) own (order_only (λ s. same s.currency c) t.securities (security_order t.classes t.securities a.3)))
