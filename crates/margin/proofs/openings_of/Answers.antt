-- `margin::openings_of` meets its contract: the security of a turn has its class and currency in their places, and its worth, in
-- cents, is read as it is.
use Prim.Native.Nat.{ℕ, ◌-◌, ◌≤◌, ◌<◌}
use native.Mathlib.Omega.{arith}
use mathlib.Core.List.{List}
use mathlib.Core.Path.{◌≡◌, refl, sym, ap, ap₂, ◌∙◌}
use lib.IntN.{ℤ, pos, nat_abs}
use lib.ListN.{length, get_or, set, replicate, get_or-replicate}
use Rattle.std.specs.Array.{AllOfLen}
use Rattle.std.proofs.lemmas.List.{ext_get_or}
use mir.Syntax.{w64}
use mir.Val.{to_z, of_z}
use Rattle.paper.specs.Rounding.{rounded}
use Rattle.paper.specs.Bounds.{most_net_cents}
use Rattle.paper.proofs.Lists.{each_at}
use Rattle.whole.proofs.Signs.{read_back}
use Rattle.tables.specs.Blanks.{no_security}
use Rattle.offsetting.specs.declared.Book.{Book}
use Rattle.margin.specs.Openings.{from_rank, net_at, no_book, with_net, openings_of}
use Rattle.margin.proofs.Forwards.{ranks_before}
use Rattle.margin.proofs.Positions.{book_most, book_there}
use Rattle.margin.proofs.openings_of.Goals as goal

-- The positions of a side by default: none
none_held : {ps : List ℕ} → AllOfLen (λ (n : ℕ). n ≡ 0) ps 41 → ps ≡ replicate 41 0
none_held {ps} all =
    ext_get_or 0 ps (replicate 41 0) all.long
    (λ i h. let low : i < 41 = omega (arith, all.long) in all.at i 0 low ∙ sym (get_or-replicate 41 i 0 0 low))

pub loop-i-init : goal.loop-i-init
loop-i-init c =
    let none : length c.args.securities.now - length c.args.securities.now ≡ 0 = omega arith in
    let empty = c.default-openings.ensures in
    let same : c.default-openings.result ≡ no_book = ap₂ (λ (long short : List ℕ). record { long = long; short = short }) (none_held empty.0) (none_held empty.1) in
    rw none (ap (λ (b : Book). replicate 8 b) same)

pub bounds-openings-security : goal.bounds-openings-security
bounds-openings-security c = (each_at (c.loop-i.i - 1) no_security c.requires.1 (omega arith)).currency

-- The security's worth, in cents, is read as it is
worth_is : (worths : List ℤ) → ((k : ℕ) → nat_abs (get_or worths k (pos 0)) ≤ most_net_cents) → (k : ℕ)
    → to_z w64 (of_z w64 (get_or worths k (pos 0))) ≡ get_or worths k (pos 0)
worth_is worths small k = read_back _ refl (omega (arith, small k))

pub add_net-requires : goal.add_net-requires
add_net-requires c =
    let ss = c.args.securities.now in
    let worths = c.args.worths.now in
    let l = c.loop-i in
    let own = net_at ss worths (l.i - 1) in
    let ns = from_rank (net_at ss worths) (length ss - l.i) l.i in
    let seated = each_at (l.i - 1) no_security c.requires.1 (omega arith) in
    let within = book_most ss worths c.requires.2 (length ss - l.i) l.i (omega arith) own.rank in (
      seated.class,
      rw (worth_is worths c.requires.2 (l.i - 1)) (c.requires.2 (l.i - 1)),
      rw (book_there ns l.invariant own.rank seated.currency _) (within.long own.class),
      rw (book_there ns l.invariant own.rank seated.currency _) (within.short own.class),
    )

pub loop-i-preserved : goal.loop-i-preserved
loop-i-preserved c =
    let ss = c.args.securities.now in
    let worths = c.args.worths.now in
    let l = c.loop-i in
    let own = net_at ss worths (l.i - 1) in
    let ns = from_rank (net_at ss worths) (length ss - l.i) l.i in
    let seated = each_at (l.i - 1) no_security c.requires.1 (omega arith) in
    let grown = c.add_net.ensures
    ∙ ap₂ (λ (worth : ℤ) (b : Book). with_net own.class (rounded worth 100) b) (worth_is worths c.requires.2 (l.i - 1))
    (book_there ns l.invariant own.rank seated.currency _)
    in
    ap₂ (λ (openings : List Book) (b : Book). set openings own.rank b) l.invariant grown
    ∙ sym (ap openings_of (ranks_before (net_at ss worths) (length ss) l.i c.loop-i-test.true l.auto.i))
