-- `reasons::net_lines` meets its contract: in a turn the security at hand is the row at its place, and its net is the paper's.
use Rattle.std.proofs.Common.{rules, ℕ, ◌+◌, ◌≤◌, arith, ◌&&◌, List, ◌≡◌, ◌∙◌, ap₂, pos, length, get_or}
use lib.Dec.{eqb}
use mir.Syntax.{w64}
use mir.Val.{SFits}
use mir.ValLaws.{to_z-of_z}
use Rattle.paper.specs.Units.{Text, Class, SignedCents, SignedWhole}
use Rattle.paper.specs.Rounding.{rounded}
use Rattle.tables.specs.Blanks.{no_security}
use Rattle.tables.specs.declared.Security.{Security}
use Rattle.tables.specs.declared.Securities.{Securities}
use Rattle.report.proofs.Loops.{texts, turn_room, turn}
use Rattle.reasons.specs.Texts.{net_line_if, net_text}
use Rattle.reasons.proofs.net_lines.Goals as goal

module _ (ss : Securities) (worths : List SignedCents) (rank : ℕ) (class : Class) (i : ℕ) where
  -- The P line of a row with a net
  abbrev line : Security → SignedWhole → Text
  line row net = net_line_if (eqb row.currency rank && eqb row.class class) (get_or ss.codes i 0) net

  -- The row at hand with its net has the line of its place
  line_is : {rows : List Security} → rows ≡ ss.rows.items → {net : SignedWhole} → net ≡ rounded (get_or worths i (pos 0)) 100
      → line (get_or rows i no_security) net ≡ net_text ss worths rank class i
  line_is same e = ap₂ (λ (rows : List Security) (net : SignedWhole). line (get_or rows i no_security) net) same e

pub put_net-at-requires : goal.put_net-at-requires
put_net-at-requires c =
    let a = c.args in
    let ss = a.securities.now in
    let i = c.loop-i.i in
    let worth = get_or a.worths.now i (pos 0) in
    let same = c.as_slice-row-items.ensures.value in
    let room : 0 + length (texts (net_text ss a.worths.now a.rank a.class) (length ss.rows.items)) ≤ length a.report.now = omega (arith, c.requires.room) in
    let fits : SFits w64 worth = search rules in
    let net_fits : SFits w64 c.rounded-net.result = search rules in
    let net = to_z-of_z w64 c.rounded-net.result net_fits ∙ (rw (to_z-of_z w64 worth fits) at c.rounded-net.ensures) in
    turn_room (net_text ss a.worths.now a.rank a.class) (length ss.rows.items) 0 a.report.now room i (rw same at c.loop-i-test.true) c.loop-i.invariant
    (line_is ss a.worths.now a.rank a.class i same net)

pub loop-i-preserved : goal.loop-i-preserved
loop-i-preserved c =
    let a = c.args in
    let ss = a.securities.now in
    let i = c.loop-i.i in
    let worth = get_or a.worths.now i (pos 0) in
    let same = c.as_slice-row-items.ensures.value in
    let room : 0 + length (texts (net_text ss a.worths.now a.rank a.class) (length ss.rows.items)) ≤ length a.report.now = omega (arith, c.requires.room) in
    let fits : SFits w64 worth = search rules in
    let net_fits : SFits w64 c.rounded-net.result = search rules in
    let net = to_z-of_z w64 c.rounded-net.result net_fits ∙ (rw (to_z-of_z w64 worth fits) at c.rounded-net.ensures) in
    turn (net_text ss a.worths.now a.rank a.class) (length ss.rows.items) 0 a.report.now room i (rw same at c.loop-i-test.true) c.loop-i.invariant
    (line_is ss a.worths.now a.rank a.class i same net)
    c.put_net-at.ensures
