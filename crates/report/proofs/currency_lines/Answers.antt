-- `report::currency_lines` meets its contract: in a turn the K lines of a currency, then its Z line.
use Rattle.std.proofs.Common.{rules, ℕ, ◌+◌, ◌<◌, arith, List, [], ◌∷◌, ◌≡◌, ap, ◌∙◌, pos, length, get_or, drop}
use mir.Syntax.{w64}
use mir.Val.{SFits}
use mir.ValLaws.{to_z-of_z}
use Rattle.std.specs.List.{zip}
use Rattle.std.proofs.lemmas.List.{drop_all, drop_more}
use Rattle.std.proofs.lemmas.Slice.Zip.{length-zip, get_or-zip}
use Rattle.arrayvec.specs.ArrayVec.{ArrayVec}
use Rattle.paper.specs.Report.{Listing}
use Rattle.paper.proofs.Lists.{each_at}
use Rattle.tables.specs.declared.ClassRow.{ClassRow}
use Rattle.margin.specs.declared.Currency.{Currency}
use Rattle.lines.specs.Written.{money_text, total_line}
use Rattle.lines.proofs.Written.{Parts, parts, front, room, joined}
use Rattle.report.specs.Texts.{position_texts, lines_of}
use Rattle.report.proofs.Loops.{told_none, told_room, told_next, told_all}
use Rattle.report.proofs.currency_lines.Goals as goal

-- The lines of a currency: K lines, and the Z line
both : (full : Listing) (cs : ArrayVec ClassRow) (money : ℕ) (c : Currency)
    → Parts (lines_of full cs (money, c)) (position_texts full money cs c) (total_line (money_text money) c.mark c.initial c.total)
both full cs money c = parts _ _

-- What the code reads past the end of figures, which no turn does
abbrev past : Currency
past = record { book = record { long = []; short = [] }; margins = []; mark = pos 0; initial = 0; total = 0 }

-- The entries at a place of two lists are the pair there
pair_there : {A B : Type 0} {xs : List A} {ys : List B} (known : List A) (each : List B) → known ≡ xs → each ≡ ys
    → (i : ℕ) (x : A) (y : B) → i < length known → i < length each
    → drop i (zip xs ys) ≡ (get_or known i x, get_or each i y) ∷ drop (i + 1) (zip xs ys)
pair_there {A} {B} {xs} {ys} known each same others i x y low fewer =
    let one : i < length xs = omega (arith, low, ap length same) in
    let other : i < length ys = omega (arith, fewer, ap length others) in
    rw (same, others)
    (drop_more (zip xs ys) i (x, y) (omega (arith, one, other, length-zip xs ys))
    ∙ ap (λ (p : A × B). p ∷ drop (i + 1) (zip xs ys)) (get_or-zip xs ys i (x, y) one other))

pub loop-rank-init : goal.loop-rank-init
loop-rank-init c =
    let a = c.args in
    told_none (lines_of a.full a.tables.now.classes) (zip a.tables.now.securities.currencies.items a.figures.now.currencies.items) a.from a.report.now

pub position_lines-behind-requires-clause-classed : goal.position_lines-behind-requires-clause-classed
position_lines-behind-requires-clause-classed c =
    let low : c.loop-rank.rank < length c.args.tables.now.securities.currencies.items = omega (arith, ap length c.as_slice-known.ensures.value) in
    (rw c.as_slice-known.ensures.value (each_at c.loop-rank.rank 0 c.requires.writable.money low), c.requires.writable.classes)

pub position_lines-behind-requires-clause-room : goal.position_lines-behind-requires-clause-room
position_lines-behind-requires-clause-room c =
    let a = c.args in
    let l = c.loop-rank in
    let known = c.as_slice-known.result.now in
    let each = c.as_slice-each.result.now in
    let money = get_or known l.rank 0 in
    let currency = get_or each l.rank past in
    let next = pair_there known each c.as_slice-known.ensures.value c.as_slice-each.ensures.value l.rank 0 past (omega arith) (omega arith) in
    front (both a.full a.tables.now.classes money currency) l.at l.report
    (told_room (lines_of a.full a.tables.now.classes) _ a.from a.report.now _ l.invariant c.requires.room (money, currency) _ next)

pub total_line-at-requires-clause-currency : goal.total_line-at-requires-clause-currency
total_line-at-requires-clause-currency c =
    let low : c.loop-rank.rank < length c.args.tables.now.securities.currencies.items = omega (arith, ap length c.as_slice-known.ensures.value) in
    rw c.as_slice-known.ensures.value (each_at c.loop-rank.rank 0 c.requires.writable.money low)

pub total_line-at-requires-clause-room : goal.total_line-at-requires-clause-room
total_line-at-requires-clause-room c =
    let a = c.args in
    let l = c.loop-rank in
    let known = c.as_slice-known.result.now in
    let each = c.as_slice-each.result.now in
    let money = get_or known l.rank 0 in
    let currency = get_or each l.rank past in
    let next = pair_there known each c.as_slice-known.ensures.value c.as_slice-each.ensures.value l.rank 0 past (omega arith) (omega arith) in
    let fits : SFits w64 currency.mark = search rules in
    rw (to_z-of_z w64 currency.mark fits)
    (room (both a.full a.tables.now.classes money currency) l.at l.report
    (told_room (lines_of a.full a.tables.now.classes) _ a.from a.report.now _ l.invariant c.requires.room (money, currency) _ next)
    c.position_lines-behind.ensures)

pub loop-rank-preserved : goal.loop-rank-preserved
loop-rank-preserved c =
    let a = c.args in
    let l = c.loop-rank in
    let known = c.as_slice-known.result.now in
    let each = c.as_slice-each.result.now in
    let money = get_or known l.rank 0 in
    let currency = get_or each l.rank past in
    let next = pair_there known each c.as_slice-known.ensures.value c.as_slice-each.ensures.value l.rank 0 past (omega arith) (omega arith) in
    let fits : SFits w64 currency.mark = search rules in
    let text = lines_of a.full a.tables.now.classes in
    told_next text _ a.from a.report.now _ l.invariant c.requires.room (money, currency) _ next
    (joined (both a.full a.tables.now.classes money currency) l.at l.report
    (told_room text _ a.from a.report.now _ l.invariant c.requires.room (money, currency) _ next)
    c.position_lines-behind.ensures
    (rw (to_z-of_z w64 currency.mark fits) at c.total_line-at.ensures))

pub returns : goal.returns
returns c =
    let a = c.args in
    let numbers = a.tables.now.securities.currencies.items in
    let figures = a.figures.now.currencies.items in
    told_all (lines_of a.full a.tables.now.classes) (zip numbers figures) a.from a.report.now (drop c.loop-rank.rank (zip numbers figures)) c.loop-rank.invariant
    (drop_all c.loop-rank.rank (zip numbers figures) (omega (arith, length-zip numbers figures, ap length c.as_slice-known.ensures.value, ap length c.as_slice-each.ensures.value)))
