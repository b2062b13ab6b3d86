-- Every refusal of a sheet has a number of 1 to 12 and a line below 65,536.
use Prim.Native.Nat.{suc, ◌+◌, ◌≤◌, ◌<◌}
use native.Mathlib.Omega.{arith}
use mathlib.Core.List.{List, [], ◌∷◌, ◌++◌, map, tail}
use mathlib.Core.Path.{◌≡◌, refl, ap}
use lib.ListN.{length, drop, get_or, length-append, length-drop, length-map}
use Rattle.paper.specs.Units.{Text, Fields, Line, Date}
use Rattle.paper.specs.Days.{day}
use Rattle.paper.specs.Text.{lines}
use Rattle.paper.specs.Rows.{Tables, write_class, write_priority, write_security, write_trade}
use Rattle.paper.specs.Refusals.{accepted, date_kind, class_kind, priority_kind, security_kind, trade_kind, period_of}
use Rattle.paper.specs.Sheet.{Rest, header_rules, header, date_row, section, end_rules, ended, row, read_sheet}
use Rattle.paper.proofs.Lines.{lines_fewer}
use Rattle.paper.proofs.Outcomes.{Sound, judged_sound, bind_sound}
use Rattle.paper.proofs.Sections.{row_sound, rows_sound, section_written}
use Rattle.paper.proofs.Rows.{class_inverse, priority_inverse, security_inverse, trade_inverse}
use Rattle.paper.proofs.Views.{header_written, date_written}

-- The lines that are not read yet end below a limit
abbrev Within : Line → Rest → Type 0
Within limit rest = rest.0 + length rest.1 ≤ limit

-- After a section they still do
still_within : {R : Type 0} (limit : Line) (write : R → Fields) (rest more : Rest) (all : List R)
    → rest.1 ≡ map write all ++ more.1 → more.0 ≡ rest.0 + length all → Within limit rest → Within limit more
still_within limit write rest more all e l h =
    omega (arith, ap length e, length-append (map write all) more.1, length-map all write)

-- After the D row they still do
date_within : (limit : Line) (rest : Rest) (dated : Date × Rest) → date_row rest ≡ accepted dated → Within limit rest → Within limit dated.1
date_within limit rest dated e h =
    let d = date_written rest dated.0 dated.1 e in
    omega (arith, ap length d.1, d.2)

-- After the header of a sheet of 65,536 bytes they do, from line 2
header_within : (sheet : Text) (rest : Rest) → length sheet ≤ 65_536 → header sheet ≡ accepted rest → (rest.0 ≡ 2) × Within 65_536 rest
header_within sheet rest h e =
    let read = (header_written sheet rest e).0 in
    let second : rest.0 ≡ 2 = ap (λ x. x.0) read in
    (second, omega (arith, ap (λ x. length x.1) read, lines_fewer (drop 6 sheet), length-drop 6 sheet))

-- The D row is on a line below the limit
date_sound : (limit : Line) (rest : Rest) → rest.0 < limit → Sound limit (date_row rest)
date_sound limit rest h =
    let first = get_or rest.1 0 [] in
    bind_sound limit (row date_kind [] rest.0 first) (λ d. accepted (d, (suc rest.0, tail rest.1)))
    (row_sound date_kind (λ above d. refl) limit [] rest.0 first h)
    (λ d e. tt)

-- No line remains, or the first that does is below the limit
ended_sound : (limit : Line) (t : Tables) (rest : Rest) → Within limit rest → Sound limit (ended t rest)
ended_sound limit t (at, []) h = tt
ended_sound limit t (at, fs ∷ more) h = judged_sound limit at t (end_rules (at, fs ∷ more)) refl (omega arith)

-- Reading a sheet of 65,536 bytes or fewer
pub read_sound : (sheet : Text) → length sheet ≤ 65_536 → Sound 65_536 (read_sheet sheet)
unfolding read_sheet
read_sound sheet h =
    let limit : Line = 65_536 in
    let start : Rest = (2, lines (drop 6 sheet)) in
    bind_sound limit (header sheet) _ (judged_sound limit 1 start (header_rules sheet) refl (omega arith)) λ rest e1.
    let (second, w1) = header_within sheet rest h e1 in
    bind_sound limit (date_row rest) _ (date_sound limit rest (omega arith)) λ dated e2.
    let w2 = date_within limit rest dated e2 w1 in
    bind_sound limit (section class_kind dated.1) _
    (rows_sound class_kind (λ above r. refl) limit [] dated.1.0 dated.1.1 w2) λ classed e3.
    let c = section_written class_kind class_inverse dated.1 classed.0 classed.1 e3 in
    let w3 = still_within limit write_class dated.1 classed.1 classed.0 c.1 c.2 w2 in
    let okind = priority_kind classed.0 in
    bind_sound limit (section okind classed.1) _
    (rows_sound okind (λ above r. refl) limit [] classed.1.0 classed.1.1 w3) λ ranked e4.
    let o = section_written okind (priority_inverse classed.0) classed.1 ranked.0 ranked.1 e4 in
    let w4 = still_within limit write_priority classed.1 ranked.1 ranked.0 o.1 o.2 w3 in
    let skind = security_kind classed.0 in
    bind_sound limit (section skind ranked.1) _
    (rows_sound skind (λ above r. refl) limit [] ranked.1.0 ranked.1.1 w4) λ secured e5.
    let s = section_written skind (security_inverse classed.0) ranked.1 secured.0 secured.1 e5 in
    let w5 = still_within limit write_security ranked.1 secured.1 secured.0 s.1 s.2 w4 in
    let tkind = trade_kind (day dated.0) (period_of secured.0) in
    bind_sound limit (section tkind secured.1) _
    (rows_sound tkind (λ above r. refl) limit [] secured.1.0 secured.1.1 w5) λ traded e6.
    let r = section_written tkind (trade_inverse (day dated.0) (period_of secured.0)) secured.1 traded.0 traded.1 e6 in
    ended_sound limit _ traded.1 (still_within limit write_trade secured.1 traded.1 traded.0 r.1 r.2 w5)
