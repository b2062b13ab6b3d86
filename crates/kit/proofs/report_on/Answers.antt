-- `kit::report_on` meets its contract: each way out gives the number and the buffer of the paper's kit.
use Prim.Native.Nat.{ℕ, ◌≤◌}
use native.Mathlib.Omega.{arith}
use mathlib.Core.Path.{◌≡◌, sym, ap, ap₂, ◌∙◌, subst, subst⁻¹}
use lib.ListN.{length}
use Rattle.paper.specs.Units.{Text}
use Rattle.paper.specs.Rows as paper
use Rattle.paper.specs.Refusals.{refused, accepted}
use Rattle.paper.specs.Report.{Listing, report_of}
use Rattle.paper.specs.Answer.{Answer, tables_of, kit}
use Rattle.paper.proofs.Lengths.{report_fits}
use Rattle.paper.proofs.Demands.{gives_answer}
use Rattle.sheet.specs.Whole.{held_sheet}
use Rattle.answers.specs.Refusals.{number_of}
use Rattle.answers.specs.declared.Refused.{Refused}
use Rattle.std.proofs.Common.{Result, Ok, Err}
use Rattle.kit.specs.Numbers.{number_given}
use Rattle.tables.specs.declared.Tables.{Tables}
use Rattle.margin.specs.Figures.{TablesRanged, figures_of}
use Rattle.margin.specs.declared.Figures.{Figures}
use Rattle.margin.specs.Held.{held_figures}
use Rattle.margin.proofs.Paper.{figures_held, tables_ranged}
use Rattle.lines.specs.Written.{Place, Wrote}
use Rattle.report.specs.Texts.{Writable, report_text}
use Rattle.report.proofs.Paper.{text_held, writable_held}
use Rattle.kit.proofs.Answers.{stopped, Accepted, is_accepted, hands_back}
use Rattle.kit.proofs.report_on.Goals as goal

-- What was read of a sheet, for a lent buffer and the K lines that are asked for
module _ (sheet buffer : Text) (listing : Listing) {read : Result Tables Refused} (is : read ≡ held_sheet (tables_of (length buffer) sheet)) where
  -- What comes of the tables: their report
  abbrev next : paper.Tables → Answer
  next t = accepted (report_of listing t)

  refuses : {f : Refused} → read ≡ Err f → ◌≡◌ {A = ℕ × Text} (number_given (Err f), buffer) (kit listing sheet buffer)
  refuses {f} k = sym (gives_answer listing sheet buffer (refused (number_of f.refusal) f.line) ((stopped (length buffer) sheet is k).answers next))

  -- The sheet is accepted
  module _ {tables : Tables} (goes : read ≡ Ok tables) where
    accepts : Accepted (length buffer) sheet is tables
    accepts = is_accepted (length buffer) sheet is goes

    ranged : TablesRanged tables
    ranged = subst⁻¹ TablesRanged accepts.held (tables_ranged accepts.paper accepts.admitted).0

    module _ (figures : Figures) (figures_is : figures ≡ figures_of tables) where
      -- The figures are the paper's
      figures_are : figures ≡ held_figures accepts.paper
      figures_are = figures_is ∙ ap figures_of accepts.held ∙ figures_held accepts.paper accepts.admitted

      -- ... and so is the report's text
      text_is : report_text listing tables figures ≡ report_of listing accepts.paper
      text_is = ap₂ (report_text listing) accepts.held figures_are ∙ text_held accepts.paper accepts.admitted listing

      -- It can be written
      writable : Writable tables
      writable = subst⁻¹ Writable accepts.held (writable_held accepts.paper accepts.admitted).0

      room : length (report_text listing tables figures) ≤ length buffer
      room = omega (arith, ap length text_is, report_fits listing accepts.paper accepts.admitted, accepts.roomy)

      answers : (written : Place) (after : Text) → Wrote (report_text listing tables figures) 0 buffer written after
          → ◌≡◌ {A = ℕ × Text} (written, after) (kit listing sheet buffer)
      answers written after w =
          hands_back (report_of listing accepts.paper) buffer (subst (λ (t : Text). Wrote t 0 buffer written after) text_is w)
          ∙ sym (gives_answer listing sheet buffer (accepted (report_of listing accepts.paper)) (accepts.answers next))

pub returns-in-Err-clause-answer : goal.returns-in-Err-clause-answer
returns-in-Err-clause-answer c = refuses c.args.sheet.now c.args.report.now c.args.all c.read_sheet.ensures c.in-Err.is

pub returns-in-Err-clause-small : goal.returns-in-Err-clause-small
returns-in-Err-clause-small c = (stopped (length c.args.report.now) c.args.sheet.now c.read_sheet.ensures c.in-Err.is).small.1

pub figures_of-figures-requires : goal.figures_of-figures-requires
figures_of-figures-requires c = ranged c.args.sheet.now c.args.report.now c.args.all c.read_sheet.ensures c.in-Ok.is

pub write-requires-clause-writable : goal.write-requires-clause-writable
write-requires-clause-writable c =
    writable c.args.sheet.now c.args.report.now c.args.all c.read_sheet.ensures c.in-Ok.is c.figures_of-figures.result c.figures_of-figures.ensures

pub write-requires-clause-room : goal.write-requires-clause-room
write-requires-clause-room c =
    room c.args.sheet.now c.args.report.now c.args.all c.read_sheet.ensures c.in-Ok.is c.figures_of-figures.result c.figures_of-figures.ensures

pub returns-in-Ok-clause-answer : goal.returns-in-Ok-clause-answer
returns-in-Ok-clause-answer c =
    answers c.args.sheet.now c.args.report.now c.args.all c.read_sheet.ensures c.in-Ok.is c.figures_of-figures.result c.figures_of-figures.ensures
    c.write.result c.write.new.report c.write.ensures
