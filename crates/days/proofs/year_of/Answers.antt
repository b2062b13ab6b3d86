-- `days::year_of` meets its contract: the guess, by the table.
use Rattle.std.proofs.Common.{sym, arith, ◌∙◌}
use borrow.Author.Tests.{eqb-false}
use Rattle.days.proofs.Years.{year_guessed, year_next, year_last}
use Rattle.days.proofs.year_of.Goals as goal
use Rattle.days.proofs.year_of.Goals.{then-guess-eq2399, else-guess-eq2399}

pub returns-then-day-new_year : goal.returns-then-day-new_year
returns-then-day-new_year c =
    elim c.if-guess-eq2399.branch [
      | then-guess-eq2399 w ↦ year_last c.args.day w.if-guess-eq2399.true
      | else-guess-eq2399 w ↦
          year_guessed c.args.day _ (omega (arith, c.requires, w.if-guess-eq2399.false)) w.new_year.ensures (sym w.value-is ∙ c.if-day-new_year.true)
    ]

pub returns-else-day-new_year : goal.returns-else-day-new_year
returns-else-day-new_year c =
    elim c.if-guess-eq2399.branch [
      | then-guess-eq2399 w ↦ absurd (eqb-false _ _ (sym w.value-is ∙ c.if-day-new_year.false) w.if-guess-eq2399.true)
      | else-guess-eq2399 w ↦
          year_next c.args.day _ (omega (arith, c.requires, w.if-guess-eq2399.false)) w.new_year.ensures (sym w.value-is ∙ c.if-day-new_year.false)
    ]
