-- `days::is_open` meets its contract: its tests are those of the paper's `is_open`.
use Rattle.std.proofs.Common.{◌≡◌, ◌≤◌, ◌<◌, ℕ, false, not, refl, ap, ◌∙◌, subst}
use borrow.Author.Tests.{lt-ltb, le-ltb}
use Rattle.paper.specs.Units.{Year, Day}
use Rattle.paper.specs.Days.{weekday, year_of, is_closing, is_open}
use Rattle.paper.proofs.Calendar.{year_between}
use Rattle.days.proofs.is_open.Goals as goal

-- A weekend is not open, and another day is if it is no closing day
weekend : (d : Day) → 5 ≤ weekday d → false ≡ is_open d
unfolding is_open
weekend d h = rw (le-ltb (weekday d) 5 h) refl

weekdays : (d : Day) → weekday d < 5 → not (is_closing (year_of d) d) ≡ is_open d
unfolding is_open
weekdays d h = rw (lt-ltb (weekday d) 5 h) refl

pub is_closing-requires : goal.is_closing-requires
is_closing-requires c = rw c.year_of.ensures (year_between c.args.day)

pub returns-then-weekday-lt-SATURDAY : goal.returns-then-weekday-lt-SATURDAY
returns-then-weekday-lt-SATURDAY c =
    let d = c.args.day in
    ap not (c.is_closing.ensures ∙ ap (λ (y : Year). is_closing y d) c.year_of.ensures)
    ∙ weekdays d (subst (λ (w : ℕ). w < 5) c.weekday.ensures c.if-weekday-lt-SATURDAY.true)

pub returns-else-weekday-lt-SATURDAY : goal.returns-else-weekday-lt-SATURDAY
returns-else-weekday-lt-SATURDAY c =
    le-ltb c.weekday.result 5 c.if-weekday-lt-SATURDAY.false
    ∙ weekend c.args.day (subst (λ (w : ℕ). 5 ≤ w) c.weekday.ensures c.if-weekday-lt-SATURDAY.false)
