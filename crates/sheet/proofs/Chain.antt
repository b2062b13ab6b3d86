-- What goes on behind each section, and what is known of each row kind.
use mathlib.Core.List.{List}
use mathlib.Core.Option.{Option}
use mathlib.Core.Path.{refl}
use Rattle.paper.specs.Units.{Date, Day, Code}
use Rattle.paper.specs.Days.{day}
use Rattle.paper.specs.Rows.{Tables, ClassRow, PriorityRow, SecurityRow, TradeRow}
use Rattle.paper.specs.Refusals.{Outcome, ◌>>=◌, Period, period_of, class_kind, priority_kind, security_kind, trade_kind}
use Rattle.paper.specs.Sheet.{Rest, section, ended}
use Rattle.paper.proofs.Rows.{class_inverse, priority_inverse, security_inverse, trade_inverse}
use Rattle.sections.proofs.Stages.{Staged}

-- Each row kind is read as it is written, its rows have a field, and its rules are numbered
pub class_staged : Staged class_kind
class_staged = record { inverse = class_inverse; some_field = λ r. refl; numbers = λ above r. refl }

pub priority_staged : (cs : List ClassRow) → Staged (priority_kind cs)
priority_staged cs = record { inverse = priority_inverse cs; some_field = λ r. refl; numbers = λ above r. refl }

pub security_staged : (cs : List ClassRow) → Staged (security_kind cs)
security_staged cs = record { inverse = security_inverse cs; some_field = λ r. refl; numbers = λ above r. refl }

pub trade_staged : (today : Day) (periods : Code → Option Period) → Staged (trade_kind today periods)
trade_staged today periods = record { inverse = trade_inverse today periods; some_field = λ r. refl; numbers = λ above r. refl }

-- What goes on behind the T rows, the S rows, the O rows and the C rows
module _ (d : Date) where
  abbrev pub behind_trades : List ClassRow → List PriorityRow → List SecurityRow → List TradeRow × Rest → Outcome Tables
  behind_trades cs os ss x = ended (record { date = d; classes = cs; priorities = os; securities = ss; trades = x.0 }) x.1

  abbrev pub behind_securities : List ClassRow → List PriorityRow → List SecurityRow × Rest → Outcome Tables
  behind_securities cs os x = section (trade_kind (day d) (period_of x.0)) x.1 >>= behind_trades cs os x.0

  abbrev pub behind_priorities : List ClassRow → List PriorityRow × Rest → Outcome Tables
  behind_priorities cs x = section (security_kind cs) x.1 >>= behind_securities cs x.0

  abbrev pub behind_classes : List ClassRow × Rest → Outcome Tables
  behind_classes x = section (priority_kind x.0) x.1 >>= behind_priorities x.0
