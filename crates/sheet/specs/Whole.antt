-- A sheet as the code holds it: the tables that the paper reads, or the refusal.
use Rattle.std.specs.Prelude.{Result, Ok, Err}
use Rattle.paper.specs.Rows as paper
use Rattle.paper.specs.Refusals.{Outcome, refused, accepted}
use Rattle.answers.specs.Refusals.{refusal}
use Rattle.answers.specs.declared.Refused.{Refused}
use Rattle.tables.specs.Held.{held_tables}
use Rattle.tables.specs.declared.Tables.{Tables}

-- What reading gives, as the code holds it: a refusal with its line, or the tables
abbrev pub held_sheet : Outcome paper.Tables → Result Tables Refused
held_sheet (refused number line) = Err (record { refusal = refusal number; line = line })
held_sheet (accepted t) = Ok (held_tables t)
