-- The one number that an entry gives.
use Rattle.std.specs.Prelude.{ℕ, ◌+◌, ◌*◌, Result, Ok, Err}
use Rattle.answers.specs.Refusals.{number_of}
use Rattle.answers.specs.declared.Refused.{Refused}

-- The length of what was written, in bytes; or 65,536 × refusal + line
abbrev pub number_given : Result ℕ Refused → ℕ
number_given (Ok length) = length
number_given (Err f) = 65_536 * number_of f.refusal + f.line
