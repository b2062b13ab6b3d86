-- What the system's answer for a word of the call tells.
use Rattle.std.specs.Prelude.{ℕ, Bool, true, false, Result, Ok, Err}
use Rattle.std.specs.declared.env.FillError.{FillError}
use Rattle.std.specs.declared.env.FillError.TheVariants.{NotPresent, TooLong}

-- The call has the word, be it longer than its room
abbrev pub is_there : Result ℕ FillError → Bool
is_there (Ok size) = true
is_there (Err NotPresent) = false
is_there (Err TooLong) = true
