-- The paper's options, as the code has them.
use Rattle.std.specs.Prelude.{Option, Some, None}
use Rattle.std.proofs.Math.Option as paper
use Rattle.std.proofs.Math.Option.{none, some}

-- What is there, or that nothing is
abbrev pub answer : {A : Type 0} → paper.Option A → Option A
answer none = None
answer (some a) = Some a
