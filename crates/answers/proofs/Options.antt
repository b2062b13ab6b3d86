-- Options of the paper, one after the other, as the code has them.
use Rattle.std.proofs.Common.{◌≡◌, refl, option_and_then}
use mathlib.Core.Option as paper
use mathlib.Core.Option.{none, some, map}
use Rattle.paper.specs.Lists.{◌>>=◌}
use Rattle.answers.specs.Options.{answer}

-- What follows what is there
pub answer_then : {A B : Type 0} (o : paper.Option A) (f : A → paper.Option B) → answer (o >>= f) ≡ option_and_then (λ a. answer (f a)) (answer o)
answer_then none f = refl
answer_then (some a) f = refl
