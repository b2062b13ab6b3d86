-- The fifth promise (02, e): a quiet report is the full one without its K lines of zeros. As types over the definitions; proved of
-- `Answer.kit` in proofs/Quiet.
use Rattle.std.specs.Prelude.{Bool, not, ◌&&◌, map}
use Rattle.paper.specs.Units.{Text, Fields}
use Rattle.paper.specs.Lists.{only, joined_up}
use Rattle.paper.specs.Text.{ascii, lines, line_of, same}
use Rattle.paper.specs.Rows.{field}
use Rattle.paper.specs.Refusals.{refused, accepted}
use Rattle.paper.specs.Answer.{Answer, Kit}
use Rattle.paper.specs.Demands.{IsBytes, Gives, IsAnswer}

-- Whether a line is a K line of zeros: long, short and margin, its fields behind the letter, the currency and the class
abbrev pub is_zero_line : Fields → Bool
is_zero_line fs =
    same (ascii "K") (field 0 fs)
    && same (ascii "0") (field 3 fs)
    && same (ascii "0") (field 4 fs)
    && same (ascii "0") (field 5 fs)

-- A report without these lines: the others stay, byte for byte and in their order
abbrev pub quieted : Text → Text
quieted report = joined_up (map line_of (only (λ fs. not (is_zero_line fs)) (lines report)))

-- ... an answer with such a report; a refusal stays as it is
abbrev pub quietly : Answer → Answer
quietly (refused number line) = refused number line
quietly (accepted report) = accepted (quieted report)

-- The fifth promise, of a kit that gives full reports and of one that gives quiet ones: what the one answers, the other answers
-- without these lines, on every sheet and buffer
-- Useless kits: the full one for both fails it where the full report has a K line of zeros; one that leaves out a line for its
-- margin of 0 alone, or a Z line of zeros, where it has such a line. The quiet one for both passes here and fails demand 2.
abbrev pub Promise5 : Kit → Kit → Type 0
Promise5 full quiet =
    (sheet buffer : Text) → IsBytes sheet → IsBytes buffer
    → (a : Answer) → IsAnswer 12 a → Gives full sheet buffer a → Gives quiet sheet buffer (quietly a)
