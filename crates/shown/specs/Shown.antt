-- What the forecast prints (01, "One sheet in full"): the text of an answer, or `N;refusal;line` alone.
use Rattle.std.specs.Prelude.{ℕ, ◌/◌, ◌%◌, true, false, ◌≡◌, ltb}
use Rattle.paper.specs.Units.{Text}
use Rattle.paper.specs.Answer.{Answer, refused, accepted}
use Rattle.lines.specs.Written.{Place, Wrote, refusal_line}

-- The text of an answer
abbrev pub shown_text : Answer → Text
shown_text (refused number line) = refusal_line number line
shown_text (accepted report) = report

-- What an entry's number tells of the bytes that it left: the length of the text at their start, or a refusal, which is then written there
abbrev pub Told : ℕ → Text → Place → Text → Type 0
Told number left next after =
    elim (ltb number 65_536) [
      | true ↦ (next ≡ number) × (after ≡ left)
      | false ↦ Wrote (refusal_line (number / 65_536) (number % 65_536)) 0 left next after
    ]
