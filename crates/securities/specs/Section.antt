-- The S section as the code holds it, and a row judged by what is kept of those above it.
use Rattle.std.specs.Prelude.{ℕ, ◌≤◌, ◌<◌, Bool, true, false, ◌&&◌, ◌||◌, List, ltb, Option, Some, None, Result, Err, ok_or}
use Rattle.paper.specs.Units.{Text, Class}
use Rattle.paper.specs.Rows as paper
use Rattle.paper.specs.Refusals.{Outcome}
use Rattle.paper.specs.Sheet.{Rest}
use Rattle.answers.specs.declared.Refusal.{Refusal}
use Rattle.answers.specs.declared.Refusal.TheVariants.{Count, Order, Classless}
use Rattle.answers.specs.declared.Refused.{Refused}
use Rattle.places.specs.Places.{Place}
use Rattle.tables.specs.Held.{security_table}
use Rattle.tables.specs.declared.Securities.{Securities}
use Rattle.tables.specs.declared.Security.{Security}
use Rattle.sections.specs.Sections.{section_as}
use Rattle.securities.specs.declared.SecurityRow.{SecurityRow}

-- Whether a number is above the last, where there is one
abbrev pub rises : Option ℕ → ℕ → Bool
rises None number = true
rises (Some last) number = ltb last number

-- The class of a row, or the rule that it breaks: 8 fewer than 200 above, and its currency stands above or fewer than 8 do; 9 its
-- code's number rises; 11 it has a class
abbrev pub judged_of : ℕ → Bool → ℕ → Option ℕ → ℕ → Option Class → Result Class Refusal
judged_of count there currencies last number class =
    elim (ltb count 200 && (there || ltb currencies 8)) [
      | false ↦ Err Count
      | true ↦ elim (rises last number) [ false ↦ Err Order | true ↦ ok_or class Classless ]
    ]

-- The ranges of a row's numbers
pub record Small (s : SecurityRow) : Type 0 where
  pub price : s.terms.price ≤ 20_000_000
  pub coupon : s.terms.coupon ≤ 2_000_000
  pub payments : s.terms.payments ≤ 4
  pub previous : s.previous < 146_097
  pub next : s.next < 146_097

-- What the table keeps of a row, with its class; the place of its currency is not known yet
abbrev pub security_of : SecurityRow → Class → Security
security_of s class =
    record {
      price = s.terms.price;
      coupon = s.terms.coupon;
      payments = s.terms.payments;
      previous = s.previous;
      next = s.next;
      class = class;
      currency = 0;
    }

-- The section that starts at a place, with the C rows: its table with the place behind it, or its refusal
abbrev pub security_section : List paper.ClassRow → Text → Place → Outcome (List paper.SecurityRow × Rest) → Result (Securities × Place) Refused
security_section cs = section_as (security_table cs)
