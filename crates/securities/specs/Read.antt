-- What reading an S row answers: the row with the place of the next line, or its refusal.
use Rattle.std.specs.Prelude.{◌+◌, ◌-◌, not, List, [], get_or, eqb, ltb, Result}
use Rattle.std.proofs.Math.Option as maybe
use Rattle.std.proofs.Math.Option.{Option, map}
use Rattle.paper.specs.Units.{Text, Day}
use Rattle.paper.specs.Days.{day_of, day}
use Rattle.paper.specs.Lists.{between, when, ◌>>=◌}
use Rattle.paper.specs.Text.{date_in}
use Rattle.paper.specs.Rows as paper
use Rattle.paper.specs.Rows.{kind_in}
use Rattle.paper.specs.Refusals.{security_kind}
use Rattle.answers.specs.declared.Refusal.{Refusal}
use Rattle.places.specs.Places.{Place, line_at, field_text}
use Rattle.tables.specs.Numbers.{kind_number, code_number, currency_number}
use Rattle.codes.specs.Counts.{code_in, currency_in}
use Rattle.fields.specs.Values.{ranged_in, duration_in}
use Rattle.sections.specs.Sections.{fields_at, shaped, read_as}
use Rattle.securities.specs.declared.SecurityRow.{SecurityRow}
use Rattle.securities.specs.declared.Terms.{Terms}

-- What the fields of an S row that are no dates read as, by where they end: coupons come once, twice or four times a year
abbrev pub security_terms : Text → List Place → Option Terms
security_terms sheet ends =
    code_in (field_text sheet ends 0) >>= λ number.
    currency_in (field_text sheet ends 1) >>= λ currency.
    map kind_number (kind_in (field_text sheet ends 2)) >>= λ kind.
    duration_in (ltb kind 2) (field_text sheet ends 3) >>= λ duration.
    ranged_in 1 20_000_000 (field_text sheet ends 4) >>= λ price.
    ranged_in 0 2_000_000 (field_text sheet ends 5) >>= λ coupon.
    ranged_in 1 4 (field_text sheet ends 6) >>= λ payments.
    when (not (eqb payments 3))
    (record { number = number; currency = currency; kind = kind; duration = duration; price = price; coupon = coupon; payments = payments })

-- Two days of dates, the second 1 to 400 days after the first
abbrev pub coupon_dates : Text → List Place → Option (Day × Day)
coupon_dates sheet ends =
    day_of (date_in (field_text sheet ends 7)) >>= λ previous.
    day_of (date_in (field_text sheet ends 8)) >>= λ next.
    when (between 1 400 (next - previous)) (previous, next)

-- The terms of an S row
abbrev pub held_terms : paper.SecurityRow → Terms
held_terms s =
    record {
      number = code_number s.code;
      currency = currency_number s.currency;
      kind = kind_number s.kind;
      duration = maybe.get_or s.duration 0;
      price = s.price;
      coupon = s.coupon;
      payments = s.payments;
    }

-- An S row of the line at a place, on which its code is the first field behind the letter
abbrev pub held_row : Text → Place → paper.SecurityRow → SecurityRow
held_row sheet at s =
    record {
      code = get_or (line_at sheet at).ends 0 0 + 1;
      terms = held_terms s;
      previous = day s.previous;
      next = day s.next;
    }

-- The S row of the line at a place, before any look at other rows
abbrev pub security_read : Text → Place → Result (SecurityRow × Place) Refusal
security_read sheet at = read_as (held_row sheet at) (line_at sheet at).next (shaped (security_kind []) (fields_at sheet at))
