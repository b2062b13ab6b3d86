-- An S row by the readings of its fields.
use Prim.Native.Nat.{ℕ, zero, suc, ◌+◌, ◌-◌}
use native.Mathlib.Omega.{arith}
use mathlib.Core.Bool.{Bool, true, false, not, ◌&&◌, ◌||◌}
use mathlib.Core.Option.{Option, none, some, some-injective, map}
use mathlib.Core.Path.{◌≡◌, refl, sym, ap, ap₂, ◌∙◌}
use borrow.Author.Tests.{ne_eqb, le-leb, lt-leb}
use lib.Dec.{eqb, leb, ltb}
use lib.ListN.{get_or}
use Rattle.std.proofs.Common.{Some}
use Rattle.std.specs.Bool.{then_some}
use Rattle.paper.specs.Units.{Text, Fields, Date, Day, Duration}
use Rattle.paper.specs.Days.{day_of}
use Rattle.paper.specs.Lists.{between, when, ◌>>=◌}
use Rattle.paper.specs.Text.{date_in, number_in, or_blank, is_code, is_currency}
use Rattle.paper.specs.Rows as paper
use Rattle.paper.specs.Rows.{Kind, field, kind_in, read_security}
use Rattle.paper.specs.Refusals.{is_duration, follows, security_fields}
use Rattle.paper.proofs.Lists.{bind_some}
use Rattle.answers.specs.Options.{answer}
use Rattle.tables.specs.Numbers.{kind_number, code_number, currency_number}
use Rattle.places.specs.Places.{Place, line_at}
use Rattle.places.specs.declared.Line.{Line}
use Rattle.codes.specs.Counts.{code_in, currency_in}
use Rattle.fields.specs.Values.{ranged_in, duration_in}
use Rattle.sections.specs.Sections.{fields_at}
use Rattle.sections.proofs.Reading.{Lined, from_zero, gated, lettered, ranged, lasting, spanned, following}
use Rattle.securities.specs.Read.{security_terms, coupon_dates, held_terms, held_row}
use Rattle.securities.specs.declared.SecurityRow.{SecurityRow}
use Rattle.securities.specs.declared.Terms.{Terms}

-- 1, 2 or 4 is 1 to 4 and not 3
pub payments_parts : (n : ℕ) → (eqb n 1 || eqb n 2 || eqb n 4) ≡ (between 1 4 n && not (eqb n 3))
payments_parts zero = refl
payments_parts (suc zero) = refl
payments_parts (suc (suc zero)) = refl
payments_parts (suc (suc (suc zero))) = refl
payments_parts (suc (suc (suc (suc zero)))) = refl
payments_parts (suc (suc (suc (suc (suc n))))) =
    let m = suc (suc (suc (suc (suc n)))) in
    rw (ne_eqb m 1 (λ e. omega arith), ne_eqb m 2 (λ e. omega arith), ne_eqb m 4 (λ e. omega arith), le-leb 1 m (omega arith), lt-leb m 4 (omega arith))

-- ---- the fields that are no dates

-- The terms that fields are read as, where they keep rule 6
abbrev pub end : Option paper.SecurityRow → Option Terms
end o = map held_terms (o >>= λ s. when (security_fields s) s)

-- ... by the texts of its fields
abbrev terms_behind : ℕ → ℕ → Text → Text → Text → Text → Text → Option Terms
terms_behind number currency third fourth fifth sixth seventh =
    map kind_number (kind_in third) >>= λ kind.
    duration_in (ltb kind 2) fourth >>= λ duration.
    ranged_in 1 20_000_000 fifth >>= λ price.
    ranged_in 0 2_000_000 sixth >>= λ coupon.
    ranged_in 1 4 seventh >>= λ payments.
    when (not (eqb payments 3))
    (record { number = number; currency = currency; kind = kind; duration = duration; price = price; coupon = coupon; payments = payments })

abbrev terms_from : Text → Text → Text → Text → Text → Text → Text → Option Terms
terms_from first second third fourth fifth sixth seventh =
    code_in first >>= λ number. currency_in second >>= λ currency. terms_behind number currency third fourth fifth sixth seventh

-- ... one after the other. A code and a currency are read as they stand, and are asked for their form by the rule
one_by_one : (fs : Fields)
    → end (read_security fs) ≡ terms_from (field 1 fs) (field 2 fs) (field 3 fs) (field 4 fs) (field 5 fs) (field 6 fs) (field 7 fs)
one_by_one fs =
    (let good = is_code (field 1 fs) && is_currency (field 2 fs) in
    lettered end refl good (kind_in (field 3 fs)) kind_number _ _ λ kind.
    lasting end refl good kind (field 4 fs) _ _ λ duration.
    ranged end refl (good && is_duration kind duration) 1 20_000_000 (field 5 fs) _ _ λ price.
    ranged end refl ((good && is_duration kind duration) && between 1 20_000_000 price) 0 2_000_000 (field 6 fs) _ _ λ coupon.
    ranged end refl (((good && is_duration kind duration) && between 1 20_000_000 price) && between 0 2_000_000 coupon) 1 4 (field 7 fs) _ _ λ payments.
    last kind duration price coupon payments)
    ∙ sym (front (is_code (field 1 fs)) (is_currency (field 2 fs)))
  where
    front : (a b : Bool)
        → (when a (code_number (field 1 fs)) >>= λ number. when b (currency_number (field 2 fs)) >>= λ currency.
        terms_behind number currency (field 3 fs) (field 4 fs) (field 5 fs) (field 6 fs) (field 7 fs))
        ≡ gated (a && b) (terms_behind (code_number (field 1 fs)) (currency_number (field 2 fs)) (field 3 fs) (field 4 fs) (field 5 fs) (field 6 fs) (field 7 fs))
    front true true = refl
    front true false = refl
    front false b = refl

    row : Kind → Option Duration → ℕ → ℕ → ℕ → paper.SecurityRow
    row kind duration price coupon payments =
        record {
          code = field 1 fs;
          currency = field 2 fs;
          kind = kind;
          duration = duration;
          price = price;
          coupon = coupon;
          payments = payments;
          previous = date_in (field 8 fs);
          next = date_in (field 9 fs);
        }

    last : (kind : Kind) (duration : Option Duration) (price coupon payments : ℕ)
        → end (some (row kind duration price coupon payments))
        ≡ gated
        (((((is_code (field 1 fs) && is_currency (field 2 fs)) && is_duration kind duration) && between 1 20_000_000 price) && between 0 2_000_000 coupon)
        && between 1 4 payments)
        (when (not (eqb payments 3)) (held_terms (row kind duration price coupon payments)))
    last kind duration price coupon payments =
        rw (payments_parts payments, from_zero 2_000_000 coupon)
        (go (is_code (field 1 fs)) (is_currency (field 2 fs)) (is_duration kind duration) (between 1 20_000_000 price) (leb coupon 2_000_000)
        (between 1 4 payments) (not (eqb payments 3)))
      where
        go : (a b d p c f t : Bool)
            → map held_terms (when (a && b && d && p && c && (f && t)) (row kind duration price coupon payments))
            ≡ gated (((((a && b) && d) && p) && c) && f) (when t (held_terms (row kind duration price coupon payments)))
        go true true true true true true true = refl
        go true true true true true true false = refl
        go true true true true true false t = refl
        go true true true true false f t = refl
        go true true true false c f t = refl
        go true true false p c f t = refl
        go true false d p c f t = refl
        go false b d p c f t = refl

-- ---- the dates

-- A row that was read has the dates of its fields
dates_read : (fs : Fields) (s : paper.SecurityRow) → read_security fs ≡ some s → (s.previous ≡ date_in (field 8 fs)) × (s.next ≡ date_in (field 9 fs))
dates_read fs s read =
    let (kind, is_kind, kinded) = bind_some (kind_in (field 3 fs)) _ s read in
    let (duration, is_duration, lasted) = bind_some (or_blank number_in (field 4 fs)) _ s kinded in
    let (price, is_price, priced) = bind_some (number_in (field 5 fs)) _ s lasted in
    let (coupon, is_coupon, paid) = bind_some (number_in (field 6 fs)) _ s priced in
    let (payments, is_payments, whole) = bind_some (number_in (field 7 fs)) _ s paid in
    let same = some-injective _ s whole in
    (ap (λ (s : paper.SecurityRow). s.previous) (sym same), ap (λ (s : paper.SecurityRow). s.next) (sym same))

-- Two days that are there, where the second follows the first
pub followed : (p q : Option Day) {a b : Day} → Some a ≡ answer p → Some b ≡ answer q → then_some {T = Day × Day} (between 1 400 (b - a)) (a, b) ≡ answer (spanned 400 p q)
followed none q e f = cc
followed (some x) none e f = cc
followed (some x) (some y) {a} {b} e f =
    let first : x ≡ a = cc in
    let last : y ≡ b = cc in
    rw (first, last) (go (between 1 400 (b - a)))
  where
    go : (t : Bool) → then_some {T = Day × Day} t (a, b) ≡ answer (when t (a, b))
    go true = refl
    go false = refl

module _ (sheet : Text) (at : Place) where
  -- Its two days
  abbrev pub dates : Terms → Option (Day × Day)
  dates terms = spanned 400 (day_of (date_in (field 8 (fields_at sheet at)))) (day_of (date_in (field 9 (fields_at sheet at))))

  -- A row of terms and days, as it is held
  abbrev pub whole : Terms → Day × Day → SecurityRow
  whole terms days = record { code = get_or (line_at sheet at).ends 0 0 + 1; terms = terms; previous = days.0; next = days.1 }

  -- Rule 7 asks for them
  pub dated : (s : paper.SecurityRow) → read_security (fields_at sheet at) ≡ some s
      → when (follows 400 s.previous s.next) (held_row sheet at s) ≡ map (whole (held_terms s)) (dates (held_terms s))
  dated s read =
      let (first, last) = dates_read (fields_at sheet at) s read in
      following 400 s.previous s.next (λ previous next. whole (held_terms s) (previous, next))
      ∙ ap₂ (λ (p q : Date). map (whole (held_terms s)) (spanned 400 (day_of p) (day_of q))) first last

  -- ---- what stands in the fields of the line

  module _ (line : Line) (l : Lined sheet at line 10) where
    pub terms_read : end (read_security (fields_at sheet at)) ≡ security_terms sheet line.ends
    terms_read =
        one_by_one (fields_at sheet at)
        ∙ (λ i. terms_from (l.parts 0 (omega arith) i) (l.parts 1 (omega arith) i) (l.parts 2 (omega arith) i) (l.parts 3 (omega arith) i)
        (l.parts 4 (omega arith) i) (l.parts 5 (omega arith) i) (l.parts 6 (omega arith) i))

    pub days_read : (terms : Terms) → coupon_dates sheet line.ends ≡ dates terms
    days_read terms =
        ap₂ (λ (p q : Text). spanned 400 (day_of (date_in p)) (day_of (date_in q))) (sym (l.parts 7 (omega arith))) (sym (l.parts 8 (omega arith)))
