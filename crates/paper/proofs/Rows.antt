-- The row kinds, read and written: for rows that the rules admit, reading is the inverse of writing, and no field holds a mark.
use Prim.Native.Nat.{ℕ, zero, suc, ◌≤◌, ◌<◌, ◌^◌}
use native.Mathlib.Omega.{arith}
use mathlib.Core.Bool.{true}
use mathlib.Core.List.{List, [], ◌∷◌}
use mathlib.Core.Option.{Option, some, some-injective}
use mathlib.Core.Path.{◌≡◌, refl, sym, ap, ◌∙◌, subst}
use lib.ListN.{length}
use Rattle.paper.specs.Units.{Text, Fields, Date, Day, Code}
use Rattle.paper.specs.Days.{is_day}
use Rattle.paper.specs.Text.{ascii, number_in, date_in, signed_in, or_blank, digits, signed_digits}
use Rattle.paper.specs.Rows.{ClassRow, PriorityRow, SecurityRow, TradeRow, field, kind_in, trade_in, side_in}
use Rattle.paper.specs.Rows.{write_date, read_class, write_class, read_priority, write_priority, read_security, write_security, read_trade, write_trade}
use Rattle.paper.specs.Refusals.{Period, date_kind, class_kind, priority_kind, security_kind, trade_kind}
use Rattle.paper.specs.Sheet.{begins}
use Rattle.paper.specs.Lists.{nil, cons}
use Rattle.paper.specs.Bounds.{PriorityFacts}
use Rattle.paper.proofs.Lists.{bind_some}
use Rattle.paper.proofs.Order.{same_true}
use Rattle.paper.proofs.Digits.{digits_number, number_digits, signed_back, signed_digits_lem, date_back, date_digits}
use Rattle.paper.proofs.Fields.{kind_letter_lem, trade_letter_lem, side_letter_lem, kind_back, trade_back, side_back, blank_back, blank_written, digits_some, signed_some, digits_plain, signed_plain, blank_plain, kind_plain, trade_plain, side_plain, code_plain, currency_plain}
use Rattle.paper.proofs.Rules.{ClassFacts, SecurityFacts, TradeFacts, date_facts, class_facts, priority_facts, security_facts, trade_facts}
use Rattle.paper.proofs.Sections.{Inverse}

-- ---- fields by their places

-- What stands at each place below a number
abbrev listed : ℕ → (ℕ → Text) → Fields
listed zero f = []
listed (suc n) f = f 0 ∷ listed n (λ i. f (suc i))

-- Fields are what stands at their places
places : (fs : Fields) → listed (length fs) (λ i. field i fs) ≡ fs
places [] = refl
places (f ∷ fs) = ap (λ (l : Fields). f ∷ l) (places fs)

-- So many fields, with their letter
lettered : (letter : Text) (many : ℕ) (fs : Fields) → begins letter fs ≡ true → length fs ≡ suc many
    → letter ∷ listed many (λ i. field (suc i) fs) ≡ fs
lettered letter many fs b n =
    ap (λ (f : Text). f ∷ listed many (λ i. field (suc i) fs)) (same_true letter (field 0 fs) b)
    ∙ subst (λ (k : ℕ). listed k (λ i. field i fs) ≡ fs) n (places fs)

-- A number in any range has 19 digits at most
small : {n most : ℕ} → n ≤ most → most ≤ 30_000_000_000 → n < 10 ^ 19
small h k = omega arith

-- ---- the row kinds

-- C rows
pub class_inverse : Inverse class_kind
class_inverse =
    record {
      begun = λ r. refl;
      counted = λ r. refl;
      back = λ above c h. back c (class_facts above c h);
      written = λ above c fs h b n e. written c fs b n e;
      plain_fields = λ above c h.
          cons refl (cons (digits_plain c.class) (cons (kind_plain c.kind)
          (cons (blank_plain digits c.border digits_plain) (cons (digits_plain c.deposit) nil))));
    }
  where
    back : (c : ClassRow) → ClassFacts c → read_class (write_class c) ≡ some c
    back c f =
        rw (
          digits_number c.class (small f.high (omega arith)),
          kind_back c.kind,
          blank_back number_in digits c.border (λ d e. (digits_number d (small (f.border d e).1 (omega arith)), digits_some d)),
          digits_number c.deposit (small f.deposit (omega arith)),
        )

    written : (c : ClassRow) (fs : Fields) → begins (ascii "C") fs ≡ true → length fs ≡ 5 → read_class fs ≡ some c → write_class c ≡ fs
    written c fs b n e =
        let (class, e1, k1) = bind_some (number_in (field 1 fs)) _ c e in
        let (kind, e2, k2) = bind_some (kind_in (field 2 fs)) _ c k1 in
        let (border, e3, k3) = bind_some (or_blank number_in (field 3 fs)) _ c k2 in
        let (deposit, e4, k4) = bind_some (number_in (field 4 fs)) _ c k3 in
        subst (λ (c : ClassRow). write_class c ≡ fs) (some-injective _ c k4)
        (rw (
          number_digits (field 1 fs) class e1,
          kind_letter_lem (field 2 fs) kind e2,
          blank_written number_in digits (field 3 fs) border (λ u d k l. number_digits u d k) e3,
          number_digits (field 4 fs) deposit e4,
        )
        (lettered (ascii "C") 4 fs b n))

-- The D row, whose rules look at no row above
pub date_inverse : Inverse date_kind
date_inverse =
    record {
      begun = λ r. refl;
      counted = λ r. refl;
      back = λ above d h. ap some (date_back d (date_facts d h).real);
      written = λ above d fs h b n e. written d fs (date_facts d h).real b n (some-injective _ d e);
      plain_fields = λ above d h. cons refl (cons (digits_plain d) nil);
    }
  where
    written : (d : Date) (fs : Fields) → is_day d ≡ true → begins (ascii "D") fs ≡ true → length fs ≡ 2 → date_in (field 1 fs) ≡ d
        → write_date d ≡ fs
    written d fs real b n e =
        rw (date_digits (field 1 fs) d e real) (lettered (ascii "D") 1 fs b n)

-- O rows
pub priority_inverse : (cs : List ClassRow) → Inverse (priority_kind cs)
priority_inverse cs =
    record {
      begun = λ r. refl;
      counted = λ r. refl;
      back = λ above o h. back o (priority_facts cs above o h);
      written = λ above o fs h b n e. written o fs b n e;
      plain_fields = λ above o h.
          cons refl (cons (digits_plain o.first) (cons (digits_plain o.second) (cons (digits_plain o.factor) nil)));
    }
  where
    back : (o : PriorityRow) → PriorityFacts o → read_priority (write_priority o) ≡ some o
    back o f =
        rw (
          digits_number o.first (small f.first_high (omega arith)),
          digits_number o.second (small f.second_high (omega arith)),
          digits_number o.factor (small f.factor (omega arith)),
        )

    written : (o : PriorityRow) (fs : Fields) → begins (ascii "O") fs ≡ true → length fs ≡ 4 → read_priority fs ≡ some o
        → write_priority o ≡ fs
    written o fs b n e =
        let (first, e1, k1) = bind_some (number_in (field 1 fs)) _ o e in
        let (second, e2, k2) = bind_some (number_in (field 2 fs)) _ o k1 in
        let (factor, e3, k3) = bind_some (number_in (field 3 fs)) _ o k2 in
        subst (λ (o : PriorityRow). write_priority o ≡ fs) (some-injective _ o k3)
        (rw (number_digits (field 1 fs) first e1, number_digits (field 2 fs) second e2, number_digits (field 3 fs) factor e3)
        (lettered (ascii "O") 3 fs b n))

-- S rows
pub security_inverse : (cs : List ClassRow) → Inverse (security_kind cs)
security_inverse cs =
    record {
      begun = λ r. refl;
      counted = λ r. refl;
      back = λ above s h. back s (security_facts cs above s h);
      written = λ above s fs h b n e. written s fs (security_facts cs above s h) b n e;
      plain_fields = λ above s h.
          let f = security_facts cs above s h in
          cons refl (cons (code_plain s.code f.code) (cons (currency_plain s.currency f.currency) (cons (kind_plain s.kind)
          (cons (blank_plain digits s.duration digits_plain) (cons (digits_plain s.price) (cons (digits_plain s.coupon)
          (cons (digits_plain s.payments) (cons (digits_plain s.previous) (cons (digits_plain s.next) nil)))))))));
    }
  where
    back : (s : SecurityRow) → SecurityFacts s → read_security (write_security s) ≡ some s
    back s f =
        rw (
          kind_back s.kind,
          blank_back number_in digits s.duration (λ d e. (digits_number d (small (f.duration d e).1 (omega arith)), digits_some d)),
          digits_number s.price (small f.price_high (omega arith)),
          digits_number s.coupon (small f.coupon (omega arith)),
          digits_number s.payments (small f.payments_high (omega arith)),
          date_back s.previous f.previous,
          date_back s.next f.next,
        )

    written : (s : SecurityRow) (fs : Fields) → SecurityFacts s → begins (ascii "S") fs ≡ true → length fs ≡ 10
        → read_security fs ≡ some s → write_security s ≡ fs
    written s fs f b n e =
        let (kind, e3, k3) = bind_some (kind_in (field 3 fs)) _ s e in
        let (duration, e4, k4) = bind_some (or_blank number_in (field 4 fs)) _ s k3 in
        let (price, e5, k5) = bind_some (number_in (field 5 fs)) _ s k4 in
        let (coupon, e6, k6) = bind_some (number_in (field 6 fs)) _ s k5 in
        let (payments, e7, k7) = bind_some (number_in (field 7 fs)) _ s k6 in
        let one = some-injective _ s k7 in
        subst (λ (s : SecurityRow). write_security s ≡ fs) one
        (rw (
          kind_letter_lem (field 3 fs) kind e3,
          blank_written number_in digits (field 4 fs) duration (λ u d k l. number_digits u d k) e4,
          number_digits (field 5 fs) price e5,
          number_digits (field 6 fs) coupon e6,
          number_digits (field 7 fs) payments e7,
          date_digits (field 8 fs) _ refl (ap (λ (s : SecurityRow). is_day s.previous) one ∙ f.previous),
          date_digits (field 9 fs) _ refl (ap (λ (s : SecurityRow). is_day s.next) one ∙ f.next),
        )
        (lettered (ascii "S") 9 fs b n))

-- T rows
pub trade_inverse : (today : Day) (periods : Code → Option Period) → Inverse (trade_kind today periods)
trade_inverse today periods =
    record {
      begun = λ r. refl;
      counted = λ r. refl;
      back = λ above t h. back t (trade_facts today periods above t h);
      written = λ above t fs h b n e. written t fs (trade_facts today periods above t h) b n e;
      plain_fields = λ above t h.
          cons refl (cons (trade_plain t.trade) (cons (side_plain t.side)
          (cons (code_plain t.code (trade_facts today periods above t h).code) (cons (digits_plain t.nominal) (cons (digits_plain t.amount)
          (cons (digits_plain t.first) (cons (blank_plain digits t.last digits_plain)
          (cons (blank_plain signed_digits t.rate signed_plain) nil))))))));
    }
  where
    back : (t : TradeRow) → TradeFacts t → read_trade (write_trade t) ≡ some t
    back t f =
        rw (
          trade_back t.trade,
          side_back t.side,
          digits_number t.nominal (small f.nominal_high (omega arith)),
          digits_number t.amount (small f.amount_high (omega arith)),
          blank_back (λ u. some (date_in u)) digits t.last (λ d e. (ap some (date_back d (f.last d e)), digits_some d)),
          blank_back signed_in signed_digits t.rate (λ r e. (signed_back r (small (f.rate r e) (omega arith)), signed_some r)),
          date_back t.first f.first,
        )

    written : (t : TradeRow) (fs : Fields) → TradeFacts t → begins (ascii "T") fs ≡ true → length fs ≡ 9
        → read_trade fs ≡ some t → write_trade t ≡ fs
    written t fs f b n e =
        let (trade, e1, k1) = bind_some (trade_in (field 1 fs)) _ t e in
        let (side, e2, k2) = bind_some (side_in (field 2 fs)) _ t k1 in
        let (nominal, e4, k4) = bind_some (number_in (field 4 fs)) _ t k2 in
        let (amount, e5, k5) = bind_some (number_in (field 5 fs)) _ t k4 in
        let (last, e7, k7) = bind_some (or_blank (λ u. some (date_in u)) (field 7 fs)) _ t k5 in
        let (rate, e8, k8) = bind_some (or_blank signed_in (field 8 fs)) _ t k7 in
        let one = some-injective _ t k8 in
        subst (λ (t : TradeRow). write_trade t ≡ fs) one
        (rw (
          trade_letter_lem (field 1 fs) trade e1,
          side_letter_lem (field 2 fs) side e2,
          number_digits (field 4 fs) nominal e4,
          number_digits (field 5 fs) amount e5,
          date_digits (field 6 fs) _ refl (ap (λ (t : TradeRow). is_day t.first) one ∙ f.first),
          blank_written (λ u. some (date_in u)) digits (field 7 fs) last
              (λ u d k l. date_digits u d (some-injective _ d k) (f.last d (sym (ap (λ (t : TradeRow). t.last) one) ∙ l))) e7,
          blank_written signed_in signed_digits (field 8 fs) rate (λ u r k l. signed_digits_lem u r k) e8,
        )
        (lettered (ascii "T") 8 fs b n))
