-- Refusals (01, "Report and refusal numbers"), 6 to 12 (1, 2 and 13 stand in Answer, 3 to 5 in Sheet, and the forms of
-- numbers and letters, which are 6 too, in Rows): what each row kind is, with its rules in rising number; the first that
-- fails is given. A rule is a number and a test. The test says what must hold; document 01's table says what is then wrong.
-- `above` are the rows of the section above the row, the nearest first.
use Rattle.std.specs.Prelude.{ℕ, ◌-◌, Bool, true, false, not, ◌&&◌, ◌||◌, List, [], ◌∷◌, ◌++◌, eqb, leb, ltb, nat_abs, length, take}
use Rattle.std.proofs.Math.Option.{Option, none, some, map}
use Rattle.paper.specs.Units.{Text, Fields, Number, Line, Date, Day, Days, Class, Code, Duration, Factor, Rate}
use Rattle.paper.specs.Days.{is_day, day}
use Rattle.paper.specs.Lists.{between, every, first_that, given}
use Rattle.paper.specs.Text.{ascii, before, is_code, is_currency}
use Rattle.paper.specs.Rows.{Kind, government, corporate, inflation, floating, Trade, repo, cash, ClassRow, PriorityRow, SecurityRow, TradeRow, same_kind}
use Rattle.paper.specs.Rows.{read_date, write_date, read_class, write_class, read_priority, write_priority, read_security, write_security, read_trade, write_trade}
use Rattle.paper.specs.Currencies.{currencies, has_currency}
use Rattle.paper.specs.Valuation.{margined, accrual_day, security_of, lower, class_of}

-- What reading gives: a refusal with its line, or what was read
pub data Outcome (A : Type 0) : Type 0 where
  refused : Number → Line → Outcome A
  accepted : A → Outcome A

infixl 20 ◌>>=◌
-- Nothing goes on from a refusal
abbrev pub ◌>>=◌ : {A B : Type 0} → Outcome A → (A → Outcome B) → Outcome B
refused number line >>= next = refused number line
accepted a >>= next = next a

-- A refusal number, and whether its rule holds
abbrev pub Rule : Type 0
Rule = Number × Bool

-- Rules in rising number, on what stands at a line: the first that fails is its refusal
abbrev pub judged : {A : Type 0} → Line → A → List Rule → Outcome A
judged at a [] = accepted a
judged at a (rule ∷ rules) = elim rule.1 [ true ↦ judged at a rules | false ↦ refused rule.0 at ]

-- What a row kind is: its letter, how many fields a row has with it, how they are read and written, the rules on a row by
-- itself, and those that look at other rows: at those above it, the nearest first, and at other tables
pub record RowKind (R : Type 0) : Type 0 where
  pub letter : Text
  pub many : ℕ
  pub read : Fields → Option R
  pub write : R → Fields
  pub own : R → List Rule
  pub others : List R → R → List Rule

-- All rules of a row, in rising number
abbrev pub rules_of : {R : Type 0} → RowKind R → List R → R → List Rule
rules_of kind above r = kind.own r ++ kind.others above r

-- A class, wherever it stands: 1..40
abbrev pub is_class : Class → Bool
is_class = between 1 40

-- A factor: 0..10,000 ten-thousandths
abbrev pub is_factor : Factor → Bool
is_factor f = leb f 10_000

-- Border and duration are blank exactly for kinds I and F: else 1..1,000,000 ten-thousandths of a year
abbrev pub is_duration : Kind → Option Duration → Bool
is_duration kind none = same_kind kind inflation || same_kind kind floating
is_duration kind (some d) = (same_kind kind government || same_kind kind corporate) && between 1 1_000_000 d

-- Two real dates, the second so many days after the first: at least one, and so many at most
abbrev pub follows : Days → Date → Date → Bool
follows most first second = is_day first && is_day second && between 1 most (day second - day first)

-- D row: 7 the calculation date is a day, no later than 23991220
abbrev pub date_kind : RowKind Date
date_kind =
    record {
      letter = ascii "D";
      many = 2;
      read = read_date;
      write = write_date;
      own = λ d. (7, is_day d && leb d 23_991_220) ∷ [];
      others = λ above d. [];
    }

-- Whether a C row may stand above another: its class is lower, and its border too where their kind is one
-- (So I and F have one class at most.)
abbrev pub may_precede : ClassRow → ClassRow → Bool
may_precede a c =
    ltb a.class c.class && (not (same_kind a.kind c.kind) || lower a.border c.border)

-- C rows: 6 fields; 8 at most 40; 9 classes and the borders of one kind rise
abbrev pub class_kind : RowKind ClassRow
class_kind =
    record {
      letter = ascii "C";
      many = 5;
      read = read_class;
      write = write_class;
      own = λ c. (6, is_class c.class && is_duration c.kind c.border && is_factor c.deposit) ∷ [];
      others = λ above c. (8, ltb (length above) 40) ∷ (9, every (λ a. may_precede a c) above) ∷ [];
    }

-- Whether a class has a C row
abbrev pub has_class : List ClassRow → Class → Bool
has_class cs n = given (first_that (λ c. eqb c.class n) cs)

-- O rows: 6 fields; 8 at most 200; 10 both classes are on the sheet
abbrev pub priority_kind : List ClassRow → RowKind PriorityRow
priority_kind cs =
    record {
      letter = ascii "O";
      many = 4;
      read = read_priority;
      write = write_priority;
      own = λ o. (6, is_class o.first && is_class o.second && is_factor o.factor) ∷ [];
      others = λ above o. (8, ltb (length above) 200) ∷ (10, has_class cs o.first && has_class cs o.second) ∷ [];
    }

-- The fields of an S row that are no dates
abbrev pub security_fields : SecurityRow → Bool
security_fields s =
    is_code s.code
    && is_currency s.currency
    && is_duration s.kind s.duration
    && between 1 20_000_000 s.price
    && leb s.coupon 2_000_000
    && (eqb s.payments 1 || eqb s.payments 2 || eqb s.payments 4)

-- S rows: 6 fields; 7 next coupon 1 to 400 days after the previous; 8 at most 200, and the currency stands above or is
-- one of the first 8; 9 codes rise; 11 a class
abbrev pub security_kind : List ClassRow → RowKind SecurityRow
security_kind cs =
    record {
      letter = ascii "S";
      many = 10;
      read = read_security;
      write = write_security;
      own = λ s. (6, security_fields s) ∷ (7, follows 400 s.previous s.next) ∷ [];
      others = λ above s.
          (8, ltb (length above) 200 && (has_currency above s.currency || ltb (length (currencies above)) 8))
          ∷ (9, every (λ a. before a.code s.code) (take 1 above))
          ∷ (11, given (class_of cs s.kind s.duration))
          ∷ [];
    }

-- A rate: -200,000..200,000 ten-thousandths of a percent
abbrev pub is_rate : Rate → Bool
is_rate r = leb (nat_abs r) 200_000

-- Last date and rate are blank exactly for cash; a repo's last date is left to 7
abbrev pub is_term : Trade → Option Date → Option Rate → Bool
is_term cash last rate = not (given last) && not (given rate)
is_term repo last none = false
is_term repo last (some rate) = is_rate rate

-- The fields of a T row that are no dates
abbrev pub trade_fields : TradeRow → Bool
trade_fields t =
    is_code t.code
    && between 1 100_000_000 t.nominal
    && between 1 30_000_000_000 t.amount
    && is_term t.trade t.last t.rate

-- The dates of a T row: a repo's last 1 to 730 days after its first
abbrev pub trade_dates : Trade → Date → Option Date → Bool
trade_dates cash first last = is_day first
trade_dates repo first none = false
trade_dates repo first (some last) = follows 730 first last

-- A coupon period: the days of the previous and of the next coupon date
pub record Period : Type 0 where
  pub previous : Day
  pub next : Day

-- The coupon period of the security with a code, where the sheet has one
abbrev pub period_of : List SecurityRow → Code → Option Period
period_of ss c = map (λ s. record { previous = day s.previous; next = day s.next }) (security_of ss c)

-- Whether the accrual day of a margined trade is at or after the previous and before the next coupon date
abbrev pub in_period : Day → TradeRow → Option Period → Bool
in_period today t none = false
in_period today t (some p) =
    let on = accrual_day today t in
    not (margined today t) || (leb p.previous on && ltb on p.next)

-- T rows: 6 fields; 7 dates; 8 at most 500; 10 the security is on the sheet; 12 accrual in the coupon period. Of the
-- securities they ask for the period that a code has
abbrev pub trade_kind : Day → (Code → Option Period) → RowKind TradeRow
trade_kind today periods =
    record {
      letter = ascii "T";
      many = 9;
      read = read_trade;
      write = write_trade;
      own = λ t. (6, trade_fields t) ∷ (7, trade_dates t.trade t.first t.last) ∷ [];
      others = λ above t.
          (8, ltb (length above) 500)
          ∷ (10, given (periods t.code))
          ∷ (12, in_period today t (periods t.code))
          ∷ [];
    }
