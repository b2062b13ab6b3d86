-- Valuation of a trade (01, "The rules", from Selection to Class; 002 decides).
use Rattle.std.specs.Prelude.{suc, ◌+◌, ◌-◌, ◌*◌, Bool, true, false, not, ◌&&◌, List, [], ◌∷◌, map, leb, ltb, pos, negsuc, ◌-ℤ◌, ◌*ℤ◌, length}
use Rattle.std.proofs.Math.Option
use Rattle.std.proofs.Math.Option.{Option, none, some, get_or}
use Rattle.paper.specs.Units.{Line, Day, Days, Class, Code, Nominal, Quote, Payments, Duration, Rate, Sign, Cents, SignedCents, SignedWhole}
use Rattle.paper.specs.Rounding.{nearest, rounded}
use Rattle.paper.specs.Days.{day, working_after}
use Rattle.paper.specs.Lists.{only, first_that}
use Rattle.paper.specs.Signs.{signed_sum}
use Rattle.paper.specs.Text.{same}
use Rattle.paper.specs.Rows.{Kind, Trade, repo, cash, Side, seller, purchaser, ClassRow, SecurityRow, TradeRow, Tables, same_kind}

-- The last day of a repo
abbrev pub last_day : TradeRow → Day
last_day t = day (get_or t.last 0)

-- Selection (01; 002 a, step 2): cash settles after the calculation day; a repo has begun and has not ended
abbrev pub margined : Day → TradeRow → Bool
margined today t =
    elim t.trade [ cash ↦ ltb today (day t.first) | repo ↦ leb (day t.first) today && ltb today (last_day t) ]

-- Accrual day (01, "Accrued coupon"): settlement for cash, the first working day after calculation for a repo
abbrev pub accrual_day : Day → TradeRow → Day
accrual_day today t = elim t.trade [ cash ↦ day t.first | repo ↦ working_after today ]

-- Accrued coupon (01; 002 step 3): yearly coupon × days run / (payments a year × days of the period), as the coupon's unit
abbrev pub accrued : Quote → Payments → Days → Days → Quote
accrued coupon payments run period = nearest (coupon * run) (payments * period)

-- Accrued coupon of a security on a day of its coupon period
abbrev pub accrued_on : SecurityRow → Day → Quote
accrued_on s on =
    accrued s.coupon s.payments (on - day s.previous) (day s.next - day s.previous)

-- Revaluated amount (01; 002 step 5): whole units × hundred-thousandths of a percent / 100,000, in cents
abbrev pub revaluated : Nominal → Quote → Cents
revaluated nominal quote = nearest (nominal * quote) 100_000

-- Repo interest (01; 002 step 4): days × cents × ten-thousandths of a percent / 36,000,000,000, in whole units
abbrev pub interest : Days → Cents → Rate → SignedWhole
interest days amount rate = rounded (pos (days * amount) *ℤ rate) 36_000_000_000

-- Interest of a trade, from its first date to the first working day after calculation; cash has none
abbrev pub interest_of : Day → TradeRow → SignedWhole
interest_of today t =
    elim t.trade [
      | cash ↦ pos 0
      | repo ↦ interest (working_after today - day t.first) t.amount (get_or t.rate (pos 0))
    ]

-- Sign (01; 002 note 2, 001 notes 1 and 2): +1 for who is to receive the bond, -1 for who is to deliver it
abbrev pub sign_of : Trade → Side → Sign
sign_of cash purchaser = pos 1
sign_of cash seller = negsuc 0
sign_of repo seller = pos 1
sign_of repo purchaser = negsuc 0

-- Mark-to-market (01): (revaluated - amount - 100 × interest) × sign, in cents
abbrev pub mark_to_market : Cents → Cents → SignedWhole → Sign → SignedCents
mark_to_market worth amount due sign = (pos worth -ℤ pos amount -ℤ pos 100 *ℤ due) *ℤ sign

-- The S row of a code
abbrev pub security_of : List SecurityRow → Code → Option SecurityRow
security_of ss c = first_that (λ s. same s.code c) ss

-- A margined trade with its figures: the revaluated amount × sign, and the mark-to-market, both in cents
pub record Valued : Type 0 where
  pub line : Line
  pub security : SecurityRow
  pub signed_worth : SignedCents
  pub mark : SignedCents

-- The figures of a trade in a security, on a calculation day, at a line of the sheet
abbrev pub valued : Day → Line → TradeRow → SecurityRow → Valued
valued today at t s =
    let worth = revaluated t.nominal (s.price + accrued_on s (accrual_day today t)) in
    let sign = sign_of t.trade t.side in
    record { line = at; security = s; signed_worth = pos worth *ℤ sign; mark = mark_to_market worth t.amount (interest_of today t) sign }

-- The margined trades of a table that begins at a line, in sheet order
unfoldable pub valued_from : Day → List SecurityRow → Line → List TradeRow → List Valued
valued_from today ss at [] = []
valued_from today ss at (t ∷ ts) =
    let rest = valued_from today ss (suc at) ts in
    elim (margined today t) [
      | false ↦ rest
      | true ↦ elim (security_of ss t.code) [ none ↦ rest | some s ↦ valued today at t s ∷ rest ]
    ]

-- The margined trades of a sheet: its T rows stand behind the header, the D row and the other three tables
abbrev pub valued_in : Tables → List Valued
valued_in t =
    valued_from (day t.date) t.securities
    (3 + length t.classes + length t.priorities + length t.securities)
    t.trades

-- The revaluated amounts × sign of the margined trades in a security, in cents
abbrev pub signed_worths_in : Code → List Valued → List SignedCents
signed_worths_in c vs = map (λ v. v.signed_worth) (only (λ v. same v.security.code c) vs)

-- Netting (01): such amounts of one security, summed in cents, then rounded to a whole unit
abbrev pub net_of : List SignedCents → SignedWhole
net_of amounts = rounded (signed_sum amounts) 100

-- Whether a border or duration is below another; kinds I and F have none, which is below none
abbrev pub lower : Option Duration → Option Duration → Bool
lower none b = false
lower (some a) none = false
lower (some a) (some b) = ltb a b

-- Class (01; 002 annex 1): of the kind, with the smallest border not below the duration: the first, since borders rise
abbrev pub class_of : List ClassRow → Kind → Option Duration → Option Class
class_of cs kind duration =
    Option.map (λ c. c.class)
    (first_that (λ c. same_kind c.kind kind && not (lower c.border duration)) cs)
