-- The S section's room, how its rows are judged, and the loop turn by turn: the table has the rows above, what judges a row is what they
-- tell, and what the code makes of a row is what the paper makes of it.
use Prim.Native.Nat.{ℕ, ◌≤◌, ◌<◌}
use native.Mathlib.Omega.{arith}
use mathlib.Core.Bool.{Bool, true, false, not, ◌&&◌, ◌||◌}
use mathlib.Core.List.{List, [], ◌∷◌, ◌++◌, map, map-append, reverse, reverse-cons}
use mathlib.Core.Option as maybe
use mathlib.Core.Path.{◌≡◌, refl, sym, ap, ap₂, ◌∙◌, subst}
use Rattle.std.proofs.Common.{Option, Some, None, Result, Ok, Err, is_ok, ok_or}
use Rattle.std.specs.Prelude.{insert}
use lib.Dec.{T, eqb, ltb, ltb→lt}
use lib.ListN.{length, take, set, length-map}
use borrow.Author.Tests.{ltb-true}
use Rattle.paper.specs.Units.{Text, Currency, Class, Line}
use Rattle.paper.specs.Days.{day}
use Rattle.paper.specs.Lists.{between, every, given}
use Rattle.paper.specs.Text.{before, is_code, is_currency}
use Rattle.paper.specs.Rows as paper
use Rattle.paper.specs.Currencies.{currencies, has_currency}
use Rattle.paper.specs.Valuation.{class_of}
use Rattle.paper.specs.Refusals.{is_duration, security_kind}
use Rattle.paper.specs.Tables.{hold}
use Rattle.paper.proofs.Lists.{tests, both, bounds, Each, nil, cons, each_map}
use Rattle.paper.proofs.Days.{day_low}
use Rattle.paper.proofs.Currencies.{currencies_reverse}
use Rattle.paper.proofs.Rules.{SecurityFacts, security_facts}
use Rattle.places.specs.Places.{Place}
use Rattle.answers.specs.Options.{answer}
use Rattle.answers.specs.Refusals.{refusal}
use Rattle.answers.specs.declared.Refusal.{Refusal}
use Rattle.answers.specs.declared.Refusal.TheVariants.{Count, Order, Classless}
use Rattle.tables.specs.Numbers.{code_number, currency_number, highest}
use Rattle.tables.specs.Padded.{padded}
use Rattle.tables.specs.Held.{held_security, codes_of, security_table}
use Rattle.tables.specs.Back.{paper_class}
use Rattle.tables.specs.Ranks.{ranked_of, rank_of}
use Rattle.tables.specs.declared.ClassRow.{ClassRow}
use Rattle.tables.specs.declared.Securities.{Securities}
use Rattle.tables.specs.declared.Security.{Security}
use Rattle.tables.proofs.Numbers.{code_number_before}
use Rattle.tables.proofs.Padded.{codes_more}
use Rattle.tables.proofs.Ranks.{Currencied, money_of, rank_most, rank_place, rank_has, each_there, money_known, money_longer, money_new}
use Rattle.sections.specs.Sections.{broken}
use Rattle.sections.proofs.Loops.{Kept, none_kept, more_kept}
use Rattle.sections.proofs.Rooms.{Room, Judge, Judging, Taken}
use Rattle.classes.specs.Search.{class_in}
use Rattle.classes.proofs.Looked.{class_found, class_most}
use Rattle.securities.specs.Read.{held_row}
use Rattle.securities.specs.Ranks.{with_rank}
use Rattle.securities.specs.Section.{Small, rises, judged_of, security_of}
use Rattle.securities.specs.declared.SecurityRow.{SecurityRow}
use Rattle.securities.proofs.Row.{payments_parts}

-- ---- rows that keep the rules

-- What the rules of a row by itself say
record Formed (s : paper.SecurityRow) : Type 0 where
  code : is_code s.code ≡ true
  currency : is_currency s.currency ≡ true
  duration : is_duration s.kind s.duration ≡ true

formed : (s : paper.SecurityRow) → T (hold ((security_kind []).own s)) → Formed s
formed s h = record { code = search tests; currency = search tests depth 8; duration = search tests depth 8 }

-- Its numbers are in their ranges
pub small : (sheet : Text) (at : Place) (s : paper.SecurityRow) → T (hold ((security_kind []).own s)) → Small (held_row sheet at s)
small sheet at s h =
    let pays : (eqb s.payments 1 || eqb s.payments 2 || eqb s.payments 4) ≡ true = search tests in
    record {
      price = search tests;
      coupon = search tests;
      payments = (bounds 1 4 s.payments (both (between 1 4 s.payments) (not (eqb s.payments 3)) (sym (payments_parts s.payments) ∙ pays)).0).1;
      previous = day_low s.previous;
      next = day_low s.next;
    }

module _ (cs : List paper.ClassRow) where
  facts : {above : List paper.SecurityRow} → Kept (security_kind cs) above → Each SecurityFacts above
  facts none_kept = nil
  facts (more_kept {r} {above} h kept) = cons (security_facts cs above r h) (facts kept)

  currencied : {above : List paper.SecurityRow} → Kept (security_kind cs) above → Each Currencied above
  currencied kept = each_map (λ s f. f.currency) (facts kept)

  -- There was room for the last
  pub few : {above : List paper.SecurityRow} {s : paper.SecurityRow} → Kept (security_kind cs) (s ∷ above) → length above < 200
  few (more_kept h kept) = search tests

  -- ... and for its currency
  eighth : {above : List paper.SecurityRow} {s : paper.SecurityRow} → Kept (security_kind cs) (s ∷ above)
      → T (has_currency above s.currency || ltb (length (currencies above)) 8)
  eighth (more_kept h kept) = search tests depth 8

  -- Currencies are no more than there is room for
  pub few_currencies : {above : List paper.SecurityRow} → Kept (security_kind cs) above → length (currencies above) ≤ 8
  few_currencies none_kept = omega arith
  few_currencies (more_kept {r = s} {above} h kept) = go (is_ok (ranked_of (money_of above) (currency_number s.currency))) refl (few_currencies kept)
    where
      own : Currencied s
      own = (security_facts cs above s h).currency

      go : (b : Bool) → is_ok (ranked_of (money_of above) (currency_number s.currency)) ≡ b → length (currencies above) ≤ 8 → length (currencies (s ∷ above)) ≤ 8
      go true e rest = rw (money_known above (currencied kept) s own e) rest
      go false e rest =
          let has : has_currency above s.currency ≡ false = sym (rank_has above (currencied kept) s.currency own) ∙ e in
          let free = ltb→lt (length (currencies above)) 8 (rw has at (eighth (more_kept {r = s} h kept))) in
          omega (arith, money_longer above (currencied kept) s own e, free)

-- ---- the room, and how a row is judged

-- A row as it is held before the place of its currency is known
abbrev unranked : List paper.ClassRow → paper.SecurityRow → Security
unranked cs s =
    record {
      price = s.price;
      coupon = s.coupon;
      payments = s.payments;
      previous = day s.previous;
      next = day s.next;
      class = maybe.get_or (class_of cs s.kind s.duration) 0;
      currency = 0;
    }

-- The numbers of its code and its currency
abbrev code_of : paper.SecurityRow → ℕ
code_of s = code_number s.code

abbrev own_money : paper.SecurityRow → ℕ
own_money s = currency_number s.currency

-- The room
abbrev pub room : List paper.ClassRow → Room paper.SecurityRow SecurityRow Security Securities
room cs =
    record {
      kind = security_kind cs;
      letter = 83;
      its_letter = refl;
      held = held_row;
      most = 200;
      kept = unranked cs;
      table = security_table cs;
    }

-- The number of the nearest code
abbrev pub last_of : List paper.SecurityRow → Option ℕ
last_of [] = None
last_of (s ∷ above) = Some (code_of s)

-- Rule 9 by that number
pub last_before : (above : List paper.SecurityRow) → Each SecurityFacts above → (s : paper.SecurityRow) → is_code s.code ≡ true
    → rises (last_of above) (code_of s) ≡ every (λ a. before a.code s.code) (take 1 above)
last_before [] nil s p = refl
last_before (a ∷ above) (cons f each) s p = sym (code_number_before a.code s.code f.code p) ∙ go (before a.code s.code)
  where
    go : (t : Bool) → t ≡ elim t [ true ↦ true | false ↦ false ]
    go true = refl
    go false = refl

-- What is true of each is true of each in the reverse order
each_last : {A : Type 0} {P : A → Type 0} {xs : List A} {x : A} → Each P xs → P x → Each P (xs ++ (x ∷ []))
each_last nil p = cons p nil
each_last (cons q each) p = cons q (each_last each p)

each_reverse : {A : Type 0} {P : A → Type 0} {xs : List A} → Each P xs → Each P (reverse xs)
each_reverse nil = nil
each_reverse {P} (cons {a} {rest} p each) = subst (Each P) (sym (reverse-cons a rest)) (each_last (each_reverse each) p)

-- Rows with the places of their currencies
ranked_rows : (cs : List paper.ClassRow) (all : List Currency) (ss : List paper.SecurityRow)
    → Each (λ s. is_ok (ranked_of (map currency_number all) (own_money s)) ≡ true) ss
    → with_rank (map currency_number all) (map own_money ss) (map (unranked cs) ss) ≡ map (held_security cs all) ss
ranked_rows cs all [] nil = refl
ranked_rows cs all (s ∷ ss) (cons t each) =
    let placed = rank_place (own_money s) (map currency_number all) t in
    let rest = ranked_rows cs all ss each in
    λ i. record {
      price = s.price;
      coupon = s.coupon;
      payments = s.payments;
      previous = day s.previous;
      next = day s.next;
      class = maybe.get_or (class_of cs s.kind s.duration) 0;
      currency = placed i;
    } ∷ rest i

-- What the rows above tell: their currencies, which judge a row with the last code, and what is kept of each of them
pub record Told : Type 0 where
  pub currencies : List ℕ
  pub last : Option ℕ
  pub codes : List ℕ
  pub money : List ℕ

abbrev pub told_by : List paper.SecurityRow → Told
told_by above =
    record {
      currencies = money_of above;
      last = last_of above;
      codes = padded 256 highest (codes_of (reverse above));
      money = map own_money (reverse above);
    }

-- The table of rows that keep the rules, with the places of their currencies
ranked_table : (cs : List paper.ClassRow) (above : List paper.SecurityRow) → Kept (security_kind cs) above
    → {held : List Security} {seen : Told} → held ≡ map (unranked cs) (reverse above) → seen ≡ told_by above
    → record {
      rows = record { items = with_rank seen.currencies seen.money held };
      codes = seen.codes;
      currencies = record { items = seen.currencies };
    } ≡ security_table cs (reverse above)
ranked_table cs above kept {held} {seen} held_is seen_is =
    let ss = reverse above in
    let all : currencies above ≡ currencies ss = sym (currencies_reverse above) in
    let numbers : seen.currencies ≡ map currency_number (currencies ss) = ap (λ (told : Told). told.currencies) seen_is ∙ ap (map currency_number) all in
    let each = subst (λ (ds : List Currency). Each (λ s. is_ok (ranked_of (map currency_number ds) (own_money s)) ≡ true) ss) all
    (each_reverse (each_there above (currencied cs kept))) in
    let ranks : with_rank seen.currencies seen.money held ≡ map (held_security cs (currencies ss)) ss =
    (λ i. with_rank (numbers i) (seen_is i).money (held_is i)) ∙ ranked_rows cs (currencies ss) ss each
    in
    λ i. record { rows = record { items = ranks i }; codes = (seen_is i).codes; currencies = record { items = numbers i } }

-- A class, or the rule that is broken
abbrev pub rule_of : Result Class Refusal → Option Refusal
rule_of (Ok class) = None
rule_of (Err f) = Some f

-- Of a row with no rule broken: there is room, and it has a class
pub judged_ok : (count many number : ℕ) (there : Bool) (last : Option ℕ) (found : Option Class) (class : Class)
    → judged_of count there many last number found ≡ Ok class → (there ≡ false → many < 8) × (found ≡ Some class)
judged_ok count many number there last found class = go (ltb count 200) there (ltb many 8) refl (rises last number) found
  where
    judged : Bool → Bool → Option Class → Result Class Refusal
    judged room rising o = elim room [ false ↦ Err Count | true ↦ elim rising [ false ↦ Err Order | true ↦ ok_or o Classless ] ]

    go : (a b c : Bool) → ltb many 8 ≡ c → (d : Bool) (o : Option Class) → judged (a && (b || c)) d o ≡ Ok class
        → (b ≡ false → many < 8) × (o ≡ Some class)
    go false b c e d o h = cc
    go true false false e d o h = cc
    go true b c e false o h = cc
    go true b c e true None h = cc
    go true true c e true (Some k) h = ((λ z. cc), cc)
    go true false true e true (Some k) h = ((λ z. ltb-true many 8 e), cc)

-- C rows of a table
module _ (rows : List ClassRow) where
  abbrev cs : List paper.ClassRow
  cs = map paper_class rows

  -- Whether the currency of a row stands above, and how it is judged
  abbrev pub judged_by : Told → ℕ → SecurityRow → Result Class Refusal
  judged_by told count s =
      judged_of count (is_ok (ranked_of told.currencies s.terms.currency)) (length told.currencies) told.last s.terms.number
      (class_in rows s.terms.kind s.terms.duration)

  -- It is judged as the paper judges it
  pub alike : (sheet : Text) (at : Place) (above : List paper.SecurityRow) (s : paper.SecurityRow) → Kept (security_kind cs) above
      → T (hold ((security_kind cs).own s))
      → rule_of (judged_by (told_by above) (length above) (held_row sheet at s)) ≡ answer (maybe.map refusal (broken ((security_kind cs).others above s)))
  alike sheet at above s kept own =
      let form = formed s own in
      let eight = rank_has above (currencied cs kept) s.currency form.currency in
      let many = length-map (currencies above) currency_number in
      let nine = last_before above (facts cs kept) s form.code in
      let eleven = class_found s.kind s.duration form.duration rows in
      (λ i. judged (ltb (length above) 200 && (eight i || ltb (many i) 8)) (nine i) (eleven i))
      ∙ go (ltb (length above) 200 && (has_currency above s.currency || ltb (length (currencies above)) 8)) (every (λ a. before a.code s.code) (take 1 above))
      (class_of cs s.kind s.duration)
    where
      judged : Bool → Bool → Option Class → Option Refusal
      judged room rising found = rule_of (elim room [ false ↦ Err Count | true ↦ elim rising [ false ↦ Err Order | true ↦ ok_or found Classless ] ])

      go : (room rising : Bool) (o : maybe.Option Class)
          → judged room rising (answer o) ≡ answer (maybe.map refusal (broken ((8, room) ∷ (9, rising) ∷ (11, given o) ∷ [])))
      go false rising o = refl
      go true false o = refl
      go true true maybe.none = refl
      go true true (maybe.some class) = refl

  abbrev pub judge : Judge (room cs) Told
  judge = record { tell = told_by; judge = λ told count s. rule_of (judged_by told count s); alike = alike; few = few cs }

  -- ---- the loop

  -- After so many rows
  module _ {sheet : Text} {from : Place} {first : Line} {held : List Security} {at : Place} {seen : Told}
      (t : Judging judge sheet from first held at seen) where
    abbrev above : List paper.SecurityRow
    above = t.turn.above

    kept : Kept (security_kind cs) above
    kept = t.turn.going.kept

    -- The currencies are those of the rows above
    currencies_are : seen.currencies ≡ money_of above
    currencies_are = ap (λ (told : Told). told.currencies) t.seen_is

    -- A row is judged by what was found of it
    pub turn_judged : (s : SecurityRow) {numbers : List ℕ} {classes : List ClassRow} {place : Result ℕ ℕ} {there : Bool} {found : Option Class}
        {judged : Result Class Refusal} → numbers ≡ seen.currencies → classes ≡ rows → place ≡ ranked_of numbers s.terms.currency → there ≡ is_ok place
        → found ≡ class_in classes s.terms.kind s.terms.duration → judged ≡ judged_of (length held) there (length seen.currencies) seen.last s.terms.number found
        → judged_by seen (length held) s ≡ judged
    turn_judged s numbers classes ranked is class judged =
        let there = is ∙ ap is_ok ranked ∙ ap (λ (ns : List ℕ). is_ok (ranked_of ns s.terms.currency)) numbers in
        let found = class ∙ ap (λ (cs : List ClassRow). class_in cs s.terms.kind s.terms.duration) classes in
        sym (judged ∙ (λ i. judged_of (length held) (there i) (length seen.currencies) seen.last s.terms.number (found i)))

    -- A row that was read, with the class that it has where it breaks no rule
    module _ {s : SecurityRow} {next : Place} (r : Taken judge t s next) {class : Class} (ok : judged_by seen (length held) s ≡ Ok class) where
      abbrev row : paper.SecurityRow
      row = r.row_is

      own : Currencied row
      own = (formed row r.own).currency

      clear : rule_of (judged_by seen (length held) s) ≡ None
      clear = ap rule_of ok

      -- It fits the table
      pub turn_free : length held < 200
      turn_free = r.free clear

      pub turn_small : Small s
      turn_small = subst Small r.held_is (small sheet at row r.own)

      told : (is_ok (ranked_of seen.currencies s.terms.currency) ≡ false → length seen.currencies < 8)
          × (class_in rows s.terms.kind s.terms.duration ≡ Some class)
      told = judged_ok (length held) (length seen.currencies) s.terms.number _ seen.last _ class ok

      pub turn_class : every (λ c. between 1 40 c.class) rows ≡ true → class ≤ 40
      turn_class within = class_most s.terms.kind s.terms.duration rows within class told.1

      class_is : class ≡ maybe.get_or (class_of cs row.kind row.duration) 0
      class_is =
          go (class_of cs row.kind row.duration)
          (sym (class_found row.kind row.duration (formed row r.own).duration rows)
          ∙ ap (λ (s : SecurityRow). class_in rows s.terms.kind s.terms.duration) r.held_is ∙ told.1)
        where
          go : (o : maybe.Option Class) → answer o ≡ Some class → class ≡ maybe.get_or o 0
          go maybe.none e = cc
          go (maybe.some k) e = cc

      -- Where its currency stands
      abbrev standing : Result ℕ ℕ
      standing = ranked_of seen.currencies s.terms.currency

      standing_is : standing ≡ ranked_of (money_of above) (own_money row)
      standing_is = λ i. ranked_of (currencies_are i) (sym r.held_is i).terms.currency

      -- A currency that stands nowhere has room at its rank
      pub turn_room : {rank : ℕ} → standing ≡ Err rank → (rank ≤ length seen.currencies) × (length seen.currencies < 8)
      turn_room e = (omega (arith, ap rank_of e, rank_most s.terms.currency seen.currencies), told.0 (ap is_ok e))

      -- The currencies with its own
      pub turn_known : {rank : ℕ} → standing ≡ Ok rank → seen.currencies ≡ money_of (row ∷ above)
      turn_known e = currencies_are ∙ ap (map currency_number) (sym (money_known above (currencied cs kept) row own (ap is_ok (sym standing_is ∙ e))))

      pub turn_new : {rank : ℕ} → standing ≡ Err rank → insert seen.currencies rank s.terms.currency ≡ money_of (row ∷ above)
      turn_new e =
          (λ i. insert (currencies_are i) (ap rank_of (sym e ∙ standing_is) i) (sym r.held_is i).terms.currency)
          ∙ money_new above (currencied cs kept) row own (ap is_ok (sym standing_is ∙ e))

      -- It is put into the table
      pub turn_more : {more : List ℕ} → more ≡ money_of (row ∷ above)
          → Judging judge sheet from first (held ++ (security_of s class ∷ [])) next
          (record { currencies = more; last = Some s.terms.number; codes = set seen.codes (length held) s.terms.number; money = seen.money ++ (s.terms.currency ∷ []) })
      turn_more is =
          let codes_are = ap (λ (told : Told). told.codes) t.seen_is in
          let codes_longer = ap (λ (s : SecurityRow). set seen.codes (length held) s.terms.number) (sym r.held_is)
          ∙ codes_more above codes_are t.turn.going.counted row (omega (arith, turn_free)) in
          let money_longer = (λ i. (t.seen_is i).money ++ ((sym r.held_is i).terms.currency ∷ []))
          ∙ sym (map-append own_money (reverse above) (row ∷ [])) ∙ ap (map own_money) (sym (reverse-cons row above)) in
          r.more clear (security_of s class) (ap₂ security_of (sym r.held_is) class_is) _
          (λ i. record { currencies = is i; last = Some (sym r.held_is i).terms.number; codes = codes_longer i; money = money_longer i })

    -- ---- the end

    -- The table with the places of the currencies
    pub turn_table : record {
      rows = record { items = with_rank seen.currencies seen.money held };
      codes = seen.codes;
      currencies = record { items = seen.currencies };
    } ≡ security_table cs (reverse above)
    turn_table = ranked_table cs above kept t.turn.table_is t.seen_is
