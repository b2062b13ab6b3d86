-- A row read from its line: what is asked and learnt of the line, and what a row is by the readings of its fields. Each field is
-- read and held against its part of rule 6; the row is refused where one fails. Said once, over the row kind.
use Prim.Native.Nat.{ℕ, suc, ◌+◌, ◌-◌, ◌≤◌, ◌<◌}
use native.Mathlib.Numerals.{add-one}
use native.Mathlib.Omega.{arith}
use mathlib.Core.Bool.{Bool, true, false, cond, ◌&&◌}
use mathlib.Core.List.{[], ◌∷◌}
use mathlib.Core.Option
use mathlib.Core.Option.{Option, none, some, some-injective, map}
use mathlib.Core.Path.{◌≡◌, refl, sym, ap, ◌∙◌}
use borrow.Author.Tests.{eq-eqb, ne_eqb, le-leb}
use lib.Dec.{leb, ltb}
use lib.ListN.{length, get_or}
use Rattle.paper.specs.Units.{Text, Fields, Duration, Date, Day}
use Rattle.paper.specs.Days.{day_of, day}
use Rattle.paper.specs.Lists.{between, given, when, ◌>>=◌}
use Rattle.paper.specs.Text.{LF, number_in, or_blank}
use Rattle.paper.specs.Rows.{Kind, government, corporate, inflation, floating, field}
use Rattle.paper.specs.Refusals.{refused, judged, RowKind, is_duration, follows}
use Rattle.tables.specs.Numbers.{kind_number}
use Rattle.places.specs.Places.{Place, ended_length, line_at, field_text, Stands}
use Rattle.fields.specs.Values.{ranged_in, duration_in}
use Rattle.places.specs.declared.Line.{Line}
use Rattle.places.proofs.Places.{LineThere, line_there, ended_lf, ended_most}
use Rattle.answers.specs.Options.{answer}
use Rattle.answers.specs.Refusals.{refusal}
use Rattle.answers.specs.declared.Refusal.{Refusal}
use Rattle.sections.specs.Sections.{fields_at, shaped, read_as}
use Rattle.std.proofs.Common as answers
use Rattle.std.proofs.Common.{Result, Ok, Err, Some, None, ok_or}

-- ---- the line

-- What `line_at` requires of a place before the end
pub line_asked : (s : Text) (at end : Place) → at < end → end ≡ ended_length s → (at < end) × (end ≤ length s) × (get_or s (end - 1) 0 ≡ LF)
line_asked s at end h k = (h, omega (arith, ended_most s), rw k (ended_lf s (omega arith)))

-- A line of so many fields: each stands where its ends say, and is what is read there
pub record Lined (s : Text) (at : Place) (line : Line) (many : ℕ) : Type 0 where
  pub same : line ≡ line_at s at
  pub count : length (fields_at s at) ≡ many
  pub stands : (k : ℕ) → k + 1 < many → Stands s line.ends k
  pub parts : (k : ℕ) → k + 1 < many → field (k + 1) (fields_at s at) ≡ field_text s line.ends k

module _ (s : Text) (at end : Place) (h : at < end) (k : end ≡ ended_length s) where
  there : LineThere s at
  there = line_there s at (omega arith)

  fields_there : fields_at s at ≡ there.fields
  fields_there = ap (λ l. get_or l 0 []) there.read

  module _ (line : Line) (e : line ≡ line_at s at) where
    -- The line has as many fields as were counted
    pub counted : length (fields_at s at) ≡ line.count
    counted = ap length fields_there ∙ sym there.count ∙ sym (ap (λ (l : Line). l.count) e)

    pub lined : (many : ℕ) → many ≤ 10 → line.count ≡ many → Lined s at line many
    lined many m n =
        let small : (i : ℕ) → i + 1 < many → suc i < length there.fields = λ i l. omega (arith, ap length fields_there, counted ∙ n) in
        record {
          same = e;
          count = counted ∙ n;
          stands = λ i l.
              let f = there.field (suc i) (small i l) (omega arith) in
              rw e (record { few = omega arith; ordered = rw (add-one i) f.ordered; inside = rw (add-one i) (omega (arith, f.inside)) });
          parts = λ i l.
              let f = there.field (suc i) (small i l) (omega arith) in
              rw (add-one i) (ap (field (suc i)) fields_there ∙ rw e (sym f.is));
        }

-- What a row reader asks of a field
pub field_asked : (s : Text) (at end : Place) → at < end → end ≡ ended_length s → (line : Line) → line ≡ line_at s at
    → (many : ℕ) → many ≤ 10 → line.count ≡ many → (k : ℕ) → k + 1 < many → Stands s line.ends k
field_asked s at end h k line e many m n = (lined s at end h k line e many m n).stands

-- ---- rules

-- From 0 on there is only a highest
pub from_zero : (most n : ℕ) → between 0 most n ≡ leb n most
from_zero most n = rw (le-leb 0 n (omega arith))

module _ {R H : Type 0} (held : R → H) (next : Place) (kind : RowKind R) (fs : Fields) where
  -- 5 where there are not so many fields
  pub not_many : (length fs ≡ kind.many → ⊥) → read_as held next (shaped kind fs) ≡ Err (refusal 5)
  not_many n = rw (read_as, ne_eqb (length fs) kind.many n)

  -- 6 where its fields, held against rule 6, read as nothing
  abbrev pub sixth : (R → Result (H × Place) Refusal) → Option R → Result (H × Place) Refusal
  sixth then none = Err (refusal 6)
  sixth then (some r) = then r

  module _ (many : length fs ≡ kind.many) (six : R → Bool) where
    -- Else it is the row, where there is no other rule
    pub one_rule : ((r : R) → kind.own r ≡ (6, six r) ∷ [])
        → read_as held next (shaped kind fs) ≡ sixth (λ r. Ok (held r, next)) (kind.read fs >>= λ r. when (six r) r)
    one_rule own = rw (read_as, eq-eqb (length fs) kind.many many) (go (kind.read fs))
      where
        go : (o : Option R)
            → read_as held next (elim o [ none ↦ refused 6 0 | some r ↦ judged 0 r (kind.own r) ]) ≡ sixth (λ r. Ok (held r, next)) (o >>= λ r. when (six r) r)
        go none = refl
        go (some r) = rw (own r) (test (six r))
          where
            test : (b : Bool) → read_as held next (judged 0 r ((6, b) ∷ [])) ≡ sixth (λ r. Ok (held r, next)) (when b r)
            test true = refl
            test false = refl

    -- or by rule 7
    pub two_rules : (seven : R → Bool) → ((r : R) → kind.own r ≡ (6, six r) ∷ (7, seven r) ∷ [])
        → read_as held next (shaped kind fs)
        ≡ sixth (λ r. cond (seven r) (Ok (held r, next)) (Err (refusal 7))) (kind.read fs >>= λ r. when (six r) r)
    two_rules seven own = rw (read_as, eq-eqb (length fs) kind.many many) (go (kind.read fs))
      where
        go : (o : Option R)
            → read_as held next (elim o [ none ↦ refused 6 0 | some r ↦ judged 0 r (kind.own r) ])
            ≡ sixth (λ r. cond (seven r) (Ok (held r, next)) (Err (refusal 7))) (o >>= λ r. when (six r) r)
        go none = refl
        go (some r) = rw (own r) (first (six r))
          where
            second : (b : Bool) → read_as held next (judged 0 r ((7, b) ∷ [])) ≡ cond b (Ok (held r, next)) (Err (refusal 7))
            second true = refl
            second false = refl

            first : (a : Bool)
                → read_as held next (judged 0 r ((6, a) ∷ (7, seven r) ∷ []))
                ≡ sixth (λ r. cond (seven r) (Ok (held r, next)) (Err (refusal 7))) (when a r)
            first true = second (seven r)
            first false = refl

-- ---- what the fields gave

module _ {R H : Type 0} (held : R → H) (next : Place) (kind : RowKind R) (fs : Fields) (many : length fs ≡ kind.many) (six : R → Bool)
    (own : (r : R) → kind.own r ≡ (6, six r) ∷ []) {read : answers.Option H}
    (is : answer (map held (kind.read fs >>= λ r. when (six r) r)) ≡ read) where
  -- Nothing: the row is refused 6
  pub fields_none : read ≡ None → Err (refusal 6) ≡ read_as held next (shaped kind fs)
  fields_none e = go (kind.read fs >>= λ r. when (six r) r) (is ∙ e) ∙ sym (one_rule held next kind fs many six own)
    where
      go : (o : Option R) → answer (map held o) ≡ None → Err (refusal 6) ≡ sixth held next kind fs (λ r. Ok (held r, next)) o
      go none e = refl
      go (some r) e = cc

  -- or the row
  pub fields_some : {h : H} → read ≡ Some h → Ok (h, next) ≡ read_as held next (shaped kind fs)
  fields_some {h} e = go (kind.read fs >>= λ r. when (six r) r) (is ∙ e) ∙ sym (one_rule held next kind fs many six own)
    where
      go : (o : Option R) → answer (map held o) ≡ Some h → Ok (h, next) ≡ sixth held next kind fs (λ r. Ok (held r, next)) o
      go none e = cc
      go (some r) e = let same : h ≡ held r = cc in ap (λ (h : H). Ok (h, next)) same

  -- So it is what is handed on of them
  pub fields_refused : {f : Refusal} → ok_or read (refusal 6) ≡ Err f → Err f ≡ read_as held next (shaped kind fs)
  fields_refused {f} = go read refl
    where
      go : (o : answers.Option H) → read ≡ o → ok_or o (refusal 6) ≡ Err f → Err f ≡ read_as held next (shaped kind fs)
      go None n e = let same : refusal 6 ≡ f = cc in rw (sym same) (fields_none n)
      go (Some h) n e = cc

  pub fields_taken : {h : H} → ok_or read (refusal 6) ≡ Ok h → Ok (h, next) ≡ read_as held next (shaped kind fs)
  fields_taken {h} = go read refl
    where
      go : (o : answers.Option H) → read ≡ o → ok_or o (refusal 6) ≡ Ok h → Ok (h, next) ≡ read_as held next (shaped kind fs)
      go None n e = cc
      go (Some g) n e = let same : g ≡ h = cc in fields_some (n ∙ ap (λ (h : H). Some h) same)

-- The same where rule 7 is another: it is the row of what the fields give and of what the dates do
module _ {R H A D : Type 0} (held : R → H) (next : Place) (kind : RowKind R) (fs : Fields) (dates : A → Option D) (whole : A → D → H) where
  -- What the row is by its dates
  abbrev seventh : A → Option D → Result (H × Place) Refusal
  seventh a none = Err (refusal 7)
  seventh a (some d) = Ok (whole a d, next)

  -- ... and by its fields
  abbrev pub by_fields : Option A → Result (H × Place) Refusal
  by_fields none = Err (refusal 6)
  by_fields (some a) = seventh a (dates a)

  module _ (many : length fs ≡ kind.many) (six seven : R → Bool) (own : (r : R) → kind.own r ≡ (6, six r) ∷ (7, seven r) ∷ []) (part : R → A) where
    pub by_kept_dates : ((r : R) → kind.read fs ≡ some r → six r ≡ true → when (seven r) (held r) ≡ map (whole (part r)) (dates (part r)))
        → read_as held next (shaped kind fs) ≡ by_fields (map part (kind.read fs >>= λ r. when (six r) r))
    by_kept_dates dated = two_rules held next kind fs many six seven own ∙ go (kind.read fs) refl
      where
        last : (r : R) (b : Bool) (o : Option D) → when b (held r) ≡ map (whole (part r)) o
            → cond {A = Result (H × Place) Refusal} b (Ok (held r, next)) (Err (refusal 7)) ≡ seventh (part r) o
        last r true none e = cc
        last r true (some d) e = ap (λ (h : H). Ok (h, next)) (some-injective (held r) (whole (part r) d) e)
        last r false none e = refl
        last r false (some d) e = cc

        go : (o : Option R) → kind.read fs ≡ o
            → sixth held next kind fs (λ r. cond (seven r) (Ok (held r, next)) (Err (refusal 7))) (o >>= λ r. when (six r) r)
            ≡ by_fields (map part (o >>= λ r. when (six r) r))
        go none e = refl
        go (some r) e = test (six r) refl
          where
            test : (b : Bool) → six r ≡ b
                → sixth held next kind fs (λ r. cond (seven r) (Ok (held r, next)) (Err (refusal 7))) (when b r) ≡ by_fields (map part (when b r))
            test true k = last r (seven r) (dates (part r)) (dated r e k)
            test false k = refl

    -- ... where the dates are the same of any row
    pub by_dates : ((r : R) → kind.read fs ≡ some r → when (seven r) (held r) ≡ map (whole (part r)) (dates (part r)))
        → read_as held next (shaped kind fs) ≡ by_fields (map part (kind.read fs >>= λ r. when (six r) r))
    by_dates dated = by_kept_dates (λ r e k. dated r e)

  -- Nothing: the row is refused 6
  pub dated_none : (o : Option A) {read : answers.Option A} → read ≡ answer o → {f : Refusal} → ok_or read (refusal 6) ≡ Err f → Err f ≡ by_fields o
  dated_none none reads {f} e = let same : refusal 6 ≡ f = cc in ap (λ (f : Refusal). Err f) (sym same)
  dated_none (some a) reads e = cc

  -- No dates: it is refused 7
  pub dated_refused : (o : Option A) {read : answers.Option A} → read ≡ answer o → {a : A} → ok_or read (refusal 6) ≡ Ok a
      → {days : answers.Option D} → days ≡ answer (dates a) → {f : Refusal} → ok_or days (refusal 7) ≡ Err f → Err f ≡ by_fields o
  dated_refused none reads e given_days k = cc
  dated_refused (some b) reads {a} e given_days {f} k =
      let same : a ≡ b = cc in
      rw (sym same) (go (dates a) (rw (sym given_days) k))
    where
      go : (o : Option D) → ok_or (answer o) (refusal 7) ≡ Err f → Err f ≡ seventh a o
      go none e = let same : refusal 7 ≡ f = cc in ap (λ (f : Refusal). Err f) (sym same)
      go (some d) e = cc

  -- or the row
  pub dated_taken : (o : Option A) {read : answers.Option A} → read ≡ answer o → {a : A} → ok_or read (refusal 6) ≡ Ok a
      → {days : answers.Option D} → days ≡ answer (dates a) → {d : D} → ok_or days (refusal 7) ≡ Ok d → Ok (whole a d, next) ≡ by_fields o
  dated_taken none reads e given_days k = cc
  dated_taken (some b) reads {a} e given_days {d} k =
      let same : a ≡ b = cc in
      rw (sym same) (go (dates a) (rw (sym given_days) k))
    where
      go : (o : Option D) → ok_or (answer o) (refusal 7) ≡ Ok d → Ok (whole a d, next) ≡ seventh a o
      go none e = cc
      go (some c) e = let same : d ≡ c = cc in ap (λ (d : D). Ok (whole a d, next)) same

-- ---- a border or duration

-- A blank is no number
blank_number : number_in [] ≡ none
unfolding number_in
blank_number = refl

-- The code's reading is the paper's, with its rule
duration_held : (kind : Kind) (t : Text)
    → (or_blank number_in t >>= λ d. when (is_duration kind d) (Option.get_or d 0)) ≡ duration_in (ltb (kind_number kind) 2) t
duration_held kind [] = go kind
  where
    go : (kind : Kind) → when (is_duration kind none) 0 ≡ duration_in (ltb (kind_number kind) 2) []
    go government = rw blank_number
    go corporate = rw blank_number
    go inflation = refl
    go floating = refl
duration_held kind (b ∷ t) = go kind (number_in (b ∷ t)) refl
  where
    go : (kind : Kind) (o : Option ℕ) → number_in (b ∷ t) ≡ o
        → (map some o >>= λ d. when (is_duration kind d) (Option.get_or d 0)) ≡ duration_in (ltb (kind_number kind) 2) (b ∷ t)
    go government none e = rw e
    go government (some n) e = rw e
    go corporate none e = rw e
    go corporate (some n) e = rw e
    go inflation none e = refl
    go inflation (some n) e = refl
    go floating none e = refl
    go floating (some n) e = refl

-- ---- one field after the other

-- What follows, where a test holds
abbrev pub gated : {A : Type 0} → Bool → Option A → Option A
gated b o = elim b [ true ↦ o | false ↦ none ]

module _ {R A : Type 0} (end : Option R → Option A) (ends : end none ≡ none) where
  nothing : (good : Bool) → end none ≡ gated good none
  nothing true = ends
  nothing false = ends

  -- A field that is read and held against a test: the row goes on with what it is held as, or there is none
  pub joint : {X Y : Type 0} (good : Bool) (o : Option X) (test : X → Bool) (held : X → Y) (next : X → Option R) (then : Y → Option A)
      → ((x : X) → end (next x) ≡ gated (good && test x) (then (held x)))
      → end (o >>= next) ≡ gated good ((o >>= λ x. when (test x) (held x)) >>= then)
  joint good none test held next then goes = nothing good
  joint {X} good (some x) test held next then goes = go good (test x) (goes x)
    where
      go : (good b : Bool) → end (next x) ≡ gated (good && b) (then (held x)) → end (next x) ≡ gated good (when b (held x) >>= then)
      go true true e = e
      go true false e = e
      go false b e = e

  -- A letter has no test
  pub lettered : {X Y : Type 0} (good : Bool) (o : Option X) (held : X → Y) (next : X → Option R) (then : Y → Option A)
      → ((x : X) → end (next x) ≡ gated good (then (held x)))
      → end (o >>= next) ≡ gated good (map held o >>= then)
  lettered good none held next then goes = nothing good
  lettered good (some x) held next then goes = goes x

  -- A number from a lowest to a highest
  pub ranged : (good : Bool) (lowest most : ℕ) (t : Text) (next : ℕ → Option R) (then : ℕ → Option A)
      → ((n : ℕ) → end (next n) ≡ gated (good && between lowest most n) (then n))
      → end (number_in t >>= next) ≡ gated good (ranged_in lowest most t >>= then)
  ranged good lowest most t next then = joint good (number_in t) (between lowest most) (λ n. n) next then

  -- A border or duration
  pub lasting : (good : Bool) (kind : Kind) (t : Text) (next : Option Duration → Option R) (then : ℕ → Option A)
      → ((d : Option Duration) → end (next d) ≡ gated (good && is_duration kind d) (then (Option.get_or d 0)))
      → end (or_blank number_in t >>= next) ≡ gated good (duration_in (ltb (kind_number kind) 2) t >>= then)
  lasting good kind t next then goes =
      joint good (or_blank number_in t) (is_duration kind) (λ d. Option.get_or d 0) next then goes
      ∙ ap (λ (o : Option ℕ). gated good (o >>= then)) (duration_held kind t)

-- ---- a row of three numbers, each from a lowest to a highest

module _ {R H : Type 0} (held : R → H) (kind : RowKind R) (make : ℕ → ℕ → ℕ → R) (l1 h1 l2 h2 l3 h3 : ℕ)
    (many : kind.many ≡ 4)
    (reads : (fs : Fields) → kind.read fs ≡ (number_in (field 1 fs) >>= λ a. number_in (field 2 fs) >>= λ b. number_in (field 3 fs) >>= λ c. some (make a b c)))
    (six : R → Bool) (owns : (r : R) → kind.own r ≡ (6, six r) ∷ [])
    (sixes : (a b c : ℕ) → six (make a b c) ≡ (between l1 h1 a && between l2 h2 b && between l3 h3 c)) where
  -- The row by three texts
  abbrev pub three_from : Text → Text → Text → Option H
  three_from first second third =
      ranged_in l1 h1 first >>= λ a. ranged_in l2 h2 second >>= λ b. ranged_in l3 h3 third >>= λ c. some (held (make a b c))

  -- By the texts of its fields, one field after the other
  three_fields : (fs : Fields) → map held (kind.read fs >>= λ r. when (six r) r) ≡ three_from (field 1 fs) (field 2 fs) (field 3 fs)
  three_fields fs =
      let end : Option R → Option H = λ o. map held (o >>= λ r. when (six r) r) in
      ap end (reads fs)
      ∙ (ranged end refl true l1 h1 (field 1 fs) _ _ λ a.
      ranged end refl (between l1 h1 a) l2 h2 (field 2 fs) _ _ λ b.
      ranged end refl (between l1 h1 a && between l2 h2 b) l3 h3 (field 3 fs) _ _ λ c. last a b c)
    where
      last : (a b c : ℕ)
          → map held (when (six (make a b c)) (make a b c))
          ≡ gated ((between l1 h1 a && between l2 h2 b) && between l3 h3 c) (some (held (make a b c)))
      last a b c = rw (sixes a b c) (go (between l1 h1 a) (between l2 h2 b) (between l3 h3 c))
        where
          go : (x y z : Bool) → map held (when (x && y && z) (make a b c)) ≡ gated ((x && y) && z) (some (held (make a b c)))
          go true true true = refl
          go true true false = refl
          go true false z = refl
          go false y z = refl

  -- What is answered where fields gave a row, or none
  abbrev pub handed : Place → answers.Option H → Result (H × Place) Refusal
  handed next None = Err (refusal 6)
  handed next (Some h) = Ok (h, next)

  -- By what was read of its fields
  pub three_there : (s : Text) (at : Place) (line : Line) → Lined s at line 4 → {read : answers.Option H}
      → read ≡ answer (three_from (field_text s line.ends 0) (field_text s line.ends 1) (field_text s line.ends 2))
      → handed line.next read ≡ read_as held (line_at s at).next (shaped kind (fields_at s at))
  three_there s at line l {read} is = ap (λ (l : Line). handed l.next read) l.same ∙ go read refl
    where
      next : Place
      next = (line_at s at).next

      whole : answer (map held (kind.read (fields_at s at) >>= λ r. when (six r) r)) ≡ read
      whole =
          ap answer
          (three_fields (fields_at s at) ∙ (λ i. three_from (l.parts 0 (omega arith) i) (l.parts 1 (omega arith) i) (l.parts 2 (omega arith) i)))
          ∙ sym is

      go : (o : answers.Option H) → read ≡ o → handed next o ≡ read_as held next (shaped kind (fields_at s at))
      go None e = fields_none held next kind (fields_at s at) (l.count ∙ sym many) six owns whole e
      go (Some h) e = fields_some held next kind (fields_at s at) (l.count ∙ sym many) six owns whole e

-- ---- two dates

-- Two days, the second so many days after the first at most
abbrev pub spanned : ℕ → Option Day → Option Day → Option (Day × Day)
spanned most p q = p >>= λ a. q >>= λ b. when (between 1 most (b - a)) (a, b)

-- ... are there where the second date follows the first
pub following : {A : Type 0} (most : ℕ) (first last : Date) (then : Day → Day → A)
    → when (follows most first last) (then (day first) (day last)) ≡ map (λ s. then s.0 s.1) (spanned most (day_of first) (day_of last))
following {A} most first last then = go (day_of first) (day_of last)
  where
    go : (p q : Option Day)
        → when (given p && given q && between 1 most (Option.get_or q 0 - Option.get_or p 0)) (then (Option.get_or p 0) (Option.get_or q 0))
        ≡ map (λ (s : Day × Day). then s.0 s.1) (spanned most p q)
    go none none = refl
    go none (some b) = refl
    go (some a) none = refl
    go (some a) (some b) = test (between 1 most (b - a))
      where
        test : (t : Bool) → when t (then a b) ≡ map (λ (s : Day × Day). then s.0 s.1) (when t (a, b))
        test true = refl
        test false = refl
