-- `sheet::tables_from` meets its contract: section after section, each is refused or gone on from. What the sections answered is `c`, `o`,
-- `b` (of the bonds, for `s` is the sheet) and `t`, and their rows are `cs`, `os` and `ss`.
use Prim.Native.Nat.{ℕ, ◌+◌, ◌≤◌, ◌<◌}
use native.Mathlib.Omega.{arith}
use mathlib.Core.Bool.{true}
use mathlib.Core.List.{List, []}
use mathlib.Core.Option.{Option}
use mathlib.Core.Path.{◌≡◌, refl, sym, ap, ap₂, ◌∙◌}
use lib.Dec.{T}
use lib.ListN.{length, take, drop}
use Rattle.std.proofs.lemmas.List.{length-map}
use Rattle.std.proofs.Common.{Result, Ok, Err}
use Rattle.std.proofs.lemmas.Result.{err_from_is_err_and}
use Rattle.paper.specs.Units.{Text, Date, Day, Code, Line}
use Rattle.paper.specs.Days.{working_after, day}
use Rattle.paper.specs.Text.{lines}
use Rattle.paper.specs.Rows as paper
use Rattle.paper.specs.Refusals.{Outcome, refused, accepted, ◌>>=◌, Period, period_of, RowKind, class_kind, priority_kind, security_kind, trade_kind}
use Rattle.paper.specs.Sheet.{Rest, section, read_tables}
use Rattle.paper.specs.Tables.{hold_down}
use Rattle.paper.proofs.Days.{working_within}
use Rattle.paper.proofs.Rules.{classes_at_most, priorities_at_most, securities_at_most, trades_at_most}
use Rattle.answers.specs.Refusals.{refusal}
use Rattle.answers.specs.declared.Refusal.{Refusal}
use Rattle.answers.specs.declared.Refused.{Refused}
use Rattle.places.specs.Places.{Place, ended_length}
use Rattle.tables.specs.Held.{class_table, priority_table, security_table, held_trade, trade_table, codes_of}
use Rattle.tables.specs.Back.{paper_classes, ranged}
use Rattle.tables.specs.declared.ClassRow as held_ClassRow
use Rattle.tables.specs.declared.PriorityRow as held_PriorityRow
use Rattle.tables.specs.declared.Securities.{Securities}
use Rattle.arrayvec.specs.ArrayVec.{ArrayVec, array_vec_len}
use Rattle.tables.specs.declared.Trade as held_Trade
use Rattle.tables.proofs.Backs.{table_classes, table_ranged}
use Rattle.sections.specs.Sections.{rows_in}
use Rattle.sections.proofs.Loops.{whole}
use Rattle.sections.proofs.Stages.{Staged, Exit, Standing, stopped_there, opened}
use Rattle.classes.specs.Section.{class_section}
use Rattle.priorities.specs.Section.{priority_section}
use Rattle.securities.specs.Section.{security_section}
use Rattle.trades.specs.Found.{period_in}
use Rattle.trades.specs.Section.{trade_section}
use Rattle.tables.specs.Ranks.{Searchable}
use Rattle.trades.proofs.Tables.{codes_front, codes_searchable, periods_found}
use Rattle.sheet.specs.Whole.{held_sheet}
use Rattle.sheet.proofs.Ends.{ended_there, ended_early}
use Rattle.sheet.proofs.Chain.{class_staged, priority_staged, security_staged, trade_staged, behind_classes, behind_priorities, behind_securities, behind_trades}
use Rattle.sheet.proofs.tables_from.Goals as goal

-- A refusal of a section is what the sheet answers
exit_held : {R T : Type 0} {kind : RowKind R} {staged : Staged kind} {table : List R → T} {sheet : Text} {from : Place} {h : from ≤ ended_length sheet}
    {at : Line} {next : List R × Rest → Outcome paper.Tables} {reading : Outcome paper.Tables} {so_far : _} {f : Refused}
    → Exit kind staged table sheet from h at next reading so_far f → Err f ≡ held_sheet reading
exit_held {f} e = ap (λ (r : Refusal). Err (record { refusal = r; line = f.line })) (sym e.is) ∙ ap held_sheet (sym e.stops)

module _ (s : Text) (from end : Place) (today : Day)
    (asked : (length s ≤ 65_536) × (from ≤ end) × (end ≡ ended_length s) × (today < 146_097)) where
  abbrev reading : Date → Outcome paper.Tables
  reading d = read_tables d (3, lines (drop from s))

  -- ---- the C rows
  abbrev cs : List paper.ClassRow
  cs = rows_in (whole class_kind s from 3)

  at_classes : (d : Date) → Standing class_kind (behind_classes d) s from 3 (reading d)
  at_classes d = record { within = omega arith; goes = refl }

  module _ {c : Result (ArrayVec held_ClassRow.ClassRow × Place) Refused} (c_is : c ≡ class_section s from (whole class_kind s from 3)) where
    c_stops : {f : Refused} → c ≡ Err f → (d : Date) → Err f ≡ held_sheet (reading d)
    c_stops {f} e d = exit_held (stopped_there (at_classes d) class_staged class_table c c_is f e)

    module _ {classes : ArrayVec held_ClassRow.ClassRow} {next_c : Place} (c_goes : c ≡ Ok (classes, next_c)) {n : ℕ} (n_is : n ≡ array_vec_len classes) where
      known : classes ≡ class_table cs
      known = (opened (at_classes 0) class_staged class_table c c_is classes next_c c_goes).is

      c_kept : T (hold_down class_kind [] cs)
      c_kept = (opened (at_classes 0) class_staged class_table c c_is classes next_c c_goes).down

      c_many : n ≡ length cs
      c_many = n_is ∙ ap (λ (t : ArrayVec held_ClassRow.ClassRow). array_vec_len t) known ∙ length-map cs _

      c_few : n ≤ 40
      c_few = omega (arith, c_many, classes_at_most cs c_kept)

      -- ---- the O rows
      abbrev first : Line
      first = 3 + n

      at_priorities : (d : Date) → Standing (priority_kind cs) (behind_priorities d cs) s next_c first (reading d)
      at_priorities d =
          let o = opened (at_classes d) class_staged class_table c c_is classes next_c c_goes in
          record {
            within = o.within;
            goes = o.goes ∙ ap (λ (n : ℕ). behind_classes d (cs, (3 + n, lines (drop next_c s)))) (sym c_many);
          }

      its_classes : paper_classes classes ≡ cs
      its_classes = ap paper_classes known ∙ table_classes cs c_kept

      -- What the sections behind ask of the classes
      classes_asked : ranged classes ≡ true
      classes_asked = ap ranged known ∙ table_ranged cs c_kept

      priorities_asked : (next_c ≤ end) × (end ≡ ended_length s) × (ranged classes ≡ true)
      priorities_asked = (omega (arith, (at_priorities 0).within, asked.2), asked.2, classes_asked)

      module _ {o : Result (ArrayVec held_PriorityRow.PriorityRow × Place) Refused}
          (o_is : o ≡ priority_section s next_c (whole (priority_kind (paper_classes classes)) s next_c first)) where
        abbrev os : List paper.PriorityRow
        os = rows_in (whole (priority_kind cs) s next_c first)

        o_paper : o ≡ priority_section s next_c (whole (priority_kind cs) s next_c first)
        o_paper = o_is ∙ ap (λ (k : List paper.ClassRow). priority_section s next_c (whole (priority_kind k) s next_c first)) its_classes

        o_stops : {f : Refused} → o ≡ Err f → (d : Date) → Err f ≡ held_sheet (reading d)
        o_stops {f} e d = exit_held (stopped_there (at_priorities d) (priority_staged cs) priority_table o o_paper f e)

        -- ---- the S rows
        module _ {priorities : ArrayVec held_PriorityRow.PriorityRow} {next_o : Place} (o_goes : o ≡ Ok (priorities, next_o)) {m : ℕ} (m_is : m ≡ array_vec_len priorities) where
          listed : priorities ≡ priority_table os
          listed = (opened (at_priorities 0) (priority_staged cs) priority_table o o_paper priorities next_o o_goes).is

          o_many : m ≡ length os
          o_many = m_is ∙ ap (λ (t : ArrayVec held_PriorityRow.PriorityRow). array_vec_len t) listed ∙ length-map os _

          o_few : m ≤ 200
          o_few =
              omega (
                arith,
                o_many,
                priorities_at_most cs os (opened (at_priorities 0) (priority_staged cs) priority_table o o_paper priorities next_o o_goes).down,
              )

          abbrev second : Line
          second = first + m

          at_securities : (d : Date) → Standing (security_kind cs) (behind_securities d cs os) s next_o second (reading d)
          at_securities d =
              let p = opened (at_priorities d) (priority_staged cs) priority_table o o_paper priorities next_o o_goes in
              record {
                within = p.within;
                goes =
                    p.goes
                    ∙ ap (λ (n : ℕ). behind_priorities d cs (os, (first + n, lines (drop next_o s)))) (sym o_many);
              }

          securities_asked : (next_o ≤ end) × (end ≡ ended_length s) × (ranged classes ≡ true)
          securities_asked = (omega (arith, (at_securities 0).within, asked.2), asked.2, classes_asked)

          module _ {b : Result (Securities × Place) Refused}
              (b_is : b ≡ security_section (paper_classes classes) s next_o (whole (security_kind (paper_classes classes)) s next_o second)) where
            abbrev ss : List paper.SecurityRow
            ss = rows_in (whole (security_kind cs) s next_o second)

            b_paper : b ≡ security_section cs s next_o (whole (security_kind cs) s next_o second)
            b_paper = b_is ∙ ap (λ (k : List paper.ClassRow). security_section k s next_o (whole (security_kind k) s next_o second)) its_classes

            b_stops : {f : Refused} → b ≡ Err f → (d : Date) → Err f ≡ held_sheet (reading d)
            b_stops {f} e d = exit_held (stopped_there (at_securities d) (security_staged cs) (security_table cs) b b_paper f e)

            -- ---- the T rows
            module _ {bonds : Securities} {next_b : Place} (b_goes : b ≡ Ok (bonds, next_b)) {k : ℕ} (k_is : k ≡ array_vec_len bonds.rows) where
              held : bonds ≡ security_table cs ss
              held = (opened (at_securities 0) (security_staged cs) (security_table cs) b b_paper bonds next_b b_goes).is

              b_kept : T (hold_down (security_kind cs) [] ss)
              b_kept = (opened (at_securities 0) (security_staged cs) (security_table cs) b b_paper bonds next_b b_goes).down

              b_many : k ≡ length ss
              b_many = k_is ∙ ap (λ (t : Securities). array_vec_len t.rows) held ∙ length-map ss _

              b_few : k ≤ 200
              b_few = omega (arith, b_many, securities_at_most cs ss b_kept)

              abbrev third : Line
              third = second + k

              at_trades : (d : Date) → Standing (trade_kind (day d) (period_of ss)) (behind_trades d cs os ss) s next_b third (reading d)
              at_trades d =
                  let p = opened (at_securities d) (security_staged cs) (security_table cs) b b_paper bonds next_b b_goes in
                  record {
                    within = p.within;
                    goes =
                        p.goes
                        ∙ ap (λ (n : ℕ). behind_securities d cs os (ss, (second + n, lines (drop next_b s)))) (sym b_many);
                  }

              trades_asked : (working : Day) → working ≡ working_after today
                  → (next_b ≤ end) × (end ≡ ended_length s) × (working ≡ working_after today) × (working < 150_000)
              trades_asked working is =
                  (omega (arith, (at_trades 0).within, asked.2), asked.2, is, omega (arith, is, working_within today, asked.3))

              codes_asked : (array_vec_len bonds.rows ≤ 200) × Searchable bonds.codes (array_vec_len bonds.rows)
              codes_asked = rw held (codes_searchable cs ss b_kept)

              module _ {t : Result (ArrayVec held_Trade.Trade × Place) Refused}
                  (t_is : t ≡ trade_section today (take (array_vec_len bonds.rows) bonds.codes) s next_b (whole (trade_kind today (period_in bonds)) s next_b third)) where
                t_periods : t ≡ trade_section today (codes_of ss) s next_b (whole (trade_kind today (period_of ss)) s next_b third)
                t_periods =
                    t_is
                    ∙ ap (λ (k : Securities). trade_section today (take (array_vec_len k.rows) k.codes) s next_b (whole (trade_kind today (period_in k)) s next_b third)) held
                    ∙ ap₂
                    (λ (codes : List ℕ) (periods : Code → Option Period). trade_section today codes s next_b (whole (trade_kind today periods) s next_b third))
                    (codes_front cs ss b_kept)
                    (periods_found cs ss b_kept)

                t_few : {trades : ArrayVec held_Trade.Trade} {behind : Place} → t ≡ Ok (trades, behind) → array_vec_len trades ≤ 500
                t_few {trades} {behind} e =
                    let kind = trade_kind today (period_of ss) in
                    let there : Standing kind (λ x. accepted x) s next_b third (section kind (third, lines (drop next_b s)) >>= λ x. accepted x) =
                    record { within = (at_trades 0).within; goes = refl } in
                    let o = opened there (trade_staged today (period_of ss)) (trade_table today (codes_of ss)) t t_periods trades behind e in
                    omega (arith, ap (λ (t : ArrayVec held_Trade.Trade). array_vec_len t) o.is, length-map (rows_in (whole kind s next_b third)) (held_trade today (codes_of ss)), trades_at_most today (period_of ss) _ o.down)

                module _ (d : Date) (on : today ≡ day d) where
                  abbrev ts : List paper.TradeRow
                  ts = rows_in (whole (trade_kind (day d) (period_of ss)) s next_b third)

                  t_paper : t ≡ trade_section (day d) (codes_of ss) s next_b (whole (trade_kind (day d) (period_of ss)) s next_b third)
                  t_paper =
                      t_periods ∙ ap (λ (on : Day). trade_section on (codes_of ss) s next_b (whole (trade_kind on (period_of ss)) s next_b third)) on

                  abbrev its_table : List paper.TradeRow → ArrayVec held_Trade.Trade
                  its_table = trade_table (day d) (codes_of ss)

                  t_stops : {f : Refused} → t ≡ Err f → Err f ≡ held_sheet (reading d)
                  t_stops {f} e = exit_held (stopped_there (at_trades d) (trade_staged (day d) (period_of ss)) its_table t t_paper f e)

                  -- ---- the end
                  module _ {trades : ArrayVec held_Trade.Trade} {behind : Place} (t_goes : t ≡ Ok (trades, behind)) {j : ℕ} (j_is : j ≡ array_vec_len trades) where
                    booked : trades ≡ its_table ts
                    booked = (opened (at_trades d) (trade_staged (day d) (period_of ss)) its_table t t_paper trades behind t_goes).is

                    goes_further : (behind ≡ length s → ⊥) → Err (record { refusal = refusal 5; line = third + j }) ≡ held_sheet (reading d)
                    goes_further n =
                        let p = opened (at_trades d) (trade_staged (day d) (period_of ss)) its_table t t_paper trades behind t_goes in
                        ap (λ (k : ℕ). held_sheet (refused 5 (third + k))) (j_is ∙ ap (λ (t : ArrayVec held_Trade.Trade). array_vec_len t) booked ∙ length-map ts _)
                        ∙ ap held_sheet (sym (p.goes ∙ ended_early _ _ behind _ p.within n))

                    ends : behind ≡ length s
                        → Ok (record { classes = classes; priorities = priorities; securities = bonds; trades = trades }) ≡ held_sheet (reading d)
                    ends e =
                        let p = opened (at_trades d) (trade_staged (day d) (period_of ss)) its_table t t_paper trades behind t_goes in
                        (λ i. Ok (record { classes = known i; priorities = listed i; securities = held i; trades = booked i }))
                        ∙ ap held_sheet (sym (p.goes ∙ ended_there _ _ behind _ p.within e))

pub overflow_cast-first : goal.overflow_cast-first
overflow_cast-first c =
    omega (arith, c_few c.args.s.now c.args.from c.args.end c.args.today c.requires c.class_section.ensures c.in_ok-classes.was c.len.ensures.value)

pub overflow_add-first : goal.overflow_add-first
overflow_add-first c =
    omega (arith, c_few c.args.s.now c.args.from c.args.end c.args.today c.requires c.class_section.ensures c.in_ok-classes.was c.len.ensures.value)

pub priority_section-requires : goal.priority_section-requires
priority_section-requires c =
    priorities_asked c.args.s.now c.args.from c.args.end c.args.today c.requires c.class_section.ensures c.in_ok-classes.was c.len.ensures.value

pub returns-in_err-priorities : goal.returns-in_err-priorities
returns-in_err-priorities c d on =
    let (f, same, is) = err_from_is_err_and c.from_residual-in_err-priorities.result c.from_residual-in_err-priorities.ensures.1 in
    rw (same, is)
    (o_stops c.args.s.now c.args.from c.args.end c.args.today c.requires c.class_section.ensures c.in_ok-classes.was c.len.ensures.value
    c.priority_section.ensures c.in_err-priorities.was d)

pub overflow_cast-second : goal.overflow_cast-second
overflow_cast-second c =
    omega (
      arith,
      o_few c.args.s.now c.args.from c.args.end c.args.today c.requires c.class_section.ensures c.in_ok-classes.was c.len.ensures.value
          c.priority_section.ensures c.in_ok-priorities.was c.len-2.ensures.value,
    )

pub overflow_add-second : goal.overflow_add-second
overflow_add-second c =
    omega (
      arith,
      c_few c.args.s.now c.args.from c.args.end c.args.today c.requires c.class_section.ensures c.in_ok-classes.was c.len.ensures.value,
      o_few c.args.s.now c.args.from c.args.end c.args.today c.requires c.class_section.ensures c.in_ok-classes.was c.len.ensures.value
          c.priority_section.ensures c.in_ok-priorities.was c.len-2.ensures.value,
    )

pub security_section-requires : goal.security_section-requires
security_section-requires c =
    securities_asked c.args.s.now c.args.from c.args.end c.args.today c.requires c.class_section.ensures c.in_ok-classes.was c.len.ensures.value
    c.priority_section.ensures c.in_ok-priorities.was c.len-2.ensures.value

pub returns-in_err-securities : goal.returns-in_err-securities
returns-in_err-securities c d on =
    let (f, same, is) = err_from_is_err_and c.from_residual-in_err-securities.result c.from_residual-in_err-securities.ensures.1 in
    rw (same, is)
    (b_stops c.args.s.now c.args.from c.args.end c.args.today c.requires c.class_section.ensures c.in_ok-classes.was c.len.ensures.value
    c.priority_section.ensures c.in_ok-priorities.was c.len-2.ensures.value c.security_section.ensures c.in_err-securities.was d)

pub overflow_cast-third : goal.overflow_cast-third
overflow_cast-third c =
    omega (
      arith,
      b_few c.args.s.now c.args.from c.args.end c.args.today c.requires c.class_section.ensures c.in_ok-classes.was c.len.ensures.value
          c.priority_section.ensures c.in_ok-priorities.was c.len-2.ensures.value c.security_section.ensures c.in_ok-securities.was c.len-3.ensures.value,
    )

pub overflow_add-third : goal.overflow_add-third
overflow_add-third c =
    omega (
      arith,
      c_few c.args.s.now c.args.from c.args.end c.args.today c.requires c.class_section.ensures c.in_ok-classes.was c.len.ensures.value,
      o_few c.args.s.now c.args.from c.args.end c.args.today c.requires c.class_section.ensures c.in_ok-classes.was c.len.ensures.value
          c.priority_section.ensures c.in_ok-priorities.was c.len-2.ensures.value,
      b_few c.args.s.now c.args.from c.args.end c.args.today c.requires c.class_section.ensures c.in_ok-classes.was c.len.ensures.value
          c.priority_section.ensures c.in_ok-priorities.was c.len-2.ensures.value c.security_section.ensures c.in_ok-securities.was c.len-3.ensures.value,
    )

pub trade_section-requires-clause-sheet_and_days : goal.trade_section-requires-clause-sheet_and_days
trade_section-requires-clause-sheet_and_days c =
    trades_asked c.args.s.now c.args.from c.args.end c.args.today c.requires c.class_section.ensures c.in_ok-classes.was c.len.ensures.value
    c.priority_section.ensures c.in_ok-priorities.was c.len-2.ensures.value c.security_section.ensures c.in_ok-securities.was c.len-3.ensures.value
    c.working_after-working.result c.working_after-working.ensures

pub trade_section-requires-clause-codes : goal.trade_section-requires-clause-codes
trade_section-requires-clause-codes c =
    codes_asked c.args.s.now c.args.from c.args.end c.args.today c.requires c.class_section.ensures c.in_ok-classes.was c.len.ensures.value
    c.priority_section.ensures c.in_ok-priorities.was c.len-2.ensures.value c.security_section.ensures c.in_ok-securities.was c.len-3.ensures.value

pub returns-in_err-trades : goal.returns-in_err-trades
returns-in_err-trades c d on =
    let (f, same, is) = err_from_is_err_and c.from_residual-in_err-trades.result c.from_residual-in_err-trades.ensures.1 in
    rw (same, is)
    (t_stops c.args.s.now c.args.from c.args.end c.args.today c.requires c.class_section.ensures c.in_ok-classes.was c.len.ensures.value
    c.priority_section.ensures c.in_ok-priorities.was c.len-2.ensures.value c.security_section.ensures c.in_ok-securities.was c.len-3.ensures.value
    c.trade_section.ensures d on c.in_err-trades.was)

pub overflow_cast-result : goal.overflow_cast-result
overflow_cast-result c =
    omega (
      arith,
      c_few c.args.s.now c.args.from c.args.end c.args.today c.requires c.class_section.ensures c.in_ok-classes.was c.len.ensures.value,
      o_few c.args.s.now c.args.from c.args.end c.args.today c.requires c.class_section.ensures c.in_ok-classes.was c.len.ensures.value
          c.priority_section.ensures c.in_ok-priorities.was c.len-2.ensures.value,
      b_few c.args.s.now c.args.from c.args.end c.args.today c.requires c.class_section.ensures c.in_ok-classes.was c.len.ensures.value
          c.priority_section.ensures c.in_ok-priorities.was c.len-2.ensures.value c.security_section.ensures c.in_ok-securities.was c.len-3.ensures.value,
    )

pub overflow_add-result : goal.overflow_add-result
overflow_add-result c =
    omega (
      arith,
      c_few c.args.s.now c.args.from c.args.end c.args.today c.requires c.class_section.ensures c.in_ok-classes.was c.len.ensures.value,
      o_few c.args.s.now c.args.from c.args.end c.args.today c.requires c.class_section.ensures c.in_ok-classes.was c.len.ensures.value
          c.priority_section.ensures c.in_ok-priorities.was c.len-2.ensures.value,
      b_few c.args.s.now c.args.from c.args.end c.args.today c.requires c.class_section.ensures c.in_ok-classes.was c.len.ensures.value
          c.priority_section.ensures c.in_ok-priorities.was c.len-2.ensures.value c.security_section.ensures c.in_ok-securities.was c.len-3.ensures.value,
      t_few c.args.s.now c.args.from c.args.end c.args.today c.requires c.class_section.ensures c.in_ok-classes.was c.len.ensures.value
          c.priority_section.ensures c.in_ok-priorities.was c.len-2.ensures.value c.security_section.ensures c.in_ok-securities.was c.len-3.ensures.value
          c.trade_section.ensures c.in_ok-trades.was,
      c.len-then-next-s.ensures.value,
    )

pub returns-then-next-s : goal.returns-then-next-s
returns-then-next-s c d on =
    goes_further c.args.s.now c.args.from c.args.end c.args.today c.requires c.class_section.ensures c.in_ok-classes.was c.len.ensures.value
    c.priority_section.ensures c.in_ok-priorities.was c.len-2.ensures.value c.security_section.ensures c.in_ok-securities.was c.len-3.ensures.value
    c.trade_section.ensures d on c.in_ok-trades.was c.len-then-next-s.ensures.value c.if-next-s.true

pub returns : goal.returns
returns c d on =
    ends c.args.s.now c.args.from c.args.end c.args.today c.requires c.class_section.ensures c.in_ok-classes.was c.len.ensures.value
    c.priority_section.ensures c.in_ok-priorities.was c.len-2.ensures.value c.security_section.ensures c.in_ok-securities.was c.len-3.ensures.value
    c.trade_section.ensures d on c.in_ok-trades.was refl c.if-next-s.false
