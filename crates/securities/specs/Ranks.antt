-- The places of the currencies of S rows.
use Rattle.std.specs.Prelude.{ℕ, List}
use Rattle.tables.specs.Ranks.{ranked_of, rank_of}
use Rattle.tables.specs.declared.Security.{Security}
use Rattle.tables.specs.Over.{over}

-- A security with the place of its currency, given by its number, among all
abbrev pub ranked_security : List ℕ → ℕ → Security → Security
ranked_security all n s =
    record {
      price = s.price;
      coupon = s.coupon;
      payments = s.payments;
      previous = s.previous;
      next = s.next;
      class = s.class;
      currency = rank_of (ranked_of all n);
    }

-- The first securities of a table so, by the numbers of their currencies
abbrev pub with_rank : List ℕ → List ℕ → List Security → List Security
with_rank all = over (ranked_security all)
