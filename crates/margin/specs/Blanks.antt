-- What stands where there is no currency.
use Rattle.std.specs.Prelude.{pos, replicate}
use Rattle.margin.specs.declared.Currency.{Currency}

-- Its figures
abbrev pub no_currency : Currency
no_currency =
    record {
      book = record { long = replicate 41 0; short = replicate 41 0 };
      margins = replicate 40 0;
      mark = pos 0;
      initial = 0;
      total = 0;
    }
