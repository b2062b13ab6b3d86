-- Days (01, "Days", and "Dates are eight digits, real Gregorian days of 2000 to 2399"), with the closing days of 02, a.
use Rattle.std.specs.Prelude.{ℕ, zero, suc, ◌+◌, ◌-◌, ◌*◌, ◌/◌, ◌%◌, Bool, true, false, cond, not, ◌&&◌, ◌||◌, List, [], ◌∷◌, eqb, leb, ltb, length, get_or, take}
use Rattle.std.proofs.Math.Option
use Rattle.std.proofs.Math.Option.{Option}
use Rattle.paper.specs.Units.{Date, Year, Month, DayOfMonth, Day, Days}
use Rattle.paper.specs.Lists.{between, sum, only, first_that, given, when}

-- Leap years: every fourth, but of the centuries every fourth only
abbrev pub leap : Year → Bool
leap y = eqb (y % 4) 0 && (not (eqb (y % 100) 0) || eqb (y % 400) 0)

-- The days of a year
abbrev pub year_days : Year → Days
year_days y = cond (leap y) 366 365

-- The days from 1 January 2000 to each 1 January: so many years, from a year whose 1 January is a given day
abbrev pub new_years_from : ℕ → Year → Day → List Day
new_years_from zero y d = []
new_years_from (suc years) y d = d ∷ new_years_from years (suc y) (d + year_days y)

-- The table of 400 constants, for the years 2000 to 2399
abbrev pub new_years : List Day
new_years = new_years_from 400 2000 0

-- The days of each month from January, in a leap year or in a common one
abbrev pub month_days : Bool → List Days
month_days is_leap = 31 ∷ cond is_leap 29 28 ∷ 31 ∷ 30 ∷ 31 ∷ 30 ∷ 31 ∷ 31 ∷ 30 ∷ 31 ∷ 30 ∷ 31 ∷ []

-- A year of the table, a month and a day of the month: real, or not
abbrev pub is_real : Year → Month → DayOfMonth → Bool
is_real y m d = between 2000 2399 y && ltb d (get_or (month_days (leap y)) m 0)

-- The day of such a date: the year's, with the months before and the days before
abbrev pub day_in : Year → Month → DayOfMonth → Day
day_in y m d = get_or new_years (y - 2000) 0 + sum (take m (month_days (leap y))) + d

-- The same with month and day of the month as they are written, both from 1
abbrev pub day_on : Year → ℕ → ℕ → Day
day_on y mm dd = day_in y (mm - 1) (dd - 1)

-- Of a date's eight digits four are the year, two the month and two the day of the month; the last two count from 1
abbrev pub day_of : Date → Option Day
day_of date =
    let y = date / 10_000 in
    let mm = date / 100 % 100 in
    let dd = date % 100 in
    when (leb 1 mm && leb 1 dd && is_real y (mm - 1) (dd - 1)) (day_on y mm dd)

-- Whether a date is a real day of 2000 to 2399
abbrev pub is_day : Date → Bool
is_day date = given (day_of date)

-- The day of a real date
abbrev pub day : Date → Day
day date = Option.get_or (day_of date) 0

-- The weekday of a day: 0 is Monday and 6 Sunday; 1 January 2000 was a Saturday
abbrev pub weekday : Day → ℕ
weekday d = (d + 5) % 7

-- The year of a day: that of the last 1 January of the table that is not after it
abbrev pub year_of : Day → Year
year_of d = 1999 + length (only (λ new_year. leb new_year d) new_years)

-- Easter, by the Gregorian reckoning (02, a): the first Sunday after the first full moon of spring, which begins on 21 March. The moon is not
-- the one in the sky but is reckoned, in the steps from here to `spring_moon`.

-- Where a year stands in the moon's cycle, in years from 0: after 19 years full moons fall on the same dates again
abbrev pub in_cycle : Year → ℕ
in_cycle y = y % 19

-- The sun's correction: each leap day that a century leaves out, three in four hundred years, makes those dates a day later
abbrev pub leap_days_left_out : Year → Days
leap_days_left_out y = y / 100 - y / 100 / 4

-- The moon's correction: it is a little quicker than its cycle, which makes them earlier by eight days in 25 centuries
abbrev pub moon_days_gained : Year → Days
moon_days_gained y = (8 * (y / 100) + 13) / 25

-- Full moons go round in 30 days that begin on 21 March: from year to year 11 days earlier, which is 19 later. The 15 days are those
-- of a cycle's first year with no correction
abbrev pub in_round : Year → Days
in_round y = (19 * in_cycle y + 15 + leap_days_left_out y - moon_days_gained y) % 30

-- The first full moon of spring, in days after 21 March. This moon's month has 29 days and not 30, so the last day of the round counts
-- as the one before; and lest two years of a cycle have one date, that one in turn as the one before, in years past the cycle's eleventh
abbrev pub spring_moon : Year → Days
spring_moon y = cond (eqb (in_round y) 29 || eqb (in_round y) 28 && ltb 10 (in_cycle y)) (in_round y - 1) (in_round y)

-- The first Sunday after a day
abbrev pub sunday_after : Day → Day
sunday_after d = suc d + (6 - weekday (suc d))

-- Easter Sunday of a year
abbrev pub easter : Year → Day
easter y = sunday_after (day_on y 3 21 + spring_moon y)

-- The closing days of a year, for every currency (02, a): 1 January, Good Friday, Easter Monday, 1 May, 25 and 26 December. One that
-- falls on a Saturday or a Sunday has no substitute
abbrev pub closing_days : Year → List Day
closing_days y = day_on y 1 1 ∷ (easter y - 2) ∷ (easter y + 1) ∷ day_on y 5 1 ∷ day_on y 12 25 ∷ day_on y 12 26 ∷ []

-- Whether a day is one of a year's closing days
abbrev pub is_closing : Year → Day → Bool
is_closing y d = given (first_that (eqb d) (closing_days y))

-- Open days (01, "Days"; 02, a): neither Saturday nor Sunday, and no closing day of their year. Another calendar changes this
-- definition, and `days_tested`
unfoldable pub is_open : Day → Bool
is_open d = ltb (weekday d) 5 && not (is_closing (year_of d) d)

-- Stepping on from a day until an open one is found, with so many days left to step
abbrev pub first_open : Days → Day → Day
first_open zero d = d
first_open (suc left) d = elim (is_open d) [ true ↦ d | false ↦ first_open left (suc d) ]

-- How many days are tested: where four on end are not open, the fifth is
abbrev pub days_tested : Days
days_tested = 4

-- The first working day after a day (01, "Days"; 02, a): at most five days off
unfoldable pub working_after : Day → Day
working_after d = first_open days_tested (suc d)
