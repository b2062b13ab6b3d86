-- Units (01, "Units"). A number's type names its unit, so that each product can be checked by its types alone.
-- All numbers are whole; only what may fall below zero is in ℤ.
use Rattle.std.specs.Prelude.{ℕ, ℤ, List}

-- A byte of a sheet, a report or a buffer: 0..255
abbrev pub Byte : Type 0
Byte = ℕ

-- A decimal digit as a number: 0..9
abbrev pub Digit : Type 0
Digit = ℕ

-- Bytes in their order: a sheet, a line, a field, a report, a buffer
abbrev pub Text : Type 0
Text = List Byte

-- The fields of one line, the letter first
abbrev pub Fields : Type 0
Fields = List Text

-- The length of the lent report buffer, in bytes
abbrev pub Room : Type 0
Room = ℕ

-- A refusal number: 1..13
abbrev pub Number : Type 0
Number = ℕ

-- A line of the sheet, counted from 1; 0 where a refusal has no line
abbrev pub Line : Type 0
Line = ℕ

-- A date as its eight digits make one number: 20190612
abbrev pub Date : Type 0
Date = ℕ

-- A year of the Gregorian calendar
abbrev pub Year : Type 0
Year = ℕ

-- A month of a year, from 0 for January to 11
abbrev pub Month : Type 0
Month = ℕ

-- A day of a month, from 0 for the first
abbrev pub DayOfMonth : Type 0
DayOfMonth = ℕ

-- A day, as the days from 1 January 2000 to it
abbrev pub Day : Type 0
Day = ℕ

-- A number of days
abbrev pub Days : Type 0
Days = ℕ

-- The number of a class: 1..40
abbrev pub Class : Type 0
Class = ℕ

-- The twelve bytes of a security's code
abbrev pub Code : Type 0
Code = Text

-- The three bytes of a currency
abbrev pub Currency : Type 0
Currency = Text

-- Nominal: whole currency units
abbrev pub Nominal : Type 0
Nominal = ℕ

-- Price, accrued coupon and yearly coupon: hundred-thousandths of a percent
abbrev pub Quote : Type 0
Quote = ℕ

-- Coupon payments a year
abbrev pub Payments : Type 0
Payments = ℕ

-- Duration and border: ten-thousandths of a year
abbrev pub Duration : Type 0
Duration = ℕ

-- Offsetting and deposit factor: ten-thousandths
abbrev pub Factor : Type 0
Factor = ℕ

-- Repo rate: ten-thousandths of a percent, signed
abbrev pub Rate : Type 0
Rate = ℤ

-- The sign of a trade: +1 for who is to receive the bond, -1 for who is to deliver it
abbrev pub Sign : Type 0
Sign = ℤ

-- Traded amount, revaluated amount and total: cents
abbrev pub Cents : Type 0
Cents = ℕ

-- Mark-to-market, and a revaluated amount with its trade's sign: cents, signed
abbrev pub SignedCents : Type 0
SignedCents = ℤ

-- Positions and class margins: whole units
abbrev pub Whole : Type 0
Whole = ℕ

-- Repo interest and a security's net: whole units, signed
abbrev pub SignedWhole : Type 0
SignedWhole = ℤ
