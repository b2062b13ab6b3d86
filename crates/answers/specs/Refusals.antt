-- Refusals by their numbers in the paper.
use Rattle.std.specs.Prelude.{◌-◌, List, [], ◌∷◌, get_or}
use Rattle.paper.specs.Units.{Number}
use Rattle.answers.specs.declared.Refusal.{Refusal}
use Rattle.answers.specs.declared.Refusal.TheVariants.{Room, Length, Header, Version, Row, Field, Date, Count, Order, Missing, Classless, Period, Question}

-- The paper's number of each (01, "Report and refusal numbers"; 13: 02, c)
abbrev pub number_of : Refusal → Number
number_of Room = 1
number_of Length = 2
number_of Header = 3
number_of Version = 4
number_of Row = 5
number_of Field = 6
number_of Date = 7
number_of Count = 8
number_of Order = 9
number_of Missing = 10
number_of Classless = 11
number_of Period = 12
number_of Question = 13

-- All of them, by rising number
abbrev pub refusals : List Refusal
refusals =
    Room ∷ Length ∷ Header ∷ Version ∷ Row ∷ Field ∷ Date ∷ Count ∷ Order ∷ Missing ∷ Classless ∷ Period ∷ Question ∷ []

-- The refusal of a number, 1 to 13
abbrev pub refusal : Number → Refusal
refusal number = get_or refusals (number - 1) Question
