-- The number of each refusal of a leveller.
--   starting         1 to 6
--   using pages      7 to 11
-- A call tries its own numbers in rising order, and the first that applies is its answer.
use Rattle.std.specs.Prelude.{ℕ}
use Rattle.rules.specs.declared.Refusal.{Refusal}
use Rattle.rules.specs.declared.Refusal.TheVariants.{AlreadyStarted, OutsideLimits, UnevenSets, WrongThreshold, WrongLogical, NotBlank, NotStarted, NoSuchPage, WrongLength, WornOut, Empty}

abbrev pub number_of : Refusal → ℕ
number_of AlreadyStarted = 1
number_of OutsideLimits = 2
number_of UnevenSets = 3
number_of WrongThreshold = 4
number_of WrongLogical = 5
number_of NotBlank = 6
number_of NotStarted = 7
number_of NoSuchPage = 8
number_of WrongLength = 9
number_of WornOut = 10
number_of Empty = 11
