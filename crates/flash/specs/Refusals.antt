-- The number of each refusal of a chip, and its words.
use Rattle.std.specs.Prelude.{ℕ, List, codes}
use Rattle.flash.specs.declared.Refusal.{Refusal}
use Rattle.flash.specs.declared.Refusal.TheVariants.{Outside, OutOfTurn, WrongLength, WornOut}

-- 12: the block is not below N, or the page not below P.
-- 13: a page programmed out of turn, or an unwritten page read or asked for its tag.
-- 14: bytes or a buffer that are not D long.
-- 15: an erase of a block whose count is E.
abbrev pub number_of : Refusal → ℕ
number_of Outside = 12
number_of OutOfTurn = 13
number_of WrongLength = 14
number_of WornOut = 15

-- What is printed of a refusal.
abbrev pub words_of : Refusal → List ℕ
words_of Outside = codes "no such block or page"
words_of OutOfTurn = codes "a page out of turn or unwritten"
words_of WrongLength = codes "not as long as a page"
words_of WornOut = codes "the block is worn out"
