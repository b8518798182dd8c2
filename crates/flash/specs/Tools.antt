-- The one outcome of each tool over any chip, for all arguments, and the operations that it does.
use Rattle.std.specs.Prelude.{ℕ, List, [], ◌∷◌, ◌++◌, map, length, Ok, Err, Result}
use Rattle.flash.specs.declared.Refusal.{Refusal}
use Rattle.flash.specs.declared.Refusal.TheVariants.{Outside, OutOfTurn, WrongLength, WornOut}
use Rattle.flash.specs.Meaning.{Flash, Page, Op, program, erase, block, page, programmed, applies}
use Rattle.flash.specs.Calls.{below, equal, in_block, read_answer, after}

-- Copying page i of block b to the next unwritten page of the block `to`, by a buffer of n bytes.
-- 12: a block or the page is outside, or `to` is full. 13: the page is unwritten. 14: the buffer is not D long.
abbrev pub copy_answer : Flash → ℕ → ℕ → ℕ → ℕ → Result (Unit {0}) Refusal
copy_answer f b i to n = in_block f to (below (length (block f to).pages) f.p Outside (read_answer f b i n))

abbrev pub copy_chip : Flash → ℕ → ℕ → ℕ → ℕ → Flash
copy_chip f b i to n = after (copy_answer f b i to n) (programmed f to (page f b i)) f

abbrev pub copy_buffer : Flash → ℕ → ℕ → ℕ → List ℕ → List ℕ
copy_buffer f b i to old = after (copy_answer f b i to (length old)) (page f b i).bytes old

-- Pages programmed into the block `to`, in their order.
abbrev pub copies : ℕ → List Page → List Op
copies to xs = map (program to) xs

-- Moving block b into the blank block `to`: each page in rising order, and then b is erased.
abbrev pub moves : Flash → ℕ → ℕ → List Op
moves f b to = copies to (block f b).pages ++ (erase b ∷ [])

-- 12: a block is outside. 13: `to` has a written page, so that page 0 is out of turn. 14: the buffer is not D long.
-- 15: block b could not be erased. Otherwise the number of pages to move.
abbrev pub relocation : Flash → ℕ → ℕ → ℕ → Result ℕ Refusal
relocation f b to n =
    in_block f b (in_block f to (equal (length (block f to).pages) 0 OutOfTurn
    (equal n f.d WrongLength (below (block f b).count f.e WornOut (Ok (length (block f b).pages))))))

-- The same answer without its number.
abbrev pub done : Result ℕ Refusal → Result (Unit {0}) Refusal
done (Ok n) = Ok tt
done (Err e) = Err e

abbrev pub relocate_answer : Flash → ℕ → ℕ → ℕ → Result (Unit {0}) Refusal
relocate_answer f b to n = done (relocation f b to n)

abbrev pub relocate_chip : Flash → ℕ → ℕ → ℕ → Flash
relocate_chip f b to n = after (relocate_answer f b to n) (applies (moves f b to) f) f

-- What a buffer holds after pages were read into it, one after another.
abbrev pub last_read : List Page → List ℕ → List ℕ
last_read [] old = old
last_read (x ∷ xs) old = last_read xs x.bytes

abbrev pub relocate_buffer : Flash → ℕ → ℕ → List ℕ → List ℕ
relocate_buffer f b to old = after (relocate_answer f b to (length old)) (last_read (block f b).pages old) old
