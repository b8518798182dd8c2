-- The one outcome of each call of a chip f, for all arguments: its answer, the chip after it, the buffer after it.
-- Block b is the named block, i the page and n the length of the bytes or the buffer.
-- Refusals are tried in rising number: 12, 13, 14, 15.
use Rattle.std.specs.Prelude.{ℕ, cond, List, length, Ok, Err, Result, ◌==◌, nat_lt}
use Rattle.flash.specs.declared.Refusal.{Refusal}
use Rattle.flash.specs.declared.Refusal.TheVariants.{Outside, OutOfTurn, WrongLength, WornOut}
use Rattle.flash.specs.Meaning.{Flash, Page, block, page, programmed, erased}

-- `below a b e r`: refused by e unless a < b, and otherwise r.
abbrev pub below : {T : Type 0} → ℕ → ℕ → Refusal → Result T Refusal → Result T Refusal
below a b e r = cond (nat_lt a b) r (Err e)

-- `equal a b e r`: refused by e unless a is b, and otherwise r.
abbrev pub equal : {T : Type 0} → ℕ → ℕ → Refusal → Result T Refusal → Result T Refusal
equal a b e r = cond (a == b) r (Err e)

-- 12 for a block, and for a page of a block.
abbrev pub in_block : {T : Type 0} → Flash → ℕ → Result T Refusal → Result T Refusal
in_block f b r = below b (length f.blocks) Outside r

abbrev pub in_page : {T : Type 0} → Flash → ℕ → ℕ → Result T Refusal → Result T Refusal
in_page f b i r = in_block f b (below i f.p Outside r)

abbrev pub count_answer : Flash → ℕ → Result ℕ Refusal
count_answer f b = in_block f b (Ok (block f b).count)

abbrev pub written_answer : Flash → ℕ → Result ℕ Refusal
written_answer f b = in_block f b (Ok (length (block f b).pages))

abbrev pub tag_answer : Flash → ℕ → ℕ → Result ℕ Refusal
tag_answer f b i = in_page f b i (below i (length (block f b).pages) OutOfTurn (Ok (page f b i).tag))

abbrev pub read_answer : Flash → ℕ → ℕ → ℕ → Result (Unit {0}) Refusal
read_answer f b i n = in_page f b i (below i (length (block f b).pages) OutOfTurn (equal n f.d WrongLength (Ok tt)))

abbrev pub program_answer : Flash → ℕ → ℕ → ℕ → Result (Unit {0}) Refusal
program_answer f b i n = in_page f b i (equal i (length (block f b).pages) OutOfTurn (equal n f.d WrongLength (Ok tt)))

abbrev pub erase_answer : Flash → ℕ → Result (Unit {0}) Refusal
erase_answer f b = in_block f b (below (block f b).count f.e WornOut (Ok tt))

-- What an obeyed call leaves, and what a refused one does.
abbrev pub after : {T X : Type 0} → Result T Refusal → X → X → X
after (Ok x) new old = new
after (Err e) new old = old

-- The buffer after a read into `old`.
abbrev pub read_buffer : Flash → ℕ → ℕ → List ℕ → List ℕ
read_buffer f b i old = after (read_answer f b i (length old)) (page f b i).bytes old

-- The chip after page i of block b was to be programmed as the page x.
abbrev pub program_chip : Flash → ℕ → ℕ → Page → Flash
program_chip f b i x = after (program_answer f b i (length x.bytes)) (programmed f b x) f

-- The chip after block b was to be erased.
abbrev pub erase_chip : Flash → ℕ → Flash
erase_chip f b = after (erase_answer f b) (erased f b) f
