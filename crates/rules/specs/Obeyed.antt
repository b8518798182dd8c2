-- Operations done through the calls of a chip, as long as it accepts them.
use Rattle.std.specs.Prelude.{List, [], ◌∷◌, length, Some, None, Ok, Err, Option, Result}
use Rattle.flash.specs.declared.Refusal.{Refusal}
use Rattle.flash.specs.Meaning.{Flash, Op, program, erase, block, programmed, erased}
use Rattle.flash.specs.Calls.{program_answer, erase_answer}

-- What an accepted call leaves, and nothing where it is refused.
abbrev pub if_accepted : Result (Unit {0}) Refusal → Flash → Option Flash
if_accepted (Ok x) f = Some f
if_accepted (Err e) f = None

-- The chip's own answer decides: to programming the block's next page, or to erasing the block.
abbrev pub asked : Op → Flash → Option Flash
asked (program b x) f = if_accepted (program_answer f b (length (block f b).pages) (length x.bytes)) (programmed f b x)
asked (erase b) f = if_accepted (erase_answer f b) (erased f b)

-- One operation after another, and nothing as soon as one is refused.
abbrev pub obeyed : List Op → Flash → Option Flash
obeyed [] f = Some f
obeyed (o ∷ os) f = elim (asked o f) [ None ↦ None | Some h ↦ obeyed os h ]
