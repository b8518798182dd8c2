-- The numbers of a heap's refusals. Assumes nothing.
use Rattle.std.specs.Prelude.{ℕ}
use Rattle.heap.specs.declared.refusal.HeapRefusal.{HeapRefusal}
use Rattle.heap.specs.declared.refusal.HeapRefusal.TheVariants.{NoPlace, NotThere}

abbrev pub number_of : HeapRefusal → ℕ
-- an added number that is there already, or is not below the records that the memory holds
number_of NoPlace = 16
-- a number that is not there, or the first of an empty heap
number_of NotThere = 17
