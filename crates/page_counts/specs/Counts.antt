-- Page counts: one write more. Assumes nothing.
--     more_writes page old     the page's record after one write more; a count stops at the largest number of 64 bits
--     has_room h page          the page has a record in h, or one can be added
--     Counted num before h h' page     one write more is counted for the page, and nothing else changes
use Rattle.std.specs.Prelude.{◌≡◌, ℕ, ◌+◌, min, Bool, cond, ◌&&◌, ◌||◌, is_some, Some, None, Option, ◌==◌}
use Rattle.orders.specs.declared.page.PageRecord.{PageRecord}
use Rattle.heap.specs.Heaps.{held, vacant, Sound}
use Rattle.heap.specs.declared.indexed.Heap.{Heap}

abbrev pub more_writes : ℕ → Option PageRecord → PageRecord
more_writes page None = record { number = page; writes = 1 }
more_writes page (Some old) = record { number = page; writes = min (old.writes + 1) 18446744073709551615 }

abbrev pub has_room : {O : Type 0} → Heap PageRecord O → ℕ → Bool
has_room h page = is_some (held h page) || vacant h page

pub record Counted {O : Type 0} (num : PageRecord → ℕ) (before : PageRecord → PageRecord → Bool) (h h' : Heap PageRecord O) (page : ℕ) : Type 0 where
  pub sound : Sound num before h'
  pub map : (m : ℕ) → held h' m ≡ cond (has_room h page && m == page) (Some (more_writes page (held h page))) (held h m)
