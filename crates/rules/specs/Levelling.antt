-- Levelling: SWL-Procedure of Chang, Hsieh and Kuo.
--
--   set_blocks    the blocks of a set, in rising number
--   collect       the blocks of a set are cleared out, those that are in use when their turn comes
--   seek          the next set with a clear flag, from a set on, cyclically
--   end_round     flags and counters back to 0, one more round finished; findex stays
--   level         the whole procedure
use Rattle.std.specs.Prelude.{ℕ, zero, suc, ◌*◌, Bool, true, false, cond, ◌||◌, List, [], ◌∷◌, length, replicate, Some, None, ◌==◌, nat_lt, fold, slice_index_or}
use Rattle.std.specs.List.{range_with_len}
use Rattle.rules.specs.declared.Settings.{Settings}
use Rattle.rules.specs.declared.Use.{Use}
use Rattle.rules.specs.declared.Use.TheVariants.{Free, Open, Closed}
use Rattle.rules.specs.Tables.{Meter, State, set_size}
use Rattle.rules.specs.Blocks.{use_of, live_pages, first_free}
use Rattle.rules.specs.Steps.{erase_block, move}

-- Set i begins at block i × 2^k.
abbrev pub set_blocks : Settings → ℕ → List ℕ
set_blocks g i = range_with_len (i * set_size g) (set_size g)

-- A block b in the use u is cleared out. Without a live page it is erased and joins the pool. With live pages the
-- pool's first block takes them, and takes its place as open or closed.
unfoldable pub clear_out : Settings → ℕ → Use → State → State
clear_out g b u s = elim (live_pages s b) [
  | [] ↦ erase_block g b s
  | _ ∷ _ ↦ elim (first_free s) [ None ↦ s | Some d ↦ move g b d.number u s ]
]

-- A free block is left alone.
unfoldable pub collect_block : Settings → ℕ → State → State
collect_block g b s = elim (use_of s b) [ Free ↦ s | Open ↦ clear_out g b Open s | Closed ↦ clear_out g b Closed s ]

unfoldable pub collect : Settings → List ℕ → State → State
collect g bs s = fold (λ t b. collect_block g b t) s bs

-- One set further, from the last back to 0.
abbrev pub next : ℕ → ℕ → ℕ
next n i = cond (suc i == n) 0 (suc i)

-- From set i forward until a flag is clear, in at most so many moves.
abbrev pub seek : ℕ → List Bool → ℕ → ℕ
seek zero flags i = i
seek (suc moves) flags i = cond (slice_index_or flags i false) (seek moves flags (next (length flags) i)) i

-- The set that is collected next. As many moves as there are sets reach a clear flag wherever there is one.
abbrev pub sought : Meter → ℕ
sought m = seek (length m.flags) m.flags m.findex

unfoldable pub turn_to : ℕ → State → State
turn_to i s = record s { meter = record (s.meter) { findex = i } }

unfoldable pub end_round : State → State
end_round s = record s {
  meter = record (s.meter) { flags = replicate (length s.meter.flags) false; ecnt = 0; fcnt = 0; rounds = suc s.meter.rounds };
}

-- Levelling has nothing to do: no flag is set, or there were fewer than T erases to a flag.
abbrev pub even : Settings → Meter → Bool
even g m = m.fcnt == 0 || nat_lt m.ecnt (g.threshold * m.fcnt)

-- The sought set is collected, and findex is one further than that set.
unfoldable pub collect_next : Settings → State → State
collect_next g s = let i = sought s.meter in turn_to (next (length s.meter.flags) i) (collect g (set_blocks g i) s)

-- In at most so many turns. A turn ends levelling where it is even, ends the round where every flag is set, and
-- otherwise collects a set, whose flag is then set: so one turn more than there are sets is enough.
unfoldable pub level_in : ℕ → Settings → State → State
level_in zero g s = s
level_in (suc turns) g s = elim (even g s.meter) [
  | true ↦ s
  | false ↦ elim (s.meter.fcnt == length s.meter.flags) [ true ↦ end_round s | false ↦ level_in turns g (collect_next g s) ]
]

unfoldable pub level : Settings → State → State
level g s = level_in (suc (length s.meter.flags)) g s
