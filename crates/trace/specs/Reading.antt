-- What a whole input tells: its frames in order up to the first faulty line, and the fault of that line.
use Rattle.std.specs.Prelude.{ℕ, ◌+◌, min, Bool, true, false, cond, not, List, [], ◌∷◌, Some, None, Ok, Err, Option, Result, ◌==◌}
use Rattle.trace.specs.Lines.{line_frame}
use Rattle.trace.specs.declared.fault.Cause.{Cause}
use Rattle.trace.specs.declared.fault.Cause.TheVariants as cause
use Rattle.trace.specs.declared.fault.FrameFault.TheVariants.{WrongPlace}
use Rattle.trace.specs.declared.fault.Fault.{Fault}
use Rattle.trace.specs.declared.frame.Frame.{Frame}
use Rattle.trace.specs.declared.frame.Frame.TheVariants.{Setup, Write, Discard, Read}

-- the frames that were read, and the fault that ended the reading, if one did
pub record Reading : Type 0 where
  pub frames : List Frame
  pub fault : Option Fault

-- a character put before the lines that follow
abbrev pub onto : ℕ → List (List ℕ) → List (List ℕ)
onto c [] = (c ∷ []) ∷ []
onto c (l ∷ ls) = (c ∷ l) ∷ ls

-- the lines of a text: a line feed (10) ends each, and may be missing on the last
abbrev pub lines : List ℕ → List (List ℕ)
lines [] = []
lines (c ∷ cs) = cond (c == 10) ([] ∷ lines cs) (onto c (lines cs))

-- whether a frame may stand there: the one setup comes before all others
abbrev pub in_place : Bool → Frame → Bool
in_place started (Setup s) = not started
in_place started (Write page fill) = started
in_place started (Discard page) = started
in_place started (Read page) = started

-- a line's frame, if it may stand there
abbrev pub placed : Bool → Result Frame Cause → Result Frame Cause
placed started (Err c) = Err c
placed started (Ok f) = cond (in_place started f) (Ok f) (Err (cause.Frame WrongPlace))

-- lines are counted from 1; the count stops at the largest number of 64 bits
abbrev pub next_line : ℕ → ℕ
next_line n = min (n + 1) 18446744073709551615

abbrev pub faulty : Cause → ℕ → Fault
faulty c n = record { cause = c; line = n }

-- what a line tells, before the lines that follow it: the first faulty line decides
abbrev pub told_first : ℕ → Result Frame Cause → Reading → Reading
told_first n (Err c) rest = record { frames = []; fault = Some (faulty c n) }
told_first n (Ok f) rest = record { frames = f ∷ rest.frames; fault = rest.fault }

-- what lines tell, of which the first has the number n, and before which the setup has come or has not
abbrev pub told : ℕ → Bool → List (List ℕ) → Reading
told n started [] = record { frames = []; fault = cond started None (Some (faulty (cause.Frame WrongPlace) n)) }
told n started (l ∷ ls) = told_first n (placed started (line_frame l)) (told (next_line n) true ls)

-- what a whole input tells
abbrev pub read_all : List ℕ → Reading
read_all input = told 1 false (lines input)
