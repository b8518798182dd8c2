-- How a reader goes through an input byte by byte, keeping at most one line of 34 characters.
use Rattle.std.specs.Prelude.{ℕ, Bool, true, false, cond, List, [], ◌∷◌, ◌++◌, length, Some, None, Ok, Err, Option, Result, ◌==◌, nat_lt}
use Rattle.bounded.specs.Buffer.{held}
use Rattle.hexadecimal.specs.declared.text.TextFault.TheVariants.{NotHexadecimal}
use Rattle.trace.specs.Lines.{line_frame}
use Rattle.trace.specs.Reading.{Reading, placed, next_line, faulty}
use Rattle.trace.specs.declared.fault.Cause.{Cause}
use Rattle.trace.specs.declared.fault.Cause.TheVariants as cause
use Rattle.trace.specs.declared.fault.FrameFault.TheVariants.{WrongPlace}
use Rattle.trace.specs.declared.fault.Fault.{Fault}
use Rattle.trace.specs.declared.frame.Frame.{Frame}
use Rattle.trace.specs.declared.reader.Reader.{Reader}

-- where a reader stands: the number of the line it is in, whether the setup has come, what it has of that line, and the fault
-- that has stopped it
pub record State : Type 0 where
  pub line : ℕ
  pub started : Bool
  pub rest : List ℕ
  pub fault : Option Fault

-- what a reader holds
abbrev pub view : Reader → State
view r = record { line = r.line; started = r.started; rest = held r.rest; fault = r.fault }

abbrev pub beginning : State
beginning = record { line = 1; started = false; rest = []; fault = None }

-- one step: where the reader stands then, and what it answers: a frame, nothing yet, or the fault
pub record Step : Type 0 where
  pub after : State
  pub answer : Result (Option Frame) Fault

-- the fault stays, and nothing more is read
abbrev pub stopped : State → Fault → Step
stopped s e = record { after = record { line = s.line; started = s.started; rest = s.rest; fault = Some e }; answer = Err e }

-- at a line's end: its frame, or the fault
abbrev pub settled : State → Result Frame Cause → Step
settled s (Ok f) = record { after = record { line = next_line s.line; started = true; rest = []; fault = s.fault }; answer = Ok (Some f) }
settled s (Err c) = stopped s (faulty c s.line)

abbrev pub line_end : State → Step
line_end s = settled s (placed s.started (line_frame s.rest))

-- within a line: a 35th character makes it faulty at once
abbrev pub kept : State → ℕ → Step
kept s b =
    cond (nat_lt (length s.rest) 34)
    (record { after = record { line = s.line; started = s.started; rest = s.rest ++ b ∷ []; fault = s.fault }; answer = Ok None })
    (stopped s (faulty (cause.Text NotHexadecimal) s.line))

-- what is done unless a fault has stopped the reading
abbrev pub unless : Option Fault → State → Step → Step
unless None s next = next
unless (Some e) s next = record { after = s; answer = Err e }

-- one byte more
abbrev pub byte_step : State → ℕ → Step
byte_step s b = cond (b == 10) (line_end s) (kept s b)

abbrev pub step : State → ℕ → Step
step s b = unless s.fault s (byte_step s b)

-- the input ends: a last line may lack its line feed, and without a setup the line after the last is faulty
abbrev pub end_step : State → Step
end_step s =
    cond (length s.rest == 0)
    (record { after = s; answer = cond s.started (Ok None) (Err (faulty (cause.Frame WrongPlace) s.line)) })
    (line_end s)

abbrev pub ending : State → Result (Option Frame) Fault
ending s = (unless s.fault s (end_step s)).answer

-- a whole input ------------------------------------------------------------------------------

-- where a reader stands after some bytes
abbrev pub after_all : State → List ℕ → State
after_all s [] = s
after_all s (b ∷ bs) = after_all (step s b).after bs

-- the frame in an answer, if there is one
abbrev pub news : Result (Option Frame) Fault → List Frame
news (Ok None) = []
news (Ok (Some f)) = f ∷ []
news (Err e) = []

-- the frames that it has answered on the way
abbrev pub heard : State → List ℕ → List Frame
heard s [] = []
heard s (b ∷ bs) = news (step s b).answer ++ heard (step s b).after bs

abbrev pub fault_in : Result (Option Frame) Fault → Option Fault
fault_in (Ok o) = None
fault_in (Err e) = Some e

-- the frames answered so far, and the last answer
abbrev pub concluded : List Frame → Result (Option Frame) Fault → Reading
concluded fs r = record { frames = fs ++ news r; fault = fault_in r }
