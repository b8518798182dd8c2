-- One line of a trace.
use Rattle.std.specs.Prelude.{◌≡◌, ℕ, List, Some, None, Ok, Err, Option, Result}
use Rattle.hexadecimal.specs.Text.{line_bytes, Spells}
use Rattle.hexadecimal.specs.declared.text.TextFault.TheVariants.{NotHexadecimal}
use Rattle.trace.specs.Frames.{frame_of, frame_bytes}
use Rattle.trace.specs.declared.fault.FrameFault.{FrameFault}
use Rattle.trace.specs.declared.fault.Cause.{Cause}
use Rattle.trace.specs.declared.fault.Cause.TheVariants as cause
use Rattle.trace.specs.declared.frame.Frame.{Frame}

-- a refusal of the frame layer, as a cause
abbrev pub caused : Result Frame FrameFault → Result Frame Cause
caused (Ok f) = Ok f
caused (Err e) = Err (cause.Frame e)

-- what the bytes of a line give, if it has any
abbrev pub given : Option (List ℕ) → Result Frame Cause
given None = Err (cause.Text NotHexadecimal)
given (Some bs) = caused (frame_of bs)

-- the frame of a line, or the first cause for which there is none: the text (at most 34 digits), then the check byte, then the form
abbrev pub line_frame : List ℕ → Result Frame Cause
line_frame ds = given (line_bytes 17 ds)

-- A line is accepted as a frame exactly when it is the hexadecimal text, in digits of either case, of the frame's bytes with
-- their check byte. So no two frames share a line.
pub record Accepts (ds : List ℕ) (r : Result Frame Cause) : Type 0 where
  pub only : (f : Frame) → r ≡ Ok f → Spells ds (frame_bytes f)
  pub always : (f : Frame) → Spells ds (frame_bytes f) → r ≡ Ok f
  pub one : (f g : Frame) → Spells ds (frame_bytes f) → Spells ds (frame_bytes g) → f ≡ g
