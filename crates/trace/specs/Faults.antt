-- The faults of a trace, each with its number and its layer.
use Rattle.std.specs.Prelude.{ℕ}
use Rattle.hexadecimal.specs.Refusals.{text_number}
use Rattle.trace.specs.declared.fault.FrameFault.{FrameFault}
use Rattle.trace.specs.declared.fault.FrameFault.TheVariants.{WrongCheck, WrongForm, WrongPlace}
use Rattle.trace.specs.declared.fault.Cause.{Cause}
use Rattle.trace.specs.declared.fault.Cause.TheVariants.{Text, Frame}
use Rattle.trace.specs.declared.fault.Layer.{Layer}
use Rattle.trace.specs.declared.fault.Layer.TheVariants as layer

abbrev pub frame_number : FrameFault → ℕ
frame_number WrongCheck = 19
frame_number WrongForm = 20
frame_number WrongPlace = 21

-- a text is refused by 18
abbrev pub cause_number : Cause → ℕ
cause_number (Text e) = text_number e
cause_number (Frame e) = frame_number e

abbrev pub layer_of : Cause → Layer
layer_of (Text e) = layer.Text
layer_of (Frame e) = layer.Frame
