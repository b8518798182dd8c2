-- How frames, faults and page counts are written in words, one blank apart.
use Rattle.std.specs.Prelude.{ℕ, List, [], ◌∷◌, ◌++◌, take, codes, decimal}
use Rattle.trace.specs.Faults.{cause_number, layer_of}
use Rattle.trace.specs.declared.fault.Fault.{Fault}
use Rattle.trace.specs.declared.fault.Layer.{Layer}
use Rattle.trace.specs.declared.fault.Layer.TheVariants as layer
use Rattle.trace.specs.declared.frame.OrderKind.{OrderKind}
use Rattle.trace.specs.declared.frame.OrderKind.TheVariants.{FewestLive, CostBenefit}
use Rattle.trace.specs.declared.frame.Settings.{Settings}
use Rattle.trace.specs.declared.frame.Frame.{Frame}
use Rattle.trace.specs.declared.frame.Frame.TheVariants.{Setup, Write, Discard, Read}

-- a label, and a number in decimal digits
abbrev pub labelled : List ℕ → ℕ → List ℕ
labelled label n = label ++ decimal n

abbrev pub order_word : OrderKind → List ℕ
order_word FewestLive = codes "fewest-live"
order_word CostBenefit = codes "cost-benefit"

abbrev pub layer_word : Layer → List ℕ
layer_word layer.Text = codes "text"
layer_word layer.Frame = codes "frame"

-- setup blocks N pages P bytes D erases E k K threshold T order ORDER logical L
abbrev pub setup_words : Settings → List ℕ
setup_words s =
    labelled (codes "setup blocks ") s.blocks ++ labelled (codes " pages ") s.pages ++ labelled (codes " bytes ") s.bytes ++ labelled (codes " erases ") s.erases
    ++ labelled (codes " k ") s.k ++ labelled (codes " threshold ") s.threshold ++ (codes " order " ++ order_word s.order) ++ labelled (codes " logical ") s.logical

abbrev pub frame_words : Frame → List ℕ
frame_words (Setup s) = setup_words s
frame_words (Write page fill) = labelled (codes "write page ") page ++ labelled (codes " fill ") fill
frame_words (Discard page) = labelled (codes "discard page ") page
frame_words (Read page) = labelled (codes "read page ") page

abbrev pub fault_words : Fault → List ℕ
fault_words e = labelled (codes "fault ") (cause_number e.cause) ++ labelled (codes " line ") e.line ++ (codes " " ++ layer_word (layer_of e.cause))

-- a page and how often it was written
abbrev pub busy_words : ℕ → ℕ → List ℕ
busy_words page writes = labelled (codes "busy ") page ++ labelled (codes " ") writes

-- words on a line of their own: a line feed (10) ends it
abbrev pub line_of : List ℕ → List ℕ
line_of words = words ++ 10 ∷ []

-- some bytes and more after them, as far as a line has room
unfoldable pub fitted : List ℕ → List ℕ → List ℕ
fitted bytes more = take 128 (bytes ++ more)
