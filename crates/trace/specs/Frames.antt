-- The frames of a trace as bytes. Numbers have the high byte first.
--
--   01 setup    N (2)  P (1)  D (2)  E (4)  k (1)  T (2)  order (1)  L (2)
--   02 write    page (2)  fill (1)
--   03 discard  page (2)
--   04 read     page (2)
--
-- A check byte follows, which makes the sum of all bytes 0 modulo 256.
use Rattle.std.specs.Prelude.{ℕ, ◌+◌, ◌-◌, ◌*◌, ◌/◌, ◌%◌, Bool, cond, ◌&&◌, List, [], ◌∷◌, ◌++◌, length, Ok, Err, sum, Result, ◌==◌, slice_index}
use Rattle.trace.specs.declared.fault.FrameFault.{FrameFault}
use Rattle.trace.specs.declared.fault.FrameFault.TheVariants.{WrongCheck, WrongForm}
use Rattle.trace.specs.declared.frame.OrderKind.{OrderKind}
use Rattle.trace.specs.declared.frame.OrderKind.TheVariants.{FewestLive, CostBenefit}
use Rattle.trace.specs.declared.frame.Settings.{Settings}
use Rattle.trace.specs.declared.frame.Frame.{Frame}
use Rattle.trace.specs.declared.frame.Frame.TheVariants.{Setup, Write, Discard, Read}

-- a frame's bytes, and what is read off them -------------------------------------------------

-- a number in two and in four bytes
abbrev pub two : ℕ → List ℕ
two n = n / 256 ∷ n % 256 ∷ []

abbrev pub four : ℕ → List ℕ
four n = n / 16777216 ∷ n / 65536 % 256 ∷ n / 256 % 256 ∷ n % 256 ∷ []

abbrev pub order_byte : OrderKind → ℕ
order_byte FewestLive = 0
order_byte CostBenefit = 1

-- all of a frame's bytes but the last
abbrev pub body : Frame → List ℕ
body (Setup s) =
    1 ∷ two s.blocks ++ s.pages ∷ two s.bytes ++ four s.erases ++ s.k ∷ two s.threshold ++ order_byte s.order ∷ two s.logical
body (Write page fill) = 2 ∷ two page ++ fill ∷ []
body (Discard page) = 3 ∷ two page
body (Read page) = 4 ∷ two page

-- the byte that makes the sum of all bytes 0 modulo 256
abbrev pub check_byte : List ℕ → ℕ
check_byte bs = (256 - sum bs % 256) % 256

-- a frame's bytes with their check byte
abbrev pub frame_bytes : Frame → List ℕ
frame_bytes f = body f ++ check_byte (body f) ∷ []

-- which frame bytes are --------------------------------------------------------------------

-- the byte at i, the two bytes from i on and the four bytes from i on
abbrev pub at : List ℕ → ℕ → ℕ
at bs i = slice_index bs i

abbrev pub at2 : List ℕ → ℕ → ℕ
at2 bs i = at bs i * 256 + at bs (i + 1)

abbrev pub at4 : List ℕ → ℕ → ℕ
at4 bs i = at2 bs i * 65536 + at2 bs (i + 2)

-- bytes of a kind and a length
abbrev pub shaped : ℕ → ℕ → List ℕ → Bool
shaped kind n bs = at bs 0 == kind && length bs == n

-- the settings in a setup's bytes, under an order
abbrev pub settings : List ℕ → OrderKind → Settings
settings bs order = record {
  blocks = at2 bs 1;
  pages = at bs 3;
  bytes = at2 bs 4;
  erases = at4 bs 6;
  k = at bs 10;
  threshold = at2 bs 11;
  order = order;
  logical = at2 bs 14;
}

-- the order that an order byte chooses
abbrev pub order_of : ℕ → Result OrderKind FrameFault
order_of b = cond (b == 0) (Ok FewestLive) (cond (b == 1) (Ok CostBenefit) (Err WrongForm))

-- the setup in a setup's bytes, under the order if there is one
abbrev pub setup_under : List ℕ → Result OrderKind FrameFault → Result Frame FrameFault
setup_under bs (Ok order) = Ok (Setup (settings bs order))
setup_under bs (Err e) = Err e

abbrev pub setup_of : List ℕ → Result Frame FrameFault
setup_of bs = setup_under bs (order_of (at bs 13))

-- the frame by kind and length
abbrev pub formed : List ℕ → Result Frame FrameFault
formed bs =
    cond (shaped 1 17 bs) (setup_of bs)
    (cond (shaped 2 5 bs) (Ok (Write (at2 bs 1) (at bs 3)))
    (cond (shaped 3 4 bs) (Ok (Discard (at2 bs 1)))
    (cond (shaped 4 4 bs) (Ok (Read (at2 bs 1))) (Err WrongForm))))

-- the frame that bytes are, or why they are none: first the check byte, then the form
abbrev pub frame_of : List ℕ → Result Frame FrameFault
frame_of bs = cond (sum bs % 256 == 0) (formed bs) (Err WrongCheck)
