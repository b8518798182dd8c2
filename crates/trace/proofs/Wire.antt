-- A frame is read back from its bytes, and only from them.
use Rattle.std.proofs.Common.{◌≡◌, ℕ, zero, suc, ◌+◌, ◌*◌, ◌/◌, ◌%◌, ◌<◌, ◌≤◌, Bool, true, false, cond, eqb, List, [], ◌∷◌, ◌++◌, map, length, Some, None, Ok, Err, sum, Option, Result, sym, refl, ap, ◌∙◌, subst, arith, lit<, lit≤, eq-eqb, eqb-true}
use Rattle.std.proofs.lemmas.List.FromFn.{fill_by_all}
use Rattle.std.proofs.lemmas.List.Sums.{sum_by_push}
use Rattle.std.proofs.lemmas.Bool.{and_parts}
use Rattle.std.proofs.lemmas.Bool.Decides.{nat_tests}
use Rattle.std.specs.List.{range_with_len}
use Rattle.hexadecimal.specs.Text.{line_bytes, Spells}
use Rattle.hexadecimal.proofs.Spelling.{line_spells, line_spelled}
use Rattle.trace.specs.Frames.{two, order_byte, body, check_byte, frame_bytes, at, at2, at4, shaped, settings, order_of, setup_under, setup_of, formed, frame_of}
use Rattle.trace.specs.Lines.{caused, given, line_frame, Accepts}
use Rattle.trace.specs.declared.fault.FrameFault.{FrameFault}
use Rattle.trace.specs.declared.fault.FrameFault.TheVariants.{WrongCheck, WrongForm}
use Rattle.trace.specs.declared.fault.Cause.{Cause}
use Rattle.trace.specs.declared.frame.OrderKind.{OrderKind}
use Rattle.trace.specs.declared.frame.OrderKind.TheVariants.{FewestLive, CostBenefit}
use Rattle.trace.specs.declared.frame.Settings.{Settings}
use Rattle.trace.specs.declared.frame.Frame.{Frame}
use Rattle.trace.specs.declared.frame.Frame.TheVariants.{Setup, Write, Discard, Read}

-- bytes with their check byte pass the check, and no other last byte does
checked : (bs : List ℕ) → sum (bs ++ check_byte bs ∷ []) % 256 ≡ 0
checked bs = omega (arith, sum_by_push (λ x. x) bs (check_byte bs))

only_check : (bs : List ℕ) (b : ℕ) → b < 256 → sum (bs ++ b ∷ []) % 256 ≡ 0 → check_byte bs ≡ b
only_check bs b h e = omega (arith, sum_by_push (λ x. x) bs b)

-- every frame is read back from its bytes ------------------------------------------------------

two_back : (n : ℕ) → n / 256 * 256 + n % 256 ≡ n
two_back n = omega arith

four_back : (n : ℕ) → (n / 16777216 * 256 + n / 65536 % 256) * 65536 + (n / 256 % 256 * 256 + n % 256) ≡ n
four_back n = omega arith

settings_back : (s : Settings) → settings (frame_bytes (Setup s)) s.order ≡ s
settings_back s =
    let blocks = two_back s.blocks in
    let bytes = two_back s.bytes in
    let erases = four_back s.erases in
    let threshold = two_back s.threshold in
    let logical = two_back s.logical in
    λ i. record {
      blocks = blocks i;
      pages = s.pages;
      bytes = bytes i;
      erases = erases i;
      k = s.k;
      threshold = threshold i;
      order = s.order;
      logical = logical i;
    }

-- an order is read back from its byte, and only from it
order_back : (o : OrderKind) → order_of (order_byte o) ≡ Ok o
order_back FewestLive = refl
order_back CostBenefit = refl

order_least : (b : ℕ) → order_of b ≡ Ok FewestLive → b ≡ 0
order_least b e = grind (arith, nat_tests)

order_other : (b : ℕ) → order_of b ≡ Ok CostBenefit → b ≡ 1
order_other b e = grind (arith, nat_tests)

order_only : (b : ℕ) (o : OrderKind) → order_of b ≡ Ok o → b ≡ order_byte o
order_only b FewestLive e = order_least b e
order_only b CostBenefit e = order_other b e

pub read_back : (f : Frame) → frame_of (frame_bytes f) ≡ Ok f
read_back (Write page fill) = rw (eq-eqb _ 0 (checked (body (Write page fill)))) (ap (λ n. Ok (Write n fill)) (two_back page))
read_back (Discard page) = rw (eq-eqb _ 0 (checked (body (Discard page)))) (ap (λ n. Ok (Discard n)) (two_back page))
read_back (Read page) = rw (eq-eqb _ 0 (checked (body (Read page)))) (ap (λ n. Ok (Read n)) (two_back page))
read_back (Setup s) = rw (eq-eqb _ 0 (checked (body (Setup s)))) (ap (setup_under (frame_bytes (Setup s))) (order_back s.order) ∙ ap (λ t. Ok (Setup t)) (settings_back s))

-- and only from them ---------------------------------------------------------------------------

-- bytes that end in the right check byte are those of the frame whose body stands before it
wired : (f : Frame) (front : List ℕ) (b : ℕ) → body f ≡ front → b < 256 → sum (front ++ b ∷ []) % 256 ≡ 0 → frame_bytes f ≡ front ++ b ∷ []
wired f front b e h z = ap (λ bs. bs ++ check_byte bs ∷ []) e ∙ ap (λ c. front ++ c ∷ []) (only_check front b h z)

two_front : (a b : ℕ) → b < 256 → (a * 256 + b) / 256 ≡ a
two_front a b h = omega arith

two_last : (a b : ℕ) → b < 256 → (a * 256 + b) % 256 ≡ b
two_last a b h = omega arith

module _ (bs : List ℕ) (small : (i : ℕ) → at bs i < 256) (sums : sum bs % 256 ≡ 0) where
  listed : (n : ℕ) → length bs ≡ n → bs ≡ map (at bs) (range_with_len 0 n)
  listed n e = fill_by_all (at bs) bs n 0 e (λ k h. refl)

  write_only : shaped 2 5 bs ≡ true → frame_bytes (Write (at2 bs 1) (at bs 3)) ≡ bs
  write_only e =
      let shape = and_parts (eqb (at bs 0) 2) (eqb (length bs) 5) e in
      let whole : bs ≡ (at bs 0 ∷ at bs 1 ∷ at bs 2 ∷ at bs 3 ∷ []) ++ at bs 4 ∷ [] = listed 5 (eqb-true _ 5 shape.1) in
      let kind = eqb-true _ 2 shape.0 in
      let high = two_front (at bs 1) (at bs 2) (small 2) in
      let low = two_last (at bs 1) (at bs 2) (small 2) in
      let front : body (Write (at2 bs 1) (at bs 3)) ≡ at bs 0 ∷ at bs 1 ∷ at bs 2 ∷ at bs 3 ∷ [] = cc in
      wired (Write (at2 bs 1) (at bs 3)) (at bs 0 ∷ at bs 1 ∷ at bs 2 ∷ at bs 3 ∷ []) (at bs 4) front (small 4) (subst (λ l. sum l % 256 ≡ 0) whole sums) ∙ sym whole

  -- a discard and a read differ in their kind alone
  page_only : (k : ℕ) (f : Frame) → body f ≡ k ∷ two (at2 bs 1) → shaped k 4 bs ≡ true → frame_bytes f ≡ bs
  page_only k f is e =
      let shape = and_parts (eqb (at bs 0) k) (eqb (length bs) 4) e in
      let whole : bs ≡ (at bs 0 ∷ at bs 1 ∷ at bs 2 ∷ []) ++ at bs 3 ∷ [] = listed 4 (eqb-true _ 4 shape.1) in
      let kind = eqb-true _ k shape.0 in
      let high = two_front (at bs 1) (at bs 2) (small 2) in
      let low = two_last (at bs 1) (at bs 2) (small 2) in
      let front : body f ≡ at bs 0 ∷ at bs 1 ∷ at bs 2 ∷ [] = cc in
      wired f (at bs 0 ∷ at bs 1 ∷ at bs 2 ∷ []) (at bs 3) front (small 3) (subst (λ l. sum l % 256 ≡ 0) whole sums) ∙ sym whole

  setup_only : (o : OrderKind) → at bs 13 ≡ order_byte o → shaped 1 17 bs ≡ true → frame_bytes (Setup (settings bs o)) ≡ bs
  setup_only o is e =
      let shape = and_parts (eqb (at bs 0) 1) (eqb (length bs) 17) e in
      let front =
      at bs 0 ∷ at bs 1 ∷ at bs 2 ∷ at bs 3 ∷ at bs 4 ∷ at bs 5 ∷ at bs 6 ∷ at bs 7 ∷ at bs 8 ∷ at bs 9 ∷ at bs 10 ∷ at bs 11 ∷ at bs 12 ∷ at bs 13 ∷ at bs 14 ∷ at bs 15 ∷ [] in
      let whole : bs ≡ front ++ at bs 16 ∷ [] = listed 17 (eqb-true _ 17 shape.1) in
      let kind = eqb-true _ 1 shape.0 in
      let n1 = two_front (at bs 1) (at bs 2) (small 2) in
      let n0 = two_last (at bs 1) (at bs 2) (small 2) in
      let d1 = two_front (at bs 4) (at bs 5) (small 5) in
      let d0 = two_last (at bs 4) (at bs 5) (small 5) in
      let t1 = two_front (at bs 11) (at bs 12) (small 12) in
      let t0 = two_last (at bs 11) (at bs 12) (small 12) in
      let l1 = two_front (at bs 14) (at bs 15) (small 15) in
      let l0 = two_last (at bs 14) (at bs 15) (small 15) in
      let e3 : at4 bs 6 / 16777216 ≡ at bs 6 = omega (arith, small 7, small 8, small 9) in
      let e2 : at4 bs 6 / 65536 % 256 ≡ at bs 7 = omega (arith, small 7, small 8, small 9) in
      let e1 : at4 bs 6 / 256 % 256 ≡ at bs 8 = omega (arith, small 7, small 8, small 9) in
      let e0 : at4 bs 6 % 256 ≡ at bs 9 = omega (arith, small 7, small 8, small 9) in
      let same : body (Setup (settings bs o)) ≡ front = cc in
      wired (Setup (settings bs o)) front (at bs 16) same (small 16) (subst (λ l. sum l % 256 ≡ 0) whole sums) ∙ sym whole

  setup_form : (f : Frame) → shaped 1 17 bs ≡ true → setup_of bs ≡ Ok f → frame_bytes f ≡ bs
  setup_form f e q = go (order_of (at bs 13)) refl q where
    go : (r : Result OrderKind FrameFault) → order_of (at bs 13) ≡ r → setup_under bs r ≡ Ok f → frame_bytes f ≡ bs
    go (Ok o) p r = let is : Setup (settings bs o) ≡ f = cc in subst (λ g. frame_bytes g ≡ bs) is (setup_only o (order_only (at bs 13) o p) e)
    go (Err x) p r = cc

  by_form : (f : Frame) → formed bs ≡ Ok f → frame_bytes f ≡ bs
  by_form f q = go (shaped 1 17 bs) (shaped 2 5 bs) (shaped 3 4 bs) (shaped 4 4 bs) refl refl refl refl q where
    go : (w x y z : Bool) → shaped 1 17 bs ≡ w → shaped 2 5 bs ≡ x → shaped 3 4 bs ≡ y → shaped 4 4 bs ≡ z → cond w (setup_of bs) (cond x (Ok (Write (at2 bs 1) (at bs 3))) (cond y (Ok (Discard (at2 bs 1))) (cond z (Ok (Read (at2 bs 1))) (Err WrongForm)))) ≡ Ok f → frame_bytes f ≡ bs
    go true x y z a b c d r = setup_form f a r
    go false true y z a b c d r = let is : Write (at2 bs 1) (at bs 3) ≡ f = cc in subst (λ g. frame_bytes g ≡ bs) is (write_only b)
    go false false true z a b c d r = let is : Discard (at2 bs 1) ≡ f = cc in subst (λ g. frame_bytes g ≡ bs) is (page_only 3 (Discard (at2 bs 1)) refl c)
    go false false false true a b c d r = let is : Read (at2 bs 1) ≡ f = cc in subst (λ g. frame_bytes g ≡ bs) is (page_only 4 (Read (at2 bs 1)) refl d)
    go false false false false a b c d r = cc

pub only_from : (bs : List ℕ) (f : Frame) → ((i : ℕ) → at bs i < 256) → frame_of bs ≡ Ok f → frame_bytes f ≡ bs
only_from bs f small e = go (eqb (sum bs % 256) 0) refl e where
  go : (t : Bool) → eqb (sum bs % 256) 0 ≡ t → cond t (formed bs) (Err WrongCheck) ≡ Ok f → frame_bytes f ≡ bs
  go true p q = by_form bs small (eqb-true _ 0 p) f q
  go false p q = cc

-- a line -----------------------------------------------------------------------------------------

-- what a text spells is bytes
bytes_small : (ds bs : List ℕ) → Spells ds bs → (i : ℕ) → at bs i < 256
bytes_small ds [] s i = lit< tt
bytes_small [] (b ∷ bs) s i = absurd s
bytes_small (h ∷ []) (b ∷ bs) s i = absurd s
bytes_small (h ∷ l ∷ ds) (b ∷ bs) s zero = omega (arith, s.0.small)
bytes_small (h ∷ l ∷ ds) (b ∷ bs) s (suc i) = bytes_small ds bs s.2 i

frame_length : (f : Frame) → (0 < length (frame_bytes f)) × (length (frame_bytes f) ≤ 17)
frame_length (Setup s) = (lit< tt, lit≤ tt)
frame_length (Write page fill) = (lit< tt, lit≤ tt)
frame_length (Discard page) = (lit< tt, lit≤ tt)
frame_length (Read page) = (lit< tt, lit≤ tt)

uncaused : (r : Result Frame FrameFault) (f : Frame) → caused r ≡ Ok f → r ≡ Ok f
uncaused (Ok g) f e = let is : g ≡ f = cc in ap Ok is
uncaused (Err x) f e = cc

accepted_only : (ds : List ℕ) (f : Frame) → line_frame ds ≡ Ok f → Spells ds (frame_bytes f)
accepted_only ds f e = go (line_bytes 17 ds) refl e where
  go : (o : Option (List ℕ)) → line_bytes 17 ds ≡ o → given o ≡ Ok f → Spells ds (frame_bytes f)
  go None p q = cc
  go (Some bs) p q =
      let spelt = line_spells 17 ds bs p in
      subst (Spells ds) (sym (only_from bs f (bytes_small ds bs spelt) (uncaused (frame_of bs) f q))) spelt

accepted_always : (ds : List ℕ) (f : Frame) → Spells ds (frame_bytes f) → line_frame ds ≡ Ok f
accepted_always ds f s =
    let size = frame_length f in
    ap given (line_spelled 17 ds (frame_bytes f) size.0 size.1 s) ∙ ap caused (read_back f)

pub accepts : (ds : List ℕ) → Accepts ds (line_frame ds)
accepts ds = record {
  only = accepted_only ds;
  always = accepted_always ds;
  one = λ f g s t. let is : ◌≡◌ {A = Result Frame Cause} (Ok f) (Ok g) = sym (accepted_always ds f s) ∙ accepted_always ds g t in let same : f ≡ g = cc in same;
}

-- an answer that is the line's is accepted or refused as it should be
pub accepts_as : (ds : List ℕ) (r : Result Frame Cause) → r ≡ line_frame ds → Accepts ds r
accepts_as ds r e = subst (Accepts ds) (sym e) (accepts ds)
