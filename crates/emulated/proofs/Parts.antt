-- What overwriting one page leaves of the memory. Assumes nothing.
use Rattle.std.proofs.Common.{◌≡◌, ℕ, suc, ◌+◌, ◌-◌, ◌*◌, ◌<◌, ◌≤◌, ◌≢◌, List, length, take, drop, sym, refl, ap, ◌∙◌, inl, inr, mul-le-mul_right, suc-mul, arith}
use borrow.Rule.Slice.PartMut.{put_mid}
use lib.Seq.{paste}
use Rattle.std.proofs.lemmas.List.{drop-take}
use Rattle.std.proofs.lemmas.Slice.{put_mid-paste, take-put_mid_below, drop-put_mid, between-put_mid}
use Rattle.std.proofs.lemmas.List.Edits.{length-paste}
use Rattle.std.proofs.lemmas.Bool.{cases_lt}

module _ (bytes xs : List ℕ) (d r : ℕ) (room : r * d + d ≤ length bytes) (long : length xs ≡ d) where
  put_is : paste bytes (r * d) xs d ≡ put_mid (r * d) d bytes xs
  put_is = sym (put_mid-paste (r * d) d bytes xs xs d refl refl (sym long))

  pub put_long : length (paste bytes (r * d) xs d) ≡ length bytes
  put_long = let b : d ≤ length xs = omega arith in length-paste bytes (r * d) xs d room b

  pub put_here : take d (drop (r * d) (paste bytes (r * d) xs d)) ≡ xs
  put_here =
      let l : r * d ≤ length bytes = omega arith in
      let m : (r * d + d) - r * d ≡ d = omega arith in
      ap (λ ys. take d (drop (r * d) ys)) put_is
      ∙ ap (λ j. take j (drop (r * d) (put_mid (r * d) d bytes xs))) (sym m) ∙ between-put_mid (r * d) d bytes xs (r * d + d) l (long ∙ sym m)

  pub put_others : (q : ℕ) → q ≢ r → take d (drop (q * d) (paste bytes (r * d) xs d)) ≡ take d (drop (q * d) bytes)
  put_others q ne =
      let l : r * d ≤ length bytes = omega arith in
      ap (λ ys. take d (drop (q * d) ys)) put_is ∙
      elim (cases_lt q r) [
        | inl s ↦ let below : q * d + d ≤ r * d = omega (arith, mul-le-mul_right {m = suc q} {n = r} d s, suc-mul q d) in
            sym (drop-take (q * d) d (put_mid (r * d) d bytes xs)) ∙ ap (drop (q * d)) (take-put_mid_below (r * d) d bytes xs (q * d + d) below l) ∙ drop-take (q * d) d bytes
        | inr s ↦ let more : r < q = omega arith in
            let above : r * d + d ≤ q * d = omega (arith, mul-le-mul_right {m = suc r} {n = q} d more, suc-mul r d) in
            ap (take d) (drop-put_mid (r * d) d bytes xs (q * d) above l long)
      ]
