-- What a buffer of n bytes keeps of a list: its front.
use Rattle.std.proofs.Common.{◌≡◌, ℕ, zero, suc, min, ◌+◌, ◌-◌, ◌≤◌, Bool, true, false, cond, ltb, List, [], ◌∷◌, ◌++◌, length, take, sym, refl, ap, ◌∙◌, append_assoc, append-nil, arith, length-append, length-take, take_all, ltb-false, ltb-true}
use Rattle.std.proofs.Math.Seq.{take-append-add}
use Rattle.std.proofs.lemmas.List.{take_min, take-append-le}
use Rattle.std.proofs.lemmas.Slice.{take-put_mid}
use borrow.Rule.Slice.PartMut.{put_mid}
use Rattle.bounded.specs.Buffer.{held}
use Rattle.bounded.specs.declared.bytes.Bytes.{Bytes}

-- a front of a front, with more behind it
pub take_front : {A : Type 0} (n : ℕ) (xs ys : List A) → take n (take n xs ++ ys) ≡ take n (xs ++ ys)
take_front zero xs ys = refl
take_front (suc n) [] ys = refl
take_front (suc n) (x ∷ xs) ys = ap (λ l. x ∷ l) (take_front n xs ys)

-- one byte more, where there is room
pub pushed : (n : ℕ) (xs : List ℕ) (b : ℕ) (r : Bool) → r ≡ ltb (length xs) n → length xs ≤ n → cond r (xs ++ b ∷ []) xs ≡ take n (xs ++ b ∷ [])
pushed n xs b true e h = sym (take_all n (xs ++ b ∷ []) (omega (arith, ltb-true (length xs) n (sym e), length-append xs (b ∷ []))))
pushed n xs b false e h = let full = ltb-false (length xs) n (sym e) in sym (take-append-le n xs (b ∷ []) full ∙ take_all n xs h)

pub held_fits : {n : ℕ} (b : Bytes n) → length (held b) ≤ n
held_fits b = omega (arith, length-take b.len b.items, b.within)

-- what was kept, as the front of a list, and one byte more
pub pushed_more : {n : ℕ} (old new : Bytes n) (b : ℕ) (r : Bool) (xs : List ℕ) → r ≡ ltb (length (held old)) n → held new ≡ cond r (held old ++ b ∷ []) (held old) → held old ≡ take n xs → held new ≡ take n (xs ++ b ∷ [])
pushed_more {n} old new b r xs room keeps is = keeps ∙ pushed n (held old) b r room (held_fits old) ∙ ap (λ l. take n (l ++ b ∷ [])) is ∙ take_front n xs (b ∷ [])

-- what is kept is its own front
pub held_front : {n : ℕ} (b : Bytes n) → held b ≡ take n (held b ++ [])
held_front {n} b = sym (ap (take n) (append-nil (held b)) ∙ take_all n (held b) (held_fits b))

-- a buffer that appended a list to what another kept, as far as there was room; and a list more
abbrev pub Appends : {n : ℕ} → Bytes n → Bytes n → List ℕ → Type 0
Appends {n} old new xs = held new ≡ take n (held old ++ xs)

pub appends_more : {n : ℕ} (old mid new : Bytes n) (xs ys : List ℕ) → Appends old mid xs → Appends mid new ys → Appends old new (xs ++ ys)
appends_more {n} old mid new xs ys p q = q ∙ ap (λ l. take n (l ++ ys)) p ∙ take_front n (held old ++ xs) ys ∙ ap (take n) (append_assoc (held old) xs ys)

-- a whole list, from an empty buffer with room for it
pub appends_all : {n : ℕ} (old new : Bytes n) (xs : List ℕ) → held old ≡ [] → Appends old new xs → length xs ≤ n → held new ≡ xs
appends_all {n} old new xs none p h = p ∙ ap (λ l. take n (l ++ xs)) none ∙ take_all n xs h

-- as many bytes of a list as there is room for, put behind those that are kept
pub appended : (n len count : ℕ) (items more new : List ℕ) → length items ≡ n → len ≤ n → count ≡ min (length more) (n - len) → new ≡ take count more → take (len + count) (put_mid len (len + count - len) items new) ≡ take n (take len items ++ more)
appended n len count items more new long within count_is new_is =
    let front : length (take len items) ≡ len = omega (arith, length-take len items) in
    let some : length new ≡ count = omega (arith, ap length new_is, length-take count more) in
    let room : take count more ≡ take (n - len) more = ap (λ k. take k more) (let e : count ≡ min (n - len) (length more) = omega arith in e) ∙ take_min (n - len) more in
    let whole : length (take len items) + (n - len) ≡ n = omega arith in
    take-put_mid len (len + count - len) items new (len + count) (omega arith) (omega arith)
    ∙ ap (λ l. take len items ++ l) (new_is ∙ room)
    ∙ sym (take-append-add (take len items) more (n - len)) ∙ ap (λ k. take k (take len items ++ more)) whole
