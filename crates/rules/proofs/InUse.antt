-- The blocks in a use, and the first of them in an order.
use Rattle.std.proofs.Common.{◌≡◌, ℕ, zero, suc, ◌<◌, Bool, true, List, [], ◌∷◌, map, length, get_or, slice_get, filter, All, AllPairs, Contains, IfSome, Some, None, Option, sym, refl, ap, ◌∙◌, arith}
use Rattle.std.specs.List.{range_with_len}
use Rattle.std.proofs.lemmas.List.{get_or_past}
use Rattle.std.proofs.lemmas.List.FromFn.{length-range_with_len, get_or-range_with_len}
use Rattle.std.proofs.lemmas.List.Elements.{All-filter, filter_passes, All-head, All-tail, All-map}
use Rattle.std.proofs.lemmas.List.Kept.{AllPairs-filter}
use Rattle.std.proofs.lemmas.Bool.{true≢false, cond_both}
use Rattle.orders.specs.declared.block.BlockRecord.{BlockRecord}
use Rattle.rules.specs.declared.Use.{Use}
use Rattle.rules.specs.declared.Use.TheVariants.{Free, Open}
use Rattle.rules.specs.Tables.{State}
use Rattle.rules.specs.Blocks.{BlockOrder, same_use, use_of, blocks_in, record_of, records, better, first, open_block}
use Rattle.rules.specs.WellFormed.{busy}
use Rattle.rules.proofs.StateFacts.{Busy, NoOpen, NoneIn}

pub busy_below : (s : State) (b : ℕ) → Busy s b → b < length s.uses
busy_below s b h = grind (arith, get_or_past)

pub busy_not_free : (s : State) (b d : ℕ) → Busy s b → use_of s d ≡ Free → b ≡ d → ⊥
busy_not_free s b d h f e = true≢false (sym h ∙ ap (λ x. busy (use_of s x)) e ∙ ap busy f)

pub busy_of : (u : Use) → (u ≡ Free → ⊥) → busy u ≡ true
busy_of u h = grind arith

pub is_use : (u v : Use) → same_use u v ≡ true → v ≡ u
is_use u v h = grind arith

own_use : (u : Use) → same_use u u ≡ true
own_use u = grind arith

Contains-cons : {X : Type 0} (x y : X) (xs : List X) → Contains xs x → Contains (y ∷ xs) x
Contains-cons x y xs c = (suc c.0, omega (arith, c.1), c.2)

pub same_from_only : {X : Type 0} (y x : X) → Contains (y ∷ []) x → x ≡ y
same_from_only y x c = let k : c.0 ≡ 0 = omega (arith, c.1) in sym c.2 ∙ ap (λ i. get_or (y ∷ []) i x) k

-- an element that passes is kept
pub Contains-filter : {X : Type 0} (p : X → Bool) (xs : List X) (k : ℕ) (x : X) → k < length xs → get_or xs k x ≡ x → p x ≡ true → Contains (filter p xs) x
Contains-filter p [] k x l e h = absurd (omega arith)
Contains-filter p (y ∷ ys) zero x l e h =
    cond_both (p y) (y ∷ filter p ys) (filter p ys) (λ zs. Contains zs x) (λ _. (0, omega arith, e)) (λ f. absurd (true≢false (sym h ∙ ap p (sym e) ∙ f)))
Contains-filter p (y ∷ ys) (suc k) x l e h =
    let c = Contains-filter p ys k x (omega arith) e h in
    cond_both (p y) (y ∷ filter p ys) (filter p ys) (λ zs. Contains zs x) (λ _. Contains-cons x y (filter p ys) c) (λ _. c)

pub in_use : (u : Use) (s : State) → All (λ b. (b < length s.uses) × (use_of s b ≡ u)) (blocks_in u s)
in_use u s k d l = (All-filter p (λ b. b < n) numbers below k d l, is_use u _ (filter_passes p numbers k d l))
  where
    n : ℕ
    n = length s.uses

    p : ℕ → Bool
    p b = same_use u (use_of s b)

    numbers : List ℕ
    numbers = range_with_len 0 n

    below : All (λ b. b < n) numbers
    below k d l = omega (arith, get_or-range_with_len 0 n k d (omega (arith, length-range_with_len 0 n)), length-range_with_len 0 n)

pub has_use : (u : Use) (s : State) (b : ℕ) → b < length s.uses → use_of s b ≡ u → Contains (blocks_in u s) b
has_use u s b l e = Contains-filter (λ x. same_use u (use_of s x)) (range_with_len 0 (length s.uses)) b b
    (omega (arith, length-range_with_len 0 (length s.uses))) (get_or-range_with_len 0 (length s.uses) b b l ∙ omega arith) (ap (same_use u) e ∙ own_use u)

-- the free blocks stand in rising number
pub free_rises : (s : State) → AllPairs (λ a b. a < b) (blocks_in Free s)
free_rises s = AllPairs-filter (λ a b. a < b) (λ b. same_use Free (use_of s b)) (range_with_len 0 n)
    (λ i j d l u. omega (arith, get_or-range_with_len 0 n i d (omega (arith, length-range_with_len 0 n)), get_or-range_with_len 0 n j d (omega (arith, length-range_with_len 0 n))))
  where
    n : ℕ
    n = length s.uses

-- what a choice gives is one of those chosen from
pub first_of : (P : BlockRecord → Type 0) (r : BlockOrder) (xs : List BlockRecord) → All P xs → IfSome (first r xs) P
first_of P r [] h = tt
first_of P r (x ∷ xs) h = go (first r xs) (first_of P r xs (All-tail P x xs h))
  where
    go : (o : Option BlockRecord) → IfSome o P → P (better r x o)
    go None q = All-head P x xs h
    go (Some y) q = cond_both (r x y) x y P (λ _. All-head P x xs h) (λ _. q)

-- and of some blocks there is a first
pub first_none : (r : BlockOrder) (f : ℕ → BlockRecord) (xs : List ℕ) (x : ℕ) → Contains xs x → first r (map f xs) ≡ None → ⊥
first_none r f [] x c e = omega (arith, c.1)
first_none r f (y ∷ xs) x c e = cc

-- the first block in a use by an order, or there is none in it
pub first_in : (r : BlockOrder) (u : Use) (s : State) (P : Option BlockRecord → Type 0) → (NoneIn u s → P None)
    → ((v : BlockRecord) → v.number < length s.uses → use_of s v.number ≡ u → first r (records u s) ≡ Some v → P (Some v)) → P (first r (records u s))
first_in r u s P none some = go (first r (records u s)) refl (first_of Q r (records u s) (All-map Q (record_of s) (blocks_in u s) (in_use u s)))
  where
    Q : BlockRecord → Type 0
    Q v = (v.number < length s.uses) × (use_of s v.number ≡ u)

    go : (o : Option BlockRecord) → first r (records u s) ≡ o → IfSome o Q → P o
    go None e q = none (λ x l h. first_none r (record_of s) (blocks_in u s) x (has_use u s x l h) e)
    go (Some v) e q = some v q.0 q.1 e

-- the open block, or there is none
pub open_in : (s : State) (P : Option ℕ → Type 0) → (NoOpen s → P None) → ((b : ℕ) → b < length s.uses → use_of s b ≡ Open → P (Some b)) → P (open_block s)
open_in s P none some = go (blocks_in Open s) (in_use Open s) (has_use Open s)
  where
    go : (bs : List ℕ) → All (λ b. (b < length s.uses) × (use_of s b ≡ Open)) bs → ((x : ℕ) → x < length s.uses → use_of s x ≡ Open → Contains bs x) → P (slice_get bs 0)
    go [] h f = none (λ x e. omega (arith, (f x (busy_below s x (ap busy e)) e).1))
    go (b ∷ bs) h f = some b (h 0 b (omega arith)).0 (h 0 b (omega arith)).1
