-- The live pages of all blocks together are no more than the logical pages.
use Rattle.std.proofs.Common.{◌≡◌, ℕ, zero, suc, ◌+◌, ◌*◌, ◌<◌, ◌≤◌, cond, ◌&&◌, eqb, leb, List, [], ◌∷◌, length, get_or, sum_by, Some, None, Option, ⊎_elim, refl, ap, ◌∙◌, arith}
use Rattle.std.specs.List.{range_with_len}
use Rattle.std.proofs.lemmas.List.Sums.{sum_by-cons, sum_by-le, sum_by-le-sum_by}
use Rattle.std.proofs.lemmas.Bool.{cases_eq, cond_both}
use Rattle.std.proofs.lemmas.Bool.Decides.{nat_tests}
use Rattle.flash.specs.Meaning.{Page}
use Rattle.rules.specs.declared.Place.{Place}
use Rattle.rules.specs.Tables.{State}
use Rattle.rules.specs.Blocks.{names, live_from, live_pages}
use Rattle.rules.proofs.Copies.{at, names_is}

-- f a + f (a + 1) + .., n of them
abbrev pub sums : (ℕ → ℕ) → ℕ → ℕ → ℕ
sums f a n = sum_by f (range_with_len a n)

sums_cons : (f : ℕ → ℕ) (a n : ℕ) → sums f a (suc n) ≡ f a + sums f (a + 1) n
sums_cons f a n = sum_by-cons f a (range_with_len (a + 1) n)

-- 1 where a place lies in block b, at page i or after it
abbrev lies : ℕ → ℕ → Option Place → ℕ
lies b i None = 0
lies b i (Some q) = cond (eqb q.block b && leb i q.page) 1 0

abbrev lying : List (Option Place) → ℕ → ℕ → ℕ
lying m b i = sum_by (lies b i) m

lies_less : (b i : ℕ) (o : Option Place) → lies b (suc i) o ≤ lies b i o
lies_less b i None = omega arith
lies_less b i (Some q) = grind (arith, nat_tests)

lying_less : (m : List (Option Place)) (b i : ℕ) → lying m b (suc i) ≤ lying m b i
lying_less m b i = sum_by-le-sum_by (lies b (suc i)) (lies b i) m (lies_less b i)

lies_one : (b i : ℕ) → (lies b i (Some (at b i)) ≡ 1) × (lies b (suc i) (Some (at b i)) ≡ 0)
lies_one b i = (grind (arith, nat_tests), grind (arith, nat_tests))

-- a page that is named at i lies in block b from i on, and not after i
lying_one : (m : List (Option Place)) (t b i : ℕ) → get_or m t None ≡ Some (at b i) → suc (lying m b (suc i)) ≤ lying m b i
lying_one [] t b i h = absurd (cc)
lying_one (o ∷ m) zero b i h =
    omega (arith, sum_by-cons (lies b i) o m, sum_by-cons (lies b (suc i)) o m, lying_less m b i, ap (lies b i) h ∙ (lies_one b i).0, ap (lies b (suc i)) h ∙ (lies_one b i).1)
lying_one (o ∷ m) (suc t) b i h = omega (arith, sum_by-cons (lies b i) o m, sum_by-cons (lies b (suc i)) o m, lying_one m t b i h, lies_less b i o)

live_lies : (m : List (Option Place)) (b i : ℕ) (ps : List Page) → length (live_from m b i ps) ≤ lying m b i
live_lies m b i [] = omega arith
live_lies m b i (q ∷ qs) =
    let rest = live_lies m b (suc i) qs in
    cond_both (names (get_or m q.tag None) b i) (q ∷ live_from m b (suc i) qs) (live_from m b (suc i) qs) (λ ps. length ps ≤ lying m b i)
    (λ e. omega (arith, lying_one m q.tag b i (names_is (get_or m q.tag None) b i e)))
    (λ e. omega (arith, lying_less m b i))

sums_none : (a n : ℕ) → sums (λ b. 0) a n ≤ 0
sums_none a n = omega (arith, sum_by-le (λ b. 0) 0 (range_with_len a n) (λ k d l. omega arith))

-- a place lies in one block
lies_once : (o : Option Place) (a n : ℕ) → sums (λ b. lies b 0 o) a n ≤ 1
lies_once None a n = omega (arith, sums_none a n)
lies_once (Some q) a n = most a n
  where
    none : (a n : ℕ) → q.block < a → sums (λ b. lies b 0 (Some q)) a n ≤ 0
    none a zero l = omega arith
    none a (suc n) l = let e : lies a 0 (Some q) ≡ 0 = grind (arith, nat_tests) in omega (arith, sums_cons (λ b. lies b 0 (Some q)) a n, none (a + 1) n (omega arith))

    most : (a n : ℕ) → sums (λ b. lies b 0 (Some q)) a n ≤ 1
    most a zero = omega arith
    most a (suc n) =
        let rest = most (a + 1) n in
        let both = sums_cons (λ b. lies b 0 (Some q)) a n in
        ⊎_elim
        (λ (e : q.block ≡ a). let l : lies a 0 (Some q) ≤ 1 = grind (arith, nat_tests) in omega (arith, none (a + 1) n (omega arith)))
        (λ (e : q.block ≡ a → ⊥). let l : lies a 0 (Some q) ≡ 0 = grind (arith, nat_tests) in omega arith)
        (cases_eq q.block a)

sums_add : (f h : ℕ → ℕ) (a n : ℕ) → sums (λ b. f b + h b) a n ≡ sums f a n + sums h a n
sums_add f h a zero = refl
sums_add f h a (suc n) = omega (arith, sums_cons (λ b. f b + h b) a n, sums_cons f a n, sums_cons h a n, sums_add f h (a + 1) n)

lying_all : (m : List (Option Place)) (a n : ℕ) → sums (λ b. lying m b 0) a n ≤ length m
lying_all [] a n = omega (arith, sums_none a n)
lying_all (o ∷ m) a n = omega (
  arith,
  sum_by-le-sum_by (λ b. lying (o ∷ m) b 0) (λ b. lies b 0 o + lying m b 0) (range_with_len a n) (λ b. omega (arith, sum_by-cons (lies b 0) o m)),
  sums_add (λ b. lies b 0 o) (λ b. lying m b 0) a n,
  lies_once o a n,
  lying_all m a n,
)

pub crowd : (s : State) (a n : ℕ) → sums (λ b. length (live_pages s b)) a n ≤ length s.places
crowd s a n = omega (arith, sum_by-le-sum_by (λ b. length (live_pages s b)) (λ b. lying s.places b 0) (range_with_len a n) (λ b. live_lies s.places b 0 _), lying_all s.places a n)

sums_each : (f : ℕ → ℕ) (p a n : ℕ) → ((x : ℕ) → a ≤ x → x < a + n → p ≤ f x) → n * p ≤ sums f a n
sums_each f p a zero h = omega arith
sums_each f p a (suc n) h = omega (arith, sums_cons f a n, sums_each f p (a + 1) n (λ x l u. h x (omega arith) (omega arith)), h a (omega arith) (omega arith))

-- p at each number but one
pub sums_but : (f : ℕ → ℕ) (p d a n : ℕ) → ((x : ℕ) → a ≤ x → x < a + n → (x ≡ d → ⊥) → p ≤ f x) → n * p ≤ sums f a n + p
sums_but f p d a zero h = omega arith
sums_but f p d a (suc n) h =
    let both = sums_cons f a n in
    ⊎_elim
    (λ (e : a ≡ d). omega (arith, sums_each f p (a + 1) n (λ x l u. h x (omega arith) (omega arith) (λ z. omega arith))))
    (λ e. omega (arith, sums_but f p d (a + 1) n (λ x l u ne. h x (omega arith) (omega arith) ne), h a (omega arith) (omega arith) e))
    (cases_eq a d)
