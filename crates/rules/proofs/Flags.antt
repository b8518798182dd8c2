-- The flags: how many are set, and the search for a clear one.
use Rattle.std.proofs.Common.{◌≡◌, ℕ, zero, suc, ◌+◌, ◌<◌, ◌≤◌, Bool, true, false, cond, eqb, ◌⊎◌, List, [], ◌∷◌, length, get_or, set, replicate, sym, refl, ap, ◌∙◌, inl, arith}
use Rattle.std.proofs.lemmas.List.{get_or_default}
use Rattle.std.proofs.lemmas.List.Sums.{sum_by-cons, sum_by-set, get_or-le-sum_by}
use Rattle.std.proofs.lemmas.List.Folds.{sum_by-replicate}
use Rattle.std.proofs.lemmas.Bool.{true≢false, cond_both, eqb-true, eqb-false}
use Rattle.std.proofs.lemmas.Bool.Decides.{nat_tests}
use Rattle.rules.specs.Levelling.{next, seek}
use Rattle.rules.specs.WellFormed.{ones}

abbrev count_of : Bool → ℕ
count_of b = cond b 1 0

pub ones_clear : (bs : List Bool) → ones bs < length bs → (j : ℕ) × (j < length bs) × (get_or bs j true ≡ false)
ones_clear [] h = absurd (omega arith)
ones_clear (true ∷ bs) h = let r = ones_clear bs (omega (arith, sum_by-cons count_of true bs)) in (suc r.0, omega (arith, r.1), r.2)
ones_clear (false ∷ bs) h = (0, omega arith, refl)

pub ones_set : (bs : List Bool) (i : ℕ) → i < length bs → ones (set bs i true) ≡ cond (get_or bs i true) (ones bs) (suc (ones bs))
ones_set bs i h = let e = sum_by-set count_of bs i true true h in grind arith

pub ones_some : (bs : List Bool) (i : ℕ) → i < length bs → get_or bs i true ≡ true → 1 ≤ ones bs
ones_some bs i h e = omega (arith, get_or-le-sum_by count_of bs i true h, ap count_of e)

pub ones_none : (k : ℕ) → ones (replicate k false) ≡ 0
ones_none k = sum_by-replicate count_of k false ∙ omega arith

abbrev Found : List Bool → ℕ → Type 0
Found fs x = (x < length fs) × (get_or fs x false ≡ false)

-- flag j is fewer than k moves ahead of flag i, or of them past the last flag
abbrev Ahead : ℕ → List Bool → ℕ → ℕ → Type 0
Ahead k fs i j = ((i ≤ j) × (j < i + k)) ⊎ ((j < i) × (length fs + j < i + k))

none_ahead : (fs : List Bool) (i j : ℕ) → i < length fs → Ahead 0 fs i j → ⊥
none_ahead fs i j l h = grind arith

-- a clear flag that is so far ahead is reached, or one before it
seek_finds : (k : ℕ) (fs : List Bool) (i j : ℕ) → i < length fs → j < length fs → get_or fs j false ≡ false → Ahead k fs i j → Found fs (seek k fs i)
seek_finds zero fs i j li lj e h = absurd (none_ahead fs i j li h)
seek_finds (suc k) fs i j li lj e h = cond_both (get_or fs i false) (seek k fs (next (length fs) i)) i (Found fs)
    (λ q. cond_both (eqb (suc i) (length fs)) 0 (suc i) (λ x. Found fs (seek k fs x))
    (λ z. seek_finds k fs 0 j (omega arith) lj e (inl (wrapped (eqb-true (suc i) (length fs) z) (apart q) h)))
    (λ z. let y = eqb-false (suc i) (length fs) z in seek_finds k fs (suc i) j (omega arith) lj e (stepped (apart q) h)))
    (λ q. (li, q))
  where
    apart : get_or fs i false ≡ true → i ≡ j → ⊥
    apart q z = true≢false (sym q ∙ ap (λ x. get_or fs x false) z ∙ e)

    wrapped : suc i ≡ length fs → (i ≡ j → ⊥) → Ahead (suc k) fs i j → (0 ≤ j) × (j < 0 + k)
    wrapped q ne h = (omega arith, grind arith)

    stepped : (i ≡ j → ⊥) → Ahead (suc k) fs i j → Ahead k fs (suc i) j
    stepped ne h = grind arith

-- where a flag is clear, as many moves as there are sets reach one
pub seek_clear : (bs : List Bool) (i : ℕ) → i < length bs → ones bs < length bs → (seek (length bs) bs i < length bs) × (get_or bs (seek (length bs) bs i) true ≡ false)
seek_clear bs i li h =
    let at = ones_clear bs h in
    let j = at.0 in
    let f = seek_finds (length bs) bs i j li at.1 (sym (get_or_default bs j true false at.1) ∙ at.2) (let lt = at.1 in grind arith) in
    (f.0, get_or_default bs (seek (length bs) bs i) true false f.0 ∙ f.1)

pub next_below : (n i : ℕ) → i < n → next n i < n
next_below n i h = grind (arith, nat_tests)
