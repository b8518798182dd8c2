-- An element of a list after a write is the one written, or as it was.
use Rattle.std.proofs.Common.{◌≡◌, ℕ, ◌<◌, true, List, length, get_or, set, ⊎_elim, subst, sym, ap, ◌∙◌}
use Rattle.std.proofs.lemmas.List.{get_or-set_same, get_or-set_other, set_past}
use Rattle.std.proofs.lemmas.Bool.{true≢false, cases_eq, cases_lt}
use Rattle.rules.specs.declared.Use.{Use}
use Rattle.rules.specs.declared.Use.TheVariants.{Free}
use Rattle.rules.specs.WellFormed.{busy}

pub set_cases : {X : Type 0} (P : X → Type 0) (xs : List X) (i j : ℕ) (y d : X) → i < length xs → (j ≡ i → P y) → ((j ≡ i → ⊥) → P (get_or xs j d)) → P (get_or (set xs i y) j d)
set_cases P xs i j y d l here other = ⊎_elim
    (λ e. subst P (sym (ap (λ k. get_or (set xs i y) k d) e ∙ get_or-set_same xs i y d l)) (here e))
    (λ n. subst P (sym (get_or-set_other xs i j y d n)) (other n))
    (cases_eq j i)

-- the same of any index
pub set_by : {X : Type 0} (P : X → Type 0) (xs : List X) (i j : ℕ) (y d : X) → (j ≡ i → P y) → P (get_or xs j d) → P (get_or (set xs i y) j d)
set_by P xs i j y d here before = ⊎_elim
    (λ l. set_cases P xs i j y d l here (λ _. before))
    (λ l. subst P (ap (λ zs. get_or zs j d) (sym (set_past xs i y l))) before)
    (cases_lt i (length xs))

pub set_free : (us : List Use) (d x : ℕ) (u : Use) → busy u ≡ true → get_or (set us d u) x Free ≡ Free → get_or us x Free ≡ Free
set_free us d x u h = set_by (λ v. v ≡ Free → get_or us x Free ≡ Free) us d x u Free (λ _ e. absurd (true≢false (sym h ∙ ap busy e))) (λ e. e)
