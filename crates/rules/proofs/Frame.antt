-- What copies leave as it is, and what a move changes.
use Rattle.std.proofs.Common.{◌≡◌, ℕ, ◌/◌, List, [], ◌∷◌, length, get_or, set, sym, refl, ap, ◌∙◌, subst, ◌<◌, arith}
use Rattle.std.proofs.lemmas.List.{length-set}
use Rattle.flash.specs.Meaning.{Page, Block, no_block}
use Rattle.rules.specs.declared.Settings.{Settings}
use Rattle.rules.specs.declared.Use.{Use}
use Rattle.rules.specs.declared.Use.TheVariants.{Free}
use Rattle.rules.specs.Tables.{State, set_size}
use Rattle.rules.specs.Blocks.{use_of, live_pages}
use Rattle.rules.specs.Steps.{use_block, program_page, count_erase, erase_block, copy, move}
use Rattle.rules.proofs.StateFacts.{counted}
use Rattle.rules.proofs.AfterSet.{set_by, set_cases}

pub program_counted : (d : ℕ) (q : Page) (s : State) (x : ℕ) → counted (program_page d q s) x ≡ counted s x
unfolding program_page
program_counted d q s x = set_by (λ (c : Block). c.count ≡ counted s x) s.chip.blocks d x _ no_block (λ e. ap (counted s) (sym e)) refl

pub program_blocks : (d : ℕ) (q : Page) (s : State) → length (program_page d q s).chip.blocks ≡ length s.chip.blocks
unfolding program_page
program_blocks d q s = length-set s.chip.blocks d _

copy_keeps : {X : Type 0} (f : State → X) → ((d : ℕ) (q : Page) (s : State) → f (program_page d q s) ≡ f s) → (d : ℕ) (qs : List Page) (s : State) → f (copy d qs s) ≡ f s
unfolding copy
copy_keeps f h d [] s = refl
copy_keeps f h d (q ∷ qs) s = copy_keeps f h d qs (program_page d q s) ∙ h d q s

pub copy_uses : (d : ℕ) (qs : List Page) (s : State) → (copy d qs s).uses ≡ s.uses
copy_uses = copy_keeps (λ (s : State). s.uses) (λ d q s. unfold program_page in refl)

pub copy_meter : (d : ℕ) (qs : List Page) (s : State) → (copy d qs s).meter ≡ s.meter
copy_meter = copy_keeps (λ (s : State). s.meter) (λ d q s. unfold program_page in refl)

pub copy_counted : (d : ℕ) (qs : List Page) (s : State) (x : ℕ) → counted (copy d qs s) x ≡ counted s x
copy_counted d qs s x = copy_keeps (λ s. counted s x) (λ d q s. program_counted d q s x) d qs s

pub copy_blocks : (d : ℕ) (qs : List Page) (s : State) → length (copy d qs s).chip.blocks ≡ length s.chip.blocks
copy_blocks = copy_keeps (λ (s : State). length s.chip.blocks) program_blocks

pub move_uses : (g : Settings) (b d : ℕ) (u : Use) (s : State) → (move g b d u s).uses ≡ set (set s.uses b Free) d u
unfolding move use_block erase_block
move_uses g b d u s = ap (λ us. set (set us b Free) d u) (copy_uses d (live_pages s b) s)

-- the use of each block after a move
pub moved_use : (P : Use → Type 0) (g : Settings) (b d : ℕ) (u : Use) (s : State) (x : ℕ) → b < length s.uses → d < length s.uses
    → (x ≡ d → P u) → ((x ≡ d → ⊥) → x ≡ b → P Free) → ((x ≡ d → ⊥) → (x ≡ b → ⊥) → P (use_of s x)) → P (use_of (move g b d u s) x)
moved_use P g b d u s x lb ld there here other = subst (λ us. P (get_or us x Free)) (sym (move_uses g b d u s))
    (set_cases P (set s.uses b Free) d x u Free (omega (arith, length-set s.uses b Free)) there (λ ne. set_cases P s.uses b x Free Free lb (here ne) (other ne)))

-- the same of any d
pub moved_by : (P : Use → Type 0) (g : Settings) (b d : ℕ) (u : Use) (s : State) (x : ℕ) → b < length s.uses → (x ≡ d → P u) → (x ≡ b → P Free) → ((x ≡ b → ⊥) → P (use_of s x)) → P (use_of (move g b d u s) x)
moved_by P g b d u s x lb there here other = subst (λ us. P (get_or us x Free)) (sym (move_uses g b d u s)) (set_by P (set s.uses b Free) d x u Free there (set_cases P s.uses b x Free Free lb here other))

pub move_long : (g : Settings) (b d : ℕ) (u : Use) (s : State) → length (move g b d u s).uses ≡ length s.uses
move_long g b d u s = ap length (move_uses g b d u s) ∙ length-set (set s.uses b Free) d u ∙ length-set s.uses b Free

pub move_meter : (g : Settings) (b d : ℕ) (u : Use) (s : State) → (move g b d u s).meter ≡ count_erase (b / set_size g) s.meter
unfolding move use_block erase_block
move_meter g b d u s = ap (count_erase (b / set_size g)) (copy_meter d (live_pages s b) s)
