-- Every call on a sound leveller, refused or not.
use Rattle.std.proofs.Common.{◌≡◌, ℕ, zero, suc, ◌*◌, ◌/◌, ◌<◌, ◌≤◌, Bool, false, not, eqb, List, [], length, get_or, replicate, IfSome, Some, None, Ok, Option, sym, refl, ap, ◌∙◌, inl, arith, rules}
use Rattle.std.proofs.lemmas.List.{length-replicate, get_or-replicate, get_or_past}
use Rattle.std.proofs.lemmas.Bool.Decides.{nat_tests}
use Rattle.flash.specs.Meaning.{Flash, block, page}
use Rattle.rules.specs.declared.Settings.{Settings}
use Rattle.rules.specs.declared.Place.{Place}
use Rattle.rules.specs.declared.Use.TheVariants.{Free}
use Rattle.rules.specs.declared.Written.{Written}
use Rattle.rules.specs.declared.Refusal.{Refusal}
use Rattle.rules.specs.declared.Refusal.TheVariants.{NotStarted}
use Rattle.rules.specs.Tables.{Tables, State, Leveller, Outcome, begin, left, set_size}
use Rattle.rules.specs.Blocks.{BlockOrder}
use Rattle.rules.specs.Calls.{refusal, refused, unless, has_written, is_worn, start_checks, write_checks, read_checks, discard_checks, fresh_tables, forgotten, writing, write_done, read_at, start, write, read, discard}
use Rattle.rules.specs.WellFormed.{Fitting, WellFormed, Sound}
use Rattle.rules.specs.Obeyed.{obeyed}
use Rattle.rules.specs.Laws.{VictimOrder, times_erased, NewSound, CleaningGains, StartKeeps, WriteKeeps, ReadKeeps, DiscardKeeps, WriteObeyed, WriteOnce, SearchEnds, LevellingEnds}
use Rattle.rules.proofs.Flags.{seek_clear, ones_none}
use Rattle.rules.proofs.AfterSet.{set_by}
use Rattle.rules.proofs.Fits.{in_numbers, sets_whole, none_passes}
use Rattle.rules.proofs.Wrote.{Wrote, wrote, ends, wrote_well, wrote_fits, wrote_obeyed, wrote_once, cleaning}

-- an outcome is either the refusal or what is done where no check is true
unless_by : {T : Type 0} (P : Outcome T → Type 0) (cs : List (Bool × Refusal)) (l : Leveller) (buffer : List ℕ) (done : Outcome T)
    → ((e : Refusal) → P (refused e l buffer)) → (refusal cs ≡ None → P done) → P (unless cs l buffer done)
unless_by {T} P cs l buffer done refuse accept = go (refusal cs) refl
  where
    go : (o : Option Refusal) → refusal cs ≡ o → P (elim o [ None ↦ done | Some e ↦ refused e l buffer ])
    go None h = accept h
    go (Some e) h = refuse e

-- the same of a call that asks for a started leveller
started_by : {T : Type 0} (P : Outcome T → Type 0) (cs : Tables → List (Bool × Refusal)) (l : Leveller) (buffer : List ℕ) (done : Tables → Outcome T) → Sound l
    → ((e : Refusal) → P (refused e l buffer)) → ((x : Tables) → WellFormed x l.chip → refusal (cs x) ≡ None → P (done x)) → P (elim l.tables [ None ↦ refused NotStarted l buffer | Some x ↦ unless (cs x) l buffer (done x) ])
started_by P cs l buffer done h refuse accept = go l.tables h.kept
  where
    go : (o : Option Tables) → IfSome o (λ x. WellFormed x l.chip) → P (elim o [ None ↦ refused NotStarted l buffer | Some x ↦ unless (cs x) l buffer (done x) ])
    go None k = refuse NotStarted
    go (Some x) k = unless_by P (cs x) l buffer (done x) refuse (accept x k)

-- a write is refused, or done with all that it keeps
write_by : (P : Outcome Written → Type 0) (r : BlockOrder) → VictimOrder r → (l : Leveller) (t : ℕ) (bytes : List ℕ) → Sound l → ((e : Refusal) → P (refused e l bytes))
    → ((x : Tables) (k : WellFormed x l.chip) (s : State) → is_worn l.chip ≡ false → Wrote x l.chip s → P (write_done x.settings bytes s)) → P (write r l t bytes)
unfolding write
write_by P r vo l t bytes h refuse accept =
    started_by P (λ x. write_checks x.settings l.chip t bytes) l bytes (λ x. write_done x.settings bytes (writing x.settings r t bytes (begin x l.chip))) h refuse
    (λ x k q.
    let worn : is_worn l.chip ≡ false = grind (arith, nat_tests) in
    let below : t < x.settings.logical = grind (arith, nat_tests) in
    let long : length bytes ≡ l.chip.d = grind (arith, nat_tests) in
    accept x k _ worn (wrote r x l.chip k t bytes vo h.chip_fits below long))

pub write_keeps : WriteKeeps
write_keeps r vo l t bytes h = write_by (λ o. Sound (left o)) r vo l t bytes h (λ e. h) (λ x k s nw w. record { chip_fits = wrote_fits x l.chip k h.chip_fits s w nw; kept = wrote_well x l.chip k h.chip_fits s w })

pub write_obeyed : WriteObeyed
write_obeyed r vo l t bytes h = write_by (λ o. obeyed o.operations l.chip ≡ Some o.chip) r vo l t bytes h (λ e. refl) (λ x k s nw w. wrote_obeyed x l.chip k h.chip_fits s w nw)

pub write_once : WriteOnce
write_once r vo l t bytes h b = write_by (λ o. times_erased b o.operations ≤ 1) r vo l t bytes h (λ e. omega arith) (λ x k s nw w. wrote_once x l.chip k h.chip_fits s w b)

pub cleaning_gains : CleaningGains
cleaning_gains = cleaning

-- read
pub read_keeps : ReadKeeps
unfolding read
read_keeps l t buffer h = started_by (λ o. Sound (left o)) (λ x. read_checks x.settings l.chip t buffer) l buffer (λ x. read_at l buffer (get_or x.places t None)) h (λ e. h) (λ x k q. at (get_or x.places t None))
  where
    at : (o : Option Place) → Sound (left (read_at l buffer o))
    at None = h
    at (Some q) = h

-- discard: the map names less
forgotten_well : (x : Tables) (f : Flash) (t : ℕ) → WellFormed x f → WellFormed (forgotten t x) f
forgotten_well x f t k =
    let named = λ (u b i : ℕ). set_by (λ o. o ≡ Some (record { block = b; page = i }) → (i < length (block f b).pages) × ((page f b i).tag ≡ u)) x.places t u None None (λ _ q. absurd (cc)) (k.named u b i) in
    search rules

pub discard_keeps : DiscardKeeps
unfolding discard
discard_keeps l t h = started_by (λ o. Sound (left o)) (λ x. discard_checks x t) l [] (λ x. record { answer = Ok tt; tables = Some (forgotten t x); chip = l.chip; buffer = []; operations = [] }) h (λ e. h)
    (λ x k q. record { chip_fits = h.chip_fits; kept = forgotten_well x l.chip t k })

-- a new leveller
pub new_sound : NewSound
new_sound f c = record { chip_fits = c; kept = tt }

-- start
replicate_at : {X : Type 0} (n b : ℕ) (v : X) → get_or (replicate n v) b v ≡ v
replicate_at n b v = grind (arith, get_or-replicate, get_or_past, length-replicate)

blank_blocks : (f : Flash) → has_written f ≡ false → (b : ℕ) → length (block f b).pages ≡ 0
blank_blocks f h b =
    let none = none_passes (λ x. not (eqb (length x.pages) 0)) f.blocks h b in
    grind (arith, nat_tests, none, get_or_past)

start_well : (f : Flash) (g : Settings) → Fitting g f → has_written f ≡ false → WellFormed (fresh_tables f g) f
start_well f g fit blank =
    let num = in_numbers g f fit in
    let n = length f.blocks in
    let whole = sets_whole g f fit.sets in
    record {
      fitting = fit;
      uses_each = length-replicate n Free;
      marks_each = length-replicate n 0;
      places_each = length-replicate g.logical None;
      flags_each = whole ∙ ap (λ k. k * set_size g) (sym (length-replicate (n / set_size g) false));
      named = λ t b i q. (let e = sym (replicate_at g.logical t None) ∙ q in absurd (cc));
      free_blank = λ b q. blank_blocks f blank b;
      some_free = (0, omega (arith, length-replicate n Free, num.two_blocks), replicate_at n 0 Free);
      one_open = λ b c q p. (let e = sym (replicate_at n b Free) ∙ q in absurd (cc));
      flags_counted = ones_none (n / set_size g);
      levelled = inl (refl, refl);
      findex_below = sets_some (n / set_size g) (set_size g) whole num.two_blocks;
      free_flagged = λ pos. absurd (omega (arith, pos));
      marks_past = λ b. omega (arith, replicate_at {X = ℕ} n b 0);
      rounds_paid = omega arith;
    }
  where
    sets_some : (s w : ℕ) → length f.blocks ≡ s * w → 2 ≤ length f.blocks → 0 < length (replicate s false)
    sets_some zero w e two = absurd (omega arith)
    sets_some (suc s) w e two = omega arith

pub start_keeps : StartKeeps
unfolding start
start_keeps l g h = unless_by (λ o. Sound (left o)) (start_checks l g) l [] (record { answer = Ok tt; tables = Some (fresh_tables l.chip g); chip = l.chip; buffer = []; operations = [] }) (λ e. h)
    (λ q.
    let fit : Fitting g l.chip = record { sizes = grind arith; sets = grind arith; threshold = grind arith; logical = grind arith } in
    let blank : has_written l.chip ≡ false = grind arith in
    record { chip_fits = h.chip_fits; kept = start_well l.chip g fit blank })

pub search_ends : SearchEnds
search_ends m l h = seek_clear m.flags m.findex l h

pub levelling_ends : LevellingEnds
levelling_ends r x f t bytes k = ends r x f k t bytes
