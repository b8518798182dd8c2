-- An accepted write on a well-formed leveller: all that it keeps.
use Rattle.std.proofs.Common.{◌≡◌, ℕ, suc, ◌-◌, ◌*◌, ◌%◌, ◌<◌, ◌≤◌, true, false, ◌&&◌, eqb, leb, List, [], ◌∷◌, length, get_or, ⊎_elim, Some, sym, refl, ap, ◌∙◌, subst, arith, rules}
use Rattle.std.proofs.lemmas.List.{get_or_past}
use Rattle.std.proofs.lemmas.List.Elements.{All-nil, All-from_get_or}
use Rattle.std.proofs.lemmas.Bool.{cases_lt}
use Rattle.orders.specs.declared.block.BlockRecord.{BlockRecord}
use Rattle.flash.specs.Limits.{between, within}
use Rattle.flash.specs.Meaning.{Flash, Page, Block, PageFits, block, no_block, no_page, page_of, WellFormed as ChipFits}
use Rattle.rules.specs.declared.Settings.{Settings}
use Rattle.rules.specs.declared.Use.TheVariants.{Free, Closed}
use Rattle.rules.specs.Tables.{Tables, State, set_size, begin, tables_of}
use Rattle.rules.specs.Blocks.{BlockOrder, blocks_in, live_pages, records, first}
use Rattle.rules.specs.Steps.{close_open, make_room}
use Rattle.rules.specs.Levelling.{even, level_in, level}
use Rattle.rules.specs.Calls.{is_worn, writing}
use Rattle.rules.specs.Obeyed.{obeyed}
use Rattle.rules.specs.WellFormed.{Fitting, WellFormed}
use Rattle.rules.specs.Laws.{VictimOrder, before_levelling, times_erased}
use Rattle.rules.proofs.StateFacts.{counted, Ready, Between, OneOpen}
use Rattle.rules.proofs.Ends.{Levelled, levelled_write, between_even, level_more}
use Rattle.rules.proofs.Writes.{writes}
use Rattle.rules.proofs.Mapped.{Holding}
use Rattle.rules.proofs.Stable.{keeps_make_room, keeps_store}
use Rattle.rules.proofs.Runs.{Shaped, own_shape, shape, runs_obeyed, runs_times}
use Rattle.rules.proofs.PagesFit.{Good, PagesFit}
use Rattle.rules.proofs.Room.{fit_write, gains, fit_close, close_places}
use Rattle.rules.proofs.Opened.{closes_open, held_write}
use Rattle.rules.proofs.Once.{grows}
use Rattle.rules.proofs.Booked.{Booked, booked_stable, booked_level}
use Rattle.rules.proofs.Fits.{InNumbers, in_numbers, not_worn}

-- what a step's proofs ask of the beginning of a call
module _ (x : Tables) (f : Flash) (k : WellFormed x f) where
  pub begin_ready : Ready x.settings (length f.blocks) (length x.meter.flags) (begin x f)
  begin_ready = search rules

  pub begin_booked : Booked x.settings.logical (length f.blocks) (begin x f)
  begin_booked = search rules

  pub begin_holding : Holding (begin x f)
  begin_holding = search rules

  pub begin_fits : ChipFits f → PagesFit f (begin x f)
  begin_fits c = record {
    chips = refl;
    tables = k.uses_each;
    good = λ b. ⊎_elim
        (λ l. ((c.each b l).filled, All-from_get_or (PageFits f.d) (block f b).pages no_page (c.each b l).each))
        (λ l. subst (λ (y : Block). Good f y.pages) (sym (get_or_past f.blocks b no_block l)) (omega arith, All-nil (PageFits f.d)))
        (cases_lt b (length f.blocks));
    blanks = k.free_blank;
    runs = refl;
  }

-- a whole write
pub record Wrote (x : Tables) (f : Flash) (t : State) : Type 0 where
  pub ready : Ready x.settings (length f.blocks) (length x.meter.flags) t
  pub between : Between x.settings t.meter
  pub fit : PagesFit f t
  pub one : OneOpen t
  pub holding : Holding t
  pub booked : Booked x.settings.logical (length f.blocks) t
  pub most : (b : ℕ) → ((block f b).count ≤ counted t b) × (counted t b ≤ suc (block f b).count)

module _ (r : BlockOrder) (x : Tables) (f : Flash) (k : WellFormed x f) (t : ℕ) (bytes : List ℕ) where
  abbrev n : ℕ
  n = length f.blocks

  abbrev m : ℕ
  m = length x.meter.flags

  abbrev q : Page
  q = page_of t bytes

  level_is : level x.settings (before_levelling r x f t bytes) ≡ level_in (suc m) x.settings (before_levelling r x f t bytes)
  unfolding level
  level_is = ap (λ k. level_in (suc k) x.settings (before_levelling r x f t bytes)) (writes x.settings n m r q (begin x f) (begin_ready x f k)).ready.sized.flagged

  ended : Levelled x.settings n m (level_in (suc m) x.settings (before_levelling r x f t bytes))
  ended = levelled_write x.settings n m r q (begin x f) (begin_ready x f k) k.levelled

  pub ends : (even x.settings (level x.settings (before_levelling r x f t bytes)).meter ≡ true)
      × ((turns : ℕ) → suc (length (before_levelling r x f t bytes).meter.flags) ≤ turns → level_in turns x.settings (before_levelling r x f t bytes) ≡ level x.settings (before_levelling r x f t bytes))
  ends =
      let e = between_even x.settings (level_in (suc m) x.settings (before_levelling r x f t bytes)).meter ended.between in
      let flags = (writes x.settings n m r q (begin x f) (begin_ready x f k)).ready.sized.flagged in (
        ap (λ (s : State). even x.settings s.meter) level_is ∙ e,
        λ turns l. level_more x.settings (suc m) turns (before_levelling r x f t bytes) (omega (arith, flags)) e ∙ sym level_is,
      )

  module _ (vo : VictimOrder r) (c : ChipFits f) (tl : t < x.settings.logical) (bl : length bytes ≡ f.d) where
    num : InNumbers x.settings f
    num = in_numbers x.settings f k.fitting

    roomed : Booked x.settings.logical n (make_room x.settings r (begin x f))
    roomed = keeps_make_room x.settings (Booked x.settings.logical n) (booked_stable x.settings x.settings.logical n) r (begin x f) (begin_booked x f k)

    in_level : Wrote x f (level_in (suc m) x.settings (before_levelling r x f t bytes))
    in_level =
        let held = held_write x.settings n m (suc m) r q (begin x f) num.two_blocks (omega (arith, tl, roomed.mapped)) (begin_ready x f k) k.one_open (begin_holding x f k) in
        record {
          ready = ended.ready;
          between = ended.between;
          fit = fit_write x.settings f num.some_pages num.few_pages num.room r vo (suc m) q (begin x f)
              (record { tagged = omega (arith, tl, num.tags); sized = bl }) k.places_each k.one_open (begin_fits x f k c);
          one = held.0;
          holding = held.1;
          booked = booked_level x.settings x.settings.logical n num.threshold (suc m) _ (keeps_store x.settings (Booked x.settings.logical n) (booked_stable x.settings x.settings.logical n) q _ roomed);
          most = grows x.settings n m (suc m) r q (begin x f) (begin_ready x f k);
        }

    pub wrote : Wrote x f (writing x.settings r t bytes (begin x f))
    unfolding writing
    wrote = subst (Wrote x f) (sym level_is) in_level

-- the same settings fit a chip of the same shape
fitting_shaped : (g : Settings) (f h : Flash) → Shaped f h → Fitting g f → Fitting g h
fitting_shaped g f h s q = record {
  sizes = ap within (λ i. record { blocks = s.blocks_are i; pages = s.p_is i; size = s.d_is i; rated = s.e_is i }) ∙ q.sizes;
  sets = ap (λ n. leb g.k 8 && eqb (n % set_size g) 0) s.blocks_are ∙ q.sets;
  threshold = q.threshold;
  logical = ap (λ n. between 1 g.logical ((n - 1) * h.p - 1)) s.blocks_are ∙ ap (λ p. between 1 g.logical ((length f.blocks - 1) * p - 1)) s.p_is ∙ q.logical;
}

module _ (x : Tables) (f : Flash) (k : WellFormed x f) (c : ChipFits f) (t : State) (w : Wrote x f t) where
  shaped : Shaped f t.chip
  shaped = shape t.log f t.chip w.fit.runs

  pub wrote_well : WellFormed (tables_of x.settings t) t.chip
  wrote_well = record {
    fitting = fitting_shaped x.settings f t.chip shaped k.fitting;
    uses_each = w.fit.tables ∙ sym w.fit.chips;
    marks_each = w.booked.marked ∙ sym w.fit.chips;
    places_each = w.booked.mapped;
    flags_each = w.fit.chips ∙ k.flags_each ∙ ap (λ n. n * set_size x.settings) (sym w.ready.sized.flagged);
    named = w.holding.valid;
    free_blank = w.fit.blanks;
    some_free = w.ready.some;
    one_open = w.one;
    flags_counted = w.ready.marked;
    levelled = w.between;
    findex_below = omega (arith, w.ready.seeking, w.ready.sized.flagged);
    free_flagged = λ pos b l. w.ready.freed pos b (omega (arith, w.fit.chips));
    marks_past = w.booked.past;
    rounds_paid = w.booked.paid;
  }

  pub wrote_fits : is_worn f ≡ false → ChipFits t.chip
  wrote_fits nw = record {
    few = omega (arith, c.few, w.fit.chips);
    each = λ b l. (let l' : b < length f.blocks = omega (arith, w.fit.chips) in
        record {
          worn = omega (arith, (w.most b).1, not_worn f c nw b l', shaped.e_is);
          filled = omega (arith, (w.fit.good b).0, shaped.p_is);
          each = λ i q. subst (λ d. PageFits d (get_or (block t.chip b).pages i no_page)) (sym shaped.d_is) ((w.fit.good b).1 i no_page q);
        });
  }

  pub wrote_obeyed : is_worn f ≡ false → obeyed t.log f ≡ Some t.chip
  wrote_obeyed nw = runs_obeyed f (λ b. (block f b).count) (not_worn f c nw) t.log f t.chip (own_shape f) w.fit.runs (λ b. omega arith) (λ b. (w.most b).1)

  pub wrote_once : (b : ℕ) → times_erased b t.log ≤ 1
  wrote_once b = omega (arith, runs_times f t.log f t.chip refl w.fit.runs b, (w.most b).1)

-- a cleaning gains
pub cleaning : (r : BlockOrder) → VictimOrder r → (x : Tables) (f : Flash) → ChipFits f → WellFormed x f → (d : ℕ) → blocks_in Free (close_open (begin x f)) ≡ d ∷ []
    → (v : BlockRecord) × (first r (records Closed (close_open (begin x f))) ≡ Some v) × (length (live_pages (close_open (begin x f)) v.number) < f.p)
cleaning r vo x f c k d e =
    let s = begin x f in
    let num = in_numbers x.settings f k.fitting in
    gains x.settings f num.some_pages num.few_pages num.room r vo (close_open s) (fit_close f s (begin_fits x f k c)) (close_places s ∙ k.places_each) (closes_open s k.one_open) num.two_blocks d e
