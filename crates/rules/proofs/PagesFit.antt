-- Blocks hold no more than they can, free ones nothing, and what was done fits: kept by moves and by levelling.
use Rattle.std.proofs.Common.{◌≡◌, ℕ, suc, ◌+◌, ◌<◌, ◌≤◌, true, List, [], ◌∷◌, length, get_or, All, None, Option, sym, refl, ap, ◌∙◌, arith, rules}
use Rattle.std.proofs.lemmas.List.{length-set, get_or-set_other, length_push}
use Rattle.std.proofs.lemmas.List.Elements.{All-nil, All-cons, All-head, All-tail, All-push}
use Rattle.std.proofs.lemmas.Bool.{true≢false, cond_both}
use Rattle.flash.specs.Meaning.{Flash, Page, PageFits, Block, program, erase, no_block}
use Rattle.rules.specs.declared.Settings.{Settings}
use Rattle.rules.specs.declared.Place.{Place}
use Rattle.rules.specs.declared.Use.{Use}
use Rattle.rules.specs.declared.Use.TheVariants.{Free}
use Rattle.rules.specs.Tables.{State}
use Rattle.rules.specs.Blocks.{use_of, names, live_from, live_pages}
use Rattle.rules.specs.Steps.{use_block, program_page, erase_block, copy, move}
use Rattle.rules.specs.Levelling.{turn_to, end_round, level_in}
use Rattle.rules.specs.WellFormed.{busy}
use Rattle.rules.proofs.StateFacts.{held, Busy}
use Rattle.rules.proofs.AfterSet.{set_by, set_cases, set_free}
use Rattle.rules.proofs.InUse.{busy_below, busy_not_free}
use Rattle.rules.proofs.Frame.{moved_use, move_long}
use Rattle.rules.proofs.Stable.{Settled, settle_level}
use Rattle.rules.proofs.Copies.{pages_same, pages_other}
use Rattle.rules.proofs.Runs.{Runs, runs_push}

-- P pages at most, each of D bytes and with a tag that fits
abbrev pub Good : Flash → List Page → Type 0
Good was ps = (length ps ≤ was.p) × All (PageFits was.d) ps

-- was is the chip as the log began
pub record PagesFit (was : Flash) (s : State) : Type 0 where
  pub chips : length s.chip.blocks ≡ length was.blocks
  pub tables : length s.uses ≡ length was.blocks
  pub good : (b : ℕ) → Good was (held s b).pages
  pub blanks : (b : ℕ) → use_of s b ≡ Free → length (held s b).pages ≡ 0
  pub runs : Runs was s.log was s.chip

live_all : (P : Page → Type 0) (m : List (Option Place)) (b i : ℕ) (ps : List Page) → All P ps → All P (live_from m b i ps)
live_all P m b i [] h = h
live_all P m b i (q ∷ qs) h =
    let rest = live_all P m b (suc i) qs (All-tail P q qs h) in
    cond_both (names (get_or m q.tag None) b i) (q ∷ live_from m b (suc i) qs) (live_from m b (suc i) qs) (All P) (λ _. All-cons P q _ (All-head P q qs h) rest) (λ _. rest)

live_from_short : (m : List (Option Place)) (b i : ℕ) (ps : List Page) → length (live_from m b i ps) ≤ length ps
live_from_short m b i [] = omega arith
live_from_short m b i (q ∷ qs) =
    let rest = live_from_short m b (suc i) qs in
    cond_both (names (get_or m q.tag None) b i) (q ∷ live_from m b (suc i) qs) (live_from m b (suc i) qs) (λ ps. length ps ≤ suc (length qs)) (λ _. omega arith) (λ _. omega arith)

pub live_short : (s : State) (b : ℕ) → length (live_pages s b) ≤ length (held s b).pages
live_short s b = live_from_short s.places b 0 (held s b).pages

module _ (was : Flash) where
  -- pages that go to block c, up to k of them there
  pub record Filled (c k : ℕ) (s t : State) : Type 0 where
    pub chips : length t.chip.blocks ≡ length was.blocks
    pub good : (b : ℕ) → Good was (held t b).pages
    pub runs : Runs was t.log was t.chip
    pub there : length (held t c).pages ≡ k
    pub elsewhere : (b : ℕ) → (b ≡ c → ⊥) → (held t b).pages ≡ (held s b).pages

  pub fill_one : (c : ℕ) (q : Page) (s : State) → c < length was.blocks → length s.chip.blocks ≡ length was.blocks → ((b : ℕ) → Good was (held s b).pages) → Runs was s.log was s.chip
      → PageFits was.d q → length (held s c).pages < was.p → Filled c (suc (length (held s c).pages)) s (program_page c q s)
  unfolding program_page
  fill_one c q s lc ch gd rn lq room =
      let push = length_push (held s c).pages q in
      record {
        chips = length-set s.chip.blocks c _ ∙ ch;
        good = λ b. set_by (λ (x : Block). Good was x.pages) s.chip.blocks c b _ no_block (λ _. (omega arith, All-push (PageFits was.d) (held s c).pages q (gd c).1 lq)) (gd b);
        runs = runs_push was s.log (program c q) was s.chip rn (lc, room, lq.sized);
        there = ap length (pages_same c q s (omega arith)) ∙ omega arith;
        elsewhere = pages_other c q s (omega arith);
      }

  fill : (c : ℕ) (qs : List Page) (s : State) → c < length was.blocks → length s.chip.blocks ≡ length was.blocks → ((b : ℕ) → Good was (held s b).pages) → Runs was s.log was s.chip
      → All (PageFits was.d) qs → length (held s c).pages + length qs ≤ was.p → Filled c (length (held s c).pages + length qs) s (copy c qs s)
  unfolding copy
  fill c [] s lc ch gd rn lq room = record { chips = ch; good = gd; runs = rn; there = omega arith; elsewhere = λ b ne. refl }
  fill c (q ∷ qs) s lc ch gd rn lq room =
      let f = fill_one c q s lc ch gd rn (All-head (PageFits was.d) q qs lq) (omega arith) in
      let r = fill c qs (program_page c q s) lc f.chips f.good f.runs (All-tail (PageFits was.d) q qs lq) (omega (arith, f.there)) in
      record { chips = r.chips; good = r.good; runs = r.runs; there = r.there ∙ omega (arith, f.there); elsewhere = λ b ne. r.elsewhere b ne ∙ f.elsewhere b ne }

  pub fit_put : (b : ℕ) (u : Use) (s : State) → busy u ≡ true → PagesFit was s → PagesFit was (use_block b u s)
  unfolding use_block
  fit_put b u s hu h = search (rules, set_free)

  module _ (g : Settings) where
    kept_pages : (b : ℕ) (s : State) (x : ℕ) → (x ≡ b → ⊥) → (held (erase_block g b s) x).pages ≡ (held s x).pages
    unfolding erase_block
    kept_pages b s x ne = ap (λ (c : Block). c.pages) (get_or-set_other s.chip.blocks b x _ no_block ne)

    erased_good : (b : ℕ) (s : State) → ((x : ℕ) → Good was (held s x).pages) → (x : ℕ) → Good was (held (erase_block g b s) x).pages
    unfolding erase_block
    erased_good b s gd x = set_by (λ (c : Block). Good was c.pages) s.chip.blocks b x _ no_block (λ _. (omega arith, All-nil (PageFits was.d))) (gd x)

    -- a block after the erase of b is blank, if it is b or was blank
    erased_blank : (b : ℕ) (s : State) (x : ℕ) → b < length s.chip.blocks → ((x ≡ b → ⊥) → length (held s x).pages ≡ 0) → length (held (erase_block g b s) x).pages ≡ 0
    unfolding erase_block
    erased_blank b s x l = set_cases (λ (c : Block). length c.pages ≡ 0) s.chip.blocks b x _ no_block l (λ _. refl)

    pub fit_dead : (b : ℕ) (s : State) → Busy s b → PagesFit was s → PagesFit was (erase_block g b s)
    fit_dead b s hb h = record {
      chips = unfold erase_block in (length-set s.chip.blocks b _ ∙ h.chips);
      tables = unfold erase_block in (length-set s.uses b Free ∙ h.tables);
      good = erased_good b s h.good;
      blanks = λ x f. erased_blank b s x (omega (arith, ln, h.chips)) (λ e. h.blanks x (unfold erase_block in (sym (get_or-set_other s.uses b x Free Free e) ∙ f)));
      runs = unfold erase_block in runs_push was s.log (erase b) was s.chip h.runs ln;
    }
      where
        ln : b < length was.blocks
        ln = omega (arith, busy_below s b hb, h.tables)

    -- the destination is free, and gets as many pages as are live
    pub fit_move : (b c : ℕ) (u : Use) (s : State) → Busy s b → busy u ≡ true → c < length s.uses → use_of s c ≡ Free → PagesFit was s
        → PagesFit was (move g b c u s) × (length (held (move g b c u s) c).pages ≡ length (live_pages s b))
    fit_move b c u s hb hu lc hc h = (
      record {
        chips = unfold move use_block erase_block in (length-set t.chip.blocks b _ ∙ fl.chips);
        tables = move_long g b c u s ∙ h.tables;
        good = unfold move use_block in erased_good b t fl.good;
        blanks = λ x f. unfold move use_block in erased_blank b t x bc (blank_at x f);
        runs = unfold move use_block erase_block in runs_push was t.log (erase b) was t.chip fl.runs bn;
      },
      unfold move use_block in (ap length (kept_pages b t c (λ e. busy_not_free s b c hb hc (sym e))) ∙ fl.there ∙ omega (arith, h.blanks c hc)),
    )
      where
        t : State
        t = copy c (live_pages s b) s

        bn : b < length was.blocks
        bn = omega (arith, busy_below s b hb, h.tables)

        fl : Filled c (length (held s c).pages + length (live_pages s b)) s t
        fl = fill c (live_pages s b) s (omega (arith, h.tables)) h.chips h.good h.runs (live_all (PageFits was.d) s.places b 0 (held s b).pages (h.good b).1)
            (omega (arith, h.blanks c hc, live_short s b, (h.good b).0))

        bc : b < length t.chip.blocks
        bc = omega (arith, bn, fl.chips)

        blank_at : (x : ℕ) → use_of (move g b c u s) x ≡ Free → (x ≡ b → ⊥) → length (held t x).pages ≡ 0
        blank_at x = moved_use (λ v. v ≡ Free → (x ≡ b → ⊥) → length (held t x).pages ≡ 0) g b c u s x (busy_below s b hb) lc
            (λ _ f _. absurd (true≢false (sym hu ∙ ap busy f)))
            (λ _ e _ n. absurd (n e))
            (λ n _ f _. ap length (fl.elsewhere x n) ∙ h.blanks x f)

    pub fit_settled : Settled g (PagesFit was)
    fit_settled = record { by_move = λ b c s hb l f h. (fit_move b c (use_of s b) s hb hb l f h).0; by_dead = λ b s hb e h. fit_dead b s hb h }

    pub fit_level : (turns : ℕ) (s : State) → PagesFit was s → PagesFit was (level_in turns g s)
    unfolding turn_to end_round
    fit_level = settle_level g (PagesFit was) fit_settled
        (λ i s h. search rules)
        (λ s e h. search rules)
