-- The lengths of the tables, the age marks and the rounds, kept by every step.
use Rattle.std.proofs.Common.{◌≡◌, ℕ, suc, ◌+◌, ◌≤◌, [], ◌∷◌, ◌++◌, length, get_or, set, sum, sym, refl, ap, ◌∙◌, mul-le-mul_right, arith, rules}
use Rattle.std.proofs.lemmas.List.{length-set}
use Rattle.std.proofs.lemmas.List.Sums.{sum_by-set, sum-map}
use Rattle.std.proofs.Math.Seq.{map-set_same}
use Rattle.flash.specs.Meaning.{Flash, Block, block, with_block, no_block}
use Rattle.rules.specs.declared.Settings.{Settings}
use Rattle.rules.specs.Tables.{State}
use Rattle.rules.specs.Steps.{use_block, program_page, count_erase, erase_block}
use Rattle.rules.specs.Levelling.{turn_to, end_round, level_in}
use Rattle.rules.specs.WellFormed.{erases_of}
use Rattle.rules.proofs.StateFacts.{held}
use Rattle.rules.proofs.AfterSet.{set_by}
use Rattle.rules.proofs.InUse.{busy_below}
use Rattle.rules.proofs.Levels.{not_even}
use Rattle.rules.proofs.Stable.{Stable, stable_settled, settle_level}

-- a write to a block that leaves its count leaves the sum of all counts
total_same : (f : Flash) (b : ℕ) (c : Block) → c.count ≡ (block f b).count → erases_of (with_block f b c) ≡ erases_of f
total_same f b c e = sym (sum-map count (set f.blocks b c)) ∙ ap sum (map-set_same count f.blocks b c no_block e) ∙ sum-map count f.blocks
  where
    count : Block → ℕ
    count x = x.count

pub record Booked (l n : ℕ) (s : State) : Type 0 where
  pub mapped : length s.places ≡ l
  pub marked : length s.marks ≡ n
  pub past : (b : ℕ) → get_or s.marks b 0 ≤ s.meter.rounds
  pub paid : s.meter.rounds + s.meter.ecnt ≤ erases_of s.chip
  pub blocks : length s.chip.blocks ≡ n
  pub tables : length s.uses ≡ n

module _ (g : Settings) (l n : ℕ) where
  pub booked_stable : Stable g (Booked l n)
  unfolding use_block program_page erase_block count_erase
  booked_stable = record {
    by_put = λ b u s hu h. search rules;
    by_program = λ b q s h. record {
      mapped = length-set s.places q.tag _ ∙ h.mapped;
      marked = length-set s.marks b _ ∙ h.marked;
      past = λ x. set_by (λ v. v ≤ s.meter.rounds) s.marks b x s.meter.rounds 0 (λ _. omega arith) (h.past x);
      paid = omega (arith, h.paid, total_same s.chip b (record { count = (held s b).count; pages = (held s b).pages ++ q ∷ [] }) refl);
      blocks = length-set s.chip.blocks b _ ∙ h.blocks;
      tables = h.tables;
    };
    by_erase = λ b s hb h. record {
      mapped = h.mapped;
      marked = h.marked;
      past = h.past;
      paid = omega (arith, h.paid, sum_by-set (λ (x : Block). x.count) s.chip.blocks b (record { count = suc (held s b).count; pages = [] }) no_block (omega (arith, busy_below s b hb, h.tables, h.blocks)));
      blocks = length-set s.chip.blocks b _ ∙ h.blocks;
      tables = length-set s.uses b _ ∙ h.tables;
    };
  }

  pub booked_level : 1 ≤ g.threshold → (turns : ℕ) (s : State) → Booked l n s → Booked l n (level_in turns g s)
  unfolding turn_to end_round
  booked_level pos = settle_level g (Booked l n) (stable_settled g (Booked l n) booked_stable)
      (λ i s h. search rules)
      (λ s e h. (let ne = not_even g s.meter e in
      let some : 1 ≤ s.meter.ecnt = omega (arith, ne.0, ne.1, mul-le-mul_right s.meter.fcnt pos) in
      record { mapped = h.mapped; marked = h.marked; past = λ b. omega (arith, h.past b); paid = omega (arith, h.paid); blocks = h.blocks; tables = h.tables }))
