-- What the proofs say of a state, in short.
use Rattle.std.proofs.Common.{◌≡◌, ℕ, ◌*◌, ◌/◌, ◌<◌, ◌≤◌, true, false, ◌⊎◌, length, get_or, pow_pos, div-lt_iff_lt-mul, arith}
use Rattle.flash.specs.Meaning.{Block, block}
use Rattle.rules.specs.declared.Settings.{Settings}
use Rattle.rules.specs.declared.Use.{Use}
use Rattle.rules.specs.declared.Use.TheVariants.{Free, Open}
use Rattle.rules.specs.Tables.{Meter, State, set_size}
use Rattle.rules.specs.Blocks.{use_of}
use Rattle.rules.specs.WellFormed.{ones, busy}

abbrev pub held : State → ℕ → Block
held s b = block s.chip b

abbrev pub counted : State → ℕ → ℕ
counted s b = (held s b).count

abbrev pub Busy : State → ℕ → Type 0
Busy s b = busy (get_or s.uses b Free) ≡ true

-- n blocks in m sets
pub record Sized (g : Settings) (n m : ℕ) (s : State) : Type 0 where
  pub sets : n ≡ m * set_size g
  pub chips : length s.chip.blocks ≡ n
  pub tables : length s.uses ≡ n
  pub flagged : length s.meter.flags ≡ m

pub some_size : (g : Settings) → 0 < set_size g
some_size g = pow_pos g.k

pub set_of : (g : Settings) (n m : ℕ) (s : State) → Sized g n m s → (x : ℕ) → x < n → x / set_size g < length s.meter.flags
set_of g n m s z x h = let w = some_size g in let l : x / set_size g < m = (div-lt_iff_lt-mul w).1 (omega arith) in omega arith

abbrev pub SomeFree : State → Type 0
SomeFree s = (x : ℕ) × (x < length s.uses) × (get_or s.uses x Free ≡ Free)

-- no block is in this use
abbrev pub NoneIn : Use → State → Type 0
NoneIn u s = (x : ℕ) → x < length s.uses → use_of s x ≡ u → ⊥

abbrev pub NoOpen : State → Type 0
NoOpen s = (x : ℕ) → use_of s x ≡ Open → ⊥

-- at most one block is open, and at least one
abbrev pub OneOpen : State → Type 0
OneOpen s = (x y : ℕ) → use_of s x ≡ Open → use_of s y ≡ Open → x ≡ y

abbrev pub HasOpen : State → Type 0
HasOpen s = (x : ℕ) × (x < length s.uses) × (use_of s x ≡ Open)

abbrev pub Freed : Settings → ℕ → State → Type 0
Freed g n s = (x : ℕ) → x < n → get_or s.uses x Free ≡ Free → get_or s.meter.flags (x / set_size g) false ≡ true

-- the counters between calls
abbrev pub Between : Settings → Meter → Type 0
Between g m = ((m.fcnt ≡ 0) × (m.ecnt ≡ 0)) ⊎ ((1 ≤ m.fcnt) × (m.ecnt < g.threshold * m.fcnt))

-- what a started leveller keeps, in a call too
pub record Ready (g : Settings) (n m : ℕ) (s : State) : Type 0 where
  pub sized : Sized g n m s
  pub marked : ones s.meter.flags ≡ s.meter.fcnt
  pub freed : 1 ≤ s.meter.fcnt → Freed g n s
  pub some : SomeFree s
  pub seeking : s.meter.findex < m
