-- The four orders that ship, each as the test whether its first record goes before its second. Assumes nothing.
--     least_erased    fewer erases, then the lower number
--     fewest_live     fewer live pages, then as least_erased
--     cost_benefit    the larger figure of age and cost, then as least_erased
--     busiest         more writes, then the lower number
use Rattle.std.specs.Prelude.{ℕ, ◌-◌, ◌*◌, Bool, true, false, cond, ◌&&◌, ◌||◌, ◌==◌, nat_lt}
use Rattle.orders.specs.declared.block.BlockRecord.{BlockRecord}
use Rattle.orders.specs.declared.page.PageRecord.{PageRecord}

-- by a first test, and where that finds the two equal by what follows
abbrev pub then_by : Bool → Bool → Bool → Bool
then_by above equal rest = above || (equal && rest)

abbrev pub least_erased : BlockRecord → BlockRecord → Bool
least_erased a b = then_by (nat_lt a.erases b.erases) (a.erases == b.erases) (nat_lt a.number b.number)

abbrev pub fewest_live : BlockRecord → BlockRecord → Bool
fewest_live a b = then_by (nat_lt a.live b.live) (a.live == b.live) (least_erased a b)

-- The figure of a block with v live of P pages: age × (P − v) / (2 × v), the fraction `over numerator denominator`,
-- and `endless` where v = 0.
pub data Figure : Type 0 where
  endless : Figure
  over : ℕ → ℕ → Figure

abbrev pub figure : BlockRecord → Figure
figure a = cond (a.live == 0) endless (over (a.age * (a.pages - a.live)) (2 * a.live))

-- the first figure is the larger, exactly: m / e < n / d by the products m × d < n × e
abbrev pub larger : Figure → Figure → Bool
larger endless endless = false
larger endless (over m e) = true
larger (over n d) endless = false
larger (over n d) (over m e) = nat_lt (m * d) (n * e)

abbrev pub equal : Figure → Figure → Bool
equal endless endless = true
equal endless (over m e) = false
equal (over n d) endless = false
equal (over n d) (over m e) = m * d == n * e

abbrev pub cost_benefit : BlockRecord → BlockRecord → Bool
cost_benefit a b = then_by (larger (figure a) (figure b)) (equal (figure a) (figure b)) (least_erased a b)

abbrev pub busiest : PageRecord → PageRecord → Bool
busiest a b = then_by (nat_lt b.writes a.writes) (a.writes == b.writes) (nat_lt a.number b.number)
