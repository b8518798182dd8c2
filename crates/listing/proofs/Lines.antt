-- A line of words, appended piece by piece to an empty buffer with room for it.
use Rattle.std.proofs.Common.{◌≡◌, ℕ, ◌≤◌, List, [], ◌++◌, length, take, ap, ◌∙◌, append_assoc, take_all, lit≤}
use Rattle.trace.specs.declared.fault.Layer.{Layer}
use Rattle.trace.specs.declared.fault.Layer.TheVariants as layer
use Rattle.trace.specs.declared.frame.OrderKind.{OrderKind}
use Rattle.trace.specs.declared.frame.OrderKind.TheVariants.{FewestLive, CostBenefit}
use Rattle.bounded.proofs.Fronts.{take_front}
use Rattle.listing.specs.Words.{order_word, layer_word, fitted}

-- one piece after another
pub fitted_twice : (bytes xs ys : List ℕ) → fitted (fitted bytes xs) ys ≡ fitted bytes (xs ++ ys)
unfolding fitted
fitted_twice bytes xs ys = take_front 128 (bytes ++ xs) ys ∙ ap (take 128) (append_assoc bytes xs ys)

pub two_pieces : (old mid new xs ys : List ℕ) → mid ≡ take 128 (old ++ xs) → new ≡ take 128 (mid ++ ys) → new ≡ fitted old (xs ++ ys)
unfolding fitted
two_pieces old mid new xs ys p q = q ∙ ap (λ l. take 128 (l ++ ys)) p ∙ fitted_twice old xs ys

-- the whole line, where it fits
pub fitted_whole : (line : List ℕ) → length line ≤ 128 → fitted [] line ≡ line
unfolding fitted
fitted_whole line fits = take_all 128 line fits

-- how long the words for an order and for a layer are at most
pub order_word_le : (o : OrderKind) → length (order_word o) ≤ 12
order_word_le FewestLive = lit≤ tt
order_word_le CostBenefit = lit≤ tt

pub layer_word_le : (l : Layer) → length (layer_word l) ≤ 5
layer_word_le layer.Text = lit≤ tt
layer_word_le layer.Frame = lit≤ tt
