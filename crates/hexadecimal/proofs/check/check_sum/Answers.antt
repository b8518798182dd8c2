use Rattle.std.proofs.Common.{◌≡◌, ◌%◌, ◌+◌, sum, rules, arith, ap, ◌∙◌, refl}
use Rattle.std.proofs.lemmas.Fn.{fold_over, fronts, slice_gives}
use Rattle.std.proofs.lemmas.List.Sums.{sum_by_push}
use Rattle.hexadecimal.proofs.check.check_sum.Goals as goal

pub returns : goal.returns
returns c =
    fold_over fronts (λ y. y.now) _ (λ xs total. total ≡ sum xs % 256) _ (λ xs total x next f so_far call.
    let added : next ≡ (total + x.now) % 256 = search rules in
    (omega (arith, sum_by_push (λ y. y) xs x.now), search rules)) c.iter.result _ _ c.fold.result (slice_gives c.iter.result) refl c.fold.ensures.ran
    ∙ ap (λ xs. sum xs % 256) c.iter.ensures.rest
