-- The pair of two well formed chips is well formed. These are proofs, with nothing in them to believe.
use Rattle.std.specs.Prelude.{◌≡◌, ◌+◌, ◌-◌, ◌<◌, ◌≤◌, Bool, true, false, cond, length, ◌==◌, refl}
use Rattle.std.proofs.Common.{sym, subst, inl, inr, arith, eqb-true, leb-true, length-append}
use Rattle.std.proofs.lemmas.List.{get_or_append_left, get_or-append_right}
use Rattle.std.proofs.lemmas.Bool.{and_parts, cases_lt}
use Rattle.flash.specs.Meaning.{Flash, WellFormed, BlockFits, no_block, no_chip, geometry_of, block}
use Rattle.pair.specs.Joined.{joins, both, joined}

-- what the test of two chips has shown
pub record Alike (f g : Flash) : Type 0 where
  pub p : f.p ≡ g.p
  pub d : f.d ≡ g.d
  pub e : f.e ≡ g.e
  pub few : length f.blocks + length g.blocks ≤ 65535

pub alike : (f g : Flash) → joins (geometry_of f) (geometry_of g) ≡ true → Alike f g
alike f g h =
    let x = and_parts (f.p == g.p) _ h in
    let y = and_parts (f.d == g.d) _ x.1 in
    let z = and_parts (f.e == g.e) _ y.1 in
    record { p = eqb-true _ _ x.0; d = eqb-true _ _ y.0; e = eqb-true _ _ z.0; few = leb-true _ _ z.1 }

both_formed : (f g : Flash) → Alike f g → WellFormed f → WellFormed g → WellFormed (both f g)
both_formed f g k ff fg = record {
  few = subst (λ n. n ≤ 65535) (sym (length-append f.blocks g.blocks)) k.few;
  each = λ b h. elim (cases_lt b (length f.blocks)) [
    | inl l ↦ subst (λ x. BlockFits f.p f.d f.e x) (sym (get_or_append_left f.blocks g.blocks no_block b l)) (ff.each b l)
    | inr l ↦ subst (λ x. BlockFits f.p f.d f.e x) (sym (get_or-append_right f.blocks g.blocks (length f.blocks) b no_block refl l))
        (let q : b - length f.blocks < length g.blocks = omega (arith, length-append f.blocks g.blocks) in
        subst (λ p. BlockFits p f.d f.e (block g (b - length f.blocks))) (sym k.p)
        (subst (λ d. BlockFits g.p d f.e (block g (b - length f.blocks))) (sym k.d)
        (subst (λ e. BlockFits g.p g.d e (block g (b - length f.blocks))) (sym k.e) (fg.each (b - length f.blocks) q))))
  ];
}

no_chip_formed : WellFormed no_chip
no_chip_formed = record { few = omega arith; each = λ b h. let z : ⊥ = omega arith in absurd z }

pub joined_formed : (f g : Flash) → WellFormed f → WellFormed g → WellFormed (joined f g)
joined_formed f g ff fg = go (joins (geometry_of f) (geometry_of g)) refl
  where
    go : (t : Bool) → joins (geometry_of f) (geometry_of g) ≡ t → WellFormed (cond t (both f g) no_chip)
    go true q = both_formed f g (alike f g q) ff fg
    go false q = no_chip_formed
