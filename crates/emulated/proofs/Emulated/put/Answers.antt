use Rattle.std.proofs.Common.{◌+◌, ◌*◌, ◌<◌, ◌≤◌, length, set, sym, ap, ◌∙◌, subst, arith, length-set}
use Rattle.std.proofs.lemmas.List.Elements.{All-set}
use Rattle.std.proofs.lemmas.List.Edits.{length-paste}
use Rattle.emulated.specs.Held.{Tables}
use Rattle.emulated.specs.Laws.{line_fits}
use Rattle.emulated.proofs.Kept.{kept_with}
use Rattle.emulated.proofs.Emulated.put.Goals as goal

pub invariant_of-self : goal.invariant_of-self
invariant_of-self c =
    let t = c.self.inside in
    let held : Tables = record { geometry = t.geometry; lines = t.lines; tags = t.tags.now; bytes = t.bytes.now } in
    let xs = c.args.bytes.now in
    let few : c.args.written ≤ t.geometry.pages = subst (λ (s : Tables). c.args.written ≤ s.geometry.pages) (sym c.self.view_is) c.requires.written in
    let fits : c.args.place * length xs + length xs ≤ length t.bytes.now = subst (λ (s : Tables). c.args.place * length xs + length xs ≤ length s.bytes) (sym c.self.view_is) c.requires.bytes in
    let tagged : c.args.tag < 65536 = omega (arith, c.ranges.tag.fits) in
    kept_with held c.from.result _ (set t.tags.now c.args.place c.args.tag) c.store.new.memory c.self.invariant
    ((line_fits t.geometry t.lines c.self.invariant.lines_fit c.from.result).0, omega (arith, few))
    (length-set t.tags.now c.args.place c.args.tag)
    (ap length c.store.ensures ∙ length-paste t.bytes.now (c.args.place * length xs) xs (length xs) fits (omega arith))
    (All-set (λ x. x < 65536) t.tags.now c.args.place c.args.tag tagged c.self.invariant.tags_fit)
