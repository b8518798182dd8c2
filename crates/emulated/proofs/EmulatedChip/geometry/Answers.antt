use Rattle.std.proofs.Common.{sym, ap, ◌∙◌, subst}
use Rattle.flash.specs.Meaning.{geometry_of}
use Rattle.emulated.specs.Held.{Tables, Kept}
use Rattle.emulated.specs.Meaning.{emulated_is}
use Rattle.emulated.proofs.Lines.{geometry_is}
use Rattle.emulated.proofs.EmulatedChip.geometry.Goals as goal

pub returns : goal.returns
returns c =
    let s = c.args.self.now in
    ap (λ (t : Tables). t.geometry) c.self.view_is
    ∙ geometry_is s.geometry s.lines s.tags s.bytes
    ∙ ap geometry_of (sym (emulated_is s (subst Kept c.self.view_is c.self.invariant)))
