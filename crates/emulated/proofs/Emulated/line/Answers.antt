use Rattle.std.proofs.Common.{◌<◌, ◌≤◌, Ok, sym, ap, ◌∙◌, subst}
use Rattle.flash.specs.Meaning.{Flash, block}
use Rattle.flash.specs.Calls.{in_block}
use Rattle.emulated.specs.Held.{Tables, Kept, line, line_of}
use Rattle.emulated.specs.Meaning.{emulated_is}
use Rattle.emulated.proofs.Lines.{line_is, in_is, out_is}
use Rattle.emulated.proofs.Emulated.line.Goals as goal

pub returns-then-block-self-clause-answer : goal.returns-then-block-self-clause-answer
returns-then-block-self-clause-answer c =
    let s = c.args.self.now in
    let b = c.args.block in
    let is = emulated_is s (subst Kept c.self.view_is c.self.invariant) in
    let h : b < s.geometry.blocks = subst (λ (t : Tables). b < t.geometry.blocks) c.self.view_is c.if-block-self.true in
    ap (λ j. Ok (line c.self.inside.lines j)) c.from.ensures
    ∙ ap (λ (t : Tables). Ok (line t.lines b)) c.self.view_is
    ∙ in_is s.geometry s.lines s.tags s.bytes b _ _ h (line_is s.geometry s.lines s.tags s.bytes b h)
    ∙ ap (λ (f : Flash). in_block f b (Ok (line_of (block f b)))) (sym is)

pub returns-else-block-self-clause-answer : goal.returns-else-block-self-clause-answer
returns-else-block-self-clause-answer c =
    let s = c.args.self.now in
    let b = c.args.block in
    let is = emulated_is s (subst Kept c.self.view_is c.self.invariant) in
    let h : s.geometry.blocks ≤ b = subst (λ (t : Tables). t.geometry.blocks ≤ b) c.self.view_is c.if-block-self.false in
    out_is s.geometry s.lines s.tags s.bytes b _ h
    ∙ ap (λ (f : Flash). in_block f b (Ok (line_of (block f b)))) (sym is)
