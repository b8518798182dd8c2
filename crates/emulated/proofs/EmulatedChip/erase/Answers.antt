use Rattle.std.proofs.Common.{◌≡◌, ◌+◌, ◌<◌, ◌≤◌, length, Ok, set, sym, refl, ap, ◌∙◌, arith, rules}
use Rattle.flash.specs.Meaning.{Flash, block, erased}
use Rattle.flash.specs.Calls.{after, erase_answer}
use Rattle.emulated.specs.declared.Line.{Line}
use Rattle.emulated.specs.Held.{Tables, held, line, line_of}
use Rattle.emulated.specs.Meaning.{emulated, emulated_is, kept_room}
use Rattle.emulated.proofs.Lines.{line_is, block_ok}
use Rattle.emulated.proofs.Kept.{kept_with}
use Rattle.emulated.proofs.Changes.{erase_makes}
use Rattle.emulated.proofs.EmulatedChip.erase.Goals as goal

pub returns-clause-order : goal.returns-clause-order
returns-clause-order c =
    let s = c.args.self.now in
    let b = c.args.block in
    let kept = c.in_ok-line.ensures.kept in
    let is = emulated_is s kept in
    let has = kept_room s kept in
    let h = c.in_ok-line.ensures.inside in
    let lb : b < length s.lines = omega (arith, kept.long, has.few) in
    let its : c.in_ok-line.line ≡ line s.lines b = block_ok (emulated s) b _ _ c.in_ok-line.ensures.answer ∙ ap (λ (f : Flash). line_of (block f b)) is ∙ sym (line_is s.geometry s.lines s.tags s.bytes b h) in
    let rated : c.self.inside.geometry.rated ≡ s.geometry.rated = ap (λ (t : Tables). t.geometry.rated) c.self.view_is in
    let new : Line = record { erases = c.in_ok-line.line.erases + 1; written = 0 } in
    let wiped : Tables = record { geometry = s.geometry; lines = set s.lines b new; tags = s.tags; bytes = s.bytes } in
    let fits : new.erases ≤ s.geometry.rated = omega (arith, rated, c.if-line-self.false) in
    let e = c.wipe.ensures in
    let made : c.wipe.new.self ≡ wiped = λ i. record { geometry = e.geometry i; lines = e.lines i; tags = e.tags i; bytes = e.bytes i } in
    ap emulated made
    ∙ emulated_is wiped (kept_with s b new s.tags s.bytes kept (fits, omega arith) refl refl kept.tags_fit)
    ∙ ap (λ (l : Line). held s.geometry (set s.lines b (record { erases = l.erases + 1; written = 0 })) s.tags s.bytes) its
    ∙ erase_makes s.geometry s.lines s.tags s.bytes b h lb
    ∙ ap (λ (f : Flash). erased f b) (sym is)

pub returns-clause-chip : goal.returns-clause-chip
returns-clause-chip c =
    let s = c.args.self.now in
    let obeyed : Ok tt ≡ erase_answer (emulated s) c.args.block = search rules in
    returns-clause-order c ∙ ap (λ a. after a (erased (emulated s) c.args.block) (emulated s)) obeyed
