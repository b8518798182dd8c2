use Rattle.std.proofs.Common.{◌≡◌, ◌<◌, ℕ, ap, sym, ◌∙◌, subst}
use Rattle.flash.specs.Meaning.{Flash, block, page}
use Rattle.emulated.specs.declared.Line.{Line}
use Rattle.emulated.specs.Held.{page_in, line, line_of}
use Rattle.emulated.specs.Meaning.{emulated, emulated_is}
use Rattle.emulated.proofs.Lines.{line_is, page_ok, page_found}
use Rattle.emulated.proofs.Emulated.written_place.Goals as goal

pub returns-then-page-line-clause-page : goal.returns-then-page-line-clause-page
returns-then-page-line-clause-page c =
    let s = c.args.self.now in
    let b = c.args.block in
    let i = c.args.page in
    let is = emulated_is s c.in_ok-line.ensures.kept in
    let found = page_ok (emulated s) b i _ _ c.in_ok-line.ensures.answer in
    let h = c.in_ok-line.ensures.inside.0 in
    let its : c.in_ok-line.line ≡ line s.lines b = ap (λ (x : Line × ℕ). x.0) found ∙ ap (λ (f : Flash). line_of (block f b)) is ∙ sym (line_is s.geometry s.lines s.tags s.bytes b h) in
    ap (λ (f : Flash). page f b i) is
    ∙ page_found s.geometry s.lines s.tags s.bytes b i h (subst (λ (l : Line). i < l.written) its c.if-page-line.true)
    ∙ sym (ap (λ (x : Line × ℕ). page_in s.geometry.size s.tags s.bytes x.1) found)
