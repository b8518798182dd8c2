use Rattle.std.proofs.Common.{◌≡◌, ℕ, ◌+◌, ◌*◌, ◌<◌, ◌≤◌, length, Ok, set, sym, ap, ◌∙◌, subst, arith, length-set}
use Rattle.std.proofs.lemmas.Grind.{common_steps}
use Rattle.std.proofs.lemmas.List.Elements.{All-set}
use lib.Seq.{paste}
use Rattle.flash.specs.Meaning.{Flash, block, page_of, programmed}
use Rattle.flash.specs.Calls.{after, program_answer}
use Rattle.emulated.specs.declared.Line.{Line}
use Rattle.emulated.specs.Held.{Tables, line, line_of, place}
use Rattle.emulated.specs.Laws.{line_fits}
use Rattle.emulated.specs.Meaning.{emulated, emulated_is, kept_room}
use Rattle.emulated.proofs.Lines.{line_is, page_ok}
use Rattle.emulated.proofs.Kept.{kept_with}
use Rattle.emulated.proofs.Parts.{put_long, put_here, put_others}
use Rattle.emulated.proofs.Changes.{program_makes}
use Rattle.emulated.proofs.EmulatedChip.program.Goals as goal

pub returns-clause-order : goal.returns-clause-order
returns-clause-order c =
    let s = c.args.self.now in
    let g = s.geometry in
    let b = c.args.block in
    let i = c.args.page in
    let t = c.args.tag in
    let xs = c.args.bytes.now in
    let kept = c.in_ok-line.ensures.kept in
    let is = emulated_is s kept in
    let has = kept_room s kept in
    let h = c.in_ok-line.ensures.inside.0 in
    let li = c.in_ok-line.ensures.inside.1 in
    let lb : b < length s.lines = omega (arith, kept.long, has.few) in
    let found = page_ok (emulated s) b i _ _ c.in_ok-line.ensures.answer in
    let at : c.in_ok-line.place ≡ place g.pages b i = ap (λ (x : Line × ℕ). x.1) found in
    let its : c.in_ok-line.line ≡ line s.lines b = ap (λ (x : Line × ℕ). x.0) found ∙ ap (λ (f : Flash). line_of (block f b)) is ∙ sym (line_is g s.lines s.tags s.bytes b h) in
    let w : i ≡ (line s.lines b).written = c.if-page-line.false ∙ ap (λ (l : Line). l.written) its in
    let long : length xs ≡ g.size = c.if-bytes-self.false ∙ ap (λ (u : Tables). u.geometry.size) c.self.view_is in
    let r = place g.pages b i in
    let lt : r < length s.tags = subst (λ j. j < length s.tags) at c.in_ok-line.ensures.tag in
    let fits : r * g.size + g.size ≤ length s.bytes = subst (λ j. j * g.size + g.size ≤ length s.bytes) at c.in_ok-line.ensures.bytes in
    let tagged : t < 65536 = omega (arith, c.ranges.tag.fits) in
    let new = paste s.bytes (r * g.size) xs g.size in
    let next : Line = record { erases = (line s.lines b).erases; written = i + 1 } in
    let after_it : Tables = record { geometry = g; lines = set s.lines b next; tags = set s.tags r t; bytes = new } in
    let few : i + 1 ≤ g.pages = omega arith in
    let e = c.put.ensures in
    let tags : c.put.new.self.tags ≡ set s.tags r t = e.tags ∙ ap (λ j. set s.tags j t) at in
    let stored : c.put.new.self.bytes ≡ new = e.bytes ∙ ap (λ k. paste s.bytes (c.in_ok-line.place * k) xs k) long ∙ ap (λ j. paste s.bytes (j * g.size) xs g.size) at in
    let made : c.put.new.self ≡ after_it = λ j. record { geometry = e.geometry j; lines = e.lines j; tags = tags j; bytes = stored j } in
    ap emulated made
    ∙ emulated_is after_it (kept_with s b next (set s.tags r t) new kept ((line_fits g s.lines kept.lines_fit b).0, few) (length-set s.tags r t) (put_long s.bytes xs g.size r fits long) (All-set (λ x. x < 65536) s.tags r t tagged kept.tags_fit))
    ∙ program_makes g s.lines s.tags s.bytes new b i t xs kept.lines_fit h li w lb lt (put_here s.bytes xs g.size r fits long) (put_others s.bytes xs g.size r fits long)
    ∙ ap (λ (f : Flash). programmed f b (page_of t xs)) (sym is)

pub returns-clause-chip : goal.returns-clause-chip
returns-clause-chip c =
    let f = emulated c.args.self.now in
    let xs = c.args.bytes.now in
    let obeyed : Ok tt ≡ program_answer f c.args.block c.args.page (length xs) = grind (arith, common_steps) in
    returns-clause-order c ∙ ap (λ a. after a (programmed f c.args.block (page_of c.args.tag xs)) f) obeyed
