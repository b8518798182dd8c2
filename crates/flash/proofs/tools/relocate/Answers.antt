use Rattle.std.proofs.Common.{◌≡◌, ◌<◌, ◌≤◌, List, [], ◌∷◌, ◌++◌, length, take, Ok, Result, sym, ap, ◌∙◌, subst, arith, take_all, MatchResult}
use Rattle.std.proofs.lemmas.Result.{MatchResult-at_ok}
use Rattle.flash.specs.declared.Refusal.{Refusal}
use Rattle.flash.specs.Meaning.{Page, Op, program, erase, block, page, applies}
use Rattle.flash.specs.Calls.{after, erase_answer}
use Rattle.flash.specs.Tools.{copies, moves, copy_answer, relocate_answer, done, last_read}
use Rattle.flash.proofs.Tests.{never_both}
use Rattle.flash.proofs.Moves.{movable, copy_goes, page_stays, erase_goes, copies_more, last_more}
use Rattle.flash.proofs.tools.relocate.Goals as goal

-- no copy of a relocation that was let begin is refused
pub returns-in_err-copy_page : goal.returns-in_err-copy_page
returns-in_err-copy_page g c =
    let m = g.C.Chip in
    let start = c.args.chip.now in
    let f = m.meaning start in
    let b = c.args.block in
    let to = c.args.to in
    let i = c.loop-page.page in
    let n = length c.args.buf.now in
    let mv = movable f b to n c.in_ok-pages.pages c.in_ok-pages.ensures in
    let lt : i < length (block f b).pages = omega (arith, mv.all, c.loop-page-test.true) in
    let same : length c.loop-page.buf ≡ n = omega (arith, c.loop-page.auto.buf) in
    let is = m.laws.told start c.loop-page.chip _ c.loop-page.invariant.0 in
    let goes = ap (λ h. copy_answer h b i to (length c.loop-page.buf)) is ∙ ap (λ j. copy_answer (applies (copies to (take i (block f b).pages)) f) b i to j) same ∙ copy_goes f (m.laws.formed start) b to n _ mv i lt in
    absurd (never_both _ tt (c.in_err-copy_page.ensures.answer ∙ goes))

pub loop-page-preserved : goal.loop-page-preserved
loop-page-preserved g c =
    let m = g.C.Chip in
    let start = c.args.chip.now in
    let f = m.meaning start in
    let b = c.args.block in
    let to = c.args.to in
    let i = c.loop-page.page in
    let pages = (block f b).pages in
    let mv = movable f b to (length c.args.buf.now) c.in_ok-pages.pages c.in_ok-pages.ensures in
    let lt : i < length pages = omega (arith, mv.all, c.loop-page-test.true) in
    let is = m.laws.told start c.loop-page.chip _ c.loop-page.invariant.0 in
    let same : page (m.meaning c.loop-page.chip) b i ≡ page f b i = ap (λ h. page h b i) is ∙ page_stays f (m.laws.formed start) b to _ _ mv i in
    let now : m.ran start (copies to (take i pages) ++ (program to (page (m.meaning c.loop-page.chip) b i) ∷ [])) c.copy_page.new.chip =
    m.laws.further start c.loop-page.chip c.copy_page.new.chip _ _ c.loop-page.invariant.0 c.in_ok-copy_page.ensures.order in
    let ops = ap (λ x. copies to (take i pages) ++ (program to x ∷ [])) same ∙ copies_more pages i to lt in
    let read = c.in_ok-copy_page.ensures.buffer in
    let ok = c.in_ok-copy_page.ensures.answer in (
      subst (λ (os : List Op). m.ran start os c.copy_page.new.chip) ops now,
      read ∙ ap (λ a. after a (page (m.meaning c.loop-page.chip) b i).bytes c.loop-page.buf) (sym ok) ∙ ap (λ (x : Page). x.bytes) same ∙ sym (last_more pages i c.args.buf.now lt),
    )

pub returns : goal.returns
returns g c =
    let m = g.C.Chip in
    let start = c.args.chip.now in
    let f = m.meaning start in
    let b = c.args.block in
    let to = c.args.to in
    let i = c.loop-page.page in
    let old = c.args.buf.now in
    let pages = (block f b).pages in
    let begun = c.in_ok-pages.ensures in
    let mv = movable f b to (length old) c.in_ok-pages.pages begun in
    let le : length pages ≤ i = omega (arith, mv.all) in
    let all : take i pages ≡ pages = take_all i pages le in
    let is = m.laws.told start c.loop-page.chip _ c.loop-page.invariant.0 in
    let goes : Ok tt ≡ c.erase.result = sym (c.erase.ensures.answer ∙ ap (λ h. erase_answer h b) is ∙ erase_goes f (m.laws.formed start) b to (length old) _ mv i) in
    let last : m.ran c.loop-page.chip (erase b ∷ []) c.erase.new.self = MatchResult-at_ok _ _ tt (sym goes) c.erase.ensures.order in
    let whole : m.ran start (moves f b to) c.erase.new.self =
    m.laws.further start c.loop-page.chip c.erase.new.self _ _ (subst (λ (xs : List Page). m.ran start (copies to xs) c.loop-page.chip) all c.loop-page.invariant.0) last in
    let accepted : Ok tt ≡ relocate_answer f b to (length old) = ap done begun in
    record {
      answer = sym goes ∙ accepted;
      chip = m.laws.told start c.erase.new.self _ whole ∙ ap (λ a. after a (applies (moves f b to) f) f) accepted;
      buffer = c.loop-page.invariant.1 ∙ ap (λ xs. last_read xs old) all ∙ ap (λ a. after a (last_read pages old) old) accepted;
      order = subst (λ (r : Result (Unit {0}) Refusal). MatchResult r (λ _. m.ran start (moves f b to) c.erase.new.self) (λ _. c.erase.new.self ≡ start)) goes whole;
    }
