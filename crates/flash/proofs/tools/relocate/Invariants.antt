use Rattle.std.proofs.Common.{◌≡◌, take}
use Rattle.flash.specs.Meaning.{block}
use Rattle.flash.specs.Tools.{copies, last_read}
use Rattle.flash.proofs.tools.relocate.Given as goal

-- the pages so far were copied in their order, and the buffer holds the last of them
abbrev pub invariant-loop-page : goal.invariant-loop-page
invariant-loop-page g l =
    let m = g.C.Chip in
    let done = take l.page (block (m.meaning l.initial.chip) l.block).pages in
    m.ran l.initial.chip (copies l.to done) l.chip × (l.buf ≡ last_read done l.initial.buf)
