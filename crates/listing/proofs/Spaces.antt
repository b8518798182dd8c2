-- How long words are at most.
use Rattle.std.proofs.Common.{ℕ, ◌^◌, ◌<◌, ◌≤◌, List, ◌++◌, length, codes, arith, length-append}
use Rattle.std.proofs.lemmas.Fmt.{length-decimal-le}
use Rattle.trace.specs.Faults.{cause_number, layer_of}
use Rattle.trace.specs.declared.fault.Fault.{Fault}
use Rattle.trace.specs.declared.frame.Settings.{Settings}
use Rattle.listing.specs.Words.{labelled, order_word, setup_words, fault_words, busy_words, line_of}
use Rattle.listing.proofs.Lines.{order_word_le, layer_word_le}

-- the part of a setup that describes the chip, and the part that says how the leveller is started
pub chip_le : (s : Settings) → s.blocks < 65536 → s.pages < 256 → s.bytes < 65536 → s.erases < 4294967296 → length (labelled (codes "setup blocks ") s.blocks ++ labelled (codes " pages ") s.pages ++ labelled (codes " bytes ") s.bytes ++ labelled (codes " erases ") s.erases) ≤ 58
chip_le s n p d e = simp length-append (omega (arith, length-decimal-le 5 s.blocks, length-decimal-le 3 s.pages, length-decimal-le 5 s.bytes, length-decimal-le 10 s.erases))

pub start_le : (s : Settings) → s.k < 256 → s.threshold < 65536 → s.logical < 65536 → length (labelled (codes " k ") s.k ++ labelled (codes " threshold ") s.threshold ++ (codes " order " ++ order_word s.order) ++ labelled (codes " logical ") s.logical) ≤ 55
start_le s k t l = simp length-append (omega (arith, length-decimal-le 3 s.k, length-decimal-le 5 s.threshold, order_word_le s.order, length-decimal-le 5 s.logical))

pub setup_le : (s : Settings) → s.blocks < 65536 → s.pages < 256 → s.bytes < 65536 → s.erases < 4294967296 → s.k < 256 → s.threshold < 65536 → s.logical < 65536 → length (line_of (setup_words s)) ≤ 128
setup_le s n p d e k t l = simp length-append (omega (arith, length-decimal-le 5 s.blocks, length-decimal-le 3 s.pages, length-decimal-le 5 s.bytes, length-decimal-le 10 s.erases, length-decimal-le 3 s.k, length-decimal-le 5 s.threshold, order_word_le s.order, length-decimal-le 5 s.logical))

-- the lines for the other frames, for a fault and for a page
pub write_le : (page fill : ℕ) → page < 65536 → fill < 256 → length (line_of (labelled (codes "write page ") page ++ labelled (codes " fill ") fill)) ≤ 128
write_le page fill p f = simp length-append (omega (arith, length-decimal-le 5 page, length-decimal-le 3 fill))

pub page_le : (label : List ℕ) (page : ℕ) → length label ≤ 13 → page < 65536 → length (line_of (labelled label page)) ≤ 128
page_le label page h p = simp length-append (omega (arith, length-decimal-le 5 page))

pub fault_le : (e : Fault) → cause_number e.cause < 256 → e.line < 2 ^ 64 → length (line_of (fault_words e)) ≤ 128
fault_le e n l = simp length-append (omega (arith, length-decimal-le 3 (cause_number e.cause), length-decimal-le 20 e.line, layer_word_le (layer_of e.cause)))

pub busy_le : (page writes : ℕ) → page < 65536 → writes < 2 ^ 64 → length (line_of (busy_words page writes)) ≤ 128
busy_le page writes p w = simp length-append (omega (arith, length-decimal-le 5 page, length-decimal-le 20 writes))
