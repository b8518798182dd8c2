use Rattle.std.proofs.Common.{◌≤◌, arith, codes, length, lit≤}
use Rattle.trace.specs.declared.frame.Frame.TheVariants.{Write, Discard, Read}
use Rattle.listing.specs.Words.{frame_words, line_of}
use Rattle.listing.proofs.Lines.{fitted_twice, fitted_whole}
use Rattle.listing.proofs.Spaces.{write_le, page_le}
use Rattle.listing.proofs.words.frame_line.Goals as goal
use Rattle.listing.proofs.words.frame_line.Goals.{in-Write, in-Discard, in-Read}

pub returns : goal.returns
returns c =
    elim c.match-frame.branch [
      | in-Write w ↦
          let line = line_of (frame_words (Write w.in-Write.page w.in-Write.fill)) in
          let fits : length line ≤ 128 = write_le w.in-Write.page w.in-Write.fill (omega arith) (omega arith) in
          rw w.in-Write.is (simp (c.end_line.ensures, w.out-is, w.append_labelled-in-Write.ensures, w.append_labelled.ensures, w.from.ensures, w.from-in-Write.ensures, c.new-out.ensures, fitted_twice) (fitted_whole line fits))
      | in-Discard w ↦
          let line = line_of (frame_words (Discard w.in-Discard.page)) in
          let fits : length line ≤ 128 = page_le (codes "discard page ") w.in-Discard.page (lit≤ tt) (omega arith) in
          rw w.in-Discard.is (simp (c.end_line.ensures, w.out-is, w.append_labelled-in-Discard.ensures, w.from-in-Discard.ensures, c.new-out.ensures, fitted_twice) (fitted_whole line fits))
      | in-Read w ↦
          let line = line_of (frame_words (Read w.in-Read.page)) in
          let fits : length line ≤ 128 = page_le (codes "read page ") w.in-Read.page (lit≤ tt) (omega arith) in
          rw w.in-Read.is (simp (c.end_line.ensures, w.out-is, w.append_labelled-in-Read.ensures, w.from-in-Read.ensures, c.new-out.ensures, fitted_twice) (fitted_whole line fits))
    ]
