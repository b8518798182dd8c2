use Rattle.std.proofs.Common.{◌≤◌, arith, length}
use Rattle.listing.specs.Words.{busy_words, line_of}
use Rattle.listing.proofs.Lines.{fitted_twice, fitted_whole}
use Rattle.listing.proofs.Spaces.{busy_le}
use Rattle.listing.proofs.words.busy_line.Goals as goal

pub returns : goal.returns
returns c =
    let line = line_of (busy_words c.args.page c.args.writes) in
    let fits : length line ≤ 128 = busy_le c.args.page c.args.writes (omega arith) (omega arith) in
    simp (c.end_line.ensures, c.append_labelled-2.ensures, c.append_labelled.ensures, c.from.ensures, c.new-out.ensures, fitted_twice) (fitted_whole line fits)
