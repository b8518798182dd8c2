use Rattle.std.proofs.Common.{◌≤◌, arith, length}
use Rattle.listing.specs.Words.{setup_words, line_of}
use Rattle.listing.proofs.Lines.{fitted_twice, fitted_whole}
use Rattle.listing.proofs.Spaces.{setup_le}
use Rattle.listing.proofs.words.setup_line.Goals as goal

pub returns : goal.returns
returns c =
    let s = c.args.settings.now in
    let line = line_of (setup_words s) in
    let fits : length line ≤ 128 = setup_le s (omega arith) (omega arith) (omega arith) (omega arith) (omega arith) (omega arith) (omega arith) in
    simp (c.end_line.ensures, c.append_labelled.ensures, c.append_labelled-2.ensures, c.append_labelled-3.ensures, c.append_labelled-4.ensures, c.append_labelled-5.ensures, c.append_labelled-6.ensures, c.append_labelled-7.ensures, c.append_named.ensures, c.order_name.ensures, c.from.ensures, c.from-2.ensures, c.from-3.ensures, c.from-4.ensures, c.from-5.ensures, c.from-6.ensures, c.from-7.ensures, c.new-out.ensures, fitted_twice) (fitted_whole line fits)
