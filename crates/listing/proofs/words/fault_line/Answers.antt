use Rattle.std.proofs.Common.{◌<◌, ◌≤◌, arith, length}
use Rattle.listing.specs.Words.{fault_words, line_of}
use Rattle.listing.proofs.Lines.{fitted_twice, fitted_whole}
use Rattle.listing.proofs.Spaces.{fault_le}
use Rattle.listing.proofs.words.fault_line.Goals as goal

pub returns : goal.returns
returns c =
    let e = c.args.fault.now in
    let line = line_of (fault_words e) in
    let small : c.number.result < 256 = omega arith in
    let number = rw c.number.ensures at small in
    let fits : length line ≤ 128 = fault_le e number (omega arith) in
    simp (c.end_line.ensures, c.append_named.ensures, c.append_labelled-2.ensures, c.append_labelled.ensures, c.layer_name.ensures, c.layer.ensures, c.from.ensures, c.number.ensures, c.new-out.ensures, fitted_twice) (fitted_whole line fits)
