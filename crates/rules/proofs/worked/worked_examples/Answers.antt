use Rattle.std.proofs.Common.{rules}
use Rattle.rules.specs.Steps.{use_block, program_page, count_erase, erase_block, copy, move, clean, close_open, open_first, open_next, make_room, store}
use Rattle.rules.specs.Levelling.{clear_out, collect_block, collect, turn_to, end_round, collect_next, level_in, level}
use Rattle.rules.specs.Calls.{start, writing, write, read, discard}
use Rattle.rules.specs.Worked.{started, run, run_a, run_b, run_c}
use Rattle.rules.proofs.worked.worked_examples.Goals as goal

pub returns : goal.returns
unfolding use_block program_page count_erase erase_block copy move clean close_open open_first open_next make_room store clear_out collect_block collect turn_to end_round collect_next level_in level start writing write read discard started run run_a run_b run_c
returns c = search rules
