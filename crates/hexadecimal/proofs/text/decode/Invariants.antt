use Rattle.std.proofs.Common.{◌≡◌, ◌+◌, ◌*◌, length}
use Rattle.std.specs.Slice.Iter.{chunks_exact_rest, chunks_exact_size}
use Rattle.bounded.specs.Buffer.{held}
use Rattle.hexadecimal.specs.Text.{decoded}
use Rattle.hexadecimal.proofs.Decodes.{before}
use Rattle.hexadecimal.proofs.text.decode.Given as goal

abbrev pub invariant-loop-digits : goal.invariant-loop-digits
invariant-loop-digits g l = record {
  decodes : decoded l.line ≡ before (held l.bytes) (decoded (chunks_exact_rest l.digits-iterator));
  room : 2 * length (held l.bytes) + length (chunks_exact_rest l.digits-iterator) ≡ length l.line;
  size : chunks_exact_size l.digits-iterator ≡ 2;
}
