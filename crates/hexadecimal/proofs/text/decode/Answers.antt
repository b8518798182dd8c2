use Rattle.std.proofs.Common.{◌≡◌, ◌<◌, cond, lt-ltb, length-append, [], ◌∷◌, ◌++◌, length, Some, None, sym, ap, ◌∙◌, append-nil, arith, eqb-true, false-eqb}
use Rattle.std.proofs.lemmas.List.{nil_from_length}
use Rattle.std.proofs.lemmas.Result.{MatchResult-from_err}
use Rattle.std.specs.Slice.Iter.{chunks_exact_rest, chunks_exact_size}
use Rattle.bounded.specs.Buffer.{held}
use Rattle.hexadecimal.specs.Text.{decoded, line_bytes}
use Rattle.hexadecimal.proofs.Decodes.{before, before_nothing, before_put, decoded_on, decoded_odd, refused, bounded, empty, too_long}
use Rattle.hexadecimal.proofs.Spelling.{line_spells, line_unspelled}
use Rattle.hexadecimal.proofs.text.decode.Goals as goal
use Rattle.hexadecimal.proofs.text.decode.Goals.{then-is_empty-via-then-is_empty, then-is_empty-via-else-is_empty+then-line-ne0, then-is_empty-via-else-is_empty+else-line-ne0+then-line}

pub returns-then-is_empty : goal.returns-then-is_empty
returns-then-is_empty g c =
    let none : line_bytes g.row.N c.args.line.now ≡ None = elim c.then-is_empty.branch [
      | then-is_empty-via-then-is_empty w ↦ empty g.row.N c.args.line.now (eqb-true _ 0 (sym c.is_empty.ensures ∙ w.if-is_empty.true))
      | then-is_empty-via-else-is_empty+then-line-ne0 w ↦ refused g.row.N c.args.line.now (decoded_odd c.args.line.now (omega (arith, w.if-line-ne0.true)))
      | then-is_empty-via-else-is_empty+else-line-ne0+then-line w ↦ too_long g.row.N c.args.line.now (omega (arith, w.if-line.true))
    ] in
    record { answer = none; spelled = line_unspelled g.row.N c.args.line.now none }

pub returns-in_err-byte : goal.returns-in_err-byte
returns-in_err-byte g c =
    let ds = c.args.line.now in
    let step = c.in-Some.ensures.steps.1 in
    let none = refused g.row.N ds (decoded_on ds (held c.loop-digits.bytes) _ c.in-Some.digits.now (chunks_exact_rest c.next.new.self) _ None c.loop-digits.invariant.decodes step.0 (step.1 ∙ c.loop-digits.invariant.size) c.pair.ensures c.in_err-byte.ensures.ok_part) in
    record {
      answer = MatchResult-from_err c.from_residual.result _ _ c.from_residual.ensures.0 (λ _. none);
      spelled = MatchResult-from_err c.from_residual.result _ _ c.from_residual.ensures.0 (λ _. line_unspelled g.row.N ds none);
    }

pub loop-digits-init : goal.loop-digits-init
loop-digits-init g c =
    let rest = ap chunks_exact_rest c.into_iter-digits-iterator.ensures.into_iter_gives ∙ c.chunks_exact-digits-items.ensures.rest in
    record {
      decodes = rw (rest, c.new-bytes.ensures) (before_nothing (decoded c.args.line.now));
      room = omega (arith, ap length rest, ap length c.new-bytes.ensures);
      size = ap chunks_exact_size c.into_iter-digits-iterator.ensures.into_iter_gives ∙ c.chunks_exact-digits-items.ensures.size;
    }

pub loop-digits-preserved : goal.loop-digits-preserved
loop-digits-preserved g c =
    let bytes = held c.loop-digits.bytes in
    let byte = c.in_ok-byte.byte in
    let rest = chunks_exact_rest c.next.new.self in
    let step = c.in-Some.ensures.steps.1 in
    let size = step.1 ∙ c.loop-digits.invariant.size in
    let long = ap length step.0 ∙ length-append c.in-Some.digits.now rest in
    let room : length bytes < g.row.N = omega arith in
    let kept = c.push.ensures.kept ∙ ap (λ b. cond b (bytes ++ byte ∷ []) bytes) (lt-ltb _ _ room) in
    record {
      decodes = decoded_on c.args.line.now bytes _ c.in-Some.digits.now rest _ (Some byte) c.loop-digits.invariant.decodes step.0 size c.pair.ensures c.in_ok-byte.ensures.ok_part ∙ before_put bytes byte (decoded rest) ∙ ap (λ bs. before bs (decoded rest)) (sym kept);
      room = omega (arith, ap length kept, length-append bytes (byte ∷ []));
      size = c.in-Some.ensures.steps.0 ∙ c.loop-digits.invariant.size;
    }

pub returns : goal.returns
returns g c =
    let ds = c.args.line.now in
    let bytes = held c.loop-digits.bytes in
    let rest = chunks_exact_rest c.loop-digits.digits-iterator in
    let over : length rest ≡ 0 = omega (arith, c.in-None.ensures.steps.1.0) in
    let all : line_bytes g.row.N ds ≡ Some bytes = bounded g.row.N ds (omega (arith, false-eqb _ 0 c.if-is_empty.ensures)) (omega arith) ∙ c.loop-digits.invariant.decodes ∙ ap (λ rest. before bytes (decoded rest)) (nil_from_length rest over) ∙ ap Some (append-nil bytes) in
    record { answer = all; spelled = line_spells g.row.N ds bytes all }
