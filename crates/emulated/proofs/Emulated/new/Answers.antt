use Rattle.std.proofs.Common.{◌≡◌, length, replicate, sym, ap, ◌∙◌, subst, arith}
use lib.ListN.{length-replicate}
use Rattle.std.proofs.lemmas.List.Elements.{All-replicate}
use Rattle.flash.specs.declared.Geometry.{Geometry}
use Rattle.flash.specs.Meaning.{blank}
use Rattle.emulated.specs.Held.{Tables, LineFits, no_line, served}
use Rattle.emulated.specs.Laws.{served_again}
use Rattle.emulated.specs.Meaning.{emulated_is}
use Rattle.emulated.proofs.Lines.{held_blank}
use Rattle.emulated.proofs.Emulated.new.Goals as goal

pub invariant_of-result : goal.invariant_of-result
invariant_of-result c =
    let tags = length c.args.tags.now in
    let bytes = length c.args.bytes.now in
    record {
      served_is = subst (λ (g : Geometry). served g tags bytes ≡ g) (sym c.served.ensures.is) (served_again c.args.geometry tags bytes);
      long = length-replicate 256 no_line;
      lines_fit = All-replicate (LineFits c.served.result) 256 no_line (omega arith, omega arith);
      tags_fit = c.served.ensures.tags_fit;
    }

pub returns : goal.returns
returns c =
    let made : Tables = record { geometry = c.served.result; lines = replicate 256 no_line; tags = c.args.tags.now; bytes = c.args.bytes.now } in
    emulated_is made (invariant_of-result c)
    ∙ held_blank c.served.result c.args.tags.now c.args.bytes.now c.served.ensures.room.few ∙ ap blank c.served.ensures.is
