-- What a change of a line, the tags or the bytes keeps. Assumes nothing.
use Rattle.std.proofs.Common.{◌≡◌, ℕ, ◌<◌, List, length, set, ap, ◌∙◌, length-set}
use Rattle.std.specs.List.{All}
use Rattle.std.proofs.lemmas.List.Elements.{All-set}
use Rattle.emulated.specs.declared.Line.{Line}
use Rattle.emulated.specs.Held.{Tables, Kept, LineFits, served}

pub kept_with : (t : Tables) (b : ℕ) (l : Line) (tags bytes : List ℕ) → Kept t → LineFits t.geometry l → length tags ≡ length t.tags → length bytes ≡ length t.bytes → All (λ x. x < 65536) tags
    → Kept (record { geometry = t.geometry; lines = set t.lines b l; tags = tags; bytes = bytes })
kept_with t b l tags bytes k fits many long tagged = record {
  served_is = ap (λ n. served t.geometry n (length bytes)) many ∙ ap (λ n. served t.geometry (length t.tags) n) long ∙ k.served_is;
  long = length-set t.lines b l ∙ k.long;
  lines_fit = All-set (LineFits t.geometry) t.lines b l fits k.lines_fit;
  tags_fit = tagged;
}
