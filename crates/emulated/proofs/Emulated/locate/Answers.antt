use Rattle.std.proofs.Common.{◌≡◌, ◌+◌, ◌*◌, ◌<◌, ◌≤◌, length, sym, ap, ◌∙◌, subst, arith}
use Rattle.emulated.specs.Held.{Tables, place}
use Rattle.emulated.specs.Laws.{bytes_in}
use Rattle.emulated.specs.Meaning.{kept_room}
use Rattle.emulated.proofs.Emulated.locate.Goals as goal

pub returns-clause-bytes : goal.returns-clause-bytes
returns-clause-bytes c =
    let s = c.args.self.now in
    let b = c.args.block in
    let i = c.args.page in
    let d = s.geometry.size in
    let pages : c.self.inside.geometry.pages ≡ s.geometry.pages = ap (λ (t : Tables). t.geometry.pages) c.self.view_is in
    let li : i < s.geometry.pages = subst (λ p. i < p) pages c.if-page-self.false in
    let at : c.from.result * c.self.inside.geometry.pages + i ≡ place s.geometry.pages b i = ap (λ j. j * c.self.inside.geometry.pages + i) c.from.ensures ∙ ap (λ p. b * p + i) pages in
    let has = kept_room s c.in_ok-line.ensures.kept in
    let fits : place s.geometry.pages b i * d + d ≤ length s.bytes = omega (arith, has.room, bytes_in s.geometry.blocks s.geometry.pages d b i c.in_ok-line.ensures.inside li) in
    subst (λ j. j * d + d ≤ length s.bytes) (sym at) fits
