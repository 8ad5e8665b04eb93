use Rattle.std.proofs.Common.{◌≡◌, ◌∙◌, ap, take, Bor, List, ℕ}
use Rattle.message_beginnings.proofs.Fronts.{in_front, of_front, known_is}
use Rattle.message_beginnings.proofs.names.name_begins.Goals as goal

pub returns : goal.returns
returns c =
    let len = c.args.len in
    let text = c.args.text.now in
    let known = c.unwrap_or.result.now in
    let e : known ≡ take len text = ap (λ (x : Bor (List ℕ)). x.now) c.unwrap_or.ensures
    ∙ known_is len c.args.text c.get.result c.get.ensures.lookup.0 in
    let whole = c.whole_name_begins.ensures in
    (λ r. in_front len text known e (whole.0 r), λ b. whole.1 (of_front len text known e b))
