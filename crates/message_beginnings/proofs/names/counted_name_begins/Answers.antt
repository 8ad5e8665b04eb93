use Rattle.std.proofs.Common.{◌≡◌, ◌∙◌, ◌∷◌, [], ap, List, ℕ}
use Rattle.std.proofs.lemmas.Bool.{leb-true, le-leb}
use Rattle.message_beginnings.proofs.Fronts.{none_begins, zero_begins, has_room, none_left, with_byte}
use Rattle.message_beginnings.proofs.names.counted_name_begins.Goals as goal

pub returns-in_default : goal.returns-in_default
returns-in_default c =
    let most = c.args.most in
    rw (none_left c.args.bytes.now c.in_default.ensures.cases) (λ r. none_begins most (leb-true 3 most r), λ b. le-leb 3 most (has_room most [] b))

pub returns-in_default-split_first : goal.returns-in_default-split_first
returns-in_default-split_first c =
    let most = c.args.most in
    let inner = c.in-Some.bytes.now in
    let none : inner ≡ [] = none_left inner c.in_default-split_first.ensures.cases in
    let e : c.args.bytes.now ≡ 0 ∷ [] = with_byte c.args.bytes.now c.in-Some.high.now 0 inner c.in-Some.ensures.cases.0 c.if-high-ne0.false
    ∙ ap (λ (w : List ℕ). 0 ∷ w) none in
    rw e (λ r. zero_begins most (leb-true 3 most r), λ b. le-leb 3 most (has_room most (0 ∷ []) b))
