-- What is sent on connections by one effect more.
use Rattle.std.proofs.Common.{◌≡◌, List, [], ◌∷◌, ◌++◌, Some, refl, ap, ◌∙◌, sym, append_assoc}
use Rattle.dist_model.specs.Names.{Name}
use Rattle.dist_model.specs.declared.report.Effect.{Effect}
use Rattle.erl_names.specs.declared.trunk.TrunkId.{TrunkId}
use Rattle.node_frames.specs.Frames.{Framed}
use Rattle.node_core.specs.SentAt.{one_at, sent_at}

pub sent_more : (t : TrunkId) (x : Name) (effects more : List (Effect Framed))
    → sent_at t x (effects ++ more) ≡ sent_at t x effects ++ sent_at t x more
sent_more t x [] more = refl
sent_more t x (Effect.Sent (Some u) y frame ∷ rest) more =
    ap (λ q. one_at (t, x) (u, y) frame ++ q) (sent_more t x rest more)
    ∙ sym (append_assoc (one_at (t, x) (u, y) frame) (sent_at t x rest) (sent_at t x more))
sent_more t x (effect ∷ rest) more = sent_more t x rest more

-- behind what stood there
pub behind : (t : TrunkId) (x : Name) (old : List Framed) (effects all : List (Effect Framed)) (effect : Effect Framed)
    → all ≡ effects ++ effect ∷ []
    → (old ++ sent_at t x effects) ++ sent_at t x (effect ∷ []) ≡ old ++ sent_at t x all
behind t x old effects all effect e =
    append_assoc old (sent_at t x effects) (sent_at t x (effect ∷ []))
    ∙ ap (λ q. old ++ q) (sym (sent_more t x effects (effect ∷ [])) ∙ ap (sent_at t x) (sym e))
