-- The effects of an event as they are told, one after the other.
use Rattle.std.proofs.Common.{◌≡◌, ℕ, ◌+◌, ◌<◌, ◌≤◌, List, [], ◌∷◌, ◌++◌, length, get_or, map, take, sym, ap, subst, ◌∙◌, add-one}
use Rattle.std.proofs.Math.Seq.{take-suc}
use Rattle.std.proofs.lemmas.List.{map-append, take_all}
use Rattle.dist_model.specs.declared.report.Effect.{Effect}
use Rattle.node_frames.specs.Frames.{Framed}
use Rattle.script_json.specs.Reports.{AreEffects, IsEffectData}
use Rattle.serde_json.specs.Data.{Data}
use Rattle.serde_json.specs.View.{view}
use Rattle.serde_json.specs.declared.value.Value.{Value}

pub one_more : (effects : List (Effect Framed)) (all : List Data) (effect : Effect Framed) (told : Data) → AreEffects effects all
    → IsEffectData effect told → AreEffects (effects ++ effect ∷ []) (all ++ told ∷ [])
one_more [] [] effect told h is = (is, tt)
one_more [] (x ∷ all) effect told h is = absurd h
one_more (e ∷ effects) [] effect told h is = absurd h
one_more (e ∷ effects) (x ∷ all) effect told h is = (h.0, one_more effects all effect told h.1 is)

-- after one step of a loop, and after the last
pub told_next : (effects : List (Effect Framed)) (values more : List Value) (value : Value) (i : ℕ) (effect : Effect Framed)
    → i < length effects → effect ≡ get_or effects i effect → more ≡ values ++ value ∷ [] → AreEffects (take i effects) (map view values)
    → IsEffectData effect (view value) → AreEffects (take (i + 1) effects) (map view more)
told_next effects values more value i effect h e p all is =
    let passed : take (i + 1) effects ≡ take i effects ++ effect ∷ [] =
    ap (λ (n : ℕ). take n effects) (add-one i) ∙ take-suc effects i effect h
    ∙ ap (λ (it : Effect Framed). take i effects ++ it ∷ []) (sym e) in
    let told : map view more ≡ map view values ++ view value ∷ [] =
    ap (λ (vs : List Value). map view vs) p ∙ map-append view values (value ∷ []) in
    subst (λ (es : List (Effect Framed)). AreEffects es (map view more)) (sym passed)
    (subst (λ (ds : List Data). AreEffects (take i effects ++ effect ∷ []) ds) (sym told)
    (one_more (take i effects) (map view values) effect (view value) all is))

pub told_all : (effects : List (Effect Framed)) (all : List Data) (i : ℕ) → length effects ≤ i → AreEffects (take i effects) all
    → AreEffects effects all
told_all effects all i h told = subst (λ (es : List (Effect Framed)). AreEffects es all) (take_all i effects h) told
