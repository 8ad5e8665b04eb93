-- What an event sent on trunks, read off its effects.
use Rattle.std.proofs.Common.{◌≡◌, Bool, true, false, cond, List, [], ◌∷◌, ◌++◌, refl, sym, ap, ◌∙◌, Some, append_assoc, append-nil}
use Rattle.dist_model.specs.Items.{Item}
use Rattle.dist_model.specs.Names.{Name}
use Rattle.dist_model.specs.Work.{Work}
use Rattle.dist_model.specs.declared.report.Effect.{Effect}
use Rattle.erl_names.specs.declared.trunk.TrunkId.{TrunkId}

pub record Envelope : Type 0 where
  pub trunk : TrunkId
  pub target : Name
  pub item : Item

abbrev pub sent_by : Effect Item → List Envelope
sent_by (Effect.Sent (Some trunk) peer item) = (record { trunk = trunk; target = peer; item = item }) ∷ []
sent_by _ = []

abbrev pub sent_in : List (Effect Item) → List Envelope
sent_in [] = []
sent_in (f ∷ fs) = sent_by f ++ sent_in fs

abbrev pub outgoing : Work → List Envelope
outgoing o = sent_in o.effects

pub sent_in-append : (fs gs : List (Effect Item)) → sent_in (fs ++ gs) ≡ sent_in fs ++ sent_in gs
sent_in-append [] gs = refl
sent_in-append (f ∷ fs) gs = ap (λ l. sent_by f ++ l) (sent_in-append fs gs) ∙ sym (append_assoc (sent_by f) (sent_in fs) (sent_in gs))

pub sent_in-push : (fs : List (Effect Item)) (f : Effect Item) → sent_in (fs ++ f ∷ []) ≡ sent_in fs ++ sent_by f
sent_in-push fs f = sent_in-append fs (f ∷ []) ∙ ap (λ l. sent_in fs ++ l) (append-nil (sent_by f))

-- an effect that sends nothing on a trunk
pub sent_in-silent : (fs : List (Effect Item)) (f : Effect Item) → sent_by f ≡ [] → sent_in (fs ++ f ∷ []) ≡ sent_in fs
sent_in-silent fs f h = sent_in-push fs f ∙ ap (λ l. sent_in fs ++ l) h ∙ append-nil (sent_in fs)

-- what was sent, and nothing else
abbrev pub mere : List (Effect Item) → List (Effect Item)
mere [] = []
mere (Effect.Sent t y x ∷ fs) = Effect.Sent t y x ∷ mere fs
mere (_ ∷ fs) = mere fs

pub sent_mere : (fs : List (Effect Item)) → sent_in (mere fs) ≡ sent_in fs
sent_mere [] = refl
sent_mere (Effect.Sent t y x ∷ fs) = ap (λ l. sent_by (Effect.Sent t y x) ++ l) (sent_mere fs)
sent_mere (_ ∷ fs) = sent_mere fs

pub sent_merely : (b : Bool) (fs : List (Effect Item)) → sent_in (cond b (mere fs) fs) ≡ sent_in fs
sent_merely true fs = sent_mere fs
sent_merely false fs = refl
