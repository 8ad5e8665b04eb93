-- A plan in which a side changes, or a message of the handshake is sent.
use Rattle.std.proofs.Common.{◌≡◌, List, [], ◌∷◌, ◌++◌, refl, sym, ap, subst, ◌∙◌, Result, Ok, Err}
use Rattle.std.specs.Prelude.{OnOk}
use Rattle.std.specs.declared.alloc.AllocError.{AllocError}
use Rattle.std.specs.FinMap.{FinMap}
use Rattle.std.specs.declared.alloc.Global.{Global}
use Rattle.std.specs.declared.vec.Vec.{Vec}
use Rattle.dist_model.specs.Items.{Item}
use Rattle.dist_model.specs.Node.{Node}
use Rattle.dist_model.specs.Sides.{TrunkSide}
use Rattle.dist_model.specs.Work.{Work, report}
use Rattle.dist_model.specs.declared.report.Effect.{Effect}
use Rattle.erl_names.specs.Order.{trunk_cmp}
use Rattle.node_plan.specs.Suits.{Lets, LetsAll}
use Rattle.node_plan.specs.Carried.{Makes, MakesOr, sided}
use Rattle.node_frames.specs.Frames.{Framed, SendsSpelled, shown}
use Rattle.node_plan.specs.Changed.{sides_after}
use Rattle.node_plan.specs.declared.plan.Plan.{Plan}
use Rattle.node_tables.specs.Changes.{side_changed}
use Rattle.node_tables.specs.declared.change.SideChange.{SideChange}
use Rattle.node_plan.proofs.Posted.{map_push, spelled_push}

one_more : (changes : List SideChange) (change : SideChange) (sides : FinMap trunk_cmp TrunkSide)
    → sides_after (changes ++ change ∷ []) sides ≡ side_changed change (sides_after changes sides)
one_more [] change sides = refl
one_more (first ∷ rest) change sides = one_more rest change (side_changed first sides)

lets_more : (changes : List SideChange) (change : SideChange) (sides : FinMap trunk_cmp TrunkSide)
    → LetsAll changes sides → Lets change (sides_after changes sides) → LetsAll (changes ++ change ∷ []) sides
lets_more [] change sides h k = (k, tt)
lets_more (first ∷ rest) change sides h k = (h.0, lets_more rest change (side_changed first sides) h.1 k)

module _ (plan : Plan) (m : Node) (work : Work) (h : Makes plan m work) where
  sides_are : work.node.sides ≡ sides_after plan.sides.items m.sides
  sides_are = ap (λ (n : Node). n.sides) h.node

  pub changed_side : (change : SideChange) (changes : Vec SideChange Global) → Lets change work.node.sides
      → changes.items ≡ plan.sides.items ++ change ∷ [] → Makes (record plan { sides = changes }) m (sided change work)
  changed_side change changes l e =
      let more : side_changed change work.node.sides ≡ sides_after changes.items m.sides =
      ap (side_changed change) sides_are ∙ sym (one_more plan.sides.items change m.sides) ∙ ap (λ xs. sides_after xs m.sides) (sym e) in
      let P : List SideChange → Type 0 = (λ xs. LetsAll xs m.sides) in
      record {
        sound = record { suits = h.sound.suits; named = h.sound.named; next = h.sound.next; sendable = h.sound.sendable };
        sides = subst P (sym e) (lets_more plan.sides.items change m.sides h.sides (subst (Lets change) sides_are l));
        dials = h.dials;
        node = (λ i. record (h.node i) { sides = more i });
        effects = h.effects;
        spelled = h.spelled;
      }

  pub makes_report : (effect : Effect Item) (effects : Vec (Effect Framed) Global) (told : Result (Unit {0}) AllocError)
      → OnOk told (effects.items ≡ plan.effects.items ++ shown effect ∷ []) → OnOk told (SendsSpelled effect)
      → MakesOr m (report effect work) (record plan { effects = effects }) told
  makes_report effect effects (Ok done) e s = record {
    sound = record { suits = h.sound.suits; named = h.sound.named; next = h.sound.next; sendable = h.sound.sendable };
    sides = h.sides;
    dials = h.dials;
    node = h.node;
    effects = e ∙ ap (λ xs. xs ++ shown effect ∷ []) h.effects ∙ sym (map_push shown work.effects effect);
    spelled = spelled_push work.effects effect h.spelled s;
  }
  makes_report effect effects (Err x) e s = tt
