-- A signal that is sent: a plan goes on to carry out what the model does.
use Rattle.std.proofs.Common.{◌≡◌, Bool, true, false, cond, not, ◌&&◌, List, [], ◌∷◌, ◌++◌, map, Option}
use Rattle.std.proofs.Common.{None, Some, refl, sym, ap, subst, ◌∙◌, append_assoc, Result, Ok, Err}
use Rattle.std.specs.Prelude.{OnOk}
use Rattle.std.specs.declared.alloc.AllocError.{AllocError}
use Rattle.std.specs.declared.alloc.Global.{Global}
use Rattle.std.specs.declared.vec.Vec.{Vec}
use Rattle.std.specs.FinMap as fm
use Rattle.dist_model.specs.Items.{Item, Signalled, has_reason}
use Rattle.dist_model.specs.Names.{Name, same_name}
use Rattle.dist_model.specs.Node.{Node, both_offer, payload_on, payload_to, route, route_in}
use Rattle.dist_model.specs.Sides.{TrunkSide}
use Rattle.dist_model.specs.Work.{Addressed, Work, keep_local, post, report, send_on, spelled}
use Rattle.dist_model.specs.declared.report.Effect.{Effect}
use Rattle.erl_control.specs.declared.signal.Signal.{Signal}
use Rattle.erl_handshake.specs.Flags.{offers}
use Rattle.erl_handshake.specs.declared.flags.Flag.{Flag}
use Rattle.erl_names.specs.declared.trunk.TrunkId.{TrunkId}
use Rattle.node_plan.specs.Carried.{Carries, CarriesOut}
use Rattle.node_plan.specs.Sent.{IsSent, IsSentBy}
use Rattle.node_frames.specs.Frames.{AllSpelled, Framed, IsSpelled, SendsSpelled, framed, shown}
use Rattle.node_frames.specs.Sendable.{are_sendable, is_sendable}
use Rattle.node_plan.specs.Changed.{popped, sides_after}
use Rattle.node_plan.specs.OwnList.{own_item}
use Rattle.node_plan.specs.declared.plan.Plan.{Plan}
use Rattle.node_plan.proofs.KeptAfter.{named_after, sendable_both}

pub map_push : {A B : Type 0} (f : A → B) (xs : List A) (x : A) → map f (xs ++ x ∷ []) ≡ map f xs ++ f x ∷ []
map_push f [] x = refl
map_push f (y ∷ ys) x = ap (λ l. f y ∷ l) (map_push f ys x)

-- one more is sent
pub spelled_push : (effects : List (Effect Item)) (effect : Effect Item) → AllSpelled effects → SendsSpelled effect
    → AllSpelled (effects ++ effect ∷ [])
spelled_push [] effect h s = (s, tt)
spelled_push (first ∷ rest) effect h s = (h.0, spelled_push rest effect h.1 s)

-- an effect is told
pub carries_report : (plan : Plan) (m : Node) (work : Work) (effect : Effect Item) (effects : Vec (Effect Framed) Global)
    (told : Result (Unit {0}) AllocError)
    → CarriesOut plan m work → SendsSpelled effect → OnOk told (effects.items ≡ plan.effects.items ++ shown effect ∷ [])
    → Carries m (report effect work) (record plan { effects = effects }) told
carries_report plan m work effect effects (Ok done) h s e = record {
  sound = record { suits = h.sound.suits; named = h.sound.named; next = h.sound.next; sendable = h.sound.sendable };
  still = h.still;
  calm = h.calm;
  node = h.node;
  effects = e ∙ ap (λ xs. xs ++ shown effect ∷ []) h.effects ∙ sym (map_push shown work.effects effect);
  spelled = spelled_push work.effects effect h.spelled s;
}
carries_report plan m work effect effects (Err x) h s e = tt

-- two nodes of one name and the same flags and sides spell a signal alike
offer_same : (n m : Node) → n.flags ≡ m.flags → (side : Option TrunkSide)
    → both_offer Flag.ExitPayload n side ≡ both_offer Flag.ExitPayload m side
offer_same n m f None = refl
offer_same n m f (Some side) =
    ap (λ word. offers word Flag.ExitPayload && offers side.introduction.flags Flag.ExitPayload) f

on_same : (n m : Node) → n.flags ≡ m.flags → n.sides ≡ m.sides → (way : Option TrunkId) → payload_on n way ≡ payload_on m way
on_same n m f s None = refl
on_same n m f s (Some t) =
    offer_same n m f (fm.get n.sides t) ∙ ap (λ sides. both_offer Flag.ExitPayload m (fm.get sides t)) s

payload_same : (n m : Node) (name : Name) → n.mint.name ≡ m.mint.name → n.flags ≡ m.flags → n.sides ≡ m.sides
    → payload_to n name ≡ payload_to m name
payload_same n m name e f s =
    ap (λ own. not (same_name name own) && payload_on n (route n name)) e
    ∙ ap (λ b. not (same_name name m.mint.name) && b)
    (on_same n m f s (route n name) ∙ ap (λ sides. payload_on m (route_in (fm.entries sides) name)) s)

and_false : (b : Bool) → (b && false) ≡ false
and_false true = refl
and_false false = refl

-- within the node a signal has the first spelling
pub spelled_within : (m : Node) (letter : Addressed) → same_name letter.node m.mint.name ≡ true
    → spelled m letter ≡ own_item letter.signal
spelled_within m letter e =
    let way = payload_on m (route m letter.node) in
    ap (λ b. Signalled letter.signal (has_reason letter.signal && (not b && way))) e
    ∙ ap (Signalled letter.signal) (and_false (has_reason letter.signal))

module _ (plan : Plan) (m : Node) (work : Work) (letter : Addressed) (local : Vec Signal Global) (effects : Vec (Effect Framed) Global)
    (h : CarriesOut plan m work) where
  abbrev item : Item
  item = spelled m letter

  -- where the signal goes
  abbrev there : Name
  there = letter.node

  abbrev on : TrunkId → Effect Item
  on t = Effect.Sent (Some t) there item

  abbrev after : Plan
  after = record plan { local = local; effects = effects }

  name_stays : work.node.mint.name ≡ m.mint.name
  name_stays = ap (λ (n : Node). n.mint.name) h.node ∙ (named_after plan.change plan.draws m.mint).0

  spelled_stays : spelled work.node letter ≡ item
  spelled_stays =
      let sides = ap (λ (n : Node). n.sides) h.node ∙ ap (λ xs. sides_after xs m.sides) h.still in
      ap (λ b. Signalled letter.signal (has_reason letter.signal && b))
      (payload_same work.node m there name_stays (ap (λ (n : Node). n.flags) h.node) sides)

  goes : (b : Bool) → same_name there m.mint.name ≡ b
      → post letter work ≡ cond b (keep_local item work) (send_on (route work.node there) there item work)
  goes b e =
      let sends : Bool → Item → Work = (λ b item. cond b (keep_local item work) (send_on (route work.node there) there item work)) in
      ap (λ b. sends b (spelled work.node letter)) (ap (same_name there) name_stays ∙ e) ∙ ap (sends b) spelled_stays

  way : (o : Option TrunkId) → route m there ≡ o → route work.node there ≡ o
  way o e = ap (λ (n : Node). route n there) h.node ∙ ap (λ xs. route_in (fm.entries (sides_after xs m.sides)) there) h.still ∙ e

  -- into the own list
  kept : same_name there m.mint.name ≡ true → local.items ≡ plan.local.items ++ letter.signal ∷ []
      → effects.items ≡ plan.effects.items ++ Effect.Sent None m.mint.name (framed item) ∷ []
      → IsSpelled item → is_sendable letter.signal ≡ true → CarriesOut after m (keep_local item work)
  kept e l f written s =
      let told : Effect Item = Effect.Sent None work.node.mint.name item in
      let more : work.node.local ++ item ∷ [] ≡ popped plan.pops m.local ++ map own_item local.items =
      ap (λ (n : Node). n.local ++ item ∷ []) h.node
      ∙ append_assoc (popped plan.pops m.local) (map own_item plan.local.items) (item ∷ [])
      ∙ ap (λ xs. popped plan.pops m.local ++ xs) (ap (λ x. map own_item plan.local.items ++ x ∷ []) (spelled_within m letter e)
      ∙ sym (map_push own_item plan.local.items letter.signal) ∙ ap (map own_item) (sym l)) in
      let sendable : are_sendable local.items ≡ true =
      ap are_sendable l ∙ sendable_both plan.local.items (letter.signal ∷ []) h.sound.sendable (ap (λ b. b && true) s) in
      record {
        still = h.still;
        calm = h.calm;
        sound = record { suits = h.sound.suits; named = h.sound.named; next = h.sound.next; sendable = sendable };
        node = (λ i. record (h.node i) { local = more i });
        effects = f ∙ ap (λ xs. xs ++ Effect.Sent None m.mint.name (framed item) ∷ []) h.effects
            ∙ ap (λ x. map shown work.effects ++ Effect.Sent None x (framed item) ∷ []) (sym name_stays)
            ∙ sym (map_push shown work.effects told);
        spelled = spelled_push work.effects told h.spelled written;
      }

  -- the own list stays
  module _ (l : local.items ≡ plan.local.items) where
    local_stays : work.node.local ≡ popped plan.pops m.local ++ map own_item local.items
    local_stays = ap (λ (n : Node). n.local) h.node ∙ ap (λ xs. popped plan.pops m.local ++ map own_item xs) (sym l)

    -- onto the connection that is up
    sent_on : (t : TrunkId) → effects.items ≡ plan.effects.items ++ shown (on t) ∷ [] → IsSpelled item
        → CarriesOut after m (report (on t) work)
    sent_on t f written = record {
      still = h.still;
      calm = h.calm;
      sound = record { suits = h.sound.suits; named = h.sound.named; next = h.sound.next; sendable = ap are_sendable l ∙ h.sound.sendable };
      node = (λ i. record (h.node i) { local = local_stays i });
      effects = f ∙ ap (λ xs. xs ++ shown (on t) ∷ []) h.effects ∙ sym (map_push shown work.effects (on t));
      spelled = spelled_push work.effects (on t) h.spelled written;
    }

    -- nowhere
    dropped : effects.items ≡ plan.effects.items → CarriesOut after m work
    dropped f = record {
      still = h.still;
      calm = h.calm;
      sound = record { suits = h.sound.suits; named = h.sound.named; next = h.sound.next; sendable = ap are_sendable l ∙ h.sound.sendable };
      node = (λ i. record (h.node i) { local = local_stays i });
      effects = f ∙ h.effects;
      spelled = h.spelled;
    }

  by : (b : Bool) (o : Option TrunkId) → same_name there m.mint.name ≡ b → route m there ≡ o → is_sendable letter.signal ≡ true
      → IsSentBy b o m.mint.name letter item plan.local.items local.items plan.effects.items effects.items
      → CarriesOut after m (post letter work)
  by true o e r s k = subst (CarriesOut after m) (sym (goes true e)) (kept e k.0 k.1 k.2 s)
  by false (Some t) e r s k =
      subst (CarriesOut after m) (sym (goes false e ∙ ap (λ w. send_on w there item work) (way (Some t) r))) (sent_on k.0 t k.1 k.2)
  by false None e r s k =
      subst (CarriesOut after m) (sym (goes false e ∙ ap (λ w. send_on w there item work) (way None r))) (dropped k.0 k.1)

  pub carries_post : (sent : Result (Unit {0}) AllocError) → is_sendable letter.signal ≡ true
      → OnOk sent (IsSent m letter plan.local.items local.items plan.effects.items effects.items)
      → Carries m (post letter work) after sent
  carries_post (Ok done) s k = by (same_name there m.mint.name) (route m there) refl refl s k
  carries_post (Err e) s k = tt
