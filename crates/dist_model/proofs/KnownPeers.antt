-- What nodes know of creations, in every run.
use Rattle.std.proofs.Common.{◌≡◌, Bool, true, false, ◌&&◌, refl, sym, ap, ◌∙◌, subst, Option, Some, None, Contains, List, []}
use Rattle.std.proofs.lemmas.Bool.{and_parts, leb-true, not-true}
use Rattle.std.proofs.lemmas.Option.{same_Some, none-some}
use Rattle.std.specs.FinMap as fm
use Rattle.dist_model.proofs.Keys.{same_name_true}
use Rattle.dist_model.proofs.Known.{Known, Right, known_step, sender_is}
use Rattle.dist_model.proofs.Run.{always_kept, good_step_at, runs}
use Rattle.dist_model.proofs.Safety.{good_opening, none_at}
use Rattle.dist_model.proofs.Seen.{list_in, side_in}
use Rattle.dist_model.proofs.Sides.{side_at}
use Rattle.dist_model.proofs.Trunks.{Good}
use Rattle.dist_model.proofs.Truths.{none_within}
use Rattle.dist_model.specs.Arrivals.{from_peer, is_from, to_own}
use Rattle.dist_model.specs.Claims.{ConnectedKnow, IntroductionsAreKnown, IntroductionsAreTold, KnownForGood, NoneOfTheFuture}
use Rattle.dist_model.specs.Claims.{PayloadIsAgreed}
use Rattle.dist_model.specs.Introductions.{introduced, goes_on, knows_peer}
use Rattle.dist_model.proofs.LearntAt.{sender}
use Rattle.dist_model.specs.Names.{Name, place_cmp, same_name}
use Rattle.dist_model.specs.Node.{Node, both_offer}
use Rattle.dist_model.specs.Runs.{Always, opening}
use Rattle.dist_model.specs.Seen.{HasSide, seen}
use Rattle.dist_model.specs.Sides.{State, TrunkSide, Up, is_gone, is_up}
use Rattle.dist_model.specs.World.{World, list_to, node_name, node_of}
use Rattle.erl_control.specs.Ends.{receiver_of, sender_of}
use Rattle.erl_names.specs.declared.trunk.TrunkId.{TrunkId}
use Rattle.erl_handshake.specs.Flags.{offers}
use Rattle.erl_handshake.specs.declared.flags.Flag.{Flag}
use Rattle.erl_handshake.specs.declared.introduction.Introduction.{Introduction}
use Rattle.erl_handshake.specs.declared.setup.Setup.{Setup}
use Rattle.dist_model.specs.Handshake.{introduces}

either_order : (a b : Bool) → (a && b) ≡ (b && a)
either_order true true = refl
either_order false false = refl
either_order _ _ = refl

-- the node that has a side
record At (w : World) (x : Name) (t : TrunkId) (s : TrunkSide) : Type 0 where
  pub node : Node
  pub at : node_of w.nodes x ≡ Some node
  pub there : side_at node t ≡ Some s

at_side : (w : World) (x : Name) (t : TrunkId) (s : TrunkSide) → side_in (node_of w.nodes x) t ≡ Some s → At w x t s
at_side w x t s h = go (node_of w.nodes x) refl
  where
    go : (o : Option Node) → node_of w.nodes x ≡ o → At w x t s
    go None j = absurd (none-some s (sym (ap (λ z. side_in z t) j) ∙ h))
    go (Some n) j = record { node = n; at = j; there = sym (ap (λ z. side_in z t) j) ∙ h }

not_gone : (v : State) → goes_on v ≡ true → is_gone v ≡ false
not_gone v h = not-true (is_gone v) h

pub up_goes : (v : State) → is_up v ≡ true → (goes_on v ≡ true) × (knows_peer v ≡ true)
up_goes Up h = (refl, refl)
up_goes _ h = cc

-- while its side isn't gone
pub right_is : (w : World) (x y : Name) (t : TrunkId) (c : Introduction) → HasSide w x t y goes_on → Right w.nodes x t c → introduced w x ≡ Some c
right_is w x y t c h r =
    let a = at_side w x t h.side h.there in
    let same : r.node ≡ a.node = same_Some r.node a.node (sym r.at ∙ a.at) in
    let one : r.side ≡ h.side = same_Some r.side h.side (sym r.there ∙ ap (λ z. side_at z t) same ∙ a.there) in
    ap (λ o. seen o None (λ node. Some (introduces node))) r.at
    ∙ ap Some (sym (r.right (ap (λ (z : TrunkSide). is_gone z.state) one ∙ not_gone h.side.state h.state)))

abbrev pub Fine : World → Type 0
Fine w = Good w × Known w.nodes w.lists

pub told_of : (w : World) → Fine w → IntroductionsAreTold w
told_of w g x y t i c h j k =
    let a = at_side w x t h.side h.there in
    right_is w x y t c h (subst (λ z. Right w.nodes z t c)
    (ap (λ z. sender t (side_in (node_of w.nodes z) t)) (sym h.peer) ∙ sender_is w g.0 x a.node t h.side a.at a.there)
    (g.1.told t y i c j k))

pub known_of : (w : World) → Fine w → IntroductionsAreKnown w
known_of w g x y t h v =
    let b = at_side w y t v.side v.there in
    right_is w x y t v.side.introduction h
    (subst (λ z. Right w.nodes z t v.side.introduction) v.peer (g.1.known y b.node t v.side b.at b.there v.state))

abbrev side_as : (w : World) (x : Name) (t : TrunkId) (y : Name) (f : State → Bool) → (h : HasSide w x t y is_up) → f h.side.state ≡ true
    → HasSide w x t y f
side_as w x t y f h k = record { side = h.side; there = h.there; peer = h.peer; state = k }

pub connected_of : (w : World) → Fine w → ConnectedKnow w
connected_of w g x y t k = (
  known_of w g y x t (side_as w y t x goes_on k.1 (up_goes k.1.side.state k.1.state).0)
      (side_as w x t y knows_peer k.0 (up_goes k.0.side.state k.0.state).1),
  known_of w g x y t (side_as w x t y goes_on k.0 (up_goes k.0.side.state k.0.state).0)
      (side_as w y t x knows_peer k.1 (up_goes k.1.side.state k.1.state).1),
)

-- two connected nodes know each other's flags
agreed_of : (w : World) → Fine w → PayloadIsAgreed w
agreed_of w g x y t here there both hx hy =
    let k = connected_of w g x y t both in
    let same = λ (n : Node) (c : Introduction) (h : Some (introduces n) ≡ Some c).
    ap (λ (i : Introduction). offers i.flags Flag.ExitPayload) (same_Some (introduces n) c h) in
    let u : offers there.flags Flag.ExitPayload ≡ offers both.0.side.introduction.flags Flag.ExitPayload =
    same there both.0.side.introduction (sym (ap (λ o. seen o None (λ node. Some (introduces node))) hy) ∙ k.0) in
    let v : offers here.flags Flag.ExitPayload ≡ offers both.1.side.introduction.flags Flag.ExitPayload =
    same here both.1.side.introduction (sym (ap (λ o. seen o None (λ node. Some (introduces node))) hx) ∙ k.1) in
    ap (both_offer Flag.ExitPayload here) (sym (ap (λ o. side_in o t) hx) ∙ both.0.there)
    ∙ ap (λ b. offers here.flags Flag.ExitPayload && b) (sym u)
    ∙ either_order (offers here.flags Flag.ExitPayload) (offers there.flags Flag.ExitPayload)
    ∙ ap (λ b. offers there.flags Flag.ExitPayload && b) v
    ∙ sym (ap (both_offer Flag.ExitPayload there) (sym (ap (λ o. side_in o t) hy) ∙ both.1.there))

pub future_of : (w : World) → Fine w → NoneOfTheFuture w
future_of w g x y t n signal pay p k other h j =
    let v = and_parts (from_peer k.side (sender_of signal)) (to_own n (receiver_of signal)) h in
    let f : is_from k.side p ≡ true = sym (ap (from_peer k.side) j) ∙ v.0 in
    let u = and_parts (same_name p.node k.side.peer) _ f in (
      k.side.introduction,
      known_of w g y x t other (side_as w x t y knows_peer k (up_goes k.side.state k.state).1),
      same_name_true p.node k.side.peer u.0 ∙ k.peer,
      leb-true p.creation k.side.introduction.creation u.1,
    )

pub known_opening : (cs : List (Name × Setup)) → Known (opening cs).nodes (opening cs).lists
known_opening cs = record {
  told = λ t y i c h j. absurd (none_within i (subst (λ z. Contains z i) (empty t y) h));
  known = λ y n t s hy hs ks. absurd (none_at cs y n t s hy hs);
}
  where
    empty : (t : TrunkId) (y : Name) → list_to (opening cs).lists t y ≡ []
    empty t y = ap list_in (fm.get-empty place_cmp (t, y))

pub always_fine : (Holds : World → Type 0) → ((w : World) → Fine w → Holds w) → Always Holds
always_fine Holds f = always_kept Fine
    (λ w e k. (good_step_at w (node_of w.nodes (node_name e)) e refl k.0, (known_step w (node_of w.nodes (node_name e)) e refl k.0).0 k.1))
    Holds (λ cs. (good_opening cs, known_opening cs)) f

-- what was known stays right
pub lasting_of : (w : World) → Fine w → KnownForGood w
lasting_of w g es rs v run x y t k h =
    let a = at_side w x t k.side k.there in
    let r : Right w.nodes y t k.side.introduction =
    subst (λ z. Right w.nodes z t k.side.introduction) k.peer (g.1.known x a.node t k.side a.at a.there k.state) in
    right_is v y x t k.side.introduction h (runs (λ u. Good u × Right u.nodes y t k.side.introduction)
    (λ u e q. (
      good_step_at u (node_of u.nodes (node_name e)) e refl q.0,
      (known_step u (node_of u.nodes (node_name e)) e refl q.0).1 y t k.side.introduction q.1,
    ))
    w es rs v (g.0, r) run).1

pub told : Always IntroductionsAreTold
told = always_fine IntroductionsAreTold told_of

pub known : Always IntroductionsAreKnown
known = always_fine IntroductionsAreKnown known_of

pub connected : Always ConnectedKnow
connected = always_fine ConnectedKnow connected_of

pub agreed : Always PayloadIsAgreed
agreed = always_fine PayloadIsAgreed agreed_of

pub future : Always NoneOfTheFuture
future = always_fine NoneOfTheFuture future_of

pub lasting : Always KnownForGood
lasting = always_fine KnownForGood lasting_of
