-- What stands first in a list is due: new sides, the dialer's word that it goes on, losses and sweeps.
use Rattle.std.proofs.Common.{◌≡◌, ℕ, Bool, true, false, cond, List, refl, sym, ap, ◌∙◌, subst, Option, Some, None, inl, inr, ◌||◌, nat_lt}
use Rattle.std.proofs.lemmas.Option.{same_Some, none-some}
use Rattle.std.specs.Ordering.{is_gt}
use Rattle.std.specs.FinMap as fm
use Rattle.std.specs.FinMap.{FinMap}
use Rattle.dist_model.proofs.Calls.{IfGoes, if_either}
use Rattle.dist_model.proofs.DueWork.{Going, ends_side, sets_side, tells, tells_more}
use Rattle.dist_model.proofs.Keys.{same_name_is}
use Rattle.dist_model.proofs.Pairs.{Met}
use Rattle.dist_model.proofs.SideChanges.{side_after_other, side_after_same}
use Rattle.dist_model.proofs.Routes.{side_where_found}
use Rattle.dist_model.proofs.Rules.{accepts, awaits_name, greet, greet_dialing, greet_up, greet_waiting}
use Rattle.dist_model.proofs.Sides.{holds, side_at, up_is}
use Rattle.dist_model.proofs.Trunks.{role_gone, role_state, up_once}
use Rattle.dist_model.specs.Admission.{give_up}
use Rattle.dist_model.specs.Handshake.{challenge, up_is_lost, challenge_or_park, send_challenge_or_park, set_state, write}
use Rattle.dist_model.specs.Items.{Handshake, Item}
use Rattle.dist_model.proofs.Records.{has_records}
use Rattle.dist_model.specs.Losses.{close_side, lose_at, released_by, release_parked, close_if_swept}
use Rattle.dist_model.specs.Names.{Name, place_cmp, same_name}
use Rattle.dist_model.specs.Node.{Node, side_where}
use Rattle.dist_model.specs.Sides.{Accepting, Asked, AwaitsStatus, Gone, Losing, Parked, State, TrunkSide}
use Rattle.dist_model.specs.Sides.{Up, is_dialing, is_losing, is_over, is_parked, is_up, is_waiting, lost}
use Rattle.dist_model.specs.Work.{Work}
use Rattle.dist_model.specs.World.{node_of}
use Rattle.erl_handshake.specs.Flags.{has_all_of, mandatory}
use Rattle.erl_handshake.specs.Roles.{is_same}
use Rattle.erl_handshake.specs.declared.message.ShakeMsg.{ShakeMsg}
use Rattle.erl_handshake.specs.declared.status.Status.{Status}
use Rattle.erl_names.specs.Order.{name_cmp}
use Rattle.erl_names.specs.declared.trunk.TrunkId.{TrunkId}
use Rattle.dist_model.proofs.Handshake.{role_lost}
use Rattle.dist_model.proofs.DueWorld.{Whose}
use Rattle.erl_handshake.specs.declared.introduction.Introduction.{Introduction}
use Rattle.erl_handshake.specs.Roles.{introduction_by}
use Rattle.dist_model.specs.Sides.{untold}

pub lost_ends : (v : State) → (is_over (lost v) ≡ true) × (holds v ≡ false → holds (lost v) ≡ false)
    × (holds (lost v) ≡ true → holds v ≡ true)
lost_ends Up = (refl, λ i. cc, λ i. refl)
lost_ends Losing = (refl, λ i. cc, λ i. refl)
lost_ends _ = (refl, λ i. refl, λ i. cc)

module _ (ns : List Node) (m : FinMap place_cmp (List Item)) (x : Name) (n : Node) (hx : node_of ns x ≡ Some n) where
  abbrev X : Work → Type 0
  X = Going ns m x n hx

  pub loses : (o : Work) (t : TrunkId) (s : TrunkSide) → side_at o.node t ≡ Some s → X o → X (set_state t s (lost s.state) o)
  loses o t s h g = let k = lost_ends s.state in ends_side ns m x n hx o t s (lost s.state) g h k.0 k.1 k.2
      (role_lost (same_name t.dialer x) s.state)

  gone_side : (o : Work) (t : TrunkId) (s : TrunkSide) → side_at o.node t ≡ Some s → X o → X (set_state t s Gone o)
  gone_side o t s h g = ends_side ns m x n hx o t s Gone g h refl (λ i. refl) (λ i. cc) (role_gone (same_name t.dialer x))

  there_of : (test : State → Bool) (y : Name) (o : Work) (e : TrunkId × TrunkSide) → side_where test y (fm.entries o.node.sides) ≡ Some e
      → (side_at o.node e.0 ≡ Some e.1) × (test e.1.state ≡ true)
  there_of test y o e h = let f = side_where_found test y (fm.entries o.node.sides) e (fm.entries_sorted o.node.sides) h in
      (fm.get-entries o.node.sides e.0 ∙ f.there, f.passes)

  still_new : (o : Work) (t : TrunkId) (e : TrunkId × TrunkSide) (u : State) → side_at o.node e.0 ≡ Some e.1 → side_at o.node t ≡ None
      → side_at ((set_state e.0 e.1 u o).node) t ≡ None
  still_new o t e u h none = side_after_other o.node e.0 _ t (λ i. none-some e.1 (sym none ∙ ap (side_at o.node) i ∙ h)) ∙ none

  -- ---- a new side

  module _ (t : TrunkId) (far : t.dialer ≡ x → ⊥) (k : Met ns t x) where
    abbrev new : Introduction → TrunkSide
    new c = record { peer = t.dialer; introduction = c; state = Gone }

    new_gone : (c : Introduction) (o : Work) → side_at o.node t ≡ None → X o → X (set_state t (new c) Gone o)
    new_gone c o h g = sets_side ns m x n hx t far k (new c) refl o None Gone g h refl refl (inl (refl, refl)) refl

    refused : (c : Introduction) (o : Work) → side_at o.node t ≡ None → X o
        → X (write t t.dialer (ShakeMsg.Status Status.Nok) (set_state t (new c) Gone o))
    refused c o h g = tells ns m x n hx t far k (new c) refl o None Gone (ShakeMsg.Status Status.Nok) g h refl refl (inl (refl, refl)) refl
        refl refl

    accepted : (c : Introduction) (w : ℕ) (v : Status) (i : Item) (o : Work) → side_at o.node t ≡ None → X o
        → IfGoes (accepts t (new c) w (ShakeMsg.Status v) i o) X
    accepted c w v i o h g = tells_more ns m x n hx t far k (new c) refl
        (write t t.dialer (ShakeMsg.Status v) (set_state t (new c) (Accepting w) o))
        (record { peer = t.dialer; introduction = c; state = Accepting w }) (challenge o.node w)
        (tells ns m x n hx t far k (new c) refl o None (Accepting w) (ShakeMsg.Status v) g h refl refl (inr refl) refl refl refl)
        (side_after_same o.node t _) refl refl refl

    greets_dialing : (c : Introduction) (w : ℕ) (i : Item) (o : Work) (d : Option (TrunkId × TrunkSide))
        → side_where is_dialing t.dialer (fm.entries o.node.sides) ≡ d → side_at o.node t ≡ None → X o
        → IfGoes (greet_dialing d t (new c) w i o) X
    greets_dialing c w i o None j h g = accepted c w Status.Ok i o h g
    greets_dialing c w i o (Some e) j h g = let f = there_of is_dialing t.dialer o e j in
        if_either (is_gt (name_cmp t.dialer o.node.mint.name)) _ _ X
        (accepted c w Status.OkSimultaneous i (give_up (Some e) o) (still_new o t e Gone f.0 h) (gone_side o e.0 e.1 f.0 g))
        (refused c o h g)

    greets_up : (c : Introduction) (w : ℕ) (i : Item) (o : Work) (d : Option (TrunkId × TrunkSide)) → side_at o.node t ≡ None → X o
        → IfGoes (greet_up d t (new c) w i o) X
    greets_up c w i o None h g = greets_dialing c w i o (side_where is_dialing t.dialer (fm.entries o.node.sides)) refl h g
    greets_up c w i o (Some e) h g = tells ns m x n hx t far k (new c) refl o None (Asked w) (ShakeMsg.Status Status.Alive) g h refl refl
        (inr refl) refl refl refl

    greets : (c : Introduction) (w : ℕ) (i : Item) (o : Work) → side_at o.node t ≡ None → X o → IfGoes (greet t (new c) w i o) X
    greets c w i o h g = greets_up c w i o (side_where (λ v. is_up v || is_losing v) t.dialer (fm.entries o.node.sides)) h g

    greets_waiting : (c : Introduction) (w : ℕ) (i : Item) (o : Work) (d : Option (TrunkId × TrunkSide))
        → side_where is_waiting t.dialer (fm.entries o.node.sides) ≡ d → side_at o.node t ≡ None → X o
        → IfGoes (greet_waiting d t (new c) w i o) X
    greets_waiting c w i o None j h g = greets c w i o h g
    greets_waiting c w i o (Some e) j h g = let f = there_of is_waiting t.dialer o e j in
        if_either (nat_lt e.0.count t.count) _ _ X
        (greets c w i (give_up (Some e) o) (still_new o t e Gone f.0 h) (gone_side o e.0 e.1 f.0 g))
        (refused c o h g)

    pub named : (w : ℕ) (f c : ℕ) (y : List ℕ) (o : Work) → side_at o.node t ≡ None → X o
        → IfGoes (awaits_name t (ShakeMsg.SendName f c y) w o) X
    named w f c y o h g = if_either (is_same y t.dialer) _ _ X (if_either (has_all_of f mandatory) _ _ X
        (greets_waiting (introduction_by c f) w (Handshake (ShakeMsg.SendName f c y)) o (side_where is_waiting t.dialer (fm.entries o.node.sides)) refl h g)
        (new_gone (introduction_by c f) o h g)) (new_gone (introduction_by c f) o h g)

    pub bad_name : (o : Work) → side_at o.node t ≡ None → X o → X (set_state t (new untold) Gone o)
    bad_name o h g = new_gone untold o h g

  -- ---- the dialer goes on

  module _ (t : TrunkId) (far : t.dialer ≡ x → ⊥) (k : Met ns t x) (s : TrunkSide) (ps : s.peer ≡ t.dialer) (w : ℕ) where
    went_on : (o : Work) (d : Option (TrunkId × TrunkSide)) → side_at o.node t ≡ Some s → up_once s.state ≡ false → holds s.state ≡ false
        → X o → X (challenge_or_park d t s w o)
    went_on o None h f e g = tells ns m x n hx t far k s ps o (Some s) (Accepting w) (challenge o.node w) g h f e (inr refl) refl refl refl
    went_on o (Some l) h f e g = sets_side ns m x n hx t far k s ps o (Some s) (Parked w) g h f e (inr refl) refl

    pub asked : (o : Work) (d : Option (TrunkId × TrunkSide)) → side_where is_up s.peer (fm.entries o.node.sides) ≡ d
        → side_at o.node t ≡ Some s → s.state ≡ Asked w → X o → X (send_challenge_or_park t s w (up_is_lost d o))
    asked o None j h a g = went_on o (side_where is_losing s.peer (fm.entries o.node.sides)) h (ap up_once a) (ap holds a) g
    asked o (Some e) j h a g =
        let f = there_of is_up s.peer o e j in
        let u = up_is e.1.state f.1 in
        let apart : t ≡ e.0 → ⊥ = λ i.
        let q : s ≡ e.1 = same_Some s e.1 (sym h ∙ ap (side_at o.node) i ∙ f.0) in
        let z : Asked w ≡ Up = sym a ∙ ap (λ (y : TrunkSide). y.state) q ∙ u in cc in
        let o1 = up_is_lost (Some e) o in
        went_on o1 (side_where is_losing s.peer (fm.entries o1.node.sides)) (side_after_other o.node e.0 _ t apart ∙ h) (ap up_once a)
        (ap holds a)
        (ends_side ns m x n hx o e.0 e.1 Losing g f.0 refl (λ i. let z : true ≡ false = sym (ap holds u) ∙ i in cc) (λ i. ap holds u)
        (role_lost (same_name e.0.dialer x) Up))

  -- ---- a side is lost

  pub loses_at : (o : Work) (t : TrunkId) (s : TrunkSide) → side_at o.node t ≡ Some s → X o → (v : State) → s.state ≡ v
      → IfGoes (lose_at v t s o) X
  loses_at o t s h g Up e = subst (λ v. X (set_state t s v o)) (ap lost e) (loses o t s h g)
  loses_at o t s h g Losing e = tt
  loses_at o t s h g Gone e = tt
  loses_at o t s h g _ e = gone_side o t s h g

  -- ---- a sweep

  unparks_by : (o : Work) (t : TrunkId) (s : TrunkSide) → side_at o.node t ≡ Some s → X o → (v : State) → s.state ≡ v
      → X (released_by v t s o)
  unparks_by o t s h g (Parked w) e = go (same_name t.dialer x) refl (g.told t s h).whose
    where
      go : (b : Bool) → same_name t.dialer x ≡ b → Whose ns x t s → X (write t s.peer (challenge o.node w) (set_state t s (Accepting w) o))
      go b i (inl d) =
          let r : role_state true (Parked w) ≡ true = sym (ap (λ c. role_state c (Parked w)) (same_name_is t.dialer x d))
          ∙ ap (role_state (same_name t.dialer x)) (sym e) ∙ (g.told t s h).role in
          absurd (let z : true ≡ false = sym r in cc)
      go b i (inr d) = tells ns m x n hx t d.0 d.2 s (sym d.1) o (Some s) (Accepting w) (challenge o.node w) g h (ap up_once e) (ap holds e)
          (inr refl) refl refl refl
  unparks_by o t s h g (AwaitsStatus w) e = g
  unparks_by o t s h g _ e = g

  unparks : (o : Work) (y : Name) (d : Option (TrunkId × TrunkSide)) → side_where is_parked y (fm.entries o.node.sides) ≡ d → X o
      → X (release_parked d o)
  unparks o y None j g = g
  unparks o y (Some e) j g = unparks_by o e.0 e.1 (there_of is_parked y o e j).0 g e.1.state refl

  pub sweeps : (o : Work) (t : TrunkId) (s : TrunkSide) → side_at o.node t ≡ Some s → X o → X (close_if_swept t s o)
  sweeps o t s h g = go (has_records s.peer o.node)
    where
      go : (b : Bool) → X (cond b o (close_side t s o))
      go true = g
      go false = unparks (set_state t s Gone o) s.peer (side_where is_parked s.peer (fm.entries ((set_state t s Gone o).node.sides))) refl
          (gone_side o t s h g)
