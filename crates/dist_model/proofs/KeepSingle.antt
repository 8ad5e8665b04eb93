-- Of the sides towards one peer there is one, or one that waits for the end of another, whatever event comes to the node.
use Rattle.std.proofs.Common.{◌≡◌, nat_lt, ℕ, Bool, true, false, not, refl, sym, ap, ◌∙◌, Option, Some, None, ◌⊎◌, inl, inr, subst, List}
use Rattle.std.proofs.lemmas.Bool.{not-false}
use Rattle.std.proofs.lemmas.Option.{same_Some, none-some}
use Rattle.std.proofs.Math.Bool.{or-false}
use Rattle.std.specs.Ordering.{is_gt}
use Rattle.std.specs.FinMap as fm
use Rattle.conn_core.specs.declared.arrival.Fault.{Fault}
use Rattle.dist_model.proofs.Calls.{IfGoes, if_either}
use Rattle.dist_model.proofs.ClosedSides.{gone_side, gone_sides}
use Rattle.dist_model.proofs.HandshakeParts.{Aged, Fresh, Roomy, Shut, TurnedBy, Unparks, as_state, asks_beside}
use Rattle.dist_model.proofs.KeepEvents.{dial_goes}
use Rattle.dist_model.proofs.NewSides.{all_none, none_case}
use Rattle.dist_model.proofs.SideChanges.{if_trunk, side_after_other, side_after_same, single_after}
use Rattle.dist_model.proofs.Routes.{Found, side_where_found}
use Rattle.dist_model.proofs.Rules.{accepts, awaits_name, greet, greet_dialing, greet_up, greet_waiting, name_as}
use Rattle.dist_model.proofs.Sides.{Single, asks, beside, holds, holds_kinds, side_at, asks_waits, unheld_beside}
use Rattle.dist_model.specs.Admission.{give_up}
use Rattle.dist_model.specs.Arrivals.{arrive_fresh}
use Rattle.dist_model.specs.Dialing.{dial, draw_trunk, next_trunk}
use Rattle.dist_model.specs.Handshake.{fault, set_state, with_side, write}
use Rattle.dist_model.specs.Incarnations.{stopped}
use Rattle.dist_model.specs.Items.{Handshake, Item}
use Rattle.dist_model.specs.Keeping.{Towards}
use Rattle.dist_model.specs.Names.{Name}
use Rattle.dist_model.specs.Node.{Node, side_where}
use Rattle.dist_model.specs.Sides.{Accepting, Asked, AwaitsAck, AwaitsChallenge, AwaitsStatus, Gone}
use Rattle.dist_model.specs.Sides.{Losing, Parked, State, TrunkSide, Up, is_dialing, is_gone, is_waiting}
use Rattle.dist_model.specs.Work.{Work}
use Rattle.erl_handshake.specs.Flags.{has_all_of, mandatory}
use Rattle.erl_handshake.specs.Roles.{is_same}
use Rattle.erl_handshake.specs.declared.fault.ShakeFault.{ShakeFault}
use Rattle.erl_handshake.specs.declared.message.ShakeMsg.{ShakeMsg}
use Rattle.erl_handshake.specs.declared.status.Status.{Status}
use Rattle.erl_names.specs.Order.{name_cmp}
use Rattle.erl_names.specs.declared.trunk.TrunkId.{TrunkId}
use Rattle.erl_handshake.specs.Roles.{introduction_by}
use Rattle.dist_model.specs.Sides.{untold}

-- ---- states

holds_beside : (x y : State) → holds x ≡ true → beside x y ≡ true → asks y ≡ true
holds_beside Up y h b = sym (or-false (asks y)) ∙ b
holds_beside Losing y h b = sym (or-false (asks y)) ∙ b
holds_beside _ y h b = cc

dialing_alone : (x y : State) → is_dialing x ≡ true → beside x y ≡ true → ⊥
dialing_alone (AwaitsStatus w) y h b = cc
dialing_alone _ y h b = cc

dialing_there : (x : State) → is_dialing x ≡ true → is_gone x ≡ false
dialing_there (AwaitsStatus w) h = refl
dialing_there (AwaitsChallenge w) h = refl
dialing_there (AwaitsAck w) h = refl
dialing_there _ h = cc

waiting_kinds : (x : State) → is_waiting x ≡ true → (is_gone x ≡ false) × (holds x ≡ false)
waiting_kinds (Asked w) h = (refl, refl)
waiting_kinds (Parked w) h = (refl, refl)
waiting_kinds (Accepting w) h = (refl, refl)
waiting_kinds _ h = cc

-- two that wait for one dialer don't stand beside one another
waiting_beside : (x y : State) → is_waiting x ≡ true → is_waiting y ≡ true → beside x y ≡ true → ⊥
waiting_beside x y h k b = unheld_beside x y (waiting_kinds x h).1 (waiting_kinds y k).1 b

only_gone : (x : State) → is_waiting x ≡ false → holds x ≡ false → is_dialing x ≡ false → is_gone x ≡ true
only_gone Gone h k d = refl
only_gone _ h k d = cc

-- ---- one side is set

abbrev pub X : Work → Type 0
X o = Single o.node.sides

abbrev pub NoNew : TrunkId → Name → Type 0
NoNew t y = ⊥

-- which is gone
goes : (t : TrunkId) (s : TrunkSide) (o : Work) → is_gone s.state ≡ true → X o → X (with_side t s o)
goes t s o g k = single_after o.node t s k (λ u v h p d i j. let c : true ≡ false = sym g ∙ i in cc)

pub turned : (t : TrunkId) (s : TrunkSide) (o : Work) → TurnedBy NoNew o.node t s → Roomy o.node t s → X o → X (with_side t s o)
turned t s o (Fresh q h) r k = absurd q
turned t s o (Aged a h g) r k = single_after o.node t s k room
  where
    room : (u : TrunkId) (v : TrunkSide) → side_at o.node u ≡ Some v → v.peer ≡ s.peer → (u ≡ t → ⊥) → is_gone s.state ≡ false
        → is_gone v.state ≡ false → beside s.state v.state ≡ true
    room u v hv p d gs gv = pick (k t u a v h hv (sym g.peer ∙ sym p) (r a h gs).0 gv)
      where
        pick : (t ≡ u) ⊎ (beside a.state v.state ≡ true) → beside s.state v.state ≡ true
        pick (inl e) = absurd (d (sym e))
        pick (inr b) = (r a h gs).1 u v hv (p ∙ g.peer) b
turned t s o (Shut a h p g e) r k = goes t s o (ap is_gone g) k

pub wrote : (t : TrunkId) (y : Name) (m : ShakeMsg) (o : Work) → Towards o.node t y → X o → X (write t y m o)
wrote t y m o v k = k

-- the attempt that was parked behind a lost connection goes on: nobody else holds the peer's records
pub opens : (t : TrunkId) (s : TrunkSide) (o : Work) → side_at o.node t ≡ Some s → s.state ≡ Losing → X o
    → Unparks NoNew X turned wrote s.peer (set_state t s Gone o)
opens t s o at los k u b w f p i j = single_after ((set_state t s Gone o).node) u (as_state b (Accepting w)) j room
  where
    was : (x : TrunkId) (v : TrunkSide) → side_at ((set_state t s Gone o).node) x ≡ Some v → holds v.state ≡ true
        → (x ≡ t → ⊥) × (side_at o.node x ≡ Some v)
    was x v h hv = if_trunk t _ x
        (λ e.
        let c : as_state s Gone ≡ v = same_Some (as_state s Gone) v (sym (side_after_same o.node t (as_state s Gone))
        ∙ ap (side_at ((set_state t s Gone o).node)) (sym e) ∙ h) in
        let z : true ≡ false = sym hv ∙ ap (λ (r : TrunkSide). holds r.state) (sym c) in cc)
        (λ d. (d, sym (side_after_other o.node t (as_state s Gone) x d) ∙ h))

    other : (x : TrunkId) (v : TrunkSide) → (x ≡ t → ⊥) → holds v.state ≡ true → (t ≡ x) ⊎ (beside s.state v.state ≡ true) → ⊥
    other x v d hv (inl e) = d (sym e)
    other x v d hv (inr e) = let c : true ≡ false = sym (holds_beside s.state v.state (ap holds los) e) ∙ (holds_kinds v.state hv).1 in cc

    pick : (x : TrunkId) (v : TrunkSide) → side_at ((set_state t s Gone o).node) x ≡ Some v → v.peer ≡ b.peer → (x ≡ u → ⊥)
        → (u ≡ x) ⊎ (beside b.state v.state ≡ true) → ⊥
    pick x v h q d (inl e) = d (sym e)
    pick x v h q d (inr e) =
        let hv = asks_beside b.state v.state (ap asks i) e in
        let a = was x v h hv in
        other x v a.0 hv (k t x s v at a.1 (sym p ∙ sym q) (ap is_gone los) (holds_kinds v.state hv).0)

    room : (x : TrunkId) (v : TrunkSide) → side_at ((set_state t s Gone o).node) x ≡ Some v → v.peer ≡ b.peer → (x ≡ u → ⊥)
        → is_gone (Accepting w) ≡ false → is_gone v.state ≡ false → beside (Accepting w) v.state ≡ true
    room x v h q d gs gv = absurd (pick x v h q d (j u x b v f h (sym q) (ap is_gone i) gv))

-- ---- a new side

-- whose test fails at every side towards y
abbrev NoSide : (State → Bool) → Name → Work → Type 0
NoSide test y o = (u : TrunkId) (v : TrunkSide) → side_at o.node u ≡ Some v → v.peer ≡ y → test v.state ≡ false

no_side : (test : State → Bool) (y : Name) (o : Work) → side_where test y (fm.entries o.node.sides) ≡ None → NoSide test y o
no_side test y o h = all_none test y o.node h

-- one attempt is given up
still : (e : TrunkId × TrunkSide) (o : Work) (u : TrunkId) (v : TrunkSide) → side_at ((give_up (Some e) o).node) u ≡ Some v
    → (v.state ≡ Gone) ⊎ ((u ≡ e.0 → ⊥) × (side_at o.node u ≡ Some v))
still e o u v h = if_trunk e.0 _ u
    (λ i. inl (ap (λ (z : TrunkSide). z.state) (sym (same_Some (as_state e.1 Gone) v
    (sym (side_after_same o.node e.0 (as_state e.1 Gone)) ∙ ap (side_at ((give_up (Some e) o).node)) (sym i) ∙ h)))))
    (λ d. inr (d, sym (side_after_other o.node e.0 (as_state e.1 Gone) u d) ∙ h))

-- no side towards y passes any more, once the first that did is given up
none_left : (test : State → Bool) (y : Name) (e : TrunkId × TrunkSide) (o : Work) → test Gone ≡ false
    → ((x : State) → test x ≡ true → is_gone x ≡ false) → ((a b : State) → test a ≡ true → test b ≡ true → beside a b ≡ true → ⊥)
    → side_where test y (fm.entries o.node.sides) ≡ Some e → X o → NoSide test y (give_up (Some e) o)
none_left test y e o g there alone h k u v hv p = pick (still e o u v hv)
  where
    one : (e.0 ≡ u) ⊎ (beside e.1.state v.state ≡ true) → (u ≡ e.0 → ⊥) → test e.1.state ≡ true → test v.state ≡ true → ⊥
    one (inl i) d a b = d (sym i)
    one (inr i) d a b = alone e.1.state v.state a b i

    old : (b : Bool) → test v.state ≡ b → (u ≡ e.0 → ⊥) → side_at o.node u ≡ Some v → test v.state ≡ false
    old false i d j = i
    old true i d j =
        let f = side_where_found test y (fm.entries o.node.sides) e (fm.entries_sorted o.node.sides) h in
        let at : side_at o.node e.0 ≡ Some e.1 = fm.get-entries o.node.sides e.0 ∙ f.there in
        absurd (one (k e.0 u e.1 v at j (f.peer ∙ sym p) (there e.1.state f.passes) (there v.state i)) d f.passes i)

    pick : (v.state ≡ Gone) ⊎ ((u ≡ e.0 → ⊥) × (side_at o.node u ≡ Some v)) → test v.state ≡ false
    pick (inl i) = ap test i ∙ g
    pick (inr i) = old (test v.state) refl i.0 i.1

-- and what none passed before, none passes now
none_still : (test : State → Bool) (y : Name) (e : TrunkId × TrunkSide) (o : Work) → test Gone ≡ false → NoSide test y o
    → NoSide test y (give_up (Some e) o)
none_still test y e o g n u v hv p = pick (still e o u v hv)
  where
    pick : (v.state ≡ Gone) ⊎ ((u ≡ e.0 → ⊥) × (side_at o.node u ≡ Some v)) → test v.state ≡ false
    pick (inl i) = ap test i ∙ g
    pick (inr i) = n u v i.1 p

module _ (t : TrunkId) (s : TrunkSide) (w : ℕ) where
  accepted : (m : ShakeMsg) (x : Item) (o : Work) → NoSide is_waiting s.peer o → NoSide holds s.peer o → NoSide is_dialing s.peer o
      → X o → IfGoes (accepts t s w m x o) X
  accepted m x o a b c k = single_after o.node t (as_state s (Accepting w)) k
      (λ u v h p d gs gv. let z : true ≡ false = sym (only_gone v.state (a u v h p) (b u v h p) (c u v h p)) ∙ gv in cc)

  dialed_by : (d : Option (TrunkId × TrunkSide)) (x : Item) (o : Work) → side_where is_dialing s.peer (fm.entries o.node.sides) ≡ d
      → NoSide is_waiting s.peer o → NoSide holds s.peer o → X o → IfGoes (greet_dialing d t s w x o) X
  dialed_by None x o h a b k = accepted (ShakeMsg.Status Status.Ok) x o a b (no_side is_dialing s.peer o h) k
  dialed_by (Some e) x o h a b k = if_either (is_gt (name_cmp t.dialer o.node.mint.name)) _ _ X
      (accepted (ShakeMsg.Status Status.OkSimultaneous) x (give_up (Some e) o) (none_still is_waiting s.peer e o refl a)
      (none_still holds s.peer e o refl b)
      (none_left is_dialing s.peer e o refl dialing_there (λ p q i j. dialing_alone p q i) h k)
      (goes e.0 (as_state e.1 Gone) o refl k))
      (goes t (as_state s Gone) o refl k)

  connected_by : (d : Option (TrunkId × TrunkSide)) (x : Item) (o : Work) → side_where holds s.peer (fm.entries o.node.sides) ≡ d
      → NoSide is_waiting s.peer o → X o → IfGoes (greet_up d t s w x o) X
  connected_by None x o h a k = dialed_by (side_where is_dialing s.peer (fm.entries o.node.sides)) x o refl a (no_side holds s.peer o h) k
  connected_by (Some e) x o h a k = single_after o.node t (as_state s (Asked w)) k room
    where
      f : Found holds s.peer (fm.entries o.node.sides) e
      f = side_where_found holds s.peer (fm.entries o.node.sides) e (fm.entries_sorted o.node.sides) h

      at : side_at o.node e.0 ≡ Some e.1
      at = fm.get-entries o.node.sides e.0 ∙ f.there

      pick : (u : TrunkId) (v : TrunkSide) → side_at o.node u ≡ Some v → v.peer ≡ s.peer
          → (e.0 ≡ u) ⊎ (beside e.1.state v.state ≡ true) → holds v.state ≡ true
      pick u v hv p (inl i) = ap (λ (z : TrunkSide). holds z.state) (same_Some v e.1 (sym hv ∙ ap (side_at o.node) (sym i) ∙ at)) ∙ f.passes
      pick u v hv p (inr i) =
          let c : true ≡ false = sym (asks_waits v.state (holds_beside e.1.state v.state f.passes i)) ∙ a u v hv p in cc

      room : (u : TrunkId) (v : TrunkSide) → side_at o.node u ≡ Some v → v.peer ≡ s.peer → (u ≡ t → ⊥) → is_gone (Asked w) ≡ false
          → is_gone v.state ≡ false → beside (Asked w) v.state ≡ true
      room u v hv p d gs gv = pick u v hv p (k e.0 u e.1 v at hv (f.peer ∙ sym p) (holds_kinds e.1.state f.passes).0 gv)

  greeted : (x : Item) (o : Work) → NoSide is_waiting s.peer o → X o → IfGoes (greet t s w x o) X
  greeted x o a k = connected_by (side_where holds s.peer (fm.entries o.node.sides)) x o refl a k

  waited_by : (d : Option (TrunkId × TrunkSide)) (x : Item) (o : Work) → side_where is_waiting s.peer (fm.entries o.node.sides) ≡ d → X o
      → IfGoes (greet_waiting d t s w x o) X
  waited_by None x o h k = greeted x o (no_side is_waiting s.peer o h) k
  waited_by (Some e) x o h k = if_either (nat_lt e.0.count t.count) _ _ X
      (greeted x (give_up (Some e) o) (none_left is_waiting s.peer e o refl (λ v i. (waiting_kinds v i).0) waiting_beside h k)
      (goes e.0 (as_state e.1 Gone) o refl k))
      (goes t (as_state s Gone) o refl k)

no_name : (t : TrunkId) (o : Work) → X o
    → IfGoes (fault (Fault.Shake ShakeFault.BadMessage) t (record { peer = t.dialer; introduction = untold; state = Gone }) o) X
no_name t o k = goes t (record { peer = t.dialer; introduction = untold; state = Gone }) o refl k

named : (t : TrunkId) (m : ShakeMsg) (w : ℕ) (o : Work) → X o → IfGoes (awaits_name t m w o) X
named t (ShakeMsg.SendName flags creation name) w o k =
    let s : TrunkSide = record { peer = t.dialer; introduction = introduction_by creation flags; state = Gone } in
    let x = Handshake (ShakeMsg.SendName flags creation name) in
    if_either (is_same name t.dialer) _ _ X
    (if_either (has_all_of flags mandatory) _ _ X
    (waited_by t s w (side_where is_waiting t.dialer (fm.entries o.node.sides)) x o refl k)
    (goes t (as_state s Gone) o refl k))
    (goes t (as_state s Gone) o refl k)
named t (ShakeMsg.Status Status.Ok) w o k = no_name t o k
named t _ w o k = no_name t o k

pub single_fresh : (m : Option ShakeMsg) (t : TrunkId) (w : ℕ) (o : Work) → X o → IfGoes (arrive_fresh m t w o) X
single_fresh None t w o k = no_name t o k
single_fresh (Some m) t w o k = subst (λ z. IfGoes z X) (sym (name_as t m w o)) (named t m w o k)

-- ---- a node dials, or ends

pub single_dial : (names : List Name) (n : Node) (y : Name) (w : ℕ) → Single n.sides → IfGoes (dial names n y w) X
single_dial names n y w k = dial_goes X names n y w (λ i busy.
    single_after (draw_trunk n) (next_trunk n) (record { peer = y; introduction = untold; state = AwaitsStatus w }) k
    (λ u v h p d gs gv.
    let g = not-false (is_gone v.state) (all_none (λ v. not (is_gone v)) y n (none_case _ busy) u v h p) in
    let c : true ≡ false = sym g ∙ gv in cc))

pub single_stopped : (n : Node) → Single ((stopped n).sides)
single_stopped n t u s v hs hv p gs gv = absurd (go (side_at n t) (sym (gone_sides n t) ∙ hs))
  where
    go : (a : Option TrunkSide) → gone_side a ≡ Some s → ⊥
    go None i = none-some s i
    go (Some a) i = let c : true ≡ false = ap (λ (z : TrunkSide). is_gone z.state) (same_Some (as_state a Gone) s i) ∙ gs in cc
