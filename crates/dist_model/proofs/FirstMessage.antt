-- The first message, and the dialer's word that it goes on.
use Rattle.std.proofs.Common.{◌≡◌, ℕ, Bool, true, false, cond, List, refl, sym, ap, ◌∙◌, subst, Option, Some, None, ◌⊎◌, inl, inr, nat_lt}
use Rattle.std.proofs.lemmas.Bool.{or_from}
use Rattle.std.proofs.lemmas.Option.{same_Some}
use Rattle.std.specs.Option.{is_some}
use Rattle.std.specs.FinMap as fm
use Rattle.conn_core.specs.declared.arrival.Fault.{Fault}
use Rattle.erl_handshake.specs.declared.fault.ShakeFault.{ShakeFault}
use Rattle.std.specs.Ordering.{is_gt}
use Rattle.dist_model.proofs.Calls.{IfGoes, by_test}
use Rattle.dist_model.proofs.ClosedSides.{good_written, placed, placed_state, placed_write}
use Rattle.dist_model.proofs.FreshSide.{NoneIs, accepted, at_x, dials_kind, first_state, given, none_is}
use Rattle.dist_model.proofs.FreshSide.{none_left, refused_one, set_self, still_none, told_alive, waits_kind}
use Rattle.dist_model.proofs.Handshake.{as_state, fits_state, good_lost, good_state, in_state, role_is_acceptor}
use Rattle.dist_model.proofs.Keys.{same_name_is, same_name_true}
use Rattle.dist_model.proofs.Posts.{held}
use Rattle.dist_model.proofs.Pairs.{Met}
use Rattle.dist_model.proofs.SideChanges.{Holder, held_by, side_after_other, side_after_same, with_side_at, drops}
use Rattle.dist_model.proofs.Routes.{Found, node_of_name, side_where_found}
use Rattle.dist_model.proofs.Rules.{accepts, awaits_name, greet, greet_dialing, greet_up, greet_waiting}
use Rattle.dist_model.proofs.Sides.{SidesKept, asks, beside, holds, side_at, up_is}
use Rattle.dist_model.proofs.Sweeps.{good_unparked}
use Rattle.dist_model.proofs.Trunks.{Good, Posted, begun_state, role_state, up_once}
use Rattle.dist_model.specs.Admission.{give_up}
use Rattle.dist_model.specs.Commands.{Accepts}
use Rattle.dist_model.specs.declared.report.Answer.{Answer}
use Rattle.dist_model.specs.Handshake.{challenge, up_is_lost, fault, challenge_or_park, send_challenge_or_park, set_state, write}
use Rattle.dist_model.specs.Items.{Handshake, Item, kind_of}
use Rattle.dist_model.specs.Names.{Name, same_name}
use Rattle.dist_model.specs.Node.{Node, side_where}
use Rattle.dist_model.specs.Sides.{Accepting, Asked, Gone, Losing, Parked, State, TrunkSide}
use Rattle.dist_model.specs.Sides.{Up, is_dialing, is_gone, is_losing, is_up, is_waiting, lost}
use Rattle.dist_model.specs.Work.{Work, at_work}
use Rattle.dist_model.specs.World.{World, node_of}
use Rattle.erl_handshake.specs.Flags.{has_all_of, mandatory}
use Rattle.erl_handshake.specs.Roles.{is_same}
use Rattle.erl_handshake.specs.declared.message.ShakeMsg.{ShakeMsg}
use Rattle.erl_handshake.specs.declared.status.Status.{Status}
use Rattle.erl_names.specs.Order.{name_cmp}
use Rattle.erl_names.specs.declared.trunk.TrunkId.{TrunkId}
use Rattle.erl_handshake.specs.declared.introduction.Introduction.{Introduction}

module _ (w : World) (x : Name) (n : Node) (hx : node_of w.nodes x ≡ Some n) (g : Good w) (t : TrunkId) (c : Introduction)
    (far : same_name t.dialer n.mint.name ≡ false)
    (key : is_some (fm.get w.lists (t, x)) ≡ true) (none : side_at n t ≡ None) where
  abbrev s : TrunkSide
  s = record { peer = t.dialer; introduction = c; state = Gone }

  nx : n.mint.name ≡ x
  nx = node_of_name w.nodes x n hx

  g0 : Good (placed w x (at_work n))
  g0 = subst (λ ns. Good (record { names = w.names; nodes = ns; lists = w.lists })) (sym (set_self w.nodes x n hx)) g

  met_in : (ns : List Node) → Posted ns t x → Met ns t x
  met_in ns p = go p.4
    where
      go : (t.dialer ≡ x) ⊎ (p.0.peer ≡ x) → Met ns t x
      go (inl e) = let z : true ≡ false = sym (same_name_is t.dialer n.mint.name (e ∙ sym nx)) ∙ far in cc
      go (inr e) = record { dialer = p.1; at = p.2; side = p.0; there = p.3; peer = e }

  m0 : Met w.nodes t x
  m0 = met_in w.nodes (g.posted t x key)

  abbrev Pl : Work → Type 0
  Pl o = Good (placed w x o)

  -- the item, any
  module _ (k : ℕ) (i : Item) where
    dialing_by : (m : Node) → m.mint.name ≡ x → side_at m t ≡ None → NoneIs is_waiting t.dialer m → NoneIs holds t.dialer m
        → Good (placed w x (at_work m)) → (d : Option (TrunkId × TrunkSide))
        → side_where is_dialing t.dialer (fm.entries m.sides) ≡ d
        → IfGoes (greet_dialing d t s k i (at_work m)) Pl
    dialing_by m e nm nw nh gm None h =
        accepted w x n hx t c far m0 (at_work m) k (ShakeMsg.Status Status.Ok) e nm refl refl nw
        (none_is is_dialing t.dialer m h) nh (met_in _ (gm.posted t x key)) gm
    dialing_by m e nm nw nh gm (Some d) h = go (is_gt (name_cmp t.dialer m.mint.name))
      where
        f : Found is_dialing t.dialer (fm.entries m.sides) d
        f = side_where_found is_dialing t.dialer (fm.entries m.sides) d (fm.entries_sorted m.sides) h

        hd : side_at m d.0 ≡ Some d.1
        hd = fm.get-entries m.sides d.0 ∙ f.there

        sk : SidesKept m
        sk = gm.core.sides x m (at_x w x n hx (at_work m) e)

        kind2 : (v : State) → is_dialing v ≡ true → (holds v ≡ false) × (is_gone v ≡ false)
        kind2 v j = let z = dials_kind v j in (z.0, z.1)

        g1 : Good (placed w x (give_up (Some d) (at_work m)))
        g1 = given w x n hx (at_work m) d e hd (dials_kind d.1.state f.passes).0 gm

        td : t ≡ d.0 → ⊥
        td j = let z : false ≡ true = sym (ap is_some nm) ∙ ap is_some (ap (side_at m) j ∙ hd) in cc

        go : (b : Bool) → IfGoes (cond b
            (accepts t s k (ShakeMsg.Status Status.OkSimultaneous) i (give_up (Some d) (at_work m)))
            (Accepts (Answer.Took (kind_of i)) (write t t.dialer (ShakeMsg.Status Status.Nok) (set_state t s Gone (at_work m))))) Pl
        go true =
            accepted w x n hx t c far m0 (give_up (Some d) (at_work m)) k (ShakeMsg.Status Status.OkSimultaneous) e
            (side_after_other m d.0 (as_state d.1 Gone) t td ∙ nm) refl refl
            (still_none w x n hx is_waiting t.dialer m d refl nw)
            (none_left w x n hx is_dialing t.dialer m d sk hd f.peer f.passes refl kind2)
            (still_none w x n hx holds t.dialer m d refl nh)
            (met_in _ (g1.posted t x key)) g1
        go false = refused_one w x n hx t c far m0 (at_work m) e nm (met_in _ (gm.posted t x key)) gm

    greets : (m : Node) → m.mint.name ≡ x → side_at m t ≡ None → NoneIs is_waiting t.dialer m → Good (placed w x (at_work m))
        → IfGoes (greet t s k i (at_work m)) Pl
    greets m e nm nw gm = go (side_where holds t.dialer (fm.entries m.sides)) refl
      where
        go : (d : Option (TrunkId × TrunkSide)) → side_where holds t.dialer (fm.entries m.sides) ≡ d
            → IfGoes (greet_up d t s k i (at_work m)) Pl
        go None h = dialing_by m e nm nw (none_is holds t.dialer m h) gm (side_where is_dialing t.dialer (fm.entries m.sides)) refl
        go (Some d) h =
            let f = side_where_found holds t.dialer (fm.entries m.sides) d (fm.entries_sorted m.sides) h in
            told_alive w x n hx t c far m0 (at_work m) k d e nm (fm.get-entries m.sides d.0 ∙ f.there) f.peer f.passes nw
            (met_in _ (gm.posted t x key)) gm

    waits : (d : Option (TrunkId × TrunkSide)) → side_where is_waiting t.dialer (fm.entries n.sides) ≡ d
        → IfGoes (greet_waiting d t s k i (at_work n)) Pl
    waits None h = greets n nx none (none_is is_waiting t.dialer n h) g0
    waits (Some d) h = go (nat_lt d.0.count t.count)
      where
        f : Found is_waiting t.dialer (fm.entries n.sides) d
        f = side_where_found is_waiting t.dialer (fm.entries n.sides) d (fm.entries_sorted n.sides) h

        hd : side_at n d.0 ≡ Some d.1
        hd = fm.get-entries n.sides d.0 ∙ f.there

        td : t ≡ d.0 → ⊥
        td j = let z : false ≡ true = sym (ap is_some none) ∙ ap is_some (ap (side_at n) j ∙ hd) in cc

        g1 : Good (placed w x (give_up (Some d) (at_work n)))
        g1 = given w x n hx (at_work n) d nx hd (waits_kind d.1.state f.passes).0 g0

        go : (b : Bool) → IfGoes (cond b (greet t s k i (give_up (Some d) (at_work n))) (Accepts
            (Answer.Broken (Fault.Shake ShakeFault.Superseded))
            (write t t.dialer (ShakeMsg.Status Status.Nok) (set_state t s Gone (at_work n))))) Pl
        go true = greets (with_side_at n d.0 (as_state d.1 Gone)) nx (side_after_other n d.0 (as_state d.1 Gone) t td ∙ none)
            (none_left w x n hx is_waiting t.dialer n d (g.core.sides x n hx) hd f.peer f.passes refl waits_kind) g1
        go false = refused_one w x n hx t c far m0 (at_work n) nx none m0s g0
          where
            m0s : Met (placed w x (at_work n)).nodes t x
            m0s = met_in _ (g0.posted t x key)

  -- a first message that is no good
  pub fresh_fault : (k : Fault) → IfGoes (fault k t s (at_work n)) Pl
  fresh_fault k =
      first_state w x n hx t c far m0 (at_work n) Gone nx none refl refl (inr refl) refl
      (λ u b hb eb gs gb. let z : true ≡ false = gs in cc) (met_in _ (g0.posted t x key)) g0

  pub fresh_hello : (name : Name) (k : ℕ) → IfGoes (awaits_name t (ShakeMsg.SendName c.flags c.creation name) k (at_work n)) Pl
  fresh_hello name k = go (is_same name t.dialer) (has_all_of c.flags mandatory)
    where
      go : (a b : Bool) → IfGoes (cond a (cond b (greet_waiting (side_where is_waiting t.dialer (fm.entries n.sides)) t s k
          (Handshake (ShakeMsg.SendName c.flags c.creation name)) (at_work n)) (fault (Fault.Shake ShakeFault.FlagsMissing) t s
          (at_work n))) (fault (Fault.Shake ShakeFault.Forged) t s (at_work n))) Pl
      go true true = waits k (Handshake (ShakeMsg.SendName c.flags c.creation name)) (side_where is_waiting t.dialer (fm.entries n.sides)) refl
      go true false = fresh_fault (Fault.Shake ShakeFault.FlagsMissing)
      go false b = fresh_fault (Fault.Shake ShakeFault.Forged)

-- Asked: the dialer goes on
module _ (w : World) (x : Name) (n : Node) (hx : node_of w.nodes x ≡ Some n) (g : Good w) (t : TrunkId) (v : TrunkSide)
    (k : ℕ) (h : side_at n t ≡ Some v) (e : v.state ≡ Asked k) where
  gz : Good (placed w x (at_work n))
  gz = subst (λ ns. Good (record { names = w.names; nodes = ns; lists = w.lists })) (sym (set_self w.nodes x n hx)) g

  -- it waits on
  parks : (o : Work) → o.node.mint.name ≡ x → side_at o.node t ≡ Some v → Good (placed w x o)
      → Good (placed w x (set_state t v (Parked k) o))
  parks o eo ho go =
      let hw = at_x w x n hx o eo in
      let f =
      fits_state o.node t v (as_state v (Parked k)) (go.core.sides x o.node hw) ho refl (ap is_gone e)
      (λ b i. subst (λ z. beside z b ≡ true → beside (Parked k) b ≡ true) (sym e) (λ j. j) i)
      (λ i j. let z : true ≡ false = sym i ∙ ap holds e in cc) in
      placed_state w x o t (as_state v (Parked k)) eo
      (good_state (placed w x o) x o.node t v (as_state v (Parked k)) hw ho refl f go
      (drops (placed w x o) x o.node t v (as_state v (Parked k)) hw ho refl refl f go.core)
      (ap (λ b. role_state b (Parked k))
      (role_is_acceptor (same_name t.dialer o.node.mint.name) v.state ((go.home x o.node hw).roles t v ho) (ap (role_state true) e))) (
        λ a di r. record { before = λ z. let b = r.before z in (refl, b.1, b.2, b.3); early = λ z. cc; waits = r.waits },
        λ d y yx nd r. record {
          before = λ z. r.before (ap up_once e);
          early = λ z. let b = r.early z in (refl, b.1, b.2);
          waits = λ z. r.waits (ap begun_state e);
        },
        λ m a ha. cc,
      ))

  on : (o : Work) → o.node.mint.name ≡ x → side_at o.node t ≡ Some v → NoneIs is_up v.peer o.node
      ⊎ ((d : TrunkId × TrunkSide) × (side_at o.node d.0 ≡ Some d.1) × (d.1.peer ≡ v.peer) × (d.1.state ≡ Losing))
      → Good (placed w x o) → Good (placed w x (send_challenge_or_park t v k o))
  on o eo ho up go = by (side_where is_losing v.peer (fm.entries o.node.sides)) refl
    where
      not_holds : (s : State) → is_up s ≡ false → is_losing s ≡ false → holds s ≡ false
      not_holds s a b = or_from (is_up s) (is_losing s) a b

      free : NoneIs is_up v.peer o.node → NoneIs is_losing v.peer o.node → held o.node v.peer ≡ false
      free nu nl = by_test _ (held o.node v.peer) (λ r. absurd (pick (held_by o.node v.peer r))) (λ r. r)
        where
          pick : (same_name v.peer o.node.mint.name ≡ true) ⊎ Holder o.node v.peer → ⊥
          pick (inl i) = (go.core.sides x o.node (at_x w x n hx o eo)).other t v ho (same_name_true v.peer o.node.mint.name i)
          pick (inr m) =
              let z : true ≡ false = sym m.holding
              ∙ not_holds m.side.state (nu m.trunk m.side m.at m.peer) (nl m.trunk m.side m.at m.peer) in cc

      no_up : NoneIs is_losing v.peer o.node → (NoneIs is_up v.peer o.node ⊎ ((d : TrunkId × TrunkSide)
          × (side_at o.node d.0 ≡ Some d.1) × (d.1.peer ≡ v.peer) × (d.1.state ≡ Losing))) → NoneIs is_up v.peer o.node
      no_up nl (inl a) = a
      no_up nl (inr a) = let z : true ≡ false = sym (ap is_losing a.3) ∙ nl a.0.0 a.0.1 a.1 a.2 in absurd (let y : true ≡ false = z in cc)

      by : (d : Option (TrunkId × TrunkSide)) → side_where is_losing v.peer (fm.entries o.node.sides) ≡ d
          → Good (placed w x (challenge_or_park d t v k o))
      by (Some d) i = parks o eo ho go
      by None i =
          let nl = none_is is_losing v.peer o.node i in
          let g1 =
          placed_state w x o t (as_state v (Accepting k)) eo
          (good_unparked (placed w x o) x o.node t v k (at_x w x n hx o eo) ho (ap asks e) (free (no_up nl up) nl) go) in
          let o1 = set_state t v (Accepting k) o in
          placed_write w x o1 t v.peer (challenge o.node k) (good_written (placed w x o1) x o1.node t
          (as_state v (Accepting k)) (challenge o.node k) (at_x w x n hx o1 eo)
          (side_after_same o.node t (as_state v (Accepting k))) refl refl (λ j. (k, refl)) g1)

  pub asked_on : Good (placed w x (send_challenge_or_park t v k (up_is_lost (side_where is_up v.peer (fm.entries n.sides)) (at_work n))))
  asked_on = go (side_where is_up v.peer (fm.entries n.sides)) refl
    where
      nn : n.mint.name ≡ x
      nn = node_of_name w.nodes x n hx

      go : (d : Option (TrunkId × TrunkSide)) → side_where is_up v.peer (fm.entries n.sides) ≡ d
          → Good (placed w x (send_challenge_or_park t v k (up_is_lost d (at_work n))))
      go None i = on (at_work n) nn h (inl (none_is is_up v.peer n i)) gz
      go (Some d) i =
          let f = side_where_found is_up v.peer (fm.entries n.sides) d (fm.entries_sorted n.sides) i in
          let hd : side_at n d.0 ≡ Some d.1 = fm.get-entries n.sides d.0 ∙ f.there in
          let us : d.1.state ≡ Up = up_is d.1.state f.passes in
          let apart : t ≡ d.0 → ⊥ = λ j.
          let sv : v ≡ d.1 = same_Some v d.1 (sym h ∙ ap (side_at n) j ∙ hd) in
          let z : Asked k ≡ Up = sym e ∙ ap (λ (y : TrunkSide). y.state) sv ∙ us in cc in
          let g1 : Good (placed w x (set_state d.0 d.1 Losing (at_work n))) = placed_state w x (at_work n) d.0 (as_state d.1 Losing) nn
          (subst (λ z. Good (in_state (placed w x (at_work n)) x n d.0 (as_state d.1 z))) (ap lost us)
          (good_lost (placed w x (at_work n)) x n d.0 d.1 (at_x w x n hx (at_work n) nn) hd gz)) in
          on (set_state d.0 d.1 Losing (at_work n)) nn (side_after_other n d.0 (as_state d.1 Losing) t apart ∙ h)
          (inr (d_losing d f.peer)) g1
        where
          d_losing : (d : TrunkId × TrunkSide) → d.1.peer ≡ v.peer → (b : TrunkId × TrunkSide)
              × (side_at (with_side_at n d.0 (as_state d.1 Losing)) b.0 ≡ Some b.1) × (b.1.peer ≡ v.peer)
              × (b.1.state ≡ Losing)
          d_losing d p = ((d.0, as_state d.1 Losing), side_after_same n d.0 (as_state d.1 Losing), p, refl)
