-- Where nothing travels, a monitor has come to its DOWN, or its target is living and registered.
use Rattle.std.proofs.Common.{◌≡◌, suc, Bool, true, false, not, List, [], ◌∷◌, length, refl, sym}
use Rattle.std.proofs.Common.{ap, ◌∙◌, subst, arith, ◌&&◌, ◌||◌, Option, Some, None, ◌⊎◌, inl, inr}
use Rattle.std.proofs.lemmas.List.Elements.{All-head, All-tail}
use Rattle.std.proofs.lemmas.Bool.{and_parts, or_right, not-true}
use Rattle.std.proofs.lemmas.Option.{same_Some}
use Rattle.std.specs.List.{All}
use Rattle.std.specs.Option.{is_some}
use Rattle.std.specs.FinMap as fm
use Rattle.dist_model.proofs.Seen.{connected_at, living_at, local_at, side_in}
use Rattle.dist_model.proofs.Calls.{by_test}
use Rattle.dist_model.proofs.Deeds.{over_parts}
use Rattle.dist_model.proofs.Entries.{IsBoundAs, same_reference_true, same_reference_refl}
use Rattle.dist_model.proofs.Histories.{Tale}
use Rattle.dist_model.proofs.Home.{never_own}
use Rattle.dist_model.proofs.Keys.{same_name_is, same_name_true, same_pid_is}
use Rattle.dist_model.proofs.WatchKnown.{Away, Enrolled, Followed, HomeKnown, Known, PeerOver, Returns, Travels}
use Rattle.dist_model.proofs.Routes.{node_of_name, side_where_none}
use Rattle.dist_model.proofs.Sides.{beside, beside_up, holds_kinds, side_at, up_holds, up_not_gone}
use Rattle.dist_model.proofs.Trunks.{has}
use Rattle.dist_model.proofs.Founded.{IsAsked, named_by}
use Rattle.dist_model.proofs.Told.{Called, IsFounded, monitored_one}
use Rattle.dist_model.proofs.Lands.{is_call, is_end}
use Rattle.dist_model.proofs.Views.{over}
use Rattle.dist_model.specs.Downs.{Down, Monitored, downs, same_reference}
use Rattle.dist_model.specs.Fates.{DownOrRegistered, IsRegistered, registered_at}
use Rattle.dist_model.specs.Histories.{History}
use Rattle.dist_model.specs.Items.{Item, Signalled}
use Rattle.dist_model.specs.Names.{Name, same_name, same_pid}
use Rattle.dist_model.specs.Node.{Node, living, side_where}
use Rattle.dist_model.specs.Quiet.{Over, Quiet, Unconnected, Within, is_signal_of, nothing_between}
use Rattle.dist_model.specs.Seen.{HasSide, is_connected, local_list}
use Rattle.dist_model.specs.Sides.{State, TrunkSide, is_losing, is_up, is_over, is_gone, Up}
use Rattle.dist_model.specs.World.{World, list_to, node_of}
use Rattle.erl_control.specs.declared.signal.Signal.{Signal}
use Rattle.erl_names.specs.declared.trunk.TrunkId.{TrunkId}
use Rattle.erl_term.specs.declared.term.Pid.{Pid}
use Rattle.erl_term.specs.declared.term.Reference.{Reference}
use Rattle.monitor_core.specs.declared.monitor.Target.{Target}
use Rattle.monitor_core.specs.declared.monitor.Registration.{Registration}
use Rattle.dist_model.specs.Monitoring.{pid_watch, registration_of}

up_not_over : (v : State) → is_up v ≡ true → is_over v ≡ true → ⊥
up_not_over Up h k = cc
up_not_over _ h k = cc

module _ (w : World) (h : History) (t : Tale w h) (k : Reference) (p q : Pid) (m : Monitored k p (Target.Pid q) h) where
  named : (r : Reference) (a b : Pid) → same_reference k r ≡ true → Monitored r a (Target.Pid b) h → (a ≡ p) × (b ≡ q)
  named r a b e c =
      let o = monitored_one k a (Target.Pid b) p (Target.Pid q) h (t.sound.one k)
      (subst (λ z. Monitored z a (Target.Pid b) h) (sym (same_reference_true k r e)) c) m in
      let s : b ≡ q = cc in (o.0, s)

  -- a monitor of a pid is none of a name
  unnamed : (r : Reference) (a : Pid) (name : Name) → same_reference k r ≡ true → IsAsked (Called h) (named_by name) a r → ⊥
  unnamed r a name e c =
      let o = monitored_one k a (Target.Name name c.0) p (Target.Pid q) h (t.sound.one k)
      (subst (λ z. Monitored z a (Target.Name name c.0) h) (sym (same_reference_true k r e)) c.1) m in
      let s = o.1 in cc

  call_of : (i : Item) → IsFounded w h i → is_call k i ≡ true → is_signal_of p q i ≡ true
  call_of (Signalled (Signal.Monitor a b r) pay) f e =
      let o = named r a b e f in ap (λ c. c && same_pid b q) (same_pid_is a p o.0) ∙ same_pid_is b q o.1
  call_of (Signalled (Signal.MonitorName a name r) pay) f e = absurd (unnamed r a name e f)
  call_of _ f e = cc

  end_of : (i : Item) → IsFounded w h i → is_end k i ≡ true → is_signal_of q p i ≡ true
  end_of (Signalled (Signal.MonitorExit b a r z) pay) f e =
      let o = named r a b e f.1 in ap (λ c. c && same_pid a p) (same_pid_is b q o.1) ∙ same_pid_is a p o.0
  end_of (Signalled (Signal.MonitorNameExit name a r z) pay) f e = absurd (unnamed r a name e f.1)
  end_of _ f e = cc

  -- in a silent list nothing of the monitor travels
  silent_list : (f : Item → Bool)
      → ((i : Item) → IsFounded w h i → f i ≡ true → (is_signal_of p q i || is_signal_of q p i) ≡ true) → (l : List Item)
      → All (IsFounded w h) l → nothing_between p q l ≡ true → has f l ≡ true → ⊥
  silent_list f of [] fs s j = cc
  silent_list f of (i ∷ l) fs s j =
      let v = and_parts (not (is_signal_of p q i || is_signal_of q p i)) (nothing_between p q l) s in
      go (f i) refl (not-true (is_signal_of p q i || is_signal_of q p i) v.0) j (silent_list f of l (All-tail (IsFounded w h) i l fs) v.1)
    where
      go : (b : Bool) → f i ≡ b → (is_signal_of p q i || is_signal_of q p i) ≡ false → (b || has f l) ≡ true → (has f l ≡ true → ⊥) → ⊥
      go true e n c r = let z : true ≡ false = sym (of i (All-head (IsFounded w h) i l fs) e) ∙ n in cc
      go false e n c r = r c

  no_call : (l : List Item) → All (IsFounded w h) l → nothing_between p q l ≡ true → has (is_call k) l ≡ true → ⊥
  no_call l = silent_list (is_call k) (λ i f e. ap (λ b. b || is_signal_of q p i) (call_of i f e)) l

  no_end : (l : List Item) → All (IsFounded w h) l → nothing_between p q l ≡ true → has (is_end k) l ≡ true → ⊥
  no_end l = silent_list (is_end k) (λ i f e. or_right (is_signal_of p q i) (is_signal_of q p i) (end_of i f e)) l

  -- what is registered is this monitor, of a living target
  registered : (y : Node) (b : Registration) → node_of w.nodes q.node ≡ Some y → fm.get y.registered k ≡ Some b → IsRegistered w k p q
  registered y b hy j =
      let v = t.sound.enrolled q.node y k b hy j in
      let o = of_pid b.target v.1 v.2 in
      let same : b ≡ registration_of p q = λ i. record { owner = o.0 i; target = o.1 i; held = o.2 i } in
      (ap (λ z. living_at z q) hy ∙ subst (λ z. living y z ≡ true) o.2 v.0, ap (λ z. registered_at z k) hy ∙ j ∙ ap Some same)
    where
      of_pid : (z : Target) → IsAsked (Called h) z b.owner k → IsBoundAs z b.held → (b.owner ≡ p) × (z ≡ Target.Pid q) × (b.held ≡ q)
      of_pid (Target.Pid d) c e =
          let o = named k b.owner d (same_reference_refl k) c in (o.0, ap Target.Pid o.1, sym e ∙ o.1)
      of_pid (Target.Name name node) c e = absurd (unnamed k b.owner name (same_reference_refl k) c)

  module _ (y : Name) (v : Node) (hv : node_of w.nodes y ≡ Some v) (j : fm.get v.watches k ≡ Some (pid_watch p q)) where
    owner_at : p.node ≡ y
    owner_at = same_name_true p.node v.mint.name
        (never_own v p ((t.good.core.nodes y v hv).born p (t.sound.watching y v k (pid_watch p q) hv j).4))
        ∙ node_of_name w.nodes y v hv

    here : node_of w.nodes p.node ≡ Some v
    here = ap (node_of w.nodes) owner_at ∙ hv

    own_name : v.mint.name ≡ p.node
    own_name = node_of_name w.nodes y v hv ∙ sym owner_at

    followed : Followed w y v k (pid_watch p q)
    followed = t.linked y v k (pid_watch p q) hv j

    at_home : p.node ≡ q.node → nothing_between p q (local_list w p.node) ≡ true → HomeKnown v k → IsRegistered w k p q
    at_home e s (inl c) = absurd (no_call v.local (t.sound.locals y v hv) (ap (λ z. nothing_between p q (local_at z)) (sym here) ∙ s) c)
    at_home e s (inr (inl c)) = registered v c.0 (ap (node_of w.nodes) (sym e) ∙ here) c.1
    at_home e s (inr (inr c)) =
        absurd (no_end v.local (t.sound.locals y v hv) (ap (λ z. nothing_between p q (local_at z)) (sym here) ∙ s) c)

    on_trunk : (u : TrunkId) → HasSide w q.node u p.node is_up → nothing_between p q (list_to w.lists u p.node) ≡ true
        → nothing_between p q (list_to w.lists u q.node) ≡ true → Known w u y q.node k → IsRegistered w k p q
    on_trunk u b s r (Travels c) = absurd (no_call (list_to w.lists u q.node) (t.sound.lists u q.node) r c)
    on_trunk u b s r (Enrolled z side c hz hs up i) = registered z c hz i
    on_trunk u b s r (Returns c) =
        absurd (no_end (list_to w.lists u y) (t.sound.lists u y) (ap (λ z. nothing_between p q (list_to w.lists u z)) (sym owner_at) ∙ s) c)
    on_trunk u b s r (PeerOver z side hz hs ov) =
        let same : b.side ≡ side = same_Some b.side side (sym b.there ∙ ap (λ o. side_in o u) hz ∙ hs) in
        absurd (up_not_over side.state (ap (λ (c : TrunkSide). is_up c.state) (sym same) ∙ b.state) ov)

    far_away : Away w y v k (pid_watch p q) → (u : TrunkId) → HasSide w p.node u q.node is_up
        → HasSide w q.node u p.node is_up → nothing_between p q (list_to w.lists u p.node) ≡ true
        → nothing_between p q (list_to w.lists u q.node) ≡ true → IsRegistered w k p q
    far_away c u a b s r = go (one (t.good.core.sides y v hv).one)
      where
        there : side_at v u ≡ Some a.side
        there = sym (ap (λ o. side_in o u) here) ∙ a.there

        one : ((t1 t2 : TrunkId) (s1 s2 : TrunkSide) → side_at v t1 ≡ Some s1 → side_at v t2 ≡ Some s2 → s1.peer ≡ s2.peer
            → is_gone s1.state ≡ false → is_gone s2.state ≡ false → (t1 ≡ t2)
            ⊎ (beside s1.state s2.state ≡ true)) → u ≡ c.trunk
        one f =
            pick (f u c.trunk a.side c.side there c.there (a.peer ∙ sym c.peer) (up_not_gone a.side.state a.state)
            (holds_kinds c.side.state c.holding).0)
          where
            pick : (u ≡ c.trunk) ⊎ (beside a.side.state c.side.state ≡ true) → u ≡ c.trunk
            pick (inl i) = i
            pick (inr i) = absurd (beside_up a.side.state c.side.state (up_holds a.side.state a.state).0 c.holding i)

        go : u ≡ c.trunk → IsRegistered w k p q
        go e = pick c.known
          where
            same : a.side ≡ c.side
            same = same_Some a.side c.side (sym there ∙ ap (side_at v) e ∙ c.there)

            pick : (is_over c.side.state ≡ true) ⊎ Known w c.trunk y q.node k → IsRegistered w k p q
            pick (inl i) = absurd (up_not_over c.side.state (ap (λ (z : TrunkSide). is_up z.state) (sym same) ∙ a.state) i)
            pick (inr i) = on_trunk u b s r (subst (λ z. Known w z y q.node k) (sym e) i)

    not_away : Away w y v k (pid_watch p q) → is_connected w p.node q.node ≡ false → ⊥
    not_away c i =
        go (side_where (λ s. is_up s || is_losing s) q.node (fm.entries v.sides)) refl (sym (ap (λ o. connected_at o q.node) here) ∙ i)
      where
        go : (o : Option (TrunkId × TrunkSide)) → side_where (λ s. is_up s || is_losing s) q.node (fm.entries v.sides) ≡ o
            → is_some (side_where (λ s. is_up s || is_losing s) q.node (fm.entries v.sides)) ≡ false → ⊥
        go None e z =
            let n : true ≡ false = sym c.holding ∙ side_where_none (λ s. is_up s || is_losing s) q.node
            (fm.entries v.sides) c.trunk c.side e (sym (fm.get-entries v.sides c.trunk) ∙ c.there) c.peer in cc
        go (Some d) e z = let n : true ≡ false = sym (ap is_some e) ∙ z in cc

    apart : same_name p.node q.node ≡ false → same_name q.node v.mint.name ≡ false
    apart n =
        by_test _ (same_name q.node v.mint.name)
        (λ i. let z : true ≡ false = sym (same_name_is p.node q.node (sym own_name ∙ sym (same_name_true q.node v.mint.name i))) ∙ n in cc)
        (λ i. i)

    watched : Quiet w p q → IsRegistered w k p q
    watched (Within e s) = at_home e s (followed.0 (same_name_is q.node v.mint.name (sym e ∙ sym own_name)))
    watched (Over n u c s r) = far_away (followed.1 (apart n)) u c.0 c.1 s r
    watched (Unconnected n c d) = absurd (not_away (followed.1 (apart n)) c)

pub down_or_registered : (h : History) (w : World) → Tale w h → DownOrRegistered h w
down_or_registered h w t r p q m lp nr quiet = go (downs r h) refl
  where
    dead : (v : Node) → node_of w.nodes p.node ≡ Some v → over v p ≡ true → ⊥
    dead v hv o = let z : true ≡ false = sym lp ∙ ap (λ c. living_at c p) hv ∙ (over_parts v p o).0 in cc

    waits : ((v : Node) × (node_of w.nodes r.node ≡ Some v) × (fm.get v.watches r ≡ Some (pid_watch p q)))
        ⊎ ((v : Node) × (node_of w.nodes p.node ≡ Some v) × (over v p ≡ true)) → IsRegistered w r p q
    waits (inl c) = watched w h t r p q m r.node c.0 c.1 c.2 quiet
    waits (inr c) = absurd (dead c.0 c.1 c.2)

    go : (l : List Down) → downs r h ≡ l → (length (downs r h) ≡ 1) ⊎ IsRegistered w r p q
    go [] e = inr (waits (t.sound.waits r p q m e nr))
    go (d ∷ ds) e = let n : length (downs r h) ≡ suc (length ds) = ap length e in inl (omega (arith, n, t.sound.most r))
