-- What stands first in a list is due: what comes to a side that is known.
use Rattle.std.proofs.Common.{◌≡◌, ℕ, Bool, true, false, cond, List, [], ◌∷◌, ◌++◌, refl, sym, ap, ◌∙◌, subst, Option, Some, inl, inr}
use Rattle.std.specs.FinMap as fm
use Rattle.std.specs.FinMap.{FinMap}
use Rattle.std.proofs.lemmas.Bool.{or_from}
use Rattle.conn_core.specs.declared.arrival.Fault.{Fault}
use Rattle.erl_handshake.specs.declared.fault.ShakeFault.{ShakeFault}
use Rattle.dist_model.proofs.Calls.{IfGoes, by_test}
use Rattle.dist_model.proofs.Due.{acceptor_comes_up, acceptor_ends, awaits_ack as waits_ack, dialer_comes_up}
use Rattle.dist_model.proofs.Due.{dialer_ends, dialer_goes, dialer_replies, dials, DueRow, ends_kind}
use Rattle.dist_model.proofs.Due.{row_with, says_to_acceptor, state_in, taken_by_acceptor, taken_by_dialer}
use Rattle.dist_model.proofs.DueSteps.{lost_ends}
use Rattle.dist_model.proofs.DueWork.{put_away, put_other, put_same}
use Rattle.dist_model.proofs.DueWorld.{Due, due_acceptor, due_dialer, Whose}
use Rattle.dist_model.proofs.Keys.{same_name_is, same_name_true}
use Rattle.dist_model.proofs.Pairs.{Met}
use Rattle.dist_model.proofs.SideChanges.{side_after_other, side_after_same, with_side_at}
use Rattle.dist_model.proofs.Rules.{awaits_ack, awaits_challenge, awaits_reply, awaits_status}
use Rattle.dist_model.proofs.Sides.{side_at}
use Rattle.dist_model.proofs.Trunks.{is_accept, is_early, is_reply, role_state}
use Rattle.dist_model.specs.Commands.{Outcome}
use Rattle.dist_model.specs.Handshake.{fault}
use Rattle.dist_model.specs.Items.{Handshake, Item}
use Rattle.dist_model.specs.Names.{Name, place_cmp, same_name}
use Rattle.dist_model.specs.Node.{Node}
use Rattle.dist_model.specs.Sides.{Accepting, AwaitsAck, AwaitsChallenge, AwaitsStatus, State, TrunkSide, Up, is_over, lost}
use Rattle.dist_model.specs.Work.{at_work}
use Rattle.dist_model.specs.World.{carried, list_to, node_of, set_node}
use Rattle.erl_handshake.specs.Digest.{digest_of}
use Rattle.erl_handshake.specs.Flags.{has_all_of, mandatory}
use Rattle.erl_handshake.specs.Roles.{is_answered, is_same}
use Rattle.erl_handshake.specs.declared.message.ShakeMsg.{ShakeMsg}
use Rattle.erl_handshake.specs.declared.status.Status.{Status}
use Rattle.erl_names.specs.declared.trunk.TrunkId.{TrunkId}
use Rattle.dist_model.proofs.Handshake.{as_state}
use Rattle.erl_handshake.specs.Roles.{introduction_by}

dials_not : (v : State) → is_over v ≡ true → dials v ≡ true → is_accept (Handshake (ShakeMsg.Status Status.Ok)) ≡ true
dials_not v e h = let k = ends_kind v e in let c : true ≡ false = sym h ∙ or_from (is_early v) (waits_ack v) k.0 k.1 in cc

module _ (ns : List Node) (m : FinMap place_cmp (List Item)) (x : Name) (n : Node) (t : TrunkId) (v : TrunkSide) (i : Item)
    (rest : List Item) (hx : node_of ns x ≡ Some n) (nx : n.mint.name ≡ x)
    (h : side_at n t ≡ Some v) (stranger : v.peer ≡ x → ⊥) (whose : Whose ns x t v)
    (role : role_state (same_name t.dialer x) v.state ≡ true)
    (first : list_to m t x ≡ i ∷ rest) (due : Due ns m) where
  abbrev popped : FinMap place_cmp (List Item)
  popped = fm.insert m (t, x) rest

  abbrev sent : Name → Item → FinMap place_cmp (List Item)
  sent y j = fm.insert popped (t, y) (list_to popped t y ++ j ∷ [])

  abbrev Fin : Outcome → Type 0
  Fin o = IfGoes o (λ p. Due (set_node ns x p.node) (carried popped p.effects))

  dialer_takes : t.dialer ≡ x → (s : TrunkSide) → v.peer ≡ s.peer
      → ((p : Option State) (A : List Item) → DueRow v.state p (i ∷ rest) A → DueRow s.state p rest A)
      → Due (set_node ns x (with_side_at n t s)) popped
  dialer_takes dx s pe f = due_dialer ns m x n (with_side_at n t s) hx nx t popped (λ u d. side_after_other n t s u d)
      (λ u z d. put_away m t x rest u z d) dx v s h (side_after_same n t s) pe (λ e. stranger (pe ∙ e))
      (λ p row. row_with s.state p p _ _ _ _ refl (sym (put_same m t x rest)) (sym (put_other m t x rest s.peer (λ e. stranger (pe ∙ e))))
      (f p _ (row_with v.state p p _ _ _ _ refl first refl row))) due

  dialer_answers : t.dialer ≡ x → (s : TrunkSide) (j : Item) → v.peer ≡ s.peer
      → ((p : Option State) (A : List Item) → DueRow v.state p (i ∷ rest) A → DueRow s.state p rest (A ++ j ∷ []))
      → Due (set_node ns x (with_side_at n t s)) (sent s.peer j)
  dialer_answers dx s j pe f = due_dialer ns m x n (with_side_at n t s) hx nx t (sent s.peer j) (λ u d. side_after_other n t s u d)
      (λ u z d. put_away popped t s.peer _ u z d ∙ put_away m t x rest u z d) dx v s h (side_after_same n t s) pe (λ e. stranger (pe ∙ e))
      (λ p row. row_with s.state p p _ _ _ _ refl
      (sym (put_other popped t s.peer _ x (λ e. stranger (pe ∙ sym e)) ∙ put_same m t x rest))
      (sym (put_same popped t s.peer _ ∙ ap (λ l. l ++ j ∷ []) (put_other m t x rest s.peer (λ e. stranger (pe ∙ e)))))
      (f p _ (row_with v.state p p _ _ _ _ refl first refl row))) due

  acceptor_takes : (t.dialer ≡ x → ⊥) → Met ns t x → (s : TrunkSide)
      → ((y : State) (D : List Item) → DueRow y (Some v.state) D (i ∷ rest) → DueRow y (Some s.state) D rest)
      → Due (set_node ns x (with_side_at n t s)) popped
  acceptor_takes dx k s f = due_acceptor ns m x n (with_side_at n t s) hx nx t popped (λ u d. side_after_other n t s u d)
      (λ u z d. put_away m t x rest u z d) dx k
      (λ y row. row_with y _ _ _ _ _ _ (ap state_in (sym (side_after_same n t s))) (sym (put_other m t x rest t.dialer dx))
      (sym (put_same m t x rest)) (f y _ (row_with y _ _ _ _ _ _ (ap state_in h) refl first row))) due

  acceptor_answers : (t.dialer ≡ x → ⊥) → Met ns t x → t.dialer ≡ v.peer → (s : TrunkSide) (j : Item)
      → ((y : State) (D : List Item) → DueRow y (Some v.state) D (i ∷ rest) → DueRow y (Some s.state) (D ++ j ∷ []) rest)
      → Due (set_node ns x (with_side_at n t s)) (sent v.peer j)
  acceptor_answers dx k pv s j f = due_acceptor ns m x n (with_side_at n t s) hx nx t (sent v.peer j) (λ u d. side_after_other n t s u d)
      (λ u z d. put_away popped t v.peer _ u z d ∙ put_away m t x rest u z d) dx k
      (λ y row. row_with y _ _ _ _ _ _ (ap state_in (sym (side_after_same n t s)))
      (sym (ap (list_to (sent v.peer j) t) pv ∙ put_same popped t v.peer _
      ∙ ap (λ l. l ++ j ∷ []) (ap (list_to popped t) (sym pv) ∙ put_other m t x rest t.dialer dx)))
      (sym (put_other popped t v.peer _ x (λ e. stranger (sym e)) ∙ put_same m t x rest))
      (f y _ (row_with y _ _ _ _ _ _ (ap state_in h) refl first row))) due

  pub bad : (k : Fault) → Fin (fault k t v (at_work n))
  bad k = go whose
    where
      go : Whose ns x t v → Due (set_node ns x (with_side_at n t (as_state v (lost v.state)))) popped
      go (inl e) = dialer_takes e (as_state v (lost v.state)) refl
          (λ p A r. let z = lost_ends v.state in taken_by_dialer (lost v.state) p i rest A
          (λ d. let c : false ≡ true = dials_not (lost v.state) z.0 d in absurd (let b : true ≡ false = sym c in cc))
          (dialer_ends v.state (lost v.state) p (i ∷ rest) A z.0 z.1 r))
      go (inr e) = acceptor_takes e.0 e.2 (as_state v (lost v.state))
          (λ y D r. let z = lost_ends v.state in acceptor_ends y (lost v.state) (Some v.state) D rest z.0 z.1 z.2
          (taken_by_acceptor y (Some v.state) i D rest r))

  unless : (b : Bool) (o : Outcome) (k : Fault) → Fin o → Fin (cond b o (fault k t v (at_work n)))
  unless true o k f = f
  unless false o k f = bad k

  is_dialer : role_state false v.state ≡ false → t.dialer ≡ x
  is_dialer e = by_test _ (same_name t.dialer x) (same_name_true t.dialer x)
      (λ b. let c : true ≡ false = sym role ∙ ap (λ z. role_state z v.state) b ∙ e in cc)

  is_acceptor : role_state true v.state ≡ false → (t.dialer ≡ x → ⊥) × (t.dialer ≡ v.peer) × Met ns t x
  is_acceptor e = go whose
    where
      go : Whose ns x t v → (t.dialer ≡ x → ⊥) × (t.dialer ≡ v.peer) × Met ns t x
      go (inl d) = let c : true ≡ false = sym role ∙ ap (λ z. role_state z v.state) (same_name_is t.dialer x d) ∙ e in cc
      go (inr d) = d

  status_row : (u : ℕ) → v.state ≡ AwaitsStatus u → is_accept i ≡ false → (p : Option State) (A : List Item) → DueRow v.state p (i ∷ rest) A
      → DueRow (AwaitsChallenge u) p rest A
  status_row u e a p A r = dialer_goes u u p rest A (taken_by_dialer (AwaitsStatus u) p i rest A (λ d. a)
      (subst (λ z. DueRow z p (i ∷ rest) A) e r))

  status_comes : (u : ℕ) → v.state ≡ AwaitsStatus u → is_accept i ≡ false
      → Due (set_node ns x (with_side_at n t (as_state v (AwaitsChallenge u)))) popped
  status_comes u e a = dialer_takes (is_dialer (ap (role_state false) e)) _ refl (status_row u e a)

  pub on_status : (u : ℕ) → v.state ≡ AwaitsStatus u → (l : ShakeMsg) → i ≡ Handshake l → Fin (awaits_status t v u l (at_work n))
  on_status u e (ShakeMsg.Status Status.Ok) j = status_comes u e (ap is_accept j)
  on_status u e (ShakeMsg.Status Status.OkSimultaneous) j = status_comes u e (ap is_accept j)
  on_status u e (ShakeMsg.Status Status.Alive) j = dialer_answers (is_dialer (ap (role_state false) e)) (as_state v (AwaitsChallenge u))
      (Handshake (ShakeMsg.Status Status.True)) refl
      (λ p A r. says_to_acceptor (AwaitsChallenge u) p (ShakeMsg.Status Status.True) rest A refl refl refl
      (status_row u e (ap is_accept j) p A r))
  on_status u e (ShakeMsg.Status Status.Nok) j = bad (Fault.Shake ShakeFault.Nok)
  on_status u e (ShakeMsg.Status Status.NotAllowed) j = bad (Fault.Shake ShakeFault.Nok)
  on_status u e _ j = bad (Fault.Shake ShakeFault.BadMessage)

  pub on_challenge : (u : ℕ) → v.state ≡ AwaitsChallenge u → (l : ShakeMsg) → i ≡ Handshake l → Fin (awaits_challenge t v u l (at_work n))
  on_challenge u e (ShakeMsg.Challenge f w c y) j = unless (is_same y v.peer) _ (Fault.Shake ShakeFault.Forged)
      (unless (has_all_of f mandatory) _ (Fault.Shake ShakeFault.FlagsMissing)
      (dialer_answers (is_dialer (ap (role_state false) e)) (record { peer = v.peer; introduction = introduction_by c f; state = AwaitsAck u })
      (Handshake (ShakeMsg.ChallengeReply u (digest_of n.cookie w))) refl
      (λ p A r. dialer_replies u u u (digest_of n.cookie w) p rest A
      (taken_by_dialer (AwaitsChallenge u) p i rest A (λ d. ap is_accept j) (subst (λ z. DueRow z p (i ∷ rest) A) e r)))))
  on_challenge u e _ j = bad (Fault.Shake ShakeFault.BadMessage)

  pub on_ack : (u : ℕ) → v.state ≡ AwaitsAck u → (l : ShakeMsg) → i ≡ Handshake l → Fin (awaits_ack t v u l (at_work n))
  on_ack u e (ShakeMsg.ChallengeAck d) j = unless (is_answered n.cookie u d) _ (Fault.Shake ShakeFault.BadDigest)
      (dialer_takes (is_dialer (ap (role_state false) e)) (as_state v Up) refl
      (λ p A r. dialer_comes_up u p i rest A (ap is_accept j) (subst (λ z. DueRow z p (i ∷ rest) A) e r)))
  on_ack u e _ j = bad (Fault.Shake ShakeFault.BadMessage)

  pub on_reply : (u : ℕ) → v.state ≡ Accepting u → (l : ShakeMsg) → i ≡ Handshake l → Fin (awaits_reply t v u l (at_work n))
  on_reply u e (ShakeMsg.ChallengeReply w d) j = let k = is_acceptor (ap (role_state true) e) in unless (is_answered n.cookie u d) _
      (Fault.Shake ShakeFault.BadDigest)
      (acceptor_answers k.0 k.2 k.1 (as_state v Up) (Handshake (ShakeMsg.ChallengeAck (digest_of n.cookie w)))
      (λ y D r. acceptor_comes_up y u i (digest_of n.cookie w) D rest (ap is_reply j) (subst (λ z. DueRow y (Some z) D (i ∷ rest)) e r)))
  on_reply u e _ j = bad (Fault.Shake ShakeFault.BadMessage)
