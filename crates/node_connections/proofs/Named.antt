-- A dialer names itself: which attempts end, and what the name comes to.
use Rattle.std.proofs.Common.{◌≡◌, ℕ, Bool, true, false, cond, not, ◌&&◌, Option, Some, None, refl, sym, ap, ◌∙◌}
use Rattle.std.proofs.lemmas.Option.{same_Some, none-some}
use Rattle.std.proofs.lemmas.Bool.{or_left, or_right}
use Rattle.std.specs.FinMap as fm
use Rattle.std.specs.Option.{is_some, option_map}
use Rattle.conn_core.specs.Side.{of_acceptor, on_message, taken_by}
use Rattle.conn_core.specs.declared.arrival.Arrival.{Arrival}
use Rattle.conn_core.specs.declared.arrival.Fault.{Fault}
use Rattle.conn_core.specs.declared.arrival.Taken.TheVariants as taken
use Rattle.conn_core.specs.declared.standing.Standing.TheVariants as standing
use Rattle.dist_model.specs.Admission.{after_name, give_up, give_up_if, hears_name, named_introduction, new_side, others, stands_after}
use Rattle.dist_model.specs.Handshake.{fault, identity, send_challenge}
use Rattle.dist_model.specs.Keeping.{AtMostOne, is_attempt}
use Rattle.dist_model.specs.Names.{Name}
use Rattle.dist_model.specs.Node.{Node, side_where}
use Rattle.dist_model.specs.Sides.{Gone, State, TrunkSide, in_state, is_dialing, is_waiting}
use Rattle.dist_model.specs.Sides as model
use Rattle.dist_model.specs.Work.{Work}
use Rattle.erl_handshake.specs.Admission.{admission, is_greater, is_simultaneous, is_superseded, status_due}
use Rattle.erl_handshake.specs.Roles.{acceptor_turn, introduction_fault, on_name}
use Rattle.erl_handshake.specs.declared.acceptor.AcceptorState.TheVariants as acceptor
use Rattle.erl_handshake.specs.declared.admission.OtherConnections.{OtherConnections}
use Rattle.erl_handshake.specs.declared.fault.ShakeFault.{ShakeFault}
use Rattle.erl_handshake.specs.declared.identity.Identity.{Identity}
use Rattle.erl_handshake.specs.declared.message.ShakeMsg.{ShakeMsg}
use Rattle.erl_handshake.specs.declared.status.Status.{Status}
use Rattle.erl_handshake.specs.declared.turn.Progress.{Progress}
use Rattle.erl_handshake.specs.declared.turn.Progress.TheVariants as progress
use Rattle.erl_names.specs.declared.trunk.TrunkId.{TrunkId}
use Rattle.node_connections.specs.Admitted.{sends_challenge}
use Rattle.node_connections.proofs.Beside.{found_in, get_other}
use Rattle.erl_handshake.specs.Roles.{introduction_by}

-- ---- at most one other attempt ends

dialing_due : (dialer own : Name) (count : ℕ) (o : OtherConnections) → is_simultaneous (status_due dialer own count o) ≡ true
    → o.dialing ≡ true
dialing_due dialer own count o h = go (is_superseded count o.waiting) o.connected o.dialing (is_greater dialer own) h
  where
    go : (a b c d : Bool)
        → is_simultaneous (cond a Status.Nok (cond b Status.Alive (cond c (cond d Status.OkSimultaneous Status.Nok) Status.Ok))) ≡ true
        → c ≡ true
    go false false true d h = refl
    go _ _ _ d h = cc

both_none : (s : State) → is_waiting s ≡ true → is_dialing s ≡ true → ⊥
both_none (model.AwaitsStatus w) h k = cc
both_none s h k = cc

pub one_ends : (n : Node) (y own : Name) (count : ℕ) → AtMostOne is_attempt n → let due = admission y own count (others n y) in
    due.ends_dialing ≡ true → due.ends_waiting ≡ false
one_ends n y own count attempts h =
    go (side_where is_waiting y (fm.entries n.sides)) (side_where is_dialing y (fm.entries n.sides)) refl refl
    (dialing_due y own count (others n y) h)
  where
    late : Option (TrunkId × TrunkSide) → Bool
    late o = is_superseded count (option_map (λ entry. entry.0.count) o)

    ends : Option (TrunkId × TrunkSide) → Bool
    ends o = is_some (option_map (λ (entry : TrunkId × TrunkSide). entry.0.count) o) && not (late o)

    go : (a b : Option (TrunkId × TrunkSide)) → side_where is_waiting y (fm.entries n.sides) ≡ a
        → side_where is_dialing y (fm.entries n.sides) ≡ b
        → is_some (side_where is_dialing y (fm.entries n.sides)) ≡ true → ends (side_where is_waiting y (fm.entries n.sides)) ≡ false
    go None b i j k = ap ends i
    go (Some e) None i j k = let c : true ≡ false = sym k ∙ ap is_some j in cc
    go (Some e) (Some d) i j k =
        let f = found_in is_waiting y n e i in
        let g = found_in is_dialing y n d j in
        let same : e.0 ≡ d.0 =
        attempts e.0 d.0 e.1 d.1 f.0 g.0 (f.1 ∙ sym g.1) (or_right (is_dialing e.1.state) (is_waiting e.1.state) f.2)
        (or_left (is_dialing d.1.state) (is_waiting d.1.state) g.2) in
        let side : e.1 ≡ d.1 = same_Some e.1 d.1 (sym f.0 ∙ ap (fm.get n.sides) same ∙ g.0) in
        absurd (both_none e.1.state f.2 (ap (λ (s : TrunkSide). is_dialing s.state) side ∙ g.2))

pub none_kept : (ends : Bool) (test : State → Bool) (y : Name) (t : TrunkId) (work : Work) → fm.get work.node.sides t ≡ None
    → fm.get (give_up_if ends test y work).node.sides t ≡ None
none_kept false test y t work h = h
none_kept true test y t work h = go (side_where test y (fm.entries work.node.sides)) refl
  where
    go : (o : Option (TrunkId × TrunkSide)) → side_where test y (fm.entries work.node.sides) ≡ o
        → fm.get (give_up (side_where test y (fm.entries work.node.sides)) work).node.sides t ≡ None
    go None i = ap (λ o. fm.get (give_up o work).node.sides t) i ∙ h
    go (Some e) i =
        let f = found_in test y work.node e i in
        let differs : t ≡ e.0 → ⊥ = λ j. none-some e.1 (sym h ∙ ap (fm.get work.node.sides) j ∙ f.0) in
        ap (λ o. fm.get (give_up o work).node.sides t) i ∙ get_other work.node.sides e.0 (in_state Gone e.1) t differs ∙ h

-- ---- what the name comes to

after_breaks : (p : Progress) (message : ShakeMsg) (sent : Option ShakeMsg) (why : Fault) (t : TrunkId) (s : TrunkSide)
    (w : ℕ) (work : Work)
    → taken_by p message sent ≡ taken.Broken why → after_name p t s w work ≡ fault why t s work
after_breaks progress.Go message sent why t s w work h = cc
after_breaks progress.Done message sent why t s w work h = cc
after_breaks (progress.Ended e) message sent why t s w work h = let a : Fault.Shake e ≡ why = cc in ap (λ f. fault f t s work) a

module _ (t : TrunkId) (message : ShakeMsg) (word len : ℕ) (work : Work) where
  abbrev came : Arrival
  came = on_message (identity work.node) t.dialer (standing.Accepting acceptor.AwaitsName) message word len

  pub name_breaks : (why : Fault) → came.was ≡ taken.Broken why → hears_name t message word work ≡ fault why t (new_side t message) work
  name_breaks why h =
      let turn = acceptor_turn (identity work.node) t.dialer acceptor.AwaitsName message word in
      after_breaks turn.next.progress message turn.next.send why t (new_side t message) word work h

pub name_stands : (own : Identity) (y : Name) (message said : ShakeMsg) (send : Option ShakeMsg) (word len : ℕ)
    → (on_message own y (standing.Accepting acceptor.AwaitsName) message word len).was ≡ taken.Message said send
    → (on_message own y (standing.Accepting acceptor.AwaitsName) message word len).standing
    ≡ standing.Accepting (acceptor.AwaitsAdmission word (named_introduction message))
name_stands own y (ShakeMsg.SendName flags creation name) said send word len h = go (introduction_fault y name flags) h
  where
    go : (o : Option ShakeFault)
        → taken_by (on_name o (introduction_by creation flags) word).next.progress (ShakeMsg.SendName flags creation name) (on_name o (introduction_by creation flags) word).next.send
        ≡ taken.Message said send
        → of_acceptor (on_name o (introduction_by creation flags) word).state ≡ standing.Accepting (acceptor.AwaitsAdmission word (introduction_by creation flags))
    go None h = refl
    go (Some why) h = cc
name_stands own y message said send word len h = cc

pub sent_after : (said : Status) (t : TrunkId) (s : TrunkSide) (w : ℕ) (work : Work) → sends_challenge said ≡ true
    → stands_after said t s w work ≡ send_challenge t s w work
sent_after Status.Ok t s w work h = refl
sent_after Status.OkSimultaneous t s w work h = refl
sent_after said t s w work h = cc
