-- What comes to a side that isn't over is taken, or breaks the side.
use Rattle.erl_handshake.specs.declared.turn.Progress.{Progress}
use Rattle.erl_handshake.specs.declared.turn.Progress.TheVariants as verdict
use Rattle.std.proofs.Common.{◌≡◌, ℕ, Bool, true, false, cond, refl, subst, sym, Option, Some, None, List}
use Rattle.std.specs.FinMap as fm
use Rattle.conn_core.specs.declared.arrival.Fault.{Fault}
use Rattle.dist_model.specs.Arrivals.{arrive, arrive_at, arrive_fresh, handshake_in, is_good, signal_at}
use Rattle.dist_model.specs.Commands.{Accepts, Refuses}
use Rattle.dist_model.specs.declared.report.Answer.{Answer}
use Rattle.dist_model.specs.Handshake.{on_verdict, after_answer, fault, handshake_at}
use Rattle.dist_model.specs.Items.{Item, kind_of}
use Rattle.dist_model.specs.Keeping.{IsAccepted}
use Rattle.dist_model.specs.Names.{Name}
use Rattle.dist_model.specs.Node.{Node}
use Rattle.dist_model.specs.NodeEvents.{Arrive, at_node}
use Rattle.dist_model.specs.Sides.{Asked, Gone, Losing, Parked, State, TrunkSide, Up, is_over}
use Rattle.dist_model.specs.Taking.{take_item}
use Rattle.dist_model.specs.Work.{Work, at_work}
use Rattle.erl_handshake.specs.declared.message.ShakeMsg.{ShakeMsg}
use Rattle.erl_names.specs.declared.trunk.TrunkId.{TrunkId}
use Rattle.erl_term.specs.declared.refusal.Refusal.{Refusal}
use Rattle.dist_model.specs.Admission.{after_name}

after_taken : (v : Progress) (t : TrunkId) (s r : TrunkSide) (m : ShakeMsg) (d : Option ShakeMsg) (o : Work)
    → IsAccepted (on_verdict v t s r m d o)
after_taken verdict.Go t s r m d o = (_, _, refl)
after_taken _ t s r m d o = (_, _, refl)

answer_taken : (v : Progress) (t : TrunkId) (s : TrunkSide) (w : ℕ) (m : ShakeMsg) (o : Work) → IsAccepted (after_answer v t s w m o)
answer_taken verdict.Go t s w m o = (_, _, refl)
answer_taken _ t s w m o = (_, _, refl)

message_taken : (v : State) (t : TrunkId) (s : TrunkSide) (m : ShakeMsg) (o : Work) → IsAccepted (handshake_at v t s m o)
message_taken (Asked w) t s m o = answer_taken _ t s w m o
message_taken (Parked w) t s m o = (_, _, refl)
message_taken Up t s m o = (_, _, refl)
message_taken Losing t s m o = (_, _, refl)
message_taken Gone t s m o = (_, _, refl)
message_taken _ t s m o = after_taken _ t s _ m _ o

signal_taken : (v : State) (t : TrunkId) (s : TrunkSide) (i : Item) (o : Work) → IsAccepted (signal_at v t s i o)
signal_taken Up t s i o = go (is_good o.node s i)
  where
    go : (b : Bool) → IsAccepted (cond b (Accepts (Answer.Took (kind_of i)) (take_item s.peer i o)) (fault Fault.Forged t s o))
    go true = (_, _, refl)
    go false = (_, _, refl)
signal_taken _ t s i o = (_, _, refl)

item_taken : (m : Option ShakeMsg) (t : TrunkId) (s : TrunkSide) (i : Item) (o : Work) → IsAccepted (arrive_at m t s i o)
item_taken None t s i o = signal_taken s.state t s i o
item_taken (Some m) t s i o = message_taken s.state t s m o

-- of a trunk that the node has no side of yet, what comes is never refused
name_taken : (v : Progress) (t : TrunkId) (s : TrunkSide) (w : ℕ) (o : Work) → IsAccepted (after_name v t s w o)
name_taken verdict.Go t s w o = (_, _, refl)
name_taken _ t s w o = (_, _, refl)

pub fresh_taken : (m : Option ShakeMsg) (t : TrunkId) (w : ℕ) (o : Work) → IsAccepted (arrive_fresh m t w o)
fresh_taken None t w o = (_, _, refl)
fresh_taken (Some m) t w o = name_taken _ t _ w o

pub arrival_taken : (names : List Name) (n : Node) (t : TrunkId) (s : TrunkSide) (i : Item) (w : ℕ) → n.up ≡ true
    → fm.get n.sides t ≡ Some s
    → is_over s.state ≡ false → IsAccepted (at_node names n (Arrive t (Some i) w))
arrival_taken names n t s i w u h e =
    subst (λ b. IsAccepted (cond b (arrive n t (fm.get n.sides t) (Some i) w) (Refuses Refusal.NodeDown))) (sym u)
    (subst (λ v. IsAccepted (arrive n t v (Some i) w)) (sym h)
    (subst (λ b. IsAccepted (cond b (Refuses Refusal.NotLive) (arrive_at (handshake_in i) t s i (at_work n)))) (sym e)
    (item_taken (handshake_in i) t s i (at_work n))))
