-- The node takes the item that was sent.
use Rattle.std.proofs.Common.{◌≡◌, ℕ, Bool, true, false, cond, List, Some, Result, Ok, Err, refl, ap, subst, sym, inl}
use Rattle.std.specs.FinMap as fm
use Rattle.dist_model.specs.Arrivals.{arrive}
use Rattle.dist_model.specs.Commands.{Outcome, Refuses}
use Rattle.dist_model.specs.Items.{Item}
use Rattle.dist_model.specs.Names.{Name}
use Rattle.dist_model.specs.Node.{Node}
use Rattle.dist_model.specs.NodeEvents.{Arrive, at_node, if_up}
use Rattle.erl_names.specs.declared.trunk.TrunkId.{TrunkId}
use Rattle.erl_term.specs.declared.refusal.Refusal.{Refusal}
use Rattle.node_connections.specs.Fronts.{Front}
use Rattle.node_core.specs.Arrived.{DoesArrived, DoesFront, arrives, is_undialed}
use Rattle.node_core.specs.Done.{Did, Does}
use Rattle.node_core.specs.declared.arriving.Arrived.{Arrived}
use Rattle.node_history.specs.Entering.{Answer}
use Rattle.node_frames.specs.Frames.{bytes_of}
use Rattle.node_plan.specs.Planned.{IsRefused}
use Rattle.readers.specs.Reading.{AreBytes}
use Rattle.node_core.proofs.Fronts.{FrameAgain, OneFrame, item_comes}
use Rattle.node_core.specs.ComingToANode.{CanCome}

-- without the number of bytes
abbrev pub answer_in : Result Arrived Refusal → Answer
answer_in (Ok arrived) = Ok arrived.report
answer_in (Err e) = Err e

module _ (names : List Name) (m new : Node) (trunk : TrunkId) (bytes : List ℕ) (word : ℕ) (item : Item) (result : Result Arrived Refusal)
    (one : OneFrame) (again : FrameAgain) (are : AreBytes bytes) (is : bytes ≡ bytes_of item) (can : CanCome m trunk item)
    (down : m.up ≡ false → (result ≡ Err Refusal.NodeDown) × (new ≡ m))
    (came : m.up ≡ true → is_undialed m trunk (fm.get m.sides trunk) ≡ false → DoesArrived m new trunk bytes word result) where
  abbrev due : Outcome
  due = at_node names m (Arrive trunk (Some item) word)

  does_front : (front : Front) (r : Result Arrived Refusal) → arrives m trunk front word ≡ due
      → DoesFront (arrives m trunk front word) front m new r
      → Does due m new (answer_in r)
  does_front front (Ok arrived) e h = subst (λ o. Did o new arrived.report) e h.0
  does_front front (Err why) e h = subst (λ o. IsRefused o why × (new ≡ m)) e h

  refused : (e : Refusal) (r : Result Arrived Refusal) → r ≡ Err e → due ≡ Refuses e → new ≡ m → Does due m new (answer_in r)
  refused e r is h n = subst (λ x. Does due m new (answer_in x)) (sym is) (inl h, n)

  pub arrives_does : Does due m new (answer_in result)
  arrives_does = go m.up refl
    where
      go : (u : Bool) → m.up ≡ u → Does due m new (answer_in result)
      go true u =
          let d = came u can.theirs in
          does_front d.front result
          (ap (if_up m) (item_comes one again bytes are m trunk word (fm.get m.sides trunk) item d.front can.read can.spelled is d.is))
          d.does
      go false u =
          refused Refusal.NodeDown result (down u).0
          (ap (λ b. cond b (arrive m trunk (fm.get m.sides trunk) (Some item) word) (Refuses Refusal.NodeDown)) u)
          (down u).1
