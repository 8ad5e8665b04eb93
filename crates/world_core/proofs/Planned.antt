-- What comes next on a connection is planned, and what is planned is sent.
use Rattle.std.proofs.Common.{◌≡◌, ◌+◌, ◌^◌, nat_lt, ℕ, Bool, true, false, cond, List, [], ◌++◌, Option, None, Some}
use Rattle.std.proofs.Common.{Result, Ok, Err, map, refl, sym, ap, subst, ◌∙◌, inl, inr, append-nil}
use Rattle.std.specs.FinMap as fm
use Rattle.std.specs.Ordering.{eq_by_cmp}
use Rattle.std.specs.declared.alloc.Global.{Global}
use Rattle.std.specs.declared.vec.Vec.{Vec}
use Rattle.dist_model.proofs.KeepBearings.{bearings_kept, if_accepted}
use Rattle.dist_model.specs.Arrivals.{arrive}
use Rattle.dist_model.specs.Commands.{Accepts, Outcome, Refuses}
use Rattle.dist_model.specs.Incarnations.{start, started, stop, stopped}
use Rattle.dist_model.specs.Items.{Item}
use Rattle.dist_model.specs.Keeping.{Bearings}
use Rattle.dist_model.specs.Names.{Name, place_cmp}
use Rattle.dist_model.specs.Node.{Node}
use Rattle.dist_model.specs.NodeEvents.{Arrive, NodeEvent, at_node, if_up}
use Rattle.dist_model.specs.Sides.{TrunkSide}
use Rattle.dist_model.specs.Work.{Work, at_work}
use Rattle.dist_model.specs.declared.report.Answer.{Answer}
use Rattle.dist_model.specs.declared.report.Effect.{Effect}
use Rattle.dist_model.specs.declared.report.Report.{Report}
use Rattle.erl_names.specs.declared.trunk.TrunkId.{TrunkId}
use Rattle.erl_term.specs.declared.refusal.Refusal.{Refusal}
use Rattle.node_connections.specs.Coming.{PlansBytes, PlansFront, comes}
use Rattle.node_connections.specs.Fronts.{Front}
use Rattle.node_core.proofs.Fronted.{refused_or, same_work}
use Rattle.node_core.proofs.PlanDone.{done}
use Rattle.node_core.specs.Arrived.{arrives, is_undialed, without_len}
use Rattle.node_core.specs.Done.{Did, Does}
use Rattle.node_frames.specs.Frames.{Framed, shown}
use Rattle.node_plan.specs.Planned.{IsPlanned, IsRefused, Plans}
use Rattle.node_plan.specs.Plans.{committed, told}
use Rattle.node_plan.specs.declared.plan.Plan.{Plan}
use Rattle.readers.specs.Reading.{AreBytes}
use Rattle.node_core.specs.ComingToANode.{IsNext, bytes_in}
use Rattle.world_core.specs.Events.{ComesTo, Meets, Sends, Stayed, taken_at}
use Rattle.node_core.specs.NodeEvents.{met}
use Rattle.node_core.specs.declared.node_event.NodeEvent.{NodeEvent as NodeEventOf}
use Rattle.node_core.specs.declared.node_event.NodeEvent.TheVariants as event
use Rattle.node_core.proofs.Fronts.{FrameAgain, OneFrame, item_comes, nothing_comes}
use Rattle.world_core.specs.Lists.{Lines, at, behind_first}
use Rattle.node_core.specs.SentAt.{sent_at}

-- ---- what comes

module _ (names : List Name) (m : Node) (trunk : TrunkId) (bytes : List ℕ) (word : ℕ) (plan : Plan) (result : Result ℕ Refusal)
    (one : OneFrame) (again : FrameAgain) (are : AreBytes bytes)
    (down : m.up ≡ false → result ≡ Err Refusal.NodeDown)
    (undialed : m.up ≡ true → is_undialed m trunk (fm.get m.sides trunk) ≡ true → result ≡ Err Refusal.NotLive)
    (came : m.up ≡ true → is_undialed m trunk (fm.get m.sides trunk) ≡ false
    → PlansBytes m (fm.get m.sides trunk) bytes (λ front. arrives m trunk front word) plan result) where
  abbrev due : Option Item → Outcome
  due first = at_node names m (Arrive trunk first word)

  refused : (first : Option Item) (e : Refusal) → result ≡ Err e → due first ≡ Refuses e → Plans m (due first) plan (without_len result)
  refused first e r h = subst (λ r. Plans m (due first) plan (without_len r)) (sym r) (inl h)

  planned : (first : Option Item) (front : Front) (r : Result ℕ Refusal)
      → comes m trunk (fm.get m.sides trunk) front word ≡ arrive m trunk (fm.get m.sides trunk) first word
      → PlansFront m (arrives m trunk front word) front plan r → Plans m (due first) plan (without_len r)
  planned first front (Ok len) e h = subst (λ o. IsPlanned m o plan) (ap (if_up m) e) h.0
  planned first front (Err why) e h = subst (λ o. IsRefused o why) (ap (if_up m) e) h

  -- the node is up
  first_comes : (frames : List Framed) (first : Option Item) → m.up ≡ true
      → is_undialed m trunk (fm.get m.sides trunk) ≡ false → bytes ≡ bytes_in frames → IsNext m trunk frames first
      → Plans m (due first) plan (without_len result)
  first_comes frames None u d b h =
      let p = came u d in
      planned None p.front result
      (nothing_comes one again bytes are m trunk word (fm.get m.sides trunk) p.front (b ∙ ap bytes_in h) p.is) p.plans
  first_comes frames (Some item) u d b h =
      let p = came u d in
      planned (Some item) p.front result
      (item_comes one again bytes are m trunk word (fm.get m.sides trunk) item p.front h.2.read h.2.spelled (b ∙ ap bytes_in h.1) p.is)
      p.plans

  -- it would have dialed, and has no side
  none_comes : (frames : List Framed) (first : Option Item) (o : Option TrunkSide) → fm.get m.sides trunk ≡ o → m.up ≡ true
      → is_undialed m trunk (fm.get m.sides trunk) ≡ true
      → IsNext m trunk frames first → Plans m (due first) plan (without_len result)
  none_comes frames None None s u d h =
      refused None Refusal.NotLive (undialed u d) (ap
      (λ b. cond b (arrive m trunk (fm.get m.sides trunk) None word) (Refuses Refusal.NodeDown)) u ∙ ap
      (λ o. arrive m trunk o None word) s)
  none_comes frames None (Some side) s u d h = let no : false ≡ true = ap (is_undialed m trunk) (sym s) ∙ d in cc
  none_comes frames (Some item) o s u d h = let no : false ≡ true = sym h.2.theirs ∙ d in cc

  pub comes_planned : (frames : List Framed) (first : Option Item) → bytes ≡ bytes_in frames → IsNext m trunk frames first
      → Plans m (due first) plan (without_len result)
  comes_planned frames first b h = go m.up refl
    where
      up : m.up ≡ true → (d : Bool) → is_undialed m trunk (fm.get m.sides trunk) ≡ d → Plans m (due first) plan (without_len result)
      up u true d = none_comes frames first (fm.get m.sides trunk) refl u d h
      up u false d = first_comes frames first u d b h

      go : (u : Bool) → m.up ≡ u → Plans m (due first) plan (without_len result)
      go true u = up u (is_undialed m trunk (fm.get m.sides trunk)) refl
      go false u =
          refused first Refusal.NodeDown (down u)
          (ap (λ b. cond b (arrive m trunk (fm.get m.sides trunk) first word) (Refuses Refusal.NodeDown)) u)

-- ---- what was planned

pub sends_planned : (m new : Node) (due : Outcome) (plan : Plan) (report : Report Framed) (before after : Lines) → IsPlanned m due plan
    → new ≡ committed plan m → report.answer ≡ told plan m → report.effects ≡ plan.effects
    → ((t : TrunkId) (x : Name) → at after t x ≡ at before t x ++ sent_at t x plan.effects.items) → Sends due m new before after (Ok report)
sends_planned m new due plan report before after h n t e g = (
  done m new due plan report h n t e,
  λ u x. g u x ∙ ap (λ (es : Vec (Effect Framed) Global). at before u x ++ sent_at u x es.items) (sym e),
)

pub lacks : (m new : Node) (due : Outcome) (plan : Plan) (before after : Lines) → IsPlanned m due plan → new ≡ m → Stayed before after
    → Sends due m new before after (Err Refusal.OutOfMemory)
lacks m new due plan before after h n s = (inr (record { is = refl; answer = h.answer; work = h.work; accepts = h.accepts }), n, s)

-- planned for the node as it was, whose room has grown
pub sends_on : (m mid new : Node) (due : Outcome) (plan : Plan) (made : Result (Unit {0}) Refusal) (before after : Lines)
    (result : Result (Report Framed) Refusal) → mid ≡ m → (Plans mid due plan made → Sends due mid new before after result)
    → Plans m due plan made → Sends due m new before after result
sends_on m mid new due plan made before after result e f h =
    subst (λ n. Sends due n new before after result) e (f (subst (λ n. Plans n due plan made) (sym e) h))

-- nothing is sent
pub silent : (due : Outcome) (old new : Node) (lines : Lines) (result : Result (Report Framed) Refusal)
    → ((answer : Answer) (work : Work) → due ≡ Accepts answer work → work.effects ≡ []) → Does due old new result
    → Sends due old new lines lines result
silent due old new lines (Ok report) quiet h = (
  h,
  λ t x.
      sym (append-nil (at lines t x))
      ∙ ap (λ es. at lines t x ++ sent_at t x es) (sym (h.effects ∙ ap (map shown) (quiet h.answer h.work h.accepts))),
)
silent due old new lines (Err e) quiet h = (h.0, h.1, λ t x. refl)

pub stop_is_silent : (m : Node) (answer : Answer) (work : Work) → if_up m (stop m) ≡ Accepts answer work → work.effects ≡ []
stop_is_silent m answer work h = go m.up h
  where
    go : (b : Bool) → cond b (stop m) (Refuses Refusal.NodeDown) ≡ Accepts answer work → work.effects ≡ []
    go true k = ap (λ (w : Work). w.effects) (same_work answer _ work (at_work (stopped m)) (sym k))
    go false k = refused_or Refusal.NodeDown answer work k

pub start_is_silent : (m : Node) (answer : Answer) (work : Work) → start m ≡ Accepts answer work → work.effects ≡ []
start_is_silent m answer work h = go m.up (nat_lt (m.mint.creation + 1) (2 ^ 32)) h
  where
    go : (b d : Bool) → cond b (Refuses Refusal.NodeUp)
        (cond d (Accepts (Answer.Started (m.mint.creation + 1)) (at_work (started m))) (Refuses Refusal.IdsUsedUp))
        ≡ Accepts answer work
        → work.effects ≡ []
    go true d k = refused_or Refusal.NodeUp answer work k
    go false true k = ap (λ (w : Work). w.effects) (same_work answer _ work (at_work (started m)) (sym k))
    go false false k = refused_or Refusal.IdsUsedUp answer work k

-- ---- an event that came to something

pub name_kept : (names : List Name) (m new : Node) (event : NodeEvent) (report : Report Framed)
    → Did (at_node names m event) new report → new.mint.name ≡ m.mint.name
name_kept names m new event report h =
    ap (λ (n : Node). n.mint.name) h.node
    ∙ (if_accepted (Bearings m event) (at_node names m event) h.answer h.work h.accepts (bearings_kept names m event)).name

-- what has come is gone
pub arrived : (names : List Name) (m new : Node) (t : TrunkId) (first : Option Item) (word : ℕ) (name : Name)
    (before sent after : Lines) (report : Report Framed)
    → Sends (at_node names m (Arrive t first word)) m new before sent (Ok report) → name ≡ new.mint.name
    → ((u : TrunkId) (x : Name) → at after u x ≡ cond (eq_by_cmp place_cmp (u, x) (t, name)) (behind_first (at sent u x)) (at sent u x))
    → ComesTo (event.Arrive t word) (at_node names m (Arrive t first word)) m new before after (Ok report)
arrived names m new t first word name before sent after report h n d = (
  h.0,
  λ u x.
      d u x
      ∙ ap (λ y. cond (eq_by_cmp place_cmp (u, x) (t, y)) (behind_first (at sent u x)) (at sent u x))
      (n ∙ name_kept names m new (Arrive t first word) report h.0)
      ∙ ap (λ q. cond (eq_by_cmp place_cmp (u, x) (t, m.mint.name)) (behind_first q) q) (h.1 u x),
)

-- planned for the node as it was
pub comes_on : (names : List Name) (first : Option Item) (t : TrunkId) (word : ℕ) (m mid new : Node) (plan : Plan)
    (made : Result (Unit {0}) Refusal) (before after : Lines) (result : Result (Report Framed) Refusal) → mid ≡ m
    → (Plans mid (at_node names mid (Arrive t first word)) plan made
    → ComesTo (event.Arrive t word) (at_node names mid (Arrive t first word)) mid new before after result)
    → Plans m (at_node names m (Arrive t first word)) plan made
    → ComesTo (event.Arrive t word) (at_node names m (Arrive t first word)) m new before after result
comes_on names first t word m mid new plan made before after result e f h =
    subst (λ n. ComesTo (event.Arrive t word) (at_node names n (Arrive t first word)) n new before after result) e
    (f (subst (λ n. Plans n (at_node names n (Arrive t first word)) plan made) (sym e) h))

-- of any event, whatever comes next
abbrev pub Happens : NodeEventOf → List Name → (old new : Node) → (before after : Lines) → Bool → Result (Report Framed) Refusal → Type 0
Happens happens names old new before after is_known result = (first : Option Item) → Meets happens names old before is_known first
    → ComesTo happens (at_node names old (met happens first)) old new before after result

pub as_sent : (happens : NodeEventOf) (due : Outcome) (old new : Node) (before after : Lines) (result : Result (Report Framed) Refusal)
    → ((name : Name) (t : TrunkId) (x : Name) (frames : List Framed) → taken_at happens name t x frames ≡ frames)
    → Sends due old new before after result → ComesTo happens due old new before after result
as_sent happens due old new before after (Ok report) none h =
    (h.0, λ t x. h.1 t x ∙ sym (none old.mint.name t x (at before t x ++ sent_at t x report.effects.items)))
as_sent happens due old new before after (Err e) none h = h
