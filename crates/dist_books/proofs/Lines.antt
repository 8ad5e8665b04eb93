-- Whatever comes of an event at a node is a line of its log.
use Rattle.erl_handshake.specs.declared.turn.Progress.TheVariants as progress
use Rattle.std.proofs.Common.{◌≡◌, ℕ, Bool, true, false, cond, Option, None, Some, List, inl, inr, ◌⊎◌, refl, sym, ap, ◌∙◌}
use Rattle.std.specs.FinMap as fm
use Rattle.dist_books.specs.Acting.{AcceptsWhatComes, EventsAreLines, IsMet, RefusesWhateverComes}
use Rattle.dist_books.specs.Acting.{meets, names_of, next_of, report_of, sent_in, taken_in}
use Rattle.dist_model.specs.Arrivals.{arrive, arrive_fresh, handshake_in}
use Rattle.dist_model.specs.Commands.{Accepts, Outcome, Refuses}
use Rattle.dist_model.specs.Items.{Item}
use Rattle.dist_model.specs.Keeping.{IsAccepted}
use Rattle.dist_model.specs.Names.{Name}
use Rattle.dist_model.specs.Node.{Node}
use Rattle.dist_model.specs.NodeEvents as met
use Rattle.dist_model.specs.NodeEvents.{at_node}
use Rattle.dist_model.specs.Sides.{TrunkSide, is_over}
use Rattle.dist_model.specs.Work.{at_work}
use Rattle.dist_model.specs.World.{Arrive, Event}
use Rattle.erl_names.specs.declared.trunk.TrunkId.{TrunkId}
use Rattle.erl_term.specs.declared.refusal.Refusal.{Refusal}
use Rattle.dist_model.proofs.KeepTaken.{fresh_taken}

-- what the law of the model says of an arrival
abbrev pub ArrivalIsTaken : Type 0
ArrivalIsTaken = (names : List Name) (node : Node) (trunk : TrunkId) (side : TrunkSide) (item : Item) (word : ℕ)
    → node.up ≡ true → fm.get node.sides trunk ≡ Some side → is_over side.state ≡ false
    → IsAccepted (at_node names node (met.Arrive trunk (Some item) word))

clash : {X : Type 0} (outcome : Outcome) (why : Refusal) → IsAccepted outcome → outcome ≡ Refuses why → X
clash outcome why taken refused = let no : Accepts taken.0 taken.1 ≡ Refuses why = sym taken.2 ∙ refused in absurd (cc)

module _ (is_taken : ArrivalIsTaken) (names : List Name) (node : Node) where
  module _ (trunk : TrunkId) (word : ℕ) where
    abbrev arrives : Option Item → Outcome
    arrives first = at_node names node (met.Arrive trunk first word)

    -- where all are refused for one reason
    all_alike : (why also : Refusal) (item : Item) → ((first : Option Item) → arrives first ≡ Refuses also)
        → arrives (Some item) ≡ Refuses why
        → (first : Option Item) → arrives first ≡ Refuses why
    all_alike why also item all refused first = all first ∙ sym (all (Some item)) ∙ refused

    over_or_not : (side : TrunkSide) (b : Bool) (why : Refusal) (item : Item) → node.up ≡ true → fm.get node.sides trunk ≡ Some side
        → is_over side.state ≡ b
        → arrives (Some item) ≡ Refuses why → (first : Option Item) → arrives first ≡ Refuses why
    over_or_not side true why item up there over refused = all_alike why Refusal.NotLive item (λ first.
        ap (λ b. cond b (arrive node trunk (fm.get node.sides trunk) first word) (Refuses Refusal.NodeDown)) up
        ∙ ap (λ s. arrive node trunk s first word) there
        ∙ rw over refl) refused
    over_or_not side false why item up there over refused =
        clash (arrives (Some item)) why (is_taken names node trunk side item word up there over) refused

    side_or_none : (o : Option TrunkSide) (why : Refusal) (item : Item) → node.up ≡ true → fm.get node.sides trunk ≡ o
        → arrives (Some item) ≡ Refuses why → (first : Option Item) → arrives first ≡ Refuses why
    side_or_none None why item up there refused =
        clash (arrive_fresh (handshake_in item) trunk word (at_work node)) why (fresh_taken (handshake_in item) trunk word (at_work node)) (
        sym (ap (λ b. cond b (arrive node trunk (fm.get node.sides trunk) (Some item) word) (Refuses Refusal.NodeDown)) up
        ∙ ap (λ s. arrive node trunk s (Some item) word) there) ∙ refused)
    side_or_none (Some side) why item up there refused = over_or_not side (is_over side.state) why item up there refl refused

    refused_once : (b : Bool) (why : Refusal) (item : Item) → node.up ≡ b → arrives (Some item) ≡ Refuses why → (first : Option Item)
        → arrives first ≡ Refuses why
    refused_once false why item up refused = all_alike why Refusal.NodeDown item (λ first.
        ap (λ b. cond b (arrive node trunk (fm.get node.sides trunk) first word) (Refuses Refusal.NodeDown)) up) refused
    refused_once true why item up refused = side_or_none (fm.get node.sides trunk) why item up refl refused

  refused_whatever : (event : Event) (first : Option Item) (why : Refusal) → IsMet event first
      → at_node names node (meets event first) ≡ Refuses why
      → (other : Option Item) → at_node names node (meets event other) ≡ Refuses why
  refused_whatever (Arrive trunk name word) None why met refused other = absurd (met refl)
  refused_whatever (Arrive trunk name word) (Some item) why met refused other = refused_once trunk word node.up why item refl refused other
  refused_whatever event first why met refused other = refused

  line_of : (event : Event) (first : Option Item) → IsMet event first → (outcome : Outcome)
      → at_node names node (meets event first) ≡ outcome
      → RefusesWhateverComes names node event (taken_in event first outcome) (report_of outcome) (next_of node outcome) (sent_in outcome)
      ⊎ AcceptsWhatComes names node event (taken_in event first outcome) (report_of outcome) (next_of node outcome) (sent_in outcome)
  line_of event first met (Refuses why) is = inl (record {
    why = why;
    refused = refused_whatever event first why met is;
    answered = refl;
    unchanged = refl;
    nothing_taken = refl;
    nothing_sent = refl;
  })
  line_of event first met (Accepts said work) is = inr (record {
    first = first;
    said = said;
    work = work;
    accepted = is;
    answered = refl;
    becomes = refl;
    taken = refl;
    sends = refl;
  })

pub events_are_lines : ArrivalIsTaken → EventsAreLines
events_are_lines is_taken nodes k node event first below named met =
    (below, named, line_of is_taken (names_of nodes) node event first met (at_node (names_of nodes) node (meets event first)) refl)
