-- What the node has answered is written down, or memory was wanting and nothing has changed.
use Rattle.std.proofs.Common.{◌≡◌, ℕ, ◌+◌, ◌^◌, ◌<◌, max, true, false, List, [], ◌∷◌, ◌++◌}
use Rattle.std.proofs.Common.{length, Result, Ok, Err, inl, inr, sym, ap, ◌∙◌, subst}
use Rattle.dist_model.specs.Commands.{Outcome, Refuses}
use Rattle.dist_model.specs.Names.{Name}
use Rattle.dist_model.specs.Node as model
use Rattle.dist_model.specs.NodeEvents as met
use Rattle.dist_model.specs.NodeEvents.{at_node}
use Rattle.erl_term.specs.declared.refusal.Refusal.{Refusal}
use Rattle.node_core.specs.Done.{Does}
use Rattle.node_core.specs.Model.{model_of}
use Rattle.node_core.specs.declared.node.Node.{Node}
use Rattle.node_history.specs.Entering.{Answer, Ends, IsWanting, Stays, Tries, Writes, is_unwritten}
use Rattle.node_history.specs.declared.entry.Entry.{Entry}
use Rattle.node_history.specs.declared.history.History.{History}
use Rattle.node_plan.specs.Planned.{IsRefused}
use Rattle.node_core.specs.declared.node_event.NodeEvent.{NodeEvent}

refuses : (due : Outcome) (e : Refusal) → IsRefused due e → is_unwritten (Err e) ≡ false → due ≡ Refuses e
refuses due e (inl h) w = h
refuses due e (inr h) w = absurd (let no : true ≡ false = subst (λ x. is_unwritten (Err x) ≡ false) h.is w in cc)

ends : (due : Outcome) (m n : model.Node) (answer : Answer) → Does due m n answer → is_unwritten answer ≡ false → Ends due m n answer
ends due m n (Ok report) d w = d
ends due m n (Err e) d w = (refuses due e d.0 w, d.1)

unchanged : (due : Outcome) (m n : model.Node) (answer : Answer) → Does due m n answer → is_unwritten answer ≡ true → n ≡ m
unchanged due m n (Ok report) d w = absurd (let no : false ≡ true = w in cc)
unchanged due m n (Err e) d w = d.1

pub stays : (old new : History) → new.node ≡ old.node → new.last ≡ old.last → new.entries.items ≡ old.entries.items → Stays old new
stays old new n l e = record { node = ap model_of n; last = l; entries = e }

-- a copy that there is no memory for
pub lacks : (last above stamp : ℕ) → stamp ≡ max last above + 1 → stamp < 2 ^ 64 → (e : Refusal) → e ≡ Refusal.OutOfMemory
    → IsWanting last above e
lacks last above stamp is fits e h = inr (h, subst (λ n. n < 2 ^ 64) is fits)

module _ (due : Outcome) (event : NodeEvent) (above stamp : ℕ) (old mid new : History) (node : Node) (answer : Answer)
    (node_is : mid.node ≡ old.node) (last_is : mid.last ≡ old.last) (entries_are : mid.entries.items ≡ old.entries.items)
    (stamp_is : stamp ≡ max old.last above + 1) (fits : stamp < 2 ^ 64) (does : Does due (model_of old.node) (model_of node) answer) where
  abbrev entry : ℕ → Entry
  entry s = record { stamp = s; event = event; answer = answer }

  pub tried : (result : Result ℕ Refusal) → Writes stamp event answer (record mid { node = node }) new result
      → Tries due event above old new result
  tried (Ok place) w = (
    record {
      answer = answer;
      entries = w.4 ∙ ap (λ (es : List Entry). es ++ entry stamp ∷ []) entries_are
          ∙ ap (λ s. old.entries.items ++ entry s ∷ []) (sym w.2);
      stamp = w.2 ∙ stamp_is;
      ends = subst (λ n. Ends due (model_of old.node) (model_of n) answer) (sym w.1) (ends due _ _ answer does w.0);
    },
    w.3 ∙ ap (λ (es : List Entry). length es) entries_are,
  )
  tried (Err e) w = (
    record {
      node = ap model_of w.1 ∙ unchanged due _ _ answer does w.0;
      last = w.2 ∙ last_is;
      entries = w.4 ∙ entries_are;
    },
    lacks old.last above stamp stamp_is fits e w.3,
  )

-- the same of an event at the node, which was moved meanwhile
pub tried_at : (names : List Name) (what : met.NodeEvent) (event : NodeEvent) (above stamp : ℕ) (old mid new : History)
    (node : Node) (answer : Answer)
    → mid.node ≡ old.node → mid.last ≡ old.last → mid.entries.items ≡ old.entries.items → stamp ≡ max old.last above + 1 → stamp < 2 ^ 64
    → Does (at_node names (model_of mid.node) what) (model_of mid.node) (model_of node) answer → (result : Result ℕ Refusal)
    → Writes stamp event answer (record mid { node = node }) new result
    → Tries (at_node names (model_of old.node) what) event above old new result
tried_at names what event above stamp old mid new node answer n l e s f does result w =
    tried (at_node names (model_of old.node) what) event above stamp old mid new node answer n l e s f
    (subst (λ (x : Node). Does (at_node names (model_of x) what) (model_of x) (model_of node) answer) n does) result w
