-- What is told of an act, read as the place of its entry.
use Rattle.std.proofs.Common.{◌≡◌, ℕ, false, true, List, None, Result, Ok, Err, IfOk, IfErr}
use Rattle.dist_model.specs.Names.{Name}
use Rattle.dist_model.specs.NodeEvents.{at_node}
use Rattle.erl_term.specs.declared.refusal.Refusal.{Refusal}
use Rattle.node_lock.proofs.KeptByEvents.{HappensAt}
use Rattle.node_lock.specs.Answers.{is_plain}
use Rattle.node_core.specs.Model.{model_of}
use Rattle.node_history.specs.Acts.{Knows}
use Rattle.node_history.specs.Entering.{Tries}
use Rattle.node_history.specs.Telling.{placed}
use Rattle.node_history.specs.declared.entry.Told.{Told}
use Rattle.node_history.specs.declared.history.History.{History}
use Rattle.node_core.specs.NodeEvents.{met}
use Rattle.node_core.specs.declared.node_event.NodeEvent.{NodeEvent}
use Rattle.node_core.specs.declared.node_event.NodeEvent.TheVariants as event

pub ok_placed : (r : Result Told Refusal) (P : ℕ → Type 0) → IfOk (placed r) P → IfOk r (λ told. P told.place)
ok_placed (Ok told) P h = h
ok_placed (Err e) P h = h

pub err_placed : (r : Result Told Refusal) (P : Refusal → Type 0) → IfErr (placed r) P → IfErr r P
err_placed (Ok told) P h = h
err_placed (Err e) P h = h

pub ok_of_placed : (r : Result Told Refusal) (P : ℕ → Type 0) → IfOk r (λ told. P told.place) → IfOk (placed r) P
ok_of_placed (Ok told) P h = h
ok_of_placed (Err e) P h = h

pub err_of_placed : (r : Result Told Refusal) (P : Refusal → Type 0) → IfErr r P → IfErr (placed r) P
err_of_placed (Ok told) P h = h
err_of_placed (Err e) P h = h

-- nothing is to be known of the names where none is dialed
nothing_known : (what : NodeEvent) (names : List Name) → is_plain what ≡ true → Knows names what false
nothing_known (event.Dial peer word) names h = absurd (let no : false ≡ true = h in cc)
nothing_known what names h = tt

pub known_plainly : (what : NodeEvent) (above : ℕ) (old new : History) (r : Result ℕ Refusal) → is_plain what ≡ true
    → ((names : List Name) → Knows names what false → Tries (at_node names (model_of old.node) (met what None)) what above old new r)
    → HappensAt what above old new r
known_plainly what above old new r plain h = λ names. h names (nothing_known what names plain)
