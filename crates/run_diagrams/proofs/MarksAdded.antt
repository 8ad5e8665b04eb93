-- Marks behind marks, and ways that keep their numbers.
use Rattle.std.proofs.Common.{◌≡◌, ℕ, zero, suc, ◌+◌, ◌<◌, List, [], ◌∷◌, ◌++◌, length, take, get_or}
use Rattle.std.proofs.Common.{append_assoc, append-nil, Option, Result, ap, arith, refl, subst, sym, ◌∙◌}
use Rattle.diagram.specs.declared.rows.Mark.{Mark}
use Rattle.diagram.specs.declared.rows.Row.{Row}
use Rattle.dist_model.specs.Names.{Name}
use Rattle.dist_model.specs.declared.report.Effect.{Effect}
use Rattle.dist_model.specs.declared.report.Report.{Report}
use Rattle.erl_names.specs.declared.trunk.TrunkId.{TrunkId}
use Rattle.erl_term.specs.declared.refusal.Refusal.{Refusal}
use Rattle.node_frames.specs.Frames.{Framed}
use Rattle.run_diagrams.specs.Numbers.{AreApart}
use Rattle.run_diagrams.specs.Recording.{Adds, AreNumbers, IsRecorded, IsRowFor, KeepsNumbers}
use Rattle.run_diagrams.specs.Recording.{queue_in, queues_of, way_in, ways_of, with_row}
use Rattle.run_diagrams.specs.declared.queues.Way.{Way}
use Rattle.run_diagrams.specs.declared.scope.Scope.{Scope}

pub queues_behind : (marks others : List Mark) → queues_of (marks ++ others) ≡ queues_of marks ++ queues_of others
queues_behind [] others = refl
queues_behind (mark ∷ marks) others =
    ap (λ q. queue_in mark ++ q) (queues_behind marks others) ∙ sym (append_assoc (queue_in mark) (queues_of marks) (queues_of others))

pub are_kept : (old new : List Way) (numbers : List ℕ) (ways : List Way) → KeepsNumbers old new → AreNumbers old numbers ways
    → AreNumbers new numbers ways
are_kept old new [] [] k h = h
are_kept old new (number ∷ numbers) (way ∷ ways) k h = (k number way h.0, are_kept old new numbers ways k h.1)
are_kept old new [] (way ∷ ways) k h = absurd h
are_kept old new (number ∷ numbers) [] k h = absurd h

pub are_more : (all : List Way) (numbers others : List ℕ) (ways more : List Way) → AreNumbers all numbers ways
    → AreNumbers all others more → AreNumbers all (numbers ++ others) (ways ++ more)
are_more all [] others [] more h k = k
are_more all (number ∷ numbers) others (way ∷ ways) more h k = (h.0, are_more all numbers others ways more h.1 k)
are_more all [] others (way ∷ ways) more h k = absurd h
are_more all (number ∷ numbers) others [] more h k = absurd h

-- nothing is added
pub adds_none : (all : List Way) (old new : Row) → queues_of new.marks.items ≡ queues_of old.marks.items → new.took ≡ old.took
    → Adds all [] old new
adds_none all old new queues took = record {
  numbers = [];
  are = tt;
  queues = queues ∙ sym (append-nil (queues_of old.marks.items));
  took = took;
}

-- some are added, and then others
pub adds_more : (before after : List Way) (ways more : List Way) (old mid new : Row) → KeepsNumbers before after
    → Adds before ways old mid → Adds after more mid new → Adds after (ways ++ more) old new
adds_more before after ways more old mid new k first then = record {
  numbers = first.numbers ++ then.numbers;
  are = are_more after first.numbers then.numbers ways more (are_kept before after first.numbers ways k first.are) then.are;
  queues = then.queues ∙ ap (λ q. q ++ then.numbers) first.queues ∙ append_assoc (queues_of old.marks.items) first.numbers then.numbers;
  took = then.took ∙ first.took;
}

-- so far these ways were sent on, and none has changed its number
pub record Recorded (before after ways : List Way) (old new : Row) : Type 0 where
  pub adds : Adds after ways old new
  pub kept : KeepsNumbers before after
  pub apart : AreApart before → AreApart after

pub none_recorded : (all : List Way) (row : Row) → Recorded all all [] row row
none_recorded all row = record { adds = adds_none all row row refl refl; kept = λ n w h. h; apart = λ h. h }

pub more_recorded : (first before after ways more : List Way) (old mid new : Row) → Recorded first before ways old mid
    → Adds after more mid new → KeepsNumbers before after → (AreApart before → AreApart after)
    → Recorded first after (ways ++ more) old new
more_recorded first before after ways more old mid new r adds kept apart = record {
  adds = adds_more before after ways more old mid new kept r.adds adds;
  kept = λ n w h. kept n w (r.kept n w h);
  apart = λ h. apart (r.apart h);
}

pub ways_next : (effects : List (Effect Framed)) (i : ℕ) (effect : Effect Framed) → i < length effects
    → effect ≡ get_or effects i effect → ways_of (take (i + 1) effects) ≡ ways_of (take i effects) ++ way_in effect
ways_next [] i effect lt e = absurd (omega arith)
ways_next (x ∷ xs) zero effect lt e = append-nil (way_in x) ∙ ap way_in (sym e)
ways_next (x ∷ xs) (suc i) effect lt e =
    let k : suc i + 1 ≡ suc (i + 1) = omega arith in
    rw k (ap (λ w. way_in x ++ w) (ways_next xs i effect (omega arith) e)
    ∙ sym (append_assoc (way_in x) (ways_of (take i xs)) (way_in effect)))

pub recorded_row : (node : Name) (trunk : Option TrunkId) (came : Result (Report Framed) Refusal) (before scope : Scope)
    (old between new : List Row) (ways all : List Way) (row : Row)
    → IsRowFor node trunk came ways row → scope ≡ before → between ≡ old → all ≡ ways → new ≡ with_row scope between row
    → IsRecorded node trunk came before old new all
recorded_row node trunk came before scope old between new ways all row is here same kept behind = record {
  row = row;
  behind = behind ∙ ap (λ s. with_row s between row) here ∙ ap (λ rows. with_row before rows row) same;
  is = subst (λ (w : List Way). IsRowFor node trunk came w row) (sym kept) is;
}
