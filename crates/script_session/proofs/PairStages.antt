-- The stage of a pair, event by event.
use Rattle.std.proofs.Common.{◌≡◌, ℕ, List, [], ◌∷◌, refl, sym, subst, ◌∙◌}
use Rattle.dist_model.specs.World.{Event}
use Rattle.script_session.specs.Stage.{Stage as TheStage, after, play}
use Rattle.script_session.specs.Stands.{IsStage}
use Rattle.script_session.specs.declared.stage.Stage.{Stage}

-- some events have happened, and the others are left
pub record Playing (all : List (ℕ → Event)) (from : TheStage) (rest : List (ℕ → Event)) (self : Stage) : Type 0 where
  pub now : TheStage
  pub stage : IsStage self now
  pub goes : play all from ≡ play rest now

pub begins : (all : List (ℕ → Event)) (from : TheStage) (self : Stage) → IsStage self from → Playing all from all self
begins all from self h = record { now = from; stage = h; goes = refl }

one_more : (event : ℕ → Event) (rest : List (ℕ → Event)) (it : TheStage) → play (event ∷ rest) it ≡ play rest (after it (event it.word))
unfolding play
one_more event rest it = refl

no_more : (it : TheStage) → play [] it ≡ it
unfolding play
no_more it = refl

-- one of them happens
pub goes_on : (all : List (ℕ → Event)) (from : TheStage) (event : ℕ → Event) (rest : List (ℕ → Event)) (self new : Stage)
    → Playing all from (event ∷ rest) self
    → ((now : TheStage) → IsStage self now → IsStage new (after now (event now.word))) → Playing all from rest new
goes_on all from event rest self new p h = record {
  now = after p.now (event p.now.word);
  stage = h p.now p.stage;
  goes = p.goes ∙ one_more event rest p.now;
}

-- all have
pub ends : (all : List (ℕ → Event)) (from : TheStage) (new : Stage) → Playing all from [] new → IsStage new (play all from)
ends all from new p = subst (IsStage new) (sym (p.goes ∙ no_more p.now)) p.stage
