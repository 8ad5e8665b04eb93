-- Turn by turn, what is left to settle is what the rest of the turns does.
use Rattle.std.proofs.Common.{◌≡◌, ℕ, suc, Bool, true, not, is_some, List, [], ◌++◌, Option, None, Some}
use Rattle.std.proofs.Common.{Result, Ok, Err, OnOk, append_assoc, append-nil, refl, sym, ap, subst, ◌∙◌}
use Rattle.dist_model.specs.World.{Event}
use Rattle.script_session.specs.Stage.{Scene, Stage as TheStage, after, says, trace_of}
use Rattle.script_session.specs.Stands.{IsStage, Plays}
use Rattle.script_session.specs.Touched.{AreIdle, Turned}
use Rattle.script_session.specs.Turns.{settles, takes_turn, turn}
use Rattle.script_session.specs.declared.made.Made.TheVariants.{Nothing}
use Rattle.script_session.specs.declared.stage.Stage.{Stage}
use Rattle.script_texts.specs.Texts.{settled_text}

-- a text stands before what a scene prints
abbrev pub behind : List ℕ → Scene → Scene
behind text scene = record { stage = scene.stage; text = text ++ scene.text; made = scene.made }

behind_both : (a b : List ℕ) (scene : Scene) → behind a (behind b scene) ≡ behind (a ++ b) scene
behind_both a b scene = λ i. record { stage = scene.stage; text = sym (append_assoc a b scene.text) i; made = scene.made }

one_turn : (most : ℕ) (it : TheStage) (event : Event) → turn it ≡ Some event
    → settles (suc most) it ≡ behind (trace_of it event) (settles most (after it event))
unfolding settles
one_turn most it event h = ap (λ (next : Option Event). takes_turn next it (settles most)) h

no_turn : (most : ℕ) (it : TheStage) → turn it ≡ None → settles (suc most) it ≡ says (settled_text true) it
unfolding settles
no_turn most it h = ap (λ (next : Option Event). takes_turn next it (settles most)) h

over : (it : TheStage) → settles 0 it ≡ says (settled_text (not (is_some (turn it)))) it
unfolding settles
over it = refl

-- the text so far, and the stage from which the turns that are left go on, with so many of the first nodes idle
pub record Going (most : ℕ) (it : TheStage) (left idle : ℕ) (self : Stage) (before out : List ℕ) : Type 0 where
  pub now : TheStage
  pub done : List ℕ
  pub stage : IsStage self now
  pub text : out ≡ before ++ done
  pub goes : settles most it ≡ behind done (settles left now)
  pub rests : AreIdle now idle

pub begins : (most : ℕ) (it : TheStage) (self : Stage) (out : List ℕ) → IsStage self it → Going most it most 0 self out out
begins most it self out h = record { now = it; done = []; stage = h; text = sym (append-nil out); goes = refl; rests = refl }

pub goes_on : (most : ℕ) (it : TheStage) (left rest idle still : ℕ) (self new : Stage) (before out more : List ℕ) (event : Event)
    (g : Going most it left idle self before out) → left ≡ suc rest → turn g.now ≡ Some event
    → Turned event g.now new out more still → Going most it rest still new before more
goes_on most it left rest idle still self new before out more event g l t turned =
    let sent = trace_of g.now event in
    record {
      now = after g.now event;
      done = g.done ++ sent;
      stage = turned.stage;
      rests = turned.idle;
      text = turned.text ∙ ap (λ (w : List ℕ). w ++ sent) g.text ∙ append_assoc before g.done sent;
      goes = g.goes ∙ ap (λ (n : ℕ). behind g.done (settles n g.now)) l ∙ ap (behind g.done) (one_turn rest g.now event t)
          ∙ behind_both g.done sent (settles rest (after g.now event));
    }

ended : (most : ℕ) (it : TheStage) (left idle : ℕ) (self : Stage) (before out more text : List ℕ)
    (g : Going most it left idle self before out)
    → settles left g.now ≡ says text g.now
    → more ≡ out ++ text → Plays (settles most it) self before more Nothing
ended most it left idle self before out more text g e m =
    subst (λ scene. Plays scene self before more Nothing) (sym (g.goes ∙ ap (behind g.done) e))
    (record { stage = g.stage; text = m ∙ ap (λ (w : List ℕ). w ++ text) g.text ∙ append_assoc before g.done text; made = refl })

-- no turn is left at the stage
pub settled : (most : ℕ) (it : TheStage) (left rest idle : ℕ) (self : Stage) (before out more : List ℕ)
    (g : Going most it left idle self before out)
    → left ≡ suc rest → turn g.now ≡ None
    → more ≡ out ++ settled_text true → Plays (settles most it) self before more Nothing
settled most it left rest idle self before out more g l t m =
    ended most it left idle self before out more (settled_text true) g (ap (λ (n : ℕ). settles n g.now) l ∙ no_turn rest g.now t) m

-- all turns were taken
pub used_up : (most : ℕ) (it : TheStage) (left idle : ℕ) (self : Stage) (before out more : List ℕ) (is_settled : Bool)
    (g : Going most it left idle self before out) → left ≡ 0
    → is_settled ≡ not (is_some (turn g.now)) → more ≡ out ++ settled_text is_settled → Plays (settles most it) self before more Nothing
used_up most it left idle self before out more is_settled g l s m =
    ended most it left idle self before out more (settled_text is_settled) g
    (ap (λ (n : ℕ). settles n g.now) l ∙ over g.now ∙ ap (λ (b : Bool). says (settled_text b) g.now) (sym s)) m

-- a consequence of the clause of a call that succeeded
pub on_ok : {X E : Type 0} {P Q : Type 0} (r : Result X E) → (P → Q) → OnOk r P → OnOk r Q
on_ok (Ok x) f h = f h
on_ok (Err e) f h = tt
