-- The outcome of a line that is read.
use Rattle.std.proofs.Common.{◌≡◌, ℕ, false, cond, List, [], ◌∷◌, ◌++◌, drop, length, Option, None, Some, Result, Ok, Err, append-nil, refl, sym, ap, subst, ◌∙◌}
use Rattle.dist_model.specs.Names.{Name}
use Rattle.script_lines.specs.Lines.{ReadsSome, line_says}
use Rattle.script_lines.specs.Replies.{expected, is_met, reply_after}
use Rattle.script_lines.specs.Said.{Said}
use Rattle.script_lines.specs.Said as says
use Rattle.script_lines.specs.declared.line.Line.{Line}
use Rattle.script_lines.specs.declared.reading.MayCome.{MayCome}
use Rattle.script_lines.specs.declared.reason.Reason.{Reason}
use Rattle.script_session.proofs.NodesFirst.{node_comes_early}
use Rattle.script_session.proofs.EventsLead.{plays_opens}
use Rattle.script_session.specs.Session.{State, Step, binds, does, expects, is_taken, line_does, may_come, new_name, plays}
use Rattle.script_session.specs.Session.{says_does, starts, stays}
use Rattle.script_session.specs.Stands.{Compares, IsOpening, IsSession, Obeys, Plays, Steps}
use Rattle.script_session.specs.declared.made.Made.{Made}
use Rattle.script_session.specs.declared.session.Session.{Session}
use Rattle.script_session.specs.declared.session.Stop.{Stop}
use Rattle.script_session.specs.declared.session.Stop.TheVariants as stop
use Rattle.script_terms.specs.Binding.{Knows}

-- the reading of a line that may come as the state says
pub reads : (state : State) (may : MayCome) (bytes : List ℕ) (read result : Result (Option Line) Reason)
    → may ≡ may_come state → read ≡ result → ReadsSome (line_says may state.names bytes) read
    → ReadsSome (line_says (may_come state) state.names bytes) result
reads state may bytes read result m r h =
    subst (ReadsSome (line_says (may_come state) state.names bytes)) r (subst (λ x. ReadsSome (line_says x state.names bytes) read) m h)

-- a line that is passed over
pub passed : (session : Session) (state : State) (bytes out : List ℕ) → IsSession session state
    → line_says (may_come state) state.names bytes ≡ Ok None → Steps (line_does state bytes) session out out
passed session state bytes out h says = record {
  step = stays state;
  says = ap (says_does state) says;
  state = h;
  text = sym (append-nil out);
}

-- a line that expects a reply is for no node
pub expected_free : (it : Said) (names : List Name) (words : List ℕ) → expected it ≡ Some words → is_taken it names ≡ false
expected_free (says.Node name cookie profile) names words e = cc
expected_free it names words e = refl

-- a line that expects a reply
compares : (state : State) (bytes : List ℕ) (it : Said) (words : List ℕ) → line_says (may_come state) state.names bytes ≡ Ok (Some it)
    → expected it ≡ Some words
    → line_does state bytes ≡ cond (is_met state.names state.reply words) (Ok (stays state)) (Err Reason.Unmet)
compares state bytes it words says e =
    ap (says_does state) says
    ∙ ap (λ o. expects o state (cond (is_taken it state.stage.world.names) (Err Reason.NameTaken) (Ok (does it state)))) e

pub compared : (session : Session) (state : State) (bytes out : List ℕ) (it : Said) (words : List ℕ) (result : Result (Unit {0}) Stop)
    → IsSession session state → line_says (may_come state) state.names bytes ≡ Ok (Some it) → expected it ≡ Some words
    → Compares (is_met state.names state.reply words) result → Obeys state bytes session out out result
compared session state bytes out it words (Ok x) h says e met = record {
  step = stays state;
  says = compares state bytes it words says e ∙ ap (λ b. cond b (Ok (stays state)) (Err Reason.Unmet)) met;
  state = h;
  text = sym (append-nil out);
}
compared session state bytes out it words (Err (stop.Bad reason)) h says e met = (
  compares state bytes it words says e ∙ ap (λ b. cond b (Ok (stays state)) (Err Reason.Unmet)) met.1
      ∙ ap (λ (why : Reason). Err why) (sym met.0),
  refl,
)
compared session state bytes out it words (Err stop.OutOfMemory) h says e met =
    (it, says, expected_free it state.stage.world.names words e)

-- a line that is run
pub runs : (state : State) (bytes : List ℕ) (it : Said) → line_says (may_come state) state.names bytes ≡ Ok (Some it)
    → expected it ≡ None → is_taken it state.stage.world.names ≡ false → line_does state bytes ≡ Ok (does it state)
runs state bytes it says e free =
    ap (says_does state) says
    ∙ ap (λ o. expects o state (cond (is_taken it state.stage.world.names) (Err Reason.NameTaken) (Ok (does it state)))) e
    ∙ ap (λ b. cond b (Err Reason.NameTaken) (Ok (does it state))) free

-- a node comes where nothing has happened
pub early : (session : Session) (state : State) (bytes : List ℕ) (it : Said) → IsSession session state
    → line_says (may_come state) state.names bytes ≡ Ok (Some it) → starts it ≡ false → IsOpening state.stage.world
early session state bytes it h says s = h.opening (node_comes_early state bytes it says s)

-- the output of a command stands behind what was printed before
pub drop_before : (before text : List ℕ) → drop (length before) (before ++ text) ≡ text
drop_before [] text = refl
drop_before (c ∷ cs) text = drop_before cs text

-- the session after a command
pub ran : (session new : Session) (state : State) (it : Said) (name : List ℕ) (made : Made) (out text printed : List ℕ)
    → IsSession session state → (starts it ≡ false → IsOpening state.stage.world)
    → Plays (plays state.names it state.stage) new.stage out text made
    → name ≡ new_name it → Knows new.names (binds name made state.names)
    → printed ≡ drop (length out) text
    → new.reply.line.items ≡ reply_after printed session.reply.line.items → new.started ≡ starts it
    → (due : Result Step Reason) → due ≡ Ok (does it state) → Steps due new out text
ran session new state it name made out text printed h early played named knows behind replied started due is = record {
  step = does it state;
  says = is;
  state = record {
    stage = played.stage;
    names = subst (Knows new.names) (λ i. binds (named i) (played.made i) state.names) knows;
    reply = replied ∙ (λ i. reply_after (last i) (h.reply i));
    started = started;
    opening = λ s. plays_opens state.names it state.stage s (early s);
  };
  text = played.text;
}
  where
    last : printed ≡ (plays state.names it state.stage).text
    last = behind ∙ ap (drop (length out)) played.text ∙ drop_before out (plays state.names it state.stage).text
