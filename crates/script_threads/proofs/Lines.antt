-- The outcome of a line that is read.
use Rattle.std.proofs.Common.{◌≡◌, ◌&&◌, ℕ, eqb, Bool, true, false, cond, not, List, []}
use Rattle.std.proofs.Common.{nat_lt, Option, None, Some, Result, Ok, Err, refl, sym, ap, subst, ◌∙◌}
use Rattle.std.proofs.lemmas.List.{length-map}
use Rattle.std.specs.FinMap as fm
use Rattle.dist_books.specs.Acting.{names_of}
use Rattle.dist_model.specs.Names.{Name}
use Rattle.script_lines.specs.Lines.{ReadsSome, line_says, verb_in}
use Rattle.script_lines.specs.Replies.{expected, is_met, reply_after}
use Rattle.script_lines.specs.Said.{Said}
use Rattle.script_lines.specs.declared.line.Line.{Line}
use Rattle.script_lines.specs.declared.reading.MayCome.{MayCome}
use Rattle.script_lines.specs.declared.reason.Reason.{Reason}
use Rattle.run_traces.specs.Breaks.{none_broken}
use Rattle.run_traces.specs.declared.trace.Trace.{Trace}
use Rattle.script_session.proofs.LineOutcomes.{expected_free}
use Rattle.script_session.proofs.NodesFirst.{node_comes_early}
use Rattle.script_session.specs.Session.{State, binds, is_taken, new_name, starts}
use Rattle.script_session.specs.Session as session
use Rattle.script_threads.specs.Reading.{is_missing, says, unless_expected, unless_taken, unless_unmet}
use Rattle.script_session.specs.Stands.{Compares}
use Rattle.script_session.specs.declared.made.Made.{Made}
use Rattle.script_session.specs.declared.session.Stop.{Stop}
use Rattle.script_session.specs.declared.session.Stop.TheVariants as stop
use Rattle.script_terms.specs.Binding.{Knows}
use Rattle.script_threads.specs.Standing.{IsKnown, Known, Obeys, Ran, is_idle, may_come, nodes_after, nodes_of, reads_as, says_of}
use Rattle.script_threads.specs.declared.session.ThreadedSession.{ThreadedSession}
use Rattle.erl_handshake.specs.declared.setup.Setup.{Setup}

-- a state without threads in which the same lines may come
abbrev state_of : Known → State
state_of known = record {
  stage = record {
    world = record { names = names_of known.nodes; nodes = []; lists = fm.empty };
    word = 0;
    trace = Trace.Off;
    breaks = none_broken;
  };
  names = known.look;
  reply = known.reply;
  started = known.started;
}

same_lines : (known : Known) → may_come known ≡ session.may_come (state_of known)
same_lines known =
    ap (λ (n : ℕ). record { pair = not known.started && eqb n 0; node = not known.started && nat_lt n 64 })
    (sym (length-map known.nodes (λ (node : Name × Setup). node.0)))

-- a command that isn't there says nothing
there : (may : MayCome) (known : Known) (line : List ℕ) (it : Said) → says may known.look line ≡ Ok (Some it)
    → line_says may known.look line ≡ Ok (Some it)
there may known line it e = go (is_missing (verb_in line)) e
  where
    go : (b : Bool) → cond b (Err Reason.UnknownCommand) (line_says may known.look line) ≡ Ok (Some it)
        → line_says may known.look line ≡ Ok (Some it)
    go true e = absurd cc
    go false e = e

-- the reading of a line that may come in its place
pub reads : (known : Known) (may : MayCome) (line : List ℕ) (read result : Result (Option Line) Reason) → may ≡ may_come known
    → read ≡ result → ReadsSome (says may known.look line) read
    → ReadsSome (says (may_come known) known.look line) result
reads known may line read result m r h =
    subst (ReadsSome (says (may_come known) known.look line)) r (subst (λ (x : MayCome). ReadsSome (says x known.look line) read) m h)

-- a line for a node comes before any other command
pub early : (it : ThreadedSession) (known : Known) (line : List ℕ) (said : Said) → IsKnown it known
    → says (may_come known) known.look line ≡ Ok (Some said) → starts said ≡ false → is_idle it.threads.cast ≡ true
early it known line said h e s =
    h.idle (node_comes_early (state_of known) line said (subst (λ (x : MayCome). line_says x known.look line ≡ Ok (Some said))
    (same_lines known) (there (may_come known) known line said e)) s)

-- the name of a node isn't taken
pub reads_said : (known : Known) (line : List ℕ) (said : Said) → says (may_come known) known.look line ≡ Ok (Some said)
    → is_taken said (names_of known.nodes) ≡ false → reads_as known line ≡ Ok (Some said)
reads_said known line said e free =
    ap (unless_taken (names_of known.nodes)) e ∙ ap (λ (b : Bool). cond b (Err Reason.NameTaken) (Ok (Some said))) free

-- a line that is passed over
pub passed : (known : Known) (line : List ℕ) → says (may_come known) known.look line ≡ Ok None → says_of known line ≡ Ok None
passed known line e = ap (λ (due : Result (Option Said) Reason). unless_unmet known.look known.reply (unless_taken (names_of known.nodes) due)) e

-- a line that is bad by its words, or for its place
pub faulty : (known : Known) (line : List ℕ) (reason : Reason) → says (may_come known) known.look line ≡ Err reason
    → says_of known line ≡ Err reason
faulty known line reason e =
    ap (λ (due : Result (Option Said) Reason). unless_unmet known.look known.reply (unless_taken (names_of known.nodes) due)) e

-- or for a name that is taken
pub taken : (known : Known) (line : List ℕ) (said : Said) → says (may_come known) known.look line ≡ Ok (Some said)
    → is_taken said (names_of known.nodes) ≡ true → says_of known line ≡ Err Reason.NameTaken
taken known line said e t =
    ap (unless_unmet known.look known.reply) (ap (unless_taken (names_of known.nodes)) e
    ∙ ap (λ (b : Bool). cond b (Err Reason.NameTaken) (Ok (Some said))) t)

-- a line that expects a reply
pub compared : (session : ThreadedSession) (known : Known) (line out : List ℕ) (it : Said) (words : List ℕ)
    (result : Result (Unit {0}) Stop) → IsKnown session known → says (may_come known) known.look line ≡ Ok (Some it)
    → expected it ≡ Some words → Compares (is_met known.look known.reply words) result → Obeys known line session out out result
compared session known line out it words result h e wants met = go result met
  where
    free : is_taken it (names_of known.nodes) ≡ false
    free = expected_free it (names_of known.nodes) words wants

    due : says_of known line ≡ cond (is_met known.look known.reply words) (Ok None) (Err Reason.Unmet)
    due =
        ap (unless_unmet known.look known.reply) (reads_said known line it e free)
        ∙ ap (λ (o : Option (List ℕ)). unless_expected o known.look known.reply it) wants

    go : (r : Result (Unit {0}) Stop) → Compares (is_met known.look known.reply words) r → Obeys known line session out out r
    go (Ok x) m = (None, due ∙ ap (λ (b : Bool). cond b (Ok None) (Err Reason.Unmet)) m, (h, refl))
    go (Err (stop.Bad reason)) m = (
      due ∙ ap (λ (b : Bool). cond b (Ok None) (Err Reason.Unmet)) m.1 ∙ ap (λ (why : Reason). Err why) (sym m.0),
      refl,
    )
    go (Err stop.OutOfMemory) m = (it, reads_said known line it e free)

-- a line that is run
pub runs : (known : Known) (line : List ℕ) (said : Said) → says (may_come known) known.look line ≡ Ok (Some said)
    → expected said ≡ None → is_taken said (names_of known.nodes) ≡ false → says_of known line ≡ Ok (Some said)
runs known line said e none free =
    ap (unless_unmet known.look known.reply) (reads_said known line said e free)
    ∙ ap (λ (o : Option (List ℕ)). unless_expected o known.look known.reply said) none

pub ran : (session new : ThreadedSession) (known : Known) (it : Said) (name : List ℕ) (made : Made) (text : List ℕ)
    → IsKnown session known
    → nodes_of new.threads.cast ≡ nodes_after it (nodes_of session.threads.cast) → (starts it ≡ false → is_idle new.threads.cast ≡ true)
    → name ≡ new_name it → Knows new.names (binds name made known.look)
    → new.reply.line.items ≡ reply_after text session.reply.line.items → new.started ≡ starts it → Ran it known new text
ran session new known it name made text h nodes idle named knows replied started = record {
  made = made;
  after = record {
    nodes = nodes ∙ ap (nodes_after it) h.nodes;
    names = subst (λ (n : List ℕ). Knows new.names (binds n made known.look)) named knows;
    reply = replied ∙ ap (reply_after text) h.reply;
    started = started;
    idle = idle;
  };
}
