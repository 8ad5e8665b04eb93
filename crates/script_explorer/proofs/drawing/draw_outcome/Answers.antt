use Rattle.std.proofs.Common.{ℕ, List, Global, String, ap, map, refl, string_bytes, ◌∙◌}
use Rattle.run_traces.specs.declared.trace.Trace.{Trace}
use Rattle.script_explorer.proofs.Whole.{last_texts, ran}
use Rattle.script_explorer.specs.Drawn.{heading_of}
use Rattle.script_explorer.specs.Printed.{Shown}
use Rattle.script_session.specs.Session.{fresh_state}
use Rattle.script_explorer.proofs.drawing.draw_outcome.Goals as goal

pub returns : goal.returns
returns c =
    let heading = c.args.heading.now in
    let it = c.in_ok-replayed.replayed in
    let run = ran c.args.seed c.args.script.now it (c.in_ok-replayed.ensures (fresh_state Trace.Off c.args.seed) c.in_ok-session.ensures) in
    let shown : Shown c.args.seed = record {
      number = heading.number;
      all = heading.all;
      states = heading.states;
      questions = heading.questions;
      ran = run;
    } in (
      shown,
      refl,
      refl,
      c.in_ok-words.ensures
          ∙ ap (λ (texts : List (List ℕ)). heading_of heading.number heading.all heading.states texts)
          (ap (λ (texts : List (String Global)). map string_bytes texts) c.replies.ensures ∙ last_texts it.texts.items heading.questions),
    )
