use Rattle.std.proofs.Common.{ℕ, ◌++◌, List, String, Global, ap, append_assoc, map, refl, string_bytes, sym, ◌∙◌}
use Rattle.std.specs.List.{flat_map}
use Rattle.run_traces.specs.declared.trace.Trace.{Trace}
use Rattle.script_explorer.proofs.Whole.{last_texts, ran}
use Rattle.script_explorer.specs.Printed.{Shown}
use Rattle.script_explorer.specs.Texts.{comments, heading_text, script_text}
use Rattle.script_session.specs.Session.{fresh_state}
use Rattle.script_explorer.proofs.printing.put_outcome.Goals as goal

pub returns : goal.returns
returns c =
    let heading = c.args.heading.now in
    let it = c.in_ok-replayed.replayed in
    let old = c.args.out.now.items in
    let head = heading_text heading.number heading.all heading.states in
    let run = ran c.args.seed c.args.lines.now it (c.in_ok-replayed.ensures (fresh_state Trace.Off c.args.seed) c.new.ensures) in
    let shown : Shown c.args.seed = record {
      number = heading.number;
      all = heading.all;
      states = heading.states;
      questions = heading.questions;
      ran = run;
    } in
    let replied : List ℕ = flat_map comments (map string_bytes c.replies.result.now) in
    let script : List ℕ = script_text run.lines in (
      shown,
      refl,
      refl,
      c.in_ok-put_script.ensures
          ∙ ap (λ (l : List ℕ). l ++ script) (c.in_ok-put_replies.ensures ∙ ap (λ (l : List ℕ). l ++ replied) c.in_ok-put_heading.ensures)
          ∙ append_assoc (old ++ head) replied script
          ∙ append_assoc old head (replied ++ script)
          ∙ ap (λ (l : List ℕ). old ++ l) (sym (append_assoc head replied script))
          ∙ ap (λ (texts : List (List ℕ)). old ++ (head ++ flat_map comments texts ++ script))
          (ap (λ (texts : List (String Global)). map string_bytes texts) c.replies.ensures ∙ last_texts it.texts.items heading.questions),
    )
