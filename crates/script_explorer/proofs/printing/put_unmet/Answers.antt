use Rattle.std.proofs.Common.{ℕ, ◌++◌, List, ap, append_assoc, codes, map, sym, ◌∙◌}
use Rattle.run_traces.specs.declared.trace.Trace.{Trace}
use Rattle.script_explorer.proofs.Led.{bytes_of}
use Rattle.script_explorer.specs.Printed.{Unmet}
use Rattle.script_explorer.specs.Texts.{comments, script_text, unmet_heading}
use Rattle.script_session.specs.Session.{fresh_state}
use Rattle.script_explorer.proofs.printing.put_unmet.Goals as goal

pub returns : goal.returns
returns c =
    let run = c.in_ok-run_to_unmet.ensures (fresh_state Trace.Off c.args.seed) c.new.ensures in
    let unmet : Unmet c.args.seed = record {
      number = c.args.number;
      ran = record { lines = run.before; texts = run.texts; last = run.last; led = run.led };
      line = run.line;
      unmet = run.unmet;
      advice = c.as_str.result.now;
    } in
    let old = c.args.out.now.items in
    let head = unmet_heading c.args.number in
    let told = comments c.as_str.result.now in
    let script = script_text (map bytes_of c.args.lines.now) in (
      unmet,
      c.in_ok-put_script.ensures
          ∙ ap (λ (l : List ℕ). l ++ script) (c.in_ok-put.ensures ∙ ap (λ (l : List ℕ). l ++ codes "\n") c.in_ok-put_unmet_heading.ensures)
          ∙ append_assoc (old ++ head ++ told) (codes "\n") script
          ∙ append_assoc (old ++ head) told (codes "\n" ++ script)
          ∙ append_assoc old head (told ++ (codes "\n" ++ script))
          ∙ ap (λ (l : List ℕ). old ++ l) (sym (append_assoc head told (codes "\n" ++ script)) ∙ sym (append_assoc (head ++ told) (codes "\n") script))
          ∙ ap (λ (lines : List (List ℕ)). old ++ (head ++ told ++ codes "\n" ++ script_text lines)) run.parts,
    )
