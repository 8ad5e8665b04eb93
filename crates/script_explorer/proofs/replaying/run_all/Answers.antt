use Rattle.std.proofs.Common.{◌≡◌, ℕ, ◌+◌, [], ◌∷◌, List, ◌++◌, Global, Vec, Ok, Some, ap, arith, append-nil, drop, map, refl, rules, string_bytes, is_some, subst, sym, take, take_all, true≢false, ◌∙◌}
use Rattle.std.proofs.lemmas.List.{map-append}
use Rattle.script_explorer.proofs.Led.{bytes_of, one_more, parted, stopped}
use Rattle.script_explorer.specs.Replays.{Ends}
use Rattle.script_session.proofs.Led.{led_more}
use Rattle.script_session.specs.Running.{LeadsTo}
use Rattle.script_session.specs.Session.{line_does}
use Rattle.script_explorer.proofs.replaying.run_all.Goals as goal

pub loop-line-init : goal.loop-line-init
loop-line-init c = λ from is. (from, (ap (map string_bytes) c.new-texts.ensures.items, refl), is)

pub returns-in-Err-2 : goal.returns-in-Err-2
returns-in-Err-2 c = λ from is.
    let was = c.loop-line.invariant from is in
    let lines = c.args.lines.now in
    let item = c.line-item.result in
    let index = c.loop-line.line-index in
    record {
      ran = map bytes_of (take index lines);
      rest = item.items ∷ map bytes_of (drop (index + 1) lines);
      parts = parted lines index item c.loop-line-test.true c.line-item.is;
      last = was.0;
      led = was.1;
      ends = subst (λ (line : List ℕ). Ends was.0 (line ∷ map bytes_of (drop (index + 1) lines)) (Some c.in-Err.stop)) c.deref.ensures.value
          (stopped was.0 c.deref.result.now (map bytes_of (drop (index + 1) lines)) c.line.new.self (string_bytes c.new-text.result)
          (string_bytes c.line.new.out) c.in-Err.stop (search rules) (c.in-Err.ensures was.0 (c.count_line.ensures.state was.0 was.2)));
      session = λ whole. absurd (true≢false (ap is_some whole));
    }

pub loop-line-preserved : goal.loop-line-preserved
loop-line-preserved c = λ from is.
    let was = c.loop-line.invariant from is in
    let lines = c.args.lines.now in
    let item = c.line-item.result in
    let index = c.loop-line.line-index in
    let texts : List (List ℕ) = map string_bytes c.loop-line.texts.items in
    let steps = c.in-Ok.ensures was.0 (c.count_line.ensures.state was.0 was.2) in
    let text = steps.step.text in
    let pushed : map string_bytes c.push.new.self.items ≡ texts ++ text ∷ [] =
    ap (map string_bytes) c.in_ok-push-in-Ok.ensures.items
    ∙ map-append string_bytes c.loop-line.texts.items (c.line.new.out ∷ [])
    ∙ ap (λ (t : List ℕ). texts ++ t ∷ []) (steps.text ∙ ap (λ (t : List ℕ). t ++ text) c.new-text.ensures.bytes) in
    let led : LeadsTo from (map bytes_of (take index lines) ++ item.items ∷ []) (texts ++ text ∷ []) steps.step.state =
    led_more from (map bytes_of (take index lines)) texts was.0 item.items steps.step was.1
    (subst (λ (line : List ℕ). line_does was.0 line ≡ Ok steps.step) c.deref.ensures.value steps.says) in
    let more : LeadsTo from (map bytes_of (take (index + 1) lines)) (texts ++ text ∷ []) steps.step.state =
    subst (λ (l : List (List ℕ)). LeadsTo from l (texts ++ text ∷ []) steps.step.state)
    (sym (one_more lines index item c.loop-line-test.true c.line-item.is)) led in
    (steps.step.state, subst (λ (t : List (List ℕ)). LeadsTo from (map bytes_of (take (index + 1) lines)) t steps.step.state) (sym pushed) more, steps.state)

pub returns : goal.returns
returns c = λ from is.
    let was = c.loop-line.invariant from is in
    let lines = c.args.lines.now in
    record {
      ran = map bytes_of lines;
      rest = [];
      parts = sym (append-nil (map bytes_of lines));
      last = was.0;
      led = subst (λ (l : List (Vec ℕ Global)). LeadsTo from (map bytes_of l) (map string_bytes c.loop-line.texts.items) was.0)
          (take_all c.loop-line.line-index lines (omega arith)) was.1;
      ends = tt;
      session = λ whole. was.2;
    }
