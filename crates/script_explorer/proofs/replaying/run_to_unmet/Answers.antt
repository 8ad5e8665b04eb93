use Rattle.std.proofs.Common.{◌≡◌, ℕ, ◌++◌, ◌∷◌, [], List, Global, Vec, Err, ap, map, rules, string_bytes, subst, ◌∙◌}
use Rattle.std.proofs.lemmas.List.{map-append}
use Rattle.script_explorer.proofs.Led.{bytes_of}
use Rattle.script_lines.specs.declared.reason.Reason.{Reason}
use Rattle.script_session.specs.Session.{line_does}
use Rattle.script_session.specs.Stands.{Obeys}
use Rattle.script_session.specs.declared.session.Stop.TheVariants as stop
use Rattle.script_explorer.proofs.replaying.run_to_unmet.Goals as goal

pub returns : goal.returns
returns c = λ from is.
    let before = c.in-Some.before.now in
    let last = c.in-Some.last.now in
    let through = c.in_ok-replayed.ensures from is in
    let ends : c.line-ran.result ≡ Err (stop.Bad Reason.Unmet) = search rules in
    let obeys =
    subst (Obeys through.last c.deref.result.now c.line-ran.new.self (string_bytes c.new-unseen.result) (string_bytes c.line-ran.new.out)) ends
    (c.line-ran.ensures through.last through.session) in
    let parts : c.args.lines.now ≡ before ++ last ∷ [] = search rules in
    record {
      before = map bytes_of before;
      line = last.items;
      parts = ap (λ (lines : List (Vec ℕ Global)). map bytes_of lines) parts ∙ map-append bytes_of before (last ∷ []);
      texts = map string_bytes c.in_ok-replayed.replayed.texts.items;
      last = through.last;
      led = through.led;
      unmet = subst (λ (line : List ℕ). line_does through.last line ≡ Err Reason.Unmet) c.deref.ensures.value obeys.0;
    }
