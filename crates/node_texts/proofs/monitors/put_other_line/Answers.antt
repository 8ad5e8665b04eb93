use Rattle.std.proofs.Common.{◌≡◌, ◌++◌, ℕ, List, OnOk, codes, rules, subst, string_bytes}
use Rattle.script_terms.specs.Printing.{pid_text, reference_text}
use Rattle.node_texts.proofs.Told.{five_parts}
use Rattle.node_texts.proofs.monitors.put_other_line.Goals as goal

pub returns : goal.returns
returns c =
    let after = string_bytes c.put_pid.new.out in
    let pushed : OnOk c.push_str-3.result (string_bytes c.push_str-3.new.self ≡ after ++ codes "\n") = search rules in
    subst (λ (text : List ℕ). OnOk c.push_str-3.result (string_bytes c.push_str-3.new.self ≡ text))
    (five_parts (codes "  monitored ") (reference_text c.args.reference.now) (codes " ") (pid_text c.args.registration.now.owner) (codes "\n")
    (string_bytes c.args.out.now) (string_bytes c.push_str.new.self) (string_bytes c.put_reference.new.out)
    (string_bytes c.push_str-2.new.self) after
    c.in_ok-push_str.ensures.bytes c.in_ok-put_reference.ensures c.in_ok-push_str-2.ensures.bytes c.in_ok-put_pid.ensures) pushed
