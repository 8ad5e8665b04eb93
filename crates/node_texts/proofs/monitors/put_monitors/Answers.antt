use Rattle.std.proofs.Common.{◌≡◌, ◌++◌, ℕ, List, OnOk, codes, rules, subst, string_bytes}
use Rattle.std.specs.List.{flat_map}
use Rattle.node_core.specs.Model.{model_of}
use Rattle.node_texts.specs.Monitors.{or_none, other_text, others_of, own_of, own_text}
use Rattle.node_texts.proofs.Told.{five_parts}
use Rattle.node_texts.proofs.monitors.put_monitors.Goals as goal

pub returns : goal.returns
returns c =
    let m = model_of c.args.node.now in
    let p = c.args.process.now in
    let after = string_bytes c.put_others_or_none.new.out in
    let pushed : OnOk c.push_str-3.result (string_bytes c.push_str-3.new.self ≡ after ++ codes "\n") = search rules in
    subst (λ (text : List ℕ). OnOk c.push_str-3.result (string_bytes c.push_str-3.new.self ≡ text))
    (five_parts (codes "monitors own") (or_none (flat_map own_text (own_of m p))) (codes " others")
    (or_none (flat_map other_text (others_of m p))) (codes "\n") (string_bytes c.args.out.now) (string_bytes c.push_str.new.self)
    (string_bytes c.put_own_or_none.new.out) (string_bytes c.push_str-2.new.self) after
    c.in_ok-push_str.ensures.bytes c.in_ok-put_own_or_none.ensures c.in_ok-push_str-2.ensures.bytes c.in_ok-put_others_or_none.ensures) pushed
