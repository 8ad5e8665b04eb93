-- One message more of those that wait.
use Rattle.std.proofs.Common.{◌≡◌, ℕ, ◌+◌, ◌<◌, List, [], ◌∷◌, ◌++◌, length, take, get_or, append_assoc, sym, ap, ◌∙◌}
use Rattle.std.specs.List.{flat_map}
use Rattle.std.proofs.lemmas.List.{append-nil, take_more}
use Rattle.std.proofs.lemmas.List.Concat.{flat_map-append}
use Rattle.std.proofs.lemmas.Option.{slice_get-get_or}
use Rattle.erl_term.specs.Data.{Data, list, no_items}
use Rattle.script_texts.specs.Nodes.{waiting, waiting_at, waiting_text}

one_more : (messages : List Data) (n : ℕ) → n < length messages
    → flat_map waiting_text (take (n + 1) messages) ≡ flat_map waiting_text (take n messages) ++ waiting_at messages n
one_more messages n h =
    let last : Data = get_or messages n (list no_items) in
    let told : waiting_at messages n ≡ waiting_text last = ap waiting (slice_get-get_or messages n (list no_items) h) in
    ap (flat_map waiting_text) (take_more messages n (list no_items) h)
    ∙ flat_map-append waiting_text (take n messages) (last ∷ [])
    ∙ ap (λ (text : List ℕ). flat_map waiting_text (take n messages) ++ text) (append-nil (waiting_text last) ∙ sym told)

pub waiting_more : (messages : List Data) (n : ℕ) (before out new : List ℕ) → n < length messages
    → out ≡ before ++ flat_map waiting_text (take n messages) → new ≡ out ++ waiting_at messages n
    → new ≡ before ++ flat_map waiting_text (take (n + 1) messages)
waiting_more messages n before out new h e f =
    f ∙ ap (λ (text : List ℕ). text ++ waiting_at messages n) e
    ∙ append_assoc before (flat_map waiting_text (take n messages)) (waiting_at messages n)
    ∙ ap (λ (text : List ℕ). before ++ text) (sym (one_more messages n h))
