use Rattle.std.proofs.Common.{◌≡◌, ◌∷◌, ap, ◌∙◌}
use Rattle.std.proofs.lemmas.Result.{IfOk-weaker}
use Rattle.fault_places.proofs.Beginnings.{body_begins_so, body_goes}
use Rattle.fault_places.proofs.places.frame_body_begins.Goals as goal

pub returns : goal.returns
returns c =
    let text = c.in-Some.text.now in
    let e : c.args.body.now ≡ 112 ∷ text = c.in-Some.ensures.cases.0 ∙ ap (λ first. first ∷ text) c.if-first-ne112.false in
    rw e (IfOk-weaker c.signal_begins.result _ _
    (λ begins known. (λ t. body_goes text (known.0 t), λ b. known.1 (body_begins_so 112 text b).1)) c.signal_begins.ensures)
