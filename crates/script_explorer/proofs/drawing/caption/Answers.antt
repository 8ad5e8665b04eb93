use Rattle.std.proofs.Common.{[], ◌∷◌, ◌++◌, List, String, Global, ap, map, string_bytes, ◌∙◌}
use Rattle.script_explorer.proofs.drawing.caption.Goals as goal

pub returns-then-hidden-eq0 : goal.returns-then-hidden-eq0
returns-then-hidden-eq0 c =
    ([], ap (map string_bytes) (c.in_ok-push.ensures.items ∙ ap (λ (lines : List (String Global)). lines ++ c.args.summary ∷ []) c.new-lines.ensures.items))

pub returns : goal.returns
returns c = (
  string_bytes c.put_count.new.out ∷ [],
  ap (map string_bytes)
      (c.in_ok-push-2.ensures.items
      ∙ ap (λ (lines : List (String Global)). lines ++ c.put_count.new.out ∷ [])
      (c.in_ok-push.ensures.items ∙ ap (λ (lines : List (String Global)). lines ++ c.args.summary ∷ []) c.new-lines.ensures.items)),
)
