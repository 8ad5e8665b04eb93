use Rattle.std.proofs.Common.{◌≡◌, ◌∷◌, [], List, ◌++◌, ◌∙◌, ap, sym, refl, append_assoc, bytes_eq, cond, true, false, Bool, true≢false, Some, Option, String, Global, string_bytes, rules, ℕ}
use Rattle.std.specs.Map.{lookup}
use Rattle.std.proofs.lemmas.Slice.Eq.{bytes_eq-Decides}
use Rattle.script_terms.specs.declared.names.Named.{Named}
use Rattle.script_terms.proofs.names.Names.copy.Goals as goal

turned : (one other : List ℕ) → bytes_eq one other ≡ bytes_eq other one
turned one other = by (bytes_eq one other) (bytes_eq other one) refl refl
  where
    by : (here there : Bool) → bytes_eq one other ≡ here → bytes_eq other one ≡ there → here ≡ there
    by true true p q = refl
    by false false p q = refl
    by true false p q = absurd (true≢false (sym ((bytes_eq-Decides other one).1 (sym ((bytes_eq-Decides one other).0 p))) ∙ q))
    by false true p q = absurd (true≢false (sym ((bytes_eq-Decides one other).1 (sym ((bytes_eq-Decides other one).0 q))) ∙ p))

abbrev found : List ℕ → List (String Global × Named) → Option Named
found name entries = lookup (λ key. bytes_eq name (string_bytes key)) entries

pub loop-name-init : goal.loop-name-init
loop-name-init c = ([], search rules, λ name. c.new-copy.ensures.bound name)

pub loop-name-preserved : goal.loop-name-preserved
loop-name-preserved c =
    let was = c.loop-name.invariant in
    let behind : List (String Global × Named) = was.0 in
    let entry : String Global × Named = (c.in-Some.name.now, c.in-Some.named.now) in (
      entry ∷ behind,
      was.1 ∙ ap (λ rest. rest ++ behind) c.in-Some.ensures.steps ∙ append_assoc c.next.new.self.iter (entry ∷ []) behind,
      λ name. (c.in_ok-bind.ensures.ok (λ text. found text behind) record { bound = was.2 }).bound name
          ∙ ap (λ (word : List ℕ). cond (bytes_eq word name) (Some c.in_ok-clone.field-0) (found name behind)) c.as_str.ensures.value
          ∙ ap (λ (named : Named). cond (bytes_eq (string_bytes c.in-Some.name.now) name) (Some named) (found name behind)) (search rules)
          ∙ ap (λ same. cond same (Some c.in-Some.named.now) (found name behind)) (turned (string_bytes c.in-Some.name.now) name),
    )

pub returns : goal.returns
returns c = λ look knows. let was = c.loop-name.invariant in record {
  bound = λ name.
      was.2 name
      ∙ ap (found name) (sym (was.1 ∙ ap (λ rest. rest ++ was.0) c.in-None.ensures.steps.0))
      ∙ knows.bound name;
}
