-- A text that tells of one thing after the other.
use Rattle.std.proofs.Common.{◌≡◌, ℕ, suc, ◌+◌, Bool, true, false, cond, List, [], ◌∷◌, ◌++◌, None, Some}
use Rattle.std.proofs.Common.{append_assoc, append-nil, refl, sym, ap, ◌∙◌, arith}
use Rattle.std.specs.List.{filter, flat_map}
use Rattle.std.proofs.lemmas.List.Concat.{flat_map-append}
use Rattle.erl_names.specs.Ids.{pid_of}
use Rattle.erl_names.specs.Minted.{Minted}
use Rattle.erl_term.specs.declared.term.Pid.{Pid}
use Rattle.monitor_core.specs.Slots.{Entry}
use Rattle.monitor_core.proofs.Walks.{next, walked_all, walked_none}
use Rattle.node_texts.specs.Monitors.{or_none}
use Rattle.node_texts.specs.Shown.{pids_of}

-- one text behind another
joined : (first second before after new : List ℕ) → after ≡ before ++ first → new ≡ after ++ second → new ≡ before ++ (first ++ second)
joined first second before after new f s = s ∙ ap (λ (l : List ℕ). l ++ second) f ∙ append_assoc before first second

-- five of them
pub five_parts : (a b c d e before after_a after_b after_c after_d : List ℕ)
    → after_a ≡ before ++ a → after_b ≡ after_a ++ b → after_c ≡ after_b ++ c → after_d ≡ after_c ++ d
    → after_d ++ e ≡ before ++ (a ++ b ++ c ++ d ++ e)
five_parts a b c d e before after_a after_b after_c after_d ha hb hc hd =
    joined (a ++ b ++ c ++ d) e before after_d (after_d ++ e)
    (joined (a ++ b ++ c) d before after_c after_d (joined (a ++ b) c before after_b after_c (joined a b before after_a after_b ha hb) hc) hd) refl

-- nothing is told yet
pub told_none : {X : Type 0} (text : X → List ℕ) (xs : List X) (out : List ℕ) → xs ≡ [] → out ≡ out ++ flat_map text xs
told_none text xs out e = sym (append-nil out) ∙ ap (λ l. out ++ flat_map text l) (sym e)

-- one more is told
pub told_more : {X : Type 0} (text : X → List ℕ) (xs ys : List X) (x : X) (before out new : List ℕ)
    → ys ≡ xs ++ x ∷ [] → out ≡ before ++ flat_map text xs → new ≡ out ++ text x → new ≡ before ++ flat_map text ys
told_more text xs ys x before out new e o n =
    joined (flat_map text xs) (text x) before out new o n
    ∙ ap (λ (l : List ℕ). before ++ (flat_map text xs ++ l)) (sym (append-nil (text x)))
    ∙ ap (λ (l : List ℕ). before ++ l) (sym (flat_map-append text xs (x ∷ [])) ∙ ap (flat_map text) (sym e))

-- one process more is told
pub process_more : (text : Pid → List ℕ) (mint : Minted) (count : ℕ) (before out new : List ℕ)
    → out ≡ before ++ flat_map text (pids_of mint count) → new ≡ out ++ text (pid_of mint (count + 1))
    → new ≡ before ++ flat_map text (pids_of mint (count + 1))
process_more text mint count before out new o n =
    let is : count + 1 ≡ suc count = omega arith in
    let one : pids_of mint (count + 1) ≡ pids_of mint count ++ pid_of mint (count + 1) ∷ [] =
    ap (pids_of mint) is ∙ ap (λ (id : ℕ). pids_of mint count ++ pid_of mint id ∷ []) (sym is) in
    told_more text (pids_of mint count) (pids_of mint (count + 1)) (pid_of mint (count + 1)) before out new one o n

-- ---- monitors that pass

module _ {M : Type 0} (passes : M → Bool) (text : Entry M → List ℕ) where
  abbrev pub told : List (Entry M) → List ℕ
  told entries = flat_map text (filter (λ entry. passes entry.1) entries)

  -- none does
  pub none_told : (entries : List (Entry M)) → next passes None entries ≡ None → or_none (told entries) ≡ or_none []
  none_told entries h = ap (λ (l : List (Entry M)). or_none (flat_map text l)) (sym (walked_all passes None entries h) ∙ walked_none passes entries)

  -- one does, and its text isn't empty
  pub some_told : ((entry : Entry M) (rest : List ℕ) → or_none (text entry ++ rest) ≡ text entry ++ rest)
      → (entries : List (Entry M)) (e : Entry M) → next passes None entries ≡ Some e → or_none (told entries) ≡ told entries
  some_told begins [] e h = cc
  some_told begins (x ∷ rest) e h = go (passes x.1) h (some_told begins rest e)
    where
      go : (p : Bool) → cond p (Some x) (next passes None rest) ≡ Some e
          → (next passes None rest ≡ Some e → or_none (told rest) ≡ told rest)
          → or_none (flat_map text (cond p (x ∷ filter (λ entry. passes entry.1) rest) (filter (λ entry. passes entry.1) rest)))
          ≡ flat_map text (cond p (x ∷ filter (λ entry. passes entry.1) rest) (filter (λ entry. passes entry.1) rest))
      go true k more = begins x (told rest)
      go false k more = more k
