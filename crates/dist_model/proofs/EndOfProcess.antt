-- What the end of a process is to one pair.
use Rattle.std.proofs.Common.{◌≡◌, Bool, true, false, cond, not, List, [], ◌∷◌, ◌++◌, refl, sym}
use Rattle.std.proofs.Common.{ap, ◌∙◌, subst, ◌&&◌, Option, Some, None, inr, append-nil, T}
use Rattle.std.proofs.lemmas.Bool.{and_right, and_parts}
use Rattle.std.specs.declared.cmp.Ordering.TheVariants.{Equal}
use Rattle.std.specs.Ordering.{is_eq, is_lt, eq_by_cmp}
use Rattle.std.specs.FinMap as fm
use Rattle.std.specs.FinMap.Entries.{find, is_sorted, below_all}
use Rattle.sorted_map.specs.Facts.{both_pass, less}
use Rattle.dist_model.proofs.Envelopes.{sent_in-silent}
use Rattle.dist_model.specs.declared.report.Effect.{Effect}
use Rattle.dist_model.proofs.Keys.{pair_exact, pid_total, same_pair, same_pid_is, same_pid_refl, same_pid_true}
use Rattle.sorted_map.proofs.Orderings.{equal_of}
use Rattle.dist_model.proofs.Seen.{end_in}
use Rattle.dist_model.proofs.Views.{silent_lines, AllSuit, AllSuit-append, line, linking_suits, over}
use Rattle.dist_model.proofs.Views.{post_all_keeps, post_all_view, posted, posted-append, signal_other, view}
use Rattle.dist_model.proofs.LastSignals.{exits_in, exits_cons}
use Rattle.dist_model.specs.Exits.{buried, demonitors, exit_for, end_process, monitor_exits}
use Rattle.dist_model.specs.Items.{news}
use Rattle.dist_model.specs.Names.{pair_cmp, same_pid}
use Rattle.dist_model.specs.Node.{Ended, Life, end_of, is_living_life, living, is_stranger, reaches}
use Rattle.dist_model.specs.Work.{Addressed, Work, post_all}
use Rattle.erl_term.specs.Data.{Data}
use Rattle.erl_term.specs.declared.term.Pid.{Pid}
use Rattle.erl_term.specs.declared.term.Reference.{Reference}
use Rattle.link_core.proofs.Kept.{side_path}
use Rattle.link_core.specs.News.{Exited, LinkNews}
use Rattle.link_core.specs.Pair.{Side, farewell, ended}
use Rattle.link_core.specs.declared.end.End.{End}
use Rattle.monitor_core.specs.declared.monitor.Registration.{Registration}
use Rattle.monitor_core.specs.declared.monitor.Target.{Target}
use Rattle.monitor_core.specs.declared.monitor.Watch.{Watch}
use Rattle.dist_model.specs.Telling.{taken_back, told_end}

pub same_pid_sym : (p q : Pid) → same_pid p q ≡ false → same_pid q p ≡ false
same_pid_sym p q h = go (same_pid q p) refl
  where
    go : (b : Bool) → same_pid q p ≡ b → same_pid q p ≡ false
    go true e = let c : same_pid p q ≡ true = same_pid_is p q (sym (same_pid_true q p e)) in let n : true ≡ false = sym c ∙ h in cc
    go false e = e

abbrev head : Pid → Data → Pid → Pid → End → List Addressed
head p r o y e = cond (same_pid o p) (exit_for p r y e) []

-- an exit for another pair says nothing to this one
exit_miss : (p q x y : Pid) (r : Data) (e : End) → (same_pid x p && same_pid y q) ≡ false → posted p q (exit_for x r y e) ≡ []
exit_miss p q x y r End.Active h = append-nil _ ∙ signal_other (same_pid x p && same_pid y q) (Exited r) h
exit_miss p q x y r _ h = refl

exit_hit : (p q : Pid) (r : Data) (e : End) → posted p q (exit_for p r q e) ≡ farewell e r
exit_hit p q r End.Active =
    ap (λ b. cond (b && same_pid q q) (Exited r ∷ []) [] ++ []) (same_pid_refl p)
    ∙ ap (λ b. cond b (Exited r ∷ []) [] ++ []) (same_pid_refl q)
exit_hit p q r _ = refl

head_miss_by : (b : Bool) (p q o y : Pid) (r : Data) (e : End) → same_pid o p ≡ b → (same_pid o p && same_pid y q) ≡ false
    → posted p q (cond b (exit_for p r y e) []) ≡ []
head_miss_by true p q o y r e t h =
    let n : same_pid y q ≡ false = ap (λ b. b && same_pid y q) (sym t) ∙ h in
    exit_miss p q p y r e (and_right (same_pid p p) (same_pid y q) n)
head_miss_by false p q o y r e t h = refl

head_hit : (p q : Pid) (r : Data) (k : Pid × Pid) (e : End) → k ≡ (p, q) → posted p q (head p r k.0 k.1 e) ≡ farewell e r
head_hit p q r k e h =
    ap (λ (v : Pid × Pid). posted p q (head p r v.0 v.1 e)) h
    ∙ ap (λ b. posted p q (cond b (exit_for p r q e) [])) (same_pid_refl p)
    ∙ exit_hit p q r e

-- the keys differ
apart : (p q : Pid) (k : Pid × Pid) → eq_by_cmp pair_cmp (p, q) k ≡ false → (same_pid k.0 p && same_pid k.1 q) ≡ false
apart p q k h = go (same_pid k.0 p && same_pid k.1 q) refl
  where
    go : (b : Bool) → (same_pid k.0 p && same_pid k.1 q) ≡ b → (same_pid k.0 p && same_pid k.1 q) ≡ false
    go true e =
        let v = and_parts (same_pid k.0 p) (same_pid k.1 q) e in
        let a : same_pid p k.0 ≡ true = same_pid_is p k.0 (sym (same_pid_true k.0 p v.0)) in
        let c : same_pid q k.1 ≡ true = same_pid_is q k.1 (sym (same_pid_true k.1 q v.1)) in
        let d : (same_pid p k.0 && same_pid q k.1) ≡ true = ap (λ b. b && same_pid q k.1) a ∙ c in
        let n : true ≡ false = sym (same_pair p q k.0 k.1 ∙ d) ∙ h in cc
    go false e = e

head_step : (p q : Pid) (r : Data) (e : (Pid × Pid) × End) (es : List ((Pid × Pid) × End)) (L : List LinkNews)
    → posted p q (head p r e.0.0 e.0.1 e.1) ≡ L → posted p q (exits_in p r (e ∷ es)) ≡ L ++ posted p q (exits_in p r es)
head_step p q r e es L h =
    ap (posted p q) (exits_cons p r e es) ∙ posted-append p q (head p r e.0.0 e.0.1 e.1) (exits_in p r es)
    ∙ ap (λ l. l ++ posted p q (exits_in p r es)) h

exits_below : (p q : Pid) (r : Data) (es : List ((Pid × Pid) × End)) → T (below_all pair_cmp (p, q) es) → posted p q (exits_in p r es) ≡ []
exits_below p q r [] h = refl
exits_below p q r (e ∷ es) h =
    let t = both_pass (is_lt (pair_cmp (p, q) e.0)) (below_all pair_cmp (p, q) es) h in
    head_step p q r e es []
    (head_miss_by (same_pid e.0.0 p) p q e.0.0 e.0.1 r e.1 refl (apart p q e.0 (ap is_eq (less (pair_cmp (p, q) e.0) t.0))))
    ∙ exits_below p q r es t.1

-- what a process that ends sends to q
exits_by : (b : Bool) (p q : Pid) (r : Data) (e : (Pid × Pid) × End) (es : List ((Pid × Pid) × End))
    → eq_by_cmp pair_cmp (p, q) e.0 ≡ b → T (below_all pair_cmp e.0 es)
    → posted p q (exits_in p r es) ≡ farewell (end_in (find pair_cmp (p, q) es)) r
    → posted p q (exits_in p r (e ∷ es)) ≡ farewell (end_in (cond b (Some e.1) (find pair_cmp (p, q) es))) r
exits_by true p q r e es h s ih =
    let k : e.0 ≡ (p, q) = sym (pair_exact (p, q) e.0 (equal_of (pair_cmp (p, q) e.0) h)) in
    head_step p q r e es (farewell e.1 r) (head_hit p q r e.0 e.1 k)
    ∙ ap (λ l. farewell e.1 r ++ l) (exits_below p q r es (subst (λ v. T (below_all pair_cmp v es)) k s)) ∙ append-nil _
exits_by false p q r e es h s ih =
    head_step p q r e es [] (head_miss_by (same_pid e.0.0 p) p q e.0.0 e.0.1 r e.1 refl (apart p q e.0 h)) ∙ ih

pub exits_here : (p q : Pid) (r : Data) (es : List ((Pid × Pid) × End)) → T (is_sorted pair_cmp es)
    → posted p q (exits_in p r es) ≡ farewell (end_in (find pair_cmp (p, q) es)) r
exits_here p q r [] h = refl
exits_here p q r (e ∷ es) h =
    let t = both_pass (below_all pair_cmp e.0 es) (is_sorted pair_cmp es) h in
    exits_by (eq_by_cmp pair_cmp (p, q) e.0) p q r e es refl t.0 (exits_here p q r es t.1)

exits_other : (p q x : Pid) (r : Data) (es : List ((Pid × Pid) × End)) → same_pid x p ≡ false → posted p q (exits_in x r es) ≡ []
exits_other p q x r [] h = refl
exits_other p q x r (e ∷ es) h =
    ap (posted p q) (exits_cons x r e es) ∙ posted-append p q (head x r e.0.0 e.0.1 e.1) (exits_in x r es)
    ∙ ap (λ l. l ++ posted p q (exits_in x r es)) (go (same_pid e.0.0 x)) ∙ exits_other p q x r es h
  where
    go : (b : Bool) → posted p q (cond b (exit_for x r e.0.1 e.1) []) ≡ []
    go true = exit_miss p q x e.0.1 r e.1 (ap (λ b. b && same_pid e.0.1 q) h)
    go false = refl

-- by whichever target
posted_told : (p q : Pid) (t : Target) (o : Pid) (k : Reference) (r : Data) (l : List Addressed) → posted p q l ≡ []
    → posted p q (told_end t o k r ∷ l) ≡ []
posted_told p q (Target.Pid z) o k r l h = h
posted_told p q (Target.Name n m) o k r l h = h

posted_back : (p q x : Pid) (t : Target) (k : Reference) (l : List Addressed) → posted p q l ≡ [] → posted p q (taken_back x t k ∷ l) ≡ []
posted_back p q x (Target.Pid z) k l h = h
posted_back p q x (Target.Name n m) k l h = h

suits_told : (p q : Pid) (t : Target) (o : Pid) (k : Reference) (r : Data) (l : List Addressed) → AllSuit p q l
    → AllSuit p q (told_end t o k r ∷ l)
suits_told p q (Target.Pid z) o k r l h = (inr refl, h)
suits_told p q (Target.Name n m) o k r l h = (inr refl, h)

suits_back : (p q x : Pid) (t : Target) (k : Reference) (l : List Addressed) → AllSuit p q l → AllSuit p q (taken_back x t k ∷ l)
suits_back p q x (Target.Pid z) k l h = (inr refl, h)
suits_back p q x (Target.Name n m) k l h = (inr refl, h)

posted_downs : (p q x : Pid) (r : Data) (es : List (Reference × Registration)) → posted p q (monitor_exits x r es) ≡ []
posted_downs p q x r [] = refl
posted_downs p q x r (e ∷ es) =
    elim (same_pid e.1.held x) as
    (λ b. posted p q (cond b (told_end e.1.target e.1.owner e.0 r ∷ []) [] ++ monitor_exits x r es) ≡ [])
    [ true ↦ posted_told p q e.1.target e.1.owner e.0 r (monitor_exits x r es) (posted_downs p q x r es) | false ↦ posted_downs p q x r es ]

posted_unwatches : (p q x : Pid) (es : List (Reference × Watch)) → posted p q (demonitors x es) ≡ []
posted_unwatches p q x [] = refl
posted_unwatches p q x (e ∷ es) =
    elim (same_pid e.1.owner x) as
    (λ b. posted p q (cond b (taken_back x e.1.target e.0 ∷ []) [] ++ demonitors x es) ≡ [])
    [ true ↦ posted_back p q x e.1.target e.0 (demonitors x es) (posted_unwatches p q x es) | false ↦ posted_unwatches p q x es ]

suits_downs : (p q x : Pid) (r : Data) (es : List (Reference × Registration)) → AllSuit p q (monitor_exits x r es)
suits_downs p q x r [] = tt
suits_downs p q x r (e ∷ es) =
    elim (same_pid e.1.held x) as
    (λ b. AllSuit p q (cond b (told_end e.1.target e.1.owner e.0 r ∷ []) [] ++ monitor_exits x r es))
    [ true ↦ suits_told p q e.1.target e.1.owner e.0 r (monitor_exits x r es) (suits_downs p q x r es) | false ↦ suits_downs p q x r es ]

suits_unwatches : (p q x : Pid) (es : List (Reference × Watch)) → AllSuit p q (demonitors x es)
suits_unwatches p q x [] = tt
suits_unwatches p q x (e ∷ es) =
    elim (same_pid e.1.owner x) as (λ b. AllSuit p q (cond b (taken_back x e.1.target e.0 ∷ []) [] ++ demonitors x es))
    [ true ↦ suits_back p q x e.1.target e.0 (demonitors x es) (suits_unwatches p q x es) | false ↦ suits_unwatches p q x es ]

suits_exit : (p q x y : Pid) (r : Data) (e : End) → AllSuit p q (exit_for x r y e)
suits_exit p q x y r End.Active = (linking_suits x y p q (Exited r) false, tt)
suits_exit p q x y r _ = tt

suits_exits : (p q x : Pid) (r : Data) (es : List ((Pid × Pid) × End)) → AllSuit p q (exits_in x r es)
suits_exits p q x r [] = tt
suits_exits p q x r (e ∷ es) =
    subst (AllSuit p q) (sym (exits_cons x r e es))
    (AllSuit-append p q (head x r e.0.0 e.0.1 e.1) (exits_in x r es) (go (same_pid e.0.0 x)) (suits_exits p q x r es))
  where
    go : (b : Bool) → AllSuit p q (cond b (exit_for x r e.0.1 e.1) [])
    go true = suits_exit p q x e.0.1 r e.1
    go false = tt

abbrev pub last_posts : Pid → Data → Work → List Addressed
last_posts p r o =
    exits_in p r (fm.entries o.node.ends) ++ monitor_exits p r (fm.entries o.node.registered) ++ demonitors p (fm.entries o.node.watches)

suits_last : (p q x : Pid) (r : Data) (o : Work) → AllSuit p q (last_posts x r o)
suits_last p q x r o =
    AllSuit-append p q (exits_in x r (fm.entries o.node.ends) ++ monitor_exits x r (fm.entries o.node.registered))
    (demonitors x (fm.entries o.node.watches))
    (AllSuit-append p q (exits_in x r (fm.entries o.node.ends)) (monitor_exits x r (fm.entries o.node.registered))
    (suits_exits p q x r _) (suits_downs p q x r _)) (suits_unwatches p q x _)

posted_last : (p q x : Pid) (r : Data) (o : Work) → posted p q (last_posts x r o) ≡ posted p q (exits_in x r (fm.entries o.node.ends))
posted_last p q x r o =
    posted-append p q (exits_in x r (fm.entries o.node.ends) ++ monitor_exits x r (fm.entries o.node.registered))
    (demonitors x (fm.entries o.node.watches))
    ∙ ap (λ l. posted p q (exits_in x r (fm.entries o.node.ends) ++ monitor_exits x r (fm.entries o.node.registered)) ++ l)
    (posted_unwatches p q x _)
    ∙ append-nil _
    ∙ posted-append p q (exits_in x r (fm.entries o.node.ends)) (monitor_exits x r (fm.entries o.node.registered))
    ∙ ap (λ l. posted p q (exits_in x r (fm.entries o.node.ends)) ++ l) (posted_downs p q x r _)
    ∙ append-nil _

end_cond : (b : Bool) (o : Option End) → b ≡ false → end_in (cond b o None) ≡ End.None
end_cond true o h = cc
end_cond false o h = refl

end_cond_kept : (b : Bool) (o : Option End) → b ≡ true → end_in (cond b o None) ≡ end_in o
end_cond_kept true o h = refl
end_cond_kept false o h = cc

pub alike : (x : Pid) (k v : Pid × Pid) → pair_cmp v k ≡ Equal → not (same_pid k.0 x) ≡ not (same_pid v.0 x)
alike x k v h = ap (λ (w : Pid × Pid). not (same_pid w.0 x)) (sym (pair_exact v k h))

pub buried_end : (x : Pid) (r : Data) (o : Work) (p q : Pid)
    → end_of ((buried x r o).node) p q ≡ end_in (cond (not (same_pid p x)) (fm.get o.node.ends (p, q)) None)
buried_end x r o p q = ap end_in (fm.get-retain_keys o.node.ends (λ k. not (same_pid k.0 x)) (p, q) (λ k h. alike x k (p, q) h))

pub buried_living : (x : Pid) (r : Data) (o : Work) (p : Pid)
    → living ((buried x r o).node) p ≡ is_living_life (cond (same_pid p x) (Some (Ended r)) (fm.get o.node.lives p))
buried_living x r o p = ap is_living_life (fm.get-insert pid_total o.node.lives x (Ended r) p)

pub is_living_cond : (b : Bool) (r : Data) (l : Option Life) → b ≡ true → is_living_life (cond b (Some (Ended r)) l) ≡ false
is_living_cond true r l h = refl
is_living_cond false r l h = cc

pub is_living_kept : (b : Bool) (r : Data) (l : Option Life) → b ≡ false → is_living_life (cond b (Some (Ended r)) l) ≡ is_living_life l
is_living_kept true r l h = cc
is_living_kept false r l h = refl

-- the process that ends
pub finish_view : (b : List LinkNews) (p : Pid) (r : Data) (o : Work) (q : Pid)
    → reaches o.node q.node ≡ true → is_stranger o.node p ≡ false → view b (end_process p r o) p q ≡ ended r (view b o p q)
finish_view b p r o q reach born =
    let o1 = post_all (last_posts p r o) o in
    let s = post_all_view b (last_posts p r o) o p q reach (suits_last p q p r o) in
    let sent : (view b (end_process p r o) p q).sent ≡ (ended r (view b o p q)).sent =
    ap (λ (a : Side). a.sent) (silent_lines b (end_process p r o) o1.effects (o1.effects ++ Effect.Ended p r ∷ []) p q
    (sent_in-silent o1.effects (Effect.Ended p r) refl))
    ∙ ap (λ (a : Side). a.sent) s
    ∙ ap (λ l. (b ++ news p q (line o q.node)) ++ l) (posted_last p q p r o
    ∙ exits_here p q r (fm.entries o.node.ends) (fm.entries_sorted o.node.ends)
    ∙ ap (λ e. farewell (end_in e) r) (sym (fm.get-entries o.node.ends (p, q)))) in
    side_path (view b (end_process p r o) p q) (ended r (view b o p q))
    (buried_end p r o1 p q ∙ end_cond _ _ (ap not (same_pid_refl p)))
    (ap (λ v. not v && not (is_stranger o1.node p)) (buried_living p r o1 p ∙ is_living_cond _ r _ (same_pid_refl p))
    ∙ ap not (post_all_keeps (λ n. is_stranger n p) (λ n l. refl) (last_posts p r o) o ∙ born))
    (post_all_keeps (λ n. n.mint.unlink_ids) (λ n l. refl) (last_posts p r o) o)
    sent

-- the others
pub finish_view_other : (b : List LinkNews) (x : Pid) (r : Data) (o : Work) (p q : Pid) → reaches o.node q.node ≡ true
    → same_pid p x ≡ false → view b (end_process x r o) p q ≡ view b o p q
finish_view_other b x r o p q reach other =
    let o1 = post_all (last_posts x r o) o in
    let s = post_all_view b (last_posts x r o) o p q reach (suits_last p q x r o) in
    let sent : (view b (end_process x r o) p q).sent ≡ (view b o p q).sent =
    ap (λ (a : Side). a.sent) (silent_lines b (end_process x r o) o1.effects (o1.effects ++ Effect.Ended x r ∷ []) p q
    (sent_in-silent o1.effects (Effect.Ended x r) refl))
    ∙ ap (λ (a : Side). a.sent) s
    ∙ ap (λ l. (b ++ news p q (line o q.node)) ++ l)
    (posted_last p q x r o ∙ exits_other p q x r (fm.entries o.node.ends) (same_pid_sym p x other))
    ∙ append-nil _ in
    side_path (view b (end_process x r o) p q) (view b o p q)
    (buried_end x r o1 p q ∙ end_cond_kept _ _ (ap not other) ∙ post_all_keeps (λ n. end_of n p q) (λ n l. refl) (last_posts x r o) o)
    (ap (λ v. not v && not (is_stranger o1.node p)) (buried_living x r o1 p ∙ is_living_kept _ r _ other)
    ∙ post_all_keeps (λ n. over n p) (λ n l. refl) (last_posts x r o) o)
    (post_all_keeps (λ n. n.mint.unlink_ids) (λ n l. refl) (last_posts x r o) o)
    sent
