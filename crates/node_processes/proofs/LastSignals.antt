-- What a process that ends sends.
use Rattle.std.proofs.Common.{◌≡◌, Bool, true, false, cond, not, ◌&&◌, List, [], ◌∷◌, ◌++◌}
use Rattle.std.proofs.Common.{None, refl, sym, ap, ◌∙◌, append-nil, append_assoc}
use Rattle.std.specs.List.{filter, flat_map}
use Rattle.std.specs.Ordering.{eq_by_cmp}
use Rattle.std.specs.FinMap as fm
use Rattle.std.specs.FinMap.{FinMap}
use Rattle.std.specs.FinMap.Entries.{find-where_key, is_sorted-where_key, where_key}
use Rattle.dist_model.proofs.Keys.{pair_exact, pair_total, same_pair}
use Rattle.dist_model.specs.Exits.{buried, demonitors, end_process, exit_for, exits, monitor_exits}
use Rattle.dist_model.specs.Names.{pair_cmp, same_pid}
use Rattle.dist_model.specs.Node.{Node, ends_of, links_in}
use Rattle.dist_model.specs.Work.{Addressed, Work, post, post_all}
use Rattle.erl_term.specs.Data.{Data}
use Rattle.erl_term.specs.declared.term.Pid.{Pid}
use Rattle.link_core.specs.declared.end.End.{End}
use Rattle.node_tables.specs.declared.end_change.EndChange.TheVariants as end
use Rattle.node_plan.specs.Carried.{CarriesOut, IsFree}
use Rattle.node_plan.specs.Parts.{link_in}
use Rattle.node_processes.specs.Exiting.{OnlyExits, exit_to, exits_to}
use Rattle.node_plan.specs.Changed.{end_after, registered, watched}
use Rattle.node_plan.specs.declared.change.LinkChange.{LinkChange}
use Rattle.node_plan.specs.declared.change.LinkChange.TheVariants as link
use Rattle.node_plan.specs.declared.change.MonitorChange.TheVariants as monitor
use Rattle.node_plan.specs.declared.plan.Plan.{Plan}
use Rattle.node_processes.proofs.Free.{ends_free, watchers_free, watches_free}
use Rattle.sorted_map.proofs.Orderings.{turned}

-- ---- signals sent in a row

pub post_both : (xs ys : List Addressed) (w : Work) → post_all (xs ++ ys) w ≡ post_all ys (post_all xs w)
post_both [] ys w = refl
post_both (x ∷ xs) ys w = post_both xs ys (post x w)

flat_more : {X : Type 0} (f : X → List Addressed) (xs : List X) (x : X) → flat_map f (xs ++ x ∷ []) ≡ flat_map f xs ++ f x
flat_more f [] x = append-nil (f x)
flat_more f (y ∷ xs) x = ap (λ l. f y ++ l) (flat_more f xs x) ∙ sym (append_assoc (f y) (flat_map f xs) (f x))

-- and one more
pub post_more : {X : Type 0} (f : X → List Addressed) (xs ys : List X) (x : X) (w : Work) → ys ≡ xs ++ x ∷ []
    → post_all (flat_map f ys) w ≡ post_all (f x) (post_all (flat_map f xs) w)
post_more f xs ys x w h =
    ap (λ l. post_all (flat_map f l) w) h ∙ ap (λ l. post_all l w) (flat_more f xs x) ∙ post_both (flat_map f xs) (f x) w

-- what doesn't pass gives none
pub flat_passing : {X : Type 0} (passes : X → Bool) (f : X → List Addressed) (xs : List X)
    → flat_map (λ x. cond (passes x) (f x) []) (filter passes xs) ≡ flat_map (λ x. cond (passes x) (f x) []) xs
flat_passing passes f [] = refl
flat_passing {X = X} passes f (x ∷ xs) = go (passes x) refl (flat_passing passes f xs)
  where
    told : List X → List Addressed
    told = flat_map (λ y. cond (passes y) (f y) [])

    go : (b : Bool) → passes x ≡ b → told (filter passes xs) ≡ told xs
        → told (cond b (x ∷ filter passes xs) (filter passes xs)) ≡ cond b (f x) [] ++ told xs
    go true e h = ap (λ b. cond b (f x) [] ++ told (filter passes xs)) e ∙ ap (λ l. f x ++ l) h
    go false e h = h

-- ---- a partner whose link is gone is told nothing

entries_removed : (ends : FinMap pair_cmp End) (k : Pid × Pid)
    → fm.entries (fm.remove ends k) ≡ where_key pair_cmp (λ x. not (eq_by_cmp pair_cmp x k)) (fm.entries ends)
entries_removed ends k =
    let sorted = is_sorted-where_key pair_cmp (λ x. not (eq_by_cmp pair_cmp x k)) (fm.entries ends) (fm.entries_sorted ends) in
    let same : fm.remove ends k ≡ fm.from_sorted {R = pair_cmp} (where_key pair_cmp (λ x. not (eq_by_cmp pair_cmp x k)) (fm.entries ends)) =
    fm.same_map pair_total pair_exact _ _ (λ x.
    fm.get-remove pair_total ends k x
    ∙ turned (eq_by_cmp pair_cmp x k) None (fm.get ends x)
    ∙ ap (λ o. cond (not (eq_by_cmp pair_cmp x k)) o None) (fm.get-entries ends x)
    ∙ sym (fm.get-from_sorted pair_cmp (where_key pair_cmp (λ y. not (eq_by_cmp pair_cmp y k)) (fm.entries ends)) x sorted
    ∙ find-where_key pair_cmp (λ y. not (eq_by_cmp pair_cmp y k)) x
    (λ y t. ap (λ z. not (eq_by_cmp pair_cmp z k)) (sym (pair_exact x y t))) (fm.entries ends))) in
    ap fm.entries same ∙ fm.entries-from_sorted pair_cmp (where_key pair_cmp (λ x. not (eq_by_cmp pair_cmp x k)) (fm.entries ends)) sorted

first_told : (f : Pid × End → List Addressed) (b : Bool) (x : Pid × End) (rest : List (Pid × End))
    → flat_map f (cond b (x ∷ []) [] ++ rest) ≡ cond b (f x) [] ++ flat_map f rest
first_told f true x rest = ap (λ l. l ++ flat_map f rest) refl
first_told f false x rest = refl

module _ (p q : Pid) (reason : Data) where
  all : Pid × End → List Addressed
  all x = exit_for p reason x.0 x.1

  skipped : (xs : List ((Pid × Pid) × End))
      → exits p reason (links_in (where_key pair_cmp (λ x. not (eq_by_cmp pair_cmp x (p, q))) xs) p)
      ≡ exits_to (link.Becomes q end.Exits) p reason (links_in xs p)
  skipped [] = refl
  skipped (x ∷ xs) =
      let kept = where_key pair_cmp (λ x. not (eq_by_cmp pair_cmp x (p, q))) xs in
      let one = same_pid x.0.0 p in
      let other = same_pid x.0.1 q in
      let told = exit_for p reason x.0.1 x.1 in
      ap (λ b. exits p reason (links_in (cond (not b) (x ∷ kept) kept) p)) (same_pair x.0.0 x.0.1 p q)
      ∙ dropped (one && other)
      ∙ ap (λ l. cond (not (one && other)) (cond one told []) [] ++ l) (skipped xs)
      ∙ ap (λ l. l ++ exits_to (link.Becomes q end.Exits) p reason (links_in xs p)) (either one other told)
      ∙ sym (first_told (λ y. exit_to (link.Becomes q end.Exits) p reason y.0 y.1) one (x.0.1, x.1) (links_in xs p))
    where
      dropped : (b : Bool) → exits p reason (links_in (cond (not b)
          (x ∷ where_key pair_cmp (λ x. not (eq_by_cmp pair_cmp x (p, q))) xs)
          (where_key pair_cmp (λ x. not (eq_by_cmp pair_cmp x (p, q))) xs)) p)
          ≡ cond (not b) (cond (same_pid x.0.0 p) (exit_for p reason x.0.1 x.1) []) []
          ++ exits p reason (links_in (where_key pair_cmp (λ x. not (eq_by_cmp pair_cmp x (p, q))) xs) p)
      dropped true = refl
      dropped false =
          first_told (λ y. exit_for p reason y.0 y.1) (same_pid x.0.0 p) (x.0.1, x.1)
          (links_in (where_key pair_cmp (λ x. not (eq_by_cmp pair_cmp x (p, q))) xs) p)

      either : (a b : Bool) (l : List Addressed) → cond (not (a && b)) (cond a l []) [] ≡ cond a (cond b [] l) []
      either true true l = refl
      either _ _ l = refl

exits_planned : (planned : LinkChange) (p : Pid) (reason : Data) (ends : FinMap pair_cmp End) → OnlyExits planned
    → exits p reason (links_in (fm.entries (end_after planned p ends)) p) ≡ exits_to planned p reason (links_in (fm.entries ends) p)
exits_planned link.Stays p reason ends h = refl
exits_planned (link.Becomes q end.Exits) p reason ends h =
    ap (λ xs. exits p reason (links_in xs p)) (entries_removed ends (p, q)) ∙ skipped p q reason (fm.entries ends)
exits_planned (link.Becomes q _) p reason ends h = absurd h

-- ---- all that it sends, from the node as it is

pub finishes : (plan : Plan) (m : Node) (w : Work) (p : Pid) (reason : Data)
    → CarriesOut plan m w → IsFree plan.change p → OnlyExits (link_in plan.change) → plan.watches ≡ monitor.Stays
    → plan.watchers ≡ monitor.Stays
    → end_process p reason w ≡ buried p reason (post_all (demonitors p (fm.entries m.watches))
    (post_all (monitor_exits p reason (fm.entries m.registered)) (post_all (exits_to (link_in plan.change) p reason (ends_of m p)) w)))
finishes plan m w p reason h f o watches watchers =
    let e : exits p reason (ends_of w.node p) ≡ exits_to (link_in plan.change) p reason (ends_of m p) =
    ap (λ (n : Node). exits p reason (ends_of n p)) h.node
    ∙ ap (λ x. exits p reason (links_in (fm.entries x) p)) (ends_free plan.change p m.ends f)
    ∙ exits_planned (link_in plan.change) p reason m.ends o in
    let r : monitor_exits p reason (fm.entries w.node.registered) ≡ monitor_exits p reason (fm.entries m.registered) =
    ap (λ (n : Node). monitor_exits p reason (fm.entries n.registered)) h.node
    ∙ ap (λ x. monitor_exits p reason (fm.entries x))
    (watchers_free plan.change p (registered plan.watchers m.registered) f ∙ ap (λ c. registered c m.registered) watchers) in
    let d : demonitors p (fm.entries w.node.watches) ≡ demonitors p (fm.entries m.watches) =
    ap (λ (n : Node). demonitors p (fm.entries n.watches)) h.node
    ∙ ap (λ x. demonitors p (fm.entries x))
    (watches_free plan.change p (watched plan.watches m.watches) f ∙ ap (λ c. watched c m.watches) watches) in
    let E = exits_to (link_in plan.change) p reason (ends_of m p) in
    let M = monitor_exits p reason (fm.entries m.registered) in
    let D = demonitors p (fm.entries m.watches) in
    ap (buried p reason) (ap (λ s. post_all s w) (λ i. (e i ++ r i) ++ d i) ∙ post_both (E ++ M) D w ∙ ap (post_all D) (post_both E M w))
