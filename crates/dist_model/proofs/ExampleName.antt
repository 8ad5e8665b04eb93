-- A run of three processes of one node, step by step: a name by which a process is monitored is passed on.
use Rattle.std.proofs.Common.{◌≡◌, ℕ, Bool, true, false, cond, not, List, [], ◌∷◌, ◌++◌, refl, sym, ap, ◌∙◌, Option, Some, None}
use Rattle.std.specs.FinMap as fm
use Rattle.std.specs.FinMap.{FinMap}
use Rattle.std.specs.Ordering.{eq_by_cmp}
use Rattle.dist_model.proofs.EndOfProcess.{alike}
use Rattle.dist_model.proofs.ExampleMaps.{entries-empty}
use Rattle.dist_model.proofs.ExampleWorlds.{node, of_worlds, told_once, world}
use Rattle.dist_model.proofs.Founded.{registered_left, watches_left}
use Rattle.dist_model.proofs.Keys.{name_exact, name_total, pair_exact, pair_total, same_pid_refl}
use Rattle.dist_model.proofs.RunMoments.{passed}
use Rattle.dist_model.specs.declared.command.Command.{Command}
use Rattle.dist_model.specs.Downs.{downs, downs_by, same_reference}
use Rattle.dist_model.specs.Exits.{is_bound, is_owned, without_held, without_owner}
use Rattle.dist_model.specs.Histories.{history}
use Rattle.dist_model.specs.Items.{Signalled}
use Rattle.dist_model.specs.Monitoring.{bound}
use Rattle.dist_model.specs.Names.{Name, pair_cmp, same_pid}
use Rattle.dist_model.specs.Naming.{NameMap, is_held_by, without_holder}
use Rattle.dist_model.specs.Node.{Ended, Life, Living, Node}
use Rattle.dist_model.specs.Runs.{run}
use Rattle.dist_model.specs.Schedules.{beside, first, further, here, name_passed_on, plain, reference, second, service, two_nodes}
use Rattle.dist_model.specs.World.{Call, Local, World, step}
use Rattle.erl_control.specs.declared.signal.Signal.{Signal}
use Rattle.erl_control.specs.Fits.{fits}
use Rattle.erl_names.specs.Order.{name_cmp}
use Rattle.erl_term.specs.Data.{Data}
use Rattle.erl_term.specs.Order.{pid_cmp, reference_cmp}
use Rattle.erl_term.proofs.Order.{reference_cmp_exact, reference_cmp_total}
use Rattle.erl_term.specs.declared.term.Pid.{Pid}
use Rattle.erl_term.specs.declared.term.Reference.{Reference}
use Rattle.link_core.specs.declared.end.End.{End}
use Rattle.monitor_core.specs.Monitors.{RegistrationMap, WatchMap, watch_of}
use Rattle.monitor_core.specs.declared.monitor.Registration.{Registration}
use Rattle.monitor_core.specs.declared.monitor.Target.{Target}
use Rattle.monitor_core.specs.declared.monitor.Watch.{Watch}

-- ---- what such maps hold

get_name : (m : NameMap) (k : Name) (v : Pid) (q : Name) → fm.get (fm.insert m k v) q ≡ cond (eq_by_cmp name_cmp q k) (Some v) (fm.get m q)
get_name m k v q = fm.get-insert name_total m k v q

no_name : (q : Name) → fm.get (fm.empty {X = Pid} {R = name_cmp}) q ≡ None
no_name q = fm.get-empty name_cmp q

entries_name : (m : NameMap) (k : Name) (v : Pid) → fm.entries (fm.insert m k v) ≡ fm.put name_cmp k v (fm.entries m)
entries_name m k v = fm.entries-insert name_total m k v

none_name : fm.entries (fm.empty {X = Pid} {R = name_cmp}) ≡ []
none_name = entries-empty name_cmp

ruleset of_names = (of_worlds, get_name, no_name, entries_name, none_name)

-- the one name of a process goes with it
abbrev just : Name → Pid → NameMap
just k p = fm.insert fm.empty k p

given_up : (k : Name) (p : Pid) → without_holder (just k p) p ≡ fm.empty
given_up k p = fm.same_map name_total name_exact _ _ (λ q.
    fm.get-retain_keys (just k p) (λ name. not (is_held_by p (fm.get (just k p) name))) q
    (λ a h. ap (λ z. not (is_held_by p (fm.get (just k p) z))) (sym (name_exact q a h)))
    ∙ ap (λ (v : Option Pid). cond (not (is_held_by p v)) v None) (get_name fm.empty k p q)
    ∙ go (eq_by_cmp name_cmp q k) q)
  where
    go : (b : Bool) (q : Name) → cond (not (is_held_by p (cond b (Some p) (fm.get (fm.empty {X = Pid} {R = name_cmp}) q))))
        (cond b (Some p) (fm.get (fm.empty {X = Pid} {R = name_cmp}) q)) None ≡ fm.get (fm.empty {X = Pid} {R = name_cmp}) q
    go true q = ap (λ b. cond (not b) (Some p) None) (same_pid_refl p) ∙ sym (no_name q)
    go false q = ap (λ (v : Option Pid). cond (not (is_held_by p v)) v None) (no_name q) ∙ sym (no_name q)

-- no link, and no monitor of another, goes
no_ends : (p : Pid) → fm.retain_keys (fm.empty {X = End} {R = pair_cmp}) (λ pair. not (same_pid pair.0 p)) ≡ fm.empty
no_ends p = fm.same_map pair_total pair_exact _ _ (λ q.
    fm.get-retain_keys (fm.empty {X = End} {R = pair_cmp}) (λ pair. not (same_pid pair.0 p)) q (λ k h. alike p k q h)
    ∙ ap (λ (v : Option End). cond (not (same_pid q.0 p)) v None) (fm.get-empty pair_cmp q)
    ∙ go (not (same_pid q.0 p)) ∙ sym (fm.get-empty pair_cmp q))
  where
    go : (b : Bool) → ◌≡◌ {A = Option End} (cond b None None) None
    go true = refl
    go false = refl

still_there : {M : Type 0} (test : Option M → Bool) (k : Reference) (m : M) → test (Some m) ≡ false → test None ≡ false → (q : Reference)
    → cond (not (test (fm.get (fm.insert (fm.empty {X = M} {R = reference_cmp}) k m) q))) (fm.get (fm.insert (fm.empty {X = M} {R = reference_cmp}) k m) q) None
    ≡ fm.get (fm.insert (fm.empty {X = M} {R = reference_cmp}) k m) q
still_there {M = M} test k m h j q =
    let e : fm.get (fm.insert (fm.empty {X = M} {R = reference_cmp}) k m) q ≡ cond (same_reference q k) (Some m) None =
    fm.get-insert reference_cmp_total fm.empty k m q
    ∙ ap (λ v. cond (same_reference q k) (Some m) v) (fm.get-empty reference_cmp q) in
    ap (λ v. cond (not (test v)) v None) e ∙ go (same_reference q k) ∙ sym e
  where
    go : (b : Bool) → ◌≡◌ {A = Option M} (cond (not (test (cond b (Some m) None))) (cond b (Some m) None) None) (cond b (Some m) None)
    go true = ap (λ b. cond (not b) (Some m) None) h
    go false = nones (not (test None))
      where
        nones : (b : Bool) → ◌≡◌ {A = Option M} (cond b None None) None
        nones true = refl
        nones false = refl

not_owned : (k : Reference) (m : Watch) (p : Pid) → same_pid m.owner p ≡ false → without_owner (fm.insert fm.empty k m) p ≡ fm.insert fm.empty k m
not_owned k m p h = fm.same_map reference_cmp_total reference_cmp_exact _ _
    (λ q. watches_left p (fm.insert fm.empty k m) q ∙ still_there (is_owned p) k m h refl q)

not_bound : (k : Reference) (m : Registration) (p : Pid) → same_pid m.held p ≡ false
    → without_held (fm.insert fm.empty k m) p ≡ fm.insert fm.empty k m
not_bound k m p h = fm.same_map reference_cmp_total reference_cmp_exact _ _
    (λ q. registered_left p (fm.insert fm.empty k m) q ∙ still_there (is_bound p) k m h refl q)

-- ---- the run

abbrev named : NameMap → Node → Node
named m n = record n { names = m }

module _ (cookie : List ℕ) (reason other : Data) (fitting : fits reason ≡ true) (fits_too : fits other ≡ true) where
  abbrev lives_0 : FinMap pid_cmp Life
  lives_0 = fm.insert (fm.insert (fm.insert fm.empty here (Living false [])) beside (Living false [])) further (Living false [])

  abbrev apart : Node
  apart = node cookie second 1 true 0 0 0 0 fm.empty fm.empty fm.empty fm.empty fm.empty []

  abbrev world_0 : World
  world_0 = world (node cookie first 1 true 0 0 0 0 fm.empty fm.empty fm.empty fm.empty fm.empty []) apart fm.empty

  abbrev world_1 : World
  world_1 = world (node cookie first 1 true 1 0 0 0 (fm.insert fm.empty here (Living false [])) fm.empty fm.empty fm.empty fm.empty []) apart fm.empty

  abbrev world_2 : World
  world_2 = world (node cookie first 1 true 2 0 0 0 (fm.insert (fm.insert fm.empty here (Living false [])) beside (Living false [])) fm.empty fm.empty
      fm.empty fm.empty []) apart fm.empty

  abbrev world_3 : World
  world_3 = world (node cookie first 1 true 3 0 0 0 lives_0 fm.empty fm.empty fm.empty fm.empty []) apart fm.empty

  step_0 : (step world_0 (Call first Command.Spawn)).world ≡ world_1
  step_0 = refl

  step_1 : (step world_1 (Call first Command.Spawn)).world ≡ world_2
  step_1 = refl

  step_2 : (step world_2 (Call first Command.Spawn)).world ≡ world_3
  step_2 = refl

  abbrev its_name : NameMap
  its_name = fm.insert fm.empty service beside

  abbrev world_4 : World
  world_4 = world (named its_name (node cookie first 1 true 3 0 0 0 lives_0 fm.empty fm.empty fm.empty fm.empty [])) apart fm.empty

  step_3 : (step world_3 (Call first (Command.Register beside service))).world ≡ world_4
  step_3 = simp of_names refl

  abbrev watching : WatchMap
  watching = fm.insert fm.empty reference (watch_of here (Target.Name service first))

  abbrev world_5 : World
  world_5 = world (named its_name (node cookie first 1 true 3 1 0 0 lives_0 fm.empty watching fm.empty fm.empty
      (Signalled (Signal.MonitorName here service reference) false ∷ []))) apart fm.empty

  step_4 : (step world_4 (Call first (Command.MonitorName here first service))).world ≡ world_5
  step_4 = simp of_names refl

  abbrev registering : RegistrationMap
  registering = fm.insert fm.empty reference (bound here (Target.Name service first) beside)

  abbrev world_6 : World
  world_6 = world (named its_name (node cookie first 1 true 3 1 0 0 lives_0 fm.empty watching registering fm.empty [])) apart fm.empty

  step_5 : (step world_5 (Local first)).world ≡ world_6
  step_5 = simp of_names refl

  abbrev world_7 : World
  world_7 = world (node cookie first 1 true 3 1 0 0 lives_0 fm.empty watching registering fm.empty []) apart fm.empty

  given : (step world_6 (Call first (Command.Unregister beside))).world
      ≡ world (named (without_holder its_name beside) (node cookie first 1 true 3 1 0 0 lives_0 fm.empty watching registering fm.empty [])) apart fm.empty
  given = simp of_names refl

  step_6 : (step world_6 (Call first (Command.Unregister beside))).world ≡ world_7
  step_6 = given ∙ ap (λ m. world (named m (node cookie first 1 true 3 1 0 0 lives_0 fm.empty watching registering fm.empty [])) apart fm.empty)
      (given_up service beside)

  abbrev its_later_name : NameMap
  its_later_name = fm.insert fm.empty service further

  abbrev world_8 : World
  world_8 = world (named its_later_name (node cookie first 1 true 3 1 0 0 lives_0 fm.empty watching registering fm.empty [])) apart fm.empty

  step_7 : (step world_7 (Call first (Command.Register further service))).world ≡ world_8
  step_7 = simp of_names refl

  abbrev lives_1 : FinMap pid_cmp Life
  lives_1 = fm.insert lives_0 further (Ended other)

  abbrev after_its_end : NameMap → FinMap pair_cmp End → WatchMap → RegistrationMap → World
  after_its_end m e w r = world (named m (node cookie first 1 true 3 1 0 0 lives_1 e w r fm.empty [])) apart fm.empty

  abbrev world_9 : World
  world_9 = after_its_end fm.empty fm.empty watching registering

  ended : (step world_8 (Call first (Command.ExitSelf further other))).world
      ≡ after_its_end (without_holder its_later_name further) (fm.retain_keys fm.empty (λ pair. not (same_pid pair.0 further)))
      (without_owner watching further) (without_held registering further)
  ended = simp (of_names, fits_too) refl

  step_8 : (step world_8 (Call first (Command.ExitSelf further other))).world ≡ world_9
  step_8 = ended ∙ (λ i. after_its_end (given_up service further i) (no_ends further i)
      (not_owned reference (watch_of here (Target.Name service first)) further refl i)
      (not_bound reference (bound here (Target.Name service first) beside) further refl i))

  abbrev world_10 : World
  world_10 = world (named (without_holder fm.empty beside) (node cookie first 1 true 3 1 0 0 (fm.insert lives_1 beside (Ended reason))
      (fm.retain_keys fm.empty (λ pair. not (same_pid pair.0 beside))) (without_owner watching beside) (without_held registering beside) fm.empty
      (Signalled (Signal.MonitorNameExit service here reference reason) false ∷ []))) apart fm.empty

  step_9 : (step world_9 (Call first (Command.ExitSelf beside reason))).world ≡ world_10
  step_9 = simp (of_names, fitting) refl

  run_is : run (name_passed_on reason other) (two_nodes cookie) ≡ world_10
  run_is = passed world_0 (name_passed_on reason other)
      (world_1 ∷ world_2 ∷ world_3 ∷ world_4 ∷ world_5 ∷ world_6 ∷ world_7 ∷ world_8 ∷ world_9 ∷ world_10 ∷ [])
      (step_0, (step_1, (step_2, (step_3, (step_4, (step_5, (step_6, (step_7, (step_8, (step_9, tt))))))))))

  down_is : downs_by reference (Local first) ((step (run (name_passed_on reason other) (two_nodes cookie)) (Local first)).report)
      ≡ (record { owner = here; target = Target.Name service first; info = reason }) ∷ []
  down_is = ap (λ w. downs_by reference (Local first) ((step w (Local first)).report)) run_is ∙ simp of_names refl

  pub name_passed_on_tells : downs reference (history (name_passed_on reason other ++ Local first ∷ []) (two_nodes cookie))
      ≡ (record { owner = here; target = Target.Name service first; info = reason }) ∷ []
  name_passed_on_tells = told_once ((first, plain cookie) ∷ (second, plain cookie) ∷ []) (name_passed_on reason other) (Local first) reference _ down_is
