-- What maps of known entries hold, worlds of two nodes written out, and a DOWN that is the only one.
use Rattle.std.proofs.Common.{◌≡◌, ℕ, Bool, cond, not, List, [], ◌∷◌, ◌++◌, ◌≤◌, length, refl, sym, ap, ◌∙◌, arith, subst, Some, None}
use Rattle.std.specs.FinMap as fm
use Rattle.std.specs.FinMap.{FinMap}
use Rattle.std.specs.FinMap.Entries.{put}
use Rattle.std.specs.Ordering.{eq_by_cmp}
use Rattle.erl_term.proofs.Order.{reference_cmp_exact, reference_cmp_total}
use Rattle.dist_model.proofs.EndOfProcess.{alike}
use Rattle.dist_model.proofs.ExampleMaps.{of_maps}
use Rattle.dist_model.proofs.Histories.{down_once, throughout}
use Rattle.dist_model.proofs.RunMoments.{runs_so, told_last}
use Rattle.dist_model.specs.Downs.{Down, downs, downs_by}
use Rattle.dist_model.specs.Exits.{is_owned}
use Rattle.dist_model.specs.Fates.{DownOnce}
use Rattle.dist_model.specs.Histories.{history, told}
use Rattle.dist_model.specs.Items.{Item}
use Rattle.dist_model.specs.Names.{Name, pair_cmp, place_cmp, same_pid}
use Rattle.dist_model.specs.Naming.{without_holder}
use Rattle.dist_model.specs.Node.{Life, Node}
use Rattle.dist_model.specs.Runs.{opening, reports_of, run}
use Rattle.dist_model.specs.Schedules.{first, second}
use Rattle.dist_model.specs.Sides.{TrunkSide}
use Rattle.dist_model.specs.World.{Event, World, step}
use Rattle.erl_names.specs.Order.{trunk_cmp}
use Rattle.erl_term.specs.Order.{pid_cmp, reference_cmp}
use Rattle.erl_term.specs.declared.term.Pid.{Pid}
use Rattle.erl_term.specs.declared.term.Reference.{Reference}
use Rattle.link_core.specs.declared.end.End.{End}
use Rattle.monitor_core.specs.Monitors.{MonitorMap, RegistrationMap, WatchMap}
use Rattle.monitor_core.specs.declared.monitor.Watch.{Watch}
use Rattle.erl_handshake.specs.declared.setup.Setup.{Setup}
use Rattle.erl_handshake.specs.Flags.{mandatory}

pub get_monitor : {M : Type 0} (m : MonitorMap M) (k : Reference) (v : M) (q : Reference)
    → fm.get (fm.insert m k v) q ≡ cond (eq_by_cmp reference_cmp q k) (Some v) (fm.get m q)
get_monitor m k v q = fm.get-insert reference_cmp_total m k v q

pub no_monitor : {M : Type 0} (q : Reference) → fm.get (fm.empty {X = M} {R = reference_cmp}) q ≡ None
no_monitor q = fm.get-empty reference_cmp q

pub entries_monitor : {M : Type 0} (m : MonitorMap M) (k : Reference) (v : M) → fm.entries (fm.insert m k v) ≡ put reference_cmp k v (fm.entries m)
entries_monitor m k v = fm.entries-insert reference_cmp_total m k v

pub gone_monitor : {M : Type 0} (m : MonitorMap M) (k q : Reference) → fm.get (fm.remove m k) q ≡ cond (eq_by_cmp reference_cmp q k) None (fm.get m q)
gone_monitor m k q = fm.get-remove reference_cmp_total m k q

pub left_end : (m : FinMap pair_cmp End) (x : Pid) (q : Pid × Pid)
    → fm.get (fm.retain_keys m (λ pair. not (same_pid pair.0 x))) q ≡ cond (not (same_pid q.0 x)) (fm.get m q) None
left_end m x q = fm.get-retain_keys m (λ pair. not (same_pid pair.0 x)) q (λ k h. alike x k q h)

abbrev pub one : Reference → Watch → WatchMap
one k v = fm.insert fm.empty k v

pub left_watch : (k : Reference) (v : Watch) (x : Pid) (q : Reference)
    → fm.get (fm.retain_keys (one k v) (λ r. not (is_owned x (cond (eq_by_cmp reference_cmp r k) (Some v) None)))) q
    ≡ cond (not (is_owned x (cond (eq_by_cmp reference_cmp q k) (Some v) None))) (fm.get (one k v) q) None
left_watch k v x q = fm.get-retain_keys (one k v) (λ r. not (is_owned x (cond (eq_by_cmp reference_cmp r k) (Some v) None))) q
    (λ r h. ap (λ z. not (is_owned x (cond (eq_by_cmp reference_cmp z k) (Some v) None))) (sym (reference_cmp_exact q r h)))

pub ruleset of_worlds = (of_maps, get_monitor, no_monitor, entries_monitor, gone_monitor, left_end, left_watch)

-- a DOWN that the last event tells is the only one
pub told_once : (nodes : List (Name × Setup)) (es : List Event) (e : Event) (r : Reference) (d : Down)
    → downs_by r e ((step (run es (opening nodes)) e).report) ≡ d ∷ [] → downs r (history (es ++ e ∷ []) (opening nodes)) ≡ d ∷ []
told_once nodes es e r d h =
    let w = opening nodes in
    let rest = downs r (told es (reports_of es (opening nodes)) []) in
    let now : downs r (history (es ++ e ∷ []) (opening nodes)) ≡ d ∷ rest = ap (downs r) (told_last es e (opening nodes) [])
    ∙ ap (λ l. l ++ rest) h in
    let once = throughout DownOnce down_once nodes (es ++ e ∷ []) (reports_of (es ++ e ∷ []) (opening nodes))
    (run (es ++ e ∷ []) (opening nodes)) (runs_so (es ++ e ∷ []) (opening nodes)) r in
    now ∙ ap (λ l. d ∷ l) (none rest (subst (λ l. length l ≤ 1) now once))
  where
    none : (l : List Down) → length (d ∷ l) ≤ 1 → l ≡ []
    none [] h = refl
    none (x ∷ l) h = absurd (omega (arith, h))

abbrev pub node : (cookie : List ℕ) → Name → ℕ → Bool → (pids references unlinks dialed : ℕ) → FinMap pid_cmp Life → FinMap pair_cmp End
    → (watches : WatchMap) → (registered : RegistrationMap) → FinMap trunk_cmp TrunkSide → List Item → Node
node cookie name creation up pids references unlinks dialed lives ends watches registered sides local = record {
  mint = record { name = name; creation = creation; pids = pids; references = references; unlink_ids = unlinks };
  cookie = cookie;
  flags = mandatory;
  up = up;
  dialed = dialed;
  lives = lives;
  names = fm.empty;
  ends = ends;
  watches = watches;
  registered = registered;
  sides = sides;
  local = local;
}

-- the node, once a process that had no name has ended
abbrev pub nameless : Pid → Node → Node
nameless p n = record n { names = without_holder fm.empty p }

abbrev pub world : Node → Node → FinMap place_cmp (List Item) → World
world a b lists = record { names = first ∷ second ∷ []; nodes = a ∷ b ∷ []; lists = lists }
