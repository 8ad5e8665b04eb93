-- A node never asks itself to monitor a process that it never spawned.
use Rattle.erl_handshake.specs.declared.message.ShakeMsg.{ShakeMsg}
use Rattle.std.proofs.Common.{◌≡◌, Bool, true, false, cond, List, [], ◌∷◌, ◌++◌, refl, sym, ap, ◌∙◌, subst, Option, Some, None}
use Rattle.std.proofs.lemmas.List.Elements.{All-append, All-cons, All-head, All-nil, All-push, All-tail}
use Rattle.std.specs.List.{All}
use Rattle.std.specs.FinMap as fm
use Rattle.dist_model.proofs.Founded.{posts_keep}
use Rattle.dist_model.proofs.HandshakeParts.{Turned}
use Rattle.dist_model.proofs.Parts.{Closed, Rules, is_plain}
use Rattle.dist_model.proofs.LastSignals.{exits_in, exits_cons}
use Rattle.dist_model.specs.Exits.{demonitors, exit_for, end_process, monitor_exits}
use Rattle.dist_model.specs.Handshake.{with_side, write}
use Rattle.dist_model.specs.Items.{Item, Signalled}
use Rattle.dist_model.specs.Names.{Name, same_name, same_pid}
use Rattle.dist_model.specs.Node.{Node, route}
use Rattle.dist_model.specs.Sides.{TrunkSide}
use Rattle.dist_model.specs.Work.{Addressed, Work, keep_local, post, post_all, send_on, spelled, to_node, to_pid}
use Rattle.erl_control.specs.declared.signal.Signal.{Signal}
use Rattle.erl_names.specs.declared.trunk.TrunkId.{TrunkId}
use Rattle.erl_term.specs.Data.{Data}
use Rattle.erl_term.specs.declared.term.Pid.{Pid}
use Rattle.erl_term.specs.declared.term.Reference.{Reference}
use Rattle.link_core.specs.declared.end.End.{End}
use Rattle.monitor_core.specs.declared.monitor.Target.{Target}
use Rattle.monitor_core.specs.declared.monitor.Watch.{Watch}
use Rattle.monitor_core.specs.declared.monitor.Registration.{Registration}
use Rattle.dist_model.specs.Telling.{taken_back, told_end}

-- the target of a MONITOR_P
abbrev pub Targets : (Pid → Type 0) → Signal → Type 0
Targets P (Signal.Monitor p q r) = P q
Targets P _ = Unit {0}

abbrev pub TargetsIn : (Pid → Type 0) → Item → Type 0
TargetsIn P (Signalled s pay) = Targets P s
TargetsIn P _ = Unit {0}

pub targets_by : (P Q : Pid → Type 0) → ((p : Pid) → P p → Q p) → (i : Item) → TargetsIn P i → TargetsIn Q i
targets_by P Q f (Signalled (Signal.Monitor p q r) pay) h = f q h
targets_by P Q f _ h = tt

plain_targets : (P : Pid → Type 0) (s : Signal) → is_plain s ≡ true → Targets P s
plain_targets P (Signal.Monitor p q r) h = cc
plain_targets P _ h = tt

module _ (n : Node) (P : Pid → Type 0) where
  pub record Homed (o : Work) : Type 0 where
    pub local : All (TargetsIn P) o.node.local
    pub name : o.node.mint.name ≡ n.mint.name

  abbrev pub Says : Addressed → Type 0
  Says s = same_name s.node n.mint.name ≡ true → Targets P s.signal

  pub homed_post : (s : Addressed) (o : Work) → Says s → Homed o → Homed (post s o)
  homed_post s o h k = record {
    local = go (same_name s.node o.node.mint.name) refl;
    name = posts_keep (λ m. m.mint.name) (λ m l. refl) s.node (spelled o.node s) o ∙ k.name;
  }
    where
      on : (r : Option TrunkId) → All (TargetsIn P) ((send_on r s.node (spelled o.node s) o).node.local)
      on None = k.local
      on (Some t) = k.local

      go : (b : Bool) → same_name s.node o.node.mint.name ≡ b → All (TargetsIn P) ((cond b
          (keep_local (spelled o.node s) o)
          (send_on (route o.node s.node) s.node (spelled o.node s) o)).node.local)
      go true e = All-push (TargetsIn P) o.node.local (spelled o.node s) k.local (h (ap (same_name s.node) (sym k.name) ∙ e))
      go false e = on (route o.node s.node)

  -- the demonitor and the exit of a target name no process to monitor
  pub back_says : (p : Pid) (t : Target) (k : Reference) → Says (taken_back p t k)
  back_says p (Target.Pid q) k = λ e. tt
  back_says p (Target.Name name node) k = λ e. tt

  -- the target that is posted
  abbrev Posted : Addressed → Type 0
  Posted s = Targets P s.signal

  homed_all : (ss : List Addressed) (o : Work) → All Posted ss → Homed o → Homed (post_all ss o)
  homed_all [] o h k = k
  homed_all (s ∷ ss) o h k = homed_all ss (post s o) (All-tail Posted s ss h) (homed_post s o (λ e. All-head Posted s ss h) k)

  exits_home : (p : Pid) (x : Data) (es : List ((Pid × Pid) × End)) → All Posted (exits_in p x es)
  exits_home p x [] = All-nil Posted
  exits_home p x (e ∷ es) =
      subst (All Posted) (sym (exits_cons p x e es)) (All-append Posted
      (cond (same_pid e.0.0 p) (exit_for p x e.0.1 e.1) []) (exits_in p x es) (go (same_pid e.0.0 p) e.1) (exits_home p x es))
    where
      go : (b : Bool) (v : End) → All Posted (cond b (exit_for p x e.0.1 v) [])
      go true End.Active = All-cons Posted (to_pid e.0.1 (Signal.Exit p e.0.1 x)) [] tt (All-nil Posted)
      go _ _ = All-nil Posted

  told_home : (t : Target) (o : Pid) (k : Reference) (x : Data) → All Posted (told_end t o k x ∷ [])
  told_home (Target.Pid q) o k x = All-cons Posted (to_pid o (Signal.MonitorExit q o k x)) [] tt (All-nil Posted)
  told_home (Target.Name name node) o k x = All-cons Posted (to_pid o (Signal.MonitorNameExit name o k x)) [] tt (All-nil Posted)

  back_home : (p : Pid) (t : Target) (k : Reference) → All Posted (taken_back p t k ∷ [])
  back_home p (Target.Pid q) k = All-cons Posted (to_pid q (Signal.Demonitor p q k)) [] tt (All-nil Posted)
  back_home p (Target.Name name node) k = All-cons Posted (to_node node (Signal.DemonitorName p name k)) [] tt (All-nil Posted)

  monitor_exits_home : (p : Pid) (x : Data) (es : List (Reference × Registration)) → All Posted (monitor_exits p x es)
  monitor_exits_home p x [] = All-nil Posted
  monitor_exits_home p x (e ∷ es) =
      All-append Posted (cond (same_pid e.1.held p) (told_end e.1.target e.1.owner e.0 x ∷ []) [])
      (monitor_exits p x es) (go (same_pid e.1.held p)) (monitor_exits_home p x es)
    where
      go : (b : Bool) → All Posted (cond b (told_end e.1.target e.1.owner e.0 x ∷ []) [])
      go true = told_home e.1.target e.1.owner e.0 x
      go false = All-nil Posted

  demonitors_home : (p : Pid) (es : List (Reference × Watch)) → All Posted (demonitors p es)
  demonitors_home p [] = All-nil Posted
  demonitors_home p (e ∷ es) =
      All-append Posted (cond (same_pid e.1.owner p) (taken_back p e.1.target e.0 ∷ []) []) (demonitors p es)
      (go (same_pid e.1.owner p)) (demonitors_home p es)
    where
      go : (b : Bool) → All Posted (cond b (taken_back p e.1.target e.0 ∷ []) [])
      go true = back_home p e.1.target e.0
      go false = All-nil Posted

  homed_finish : (p : Pid) (x : Data) (o : Work) → Homed o → Homed (end_process p x o)
  homed_finish p x o k =
      let es = exits_in p x (fm.entries o.node.ends) in
      let ms = monitor_exits p x (fm.entries o.node.registered) in
      let ds = demonitors p (fm.entries o.node.watches) in
      let v =
      homed_all (es ++ ms ++ ds) o (All-append Posted (es ++ ms) ds
      (All-append Posted es ms (exits_home p x (fm.entries o.node.ends)) (monitor_exits_home p x (fm.entries o.node.registered)))
      (demonitors_home p (fm.entries o.node.watches))) k in
      record { local = v.local; name = v.name }

  abbrev pub home_rules : Rules
  home_rules = record {
    Says = Says;
    Reacts = λ p q x. Unit {0};
    Tells = λ r m x. Unit {0};
    Joins = λ r m. Unit {0};
    Drops = λ r m. Unit {0};
  }

  pub home_closed : Closed home_rules Homed
  home_closed = record {
    plain = λ s h e. plain_targets P s.signal h;
    posted = homed_post;
    end_set = λ p q e o l k. record { local = k.local; name = k.name };
    drew = λ o k. record { local = k.local; name = k.name };
    life_set = λ p l o h k. record { local = k.local; name = k.name };
    renamed = λ m o h k. record { local = k.local; name = k.name };
    message = λ p m o h k. record { local = k.local; name = k.name };
    reacted = λ p q x o h k. record { local = k.local; name = k.name };
    finished = homed_finish;
    registers = λ r m o l b h k. record { local = k.local; name = k.name };
    unregisters = λ r m o e h k. record { local = k.local; name = k.name };
    ended = λ r m x o e h k. record { local = k.local; name = k.name };
  }

  pub home_side : (t : TrunkId) (s : TrunkSide) (o : Work) → Turned o.node t s → Homed o → Homed (with_side t s o)
  home_side t s o h k = record { local = k.local; name = k.name }

  pub home_wrote : (t : TrunkId) (y : Name) (m : ShakeMsg) (o : Work) → Homed o → Homed (write t y m o)
  home_wrote t y m o k = record { local = k.local; name = k.name }
