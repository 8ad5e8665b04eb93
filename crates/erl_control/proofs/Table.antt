-- The text of a signal, part by part.
use Rattle.std.proofs.Common.{◌≡◌, ℕ, suc, Bool, true, false, ◌^◌, ◌<◌, List, [], ◌∷◌, ◌++◌, refl, sym, ap, subst, ◌∙◌, append_assoc, arith}
use Rattle.std.proofs.lemmas.List.{append-nil}
use Rattle.std.specs.Prelude.{pos}
use Rattle.erl_term.specs.declared.term.Pid.{Pid}
use Rattle.erl_term.specs.declared.term.Reference.{Reference}
use Rattle.erl_term.specs.Data.{Data, int, atom, tuple, pid, reference, Items, no_items, item, count}
use Rattle.erl_term.specs.Spelling.{SpellAll, Spells, IsSpelling}
use Rattle.erl_term.proofs.Behind.{head_of, tuple_opened, tuple_closed}
use Rattle.erl_control.specs.declared.signal.Signal.{Signal}
use Rattle.erl_control.specs.declared.signal.Signal.TheVariants.{Link, Send, RegSend, Exit, Exit2, Monitor, Demonitor}
use Rattle.erl_control.specs.declared.signal.Signal.TheVariants.{MonitorExit, UnlinkId, UnlinkIdAck}
use Rattle.erl_control.specs.declared.signal.Signal.TheVariants.{MonitorName, DemonitorName, MonitorNameExit}
use Rattle.erl_control.specs.declared.fields.TargetRef.{TargetRef}
use Rattle.erl_control.specs.declared.fields.TargetRef.TheVariants.{Pid as ByPid, Name as ByName}
use Rattle.std.specs.Prelude.{is_some}
use Rattle.erl_control.specs.Control.{control_in, message_in, IsUnlinkId, HasId}
use Rattle.erl_control.specs.Frame.{SpellsMessage, IsSignalText}
use Rattle.erl_control.specs.Reading.{IsPair, IsRowHead, ArePids, AreIdAndPids, ArePidsAndReason, target_term}
use Rattle.erl_control.specs.Reading.{AreMonitor, AreMonitored, AreMonitorExit, AreSend, AreRegSend, AreBefore, tag_of, arity_of, AreFields}

-- ---- fields in a row

-- the last field
last_from : (S : Data → List ℕ → Type 0) (t : Data) (b : List ℕ) → SpellAll S (item t no_items) b → S t b
last_from S t b s = subst (S t) (sym (s.4 ∙ ap (λ (w : List ℕ). s.0 ++ w) s.3 ∙ append-nil s.0)) s.2

last_to : (S : Data → List ℕ → Type 0) (t : Data) (b : List ℕ) → S t b → SpellAll S (item t no_items) b
last_to S t b s = (b, [], s, refl, sym (append-nil b))

-- two fields, and those behind them
record Two (S : Data → List ℕ → Type 0) (t u : Data) (ts : Items) (b : List ℕ) : Type 0 where
  first : List ℕ
  second : List ℕ
  others : List ℕ
  is_first : S t first
  is_second : S u second
  are_others : SpellAll S ts others
  parts : b ≡ (first ++ second) ++ others

two_from : (S : Data → List ℕ → Type 0) (t u : Data) (ts : Items) (b : List ℕ) → SpellAll S (item t (item u ts)) b → Two S t u ts b
two_from S t u ts b s = record {
  first = s.0;
  second = s.3.0;
  others = s.3.1;
  is_first = s.2;
  is_second = s.3.2;
  are_others = s.3.3;
  parts = s.4 ∙ ap (λ (w : List ℕ). s.0 ++ w) s.3.4 ∙ sym (append_assoc s.0 s.3.0 s.3.1);
}

two_to : (S : Data → List ℕ → Type 0) (t u : Data) (ts : Items) (b x y z : List ℕ) → S t x → S u y → SpellAll S ts z
    → b ≡ (x ++ y) ++ z → SpellAll S (item t (item u ts)) b
two_to S t u ts b x y z p q r e = (x, y ++ z, p, (y, z, q, r, refl), e ∙ append_assoc x y z)

-- the spellings of what f makes a term
abbrev Made : {A : Type 0} → ℕ → (A → Data) → A → List ℕ → Type 0
Made levels f x b = Spells levels (f x) b

-- two of them, and what is behind
record PairThen {A B : Type 0} (levels : ℕ) (f : A → Data) (g : B → Data) (x : A × B) (ts : Items) (b : List ℕ) : Type 0 where
  front : List ℕ
  back : List ℕ
  are_both : IsPair (Made levels f) (Made levels g) x front
  are_others : SpellAll (Spells levels) ts back
  parts : b ≡ front ++ back

pair_from : {A B : Type 0} (levels : ℕ) (f : A → Data) (g : B → Data) (x : A × B) (ts : Items) (b : List ℕ)
    → SpellAll (Spells levels) (item (f x.0) (item (g x.1) ts)) b → PairThen levels f g x ts b
pair_from levels f g x ts b s =
    let w = two_from (Spells levels) (f x.0) (g x.1) ts b s in
    record {
      front = w.first ++ w.second;
      back = w.others;
      are_both = record { front = w.first; back = w.second; is_front = w.is_first; is_back = w.is_second; parts = refl };
      are_others = w.are_others;
      parts = w.parts;
    }

pair_to : {A B : Type 0} (levels : ℕ) (f : A → Data) (g : B → Data) (x : A × B) (ts : Items) (b front back : List ℕ)
    → IsPair (Made levels f) (Made levels g) x front → SpellAll (Spells levels) ts back → b ≡ front ++ back
    → SpellAll (Spells levels) (item (f x.0) (item (g x.1) ts)) b
pair_to levels f g x ts b front back s r e =
    two_to (Spells levels) (f x.0) (g x.1) ts b s.front s.back back s.is_front s.is_back r (e ∙ ap (λ (w : List ℕ). w ++ back) s.parts)

-- three of them
three_from : {A B C : Type 0} (levels : ℕ) (f : A → Data) (g : B → Data) (h : C → Data) (x : A × B) (z : C) (b : List ℕ)
    → SpellAll (Spells levels) (item (f x.0) (item (g x.1) (item (h z) no_items))) b
    → IsPair (IsPair (Made levels f) (Made levels g)) (Made levels h) (x, z) b
three_from levels f g h x z b s =
    let w = pair_from levels f g x (item (h z) no_items) b s in
    record {
      front = w.front;
      back = w.back;
      is_front = w.are_both;
      is_back = last_from (Spells levels) (h z) w.back w.are_others;
      parts = w.parts;
    }

three_to : {A B C : Type 0} (levels : ℕ) (f : A → Data) (g : B → Data) (h : C → Data) (x : A × B) (z : C) (b : List ℕ)
    → IsPair (IsPair (Made levels f) (Made levels g)) (Made levels h) (x, z) b
    → SpellAll (Spells levels) (item (f x.0) (item (g x.1) (item (h z) no_items))) b
three_to levels f g h x z b s =
    pair_to levels f g x (item (h z) no_items) b s.front s.back s.is_front (last_to (Spells levels) (h z) s.back s.is_back) s.parts

abbrev itself : Data → Data
itself t = t

-- ---- the fields of a row, and its message

abbrev pub fields_of : Data → Signal → Bool → Items
fields_of unused (Link p q) payload = item (pid p) (item (pid q) no_items)
fields_of unused (Send p t) payload = item unused (item (pid p) no_items)
fields_of unused (RegSend p n t) payload = item (pid p) (item unused (item (atom n) no_items))
fields_of unused (Exit p q t) false = item (pid p) (item (pid q) (item t no_items))
fields_of unused (Exit p q t) true = item (pid p) (item (pid q) no_items)
fields_of unused (Exit2 p q t) false = item (pid p) (item (pid q) (item t no_items))
fields_of unused (Exit2 p q t) true = item (pid p) (item (pid q) no_items)
fields_of unused (Monitor p q r) payload = item (pid p) (item (pid q) (item (reference r) no_items))
fields_of unused (MonitorName p n r) payload = item (pid p) (item (atom n) (item (reference r) no_items))
fields_of unused (Demonitor p q r) payload = item (pid p) (item (pid q) (item (reference r) no_items))
fields_of unused (DemonitorName p n r) payload = item (pid p) (item (atom n) (item (reference r) no_items))
fields_of unused (MonitorExit p q r t) false = item (pid p) (item (pid q) (item (reference r) (item t no_items)))
fields_of unused (MonitorExit p q r t) true = item (pid p) (item (pid q) (item (reference r) no_items))
fields_of unused (MonitorNameExit n q r t) false = item (atom n) (item (pid q) (item (reference r) (item t no_items)))
fields_of unused (MonitorNameExit n q r t) true = item (atom n) (item (pid q) (item (reference r) no_items))
fields_of unused (UnlinkId id p q) payload = item (int (pos id)) (item (pid p) (item (pid q) no_items))
fields_of unused (UnlinkIdAck id p q) payload = item (int (pos id)) (item (pid p) (item (pid q) no_items))

-- a row is its tag and its fields
abbrev by_parts : Data → Signal → Bool → Data
by_parts unused s payload = tuple (item (int (pos (tag_of s payload))) (fields_of unused s payload))

row_parts : (unused : Data) (s : Signal) (payload : Bool) → control_in unused s payload ≡ by_parts unused s payload
row_parts unused (Link p q) payload = refl
row_parts unused (Exit p q t) false = refl
row_parts unused (Exit p q t) true = refl
row_parts unused (Exit2 p q t) false = refl
row_parts unused (Exit2 p q t) true = refl
row_parts unused (MonitorExit p q r t) false = refl
row_parts unused (MonitorExit p q r t) true = refl
row_parts unused (MonitorNameExit n q r t) false = refl
row_parts unused (MonitorNameExit n q r t) true = refl
row_parts unused _ payload = refl

row_arity : (unused : Data) (s : Signal) (payload : Bool) → suc (count (fields_of unused s payload)) ≡ arity_of s payload
row_arity unused (Link p q) payload = refl
row_arity unused (Exit p q t) false = refl
row_arity unused (Exit p q t) true = refl
row_arity unused (Exit2 p q t) false = refl
row_arity unused (Exit2 p q t) true = refl
row_arity unused (MonitorExit p q r t) false = refl
row_arity unused (MonitorExit p q r t) true = refl
row_arity unused (MonitorNameExit n q r t) false = refl
row_arity unused (MonitorNameExit n q r t) true = refl
row_arity unused _ payload = refl

row_tag : (s : Signal) (payload : Bool) → tag_of s payload < 2 ^ 64
row_tag (Link p q) payload = omega arith
row_tag (Exit p q t) false = omega arith
row_tag (Exit p q t) true = omega arith
row_tag (Exit2 p q t) false = omega arith
row_tag (Exit2 p q t) true = omega arith
row_tag (MonitorExit p q r t) false = omega arith
row_tag (MonitorExit p q r t) true = omega arith
row_tag (MonitorNameExit n q r t) false = omega arith
row_tag (MonitorNameExit n q r t) true = omega arith
row_tag _ payload = omega arith

module _ (levels : ℕ) where
  two_pids_from : (p q : Pid) (b : List ℕ) → SpellAll (Spells levels) (item (pid p) (item (pid q) no_items)) b → ArePids levels (p, q) b
  two_pids_from p q b s =
      let w = pair_from levels pid pid (p, q) no_items b s in
      subst (ArePids levels (p, q)) (sym (w.parts ∙ ap (λ (v : List ℕ). w.front ++ v) w.are_others ∙ append-nil w.front)) w.are_both

  two_pids_to : (p q : Pid) (b : List ℕ) → ArePids levels (p, q) b → SpellAll (Spells levels) (item (pid p) (item (pid q) no_items)) b
  two_pids_to p q b s = pair_to levels pid pid (p, q) no_items b b [] s refl (sym (append-nil b))

  exit_from : (p q : Pid) (t : Data) (b : List ℕ) → SpellAll (Spells levels) (item (pid p) (item (pid q) (item t no_items))) b
      → ArePidsAndReason levels ((p, q), t) b
  exit_from p q t b s = three_from levels pid pid itself (p, q) t b s

  exit_to : (p q : Pid) (t : Data) (b : List ℕ) → ArePidsAndReason levels ((p, q), t) b
      → SpellAll (Spells levels) (item (pid p) (item (pid q) (item t no_items))) b
  exit_to p q t b s = three_to levels pid pid itself (p, q) t b s

  monitor_from : (p : Pid) (k : TargetRef) (r : Reference) (b : List ℕ)
      → SpellAll (Spells levels) (item (pid p) (item (target_term k) (item (reference r) no_items))) b
      → AreMonitor levels ((p, k), r) b
  monitor_from p k r b s = three_from levels pid target_term reference (p, k) r b s

  monitor_to : (p : Pid) (k : TargetRef) (r : Reference) (b : List ℕ) → AreMonitor levels ((p, k), r) b
      → SpellAll (Spells levels) (item (pid p) (item (target_term k) (item (reference r) no_items))) b
  monitor_to p k r b s = three_to levels pid target_term reference (p, k) r b s

  monitored_from : (k : TargetRef) (q : Pid) (r : Reference) (b : List ℕ)
      → SpellAll (Spells levels) (item (target_term k) (item (pid q) (item (reference r) no_items))) b
      → AreMonitored levels ((k, q), r) b
  monitored_from k q r b s = three_from levels target_term pid reference (k, q) r b s

  monitored_to : (k : TargetRef) (q : Pid) (r : Reference) (b : List ℕ) → AreMonitored levels ((k, q), r) b
      → SpellAll (Spells levels) (item (target_term k) (item (pid q) (item (reference r) no_items))) b
  monitored_to k q r b s = three_to levels target_term pid reference (k, q) r b s

  monitor_exit_from : (k : TargetRef) (q : Pid) (r : Reference) (t : Data) (b : List ℕ)
      → SpellAll (Spells levels) (item (target_term k) (item (pid q) (item (reference r) (item t no_items)))) b
      → AreMonitorExit levels (((k, q), r), t) b
  monitor_exit_from k q r t b s =
      let w = pair_from levels target_term pid (k, q) (item (reference r) (item t no_items)) b s in
      let o = w.are_others in
      record {
        front = w.front ++ o.0;
        back = o.1;
        is_front = record { front = w.front; back = o.0; is_front = w.are_both; is_back = o.2; parts = refl };
        is_back = last_from (Spells levels) t o.1 o.3;
        parts = w.parts ∙ ap (λ (v : List ℕ). w.front ++ v) o.4 ∙ sym (append_assoc w.front o.0 o.1);
      }

  monitor_exit_to : (k : TargetRef) (q : Pid) (r : Reference) (t : Data) (b : List ℕ) → AreMonitorExit levels (((k, q), r), t) b
      → SpellAll (Spells levels) (item (target_term k) (item (pid q) (item (reference r) (item t no_items)))) b
  monitor_exit_to k q r t b s =
      let f = s.is_front in
      pair_to levels target_term pid (k, q) (item (reference r) (item t no_items)) b f.front (f.back ++ s.back) f.is_front
      (f.back, s.back, f.is_back, last_to (Spells levels) t s.back s.is_back, refl)
      (s.parts ∙ ap (λ (v : List ℕ). v ++ s.back) f.parts ∙ append_assoc f.front f.back s.back)

  unlink_from : (id : ℕ) (p q : Pid) (b : List ℕ) → IsUnlinkId id
      → SpellAll (Spells levels) (item (int (pos id)) (item (pid p) (item (pid q) no_items))) b
      → AreIdAndPids levels (id, (p, q)) b
  unlink_from id p q b u s = record { front = s.0; back = s.1; is_front = (u, s.2); is_back = two_pids_from p q s.1 s.3; parts = s.4 }

  unlink_to : (id : ℕ) (p q : Pid) (b : List ℕ) → AreIdAndPids levels (id, (p, q)) b
      → SpellAll (Spells levels) (item (int (pos id)) (item (pid p) (item (pid q) no_items))) b
  unlink_to id p q b s = (s.front, s.back, s.is_front.1, two_pids_to p q s.back s.is_back, s.parts)

  pub send_from : (t : Data) (p : Pid) (b : List ℕ) → SpellAll (Spells levels) (item t (item (pid p) no_items)) b → AreSend levels (t, p) b
  send_from t p b s = record { front = s.0; back = s.1; is_front = s.2; is_back = last_from (Spells levels) (pid p) s.1 s.3; parts = s.4 }

  pub send_to : (t : Data) (p : Pid) (b : List ℕ) → AreSend levels (t, p) b → SpellAll (Spells levels) (item t (item (pid p) no_items)) b
  send_to t p b s = (s.front, s.back, s.is_front, last_to (Spells levels) (pid p) s.back s.is_back, s.parts)

  pub reg_send_from : (p : Pid) (t : Data) (n : List ℕ) (b : List ℕ)
      → SpellAll (Spells levels) (item (pid p) (item t (item (atom n) no_items))) b → AreRegSend levels ((p, t), n) b
  reg_send_from p t n b s = three_from levels pid itself atom (p, t) n b s

  pub reg_send_to : (p : Pid) (t : Data) (n : List ℕ) (b : List ℕ) → AreRegSend levels ((p, t), n) b
      → SpellAll (Spells levels) (item (pid p) (item t (item (atom n) no_items))) b
  reg_send_to p t n b s = three_to levels pid itself atom (p, t) n b s

  -- nothing stands behind
  alone : (T : List ℕ → Type 0) (x message : List ℕ) → message ≡ [] → T x → T (x ++ message)
  alone T x message e s = subst T (sym (ap (λ (w : List ℕ). x ++ w) e ∙ append-nil x)) s

  fields_from : (unused : Data) (s : Signal) (payload : Bool) (x message : List ℕ) → HasId s
      → SpellAll (Spells levels) (fields_of unused s payload) x
      → SpellsMessage (message_in s payload) message → AreFields levels s payload (x ++ message)
  fields_from unused (Link p q) w x message h s e = alone (AreFields levels (Link p q) w) x message e (two_pids_from p q x s)
  fields_from unused (Send p t) w x message h s e =
      (unused, record { front = x; back = message; is_front = send_from unused p x s; is_back = e; parts = refl })
  fields_from unused (RegSend p n t) w x message h s e =
      (unused, record { front = x; back = message; is_front = reg_send_from p unused n x s; is_back = e; parts = refl })
  fields_from unused (Exit p q t) false x message h s e = alone (AreFields levels (Exit p q t) false) x message e (exit_from p q t x s)
  fields_from unused (Exit p q t) true x message h s e =
      record { front = x; back = message; is_front = two_pids_from p q x s; is_back = e; parts = refl }
  fields_from unused (Exit2 p q t) false x message h s e = alone (AreFields levels (Exit2 p q t) false) x message e (exit_from p q t x s)
  fields_from unused (Exit2 p q t) true x message h s e =
      record { front = x; back = message; is_front = two_pids_from p q x s; is_back = e; parts = refl }
  fields_from unused (Monitor p q r) w x message h s e =
      alone (AreFields levels (Monitor p q r) w) x message e (monitor_from p (ByPid q) r x s)
  fields_from unused (MonitorName p n r) w x message h s e =
      alone (AreFields levels (MonitorName p n r) w) x message e (monitor_from p (ByName n) r x s)
  fields_from unused (Demonitor p q r) w x message h s e =
      alone (AreFields levels (Demonitor p q r) w) x message e (monitor_from p (ByPid q) r x s)
  fields_from unused (DemonitorName p n r) w x message h s e =
      alone (AreFields levels (DemonitorName p n r) w) x message e (monitor_from p (ByName n) r x s)
  fields_from unused (MonitorExit p q r t) false x message h s e =
      alone (AreFields levels (MonitorExit p q r t) false) x message e (monitor_exit_from (ByPid p) q r t x s)
  fields_from unused (MonitorExit p q r t) true x message h s e =
      record { front = x; back = message; is_front = monitored_from (ByPid p) q r x s; is_back = e; parts = refl }
  fields_from unused (MonitorNameExit n q r t) false x message h s e =
      alone (AreFields levels (MonitorNameExit n q r t) false) x message e (monitor_exit_from (ByName n) q r t x s)
  fields_from unused (MonitorNameExit n q r t) true x message h s e =
      record { front = x; back = message; is_front = monitored_from (ByName n) q r x s; is_back = e; parts = refl }
  fields_from unused (UnlinkId id p q) w x message h s e = alone (AreFields levels (UnlinkId id p q) w) x message e (unlink_from id p q x h s)
  fields_from unused (UnlinkIdAck id p q) w x message h s e =
      alone (AreFields levels (UnlinkIdAck id p q) w) x message e (unlink_from id p q x h s)

  pub record Fields (s : Signal) (payload : Bool) (b : List ℕ) : Type 0 where
    pub unused : Data
    pub elements : List ℕ
    pub message : List ℕ
    pub has_id : HasId s
    pub spelled : SpellAll (Spells levels) (fields_of unused s payload) elements
    pub told : SpellsMessage (message_in s payload) message
    pub parts : b ≡ elements ++ message

  abbrev lone : (s : Signal) (payload : Bool) (b : List ℕ) → HasId s → SpellAll (Spells levels) (fields_of (int (pos 0)) s payload) b
      → SpellsMessage (message_in s payload) [] → Fields s payload b
  lone s payload b h all e = record {
    unused = int (pos 0);
    elements = b;
    message = [];
    has_id = h;
    spelled = all;
    told = e;
    parts = sym (append-nil b);
  }

  fields_to : (s : Signal) (payload : Bool) (b : List ℕ) → AreFields levels s payload b → Fields s payload b
  fields_to (Link p q) w b f = lone (Link p q) w b tt (two_pids_to p q b f) refl
  fields_to (Send p t) w b f =
      let g = f.1 in
      record {
        unused = f.0;
        elements = g.front;
        message = g.back;
        has_id = tt;
        spelled = send_to f.0 p g.front g.is_front;
        told = g.is_back;
        parts = g.parts;
      }
  fields_to (RegSend p n t) w b f =
      let g = f.1 in
      record {
        unused = f.0;
        elements = g.front;
        message = g.back;
        has_id = tt;
        spelled = reg_send_to p f.0 n g.front g.is_front;
        told = g.is_back;
        parts = g.parts;
      }
  fields_to (Exit p q t) false b f = lone (Exit p q t) false b tt (exit_to p q t b f) refl
  fields_to (Exit p q t) true b f = record {
    unused = int (pos 0);
    elements = f.front;
    message = f.back;
    has_id = tt;
    spelled = two_pids_to p q f.front f.is_front;
    told = f.is_back;
    parts = f.parts;
  }
  fields_to (Exit2 p q t) false b f = lone (Exit2 p q t) false b tt (exit_to p q t b f) refl
  fields_to (Exit2 p q t) true b f = record {
    unused = int (pos 0);
    elements = f.front;
    message = f.back;
    has_id = tt;
    spelled = two_pids_to p q f.front f.is_front;
    told = f.is_back;
    parts = f.parts;
  }
  fields_to (Monitor p q r) w b f = lone (Monitor p q r) w b tt (monitor_to p (ByPid q) r b f) refl
  fields_to (MonitorName p n r) w b f = lone (MonitorName p n r) w b tt (monitor_to p (ByName n) r b f) refl
  fields_to (Demonitor p q r) w b f = lone (Demonitor p q r) w b tt (monitor_to p (ByPid q) r b f) refl
  fields_to (DemonitorName p n r) w b f = lone (DemonitorName p n r) w b tt (monitor_to p (ByName n) r b f) refl
  fields_to (MonitorExit p q r t) false b f = lone (MonitorExit p q r t) false b tt (monitor_exit_to (ByPid p) q r t b f) refl
  fields_to (MonitorExit p q r t) true b f = record {
    unused = int (pos 0);
    elements = f.front;
    message = f.back;
    has_id = tt;
    spelled = monitored_to (ByPid p) q r f.front f.is_front;
    told = f.is_back;
    parts = f.parts;
  }
  fields_to (MonitorNameExit n q r t) false b f = lone (MonitorNameExit n q r t) false b tt (monitor_exit_to (ByName n) q r t b f) refl
  fields_to (MonitorNameExit n q r t) true b f = record {
    unused = int (pos 0);
    elements = f.front;
    message = f.back;
    has_id = tt;
    spelled = monitored_to (ByName n) q r f.front f.is_front;
    told = f.is_back;
    parts = f.parts;
  }
  fields_to (UnlinkId id p q) w b f = lone (UnlinkId id p q) w b f.is_front.0 (unlink_to id p q b f) refl
  fields_to (UnlinkIdAck id p q) w b f = lone (UnlinkIdAck id p q) w b f.is_front.0 (unlink_to id p q b f) refl

  -- ---- a control term that a message follows

  pub before_to : (unused : Data) (s : Signal) (payload : Bool) (b : List ℕ) → AreBefore levels unused s payload b
      → SpellAll (Spells levels) (fields_of unused s payload) b
  before_to unused (Send p t) w b f = send_to unused p b f
  before_to unused (RegSend p n t) w b f = reg_send_to p unused n b f
  before_to unused (Exit p q t) true b f = two_pids_to p q b f
  before_to unused (Exit2 p q t) true b f = two_pids_to p q b f
  before_to unused (MonitorExit p q r t) true b f = monitored_to (ByPid p) q r b f
  before_to unused (MonitorNameExit n q r t) true b f = monitored_to (ByName n) q r b f
  before_to unused (Exit p q t) false b f = absurd f
  before_to unused (Exit2 p q t) false b f = absurd f
  before_to unused (MonitorExit p q r t) false b f = absurd f
  before_to unused (MonitorNameExit n q r t) false b f = absurd f
  before_to unused _ w b f = absurd f

  pub before_from : (unused : Data) (s : Signal) (payload : Bool) (b : List ℕ) → is_some (message_in s payload) ≡ true
      → SpellAll (Spells levels) (fields_of unused s payload) b → AreBefore levels unused s payload b
  before_from unused (Send p t) w b h f = send_from unused p b f
  before_from unused (RegSend p n t) w b h f = reg_send_from p unused n b f
  before_from unused (Exit p q t) true b h f = two_pids_from p q b f
  before_from unused (Exit2 p q t) true b h f = two_pids_from p q b f
  before_from unused (MonitorExit p q r t) true b h f = monitored_from (ByPid p) q r b f
  before_from unused (MonitorNameExit n q r t) true b h f = monitored_from (ByName n) q r b f
  before_from unused (Exit p q t) false b h f = absurd cc
  before_from unused (Exit2 p q t) false b h f = absurd cc
  before_from unused (MonitorExit p q r t) false b h f = absurd cc
  before_from unused (MonitorNameExit n q r t) false b h f = absurd cc
  before_from unused _ w b h f = absurd cc

  pub before_followed : (unused : Data) (s : Signal) (payload : Bool) (b : List ℕ) → AreBefore levels unused s payload b
      → is_some (message_in s payload) ≡ true
  before_followed unused (Send p t) w b f = refl
  before_followed unused (RegSend p n t) w b f = refl
  before_followed unused (Exit p q t) true b f = refl
  before_followed unused (Exit2 p q t) true b f = refl
  before_followed unused (MonitorExit p q r t) true b f = refl
  before_followed unused (MonitorNameExit n q r t) true b f = refl
  before_followed unused (Exit p q t) false b f = absurd f
  before_followed unused (Exit2 p q t) false b f = absurd f
  before_followed unused (MonitorExit p q r t) false b f = absurd f
  before_followed unused (MonitorNameExit n q r t) false b f = absurd f
  before_followed unused _ w b f = absurd f

-- ---- rows

-- a tuple as the head of a row, and the fields behind it
pub record Row (tag : ℕ) (ts : Items) (b : List ℕ) : Type 0 where
  pub levels : ℕ
  pub front : List ℕ
  pub fields : List ℕ
  pub is_front : IsRowHead (head_of (suc (count ts)) levels, tag) front
  pub are_fields : SpellAll (Spells levels) ts fields
  pub parts : b ≡ front ++ fields

pub row_from : (tag : ℕ) (ts : Items) (b : List ℕ) → tag < 2 ^ 64 → IsSpelling 64 (tuple (item (int (pos tag)) ts)) b → Row tag ts b
row_from tag ts b lt s =
    let o = tuple_opened 64 (item (int (pos tag)) ts) s.term s.spelled in
    let e = o.spelled in
    record {
      levels = o.below;
      front = 131 ∷ (o.head ++ e.0);
      fields = e.1;
      is_front = record {
        front = 131 ∷ o.head;
        back = e.0;
        is_front = record { head = o.head; is_head = o.is_head; bytes = refl };
        is_back = (lt, e.2);
        parts = refl;
      };
      are_fields = e.3;
      parts = s.bytes ∙ ap (λ (w : List ℕ). 131 ∷ w) (o.parts ∙ ap (λ (w : List ℕ). o.head ++ w) e.4 ∙ sym (append_assoc o.head e.0 e.1));
    }

pub row_to : (tag : ℕ) (ts : Items) (b : List ℕ) → Row tag ts b → IsSpelling 64 (tuple (item (int (pos tag)) ts)) b
row_to tag ts b s =
    let f = s.is_front in
    let h = f.is_front in
    record {
      term = h.head ++ (f.back ++ s.fields);
      spelled = tuple_closed 64 (item (int (pos tag)) ts) (h.head ++ (f.back ++ s.fields)) (record {
        below = s.levels;
        head = h.head;
        elements = f.back ++ s.fields;
        is_head = h.is_head;
        spelled = (f.back, s.fields, f.is_back.1, s.are_fields, refl);
        parts = refl;
      });
      bytes = s.parts ∙ ap (λ (w : List ℕ). w ++ s.fields) (f.parts ∙ ap (λ (w : List ℕ). w ++ f.back) h.bytes)
          ∙ ap (λ (w : List ℕ). 131 ∷ w) (append_assoc h.head f.back s.fields);
    }

-- ---- the text of a signal as the head of a row and what is behind it

pub record Shape (s : Signal) (b : List ℕ) : Type 0 where
  pub payload : Bool
  pub levels : ℕ
  pub front : List ℕ
  pub fields : List ℕ
  pub is_front : IsRowHead (head_of (arity_of s payload) levels, tag_of s payload) front
  pub are_fields : AreFields levels s payload fields
  pub parts : b ≡ front ++ fields

-- a control term as such a row
pub control_row : (unused : Data) (s : Signal) (payload : Bool) (b : List ℕ) → IsSpelling 64 (control_in unused s payload) b
    → Row (tag_of s payload) (fields_of unused s payload) b
control_row unused s payload b i =
    row_from (tag_of s payload) (fields_of unused s payload) b (row_tag s payload)
    (subst (λ (t : Data). IsSpelling 64 t b) (row_parts unused s payload) i)

pub control_unrow : (unused : Data) (s : Signal) (payload : Bool) (b : List ℕ) → Row (tag_of s payload) (fields_of unused s payload) b
    → IsSpelling 64 (control_in unused s payload) b
control_unrow unused s payload b row =
    subst (λ (t : Data). IsSpelling 64 t b) (sym (row_parts unused s payload))
    (row_to (tag_of s payload) (fields_of unused s payload) b row)

pub row_head : (unused : Data) (s : Signal) (payload : Bool) (levels : ℕ) (front : List ℕ)
    → IsRowHead (head_of (suc (count (fields_of unused s payload))) levels, tag_of s payload) front
    → IsRowHead (head_of (arity_of s payload) levels, tag_of s payload) front
row_head unused s payload levels front h =
    subst (λ (n : ℕ). IsRowHead (head_of n levels, tag_of s payload) front) (row_arity unused s payload) h

pub row_unhead : (unused : Data) (s : Signal) (payload : Bool) (levels : ℕ) (front : List ℕ)
    → IsRowHead (head_of (arity_of s payload) levels, tag_of s payload) front
    → IsRowHead (head_of (suc (count (fields_of unused s payload))) levels, tag_of s payload) front
row_unhead unused s payload levels front h =
    subst (λ (n : ℕ). IsRowHead (head_of n levels, tag_of s payload) front) (sym (row_arity unused s payload)) h

pub shape : (s : Signal) (b : List ℕ) → IsSignalText s b → Shape s b
shape s b i =
    let w = control_row i.unused s i.payload i.control i.spelled in
    record {
      payload = i.payload;
      levels = w.levels;
      front = w.front;
      fields = w.fields ++ i.message;
      is_front = row_head i.unused s i.payload w.levels w.front w.is_front;
      are_fields = fields_from w.levels i.unused s i.payload w.fields i.message i.has_id w.are_fields i.told;
      parts = i.bytes ∙ ap (λ (v : List ℕ). v ++ i.message) w.parts ∙ append_assoc w.front w.fields i.message;
    }

pub unshape : (s : Signal) (b : List ℕ) → Shape s b → IsSignalText s b
unshape s b h =
    let f = fields_to h.levels s h.payload h.fields h.are_fields in
    let row : Row (tag_of s h.payload) (fields_of f.unused s h.payload) (h.front ++ f.elements) = record {
      levels = h.levels;
      front = h.front;
      fields = f.elements;
      is_front = row_unhead f.unused s h.payload h.levels h.front h.is_front;
      are_fields = f.spelled;
      parts = refl;
    } in
    record {
      payload = h.payload;
      unused = f.unused;
      control = h.front ++ f.elements;
      message = f.message;
      has_id = f.has_id;
      spelled = control_unrow f.unused s h.payload (h.front ++ f.elements) row;
      told = f.told;
      bytes = h.parts ∙ ap (λ (w : List ℕ). h.front ++ w) f.parts ∙ sym (append_assoc h.front f.elements f.message);
    }
