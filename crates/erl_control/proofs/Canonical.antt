-- The frame that is written is a frame.
use Rattle.erl_term.proofs.Canonical.{four_bytes}
use Rattle.std.proofs.Common.{◌≡◌, ℕ, suc, ◌+◌, ◌<◌, ◌≤◌, ◌↔◌, Bool, true}
use Rattle.std.proofs.Common.{false, cond, List, [], ◌∷◌, ◌++◌, length, refl, rules, arith}
use Rattle.std.proofs.lemmas.List.{length-append}
use Rattle.std.proofs.lemmas.Str.{IsUtf8-nil, chars-nil}
use Rattle.std.proofs.lemmas.Int.{ints}
use Rattle.std.specs.Prelude.{ℤ, pos, FitsSigned}
use Rattle.std.specs.Int.{w128}
use Rattle.byteorder.specs.Endian.{big_bytes}
use Rattle.erl_term.specs.declared.term.Pid.{Pid}
use Rattle.erl_term.specs.declared.term.Reference.{Reference}
use Rattle.erl_term.specs.Data.{Data, int, atom, tuple, pid, reference, Items, no_items, item, count}
use Rattle.erl_term.specs.Spelling.{IsSpelling}
use Rattle.erl_term.specs.Text.{IsAtomText}
use Rattle.erl_term.specs.Canonical.{canonical, canonical_term, canonical_head, canonical_int, canonical_atom, canonical_pid}
use Rattle.erl_term.specs.Canonical.{canonical_reference, canonical_items, levels_of, IsInRange, IsPidInRange, IsReferenceInRange}
use Rattle.erl_control.specs.declared.signal.Signal.{Signal}
use Rattle.erl_control.specs.declared.signal.Signal.TheVariants.{Link, Send, RegSend, Exit, Exit2, Monitor, Demonitor}
use Rattle.erl_control.specs.declared.signal.Signal.TheVariants.{MonitorExit, UnlinkId, UnlinkIdAck}
use Rattle.erl_control.specs.declared.signal.Signal.TheVariants.{MonitorName, DemonitorName, MonitorNameExit}
use Rattle.erl_control.specs.Control.{row, control_in, message_in, Carries, Fits, IsFit, IsSendable}
use Rattle.erl_control.specs.Frame.{limit, SpellsMessage, IsSignalFrame}
use Rattle.erl_control.specs.Canonical.{canonical_control, canonical_message, canonical_text, canonical_frame}

-- ---- a number in four bytes

-- ---- the atom ''

pub empty_atom : IsAtomText []
empty_atom = record { utf8 = IsUtf8-nil; short = rw chars-nil (omega arith) }

empty_atom_len : length (canonical_atom []) ≡ 2
unfolding canonical_atom
empty_atom_len = refl

pub send_len : (to : Pid) (m : Data) (payload : Bool) → length (canonical_text (Send to m) payload)
    ≡ length (131 ∷ (canonical_head 3 ++ canonical_int (pos 2))) + 2 + length (canonical_pid to) + 1 + length (canonical_term m)
send_len to m payload =
    let pids : List ℕ = canonical_pid to ++ [] in
    let a = empty_atom_len in
    omega (
      arith,
      length-append (canonical_control (Send to m) payload) (canonical m),
      length-append (canonical_head 3) (canonical_int (pos 2) ++ (canonical_atom [] ++ pids)),
      length-append (canonical_int (pos 2)) (canonical_atom [] ++ pids),
      length-append (canonical_atom []) pids,
      length-append {A = ℕ} (canonical_pid to) [],
      length-append (canonical_head 3) (canonical_int (pos 2)),
    )

two_fits : FitsSigned w128 (pos 2)
two_fits = search (rules, ints)

pub send_in_range : (to : Pid) (m : Data) (payload : Bool) → IsPidInRange to → IsInRange (control_in (atom []) (Send to m) payload)
send_in_range to m payload h = (omega arith, (two_fits, (empty_atom, (h, tt))))

pub reg_send_len : (from : Pid) (name : List ℕ) (m : Data) (payload : Bool) → length (canonical_text (RegSend from name m) payload)
    ≡ length (131 ∷ (canonical_head 4 ++ canonical_int (pos 6))) + length (canonical_pid from) + 2 + length (canonical_atom name) + 1
    + length (canonical_term m)
reg_send_len from name m payload =
    let names : List ℕ = canonical_atom name ++ [] in
    let unused : List ℕ = canonical_atom [] ++ names in
    let a = empty_atom_len in
    omega (
      arith,
      length-append (canonical_control (RegSend from name m) payload) (canonical m),
      length-append (canonical_head 4) (canonical_int (pos 6) ++ (canonical_pid from ++ unused)),
      length-append (canonical_int (pos 6)) (canonical_pid from ++ unused),
      length-append (canonical_pid from) unused,
      length-append (canonical_atom []) names,
      length-append {A = ℕ} (canonical_atom name) [],
      length-append (canonical_head 4) (canonical_int (pos 6)),
    )

six_fits : FitsSigned w128 (pos 6)
six_fits = search (rules, ints)

pub reg_send_in_range : (from : Pid) (name : List ℕ) (m : Data) (payload : Bool) → IsPidInRange from → IsAtomText name
    → IsInRange (control_in (atom []) (RegSend from name m) payload)
reg_send_in_range from name m payload h a = (omega arith, (six_fits, (h, (empty_atom, (a, tt)))))

-- ---- lengths

abbrev pub ShortIntegers : Type 0
ShortIntegers = (z : ℤ) → length (canonical_int z) ≤ 19

abbrev pub ShortPids : Type 0
ShortPids = (p : Pid) → IsPidInRange p → length (canonical_pid p) ≤ 1036

abbrev pub ShortReferences : Type 0
ShortReferences = (r : Reference) → IsReferenceInRange r → length (canonical_reference r) ≤ 1050

-- an atom is a part of a pid
atom_short : ShortPids → (a : List ℕ) → IsAtomText a → length (canonical_atom a) ≤ 1036
unfolding canonical_pid
atom_short pids a h =
    let p : Pid = record { node = a; creation = 0; id = 0; serial = 0 } in
    let k = pids p (record { node = h; id = omega arith; serial = omega arith; creation = omega arith }) in
    omega (arith, length-append (canonical_atom a) (big_bytes 4 0 ++ (big_bytes 4 0 ++ big_bytes 4 0)))

head_short : (n : ℕ) → length (canonical_head n) ≤ 5
unfolding canonical_head
head_short n = by _
  where
    by : (b : Bool) → length (cond b (104 ∷ n ∷ []) (105 ∷ big_bytes 4 n)) ≤ 5
    by true = omega arith
    by false = omega arith

-- the elements, of which each has at most so many bytes
abbrev AtMost : ℕ → Items → Type 0
AtMost n ts = length (canonical_items ts) ≤ n

one_more : (k n : ℕ) (t : Data) (ts : Items) → length (canonical_term t) ≤ k → AtMost n ts → AtMost (k + n) (item t ts)
one_more k n t ts a b = omega (arith, length-append (canonical_term t) (canonical_items ts))

row_short : (tag n : ℕ) (ts : Items) → ShortIntegers → AtMost n ts → length (canonical (tuple (item (int (pos tag)) ts))) ≤ 25 + n
row_short tag n ts ints h =
    let a = ints (pos tag) in
    let k = head_short (suc (count ts)) in
    omega (
      arith,
      length-append (canonical_head (suc (count ts))) (canonical_int (pos tag) ++ canonical_items ts),
      length-append (canonical_int (pos tag)) (canonical_items ts),
    )

module _ (ints : ShortIntegers) (pids : ShortPids) (references : ShortReferences) where
  -- two terms, of which each is a pid or an atom
  two_more : (n : ℕ) (t u : Data) (ts : Items) → length (canonical_term t) ≤ 1036 → length (canonical_term u) ≤ 1036 → AtMost n ts
      → AtMost (2072 + n) (item t (item u ts))
  two_more n t u ts h k a = let b = one_more 1036 (1036 + n) t (item u ts) h (one_more 1036 n u ts k a) in omega arith

  two_pids : (n : ℕ) (p q : Pid) (ts : Items) → IsPidInRange p → IsPidInRange q → AtMost n ts
      → AtMost (2072 + n) (item (pid p) (item (pid q) ts))
  two_pids n p q ts h k a = two_more n (pid p) (pid q) ts (pids p h) (pids q k) a

  exit_short : (tag : ℕ) (p q : Pid) (t : Data) → IsPidInRange p → IsPidInRange q → length (canonical t) ≤ 1000000
      → length (canonical (row tag (pid p ∷ pid q ∷ t ∷ []))) ≤ 1002097
  exit_short tag p q t h k fit =
      row_short tag 1002072 (item (pid p) (item (pid q) (item t no_items))) ints
      (two_pids 1000000 p q (item t no_items) h k (one_more 1000000 0 t no_items (omega arith) (omega arith)))

  monitor_short : (tag : ℕ) (t u : Data) (r : Reference) → length (canonical_term t) ≤ 1036 → length (canonical_term u) ≤ 1036
      → IsReferenceInRange r → length (canonical (row tag (t ∷ u ∷ reference r ∷ []))) ≤ 3147
  monitor_short tag t u r h k l =
      row_short tag 3122 (item t (item u (item (reference r) no_items))) ints
      (two_more 1050 t u (item (reference r) no_items) h k (one_more 1050 0 (reference r) no_items (references r l) (omega arith)))

  monitor_exit_short : (t u : Data) (r : Reference) (reason : Data) → length (canonical_term t) ≤ 1036 → length (canonical_term u) ≤ 1036
      → IsReferenceInRange r → length (canonical reason) ≤ 1000000
      → length (canonical (row 21 (t ∷ u ∷ reference r ∷ reason ∷ []))) ≤ 1003147
  monitor_exit_short t u r reason h k l fit =
      row_short 21 1003122 (item t (item u (item (reference r) (item reason no_items)))) ints
      (two_more 1001050 t u (item (reference r) (item reason no_items)) h k
      (one_more 1050 1000000 (reference r) (item reason no_items) (references r l)
      (one_more 1000000 0 reason no_items (omega arith) (omega arith))))

  unlink_short : (tag id : ℕ) (p q : Pid) → IsPidInRange p → IsPidInRange q
      → length (canonical (row tag (int (pos id) ∷ pid p ∷ pid q ∷ []))) ≤ 2116
  unlink_short tag id p q h k =
      row_short tag 2091 (item (int (pos id)) (item (pid p) (item (pid q) no_items))) ints
      (one_more 19 2072 (int (pos id)) (item (pid p) (item (pid q) no_items)) (ints (pos id)) (two_pids 0 p q no_items h k (omega arith)))

  payload_exit_short : (tag : ℕ) (p q : Pid) → IsPidInRange p → IsPidInRange q
      → length (canonical (row tag (pid p ∷ pid q ∷ []))) ≤ 2097
  payload_exit_short tag p q h k =
      row_short tag 2072 (item (pid p) (item (pid q) no_items)) ints (two_pids 0 p q no_items h k (omega arith))

  -- the control term of a signal that carries what fits, and its message
  text_short : (s : Signal) (payload : Bool) → Carries Fits s → IsInRange (control_in (atom []) s payload)
      → length (canonical_text s payload) < limit
  text_short (Link p q) w f h =
      let a = row_short 1 2072 (item (pid p) (item (pid q) no_items)) ints (two_pids 0 p q no_items h.1.1.0 h.1.1.1.0 (omega arith)) in
      omega (arith, length-append {A = ℕ} (canonical_control (Link p q) w) [])
  text_short (Send p t) w f h =
      let a = pids p h.1.1.1.0 in
      let b = ints (pos 2) in
      let k = head_short 3 in
      let l = f.2 in
      let n = send_len p t w in
      omega (arith, length-append (canonical_head 3) (canonical_int (pos 2)))
  text_short (RegSend p a t) w f h =
      let k = pids p h.1.1.0 in
      let m = atom_short pids a h.1.1.1.1.0 in
      let b = ints (pos 6) in
      let i = head_short 4 in
      let l = f.2 in
      let n = reg_send_len p a t w in
      omega (arith, length-append (canonical_head 4) (canonical_int (pos 6)))
  text_short (Exit p q t) false f h =
      let a = exit_short 3 p q t h.1.1.0 h.1.1.1.0 f.2 in omega (arith, length-append {A = ℕ} (canonical_control (Exit p q t) false) [])
  text_short (Exit p q t) true f h =
      let a = payload_exit_short 24 p q h.1.1.0 h.1.1.1.0 in
      let l = f.2 in
      omega (arith, length-append {A = ℕ} (canonical_control (Exit p q t) true) (canonical t))
  text_short (Exit2 p q t) false f h =
      let a = exit_short 8 p q t h.1.1.0 h.1.1.1.0 f.2 in omega (arith, length-append {A = ℕ} (canonical_control (Exit2 p q t) false) [])
  text_short (Exit2 p q t) true f h =
      let a = payload_exit_short 26 p q h.1.1.0 h.1.1.1.0 in
      let l = f.2 in
      omega (arith, length-append {A = ℕ} (canonical_control (Exit2 p q t) true) (canonical t))
  text_short (Monitor p q r) w f h =
      let a = monitor_short 19 (pid p) (pid q) r (pids p h.1.1.0) (pids q h.1.1.1.0) h.1.1.1.1.0 in
      omega (arith, length-append {A = ℕ} (canonical_control (Monitor p q r) w) [])
  text_short (MonitorName p n r) w f h =
      let a = monitor_short 19 (pid p) (atom n) r (pids p h.1.1.0) (atom_short pids n h.1.1.1.0) h.1.1.1.1.0 in
      omega (arith, length-append {A = ℕ} (canonical_control (MonitorName p n r) w) [])
  text_short (Demonitor p q r) w f h =
      let a = monitor_short 20 (pid p) (pid q) r (pids p h.1.1.0) (pids q h.1.1.1.0) h.1.1.1.1.0 in
      omega (arith, length-append {A = ℕ} (canonical_control (Demonitor p q r) w) [])
  text_short (DemonitorName p n r) w f h =
      let a = monitor_short 20 (pid p) (atom n) r (pids p h.1.1.0) (atom_short pids n h.1.1.1.0) h.1.1.1.1.0 in
      omega (arith, length-append {A = ℕ} (canonical_control (DemonitorName p n r) w) [])
  text_short (MonitorExit p q r t) false f h =
      let a = monitor_exit_short (pid p) (pid q) r t (pids p h.1.1.0) (pids q h.1.1.1.0) h.1.1.1.1.0 f.2 in
      omega (arith, length-append {A = ℕ} (canonical_control (MonitorExit p q r t) false) [])
  text_short (MonitorExit p q r t) true f h =
      let a = monitor_short 28 (pid p) (pid q) r (pids p h.1.1.0) (pids q h.1.1.1.0) h.1.1.1.1.0 in
      let l = f.2 in
      omega (arith, length-append {A = ℕ} (canonical_control (MonitorExit p q r t) true) (canonical t))
  text_short (MonitorNameExit n q r t) false f h =
      let a = monitor_exit_short (atom n) (pid q) r t (atom_short pids n h.1.1.0) (pids q h.1.1.1.0) h.1.1.1.1.0 f.2 in
      omega (arith, length-append {A = ℕ} (canonical_control (MonitorNameExit n q r t) false) [])
  text_short (MonitorNameExit n q r t) true f h =
      let a = monitor_short 28 (atom n) (pid q) r (atom_short pids n h.1.1.0) (pids q h.1.1.1.0) h.1.1.1.1.0 in
      let l = f.2 in
      omega (arith, length-append {A = ℕ} (canonical_control (MonitorNameExit n q r t) true) (canonical t))
  text_short (UnlinkId id p q) w f h =
      let a = unlink_short 35 id p q h.1.1.1.0 h.1.1.1.1.0 in omega (arith, length-append {A = ℕ} (canonical_control (UnlinkId id p q) w) [])
  text_short (UnlinkIdAck id p q) w f h =
      let a = unlink_short 36 id p q h.1.1.1.0 h.1.1.1.1.0 in
      omega (arith, length-append {A = ℕ} (canonical_control (UnlinkIdAck id p q) w) [])

-- ---- frames

abbrev pub CanonicalSpells : Type 0
CanonicalSpells = (t : Data) (levels : ℕ) → IsInRange t → (IsSpelling levels t (canonical t) ↔ (levels_of t ≤ levels))

few_levels : (s : Signal) (payload : Bool) → Carries Fits s → levels_of (control_in (atom []) s payload) ≤ 64
few_levels (Exit p q t) false f = let l = f.1 in omega arith
few_levels (Exit p q t) true f = omega arith
few_levels (Exit2 p q t) false f = let l = f.1 in omega arith
few_levels (Exit2 p q t) true f = omega arith
few_levels (MonitorExit p q r t) false f = let l = f.1 in omega arith
few_levels (MonitorExit p q r t) true f = omega arith
few_levels (MonitorNameExit n q r t) false f = let l = f.1 in omega arith
few_levels (MonitorNameExit n q r t) true f = omega arith
few_levels _ w f = omega arith

told : CanonicalSpells → (s : Signal) (payload : Bool) → Carries Fits s → SpellsMessage (message_in s payload) (canonical_message (message_in s payload))
told spells (Send p t) w f = (spells t 64 f.0).1 (let l = f.1 in omega arith)
told spells (RegSend p n t) w f = (spells t 64 f.0).1 (let l = f.1 in omega arith)
told spells (Exit p q t) true f = (spells t 64 f.0).1 (let l = f.1 in omega arith)
told spells (Exit2 p q t) true f = (spells t 64 f.0).1 (let l = f.1 in omega arith)
told spells (MonitorExit p q r t) true f = (spells t 64 f.0).1 (let l = f.1 in omega arith)
told spells (MonitorNameExit n q r t) true f = (spells t 64 f.0).1 (let l = f.1 in omega arith)
told spells (Exit p q t) false f = refl
told spells (Exit2 p q t) false f = refl
told spells (MonitorExit p q r t) false f = refl
told spells (MonitorNameExit n q r t) false f = refl
told spells s w f = refl

fit_of : (s : Signal) → Carries Fits s → Carries IsFit s
fit_of (Send p t) f = (f.1, f.2)
fit_of (RegSend p n t) f = (f.1, f.2)
fit_of (Exit p q t) f = (f.1, f.2)
fit_of (Exit2 p q t) f = (f.1, f.2)
fit_of (MonitorExit p q r t) f = (f.1, f.2)
fit_of (MonitorNameExit n q r t) f = (f.1, f.2)
fit_of s f = tt

pub canonical_framed : CanonicalSpells → ShortIntegers → ShortPids → ShortReferences → (s : Signal) (payload : Bool) → IsSendable s
    → IsInRange (control_in (atom []) s payload) → IsSignalFrame s (canonical_frame s payload)
canonical_framed spells ints pids references s payload u h =
    let k = text_short ints pids references s payload u.1 h in
    record {
      len = big_bytes 4 (suc (length (canonical_text s payload)));
      text = canonical_text s payload;
      is_text = record {
        payload = payload;
        unused = atom [];
        control = canonical_control s payload;
        message = canonical_message (message_in s payload);
        has_id = u.0;
        spelled = (spells (control_in (atom []) s payload) 64 h).1 (few_levels s payload u.1);
        told = told spells s payload u.1;
        bytes = refl;
      };
      fit = fit_of s u.1;
      number = four_bytes (suc (length (canonical_text s payload))) (omega arith);
      short = omega arith;
      bytes = refl;
    }
