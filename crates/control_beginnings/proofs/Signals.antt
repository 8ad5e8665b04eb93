-- A text of a signal begins where a row of the table begins.
use Rattle.std.proofs.Common.{◌≡◌, ℕ, zero, suc, ◌+◌, ◌<◌, ◌≤◌, Bool, List, [], ◌∷◌, ◌++◌, length, get_or, map, refl, sym, ap, subst, ◌∙◌, arith}
use Rattle.std.proofs.Common.{IsTrue, inl, inr}
use Rattle.std.proofs.lemmas.Bool.{cases_lt}
use Rattle.readers.specs.Places.{Begins}
use Rattle.erl_control.specs.declared.signal.Signal.{Signal}
use Rattle.erl_control.specs.Frame.{IsSignalText}
use Rattle.erl_term.proofs.Behind.{head_of}
use Rattle.control_beginnings.specs.declared.table.Row.{Row}
use Rattle.control_beginnings.specs.declared.parts.Kind.TheVariants.{Pid}
use Rattle.control_beginnings.specs.declared.parts.Part.TheVariants.{Of}
use Rattle.control_beginnings.specs.Parts.{Starts, IsRowText, Entry, IsEntry, no_entry, seen, AnyStarts, HaveTags}
use Rattle.control_beginnings.proofs.Headings.{head_some}
use Rattle.control_beginnings.proofs.Sequences.{some_tag, some_parts}
use Rattle.control_beginnings.proofs.Linked.{table, IsSignal, signal_in_table}
use Rattle.control_beginnings.proofs.Linked.{link_row, send_row, exit_row, reg_send_row, exit2_row, payload_exit_row, payload_exit2_row, unlink_row, unlink_ack_row}
use Rattle.control_beginnings.proofs.Monitors.{monitor_row, demonitor_row, monitor_exit_row, payload_monitor_exit_row}

-- none of the entries before a place begins with the bytes
abbrev pub NoneBefore : List Entry → ℕ → List ℕ → Type 0
NoneBefore es i bytes = (k : ℕ) → k < i → Starts (IsEntry (get_or es k no_entry)) bytes → ⊥

pub entry_of : (rows : List Row) (i : ℕ) (d : Row) → i < length rows → get_or (map seen rows) i no_entry ≡ seen (get_or rows i d)
entry_of [] i d lt = absurd (omega arith)
entry_of (row ∷ rows) zero d lt = refl
entry_of (row ∷ rows) (suc i) d lt = entry_of rows i d (omega arith)

abbrev pub RowStarts : Row → List ℕ → Type 0
RowStarts row bytes = Starts (IsRowText row.arity row.tag row.parts.now) bytes

pub one_more : (rows : List Row) (i : ℕ) (d : Row) (bytes : List ℕ) → i < length rows → NoneBefore (map seen rows) i bytes
    → (RowStarts (get_or rows i d) bytes → ⊥) → NoneBefore (map seen rows) (i + 1) bytes
one_more rows i d bytes lt before here = by
  where
    by : (k : ℕ) → k < i + 1 → Starts (IsEntry (get_or (map seen rows) k no_entry)) bytes → ⊥
    by k below s =
        elim (cases_lt k i) as (λ _. ⊥) [
          | inl less ↦ before k less s
          | inr more ↦
              let e : k ≡ i = omega arith in
              here (subst (λ (x : Entry). Starts (IsEntry x) bytes) (ap (λ (n : ℕ). get_or (map seen rows) n no_entry) e ∙ entry_of rows i d lt) s)
        ]

-- ---- each entry of the table

abbrev Each : (Entry → Type 0) → List Entry → Type 0
Each P [] = Unit {0}
Each P (e ∷ es) = P e × Each P es

each_at : (P : Entry → Type 0) (es : List Entry) (i : ℕ) → i < length es → Each P es → P (get_or es i no_entry)
each_at P [] i lt h = absurd (omega arith)
each_at P (e ∷ es) zero lt h = h.0
each_at P (e ∷ es) (suc i) lt h = each_at P es i (omega arith) h.1

abbrev AreSignals : Entry → Type 0
AreSignals e = (b : List ℕ) → IsEntry e b → IsSignal b

all_signals : Each AreSignals table
all_signals = (
  link_row,
  (
    send_row,
    (
      exit_row,
      (
        reg_send_row,
        (
          exit2_row,
          (
            monitor_row,
            (
              demonitor_row,
              (
                monitor_exit_row,
                (payload_exit_row, (payload_exit2_row, (payload_monitor_exit_row, (unlink_row, (unlink_ack_row, tt))))),
              ),
            ),
          ),
        ),
      ),
    ),
  ),
)

abbrev pub SignalBegins : List ℕ → Type 0
SignalBegins text = Begins (λ (s : Signal) b. IsSignalText s b) text

entry_begins : (i : ℕ) (text bytes : List ℕ) → i < 13 → text ≡ 131 ∷ bytes → Starts (IsEntry (get_or table i no_entry)) bytes
    → SignalBegins text
entry_begins i text bytes lt e (more, s) =
    let r = each_at AreSignals table i lt all_signals (bytes ++ more) s in
    record { value = r.0; more = more; is_text = subst (IsSignalText r.0) (sym (ap (λ (w : List ℕ). w ++ more) e)) r.1 }

pub length-map : (xs : List Row) → length (map seen xs) ≡ length xs
length-map [] = refl
length-map (x ∷ xs) = ap suc (length-map xs)

pub row_tag : (rows : List Row) (i : ℕ) (d : Row) → i < length rows → HaveTags rows → 1 ≤ (get_or rows i d).tag
row_tag rows i d lt h =
    let m = length-map rows in
    subst (λ (e : Entry). 1 ≤ e.1.0) (entry_of rows i d lt) (h i (omega arith))

pub one_starts : (rows : List Row) (i : ℕ) (d : Row) (bytes : List ℕ) → i < length rows → RowStarts (get_or rows i d) bytes
    → AnyStarts (map seen rows) bytes
one_starts rows i d bytes lt s =
    let m = length-map rows in
    (i, omega arith, subst (λ (e : Entry). Starts (IsEntry e) bytes) (sym (entry_of rows i d lt)) s)

pub none_starts : (rows : List Row) (i : ℕ) (bytes : List ℕ) → length rows ≤ i → NoneBefore (map seen rows) i bytes
    → AnyStarts (map seen rows) bytes → ⊥
none_starts rows i bytes le none (k, lt, s) = let m = length-map rows in none k (omega arith) s

pub table_tags : (k : ℕ) → k < length table → 1 ≤ (get_or table k no_entry).1.0
table_tags k lt =
    let le : (n : ℕ) → 1 ≤ suc n = λ n. omega arith in
    each_at (λ e. 1 ≤ e.1.0) table k lt
    (le 0, (le 1, (le 2, (le 5, (le 7, (le 18, (le 19, (le 20, (le 23, (le 25, (le 27, (le 34, (le 35, tt)))))))))))))

pub table_tells : (text bytes : List ℕ) (b : Bool) → text ≡ 131 ∷ bytes
    → (IsTrue b → AnyStarts table bytes) × (AnyStarts table bytes → IsTrue b)
    → (IsTrue b → SignalBegins text) × (SignalBegins text → IsTrue b)
table_tells text bytes b e h = (λ t. let s = h.0 t in entry_begins s.0 text bytes s.1 e s.2, λ s. h.1 (from s))
  where
    from : SignalBegins text → AnyStarts table bytes
    from s =
        let k = signal_in_table s.value (bytes ++ s.more) (subst (IsSignalText s.value) (ap (λ (w : List ℕ). w ++ s.more) e) s.is_text) in
        (k.0, k.1, (s.more, k.2))

-- ---- nothing, and another byte

some_link : (b : List ℕ) × IsRowText 3 1 (Of Pid ∷ Of Pid ∷ []) b
some_link =
    let h = head_some 3 (omega arith) in
    let t = some_tag 62 1 (omega arith) in
    let p = some_parts 62 (Of Pid ∷ Of Pid ∷ []) in (
      h.0 ++ (t.0 ++ p.0),
      record {
        head = head_of 3 63;
        front = h.0;
        elements = t.0 ++ p.0;
        is_arity = refl;
        is_head = record { k = 0; below = 63; text = h.0; is_text = (refl, h.1); depth = omega arith; bytes = refl };
        are_elements = (t.0, p.0, t.1, p.1, refl);
        bytes = refl;
      },
    )

pub nothing_begins : (text : List ℕ) → text ≡ [] → SignalBegins text
nothing_begins text e =
    let r = link_row some_link.0 some_link.1 in
    record {
      value = r.0;
      more = 131 ∷ some_link.0;
      is_text = subst (IsSignalText r.0) (sym (ap (λ (w : List ℕ). w ++ 131 ∷ some_link.0) e)) r.1;
    }
