-- The places of the parts, from where the elements of a control term end.
use Rattle.std.proofs.Common.{◌≡◌, ℕ, suc, ◌+◌, ◌-◌, ◌≤◌, Bool, true, false, List, ◌∷◌, ◌++◌, length, take, drop, refl, sym, ap, subst, ◌∙◌, append_assoc, arith, ◌<◌, ◌^◌}
use Rattle.std.specs.Prelude.{pos}
use Rattle.std.proofs.lemmas.List.{length-append, length-drop, drop-drop, take_all}
use Rattle.std.proofs.Math.Seq.{take-append_seam, drop-append_seam, drop-append-add}
use Rattle.erl_term.specs.Data.{Data, int, atom, pid, reference, Items, no_items, item, count}
use Rattle.erl_term.specs.Spelling.{SpellAll, Spells, IsSpelling}
use Rattle.erl_term.proofs.Behind.{head_of}
use Rattle.erl_control.specs.declared.signal.Signal.{Signal}
use Rattle.erl_control.specs.declared.signal.Signal.TheVariants.{Link, Send, RegSend, Exit, Exit2, Monitor, Demonitor}
use Rattle.erl_control.specs.declared.signal.Signal.TheVariants.{MonitorExit, UnlinkId, UnlinkIdAck}
use Rattle.erl_control.specs.declared.signal.Signal.TheVariants.{MonitorName, DemonitorName, MonitorNameExit}
use Rattle.erl_control.specs.Control.{message_in}
use Rattle.erl_control.specs.Frame.{SpellsMessage, IsSignalFrame}
use Rattle.erl_control.specs.Reading.{IsRowHead, tag_of}
use Rattle.erl_control.proofs.Table.{fields_of, control_row}
use Rattle.c_library.specs.declared.elements.Ends.{Ends}
use Rattle.c_library.specs.Elements.{IsEnd}
use Rattle.c_library.specs.Parts.{Stands, ArePlaces, bytes_at}
use Rattle.c_library.specs.Places.{from_to, message_at, parts_by}

-- the parts of a signal's frame behind its length and the byte 112
pub record FrameRow (s : Signal) (frame : List ℕ) : Type 0 where
  pub payload : Bool
  pub unused : Data
  pub levels : ℕ
  pub arity : ℕ
  pub front : List ℕ
  pub fields : List ℕ
  pub message : List ℕ
  pub is_front : IsRowHead (head_of arity levels, tag_of s payload) front
  pub are_fields : SpellAll (Spells levels) (fields_of unused s payload) fields
  pub told : SpellsMessage (message_in s payload) message
  pub parts : drop 5 frame ≡ front ++ (fields ++ message)

pub frame_row : (s : Signal) (frame : List ℕ) → IsSignalFrame s frame → FrameRow s frame
frame_row s frame i =
    let t = i.is_text in
    let row = control_row t.unused s t.payload t.control t.spelled in
    let five : length i.len + 1 ≡ 5 = (let l = i.number.len in omega arith) in
    let text : drop 5 frame ≡ i.text =
    ap (drop 5) i.bytes ∙ ap (λ n. drop n (i.len ++ 112 ∷ i.text)) (sym five) ∙ drop-append-add i.len (112 ∷ i.text) 1 in
    record {
      payload = t.payload;
      unused = t.unused;
      levels = row.levels;
      arity = suc (count (fields_of t.unused s t.payload));
      front = row.front;
      fields = row.fields;
      message = t.message;
      is_front = row.is_front;
      are_fields = row.are_fields;
      told = t.told;
      parts = text ∙ t.bytes ∙ ap (λ (w : List ℕ). w ++ t.message) row.parts ∙ append_assoc row.front row.fields t.message;
    }

-- the back of a list is left where it begins
pub drop_behind : (all front back : List ℕ) → all ≡ front ++ back → drop (length all - length back) all ≡ back
drop_behind all front back e =
    let total : length all ≡ length front + length back = ap length e ∙ length-append front back in
    let n : length all - length back ≡ length front = omega arith in
    ap (λ k. drop k all) n ∙ ap (drop (length front)) e ∙ drop-append_seam front back

module _ (levels : ℕ) (frame : List ℕ) where
  record Next (t : Data) (ts : Items) (start stop : ℕ) (message : List ℕ) : Type 0 where
    stands : Stands frame t (from_to start stop)
    fields : List ℕ
    are_fields : SpellAll (Spells levels) ts fields
    left : drop stop frame ≡ fields ++ message

  -- an element, and those behind it
  next : (t : Data) (ts : Items) (start stop : ℕ) (fields message : List ℕ) → IsEnd levels frame start stop
      → SpellAll (Spells levels) (item t ts) fields → drop start frame ≡ fields ++ message → Next t ts start stop message
  next t ts start stop fields message i s e =
      let split : drop start frame ≡ s.0 ++ (s.1 ++ message) =
      e ∙ ap (λ (w : List ℕ). w ++ message) s.4 ∙ append_assoc s.0 s.1 message in
      let is_end = i.is_end t s.0 (s.1 ++ message) s.2 split in
      let count : stop - start ≡ length s.0 = omega arith in
      let later = i.later in
      let within = i.within in
      let text : bytes_at (from_to start stop) frame ≡ s.0 =
      ap (λ n. take n (drop start frame)) count ∙ ap (take (length s.0)) split ∙ take-append_seam s.0 (s.1 ++ message) in
      record {
        stands = record { levels = levels; within = omega arith; spelled = subst (Spells levels t) (sym text) s.2 };
        fields = s.1;
        are_fields = s.3;
        left = ap (λ n. drop n frame) is_end ∙ sym (drop-drop (length s.0) start frame) ∙ ap (drop (length s.0)) split
            ∙ drop-append_seam s.0 (s.1 ++ message);
      }

  -- the message behind the control term
  behind : (t : Data) (stop : ℕ) (message : List ℕ) → stop ≤ length frame → IsSpelling 64 t message → drop stop frame ≡ message
      → Stands frame t (message_at stop (length frame))
  behind t stop message within s e =
      let at : drop (stop + 1) frame ≡ s.term = sym (drop-drop 1 stop frame) ∙ ap (drop 1) (e ∙ s.bytes) in
      let size : length frame - stop ≡ suc (length s.term) = sym (length-drop stop frame) ∙ ap length (e ∙ s.bytes) in
      let count : length frame - (stop + 1) ≡ length s.term = omega arith in
      let text : bytes_at (message_at stop (length frame)) frame ≡ s.term =
      ap (λ n. take n (drop (stop + 1) frame)) count ∙ ap (take (length s.term)) at ∙ take_all (length s.term) s.term (omega arith) in
      record { levels = 64; within = omega arith; spelled = subst (Spells 64 t) (sym text) s.spelled }

  -- nothing is left of the elements
  all_read : (stop : ℕ) (fields message : List ℕ) → SpellAll (Spells levels) no_items fields → drop stop frame ≡ fields ++ message
      → drop stop frame ≡ message
  all_read stop fields message none e = e ∙ ap (λ (w : List ℕ). w ++ message) none

  module _ (e : Ends) (one : IsEnd levels frame e.start e.first) (two : IsEnd levels frame e.first e.second)
      (three : IsEnd levels frame e.second e.third) (four : IsEnd levels frame e.third e.fourth) where
    record Two (t u : Data) (message : List ℕ) : Type 0 where
      first : Stands frame t (from_to e.start e.first)
      second : Stands frame u (from_to e.first e.second)
      left : drop e.second frame ≡ message

    two_of : (t u : Data) (fields message : List ℕ) → SpellAll (Spells levels) (item t (item u no_items)) fields
        → drop e.start frame ≡ fields ++ message → Two t u message
    two_of t u fields message s d =
        let a = next t (item u no_items) e.start e.first fields message one s d in
        let b = next u no_items e.first e.second a.fields message two a.are_fields a.left in
        record { first = a.stands; second = b.stands; left = all_read e.second b.fields message b.are_fields b.left }

    record Three (t u v : Data) (message : List ℕ) : Type 0 where
      first : Stands frame t (from_to e.start e.first)
      second : Stands frame u (from_to e.first e.second)
      third : Stands frame v (from_to e.second e.third)
      left : drop e.third frame ≡ message

    three_of : (t u v : Data) (fields message : List ℕ) → SpellAll (Spells levels) (item t (item u (item v no_items))) fields
        → drop e.start frame ≡ fields ++ message → Three t u v message
    three_of t u v fields message s d =
        let a = next t (item u (item v no_items)) e.start e.first fields message one s d in
        let b = next u (item v no_items) e.first e.second a.fields message two a.are_fields a.left in
        let c = next v no_items e.second e.third b.fields message three b.are_fields b.left in
        record {
          first = a.stands;
          second = b.stands;
          third = c.stands;
          left = all_read e.third c.fields message c.are_fields c.left;
        }

    record Four (t u v w : Data) : Type 0 where
      first : Stands frame t (from_to e.start e.first)
      second : Stands frame u (from_to e.first e.second)
      third : Stands frame v (from_to e.second e.third)
      fourth : Stands frame w (from_to e.third e.fourth)

    four_of : (t u v w : Data) (fields message : List ℕ)
        → SpellAll (Spells levels) (item t (item u (item v (item w no_items)))) fields → drop e.start frame ≡ fields ++ message
        → Four t u v w
    four_of t u v w fields message s d =
        let a = next t (item u (item v (item w no_items))) e.start e.first fields message one s d in
        let b = next u (item v (item w no_items)) e.first e.second a.fields message two a.are_fields a.left in
        let c = next v (item w no_items) e.second e.third b.fields message three b.are_fields b.left in
        let f = next w no_items e.third e.fourth c.fields message four c.are_fields c.left in
        record { first = a.stands; second = b.stands; third = c.stands; fourth = f.stands }

    pub places : (unused : Data) (s : Signal) (payload : Bool) (fields message : List ℕ)
        → SpellAll (Spells levels) (fields_of unused s payload) fields → SpellsMessage (message_in s payload) message
        → drop e.start frame ≡ fields ++ message → ArePlaces frame s (parts_by (tag_of s payload) e (length frame))
    places unused (Link p q) y fields message s m d =
        let k = two_of (pid p) (pid q) fields message s d in
        record { from = k.first; to = k.second; reference = refl; payload = refl }
    places unused (Send p t) y fields message s m d =
        let k = two_of unused (pid p) fields message s d in
        record { from = refl; to = k.second; reference = refl; payload = behind t e.second message two.within m k.left }
    places unused (RegSend p n t) y fields message s m d =
        let k = three_of (pid p) unused (atom n) fields message s d in
        record { from = k.first; to = k.third; reference = refl; payload = behind t e.third message three.within m k.left }
    places unused (Exit p q t) false fields message s m d =
        let k = three_of (pid p) (pid q) t fields message s d in
        record { from = k.first; to = k.second; reference = refl; payload = k.third }
    places unused (Exit p q t) true fields message s m d =
        let k = two_of (pid p) (pid q) fields message s d in
        record { from = k.first; to = k.second; reference = refl; payload = behind t e.second message two.within m k.left }
    places unused (Exit2 p q t) false fields message s m d =
        let k = three_of (pid p) (pid q) t fields message s d in
        record { from = k.first; to = k.second; reference = refl; payload = k.third }
    places unused (Exit2 p q t) true fields message s m d =
        let k = two_of (pid p) (pid q) fields message s d in
        record { from = k.first; to = k.second; reference = refl; payload = behind t e.second message two.within m k.left }
    places unused (Monitor p q r) y fields message s m d =
        let k = three_of (pid p) (pid q) (reference r) fields message s d in
        record { from = k.first; to = k.second; reference = k.third; payload = refl }
    places unused (MonitorName p n r) y fields message s m d =
        let k = three_of (pid p) (atom n) (reference r) fields message s d in
        record { from = k.first; to = k.second; reference = k.third; payload = refl }
    places unused (Demonitor p q r) y fields message s m d =
        let k = three_of (pid p) (pid q) (reference r) fields message s d in
        record { from = k.first; to = k.second; reference = k.third; payload = refl }
    places unused (DemonitorName p n r) y fields message s m d =
        let k = three_of (pid p) (atom n) (reference r) fields message s d in
        record { from = k.first; to = k.second; reference = k.third; payload = refl }
    places unused (MonitorExit p q r t) false fields message s m d =
        let k = four_of (pid p) (pid q) (reference r) t fields message s d in
        record { from = k.first; to = k.second; reference = k.third; payload = k.fourth }
    places unused (MonitorExit p q r t) true fields message s m d =
        let k = three_of (pid p) (pid q) (reference r) fields message s d in
        record { from = k.first; to = k.second; reference = k.third; payload = behind t e.third message three.within m k.left }
    places unused (MonitorNameExit n q r t) false fields message s m d =
        let k = four_of (atom n) (pid q) (reference r) t fields message s d in
        record { from = k.first; to = k.second; reference = k.third; payload = k.fourth }
    places unused (MonitorNameExit n q r t) true fields message s m d =
        let k = three_of (atom n) (pid q) (reference r) fields message s d in
        record { from = k.first; to = k.second; reference = k.third; payload = behind t e.third message three.within m k.left }
    places unused (UnlinkId id p q) y fields message s m d =
        let k = three_of (int (pos id)) (pid p) (pid q) fields message s d in
        record { from = k.second; to = k.third; reference = refl; payload = refl }
    places unused (UnlinkIdAck id p q) y fields message s m d =
        let k = three_of (int (pos id)) (pid p) (pid q) fields message s d in
        record { from = k.second; to = k.third; reference = refl; payload = refl }

-- the number of an operation is small
pub small_tag : (s : Signal) (payload : Bool) → tag_of s payload < 2 ^ 32
small_tag (Exit p q t) false = omega arith
small_tag (Exit p q t) true = omega arith
small_tag (Exit2 p q t) false = omega arith
small_tag (Exit2 p q t) true = omega arith
small_tag (MonitorExit p q r t) false = omega arith
small_tag (MonitorExit p q r t) true = omega arith
small_tag (MonitorNameExit n q r t) false = omega arith
small_tag (MonitorNameExit n q r t) true = omega arith
small_tag _ payload = omega arith
