-- Frames of links that are written.
use Rattle.std.proofs.Common.{◌≡◌, ◌≢◌, ℕ, suc, ◌+◌, ◌^◌, ◌<◌, ◌≤◌, false, List, [], ◌∷◌, ◌++◌, length, take, drop, refl, sym, ap, subst, ◌∙◌, arith, rules}
use Rattle.std.proofs.lemmas.List.{append-nil}
use Rattle.std.proofs.lemmas.Int.{ints}
use Rattle.std.specs.Prelude.{Bool, true, pos, FitsSigned}
use Rattle.std.specs.Int.{w128}
use Rattle.byteorder.specs.Endian.{big_bytes}
use Rattle.erl_term.specs.declared.term.Pid.{Pid}
use Rattle.erl_term.specs.Data.{atom}
use Rattle.erl_term.specs.Canonical.{canonical_head, canonical_int, canonical_pid, IsInRange, IsPidInRange}
use Rattle.erl_control.specs.declared.signal.Signal.{Signal as TheSignal}
use Rattle.erl_control.specs.declared.signal.Signal.TheVariants.{Link, UnlinkId, UnlinkIdAck}
use Rattle.erl_control.specs.declared.signal.Item.TheVariants.{Signal}
use Rattle.erl_control.specs.Control.{HasId, IsSendable, control_in}
use Rattle.erl_control.specs.Frame.{IsFramed}
use Rattle.erl_control.specs.Canonical.{canonical_frame, canonical_text}
use Rattle.c_library.specs.declared.writing.Pids.{Pids}
use Rattle.c_library.specs.Rows.{sender, receiver, link_text, unlink_text, row_frame, unlink_of, unlink_tag}
use Rattle.c_library.specs.Putting.{AreAtoms, IsPut}
use Rattle.c_library.specs.Written.{IsWritten}
use Rattle.c_library.proofs.Written.{both}

-- ---- the frames

link_text_is : (pids : Pids) → canonical_text (Link (sender pids) (receiver pids)) false ≡ link_text pids
unfolding canonical_head canonical_int
link_text_is pids =
    append-nil _ ∙ ap (λ (w : List ℕ). 131 ∷ 104 ∷ 3 ∷ 97 ∷ 1 ∷ (canonical_pid (sender pids) ++ w)) (append-nil (canonical_pid (receiver pids)))

pub link_frame : (pids : Pids) → canonical_frame (Link (sender pids) (receiver pids)) false ≡ row_frame (link_text pids)
link_frame pids = ap row_frame (link_text_is pids)

unlink_text_is : (id : ℕ) (pids : Pids) → canonical_text (UnlinkId id (sender pids) (receiver pids)) false ≡ unlink_text 35 id pids
unfolding canonical_head canonical_int
unlink_text_is id pids =
    append-nil _
    ∙ ap (λ (w : List ℕ). 131 ∷ 104 ∷ 4 ∷ 97 ∷ 35 ∷ (canonical_int (pos id) ++ (canonical_pid (sender pids) ++ w)))
    (append-nil (canonical_pid (receiver pids)))

ack_text_is : (id : ℕ) (pids : Pids) → canonical_text (UnlinkIdAck id (sender pids) (receiver pids)) false ≡ unlink_text 36 id pids
unfolding canonical_head canonical_int
ack_text_is id pids =
    append-nil _
    ∙ ap (λ (w : List ℕ). 131 ∷ 104 ∷ 4 ∷ 97 ∷ 36 ∷ (canonical_int (pos id) ++ (canonical_pid (sender pids) ++ w)))
    (append-nil (canonical_pid (receiver pids)))

pub unlink_frame : (ack : Bool) (id : ℕ) (pids : Pids) → canonical_frame (unlink_of ack id (sender pids) (receiver pids)) false
    ≡ row_frame (unlink_text (unlink_tag ack) id pids)
unlink_frame false id pids = ap row_frame (unlink_text_is id pids)
unlink_frame true id pids = ap row_frame (ack_text_is id pids)

pub unlink_written : (b c d len tag id : ℕ) (pids : Pids) (old one two new : List ℕ) → len ≡ length (unlink_text tag id pids)
    → IsWritten 0 (big_bytes 4 (suc len) ++ 112 ∷ 131 ∷ 104 ∷ 4 ∷ 97 ∷ tag ∷ []) old b one → IsWritten b (canonical_int (pos id)) one c two
    → IsWritten c (canonical_pid (sender pids) ++ canonical_pid (receiver pids)) two d new
    → IsWritten 0 (row_frame (unlink_text tag id pids)) old d new
unlink_written b c d len tag id pids old one two new e p q r =
    let both_pids : List ℕ = canonical_pid (sender pids) ++ canonical_pid (receiver pids) in
    subst (λ n. IsWritten 0 (big_bytes 4 (suc n) ++ 112 ∷ unlink_text tag id pids) old d new) e
    (both 0 b d (big_bytes 4 (suc len) ++ 112 ∷ 131 ∷ 104 ∷ 4 ∷ 97 ∷ tag ∷ []) (canonical_int (pos id) ++ both_pids) old one new p
    (both b c d (canonical_int (pos id)) both_pids one two new q r))

pub link_written : (b d len : ℕ) (pids : Pids) (old one new : List ℕ) → len ≡ length (link_text pids)
    → IsWritten 0 (big_bytes 4 (suc len) ++ 112 ∷ 131 ∷ 104 ∷ 3 ∷ 97 ∷ 1 ∷ []) old b one
    → IsWritten b (canonical_pid (sender pids) ++ canonical_pid (receiver pids)) one d new
    → IsWritten 0 (row_frame (link_text pids)) old d new
link_written b d len pids old one new e p q =
    subst (λ n. IsWritten 0 (big_bytes 4 (suc n) ++ 112 ∷ link_text pids) old d new) e
    (both 0 b d (big_bytes 4 (suc len) ++ 112 ∷ 131 ∷ 104 ∷ 3 ∷ 97 ∷ 1 ∷ []) (canonical_pid (sender pids) ++ canonical_pid (receiver pids))
    old one new p q)

one_fits : FitsSigned w128 (pos 1)
one_fits = search (rules, ints)

row_fits : (n : ℕ) → n < 2 ^ 64 → FitsSigned w128 (pos n)
row_fits n lt = search (rules, ints)

pub link_in_range : (p q : Pid) → IsPidInRange p → IsPidInRange q → IsInRange (control_in (atom []) (Link p q) false)
link_in_range p q a b = (omega arith, (one_fits, (a, (b, tt))))

pub unlink_in_range : (ack : Bool) (id : ℕ) (p q : Pid) → id < 2 ^ 64 → IsPidInRange p → IsPidInRange q
    → IsInRange (control_in (atom []) (unlink_of ack id p q) false)
unlink_in_range false id p q lt a b = (omega arith, (row_fits 35 (omega arith), (row_fits id lt, (a, (b, tt)))))
unlink_in_range true id p q lt a b = (omega arith, (row_fits 36 (omega arith), (row_fits id lt, (a, (b, tt)))))

-- an Id that isn't 0 can be sent
pub has_id : (ack : Bool) (id : ℕ) (p q : Pid) → id < 2 ^ 64 → id ≢ 0 → HasId (unlink_of ack id p q)
has_id false id p q lt h = (omega (arith, h), lt)
has_id true id p q lt h = (omega (arith, h), lt)

pub no_id : (ack : Bool) (id : ℕ) (p q : Pid) → id ≡ 0 → ¬ HasId (unlink_of ack id p q)
no_id false id p q e h = omega (arith, h.0)
no_id true id p q e h = omega (arith, h.0)

pub sendable : (ack : Bool) (id : ℕ) (p q : Pid) → HasId (unlink_of ack id p q) → IsSendable (unlink_of ack id p q)
sendable false id p q h = (h, tt)
sendable true id p q h = (h, tt)

pub link_size : (pids : Pids) (n : ℕ) → n ≡ length (link_text pids) → n + 5 ≡ length (canonical_frame (Link (sender pids) (receiver pids)) false)
link_size pids n e = let k = ap length (link_frame pids) in omega arith

pub unlink_size : (ack : Bool) (id : ℕ) (pids : Pids) (n : ℕ) → n ≡ length (unlink_text (unlink_tag ack) id pids)
    → n + 5 ≡ length (canonical_frame (unlink_of ack id (sender pids) (receiver pids)) false)
unlink_size ack id pids n e = let k = ap length (unlink_frame ack id pids) in omega arith

-- ---- how a call ends

module _ (from_node to_node : List ℕ) (s : TheSignal) (old : List ℕ) where
  pub put_bad_node : ¬ AreAtoms from_node to_node → IsPut from_node to_node s old 2 0 old
  put_bad_node never = record {
    bad_node = λ _. (refl, refl, refl);
    bad_id = λ a. absurd (never a);
    size_is = λ a. absurd (never a);
    no_room = λ a. absurd (never a);
    written = λ a. absurd (never a);
    framed = λ e. absurd (omega arith);
  }

  pub put_bad_id : AreAtoms from_node to_node → ¬ HasId s → IsPut from_node to_node s old 7 0 old
  put_bad_id atoms never = record {
    bad_node = λ b. absurd (b atoms);
    bad_id = λ _ _. (refl, refl, refl);
    size_is = λ _ i. absurd (never i);
    no_room = λ _ i. absurd (never i);
    written = λ _ i. absurd (never i);
    framed = λ e. absurd (omega arith);
  }

  pub put_no_room : (size : ℕ) → AreAtoms from_node to_node → HasId s → size ≡ length (canonical_frame s false) → length old < size
      → IsPut from_node to_node s old 100 size old
  put_no_room size atoms id e lt = record {
    bad_node = λ b. absurd (b atoms);
    bad_id = λ _ never. absurd (never id);
    size_is = λ _ _. e;
    no_room = λ _ _ _. (refl, refl);
    written = λ _ _ le. absurd (omega arith);
    framed = λ e. absurd (omega arith);
  }

  pub put_written : (size stop : ℕ) (new : List ℕ) → AreAtoms from_node to_node → HasId s → size ≡ length (canonical_frame s false)
      → size ≤ length old → IsWritten 0 (canonical_frame s false) old stop new → IsFramed (Signal s) (canonical_frame s false)
      → IsPut from_node to_node s old 0 size new
  put_written size stop new atoms id e le w framed =
      let stop_is = w.is_stop in
      let same : stop ≡ size = omega arith in
      record {
        bad_node = λ b. absurd (b atoms);
        bad_id = λ _ never. absurd (never id);
        size_is = λ _ _. e;
        no_room = λ _ _ lt. absurd (omega arith);
        written = λ _ _ _. (refl, ap (λ n. take n new) (sym same) ∙ w.front, ap (λ n. drop n new) (sym same) ∙ w.back ∙ ap (λ n. drop n old) same);
        framed = λ _. framed;
      }
