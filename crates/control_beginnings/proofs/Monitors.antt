-- The rows of monitors, of which one end can stand by its registered name.
use Rattle.std.proofs.Common.{◌≡◌, ℕ, true, false, List, [], ◌∷◌, refl, arith, inl, inr, ◌⊎◌}
use Rattle.std.specs.Prelude.{pos}
use Rattle.erl_term.specs.Data.{Data, int, atom, pid, reference}
use Rattle.erl_term.specs.declared.term.Pid.{Pid as ThePid}
use Rattle.erl_control.specs.declared.signal.Signal.TheVariants.{Monitor, MonitorName, Demonitor, DemonitorName, MonitorExit, MonitorNameExit}
use Rattle.control_beginnings.specs.declared.parts.Kind.TheVariants.{Pid, Target, Reference}
use Rattle.control_beginnings.specs.declared.parts.Part.TheVariants.{Of, Term, Message}
use Rattle.control_beginnings.specs.Parts.{IsRowText}
use Rattle.control_beginnings.proofs.Kindred.{as_pid, as_reference}
use Rattle.control_beginnings.proofs.Matching.{opened, closed, message_of, three, four}
use Rattle.control_beginnings.proofs.Linked.{IsSignal, as_target, three_is, four_is}

abbrev ByPidOrName : Data → Type 0
ByPidOrName t = ((p : ThePid) × (t ≡ pid p)) ⊎ ((a : List ℕ) × (t ≡ atom a))

pub monitor_row : (b : List ℕ) → IsRowText 4 19 (Of Pid ∷ Of Target ∷ Of Reference ∷ []) b → IsSignal b
monitor_row b row =
    let o = opened 4 19 (Of Pid ∷ Of Target ∷ Of Reference ∷ []) [] b tt row in
    let w = three (Of Pid) (Of Target) (Of Reference) o.split.items o.split.fit in
    let p = as_pid w.t w.first in
    let r = as_reference w.v w.third in
    elim (as_target w.u w.second) as (λ _. IsSignal b) [
      | inl q ↦ (
        Monitor p.0 q.0 r.0,
        closed (int (pos 0)) (Monitor p.0 q.0 r.0) false (Of Pid ∷ Of Target ∷ Of Reference ∷ []) [] b o (omega arith) tt
            (three_is w.t w.u w.v (pid p.0) (pid q.0) (reference r.0) o.split.items p.1 q.1 r.1 w.is) o.split.are_more,
      )
      | inr n ↦ (
        MonitorName p.0 n.0 r.0,
        closed (int (pos 0)) (MonitorName p.0 n.0 r.0) false (Of Pid ∷ Of Target ∷ Of Reference ∷ []) [] b o (omega arith) tt
            (three_is w.t w.u w.v (pid p.0) (atom n.0) (reference r.0) o.split.items p.1 n.1 r.1 w.is) o.split.are_more,
      )
    ]

pub demonitor_row : (b : List ℕ) → IsRowText 4 20 (Of Pid ∷ Of Target ∷ Of Reference ∷ []) b → IsSignal b
demonitor_row b row =
    let o = opened 4 20 (Of Pid ∷ Of Target ∷ Of Reference ∷ []) [] b tt row in
    let w = three (Of Pid) (Of Target) (Of Reference) o.split.items o.split.fit in
    let p = as_pid w.t w.first in
    let r = as_reference w.v w.third in
    elim (as_target w.u w.second) as (λ _. IsSignal b) [
      | inl q ↦ (
        Demonitor p.0 q.0 r.0,
        closed (int (pos 0)) (Demonitor p.0 q.0 r.0) false (Of Pid ∷ Of Target ∷ Of Reference ∷ []) [] b o (omega arith) tt
            (three_is w.t w.u w.v (pid p.0) (pid q.0) (reference r.0) o.split.items p.1 q.1 r.1 w.is) o.split.are_more,
      )
      | inr n ↦ (
        DemonitorName p.0 n.0 r.0,
        closed (int (pos 0)) (DemonitorName p.0 n.0 r.0) false (Of Pid ∷ Of Target ∷ Of Reference ∷ []) [] b o (omega arith) tt
            (three_is w.t w.u w.v (pid p.0) (atom n.0) (reference r.0) o.split.items p.1 n.1 r.1 w.is) o.split.are_more,
      )
    ]

pub monitor_exit_row : (b : List ℕ) → IsRowText 5 21 (Of Target ∷ Of Pid ∷ Of Reference ∷ Term ∷ []) b → IsSignal b
monitor_exit_row b row =
    let o = opened 5 21 (Of Target ∷ Of Pid ∷ Of Reference ∷ Term ∷ []) [] b tt row in
    let w = four (Of Target) (Of Pid) (Of Reference) Term o.split.items o.split.fit in
    let q = as_pid w.u w.second in
    let r = as_reference w.v w.third in
    elim (as_target w.t w.first) as (λ _. IsSignal b) [
      | inl p ↦ (
        MonitorExit p.0 q.0 r.0 w.w,
        closed (int (pos 0)) (MonitorExit p.0 q.0 r.0 w.w) false (Of Target ∷ Of Pid ∷ Of Reference ∷ Term ∷ []) [] b o (omega arith) tt
            (four_is w.t w.u w.v w.w (pid p.0) (pid q.0) (reference r.0) w.w o.split.items p.1 q.1 r.1 refl w.is) o.split.are_more,
      )
      | inr n ↦ (
        MonitorNameExit n.0 q.0 r.0 w.w,
        closed (int (pos 0)) (MonitorNameExit n.0 q.0 r.0 w.w) false (Of Target ∷ Of Pid ∷ Of Reference ∷ Term ∷ []) [] b o (omega arith) tt
            (four_is w.t w.u w.v w.w (atom n.0) (pid q.0) (reference r.0) w.w o.split.items n.1 q.1 r.1 refl w.is) o.split.are_more,
      )
    ]

pub payload_monitor_exit_row : (b : List ℕ) → IsRowText 4 28 (Of Target ∷ Of Pid ∷ Of Reference ∷ Message ∷ []) b → IsSignal b
payload_monitor_exit_row b row =
    let o = opened 4 28 (Of Target ∷ Of Pid ∷ Of Reference ∷ []) (Message ∷ []) b tt row in
    let w = three (Of Target) (Of Pid) (Of Reference) o.split.items o.split.fit in
    let q = as_pid w.u w.second in
    let r = as_reference w.v w.third in
    let m = message_of o.levels o.split.back o.split.are_more in
    elim (as_target w.t w.first) as (λ _. IsSignal b) [
      | inl p ↦ (
        MonitorExit p.0 q.0 r.0 m.0,
        closed (int (pos 0)) (MonitorExit p.0 q.0 r.0 m.0) true (Of Target ∷ Of Pid ∷ Of Reference ∷ []) (Message ∷ []) b o (omega arith) tt
            (three_is w.t w.u w.v (pid p.0) (pid q.0) (reference r.0) o.split.items p.1 q.1 r.1 w.is) m.1,
      )
      | inr n ↦ (
        MonitorNameExit n.0 q.0 r.0 m.0,
        closed (int (pos 0)) (MonitorNameExit n.0 q.0 r.0 m.0) true (Of Target ∷ Of Pid ∷ Of Reference ∷ []) (Message ∷ []) b o (omega arith) tt
            (three_is w.t w.u w.v (atom n.0) (pid q.0) (reference r.0) o.split.items n.1 q.1 r.1 w.is) m.1,
      )
    ]
