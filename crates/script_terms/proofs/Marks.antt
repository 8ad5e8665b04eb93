-- Marks in a row, as a loop reads them.
use Rattle.std.proofs.Common.{◌≡◌, ℕ, suc, ◌-◌, ◌+◌, ◌≤◌, ◌<◌, List, Result, Ok, Err, refl, sym, ◌∙◌, arith}
use Rattle.script_terms.specs.declared.fault.TermFault.{TermFault}
use Rattle.script_terms.specs.Reading.{mark_at}
use Rattle.script_terms.specs.Steps.{marks_at}

pub marks_more : (mark n i m : ℕ) (rest after : List ℕ) (total : Result (List ℕ) TermFault) → i < n
    → mark_at mark rest ≡ Ok (m, after) → marks_at mark (n - i) rest ≡ total → marks_at mark (n - (i + 1)) after ≡ total
unfolding marks_at
marks_more mark n i m rest after total lt h so_far =
    let e : n - i ≡ suc (n - (i + 1)) = omega arith in
    let s : marks_at mark (n - i) rest ≡ marks_at mark (n - (i + 1)) after = rw (e, h) refl in
    sym s ∙ so_far

pub marks_bad : (mark n i : ℕ) (rest : List ℕ) (f : TermFault) (total : Result (List ℕ) TermFault) → i < n
    → mark_at mark rest ≡ Err f → marks_at mark (n - i) rest ≡ total → total ≡ Err f
unfolding marks_at
marks_bad mark n i rest f total lt h so_far =
    let e : n - i ≡ suc (n - (i + 1)) = omega arith in
    let s : marks_at mark (n - i) rest ≡ Err f = rw (e, h) refl in
    sym so_far ∙ s

pub marks_done : (mark n i : ℕ) (rest : List ℕ) (total : Result (List ℕ) TermFault) → n ≤ i
    → marks_at mark (n - i) rest ≡ total → total ≡ Ok rest
unfolding marks_at
marks_done mark n i rest total le so_far =
    let e : n - i ≡ 0 = omega arith in
    let s : marks_at mark (n - i) rest ≡ Ok rest = rw e refl in
    sym so_far ∙ s
