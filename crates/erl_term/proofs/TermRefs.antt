-- A term that lies in bytes, as it is read, and what its canonical spelling takes.
use Rattle.std.proofs.Common.{◌≡◌, ℕ, zero, suc, ◌<◌, ◌≤◌, ltb, leb, List, ◌++◌, length, Ok, Err, Some, None, Bor, ◌^◌, sym, ap, ◌∙◌, arith}
use Rattle.std.specs.Prelude.{IsTrue, ◌↔◌}
use Rattle.std.proofs.lemmas.Bool.{ltb-true, lt-ltb, leb-true}
use Rattle.erl_term.specs.declared.error.TermError.{TermError}
use Rattle.erl_term.specs.declared.size.Size.{Size}
use Rattle.erl_term.specs.declared.size.Measure.{Measure}
use Rattle.erl_term.specs.Numbers.{AreBytes}
use Rattle.erl_term.specs.Data.{Data}
use Rattle.erl_term.specs.Spelling.{Spells}
use Rattle.erl_term.specs.Canonical.{canonical, levels_of}
use Rattle.erl_term.specs.Parts.{ReadsFront}
use Rattle.erl_term.specs.Reading.{Read, read_term}
use Rattle.erl_term.specs.Size.{size_of, measure_of, seen_by}
use Rattle.erl_term.specs.TermAt.{data_in, size_in}
use Rattle.erl_term.proofs.Base.{ok_is}
use Rattle.erl_term.proofs.Table.{Reads-term}
use Rattle.erl_term.proofs.PartReaders.{front_some, front_none}
use Rattle.erl_term.proofs.Sizes.{size_parts}
use Rattle.erl_term.proofs.Measured.{seen_ok, seen_err}

again : (levels : ℕ) (bytes : List ℕ) (t : Data) (text rest : List ℕ) → Spells levels t text → bytes ≡ text ++ rest
    → read_term levels bytes ≡ Ok (t, rest)
again zero bytes t text rest s e = absurd s
again (suc below) bytes t text rest s e = ap (read_term (suc below)) e ∙ (Reads-term (suc below) (omega arith)).again t text rest s

term_some : (levels : ℕ) (bytes : List ℕ) (x : Data × Bor (List ℕ)) → AreBytes bytes
    → read_term levels bytes ≡ Ok (x.0, x.1.now) → ReadsFront (Spells levels) bytes (Some x)
unfolding read_term
term_some zero bytes x h e = absurd cc
term_some (suc below) bytes x h e =
    front_some (λ (t : Data). t) (Spells (suc below)) (read_term (suc below) bytes) bytes x (λ a b q. q) e
    ((Reads-term (suc below) (omega arith)).takes bytes x.0 x.1.now h e) (again (suc below) bytes)

-- what was measured is the term that is read
pub measured_front : (levels : ℕ) (bytes : List ℕ) (m : Measure) (rest : Bor (List ℕ)) → AreBytes bytes
    → seen_by measure_of (read_term levels bytes) ≡ Ok (m, rest.now)
    → ReadsFront (Spells levels) bytes (Some (data_in (read_term levels bytes), rest))
measured_front levels bytes m rest h e =
    let s = seen_ok measure_of (read_term levels bytes) m rest.now e in
    let same : data_in (read_term levels bytes) ≡ s.value = ap data_in s.is_read in
    term_some levels bytes (data_in (read_term levels bytes), rest) h (s.is_read ∙ ap (λ (t : Data). Ok (t, rest.now)) (sym same))

pub measured_none : (levels : ℕ) (bytes : List ℕ) (d : TermError) → seen_by measure_of (read_term levels bytes) ≡ Err d
    → ReadsFront (Spells levels) bytes None
measured_none levels bytes d e =
    front_none (λ (t : Data). t) (Spells levels) (read_term levels bytes) bytes d
    (seen_err measure_of (read_term levels bytes) d e) (again levels bytes)

pub measured_size : (read : Read Data) (m : Measure) (rest : List ℕ) (size : Size) → seen_by measure_of read ≡ Ok (m, rest)
    → ((t : Data) → m ≡ measure_of t → size ≡ size_of t) → size_in read ≡ Ok size
measured_size read m rest size e made =
    let s = seen_ok measure_of read m rest e in
    ap size_in s.is_read ∙ ap Ok (sym (made s.value s.same))

-- ---- what is kept of it

abbrev pub IsSmall : ℕ → ℕ → Data → Type 0
IsSmall levels most t = (levels_of t ≤ levels) × (length (canonical t) ≤ most)

kept_size : (read : Read Data) (size : Size) → size_in read ≡ Ok size → size ≡ size_of (data_in read)
kept_size (Ok x) size e = sym (ok_is _ _ e)
kept_size (Err d) size e = absurd cc

-- a size that is held in 64 bits is compared with what they hold
pub short_enough : (read : Read Data) (size : Size) (levels most : ℕ) → size_in read ≡ Ok size → size.levels ≤ levels
    → levels < 2 ^ 32 → most < 2 ^ 64 → IsTrue (ltb size.len most) ↔ IsSmall levels most (data_in read)
short_enough read size levels most e le fits room =
    let p = size_parts (data_in read) size (kept_size read size e) in
    let n = p.len in
    let l = p.levels in
    (λ h. let lt = ltb-true size.len most h in (omega arith, omega arith), λ h. let short = h.1 in lt-ltb size.len most (omega arith))

pub too_deep : (read : Read Data) (size : Size) (levels most : ℕ) → size_in read ≡ Ok size → levels < size.levels
    → levels < 2 ^ 32 → IsTrue (leb size.levels levels) ↔ IsSmall levels most (data_in read)
too_deep read size levels most e lt fits =
    let p = size_parts (data_in read) size (kept_size read size e) in
    let l = p.levels in
    (λ h. absurd (let le = leb-true size.levels levels h in omega arith), λ h. absurd (let le = h.0 in omega arith))
