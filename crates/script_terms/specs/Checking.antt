-- The facts about a term that is read but not kept, and about one that is kept.
use Rattle.std.specs.Prelude.{◌≡◌, ℕ, Result, Ok, Err, MatchResult, nat_le}
use Rattle.erl_term.specs.Data.{Data}
use Rattle.erl_term.specs.Canonical.{is_byte, levels_of}
use Rattle.script_terms.specs.declared.checking.Shape.{Shape}
use Rattle.script_terms.specs.declared.fault.TermFault.{TermFault}
use Rattle.script_terms.specs.declared.fault.ReadError.{ReadError}
use Rattle.script_terms.specs.declared.fault.ReadError.TheVariants.{Fault, OutOfMemory}

-- reading gives something of which what a function returned tells so much, or the fault that it returned
abbrev pub Tells : {X Y : Type 0} → (X → Y → Type 0) → Result X TermFault → Result Y TermFault → Type 0
Tells {X} {Y} Told result read = MatchResult result (λ x. (y : Y) × (read ≡ Ok y) × Told x y) (λ e. read ≡ Err e)

-- the term has at most so many levels, or not, and it is an integer of a byte, or not
pub record HasShape (most : ℕ) (t : Data) (shape : Shape) : Type 0 where
  pub fits : shape.fits ≡ nat_le (levels_of t) most
  pub byte : shape.is_byte ≡ is_byte t

-- reading gives that fault, unless memory ran out
abbrev pub Fails : {Y : Type 0} → ReadError → Result Y TermFault → Type 0
Fails (Fault fault) read = read ≡ Err fault
Fails OutOfMemory read = Unit {0}

-- the result of a function, seen by view, is the result of reading, unless memory ran out
abbrev pub Gives : {X Y : Type 0} → (X → Y) → Result X ReadError → Result Y TermFault → Type 0
Gives view result read = MatchResult result (λ x. read ≡ Ok (view x)) (λ e. Fails e read)

-- the answer without the term
abbrev pub checked : {A E : Type 0} → Result A E → Result (Unit {0}) E
checked (Ok t) = Ok tt
checked (Err e) = Err e

-- that fault, or want of memory where there is a term
abbrev pub IsRefused : ReadError → Result Data TermFault → Type 0
IsRefused (Fault fault) read = read ≡ Err fault
IsRefused OutOfMemory read = (t : Data) × (read ≡ Ok t)
