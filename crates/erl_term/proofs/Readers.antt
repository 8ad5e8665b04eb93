-- The laws of readers, where the error that says that bytes are missing is Cut.
use Rattle.std.proofs.Common.{◌≡◌, ◌≢◌, ℕ, List, refl, ◌⊎◌, inl, inr}
use Rattle.readers.specs.Laws.{Reads as ReadsWith, Explains as ExplainsWith}
pub use Rattle.readers.specs.Reading.{and_then}
pub use Rattle.readers.specs.Laws.{Takes, Begins, Then, Mapped}
pub use Rattle.readers.proofs.Sequence.{AreBytes-nil, AreBytes-rest, AreBytes-split, Known, known, is_ok, is_err}
pub use Rattle.readers.proofs.Sequence.{err_of_bind, ok_of_bind, Reads-then, Reads-same, Reads-by, Reads-only, Reads-map}
pub use Rattle.readers.proofs.Places.{AreBytes-front}
pub use Rattle.readers.proofs.Reasons.{Explains-weaker, Explains-by, Explains-then, Explains-map, map_read}
use Rattle.erl_term.specs.declared.error.TermError.{TermError}
use Rattle.erl_term.specs.declared.error.TermError.TheVariants.{Cut}
use Rattle.erl_term.specs.Reading.{Read}

abbrev pub Reads : {A : Type 0} → (A → List ℕ → Type 0) → (List ℕ → Read A) → Type 0
Reads S read = ReadsWith Cut S read

abbrev pub Explains : {A : Type 0} → (List ℕ → ℕ → TermError → Type 0) → (List ℕ → Read A) → Type 0
Explains W read = ExplainsWith Cut W read

pub cut_or : (e : TermError) → (e ≡ Cut) ⊎ (e ≢ Cut)
cut_or Cut = inl refl
cut_or e = inr (λ q. cc)
