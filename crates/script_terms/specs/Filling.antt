-- A text in which each name behind a mark is replaced by the printed form of the thing that it names.
use Rattle.std.specs.Prelude.{ℕ, zero, suc, ◌-◌, List, [], ◌∷◌, ◌++◌, length, Ok, Err, if◌then◌else◌}
use Rattle.script_terms.specs.Binding.{Look}
use Rattle.script_terms.specs.Printing.{pid_text, reference_text}
use Rattle.script_terms.specs.Reading.{Read, named_at}
use Rattle.script_terms.specs.Unbound.{behind, is_mark}
use Rattle.script_terms.specs.declared.names.Named.{Named}
use Rattle.script_terms.specs.declared.names.Named.TheVariants.{Process, Monitor}
use Rattle.script_terms.specs.declared.unbound.Place.{Place}
use Rattle.script_terms.specs.declared.unbound.Place.TheVariants.{Outside}

abbrev pub named_text : Named → List ℕ
named_text (Process p) = pid_text p
named_text (Monitor r) = reference_text r

-- in the place of a $: the thing that the name behind it names. A $ before no bound name stands for itself
abbrev pub marked_text : Read Named → List ℕ
marked_text (Ok named) = named_text named.0
marked_text (Err e) = 36 ∷ []

-- the number of bytes of the name, which are left out
abbrev pub name_length : (bytes : List ℕ) → Read Named → ℕ
name_length bytes (Ok named) = length bytes - length named.1
name_length bytes (Err e) = 0

-- so many bytes belong to a name that is filled in already
unfoldable pub filled_from : Look → Place → (left_out : ℕ) → List ℕ → List ℕ
filled_from look place left_out [] = []
filled_from look place (suc left_out) (c ∷ cs) = filled_from look (behind place c) left_out cs
filled_from look place zero (c ∷ cs) =
    if is_mark place c then marked_text (named_at look cs) ++ filled_from look (behind place c) (name_length cs (named_at look cs)) cs
    else c ∷ filled_from look (behind place c) 0 cs

-- a $ between quotes begins no name
abbrev pub filled : Look → List ℕ → List ℕ
filled look text = filled_from look Outside 0 text
