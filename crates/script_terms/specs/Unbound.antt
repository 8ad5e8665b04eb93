-- Names in a text that are bound to nothing.
use Rattle.std.specs.Prelude.{ℕ, Bool, true, false, ◌==◌, ◌&&◌, ◌||◌, List, [], ◌∷◌, Ok, Err, if◌then◌else◌}
use Rattle.script_terms.specs.Binding.{Look}
use Rattle.script_terms.specs.Reading.{Read, named_at}
use Rattle.script_terms.specs.declared.fault.TermFault.TheVariants.{UnknownName, BadTerm}
use Rattle.script_terms.specs.declared.names.Named.{Named}
use Rattle.script_terms.specs.declared.unbound.Place.{Place}
use Rattle.script_terms.specs.declared.unbound.Place.TheVariants.{Outside, Quoted, Escaped}

-- a ' opens quotes and closes them, and the byte behind a \ between quotes does neither
abbrev pub behind : Place → ℕ → Place
behind Outside c = if c == 39 then Quoted else Outside
behind Quoted c = if c == 92 then Escaped else if c == 39 then Outside else Quoted
behind Escaped c = Quoted

-- a $ between quotes begins no name
abbrev pub is_mark : Place → ℕ → Bool
is_mark Outside c = c == 36
is_mark Quoted c = false
is_mark Escaped c = false

abbrev pub is_unknown : Read Named → Bool
is_unknown (Ok named) = false
is_unknown (Err UnknownName) = true
is_unknown (Err BadTerm) = false

-- a name stands at the front, and is bound to nothing
abbrev pub is_unbound : Look → List ℕ → Bool
is_unbound look bytes = is_unknown (named_at look bytes)

unfoldable pub unbound_from : Look → Place → List ℕ → Bool
unbound_from look place [] = false
unbound_from look place (c ∷ cs) = (is_mark place c && is_unbound look cs) || unbound_from look (behind place c) cs

-- somewhere in the text, which need not be a term
abbrev pub has_unbound : Look → List ℕ → Bool
has_unbound look text = unbound_from look Outside text
