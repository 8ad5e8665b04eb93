-- The things that the words of a line name, or the first fault.
use Rattle.std.specs.Prelude.{ℕ, ◌==◌, ◌&&◌, ◌||◌, Bool, true, false, List, [], ◌∷◌, length, codes, Option, None, Some, Result, Ok, Err, nat_le, if◌then◌else◌}
use Rattle.std.specs.List.{list_all}
use Rattle.std.specs.Str.{bytes_eq}
use Rattle.erl_handshake.specs.declared.profile.Profile.{Profile}
use Rattle.erl_names.specs.Name.{is_node_name}
use Rattle.erl_term.specs.Data.{Data, atom}
use Rattle.erl_term.specs.Reading.{◌>>=◌}
use Rattle.erl_term.specs.declared.term.Pid.{Pid}
use Rattle.erl_term.specs.declared.term.Reference.{Reference}
use Rattle.script_lines.specs.declared.reason.Reason.{Reason}
use Rattle.script_lines.specs.declared.reason.Reason.TheVariants.{WrongWords, BadName, UnknownName, NameTaken, BadTerm}
use Rattle.script_terms.specs.Binding.{Look}
use Rattle.script_terms.specs.Reading.{term_of}
use Rattle.script_terms.specs.Unbound.{has_unbound}
use Rattle.script_terms.specs.Words.{is_lower, is_name}
use Rattle.script_terms.specs.declared.fault.TermFault.{TermFault}
use Rattle.script_terms.specs.declared.fault.TermFault.TheVariants as fault
use Rattle.script_terms.specs.declared.names.Named.{Named}
use Rattle.script_terms.specs.declared.names.Named.TheVariants.{Process, Monitor}

-- words have their forms, or are bad names
abbrev pub formed : Bool → Result (Unit {0}) Reason
formed true = Ok tt
formed false = Err BadName

-- a cookie is 1 to 255 printable ASCII characters
abbrev pub is_printable : ℕ → Bool
is_printable c = nat_le 33 c && nat_le c 126

abbrev pub is_cookie_length : ℕ → Bool
is_cookie_length n = nat_le 1 n && nat_le n 255

abbrev pub is_cookie : List ℕ → Bool
is_cookie word = is_cookie_length (length word) && list_all is_printable word

-- the name has to name a thing of the kind
abbrev pub process_in : Option Named → Result Pid Reason
process_in (Some (Process p)) = Ok p
process_in (Some (Monitor r)) = Err UnknownName
process_in None = Err UnknownName

abbrev pub reference_in : Option Named → Result Reference Reason
reference_in (Some (Monitor r)) = Ok r
reference_in (Some (Process p)) = Err UnknownName
reference_in None = Err UnknownName

-- a new name has to be free
abbrev pub free_in : Option Named → Result (Unit {0}) Reason
free_in None = Ok tt
free_in (Some named) = Err NameTaken

abbrev pub process_named : Look → List ℕ → Result Pid Reason
process_named look word = formed (is_name word) >>= λ _. process_in (look word)

-- the forms of the names come before their bindings
abbrev pub sender_named : Look → (process node : List ℕ) → Result Pid Reason
sender_named look process node = formed (is_name process && is_node_name node) >>= λ _. process_in (look process)

abbrev pub processes_named : Look → (first second : List ℕ) → Result (Pid × Pid) Reason
processes_named look first second =
    formed (is_name first && is_name second) >>= λ _. process_in (look first) >>= λ p. process_in (look second) >>= λ q. Ok (p, q)

abbrev pub monitor_named : Look → (owner target name : List ℕ) → Result (Pid × Pid) Reason
monitor_named look owner target name =
    formed (is_name owner && (is_name target && is_name name)) >>= λ _.
    process_in (look owner) >>= λ p. process_in (look target) >>= λ q. free_in (look name) >>= λ _. Ok (p, q)

abbrev pub owner_named : Look → (owner node name : List ℕ) → Result Pid Reason
owner_named look owner node name =
    formed (is_name owner && (is_node_name node && is_name name)) >>= λ _.
    process_in (look owner) >>= λ p. free_in (look name) >>= λ _. Ok p

abbrev pub demonitor_named : Look → (owner reference : List ℕ) → Result (Pid × Reference) Reason
demonitor_named look owner reference =
    formed (is_name owner && is_name reference) >>= λ _. process_in (look owner) >>= λ p. reference_in (look reference) >>= λ r. Ok (p, r)

abbrev pub nodes_formed : (node peer : List ℕ) → Result (Unit {0}) Reason
nodes_formed node peer = formed (is_node_name node && is_node_name peer)

abbrev pub spawn_formed : Look → (node name : List ℕ) → Result (Unit {0}) Reason
spawn_formed look node name = formed (is_node_name node && is_name name) >>= λ _. free_in (look name)

abbrev pub node_formed : (name cookie : List ℕ) → Result (Unit {0}) Reason
node_formed name cookie = formed (is_node_name name && is_cookie cookie)

abbrev pub switch_named : List ℕ → Result Bool Reason
switch_named word = if bytes_eq word (codes "on") then Ok true else if bytes_eq word (codes "off") then Ok false else Err WrongWords

-- the words behind a command that shows less or all
abbrev pub all_in : Option (List ℕ) → Result Bool Reason
all_in None = Ok false
all_in (Some word) = if bytes_eq word (codes "all") then Ok true else Err WrongWords

abbrev pub profile_named : List ℕ → Result Profile Reason
profile_named word =
    if bytes_eq word (codes "1") then Ok Profile.One
    else if bytes_eq word (codes "2") then Ok Profile.Two
    else if bytes_eq word (codes "3") then Ok Profile.Three
    else Err WrongWords

-- a node line with no third word takes the third profile
abbrev pub profile_in : Option (List ℕ) → Result Profile Reason
profile_in None = Ok Profile.Three
profile_in (Some word) = profile_named word

-- a text has to be a term
abbrev pub reason_of : TermFault → Reason
reason_of fault.UnknownName = UnknownName
reason_of fault.BadTerm = BadTerm

-- an unbound name comes before any other fault
abbrev pub fault_in : (has_unbound : Bool) → TermFault → Reason
fault_in true e = UnknownName
fault_in false e = reason_of e

abbrev pub is_term : (has_unbound : Bool) → Result Data TermFault → Result (Unit {0}) Reason
is_term unbound (Ok t) = Ok tt
is_term unbound (Err e) = Err (fault_in unbound e)

abbrev pub term_read : Look → List ℕ → Result (Unit {0}) Reason
term_read look text = is_term (has_unbound look text) (term_of look text)

-- a text has to be an atom, bare or between quotes
abbrev pub is_atom : Result Data TermFault → Result (Unit {0}) Reason
is_atom (Ok (atom a)) = Ok tt
is_atom _ = Err BadTerm

abbrev pub atom_read : Look → List ℕ → Result (Unit {0}) Reason
atom_read look text = is_atom (term_of look text)

-- each name behind a $ outside of quotes is bound
abbrev pub names_bound : Look → List ℕ → Result (Unit {0}) Reason
names_bound look text = if has_unbound look text then Err UnknownName else Ok tt

-- an atom begins with a quote or a lower-case letter, and no other term does
abbrev pub begins_atom : List ℕ → Bool
begins_atom [] = false
begins_atom (c ∷ cs) = (c == 39) || is_lower c
