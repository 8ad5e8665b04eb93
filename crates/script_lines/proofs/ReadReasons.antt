-- No line is unmet by its words alone.
use Rattle.std.proofs.Common.{◌&&◌, ℕ, ◌^◌, eqb, Bool, true, false, cond, List, [], ◌∷◌, length}
use Rattle.std.proofs.Common.{nat_lt, Option, None, Some, Result, Ok, Err, codes}
use Rattle.std.specs.List.{after_first, before_first}
use Rattle.std.specs.Str.{bytes_eq, is_utf8}
use Rattle.std.specs.Str.Parse.{digits_value}
use Rattle.erl_names.specs.Name.{is_node_name}
use Rattle.erl_term.specs.Data.{Data, int, atom, tuple, list, improper, binary, pid, reference}
use Rattle.erl_term.specs.Reading.{◌>>=◌}
use Rattle.script_lines.specs.Commands.{verb_named}
use Rattle.script_lines.specs.Connections.{is_numeral, is_slash, number_in, trunk_in, trunk_named, trunk_with}
use Rattle.script_lines.specs.Lines.{found, line_says, node_in, nodes_and_trunk_in, nodes_in, placed, process_and_term_in, processes_and_term_in, processes_in, verb_says, words_say}
use Rattle.script_lines.specs.Lines as lines
use Rattle.script_lines.specs.Naming.{all_in, atom_read, demonitor_named, fault_in, formed, free_in, is_atom, is_cookie, is_term, monitor_named, names_bound}
use Rattle.script_lines.specs.Naming.{node_formed, nodes_formed, owner_named, process_in, process_named, processes_named, profile_in, profile_named}
use Rattle.script_lines.specs.Naming.{reference_in, sender_named, spawn_formed, switch_named, term_read}
use Rattle.script_lines.specs.Words.{atom_and_text, atom_and_word, behind_word, from_word, no_words, not_empty, nothing, one_word, only_word}
use Rattle.script_lines.specs.Words.{text_at, three_words, trimmed, two_words, two_words_or_three, word_and_text, word_at, word_of, word_or_none, words_and_text}
use Rattle.script_lines.specs.declared.command.Verb.{Verb}
use Rattle.script_lines.specs.declared.command.Verb.TheVariants as verb
use Rattle.script_lines.specs.declared.reading.MayCome.{MayCome}
use Rattle.script_lines.specs.declared.reason.Reason.{Reason}
use Rattle.script_lines.specs.declared.reason.Reason.TheVariants.{Unmet, WrongWords}
use Rattle.script_terms.specs.Binding.{Look}
use Rattle.script_terms.specs.Reading.{term_of}
use Rattle.script_terms.specs.Spaces.{from_space}
use Rattle.script_terms.specs.Unbound.{has_unbound}
use Rattle.script_terms.specs.Words.{is_name}
use Rattle.script_terms.specs.declared.fault.TermFault.{TermFault}
use Rattle.script_terms.specs.declared.fault.TermFault.TheVariants as fault
use Rattle.script_terms.specs.declared.names.Named.{Named}
use Rattle.script_terms.specs.declared.names.Named.TheVariants.{Process, Monitor}

-- a reason that the words of a line give
abbrev pub IsOfWords : Reason → Type 0
IsOfWords Unmet = ⊥
IsOfWords reason = Unit {0}

abbrev pub IsRead : {X : Type 0} → Result X Reason → Type 0
IsRead (Ok x) = Unit {0}
IsRead (Err reason) = IsOfWords reason

then : {X Y : Type 0} (r : Result X Reason) (f : X → Result Y Reason) → IsRead r → ((x : X) → IsRead (f x)) → IsRead (r >>= f)
then (Ok x) f h k = k x
then (Err reason) f h k = h

pick : {X : Type 0} (b : Bool) (x y : Result X Reason) → IsRead x → IsRead y → IsRead (cond b x y)
pick true x y h k = h
pick false x y h k = k

-- ---- words

some_text : {X : Type 0} (text : List ℕ) (x : X) → IsRead (not_empty text x)
some_text [] x = tt
some_text (c ∷ cs) x = tt

one_at : (text : List ℕ) → IsRead (word_at text)
one_at text = some_text (word_of text) (word_of text, behind_word text)

the_text : (text : List ℕ) → IsRead (text_at text)
the_text text = some_text (trimmed (from_word text)) (trimmed (from_word text))

none_there : (text : List ℕ) → IsRead (nothing text)
none_there [] = tt
none_there (c ∷ cs) = tt

none : (text : List ℕ) → IsRead (no_words text)
none text = none_there (from_word text)

one : (text : List ℕ) → IsRead (one_word text)
one text = then (word_at text) _ (one_at text) (λ word. then (no_words word.1) _ (none word.1) (λ _. tt))

two : (text : List ℕ) → IsRead (two_words text)
two text = then (word_at text) _ (one_at text) (λ first. then (one_word first.1) _ (one first.1) (λ _. tt))

three : (text : List ℕ) → IsRead (three_words text)
three text = then (word_at text) _ (one_at text) (λ first. then (two_words first.1) _ (two first.1) (λ _. tt))

only : (word rest : List ℕ) → IsRead (only_word word rest)
only [] rest = tt
only (c ∷ cs) rest = then (no_words rest) _ (none rest) (λ _. tt)

two_or_three : (text : List ℕ) → IsRead (two_words_or_three text)
two_or_three text =
    then (word_at text) _ (one_at text) (λ first. then (word_at first.1) _ (one_at first.1) (λ second.
    then (word_or_none second.1) _ (only (word_of second.1) (behind_word second.1)) (λ _. tt)))

word_text : (text : List ℕ) → IsRead (word_and_text text)
word_text text = then (word_at text) _ (one_at text) (λ word. then (text_at word.1) _ (the_text word.1) (λ _. tt))

words_text : (text : List ℕ) → IsRead (words_and_text text)
words_text text = then (word_at text) _ (one_at text) (λ first. then (word_and_text first.1) _ (word_text first.1) (λ _. tt))

atom_text : (text : List ℕ) → IsRead (atom_and_text text)
atom_text text = then (text_at (from_space text)) _ (the_text (from_space text)) (λ _. tt)

atom_word : (text : List ℕ) → IsRead (atom_and_word text)
atom_word text = then (one_word (from_space text)) _ (one (from_space text)) (λ _. tt)

-- ---- names and terms

form : (b : Bool) → IsRead (formed b)
form true = tt
form false = tt

place : (b : Bool) → IsRead (placed b)
place true = tt
place false = tt

process : (named : Option Named) → IsRead (process_in named)
process (Some (Process p)) = tt
process (Some (Monitor r)) = tt
process None = tt

monitor : (named : Option Named) → IsRead (reference_in named)
monitor (Some (Monitor r)) = tt
monitor (Some (Process p)) = tt
monitor None = tt

free : (named : Option Named) → IsRead (free_in named)
free None = tt
free (Some named) = tt

one_process : (look : Look) (word : List ℕ) → IsRead (process_named look word)
one_process look word = then (formed (is_name word)) _ (form (is_name word)) (λ _. process (look word))

sender : (look : Look) (word node : List ℕ) → IsRead (sender_named look word node)
sender look word node =
    then (formed (is_name word && is_node_name node)) _ (form (is_name word && is_node_name node)) (λ _. process (look word))

two_processes : (look : Look) (first second : List ℕ) → IsRead (processes_named look first second)
two_processes look first second =
    then (formed (is_name first && is_name second)) _ (form (is_name first && is_name second)) (λ _.
    then (process_in (look first)) _ (process (look first)) (λ p. then (process_in (look second)) _ (process (look second)) (λ q. tt)))

monitored : (look : Look) (owner target name : List ℕ) → IsRead (monitor_named look owner target name)
monitored look owner target name =
    then (formed (is_name owner && (is_name target && is_name name))) _ (form (is_name owner && (is_name target && is_name name))) (λ _.
    then (process_in (look owner)) _ (process (look owner)) (λ p. then (process_in (look target)) _ (process (look target)) (λ q.
    then (free_in (look name)) _ (free (look name)) (λ _. tt))))

owner_of : (look : Look) (owner node name : List ℕ) → IsRead (owner_named look owner node name)
owner_of look owner node name =
    then (formed (is_name owner && (is_node_name node && is_name name))) _ (form (is_name owner && (is_node_name node && is_name name)))
    (λ _. then (process_in (look owner)) _ (process (look owner)) (λ p. then (free_in (look name)) _ (free (look name)) (λ _. tt)))

taken_back : (look : Look) (owner name : List ℕ) → IsRead (demonitor_named look owner name)
taken_back look owner name =
    then (formed (is_name owner && is_name name)) _ (form (is_name owner && is_name name)) (λ _.
    then (process_in (look owner)) _ (process (look owner)) (λ p. then (reference_in (look name)) _ (monitor (look name)) (λ r. tt)))

spawned : (look : Look) (node name : List ℕ) → IsRead (spawn_formed look node name)
spawned look node name =
    then (formed (is_node_name node && is_name name)) _ (form (is_node_name node && is_name name)) (λ _. free (look name))

switch : (word : List ℕ) → IsRead (switch_named word)
switch word = pick (bytes_eq word (codes "on")) _ _ tt (pick (bytes_eq word (codes "off")) _ _ tt tt)

profile : (word : List ℕ) → IsRead (profile_named word)
profile word =
    pick (bytes_eq word (codes "1")) _ _ tt (pick (bytes_eq word (codes "2")) _ _ tt (pick (bytes_eq word (codes "3")) _ _ tt tt))

a_profile : (word : Option (List ℕ)) → IsRead (profile_in word)
a_profile None = tt
a_profile (Some word) = profile word

fault_read : (unbound : Bool) (e : TermFault) → IsOfWords (fault_in unbound e)
fault_read true e = tt
fault_read false fault.UnknownName = tt
fault_read false fault.BadTerm = tt

term_there : (unbound : Bool) (r : Result Data TermFault) → IsRead (is_term unbound r)
term_there unbound (Ok t) = tt
term_there unbound (Err e) = fault_read unbound e

term : (look : Look) (text : List ℕ) → IsRead (term_read look text)
term look text = term_there (has_unbound look text) (term_of look text)

atom_there : (r : Result Data TermFault) → IsRead (is_atom r)
atom_there (Ok (int n)) = tt
atom_there (Ok (atom a)) = tt
atom_there (Ok (tuple ts)) = tt
atom_there (Ok (list ts)) = tt
atom_there (Ok (improper ts t)) = tt
atom_there (Ok (binary b)) = tt
atom_there (Ok (pid p)) = tt
atom_there (Ok (reference r)) = tt
atom_there (Err e) = tt

an_atom : (look : Look) (text : List ℕ) → IsRead (atom_read look text)
an_atom look text = atom_there (term_of look text)

bound : (look : Look) (text : List ℕ) → IsRead (names_bound look text)
bound look text = pick (has_unbound look text) _ _ tt tt

-- ---- the words behind a verb

nodes : (rest : List ℕ) → IsRead (nodes_in rest)
nodes rest =
    then (two_words rest) _ (two rest) (λ words.
    then (nodes_formed words.0 words.1) _ (form (is_node_name words.0 && is_node_name words.1)) (λ _. tt))

a_node : (rest : List ℕ) → IsRead (node_in rest)
a_node rest = then (one_word rest) _ (one rest) (λ word. then (formed (is_node_name word)) _ (form (is_node_name word)) (λ _. tt))

processes : (look : Look) (rest : List ℕ) → IsRead (processes_in look rest)
processes look rest = then (two_words rest) _ (two rest) (λ words. two_processes look words.0 words.1)

a_process : (look : Look) (rest : List ℕ) → IsRead (lines.process_in look rest)
a_process look rest = then (one_word rest) _ (one rest) (λ word. one_process look word)

processes_term : (look : Look) (rest : List ℕ) → IsRead (processes_and_term_in look rest)
processes_term look rest =
    then (words_and_text rest) _ (words_text rest) (λ words.
    then (processes_named look words.0 words.1) _ (two_processes look words.0 words.1) (λ pids.
    then (term_read look words.2) _ (term look words.2) (λ _. tt)))

process_term : (look : Look) (rest : List ℕ) → IsRead (process_and_term_in look rest)
process_term look rest =
    then (word_and_text rest) _ (word_text rest) (λ words. then (process_named look words.0) _ (one_process look words.0) (λ p.
    then (term_read look words.1) _ (term look words.1) (λ _. tt)))

numbered : (limit : ℕ) (word : List ℕ) → IsRead (number_in limit word)
numbered limit word = pick (is_numeral word && nat_lt (digits_value 10 word) limit) (Ok (digits_value 10 word)) (Err WrongWords) tt tt

trunk_there : (dialer count : List ℕ) → IsRead (trunk_with dialer count)
trunk_there dialer count =
    pick (is_node_name dialer) _ _ (then (number_in (2 ^ 64) count) _ (numbered (2 ^ 64) count) (λ _. tt)) tt

a_trunk : (word : Option (List ℕ)) → IsRead (trunk_in word)
a_trunk None = tt
a_trunk (Some word) =
    then (trunk_named word) _ (trunk_there (before_first is_slash word) (after_first is_slash word)) (λ _. tt)

nodes_trunk : (rest : List ℕ) → IsRead (nodes_and_trunk_in rest)
nodes_trunk rest =
    then (two_words_or_three rest) _ (two_or_three rest) (λ words.
    then (nodes_formed words.0 words.1) _ (form (is_node_name words.0 && is_node_name words.1)) (λ _.
    then (trunk_in words.2) _ (a_trunk words.2) (λ _. tt)))

all_of : (word : Option (List ℕ)) → IsRead (all_in word)
all_of None = tt
all_of (Some word) = pick (bytes_eq word (codes "all")) (Ok true) (Err WrongWords) tt tt

verb_read : (may : MayCome) (look : Look) (v : Verb) (rest : List ℕ) → IsRead (verb_says may look v rest)
verb_read may look verb.Node rest =
    then (two_words_or_three rest) _ (two_or_three rest) (λ words. then (profile_in words.2) _ (a_profile words.2) (λ _.
    then (placed may.node) _ (place may.node) (λ _.
    then (node_formed words.0 words.1) _ (form (is_node_name words.0 && is_cookie words.1)) (λ _. tt))))
verb_read may look verb.Pair rest = then (no_words rest) _ (none rest) (λ _. then (placed may.pair) _ (place may.pair) (λ _. tt))
verb_read may look verb.Spawn rest =
    then (two_words rest) _ (two rest) (λ words. then (spawn_formed look words.0 words.1) _ (spawned look words.0 words.1) (λ _. tt))
verb_read may look verb.Monitor rest =
    then (three_words rest) _ (three rest) (λ words.
    then (monitor_named look words.0 words.1 words.2) _ (monitored look words.0 words.1 words.2) (λ _. tt))
verb_read may look verb.Demonitor rest =
    then (two_words rest) _ (two rest) (λ words. then (demonitor_named look words.0 words.1) _ (taken_back look words.0 words.1) (λ _. tt))
verb_read may look verb.Trap rest =
    then (two_words rest) _ (two rest) (λ words. then (switch_named words.1) _ (switch words.1) (λ on.
    then (process_named look words.0) _ (one_process look words.0) (λ _. tt)))
verb_read may look verb.Register rest =
    then (word_and_text rest) _ (word_text rest) (λ words. then (process_named look words.0) _ (one_process look words.0) (λ p.
    then (atom_read look words.1) _ (an_atom look words.1) (λ _. tt)))
verb_read may look verb.WhereIs rest =
    then (word_and_text rest) _ (word_text rest) (λ words. then (formed (is_node_name words.0)) _ (form (is_node_name words.0)) (λ _.
    then (atom_read look words.1) _ (an_atom look words.1) (λ _. tt)))
verb_read may look verb.SendName rest =
    then (words_and_text rest) _ (words_text rest) (λ words. then (atom_and_text words.2) _ (atom_text words.2) (λ it.
    then (sender_named look words.0 words.1) _ (sender look words.0 words.1) (λ p. then (term_read look it.1) _ (term look it.1) (λ _.
    then (atom_read look it.0) _ (an_atom look it.0) (λ _. tt)))))
verb_read may look verb.MonitorName rest =
    then (words_and_text rest) _ (words_text rest) (λ words. then (atom_and_word words.2) _ (atom_word words.2) (λ it.
    then (owner_named look words.0 words.1 it.1) _ (owner_of look words.0 words.1 it.1) (λ p.
    then (atom_read look it.0) _ (an_atom look it.0) (λ _. tt))))
verb_read may look verb.Send rest = then (processes_and_term_in look rest) _ (processes_term look rest) (λ _. tt)
verb_read may look verb.Exit rest = then (processes_and_term_in look rest) _ (processes_term look rest) (λ _. tt)
verb_read may look verb.Die rest = then (process_and_term_in look rest) _ (process_term look rest) (λ _. tt)
verb_read may look verb.Link rest = then (processes_in look rest) _ (processes look rest) (λ _. tt)
verb_read may look verb.Unlink rest = then (processes_in look rest) _ (processes look rest) (λ _. tt)
verb_read may look verb.Ends rest = then (processes_in look rest) _ (processes look rest) (λ _. tt)
verb_read may look verb.Receive rest = then (lines.process_in look rest) _ (a_process look rest) (λ _. tt)
verb_read may look verb.Links rest = then (lines.process_in look rest) _ (a_process look rest) (λ _. tt)
verb_read may look verb.Alive rest = then (lines.process_in look rest) _ (a_process look rest) (λ _. tt)
verb_read may look verb.Monitors rest = then (lines.process_in look rest) _ (a_process look rest) (λ _. tt)
verb_read may look verb.Unregister rest = then (lines.process_in look rest) _ (a_process look rest) (λ _. tt)
verb_read may look verb.Stop rest = then (node_in rest) _ (a_node rest) (λ _. tt)
verb_read may look verb.Start rest = then (node_in rest) _ (a_node rest) (λ _. tt)
verb_read may look verb.Local rest = then (node_in rest) _ (a_node rest) (λ _. tt)
verb_read may look verb.Sweep rest = then (node_in rest) _ (a_node rest) (λ _. tt)
verb_read may look verb.Settle rest = then (no_words rest) _ (none rest) (λ _. tt)
verb_read may look verb.Challenge rest =
    then (one_word rest) _ (one rest) (λ word. then (number_in (2 ^ 32) word) _ (numbered (2 ^ 32) word) (λ _. tt))
verb_read may look verb.Lose rest = then (nodes_and_trunk_in rest) _ (nodes_trunk rest) (λ _. tt)
verb_read may look verb.Deliver rest = then (nodes_and_trunk_in rest) _ (nodes_trunk rest) (λ _. tt)
verb_read may look verb.Show rest =
    then (word_or_none rest) _ (only (word_of rest) (behind_word rest)) (λ word. then (all_in word) _ (all_of word) (λ _. tt))
verb_read may look verb.Expect rest =
    then (text_at rest) _ (the_text rest) (λ words. then (names_bound look words) _ (bound look words) (λ _. tt))
verb_read may look v rest = then (nodes_in rest) _ (nodes rest) (λ _. tt)

verbs : (may : MayCome) (look : Look) (v : Option Verb) (rest : List ℕ)
    → IsRead (found v >>= λ v. verb_says may look v rest >>= λ it. Ok (Some it))
verbs may look None rest = tt
verbs may look (Some v) rest = then (verb_says may look v rest) _ (verb_read may look v rest) (λ _. tt)

words : (may : MayCome) (look : Look) (word rest : List ℕ) → IsRead (words_say may look word rest)
words may look [] rest = tt
words may look (c ∷ cs) rest = pick (eqb c 35) _ _ tt (verbs may look (verb_named (c ∷ cs)) rest)

pub line_is_read : (may : MayCome) (look : Look) (line : List ℕ) → IsRead (line_says may look line)
line_is_read may look line =
    pick (nat_lt 65536 (length line)) _ _ tt (pick (is_utf8 line) _ _ (words may look (word_of line) (behind_word line)) tt)
