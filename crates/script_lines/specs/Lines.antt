-- The meaning of a line of a script: None for a comment or a line of no word, or the reason of a bad line.
use Rattle.std.specs.Prelude.{◌≡◌, ℕ, ◌^◌, ◌==◌, Bool, true, false, List, [], ◌∷◌, length}
use Rattle.std.specs.Prelude.{Option, None, Some, Result, Ok, Err, nat_lt, if◌then◌else◌}
use Rattle.std.specs.Str.{is_utf8}
use Rattle.erl_term.specs.Reading.{◌>>=◌}
use Rattle.erl_names.specs.declared.trunk.TrunkId.{TrunkId}
use Rattle.script_lines.specs.Commands.{verb_named}
use Rattle.script_lines.specs.Connections.{number_in, trunk_in}
use Rattle.script_lines.specs.Naming.{process_named, processes_named, sender_named, monitor_named, owner_named, demonitor_named}
use Rattle.script_lines.specs.Naming.{nodes_formed, node_formed, spawn_formed, all_in, formed, switch_named, profile_in, atom_read, term_read, names_bound}
use Rattle.script_lines.specs.Said.{Said, said}
use Rattle.script_lines.specs.Said as says
use Rattle.script_lines.specs.Words.{word_of, behind_word, no_words, one_word, two_words, two_words_or_three, three_words, text_at, word_or_none}
use Rattle.script_lines.specs.Words.{atom_and_text, atom_and_word, word_and_text, words_and_text}
use Rattle.script_lines.specs.declared.command.Verb.{Verb}
use Rattle.script_lines.specs.declared.command.Verb.TheVariants as verb
use Rattle.script_lines.specs.declared.line.Line.{Line}
use Rattle.script_lines.specs.declared.reading.MayCome.{MayCome}
use Rattle.script_lines.specs.declared.reason.Reason.{Reason}
use Rattle.script_lines.specs.declared.reason.Reason.TheVariants.{TooLong, NotText, UnknownCommand, WrongWords}
use Rattle.erl_names.specs.Name.{is_node_name}
use Rattle.erl_term.specs.declared.term.Pid.{Pid}
use Rattle.script_terms.specs.Binding.{Look}

-- a line out of its place has wrong words
abbrev pub placed : Bool → Result (Unit {0}) Reason
placed true = Ok tt
placed false = Err WrongWords

-- the words behind a verb: two nodes, two nodes and perhaps a connection, one node, two processes, one process, and processes with a term
abbrev pub nodes_in : List ℕ → Result (List ℕ × List ℕ) Reason
nodes_in rest = two_words rest >>= λ words. nodes_formed words.0 words.1 >>= λ _. Ok words

abbrev pub nodes_and_trunk_in : List ℕ → Result (List ℕ × List ℕ × Option TrunkId) Reason
nodes_and_trunk_in rest =
    two_words_or_three rest >>= λ words. nodes_formed words.0 words.1 >>= λ _. trunk_in words.2 >>= λ trunk.
    Ok (words.0, words.1, trunk)

abbrev pub node_in : List ℕ → Result (List ℕ) Reason
node_in rest = one_word rest >>= λ word. formed (is_node_name word) >>= λ _. Ok word

abbrev pub processes_in : Look → List ℕ → Result (Pid × Pid) Reason
processes_in look rest = two_words rest >>= λ words. processes_named look words.0 words.1

abbrev pub process_in : Look → List ℕ → Result Pid Reason
process_in look rest = one_word rest >>= λ word. process_named look word

abbrev pub processes_and_term_in : Look → List ℕ → Result (Pid × Pid × List ℕ) Reason
processes_and_term_in look rest =
    words_and_text rest >>= λ words. processes_named look words.0 words.1 >>= λ pids. term_read look words.2 >>= λ _.
    Ok (pids.0, pids.1, words.2)

abbrev pub process_and_term_in : Look → List ℕ → Result (Pid × List ℕ) Reason
process_and_term_in look rest =
    word_and_text rest >>= λ words. process_named look words.0 >>= λ p. term_read look words.1 >>= λ _. Ok (p, words.1)

abbrev pub verb_says : MayCome → Look → Verb → List ℕ → Result Said Reason
verb_says may look verb.Node rest =
    two_words_or_three rest >>= λ words. profile_in words.2 >>= λ profile. placed may.node >>= λ _.
    node_formed words.0 words.1 >>= λ _. Ok (says.Node words.0 words.1 profile)
verb_says may look verb.Pair rest = no_words rest >>= λ _. placed may.pair >>= λ _. Ok says.Pair
verb_says may look verb.Spawn rest = two_words rest >>= λ words. spawn_formed look words.0 words.1 >>= λ _. Ok (says.Spawn words.0 words.1)
verb_says may look verb.Monitor rest =
    three_words rest >>= λ words. monitor_named look words.0 words.1 words.2 >>= λ pids. Ok (says.Monitor pids.0 pids.1 words.2)
verb_says may look verb.Demonitor rest =
    two_words rest >>= λ words. demonitor_named look words.0 words.1 >>= λ ids. Ok (says.Demonitor ids.0 ids.1)
verb_says may look verb.Trap rest =
    two_words rest >>= λ words. switch_named words.1 >>= λ on. process_named look words.0 >>= λ p. Ok (says.Trap p on)
verb_says may look verb.Register rest =
    word_and_text rest >>= λ words. process_named look words.0 >>= λ p. atom_read look words.1 >>= λ _. Ok (says.Register p words.1)
verb_says may look verb.WhereIs rest =
    word_and_text rest >>= λ words. formed (is_node_name words.0) >>= λ _. atom_read look words.1 >>= λ _.
    Ok (says.WhereIs words.0 words.1)
verb_says may look verb.SendName rest =
    words_and_text rest >>= λ words. atom_and_text words.2 >>= λ it. sender_named look words.0 words.1 >>= λ p.
    term_read look it.1 >>= λ _. atom_read look it.0 >>= λ _. Ok (says.SendName p words.1 it.0 it.1)
verb_says may look verb.MonitorName rest =
    words_and_text rest >>= λ words. atom_and_word words.2 >>= λ it. owner_named look words.0 words.1 it.1 >>= λ p.
    atom_read look it.0 >>= λ _. Ok (says.MonitorName p words.1 it.0 it.1)
verb_says may look verb.Send rest = processes_and_term_in look rest >>= λ it. Ok (says.Send it.0 it.1 it.2)
verb_says may look verb.Exit rest = processes_and_term_in look rest >>= λ it. Ok (says.Exit it.0 it.1 it.2)
verb_says may look verb.Die rest = process_and_term_in look rest >>= λ it. Ok (says.Die it.0 it.1)
verb_says may look verb.Link rest = processes_in look rest >>= λ pids. Ok (says.Link pids.0 pids.1)
verb_says may look verb.Unlink rest = processes_in look rest >>= λ pids. Ok (says.Unlink pids.0 pids.1)
verb_says may look verb.Ends rest = processes_in look rest >>= λ pids. Ok (says.Ends pids.0 pids.1)
verb_says may look verb.Receive rest = process_in look rest >>= λ p. Ok (says.Receive p)
verb_says may look verb.Links rest = process_in look rest >>= λ p. Ok (says.Links p)
verb_says may look verb.Alive rest = process_in look rest >>= λ p. Ok (says.Alive p)
verb_says may look verb.Monitors rest = process_in look rest >>= λ p. Ok (says.Monitors p)
verb_says may look verb.Unregister rest = process_in look rest >>= λ p. Ok (says.Unregister p)
verb_says may look verb.Dial rest = nodes_in rest >>= λ nodes. Ok (says.Dial nodes.0 nodes.1)
verb_says may look verb.Route rest = nodes_in rest >>= λ nodes. Ok (says.Route nodes.0 nodes.1)
verb_says may look verb.Travels rest = nodes_in rest >>= λ nodes. Ok (says.Travels nodes.0 nodes.1)
verb_says may look verb.Why rest = nodes_in rest >>= λ nodes. Ok (says.Why nodes.0 nodes.1)
verb_says may look verb.Lose rest = nodes_and_trunk_in rest >>= λ it. Ok (says.Lose it.0 it.1 it.2)
verb_says may look verb.Cut rest = nodes_in rest >>= λ nodes. Ok (says.Cut nodes.0 nodes.1)
verb_says may look verb.Deliver rest = nodes_and_trunk_in rest >>= λ it. Ok (says.Deliver it.0 it.1 it.2)
verb_says may look verb.Stop rest = node_in rest >>= λ node. Ok (says.Stop node)
verb_says may look verb.Start rest = node_in rest >>= λ node. Ok (says.Start node)
verb_says may look verb.Local rest = node_in rest >>= λ node. Ok (says.Local node)
verb_says may look verb.Sweep rest = node_in rest >>= λ node. Ok (says.Sweep node)
verb_says may look verb.Settle rest = no_words rest >>= λ _. Ok says.Settle
-- challenges are numbers of 32 bits
verb_says may look verb.Challenge rest = one_word rest >>= λ word. number_in (2 ^ 32) word >>= λ number. Ok (says.Challenge number)
verb_says may look verb.Show rest = word_or_none rest >>= λ word. all_in word >>= λ all. Ok (says.Show all)
verb_says may look verb.Expect rest = text_at rest >>= λ words. names_bound look words >>= λ _. Ok (says.Expect words)

abbrev pub found : Option Verb → Result Verb Reason
found None = Err UnknownCommand
found (Some verb) = Ok verb

-- a line of no word means nothing, and so does a comment
abbrev pub words_say : MayCome → Look → (word rest : List ℕ) → Result (Option Said) Reason
words_say may look [] rest = Ok None
words_say may look (c ∷ cs) rest =
    if c == 35 then Ok None else (found (verb_named (c ∷ cs)) >>= λ verb. verb_says may look verb rest >>= λ it. Ok (Some it))

-- the first fault decides
abbrev pub line_says : MayCome → Look → List ℕ → Result (Option Said) Reason
line_says may look line =
    if nat_lt 65536 (length line) then Err TooLong
    else if is_utf8 line then words_say may look (word_of line) (behind_word line)
    else Err NotText

-- the verb that a line begins with, unless the line is too long or isn't UTF-8
abbrev pub verb_in : List ℕ → Option Verb
verb_in line = if nat_lt 65536 (length line) then None else if is_utf8 line then verb_named (word_of line) else None

-- the result of a function is the meaning of the line
abbrev pub Reads : Result Said Reason → Result Line Reason → Type 0
Reads says (Ok line) = says ≡ Ok (said line)
Reads says (Err e) = says ≡ Err e

abbrev pub ReadsSome : Result (Option Said) Reason → Result (Option Line) Reason → Type 0
ReadsSome says (Ok None) = says ≡ Ok None
ReadsSome says (Ok (Some line)) = says ≡ Ok (Some (said line))
ReadsSome says (Err e) = says ≡ Err e
