-- A line for a node comes only before any other command.
use Rattle.std.proofs.Common.{◌≡◌, ◌&&◌, ℕ, ◌^◌, eqb, Bool, true, false, cond, not, List, [], ◌∷◌, length}
use Rattle.std.proofs.Common.{nat_lt, Option, None, Some, Result, Ok, Err, refl, sym, ap, subst, ◌∙◌}
use Rattle.std.specs.Str.{is_utf8}
use Rattle.erl_term.specs.Reading.{◌>>=◌}
use Rattle.erl_handshake.specs.declared.profile.Profile.{Profile}
use Rattle.erl_names.specs.Name.{is_node_name}
use Rattle.script_lines.specs.Commands.{verb_named}
use Rattle.script_lines.specs.Connections.{number_in}
use Rattle.script_lines.specs.Lines.{found, line_says, node_in, nodes_and_trunk_in, nodes_in, placed, process_in, process_and_term_in}
use Rattle.script_lines.specs.Lines.{processes_in, processes_and_term_in, verb_says, words_say}
use Rattle.script_lines.specs.Naming.{all_in, atom_read, demonitor_named, formed, monitor_named, names_bound, node_formed, process_named, profile_in}
use Rattle.script_lines.specs.Naming.{owner_named, sender_named, spawn_formed, switch_named, term_read}
use Rattle.script_lines.specs.Said.{Said}
use Rattle.script_lines.specs.Said as says
use Rattle.script_lines.specs.Words.{atom_and_text, atom_and_word, behind_word, no_words, one_word, three_words, two_words, two_words_or_three}
use Rattle.script_lines.specs.Words.{text_at, word_and_text, word_of, word_or_none, words_and_text}
use Rattle.script_lines.specs.declared.command.Verb.{Verb}
use Rattle.script_lines.specs.declared.command.Verb.TheVariants as verb
use Rattle.script_lines.specs.declared.reading.MayCome.{MayCome}
use Rattle.script_lines.specs.declared.reason.Reason.{Reason}
use Rattle.script_session.specs.Session.{State, may_come, starts}
use Rattle.script_terms.specs.Binding.{Look}

-- whatever it says, it is no line for a node
abbrev IsOther : Result Said Reason → Type 0
IsOther (Ok said) = starts said ≡ true
IsOther (Err reason) = Unit {0}

bind : {X : Type 0} (r : Result X Reason) (f : X → Result Said Reason) → ((x : X) → IsOther (f x)) → IsOther (r >>= f)
bind (Ok x) f h = h x
bind (Err reason) f h = tt

late : (may : MayCome) (look : Look) (v : Verb) (rest : List ℕ) → may.node ≡ false → IsOther (verb_says may look v rest)
late may look verb.Node rest e =
    bind (two_words_or_three rest) _ (λ words. bind (profile_in words.2) _ (λ profile. never words profile))
  where
    never : (words : List ℕ × List ℕ × Option (List ℕ)) (profile : Profile)
        → IsOther (placed may.node >>= λ _. node_formed words.0 words.1 >>= λ _. Ok (says.Node words.0 words.1 profile))
    never words profile =
        subst (λ b. IsOther (placed b >>= λ _. node_formed words.0 words.1 >>= λ _. Ok (says.Node words.0 words.1 profile))) (sym e) tt
late may look verb.Pair rest e = bind (no_words rest) _ (λ _. bind (placed may.pair) _ (λ _. refl))
late may look verb.Spawn rest e = bind (two_words rest) _ (λ words. bind (spawn_formed look words.0 words.1) _ (λ _. refl))
late may look verb.Monitor rest e = bind (three_words rest) _ (λ words. bind (monitor_named look words.0 words.1 words.2) _ (λ pids. refl))
late may look verb.Demonitor rest e = bind (two_words rest) _ (λ words. bind (demonitor_named look words.0 words.1) _ (λ ids. refl))
late may look verb.Trap rest e =
    bind (two_words rest) _ (λ words. bind (switch_named words.1) _ (λ on. bind (process_named look words.0) _ (λ p. refl)))
late may look verb.Send rest e = bind (processes_and_term_in look rest) _ (λ it. refl)
late may look verb.Exit rest e = bind (processes_and_term_in look rest) _ (λ it. refl)
late may look verb.Die rest e = bind (process_and_term_in look rest) _ (λ it. refl)
late may look verb.Link rest e = bind (processes_in look rest) _ (λ pids. refl)
late may look verb.Unlink rest e = bind (processes_in look rest) _ (λ pids. refl)
late may look verb.Ends rest e = bind (processes_in look rest) _ (λ pids. refl)
late may look verb.Receive rest e = bind (process_in look rest) _ (λ p. refl)
late may look verb.Links rest e = bind (process_in look rest) _ (λ p. refl)
late may look verb.Alive rest e = bind (process_in look rest) _ (λ p. refl)
late may look verb.Monitors rest e = bind (process_in look rest) _ (λ p. refl)
late may look verb.Unregister rest e = bind (process_in look rest) _ (λ p. refl)
late may look verb.Register rest e =
    bind (word_and_text rest) _ (λ words. bind (process_named look words.0) _ (λ p. bind (atom_read look words.1) _ (λ _. refl)))
late may look verb.WhereIs rest e =
    bind (word_and_text rest) _ (λ words. bind (formed (is_node_name words.0)) _ (λ _. bind (atom_read look words.1) _ (λ _. refl)))
late may look verb.SendName rest e =
    bind (words_and_text rest) _ (λ words. bind (atom_and_text words.2) _ (λ it. bind (sender_named look words.0 words.1) _ (λ p.
    bind (term_read look it.1) _ (λ _. bind (atom_read look it.0) _ (λ _. refl)))))
late may look verb.MonitorName rest e =
    bind (words_and_text rest) _ (λ words. bind (atom_and_word words.2) _ (λ it. bind (owner_named look words.0 words.1 it.1) _ (λ p.
    bind (atom_read look it.0) _ (λ _. refl))))
late may look verb.Stop rest e = bind (node_in rest) _ (λ node. refl)
late may look verb.Start rest e = bind (node_in rest) _ (λ node. refl)
late may look verb.Local rest e = bind (node_in rest) _ (λ node. refl)
late may look verb.Sweep rest e = bind (node_in rest) _ (λ node. refl)
late may look verb.Settle rest e = bind (no_words rest) _ (λ _. refl)
late may look verb.Challenge rest e = bind (one_word rest) _ (λ word. bind (number_in (2 ^ 32) word) _ (λ n. refl))
late may look verb.Lose rest e = bind (nodes_and_trunk_in rest) _ (λ it. refl)
late may look verb.Deliver rest e = bind (nodes_and_trunk_in rest) _ (λ it. refl)
late may look verb.Show rest e = bind (word_or_none rest) _ (λ word. bind (all_in word) _ (λ all. refl))
late may look verb.Expect rest e = bind (text_at rest) _ (λ words. bind (names_bound look words) _ (λ _. refl))
late may look v rest e = bind (nodes_in rest) _ (λ nodes. refl)

-- the same of a line, which may be passed over
abbrev IsOtherLine : Result (Option Said) Reason → Type 0
IsOtherLine (Ok None) = Unit {0}
IsOtherLine (Ok (Some said)) = starts said ≡ true
IsOtherLine (Err reason) = Unit {0}

one : (r : Result Said Reason) → IsOther r → IsOtherLine (r >>= λ it. Ok (Some it))
one (Ok said) h = h
one (Err reason) h = tt

verbs : (may : MayCome) (look : Look) (v : Option Verb) (rest : List ℕ) → may.node ≡ false
    → IsOtherLine (found v >>= λ v. verb_says may look v rest >>= λ it. Ok (Some it))
verbs may look None rest e = tt
verbs may look (Some v) rest e = one (verb_says may look v rest) (late may look v rest e)

words : (may : MayCome) (look : Look) (word rest : List ℕ) → may.node ≡ false → IsOtherLine (words_say may look word rest)
words may look [] rest e = tt
words may look (c ∷ cs) rest e = go (eqb c 35)
  where
    go : (b : Bool) → IsOtherLine (cond b (Ok None) (found (verb_named (c ∷ cs)) >>= λ v. verb_says may look v rest >>= λ it. Ok (Some it)))
    go true = tt
    go false = verbs may look (verb_named (c ∷ cs)) rest e

other_line : (may : MayCome) (look : Look) (line : List ℕ) → may.node ≡ false → IsOtherLine (line_says may look line)
other_line may look line e = go (nat_lt 65536 (length line)) (is_utf8 line)
  where
    go : (a b : Bool)
        → IsOtherLine (cond a (Err Reason.TooLong) (cond b (words_say may look (word_of line) (behind_word line)) (Err Reason.NotText)))
    go true b = tt
    go false true = words may look (word_of line) (behind_word line) e
    go false false = tt

pub node_comes_early : (state : State) (line : List ℕ) (said : Said)
    → line_says (may_come state) state.names line ≡ Ok (Some said) → starts said ≡ false → state.started ≡ false
node_comes_early state line said h s = go state.started refl
  where
    go : (b : Bool) → state.started ≡ b → b ≡ false
    go false e = refl
    go true e =
        let never : (may_come state).node ≡ false = ap (λ b. not b && nat_lt (length state.stage.world.names) 64) e in
        let other : starts said ≡ true = subst IsOtherLine h (other_line (may_come state) state.names line never) in
        let no : true ≡ false = sym other ∙ s in
        cc
