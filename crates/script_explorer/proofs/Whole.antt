-- A script that was run to its end.
use Rattle.std.proofs.Common.{◌≡◌, ℕ, ◌-◌, false, List, [], ◌∷◌, ◌++◌, Global, String, Vec, None, Option, Some, ap, append-nil, drop, is_some, length, map, refl, string_bytes, subst, sym, true≢false, ◌∙◌}
use Rattle.std.proofs.lemmas.List.{drop-map, length-map}
use Rattle.run_traces.specs.declared.trace.Trace.{Trace}
use Rattle.script_explorer.proofs.Led.{bytes_of}
use Rattle.script_explorer.specs.Printed.{Ran}
use Rattle.script_explorer.specs.Replays.{Ends, Replays, RunsThrough}
use Rattle.script_explorer.specs.declared.replaying.Replayed.{Replayed}
use Rattle.script_session.specs.Running.{LeadsTo}
use Rattle.script_session.specs.Session.{State, fresh_state}
use Rattle.script_session.specs.declared.session.Stop.{Stop}

pub none_of : (why : Option Stop) → is_some why ≡ false → why ≡ None
none_of None n = refl
none_of (Some why) n = absurd (true≢false n)

nothing_left : (last : State) (rest : List (List ℕ)) (why : Option Stop) → Ends last rest why → is_some why ≡ false → rest ≡ []
nothing_left last [] None ends n = refl
nothing_left last (line ∷ rest) None ends n = absurd ends
nothing_left last rest (Some why) ends n = absurd (true≢false n)

pub ran_whole : (from : State) (lines : List (List ℕ)) (it : Replayed) → is_some it.stop ≡ false → (r : Replays from lines it)
    → LeadsTo from lines (map string_bytes it.texts.items) r.last
ran_whole from lines it n r =
    subst (λ (l : List (List ℕ)). LeadsTo from l (map string_bytes it.texts.items) r.last)
    (sym (r.parts ∙ ap (λ (rest : List (List ℕ)). r.ran ++ rest) (nothing_left r.last r.rest it.stop r.ends n) ∙ append-nil r.ran))
    r.led

abbrev pub ran : (seed : ℕ) (lines : List (Vec ℕ Global)) (it : Replayed)
    → RunsThrough (fresh_state Trace.Off seed) (map bytes_of lines) it → Ran seed
ran seed lines it r = record { lines = map bytes_of lines; texts = map string_bytes it.texts.items; last = r.last; led = r.led }

-- the last texts as bytes
pub last_texts : (texts : List (String Global)) (count : ℕ)
    → map string_bytes (drop (length texts - count) texts) ≡ drop (length (map string_bytes texts) - count) (map string_bytes texts)
last_texts texts count =
    sym (drop-map string_bytes (length texts - count) texts)
    ∙ ap (λ (n : ℕ). drop (n - count) (map string_bytes texts)) (sym (length-map texts string_bytes))
