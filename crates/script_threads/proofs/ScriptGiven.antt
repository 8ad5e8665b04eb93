-- The merged run of a script as a plain script.
use Rattle.std.proofs.Common.{◌≡◌, ◌<◌, ℕ, eqb, Bool, true, false, List, [], length, refl, sym, ap, subst, ◌∙◌}
use Rattle.std.specs.Prelude.{IfOk, Ok, Err, Result}
use Rattle.cluster_run.specs.Finishing.{IsFinished}
use Rattle.dist_books.specs.Acting.{Nodes}
use Rattle.script_repeats.specs.Repeats.{Repeats}
use Rattle.script_repeats.specs.declared.repeating.Unrepeated.{Unrepeated}
use Rattle.script_repeats.specs.declared.repeating.Unrepeated.TheVariants as unrepeated
use Rattle.script_threads.proofs.EndTold.{some_nodes}
use Rattle.script_threads.specs.Merged.{IsUnfinished}
use Rattle.script_threads.specs.Scripts.{AreRepeated, EndsAsScript, GivesScript, unrepeated_by}
use Rattle.script_threads.specs.Standing.{is_idle, nodes_of}
use Rattle.script_threads.specs.declared.finishing.Unfinished.{Unfinished}
use Rattle.script_threads.specs.declared.threads.Cast.{Cast}
use Rattle.script_threads.specs.declared.threads.Cast.TheVariants as cast

pub if_ok : {X E : Type 0} {P Q : X → Type 0} (r : Result X E) → ((x : X) → P x → Q x) → IfOk r P → IfOk r Q
if_ok (Ok x) f h = f x h
if_ok (Err e) f h = tt

-- the threads may have been started for the end
repeated_first : (seed : ℕ) (named now : Cast) (script : List ℕ) → nodes_of now ≡ nodes_of named → (is_idle named ≡ false → now ≡ named)
    → AreRepeated seed now script → AreRepeated seed named script
repeated_first seed (cast.Named nodes) now script same stays m = record {
  books = m.books;
  seats = m.seats;
  entries = m.entries;
  seated = tt;
  finished = subst (λ (n : Nodes). IsFinished n m.books m.seats m.entries) same m.finished;
  repeats = subst (λ (n : Nodes). Repeats seed n m.books m.entries script) same m.repeats;
}
repeated_first seed (cast.Running running) now script same stays m = subst (λ (it : Cast). AreRepeated seed it script) (stays refl) m

pub gives_script : (seed : ℕ) (named now : Cast) (script : List ℕ) → nodes_of now ≡ nodes_of named → (is_idle named ≡ false → now ≡ named)
    → 0 < length (nodes_of now) → AreRepeated seed now script → EndsAsScript seed named script
gives_script seed named now script same stays some m =
    subst (λ (b : Bool). GivesScript b seed named script)
    (sym (ap (λ (n : Nodes). eqb (length n) 0) (sym same) ∙ some_nodes (length (nodes_of now)) some))
    (repeated_first seed named now script same stays m)

pub gives_nothing : (seed : ℕ) (named now : Cast) (script : List ℕ) → nodes_of now ≡ nodes_of named → eqb (length (nodes_of now)) 0 ≡ true
    → script ≡ [] → EndsAsScript seed named script
gives_nothing seed named now script same none empty =
    subst (λ (b : Bool). GivesScript b seed named script) (sym (ap (λ (n : Nodes). eqb (length n) 0) (sym same) ∙ none)) empty

-- a script that wasn't made
pub unrepeated_so : (named : Cast) (why : Unrepeated) (e : Unfinished) → e ≡ unrepeated_by why → IsUnfinished named e
unrepeated_so named unrepeated.OutOfMemory e is = subst (IsUnfinished named) (sym is) tt
unrepeated_so named unrepeated.Unlike e is = subst (IsUnfinished named) (sym is) tt
