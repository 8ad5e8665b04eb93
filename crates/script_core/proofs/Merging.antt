-- The end of a script over threads.
use Rattle.std.proofs.Common.{◌≡◌, ◌≤◌, ◌<◌, ℕ, ◌+◌, Bool, List, [], ◌∷◌, ◌++◌, length, map, take, drop, get_or, Option, None, Some, Result, Ok, Err}
use Rattle.std.proofs.Common.{refl, sym, ap, subst, ◌∙◌, append_assoc, arith}
use Rattle.std.proofs.lemmas.Bool.{lt-ltb}
use Rattle.std.proofs.lemmas.List.{append-nil, drop_more, length-append, length-map, length-take-le, map-append, take-append-drop, take_more}
use Rattle.std.specs.Prelude.{IfErr, IfSome}
use Rattle.std.specs.Io.KnownBytes.{Keeps}
use Rattle.script_core.proofs.ScriptLemmas.{for_known, keeps_appended}
use Rattle.script_core.specs.Kept.{ComesToEnd, HasKept, ReadMore, ReadsOn, StopsShort}
use Rattle.script_lines.specs.Breaks.{IsOneLine}
use Rattle.script_core.specs.Script.{lines_of}
use Rattle.script_core.specs.Threaded.{Along, EndsThreaded, Follows, HasRun, IsBadLine, IsKept, LeadsTo, NotMerged, RanLines, RunsLine, RunsLines, RunsScript, Tells}
use Rattle.script_core.specs.Threaded.{fresh_known, kept_lines}
use Rattle.script_core.specs.declared.script.Outcome.{Outcome}
use Rattle.script_core.specs.declared.script.Outcome.TheVariants as outcome
use Rattle.script_core.specs.declared.script.Script.{Script}
use Rattle.script_core.specs.declared.threads.InThreads.{InThreads}
use Rattle.script_lines.specs.Said.{Said}
use Rattle.script_lines.specs.declared.reason.Reason.{Reason}
use Rattle.script_lines.specs.declared.reason.Reason.TheVariants.{TooLong}
use Rattle.script_session.specs.declared.session.Stop.{Stop}
use Rattle.script_session.specs.declared.session.Stop.TheVariants as stop
use Rattle.script_threads.specs.Merged.{AreUnmerged}
use Rattle.script_threads.specs.Standing.{Goes, IsKnown, Known, Obeys, says_of}
use Rattle.script_threads.specs.declared.session.ThreadedSession.{ThreadedSession}

-- ---- one line

next_of : (known : Known) (new : ThreadedSession) (old_text new_text : List ℕ) (said : Option Said) → Goes said known new old_text new_text
    → (next : Known) × Follows said known next × IsKnown new next
next_of known new old_text new_text None g = (known, refl, g.0)
next_of known new old_text new_text (Some said) g = (_, (g.ran.made, g.text, refl), g.ran.after)

failed_only : (known : Known) (line : List ℕ) (number : ℕ) (new : ThreadedSession) (o : Outcome) → o ≡ outcome.Failed
    → RunsLine known line number new (Err o)
failed_only known line number new o e = subst (λ (w : Outcome). RunsLine known line number new (Err w)) (sym e) tt

pub only_failed : (P : Outcome → Type 0) (w : Result (Unit {0}) Outcome) → IfErr w (λ o. (o ≡ outcome.Failed) × P o)
    → IfErr w (λ o. o ≡ outcome.Failed)
only_failed P (Ok x) h = tt
only_failed P (Err o) h = h.0

pub ran_line : (known : Known) (line : List ℕ) (number : ℕ) (new : ThreadedSession) (old_text new_text : List ℕ)
    (r : Result (Unit {0}) Stop) (x : Unit {0}) (w : Result (Unit {0}) Outcome) → r ≡ Ok x
    → Obeys known line new old_text new_text r → IfErr w (λ o. o ≡ outcome.Failed) → RunsLine known line number new w
ran_line known line number new old_text new_text r x (Ok y) e o h =
    let ran = subst (Obeys known line new old_text new_text) e o in
    let next = next_of known new old_text new_text ran.0 ran.2 in
    (ran.0, next.0, ran.1, next.1, next.2)
ran_line known line number new old_text new_text r x (Err f) e o h = failed_only known line number new f h

pub bad_line_at : (known : Known) (line : List ℕ) (number : ℕ) (new : ThreadedSession) (old_text new_text : List ℕ)
    (r : Result (Unit {0}) Stop) (why : Stop) (reason : Reason) → r ≡ Err why → why ≡ stop.Bad reason
    → Obeys known line new old_text new_text r → RunsLine known line number new (Err (outcome.BadLine number reason))
bad_line_at known line number new old_text new_text r why reason e is o =
    (refl, (subst (Obeys known line new old_text new_text) (e ∙ ap (λ (w : Stop). Err w) is) o).0)

-- ---- lines, one after the other

pub leads_on : (known : Known) (xs ys : List (List ℕ)) (mid last : Known) → LeadsTo known xs mid → LeadsTo mid ys last
    → LeadsTo known (xs ++ ys) last
leads_on known [] ys mid last h t = subst (λ (k : Known). LeadsTo k ys last) h t
leads_on known (x ∷ xs) ys mid last h t = (h.0, h.1, h.2, h.3, leads_on h.1 xs ys mid last h.4 t)

pub leads_more : (known : Known) (xs : List (List ℕ)) (line : List ℕ) (mid : Known) (number : ℕ) (session : ThreadedSession) (x : Unit {0})
    → LeadsTo known xs mid → RunsLine mid line number session (Ok x)
    → (last : Known) × LeadsTo known (xs ++ line ∷ []) last × IsKnown session last
leads_more known xs line mid number session x h r =
    (r.1, leads_on known xs (line ∷ []) mid r.1 h (r.0, r.1, r.2, r.3, refl), r.4)

-- ---- the lines of one read, of which so many were run

module _ {X : Type 0} (text : X → List ℕ) (lines : List X) (i : ℕ) (line : X) (within : i < length lines) (is : line ≡ get_or lines i line)
  where
    one_line_more : map text (take (i + 1) lines) ≡ map text (take i lines) ++ text line ∷ []
    one_line_more =
        ap (λ (l : List X). map text l) (take_more lines i line within ∙ ap (λ (x : X). take i lines ++ x ∷ []) (sym is))
        ∙ map-append text (take i lines) (line ∷ [])

    pub ran_more : (known mid : Known) (number : ℕ) (session : ThreadedSession) (x : Unit {0}) → LeadsTo known (map text (take i lines)) mid
        → RunsLine mid (text line) number session (Ok x)
        → (last : Known) × LeadsTo known (map text (take (i + 1) lines)) last × IsKnown session last
    ran_more known mid number session x led r =
        let m = leads_more known (map text (take i lines)) (text line) mid number session x led r in
        (m.0, subst (λ (l : List (List ℕ)). LeadsTo known l m.0) (sym one_line_more) m.1, m.2)

    parted : map text lines ≡ map text (take i lines) ++ text line ∷ map text (drop (i + 1) lines)
    parted =
        ap (λ (l : List X). map text l)
        (sym (take-append-drop i lines)
        ∙ ap (λ (l : List X). take i lines ++ l) (drop_more lines i line within ∙ ap (λ (x : X). x ∷ drop (i + 1) lines) (sym is)))
        ∙ map-append text (take i lines) (line ∷ drop (i + 1) lines)

    pub stopped_at : (known mid : Known) (first number : ℕ) (session : ThreadedSession) (old new : Script InThreads) (o : Outcome)
        → number ≡ first + i → first + length lines ≤ 1048577 → LeadsTo known (map text (take i lines)) mid
        → RunsLine mid (text line) number session (Err o) → RunsLines known first (map text lines) old new (Err o)
    stopped_at known mid first number session old new (outcome.BadLine bad reason) n most led r = record {
      before = map text (take i lines);
      line = text line;
      after = map text (drop (i + 1) lines);
      parts = parted;
      number_is =
          let len = length-map (take i lines) text in let l = length-take-le i lines (omega arith) in let b = r.0 in omega arith;
      within = let b = r.0 in omega arith;
      at = mid;
      led = led;
      says = r.1;
    }
    stopped_at known mid first number session old new outcome.Ran n most led r = absurd r
    stopped_at known mid first number session old new outcome.Unmerged n most led r = absurd r
    stopped_at known mid first number session old new outcome.OutOfMemory n most led r = tt
    stopped_at known mid first number session old new outcome.Failed n most led r = tt

-- ---- a whole script

-- the lines of a part, behind those that were run before
pub bad_later : (from known : Known) (input done lines more : List (List ℕ)) (first number : ℕ) (reason : Reason)
    → input ≡ done ++ (lines ++ more) → LeadsTo from done known → first ≡ 1 + length done → IsBadLine known first lines number reason
    → IsBadLine from 1 input number reason
bad_later from known input done lines more first number reason e led n b = record {
  before = done ++ b.before;
  line = b.line;
  after = b.after ++ more;
  parts = e ∙ ap (λ (w : List (List ℕ)). done ++ (w ++ more)) b.parts
      ∙ ap (λ (w : List (List ℕ)). done ++ w) (append_assoc b.before (b.line ∷ b.after) more)
      ∙ sym (append_assoc done b.before (b.line ∷ (b.after ++ more)));
  number_is = let l = length-append done b.before in let m = b.number_is in omega arith;
  within = b.within;
  at = b.at;
  led = leads_on from done b.before known b.at led b.led;
  says = b.says;
}

too_long : (known : Known) (line : List ℕ) → 65536 < length line → says_of known line ≡ Err TooLong
too_long known line h = rw (lt-ltb 65536 (length line) h) refl

-- nothing is kept before a read
pub nothing_kept : (from : Known) (input : List ℕ) (remaining : Option (List ℕ)) (s : Script InThreads) (a : Along from input remaining s)
    → HasKept (IsKept a.known) s s.number s.pending.items
nothing_kept from input remaining s a = record {
  lines = [];
  session = (a.is_known, sym a.none);
  number = omega arith;
  within = a.within;
  one_line = a.one_line;
  goes = λ rest. refl;
}

-- the lines that are kept behind a read, and those that are left
pub record Kept (known : Known) (s : Script InThreads) (first : ℕ) (bytes : List ℕ) : Type 0 where
  pub is_known : IsKnown s.session.session known
  pub number : s.number ≡ first + length (kept_lines s.session)
  pub within : s.number ≤ 1048577
  pub left : List (List ℕ)
  pub goes : lines_of bytes ≡ kept_lines s.session ++ left

kept_of : (known : Known) (s : Script InThreads) (first : ℕ) (bytes : List ℕ) (lines left : List (List ℕ)) → IsKept known s.session lines
    → s.number ≡ first + length lines → s.number ≤ 1048577 → lines_of bytes ≡ lines ++ left → Kept known s first bytes
kept_of known s first bytes lines left session number within goes =
    let k = session in record {
      is_known = k.0;
      number = number ∙ ap (λ (l : List (List ℕ)). first + length l) k.1;
      within = within;
      left = left;
      goes = goes ∙ ap (λ (l : List (List ℕ)). l ++ left) k.1;
    }

of_short : (known : Known) (s : Script InThreads) (first : ℕ) (bytes : List ℕ) (o : Outcome) → StopsShort (IsKept known) s first bytes o
    → Kept known s first bytes
of_short known s first bytes o h = kept_of known s first bytes h.lines h.left h.session h.number h.within h.goes

-- at the end of the bytes
pub kept_at_end : (known : Known) (s : Script InThreads) (first : ℕ) (bytes : List ℕ) (o : Outcome)
    → ComesToEnd (IsKept known) s first bytes o → Kept known s first bytes
kept_at_end known s first bytes outcome.Ran h =
    kept_of known s first bytes h.lines [] h.session h.number h.within (h.all ∙ sym (append-nil h.lines))
kept_at_end known s first bytes (outcome.BadLine number reason) h = of_short known s first bytes (outcome.BadLine number reason) h
kept_at_end known s first bytes outcome.OutOfMemory h = of_short known s first bytes outcome.OutOfMemory h
kept_at_end known s first bytes outcome.Unmerged h = of_short known s first bytes outcome.Unmerged h
kept_at_end known s first bytes outcome.Failed h = of_short known s first bytes outcome.Failed h

-- more may come
pub kept_before : (known : Known) (s : Script InThreads) (first : ℕ) (bytes rest : List ℕ) → HasKept (IsKept known) s first bytes
    → Kept known s first (bytes ++ rest)
kept_before known s first bytes rest h =
    kept_of known s first (bytes ++ rest) h.lines (lines_of (s.pending.items ++ rest)) h.session h.number h.within (h.goes rest)

pub kept_on : (known : Known) (s : Script InThreads) (first : ℕ) (bytes left : List ℕ) (remaining : Option (List ℕ)) (r : Option Outcome)
    → ReadsOn (IsKept known) s first bytes left remaining r → Kept known s first (bytes ++ left)
kept_on known s first bytes left remaining None m =
    subst (Kept known s first) (append_assoc bytes m.chunk m.after ∙ ap (λ (w : List ℕ). bytes ++ w) (sym m.parts))
    (kept_before known s first (bytes ++ m.chunk) m.after m.kept)
kept_on known s first bytes left remaining (Some o) h = kept_at_end known s first (bytes ++ left) o h

-- where one of them is bad, the script ends there
pub ends_in_lines : (from : Known) (input : List ℕ) (remaining : Option (List ℕ)) (s mid new : Script InThreads) (session : ThreadedSession)
    (o : Outcome) (a : Along from input remaining s) → Kept a.known mid s.number (s.pending.items ++ a.left)
    → RunsLines a.known s.number (kept_lines mid.session) mid new (Err o) → RunsScript from input session o
ends_in_lines from input remaining s mid new session (outcome.BadLine number reason) a k r =
    bad_later from a.known (lines_of input) a.done (kept_lines mid.session) k.left s.number number reason
    (ap lines_of a.parts ∙ a.goes a.left ∙ ap (λ (l : List (List ℕ)). a.done ++ l) k.goes) a.led a.number r
ends_in_lines from input remaining s mid new session outcome.Ran a k r = absurd r
ends_in_lines from input remaining s mid new session outcome.Unmerged a k r = absurd r
ends_in_lines from input remaining s mid new session outcome.OutOfMemory a k r = tt
ends_in_lines from input remaining s mid new session outcome.Failed a k r = tt

-- the read went on, and its lines were run
pub goes_along : (from : Known) (input : List ℕ) (before after : Option (List ℕ)) (s mid new : Script InThreads)
    (a : Along from input before s) → ReadMore (IsKept a.known) mid s.number s.pending.items a.left after
    → RanLines a.known (kept_lines mid.session) mid new → Along from input after new
goes_along from input before after s mid new a m r =
    let it = m.kept.session in
    let count = ap (λ (l : List (List ℕ)). length l) it.1 in record {
      bytes = a.bytes ++ m.chunk;
      left = m.after;
      parts = a.parts ∙ ap (λ (w : List ℕ). a.bytes ++ w) m.parts ∙ sym (append_assoc a.bytes m.chunk m.after);
      remains = m.remains;
      done = a.done ++ kept_lines mid.session;
      known = r.last;
      led = leads_on from a.done (kept_lines mid.session) a.known r.last a.led r.led;
      is_known = r.is_known;
      none = r.none;
      number =
          let l = length-append a.done (kept_lines mid.session) in
          let n = a.number in let k = m.kept.number in let e = r.number in omega arith;
      within = let e = r.number in let w = m.kept.within in omega arith;
      one_line = subst IsOneLine (sym r.pending) m.kept.one_line;
      goes = λ rest. ap lines_of (append_assoc a.bytes m.chunk rest) ∙ a.goes (m.chunk ++ rest)
          ∙ ap (λ (w : List ℕ). a.done ++ lines_of w) (sym (append_assoc s.pending.items m.chunk rest))
          ∙ ap (λ (l : List (List ℕ)). a.done ++ l) (m.kept.goes rest)
          ∙ ap (λ (l : List (List ℕ)). a.done ++ (l ++ lines_of (mid.pending.items ++ rest))) it.1
          ∙ sym (append_assoc a.done (kept_lines mid.session) (lines_of (mid.pending.items ++ rest)))
          ∙ ap (λ (w : List ℕ). (a.done ++ kept_lines mid.session) ++ lines_of (w ++ rest)) (sym r.pending);
    }

-- the script has come to its end, and its lines were run
pub ends_along : (from : Known) (input : List ℕ) (before : Option (List ℕ)) (s mid new : Script InThreads) (o : Outcome)
    (a : Along from input before s) → ComesToEnd (IsKept a.known) mid s.number (s.pending.items ++ a.left) o
    → RanLines a.known (kept_lines mid.session) mid new → RunsScript from input new.session.session o
ends_along from input before s mid new outcome.Ran a h r =
    let it = h.session in
    let whole : lines_of input ≡ a.done ++ kept_lines mid.session =
    ap lines_of a.parts ∙ a.goes a.left ∙ ap (λ (l : List (List ℕ)). a.done ++ l) (h.all ∙ it.1) in record {
      last = r.last;
      led = subst (λ (l : List (List ℕ)). LeadsTo from l r.last) (sym whole)
          (leads_on from a.done (kept_lines mid.session) a.known r.last a.led r.led);
      is_known = r.is_known;
    }
ends_along from input before s mid new (outcome.BadLine number reason) a h r =
    let it = h.session in
    let long = h.blames.3 in
    let whole : lines_of input ≡ (a.done ++ kept_lines mid.session) ++ long.line ∷ long.more =
    ap lines_of a.parts ∙ a.goes a.left ∙ ap (λ (l : List (List ℕ)). a.done ++ l) (h.goes ∙ ap (λ (l : List (List ℕ)). l ++ h.left) it.1)
    ∙ sym (append_assoc a.done (kept_lines mid.session) h.left)
    ∙ ap (λ (l : List (List ℕ)). (a.done ++ kept_lines mid.session) ++ l) long.parts in record {
      before = a.done ++ kept_lines mid.session;
      line = long.line;
      after = long.more;
      parts = whole;
      number_is =
          let l = length-append a.done (kept_lines mid.session) in let n = a.number in let k = h.number in
          let count = ap (λ (ls : List (List ℕ)). length ls) it.1 in let b = h.blames.0 in omega arith;
      within = let b = h.blames.0 in let w = h.blames.1 in omega arith;
      at = r.last;
      led = leads_on from a.done (kept_lines mid.session) a.known r.last a.led r.led;
      says = too_long r.last long.line long.long ∙ ap (λ (x : Reason). Err x) (sym h.blames.2);
    }
ends_along from input before s mid new outcome.OutOfMemory a h r = tt
ends_along from input before s mid new outcome.Unmerged a h r = absurd h.blames
ends_along from input before s mid new outcome.Failed a h r = tt

-- ---- the end

pub before_the_first : (s : Script InThreads) (input : List ℕ) (remaining : Option (List ℕ)) → remaining ≡ Some input
    → HasKept (IsKept fresh_known) s 1 [] → kept_lines s.session ≡ [] → Along fresh_known input remaining s
before_the_first s input remaining e h none =
    let no_lines : h.lines ≡ [] = h.session.1 ∙ none in
    let count = ap (λ (l : List (List ℕ)). length l) no_lines in record {
      bytes = [];
      left = input;
      parts = refl;
      remains = e;
      done = [];
      known = fresh_known;
      led = refl;
      is_known = h.session.0;
      none = none;
      number = let n = h.number in omega arith;
      within = h.within;
      one_line = h.one_line;
      goes = λ rest. h.goes rest ∙ ap (λ (l : List (List ℕ)). l ++ lines_of (s.pending.items ++ rest)) no_lines;
    }

not_merged : (input : Option (List ℕ)) (session : ThreadedSession) → IfSome input (λ bytes. HasRun fresh_known bytes session)
    → AreUnmerged session.threads.cast → IfSome input NotMerged
not_merged None session run u = tt
not_merged (Some bytes) session run u = record { session = session; run = run; unmerged = u }

-- a session that has told its merge ends the script so
pub ends_merged : (trace : Bool) (session : ThreadedSession) (input old new : Option (List ℕ)) (o : Outcome)
    → IfSome input (λ bytes. HasRun fresh_known bytes session) → Tells trace session old new o → EndsThreaded trace input new o
ends_merged trace session input old new outcome.Ran run told = record { session = session; run = run; before = old; told = told }
ends_merged trace session input old new outcome.Unmerged run told = not_merged input session run told
ends_merged trace session input old new (outcome.BadLine number reason) run told = absurd told
ends_merged trace session input old new outcome.OutOfMemory run told = tt
ends_merged trace session input old new outcome.Failed run told = tt

-- one that hasn't run through ends it by its own error
pub ends_early : (trace : Bool) (session : ThreadedSession) (input new : Option (List ℕ)) (o : Outcome) → (o ≡ outcome.Ran → ⊥)
    → ((bytes : List ℕ) → input ≡ Some bytes → RunsScript fresh_known bytes session o) → EndsThreaded trace input new o
ends_early trace session input new outcome.Ran n h = absurd (n refl)
ends_early trace session input new outcome.Unmerged n h = for_known input NotMerged (λ bytes e. absurd (h bytes e))
ends_early trace session input new (outcome.BadLine number reason) n h =
    for_known input (λ bytes. IsBadLine fresh_known 1 (lines_of bytes) number reason) h
ends_early trace session input new outcome.OutOfMemory n h = tt
ends_early trace session input new outcome.Failed n h = tt

-- a flush writes nothing more
pub flushed_merged : (trace : Bool) (input mid new : Option (List ℕ)) (o : Outcome) → Keeps mid new → EndsThreaded trace input mid o
    → EndsThreaded trace input new o
flushed_merged trace input mid new outcome.Ran kept merged =
    let told = merged.told in
    record {
      session = merged.session;
      run = merged.run;
      before = merged.before;
      told = record { text = told.text; ends = told.ends; appended = keeps_appended merged.before mid new told.text kept told.appended };
    }
flushed_merged trace input mid new outcome.Unmerged kept merged = merged
flushed_merged trace input mid new (outcome.BadLine number reason) kept merged = merged
flushed_merged trace input mid new outcome.OutOfMemory kept merged = tt
flushed_merged trace input mid new outcome.Failed kept merged = tt
