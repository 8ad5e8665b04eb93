-- How the run of a script goes on as its bytes come.
use Rattle.std.proofs.Common.{◌≡◌, ◌≤◌, ◌<◌, ℕ, zero, suc, ◌+◌, eqb, ltb, Bool, true, false, cond, List, [], ◌∷◌, ◌++◌, length}
use Rattle.std.proofs.Common.{take, drop, All, Option, None, Some, Result, Ok, Err, refl, sym, ap, subst, ◌∙◌, append_assoc, arith}
use Rattle.std.proofs.lemmas.Bool.{lt-ltb, le-ltb, eqb-true}
use Rattle.std.proofs.lemmas.List.{append-nil, length-append, take-append-drop}
use Rattle.std.proofs.lemmas.List.Elements.{All-head, All-tail, All-push, All-append}
use Rattle.std.proofs.lemmas.List.Splits.{slice_split_at, slice_split_none, slice_split-cons_no}
use Rattle.std.specs.List.{slice_split, onto_first}
use Rattle.std.specs.Io.KnownBytes.{Appends, Consumes, Keeps, IsAtEnd, ReadConsumes}
use Rattle.script_lines.specs.Breaks.{is_break}
use Rattle.script_lines.specs.declared.reason.Reason.{Reason}
use Rattle.script_lines.specs.declared.reason.Reason.TheVariants.{TooLong}
use Rattle.script_core.specs.declared.script.Outcome.{Outcome}
use Rattle.script_core.specs.declared.script.Outcome.TheVariants as outcome
use Rattle.std.specs.Prelude.{IfSome}
use Rattle.script_session.specs.declared.session.Stop.{Stop}
use Rattle.script_session.specs.declared.session.Stop.TheVariants.{Bad}
use Rattle.script_session.specs.Session.{State, Step, line_does}
use Rattle.script_core.specs.Lines.{Heeds, Steps}
use Rattle.script_core.specs.Script.{Run, TooManyLines, stops, prints, runs_step, runs_lines, runs_from, lines_of, without_empty_last}
use Rattle.script_core.specs.Outcomes.{AppendsFront, Answers, Position, opening, rest_of, Reaches, Took, Progress, fault_at}

-- ---- the written text

pub appends_nothing : (held : Option (List ℕ)) → Appends held held []
appends_nothing None = tt
appends_nothing (Some xs) = sym (append-nil xs)

pub appends_both : (old mid new : Option (List ℕ)) (xs ys : List ℕ) → Appends old mid xs → Appends mid new ys → Appends old new (xs ++ ys)
appends_both None mid new xs ys a b = tt
appends_both (Some h) None new xs ys a b = absurd a
appends_both (Some h) (Some i) None xs ys a b = absurd b
appends_both (Some h) (Some i) (Some j) xs ys a b = b ∙ ap (λ (w : List ℕ). w ++ ys) a ∙ append_assoc h xs ys

-- a beginning of what is left, behind what was written before
front_after : (text more : List ℕ) (old mid new : Option (List ℕ)) → Appends old mid text → AppendsFront more mid new
    → AppendsFront (text ++ more) old new
front_after text more old mid new a h = record {
  front = text ++ h.front;
  rest = h.rest;
  parts = ap (λ (w : List ℕ). text ++ w) h.parts ∙ sym (append_assoc text h.front h.rest);
  appended = appends_both old mid new text h.front a h.appended;
}

-- an answer to what is left, behind what was written before
pub answers_after : (text : List ℕ) (r : Run) (old mid new : Option (List ℕ)) (o : Outcome) → Appends old mid text
    → Answers r mid new o → Answers (prints text r) old new o
answers_after text r old mid new outcome.Ran a h = (h.0, appends_both old mid new text r.text a h.1)
answers_after text r old mid new (outcome.BadLine number reason) a h = (h.0, appends_both old mid new text r.text a h.1)
answers_after text r old mid new outcome.OutOfMemory a h = front_after text r.text old mid new a h
answers_after text r old mid new outcome.Unmerged a h = absurd h
answers_after text r old mid new outcome.Failed a h = front_after text r.text old mid new a h

-- nothing was written
pub front_none : (text : List ℕ) (held : Option (List ℕ)) → AppendsFront text held held
front_none text held = record { front = []; rest = text; parts = refl; appended = appends_nothing held }

-- a beginning of the text, and more may follow the text
pub front_more : (text more : List ℕ) (old new : Option (List ℕ)) → AppendsFront text old new → AppendsFront (text ++ more) old new
front_more text more old new h = record {
  front = h.front;
  rest = h.rest ++ more;
  parts = ap (λ (w : List ℕ). w ++ more) h.parts ∙ append_assoc h.front h.rest more;
  appended = h.appended;
}

-- all of the text
pub front_whole : (text : List ℕ) (old new : Option (List ℕ)) → Appends old new text → AppendsFront text old new
front_whole text old new a = record { front = text; rest = []; parts = sym (append-nil text); appended = a }

-- whatever was answered, a beginning was written
pub answers_front : (r : Run) (old new : Option (List ℕ)) (o : Outcome) → Answers r old new o → AppendsFront r.text old new
answers_front r old new outcome.Ran h = front_whole r.text old new h.1
answers_front r old new (outcome.BadLine number reason) h = front_whole r.text old new h.1
answers_front r old new outcome.OutOfMemory h = h
answers_front r old new outcome.Unmerged h = absurd h
answers_front r old new outcome.Failed h = h

pub keeps_appended : (old mid new : Option (List ℕ)) (text : List ℕ) → Keeps mid new → Appends old mid text → Appends old new text
keeps_appended None mid new text k a = tt
keeps_appended (Some xs) None new text k a = absurd a
keeps_appended (Some xs) (Some ys) None text k a = absurd k
keeps_appended (Some xs) (Some ys) (Some zs) text k a = k ∙ a

pub keeps_front : (text : List ℕ) (old mid new : Option (List ℕ)) → Keeps mid new → AppendsFront text old mid → AppendsFront text old new
keeps_front text old mid new k h = record {
  front = h.front;
  rest = h.rest;
  parts = h.parts;
  appended = keeps_appended old mid new h.front k h.appended;
}

pub keeps_nothing : (old new : Option (List ℕ)) → Keeps old new → Appends old new []
keeps_nothing None new k = tt
keeps_nothing (Some xs) None k = absurd k
keeps_nothing (Some xs) (Some ys) k = k ∙ sym (append-nil xs)

-- of the bytes all but the rest were written
pub record Wrote (bytes rest : List ℕ) (old new : Option (List ℕ)) : Type 0 where
  pub front : List ℕ
  pub parts : bytes ≡ front ++ rest
  pub appended : Appends old new front

pub wrote_none : (bytes : List ℕ) (held : Option (List ℕ)) → Wrote bytes bytes held held
wrote_none bytes held = record { front = []; parts = refl; appended = appends_nothing held }

pub wrote_more : (bytes rest : List ℕ) (n : ℕ) (old mid new : Option (List ℕ)) → Wrote bytes rest old mid
    → Appends mid new (take n rest) → Wrote bytes (drop n rest) old new
wrote_more bytes rest n old mid new w a = record {
  front = w.front ++ take n rest;
  parts =
      w.parts ∙ ap (λ (r : List ℕ). w.front ++ r) (sym (take-append-drop n rest)) ∙ sym (append_assoc w.front (take n rest) (drop n rest));
  appended = appends_both old mid new w.front (take n rest) w.appended a;
}

pub wrote_whole : (bytes rest : List ℕ) (old new : Option (List ℕ)) → rest ≡ [] → Wrote bytes rest old new → Appends old new bytes
wrote_whole bytes rest old new e w =
    subst (Appends old new) (sym (w.parts ∙ ap (λ (r : List ℕ). w.front ++ r) e ∙ append-nil w.front)) w.appended

pub wrote_front : (bytes rest : List ℕ) (old mid new : Option (List ℕ)) → Wrote bytes rest old mid → Appends mid new []
    → AppendsFront bytes old new
wrote_front bytes rest old mid new w a = record {
  front = w.front ++ [];
  rest = rest;
  parts = w.parts ∙ ap (λ (r : List ℕ). r ++ rest) (sym (append-nil w.front));
  appended = appends_both old mid new w.front [] w.appended a;
}

prints_twice : (a b : List ℕ) (r : Run) → prints a (prints b r) ≡ prints (a ++ b) r
prints_twice a b r = ap (λ (w : List ℕ). record { state = r.state; text = w; verdict = r.verdict }) (sym (append_assoc a b r.text))

pub reaches_none : (p : Position) (s : Position → Type 0) (held : Option (List ℕ)) → s p → Reaches p [] s held held
reaches_none p s held at = record { to = p; text = []; at = at; goes = λ rest. refl; appended = appends_nothing held }

-- some bytes, and then others
pub took_both : (p : Position) (xs ys : List ℕ) (s t : Position → Type 0) (old mid new : Option (List ℕ)) (r : Result (Unit {0}) Outcome)
    → Reaches p xs s old mid → ((q : Position) → s q → Took q ys t mid new r) → Took p (xs ++ ys) t old new r
took_both p xs ys s t old mid new (Ok x) h k =
    let l = k h.to h.at in
    record {
      to = l.to;
      text = h.text ++ l.text;
      at = l.at;
      goes = λ rest. ap (rest_of p) (append_assoc xs ys rest) ∙ h.goes (ys ++ rest) ∙ ap (prints h.text) (l.goes rest)
          ∙ prints_twice h.text l.text (rest_of l.to rest);
      appended = appends_both old mid new h.text l.text h.appended l.appended;
    }
took_both p xs ys s t old mid new (Err o) h k = λ rest.
    subst (λ (r : Run). Answers r old new o) (sym (ap (rest_of p) (append_assoc xs ys rest) ∙ h.goes (ys ++ rest)))
    (answers_after h.text (rest_of h.to (ys ++ rest)) old mid new o h.appended (k h.to h.at rest))

-- ---- lines

one_part_more : (xs : List ℕ) → (first : List ℕ) × (more : List (List ℕ)) × (slice_split is_break xs ≡ first ∷ more)
one_part_more [] = ([], [], refl)
one_part_more (x ∷ xs) = by (is_break x) (slice_split is_break xs) (one_part_more xs)
  where
    by : (b : Bool) (parts : List (List ℕ)) → (first : List ℕ) × (more : List (List ℕ)) × (parts ≡ first ∷ more)
        → (first : List ℕ) × (more : List (List ℕ)) × (cond b ([] ∷ parts) (onto_first x parts) ≡ first ∷ more)
    by true parts h = ([], parts, refl)
    by false parts h = (x ∷ h.0, h.1, ap (onto_first x) h.2)

keep_first : (x : List ℕ) (parts : List (List ℕ)) → ((first : List ℕ) × (more : List (List ℕ)) × (parts ≡ first ∷ more))
    → without_empty_last (x ∷ parts) ≡ x ∷ without_empty_last parts
keep_first x parts h =
    ap (λ (w : List (List ℕ)). without_empty_last (x ∷ w)) h.2 ∙ ap (λ (w : List (List ℕ)). x ∷ without_empty_last w) (sym h.2)

-- a line break ends the line
pub lines-break : (pending rest : List ℕ) → All (λ c. is_break c ≡ false) pending → lines_of (pending ++ 10 ∷ rest) ≡ pending ∷ lines_of rest
lines-break pending rest h =
    ap without_empty_last (slice_split_at is_break pending 10 rest h refl)
    ∙ keep_first pending (slice_split is_break rest) (one_part_more rest)

empty_last : (line : List ℕ) (b : Bool) → eqb (length line) 0 ≡ b → 0 < length line → cond b [] (line ∷ []) ≡ line ∷ []
empty_last line false e h = refl
empty_last [] true e h = absurd (omega arith)
empty_last (x ∷ xs) true e h = absurd (let none = eqb-true (length (x ∷ xs)) 0 e in omega arith)

-- so does the end, where there is a line
pub lines-end : (pending : List ℕ) → 0 < length pending → All (λ c. is_break c ≡ false) pending
    → lines_of (pending ++ []) ≡ lines_of (pending ++ 10 ∷ [])
lines-end pending some h =
    ap lines_of (append-nil pending) ∙ ap without_empty_last (slice_split_none is_break pending h)
    ∙ empty_last pending (eqb (length pending) 0) refl some ∙ sym (lines-break pending [] h)

-- the first line begins with what has come of it
first_line : (xs ys : List ℕ) → All (λ c. is_break c ≡ false) xs → (front : List ℕ) × (more : List (List ℕ))
    × (slice_split is_break (xs ++ ys) ≡ (xs ++ front) ∷ more)
first_line [] ys h = one_part_more ys
first_line (x ∷ xs) ys h =
    let k = first_line xs ys (All-tail (λ (c : ℕ). is_break c ≡ false) x xs h) in
    (k.0, k.1, slice_split-cons_no is_break x (xs ++ ys) (All-head (λ (c : ℕ). is_break c ≡ false) x xs h) ∙ ap (onto_first x) k.2)

pub long_line : (xs ys : List ℕ) → 0 < length xs → All (λ c. is_break c ≡ false) xs → (front : List ℕ) × (more : List (List ℕ))
    × (lines_of (xs ++ ys) ≡ (xs ++ front) ∷ more)
long_line xs ys some h =
    let k = first_line xs ys h in
    by k.0 k.1 (ap without_empty_last k.2)
  where
    by : (front : List ℕ) (more : List (List ℕ)) → lines_of (xs ++ ys) ≡ without_empty_last ((xs ++ front) ∷ more)
        → (front : List ℕ) × (more : List (List ℕ)) × (lines_of (xs ++ ys) ≡ (xs ++ front) ∷ more)
    by front [] e =
        (front, [], e ∙ empty_last (xs ++ front) (eqb (length (xs ++ front)) 0) refl (let l = length-append xs front in omega arith))
    by front (m ∷ ms) e = (front, without_empty_last (m ∷ ms), e)

-- ---- steps of a run

-- bytes of a line
pub more_bytes : (p : Position) (text rest : List ℕ)
    → rest_of p (text ++ rest) ≡ rest_of (record { number = p.number; state = p.state; pending = p.pending ++ text }) rest
more_bytes p text rest = ap (λ (w : List ℕ). runs_lines p.number p.state (lines_of w)) (sym (append_assoc p.pending text rest))

-- a byte of a line
pub one_byte : (p : Position) (byte : ℕ) (rest : List ℕ)
    → rest_of p (byte ∷ rest) ≡ rest_of (record { number = p.number; state = p.state; pending = p.pending ++ byte ∷ [] }) rest
one_byte p byte rest = ap (λ (w : List ℕ). runs_lines p.number p.state (lines_of w)) (sym (append_assoc p.pending (byte ∷ []) rest))

-- a whole line that is run
pub one_line : (p : Position) (step : Step) (rest : List ℕ) → p.number ≤ 1048576 → All (λ c. is_break c ≡ false) p.pending
    → line_does p.state p.pending ≡ Ok step
    → rest_of p (10 ∷ rest) ≡ prints step.text (rest_of (record { number = p.number + 1; state = step.state; pending = [] }) rest)
one_line p step rest within h does =
    ap (runs_lines p.number p.state) (lines-break p.pending rest h)
    ∙ ap (λ (b : Bool). cond b (stops TooManyLines p.state) (runs_step p.number p.state (line_does p.state p.pending)
    (λ (after : State). runs_lines (p.number + 1) after (lines_of rest)))) (le-ltb 1048576 p.number within)
    ∙ ap
    (λ (r : Result Step Reason). runs_step p.number p.state r (λ (after : State). runs_lines (p.number + 1) after (lines_of rest))) does

-- a bad line, or one too many
bad_lines : (number : ℕ) (state : State) (line : List ℕ) (more : List (List ℕ)) (reason : Reason) (held : Option (List ℕ))
    → line_does state line ≡ Err reason → Answers (runs_lines number state (line ∷ more)) held held (fault_at number reason)
bad_lines number state line more reason held does = by (ltb 1048576 number)
  where
    by : (b : Bool) → Answers (cond b (stops TooManyLines state)
        (runs_step number state (line_does state line) (λ (after : State). runs_lines (number + 1) after more))) held held (cond
        b outcome.Failed (outcome.BadLine number reason))
    by true = front_none [] held
    by false =
        subst (λ (r : Result Step Reason). Answers
        (runs_step number state r (λ (after : State). runs_lines (number + 1) after more)) held held
        (outcome.BadLine number reason)) (sym does) (refl, appends_nothing held)

pub bad_line : (p : Position) (reason : Reason) (rest : List ℕ) (held : Option (List ℕ))
    → All (λ c. is_break c ≡ false) p.pending → line_does p.state p.pending ≡ Err reason
    → Answers (rest_of p (10 ∷ rest)) held held (fault_at p.number reason)
bad_line p reason rest held h does =
    subst (λ (lines : List (List ℕ)). Answers (runs_lines p.number p.state lines) held held (fault_at p.number reason))
    (sym (lines-break p.pending rest h)) (bad_lines p.number p.state p.pending (lines_of rest) reason held does)

pub one_more : (pending : List ℕ) (byte : ℕ) → All (λ c. is_break c ≡ false) pending → is_break byte ≡ false
    → All (λ c. is_break c ≡ false) (pending ++ byte ∷ [])
one_more pending byte h b = All-push (λ (c : ℕ). is_break c ≡ false) pending byte h b

pub fault_within : (number : ℕ) (reason : Reason) → number ≤ 1048576 → fault_at number reason ≡ outcome.BadLine number reason
fault_within number reason h = rw (le-ltb 1048576 number h) refl

too_long : (state : State) (line : List ℕ) → 65536 < length line → line_does state line ≡ Err TooLong
too_long state line h = rw (lt-ltb 65536 (length line) h) refl

-- a byte too many in a line
pub long_byte : (p : Position) (byte : ℕ) (rest : List ℕ) (held : Option (List ℕ)) → All (λ c. is_break c ≡ false) p.pending
    → is_break byte ≡ false → 65536 ≤ length p.pending
    → Answers (rest_of p (byte ∷ rest)) held held (fault_at p.number TooLong)
long_byte p byte rest held h b full =
    let xs : List ℕ = p.pending ++ byte ∷ [] in
    let longer : length xs ≡ length p.pending + 1 = length-append p.pending (byte ∷ []) in
    let open_line = one_more p.pending byte h b in
    let l = long_line xs rest (omega arith) open_line in
    let longer_line : length (xs ++ l.0) ≡ length xs + length l.0 = length-append xs l.0 in
    subst (λ (r : Run). Answers r held held (fault_at p.number TooLong))
    (sym (one_byte p byte rest ∙ ap (runs_lines p.number p.state) l.2))
    (bad_lines p.number p.state (xs ++ l.0) l.1 TooLong held (too_long p.state (xs ++ l.0) (omega arith)))

-- more bytes than a line has room for
pub long_text : (p : Position) (text rest : List ℕ) (held : Option (List ℕ)) → All (λ c. is_break c ≡ false) p.pending
    → All (λ c. is_break c ≡ false) text → 65536 < length p.pending + length text
    → Answers (rest_of p (text ++ rest)) held held (fault_at p.number TooLong)
long_text p text rest held h b full =
    let xs : List ℕ = p.pending ++ text in
    let longer : length xs ≡ length p.pending + length text = length-append p.pending text in
    let l = long_line xs rest (omega arith) (All-append (λ (c : ℕ). is_break c ≡ false) p.pending text h b) in
    let longer_line : length (xs ++ l.0) ≡ length xs + length l.0 = length-append xs l.0 in
    subst (λ (r : Run). Answers r held held (fault_at p.number TooLong))
    (sym (more_bytes p text rest ∙ ap (runs_lines p.number p.state) l.2))
    (bad_lines p.number p.state (xs ++ l.0) l.1 TooLong held (too_long p.state (xs ++ l.0) (omega arith)))

-- the end of the input
pub at_end : (p : Position) (held : Option (List ℕ)) → p.pending ≡ [] → Answers (rest_of p []) held held outcome.Ran
at_end p held e =
    subst (λ (pending : List ℕ). Answers (runs_lines p.number p.state (lines_of (pending ++ []))) held held outcome.Ran)
    (sym e) (refl, appends_nothing held)

pub end_is_break : (p : Position) → 0 < length p.pending → All (λ c. is_break c ≡ false) p.pending → rest_of p [] ≡ rest_of p (10 ∷ [])
end_is_break p some h = ap (runs_lines p.number p.state) (lines-end p.pending some h)

-- a last line was run, and nothing comes
pub ran_to_end : (p : Position) (s : Position → Type 0) (old new : Option (List ℕ)) → 0 < length p.pending
    → All (λ c. is_break c ≡ false) p.pending → (t : Reaches p (10 ∷ []) s old new) → t.to.pending ≡ []
    → Answers (rest_of p []) old new outcome.Ran
ran_to_end p s old new some h t e =
    subst (λ (r : Run). Answers r old new outcome.Ran) (sym (end_is_break p some h ∙ t.goes []))
    (answers_after t.text (rest_of t.to []) old new new outcome.Ran t.appended (at_end t.to new e))

-- ---- the answers of calls

pub heeds_bad : {S : Type 0} (stands : S → State → Type 0) (does : Result Step Reason) (session : S) (old new : List ℕ)
    (r : Result (Unit {0}) Stop) (stop : Stop) (reason : Reason) → r ≡ Err stop → stop ≡ Bad reason
    → Heeds stands does session old new r → does ≡ Err reason
heeds_bad stands does session old new r stop reason e s o = subst (Heeds stands does session old new) (e ∙ ap (λ (w : Stop). Err w) s) o

pub heeds_ok : {S : Type 0} (stands : S → State → Type 0) (does : Result Step Reason) (session : S) (old new : List ℕ)
    (r : Result (Unit {0}) Stop) (x : Unit {0}) → r ≡ Ok x → Heeds stands does session old new r
    → Steps stands does session old new
heeds_ok stands does session old new r x e o = subst (Heeds stands does session old new) e o

pub not_break : (byte : ℕ) → (byte ≡ 10 → ⊥) → is_break byte ≡ false
not_break byte h = by (is_break byte) refl
  where
    by : (b : Bool) → is_break byte ≡ b → b ≡ false
    by true e = absurd (h (eqb-true byte 10 e))
    by false e = refl

pub some_pending : (n : ℕ) → false ≡ eqb n 0 → 0 < n
some_pending zero e = absurd cc
some_pending (suc n) e = omega arith

pub took_front : (p : Position) (xs ys : List ℕ) (s : Position → Type 0) (old new : Option (List ℕ)) (o : Outcome)
    → Took p xs s old new (Err o) → Took p (xs ++ ys) s old new (Err o)
took_front p xs ys s old new o h =
    λ rest. subst (λ (bytes : List ℕ). Answers (rest_of p bytes) old new o) (sym (append_assoc xs ys rest)) (h (ys ++ rest))

-- of the bytes those before the rest were taken
pub record TookUpTo (p : Position) (bytes rest : List ℕ) (is_at : Position → Type 0) (old new : Option (List ℕ)) : Type 0 where
  pub front : List ℕ
  pub parts : bytes ≡ front ++ rest
  pub reached : Reaches p front is_at old new

pub took_up_to_none : (p : Position) (bytes : List ℕ) (s : Position → Type 0) (held : Option (List ℕ)) → s p
    → TookUpTo p bytes bytes s held held
took_up_to_none p bytes s held at = record { front = []; parts = refl; reached = reaches_none p s held at }

pub took_further : (p : Position) (bytes rest xs ys : List ℕ) (s t : Position → Type 0) (old mid new : Option (List ℕ))
    → TookUpTo p bytes rest s old mid → rest ≡ xs ++ ys → ((q : Position) → s q → Reaches q xs t mid new)
    → TookUpTo p bytes ys t old new
took_further p bytes rest xs ys s t old mid new h e k = record {
  front = h.front ++ xs;
  parts = h.parts ∙ ap (λ (w : List ℕ). h.front ++ w) e ∙ sym (append_assoc h.front xs ys);
  reached = took_both p h.front xs s t old mid new (Ok tt) h.reached k;
}

-- taking failed
pub stopped_there : (p : Position) (bytes rest xs ys : List ℕ) (s t : Position → Type 0) (old mid new : Option (List ℕ)) (o : Outcome)
    → TookUpTo p bytes rest s old mid → rest ≡ xs ++ ys → ((q : Position) → s q → Took q xs t mid new (Err o))
    → Took p bytes t old new (Err o)
stopped_there p bytes rest xs ys s t old mid new o h e k =
    let whole : (h.front ++ xs) ++ ys ≡ bytes =
    append_assoc h.front xs ys ∙ ap (λ (w : List ℕ). h.front ++ w) (sym e) ∙ sym h.parts in
    subst (λ (w : List ℕ). Took p w t old new (Err o)) whole
    (took_front p (h.front ++ xs) ys t old new o (took_both p h.front xs s t old mid new (Err o) h.reached k))

-- ---- the whole input

pub begins : (from : State) (input : List ℕ) (remaining : Option (List ℕ)) (s : Position → Type 0) (held : Option (List ℕ))
    → remaining ≡ Some input → s (opening from) → Progress from input remaining s held held
begins from input remaining s held e at = record {
  bytes = [];
  left = input;
  remains = e;
  parts = refl;
  reached = reaches_none (opening from) s held at;
}

-- the text written so far is a beginning
pub progress_front : (from : State) (input : List ℕ) (remaining : Option (List ℕ)) (s : Position → Type 0) (old new : Option (List ℕ))
    → Progress from input remaining s old new → AppendsFront (runs_from from input).text old new
progress_front from input remaining s old new q =
    let r = q.reached in
    subst (λ (run : Run). AppendsFront run.text old new) (sym (ap (rest_of (opening from)) q.parts ∙ r.goes q.left))
    (front_more r.text (rest_of r.to q.left).text old new (front_whole r.text old new r.appended))

pub consumed : (old new : Option (List ℕ)) (bs left : List ℕ) → old ≡ Some left → Consumes old new bs → (more : List ℕ)
    × (new ≡ Some more) × (left ≡ bs ++ more)
consumed None new bs left e h = absurd cc
consumed (Some xs) None bs left e h = absurd h
consumed (Some xs) (Some ys) bs left e h = (ys, refl, let same : xs ≡ left = cc in sym same ∙ h)

pub kept : (from : State) (input : List ℕ) (before after : Option (List ℕ)) (s : Position → Type 0) (old new : Option (List ℕ))
    → Keeps before after → Progress from input before s old new → Progress from input after s old new
kept from input before after s old new k q = record {
  bytes = q.bytes;
  left = q.left;
  remains = same before after q.left q.remains k;
  parts = q.parts;
  reached = q.reached;
}
  where
    same : (b a : Option (List ℕ)) (left : List ℕ) → b ≡ Some left → Keeps b a → a ≡ Some left
    same None a left e h = absurd cc
    same (Some xs) None left e h = absurd h
    same (Some xs) (Some ys) left e h = ap (λ (w : List ℕ). Some w) h ∙ e

-- more of it was read and taken
pub goes_on : (from : State) (input chunk : List ℕ) (before after : Option (List ℕ)) (s t : Position → Type 0)
    (old mid new : Option (List ℕ)) → Consumes before after chunk → Progress from input before s old mid
    → ((p : Position) → s p → Took p chunk t mid new (Ok tt)) → Progress from input after t old new
goes_on from input chunk before after s t old mid new c q k =
    let m = consumed before after chunk q.left q.remains c in
    record {
      bytes = q.bytes ++ chunk;
      left = m.0;
      remains = m.1;
      parts = q.parts ∙ ap (λ (w : List ℕ). q.bytes ++ w) m.2 ∙ sym (append_assoc q.bytes chunk m.0);
      reached = took_both (opening from) q.bytes chunk s t old mid new (Ok tt) q.reached k;
    }

-- it was read and answered by an error
pub ends_there : (from : State) (input chunk : List ℕ) (before after : Option (List ℕ)) (s t : Position → Type 0)
    (old mid new : Option (List ℕ)) (o : Outcome) → Consumes before after chunk → Progress from input before s old mid
    → ((p : Position) → s p → Took p chunk t mid new (Err o)) → Answers (runs_from from input) old new o
ends_there from input chunk before after s t old mid new o c q k =
    let m = consumed before after chunk q.left q.remains c in
    let whole : input ≡ (q.bytes ++ chunk) ++ m.0 =
    q.parts ∙ ap (λ (w : List ℕ). q.bytes ++ w) m.2 ∙ sym (append_assoc q.bytes chunk m.0) in
    subst (λ (w : List ℕ). Answers (rest_of (opening from) w) old new o) (sym whole)
    (took_both (opening from) q.bytes chunk s t old mid new (Err o) q.reached k m.0)

-- nothing is left of it
pub ends : (from : State) (input : List ℕ) (before after : Option (List ℕ)) (s : Position → Type 0)
    (old mid new : Option (List ℕ)) (o : Outcome) → Consumes before after [] → IsAtEnd after
    → Progress from input before s old mid → ((p : Position) → s p → Answers (rest_of p []) mid new o) → Answers
    (runs_from from input) old new o
ends from input before after s old mid new o c e q k =
    let m = consumed before after [] q.left q.remains c in
    let none : m.0 ≡ [] = subst IsAtEnd m.1 e in
    let whole : input ≡ q.bytes ++ [] = q.parts ∙ ap (λ (w : List ℕ). q.bytes ++ w) (m.2 ∙ none) in
    subst (λ (r : Run). Answers r old new o) (sym (ap (rest_of (opening from)) whole ∙ q.reached.goes []))
    (answers_after q.reached.text (rest_of q.reached.to []) old mid new o q.reached.appended (k q.reached.to q.reached.at))

pub for_known : (known : Option (List ℕ)) (P : List ℕ → Type 0) → ((input : List ℕ) → known ≡ Some input → P input) → IfSome known P
for_known None P h = tt
for_known (Some input) P h = h input refl

pub read_some : {E : Type 0} (old new : Option (List ℕ)) (r : Result ℕ E) (n : ℕ) (buf : List ℕ) → r ≡ Ok n
    → ReadConsumes old new r buf → Consumes old new (take n buf)
read_some old new r n buf e h = (subst (λ w. ReadConsumes old new w buf) e h).0

pub read_none : {E : Type 0} (old new : Option (List ℕ)) (r : Result ℕ E) (n : ℕ) (buf : List ℕ) → r ≡ Ok n → n ≡ 0
    → 0 < length buf → ReadConsumes old new r buf → Consumes old new [] × IsAtEnd new
read_none old new r n buf e z some h =
    let k = subst (λ w. ReadConsumes old new w buf) (e ∙ ap (λ (m : ℕ). Ok m) z) h in
    (k.0, k.1 refl some)

-- the written text is flushed
pub flushed : (p : Position) (bytes front : List ℕ) (s : Position → Type 0) (old mid new : Option (List ℕ))
    → Reaches p front s old mid → front ≡ bytes → Keeps mid new → Reaches p bytes s old new
flushed p bytes front s old mid new r e k =
    subst (λ (w : List ℕ). Reaches p w s old new) e
    (record { to = r.to; text = r.text; at = r.at; goes = r.goes; appended = keeps_appended old mid new r.text k r.appended })
