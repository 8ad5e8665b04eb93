-- How the lines of a script are kept as its bytes come.
use Rattle.std.proofs.Common.{◌≡◌, ◌≤◌, ◌<◌, ℕ, ◌+◌, eqb, ltb, Bool, true, false, cond, List, [], ◌∷◌, ◌++◌, length}
use Rattle.std.proofs.Common.{Result, Ok, Err, refl, sym, ap, subst, ◌∙◌, append_assoc, arith}
use Rattle.std.proofs.lemmas.Bool.{eqb-true}
use Rattle.std.proofs.lemmas.Bool.Decides.{nat_tests}
use Rattle.std.proofs.lemmas.List.{append-nil, length-append}
use Rattle.std.proofs.lemmas.List.Elements.{All-nil, All-append}
use Rattle.script_core.proofs.ScriptLemmas.{lines-break, lines-end, long_line}
use Rattle.script_core.specs.Kept.{BeginsTooLong, Blames, ComesToEnd, HasKept, KeptAll, Stopped, StopsShort}
use Rattle.script_core.specs.Lines.{Keeps}
use Rattle.script_core.specs.Outcomes.{fault_at}
use Rattle.script_lines.specs.Breaks.{IsOneLine, is_break}
use Rattle.script_core.specs.Script.{lines_of}
use Rattle.script_core.specs.declared.script.Outcome.{Outcome}
use Rattle.script_core.specs.declared.script.Outcome.TheVariants as outcome
use Rattle.script_core.specs.declared.script.Script.{Script}
use Rattle.script_lines.specs.declared.reason.Reason.TheVariants.{TooLong}
use Rattle.script_session.specs.declared.session.Stop.{Stop}
use Rattle.script_session.specs.declared.session.Stop.TheVariants as stop

-- an error that is of no line
abbrev pub NoBlame : Outcome → Type 0
NoBlame o = (number : ℕ) (left : List (List ℕ)) → Blames number left o

pub no_pending : (n : ℕ) → true ≡ eqb n 0 → n ≡ 0
no_pending n e = eqb-true n 0 (sym e)

pub no_bytes : (xs : List ℕ) → length xs ≡ 0 → xs ≡ []
no_bytes [] e = refl
no_bytes (x ∷ xs) e = absurd (omega arith)

module _ {S : Type 0} (keeps : S → List (List ℕ) → Type 0) where
  -- ---- an error

  pub stops : (s new : Script S) (first : ℕ) (before more : List ℕ) (o : Outcome) (k : HasKept keeps s first before)
      → keeps new.session k.lines → new.number ≡ s.number → NoBlame o → Stopped keeps new first (before ++ more) o
  stops s new first before more o k session number none = record {
    lines = k.lines;
    session = session;
    number = number ∙ k.number;
    within = let w = k.within in omega arith;
    left = λ rest. lines_of (s.pending.items ++ (more ++ rest));
    goes = λ rest. ap lines_of (append_assoc before more rest) ∙ k.goes (more ++ rest);
    blames = λ rest. none new.number (lines_of (s.pending.items ++ (more ++ rest)));
  }

  pub stops_there : (s : Script S) (first : ℕ) (bytes : List ℕ) (o : Outcome) → HasKept keeps s first bytes → NoBlame o
      → Stopped keeps s first bytes o
  stops_there s first bytes o k none = record {
    lines = k.lines;
    session = k.session;
    number = k.number;
    within = k.within;
    left = λ rest. lines_of (s.pending.items ++ rest);
    goes = k.goes;
    blames = λ rest. none s.number (lines_of (s.pending.items ++ rest));
  }

  -- other bytes come behind it
  pub stopped_more : (s : Script S) (first : ℕ) (before more : List ℕ) (o : Outcome) → Stopped keeps s first before o
      → Stopped keeps s first (before ++ more) o
  stopped_more s first before more o h = record {
    lines = h.lines;
    session = h.session;
    number = h.number;
    within = h.within;
    left = λ rest. h.left (more ++ rest);
    goes = λ rest. ap lines_of (append_assoc before more rest) ∙ h.goes (more ++ rest);
    blames = λ rest. h.blames (more ++ rest);
  }

  -- ---- a line that is too long

  faulty : (number : ℕ) (left : List (List ℕ)) (b : Bool) → ltb 1048576 number ≡ b → BeginsTooLong left
      → Blames number left (cond b outcome.Failed (outcome.BadLine number TooLong))
  faulty number left true e h = tt
  faulty number left false e h = (refl, grind (arith, nat_tests), refl, h)

  pub stops_long : (s : Script S) (first : ℕ) (before text : List ℕ) (o : Outcome) → HasKept keeps s first before → IsOneLine text
      → 65536 < length s.pending.items + length text → o ≡ fault_at s.number TooLong → Stopped keeps s first (before ++ text) o
  stops_long s first before text o k one full is = record {
    lines = k.lines;
    session = k.session;
    number = k.number;
    within = k.within;
    left = λ rest. lines_of (s.pending.items ++ (text ++ rest));
    goes = λ rest. ap lines_of (append_assoc before text rest) ∙ k.goes (text ++ rest);
    blames = λ rest.
        let xs : List ℕ = s.pending.items ++ text in
        let longer : length xs ≡ length s.pending.items + length text = length-append s.pending.items text in
        let l = long_line xs rest (omega arith) (All-append (λ (c : ℕ). is_break c ≡ false) s.pending.items text k.one_line one) in
        let whole : length (xs ++ l.0) ≡ length xs + length l.0 = length-append xs l.0 in
        subst (Blames s.number (lines_of (s.pending.items ++ (text ++ rest)))) (sym is)
        (faulty s.number (lines_of (s.pending.items ++ (text ++ rest))) (ltb 1048576 s.number) refl
        (record {
          line = xs ++ l.0;
          more = l.1;
          parts = ap lines_of (sym (append_assoc s.pending.items text rest)) ∙ l.2;
          long = omega arith;
        }));
  }

  -- ---- a line that is kept

  pub kept_line : (lines : List (List ℕ)) (line : List ℕ) (new : S) (r : Result (Unit {0}) Stop) (x : Unit {0}) → r ≡ Ok x
      → Keeps keeps lines line new r → keeps new (lines ++ line ∷ [])
  kept_line lines line new r x e k = subst (Keeps keeps lines line new) e k

  pub wanted_line : (lines : List (List ℕ)) (line : List ℕ) (new : S) (r : Result (Unit {0}) Stop) (why : Stop) → r ≡ Err why
      → why ≡ stop.OutOfMemory → Keeps keeps lines line new r → keeps new lines
  wanted_line lines line new r why e is k = subst (Keeps keeps lines line new) (e ∙ ap (λ (w : Stop). Err w) is) k

  pub line_more : (s new : Script S) (first : ℕ) (before : List ℕ) (k : HasKept keeps s first before) → s.number ≤ 1048576
      → keeps new.session (k.lines ++ s.pending.items ∷ []) → new.pending.items ≡ [] → new.number ≡ s.number + 1
      → HasKept keeps new first (before ++ 10 ∷ [])
  line_more s new first before k within session none number = record {
    lines = k.lines ++ s.pending.items ∷ [];
    session = session;
    number =
        let longer : length (k.lines ++ s.pending.items ∷ []) ≡ length k.lines + 1 = length-append k.lines (s.pending.items ∷ []) in
        let n = k.number in omega arith;
    within = omega arith;
    one_line = subst IsOneLine (sym none) (All-nil _);
    goes = λ rest. ap lines_of (append_assoc before (10 ∷ []) rest) ∙ k.goes (10 ∷ rest)
        ∙ ap (λ (l : List (List ℕ)). k.lines ++ l) (lines-break s.pending.items rest k.one_line)
        ∙ sym (append_assoc k.lines (s.pending.items ∷ []) (lines_of rest))
        ∙ ap (λ (w : List ℕ). (k.lines ++ s.pending.items ∷ []) ++ lines_of (w ++ rest)) (sym none);
  }

  -- ---- of the bytes those before the rest were taken

  pub record KeptUpTo (s : Script S) (first : ℕ) (before bytes rest : List ℕ) : Type 0 where
    pub front : List ℕ
    pub parts : bytes ≡ front ++ rest
    pub kept : HasKept keeps s first (before ++ front)

  pub kept_none : (s : Script S) (first : ℕ) (before bytes : List ℕ) → HasKept keeps s first before → KeptUpTo s first before bytes bytes
  kept_none s first before bytes k = record {
    front = [];
    parts = refl;
    kept = subst (HasKept keeps s first) (sym (append-nil before)) k;
  }

  pub kept_further : (s t : Script S) (first : ℕ) (before bytes rest xs ys : List ℕ) (h : KeptUpTo s first before bytes rest)
      → rest ≡ xs ++ ys → HasKept keeps t first ((before ++ h.front) ++ xs) → KeptUpTo t first before bytes ys
  kept_further s t first before bytes rest xs ys h e k = record {
    front = h.front ++ xs;
    parts = h.parts ∙ ap (λ (w : List ℕ). h.front ++ w) e ∙ sym (append_assoc h.front xs ys);
    kept = subst (HasKept keeps t first) (append_assoc before h.front xs) k;
  }

  whole : (before bytes rest front : List ℕ) → bytes ≡ front ++ rest → (before ++ front) ++ rest ≡ before ++ bytes
  whole before bytes rest front e = append_assoc before front rest ∙ ap (λ (w : List ℕ). before ++ w) (sym e)

  pub kept_whole : (s t : Script S) (first : ℕ) (before bytes rest : List ℕ) (h : KeptUpTo s first before bytes rest)
      → HasKept keeps t first ((before ++ h.front) ++ rest) → HasKept keeps t first (before ++ bytes)
  kept_whole s t first before bytes rest h k = subst (HasKept keeps t first) (whole before bytes rest h.front h.parts) k

  pub stopped_further : (s t : Script S) (first : ℕ) (before bytes rest xs ys : List ℕ) (o : Outcome)
      (h : KeptUpTo s first before bytes rest) → rest ≡ xs ++ ys → Stopped keeps t first ((before ++ h.front) ++ xs) o
      → Stopped keeps t first (before ++ bytes) o
  stopped_further s t first before bytes rest xs ys o h e k =
      subst (λ (w : List ℕ). Stopped keeps t first w o)
      (append_assoc (before ++ h.front) xs ys ∙ ap (λ (w : List ℕ). (before ++ h.front) ++ w) (sym e)
      ∙ whole before bytes rest h.front h.parts)
      (stopped_more t first ((before ++ h.front) ++ xs) ys o k)

  -- ---- the end

  pub all_kept : (s : Script S) (first : ℕ) (before : List ℕ) → HasKept keeps s first before → s.pending.items ≡ []
      → KeptAll keeps s first before
  all_kept s first before k none = record {
    lines = k.lines;
    session = k.session;
    number = k.number;
    within = k.within;
    all = ap lines_of (sym (append-nil before)) ∙ k.goes [] ∙ ap (λ (w : List ℕ). k.lines ++ lines_of (w ++ [])) none
        ∙ append-nil k.lines;
  }

  -- a last line needs no newline
  ends_alike : (s : Script S) (first : ℕ) (before : List ℕ) → HasKept keeps s first before → 0 < length s.pending.items
      → lines_of before ≡ lines_of (before ++ 10 ∷ [])
  ends_alike s first before k some =
      ap lines_of (sym (append-nil before)) ∙ k.goes []
      ∙ ap (λ (l : List (List ℕ)). k.lines ++ l) (lines-end s.pending.items some k.one_line) ∙ sym (k.goes (10 ∷ []))

  pub last_kept : (s t : Script S) (first : ℕ) (before : List ℕ) → HasKept keeps s first before → 0 < length s.pending.items
      → HasKept keeps t first (before ++ 10 ∷ []) → t.pending.items ≡ [] → KeptAll keeps t first before
  last_kept s t first before k some h none =
      let it = all_kept t first (before ++ 10 ∷ []) h none in record {
        lines = it.lines;
        session = it.session;
        number = it.number;
        within = it.within;
        all = ends_alike s first before k some ∙ it.all;
      }

  short : (s : Script S) (first : ℕ) (bytes rest all : List ℕ) (o : Outcome) → lines_of all ≡ lines_of (bytes ++ rest)
      → Stopped keeps s first bytes o → StopsShort keeps s first all o
  short s first bytes rest all o e h = record {
    lines = h.lines;
    session = h.session;
    number = h.number;
    within = h.within;
    left = h.left rest;
    goes = e ∙ h.goes rest;
    blames = h.blames rest;
  }

  to_end : (s : Script S) (first : ℕ) (bytes rest all : List ℕ) (o : Outcome) → lines_of all ≡ lines_of (bytes ++ rest)
      → Stopped keeps s first bytes o → ComesToEnd keeps s first all o
  to_end s first bytes rest all outcome.Ran e h = absurd (h.blames rest)
  to_end s first bytes rest all (outcome.BadLine number reason) e h = short s first bytes rest all (outcome.BadLine number reason) e h
  to_end s first bytes rest all outcome.OutOfMemory e h = short s first bytes rest all outcome.OutOfMemory e h
  to_end s first bytes rest all outcome.Unmerged e h = absurd (h.blames rest)
  to_end s first bytes rest all outcome.Failed e h = short s first bytes rest all outcome.Failed e h

  pub last_stopped : (s t : Script S) (first : ℕ) (before : List ℕ) (o : Outcome) → HasKept keeps s first before
      → 0 < length s.pending.items → Stopped keeps t first (before ++ 10 ∷ []) o → ComesToEnd keeps t first before o
  last_stopped s t first before o k some h =
      to_end t first (before ++ 10 ∷ []) [] before o
      (ends_alike s first before k some ∙ ap lines_of (sym (append-nil (before ++ 10 ∷ [])))) h

  -- the bytes that were read are the first of those that were left
  pub chunk_stopped : (s : Script S) (first : ℕ) (bytes chunk after left : List ℕ) (o : Outcome) → left ≡ chunk ++ after
      → Stopped keeps s first (bytes ++ chunk) o → ComesToEnd keeps s first (bytes ++ left) o
  chunk_stopped s first bytes chunk after left o e h =
      to_end s first (bytes ++ chunk) after (bytes ++ left) o
      (ap lines_of (ap (λ (w : List ℕ). bytes ++ w) e ∙ sym (append_assoc bytes chunk after))) h

  pub not_read : (s : Script S) (first : ℕ) (bytes left : List ℕ) → HasKept keeps s first bytes
      → StopsShort keeps s first (bytes ++ left) outcome.Failed
  not_read s first bytes left k = record {
    lines = k.lines;
    session = k.session;
    number = k.number;
    within = k.within;
    left = lines_of (s.pending.items ++ left);
    goes = k.goes left;
    blames = tt;
  }
