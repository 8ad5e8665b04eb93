-- A script runs through only if all that its lines expect was printed.
use Rattle.std.proofs.Common.{◌≡◌, ℕ, ◌+◌, Bool, true, false, cond, ltb, List, [], ◌∷◌, ◌++◌, length}
use Rattle.std.proofs.Common.{Option, None, Some, Result, Ok, Err, refl, sym, ap, subst, ◌∙◌, arith}
use Rattle.std.specs.Cmp.Lexicographic.{bytes_decides}
use Rattle.script_core.specs.Expected.{AreMet, Expects, FirstUnmet, IsMet, last_printed}
use Rattle.script_session.specs.Running.{LeadsTo}
use Rattle.script_core.specs.Script.{AtBadLine, Run, TooManyLines, Whole, runs_lines, runs_step, stops}
use Rattle.script_lines.specs.Breaks.{last_line, last_of, later}
use Rattle.script_lines.specs.Lines.{line_says}
use Rattle.script_lines.specs.Replies.{expected, is_met}
use Rattle.script_lines.specs.Said.{Expect, Said}
use Rattle.script_lines.specs.declared.reading.MayCome.{MayCome}
use Rattle.script_lines.specs.declared.reason.Reason.{Reason}
use Rattle.script_lines.specs.declared.reason.Reason.TheVariants.{NameTaken, Unmet}
use Rattle.script_session.specs.Session.{State, Step, does, expects, is_taken, line_does, may_come, says_does, stays}
use Rattle.script_terms.specs.Binding.{Look}
use Rattle.script_terms.specs.Filling.{filled}

-- ---- the last reply

later_twice : (xs ys zs : List ℕ) → later (later xs ys) zs ≡ later xs (later ys zs)
later_twice xs ys [] = refl
later_twice xs ys (z ∷ zs) = refl

later_none : (xs : List ℕ) → later [] xs ≡ xs
later_none [] = refl
later_none (x ∷ xs) = refl

abbrev Replies : State → Result Step Reason → Type 0
Replies state (Ok step) = step.state.reply ≡ later state.reply (last_line step.text)
Replies state (Err reason) = Unit {0}

silent : (state : State) → Replies state (Ok (stays state))
unfolding last_of
silent state = refl

says_replies : (state : State) (r : Result (Option Said) Reason) → Replies state (says_does state r)
says_replies state (Ok None) = silent state
says_replies state (Err reason) = tt
says_replies state (Ok (Some said)) = either (expected said)
  where
    free : (b : Bool) → Replies state (cond b (Err NameTaken) (Ok (does said state)))
    free true = tt
    free false = refl

    met : (b : Bool) → Replies state (cond b (Ok (stays state)) (Err Unmet))
    met true = silent state
    met false = tt

    either : (words : Option (List ℕ))
        → Replies state (expects words state (cond (is_taken said state.stage.world.names) (Err NameTaken) (Ok (does said state))))
    either None = free (is_taken said state.stage.world.names)
    either (Some words) = met (is_met state.names state.reply words)

step_replies : (state : State) (line : List ℕ) (step : Step) → line_does state line ≡ Ok step
    → step.state.reply ≡ later state.reply (last_line step.text)
step_replies state line step e = subst (Replies state) e (says_replies state (line_says (may_come state) state.names line))

-- behind lines it is the last line that they printed
led_replies : (state : State) (lines texts : List (List ℕ)) (at : State) → LeadsTo state lines texts at
    → at.reply ≡ later state.reply (last_printed texts)
led_replies state [] texts at led =
    ap (λ (s : State). s.reply) led.1 ∙ sym (ap (λ (t : List (List ℕ)). later state.reply (last_printed t)) led.0)
led_replies state (line ∷ lines) texts at led =
    let step = led.0 in
    let more = led.1 in
    led_replies step.state lines more at led.4
    ∙ ap (λ (r : List ℕ). later r (last_printed more)) (step_replies state line step led.2)
    ∙ later_twice state.reply (last_line step.text) (last_printed more)
    ∙ sym (ap (λ (t : List (List ℕ)). later state.reply (last_printed t)) led.3)

fresh_replies : (from : State) (lines texts : List (List ℕ)) (at : State) → from.reply ≡ [] → LeadsTo from lines texts at
    → at.reply ≡ last_printed texts
fresh_replies from lines texts at none led =
    led_replies from lines texts at led ∙ ap (λ (r : List ℕ). later r (last_printed texts)) none ∙ later_none (last_printed texts)

-- ---- a line that expects words

expect_does : (at : State) (line words : List ℕ) → line_says (may_come at) at.names line ≡ Ok (Some (Expect words))
    → line_does at line ≡ cond (is_met at.names at.reply words) (Ok (stays at)) (Err Unmet)
expect_does at line words says = ap (says_does at) says

abbrev Runs : State → List ℕ → Type 0
Runs at line = (step : Step) × (line_does at line ≡ Ok step)

-- one that is run has the reply
met_by : (at : State) (line words : List ℕ) → line_says (may_come at) at.names line ≡ Ok (Some (Expect words)) → Runs at line
    → filled at.names words ≡ at.reply
met_by at line words says ran =
    (bytes_decides (filled at.names words) at.reply).0 (go (is_met at.names at.reply words) (sym (expect_does at line words says) ∙ ran.1))
  where
    go : (b : Bool) → cond b (Ok (stays at)) (Err Unmet) ≡ Ok ran.0 → b ≡ true
    go true e = refl
    go false e = absurd cc

is_met_of : (from : State) (before : List (List ℕ)) (line : List ℕ) (e : Expects from before line) → from.reply ≡ [] → Runs e.at line
    → IsMet e
is_met_of from before line e none ran =
    met_by e.at line e.words e.says ran ∙ fresh_replies from before e.texts e.at none e.led

-- ---- lines that are run

-- of a run that goes to its end each line is run
ran_on : (number : ℕ) (state : State) (before : List (List ℕ)) (line : List ℕ) (after texts : List (List ℕ)) (at : State)
    → (runs_lines number state (before ++ line ∷ after)).verdict ≡ Whole → LeadsTo state before texts at → Runs at line
ran_on number state [] line after texts at whole led =
    subst (λ (s : State). Runs s line) (sym led.1) (first (ltb 1048576 number) (line_does state line) whole)
  where
    first : (b : Bool) (r : Result Step Reason)
        → (cond b (stops TooManyLines state) (runs_step number state r (λ (s : State). runs_lines (number + 1) s after))).verdict ≡ Whole
        → (step : Step) × (r ≡ Ok step)
    first true r w = absurd cc
    first false (Ok step) w = (step, refl)
    first false (Err reason) w = absurd cc
ran_on number state (b ∷ before) line after texts at whole led =
    ran_on (number + 1) led.0.state before line after led.1 at (next (ltb 1048576 number) (line_does state b) led.2 whole) led.4
  where
    rest : State → Run
    rest s = runs_lines (number + 1) s (before ++ line ∷ after)

    next : (c : Bool) (r : Result Step Reason) → r ≡ Ok led.0
        → (cond c (stops TooManyLines state) (runs_step number state r rest)).verdict ≡ Whole → (rest led.0.state).verdict ≡ Whole
    next true r e w = absurd cc
    next false r e w = subst (λ (r : Result Step Reason). (runs_step number state r rest).verdict ≡ Whole) e w

pub all_met : (from : State) (lines : List (List ℕ)) → from.reply ≡ [] → (runs_lines 1 from lines).verdict ≡ Whole → AreMet from lines
all_met from lines none whole = λ before after line parts e.
    is_met_of from before line e none
    (ran_on 1 from before line after e.texts e.at (subst (λ (l : List (List ℕ)). (runs_lines 1 from l).verdict ≡ Whole) parts whole) e.led)

-- and so is each of the lines before a bad one
led_at : (state : State) (before : List (List ℕ)) (line : List ℕ) (after texts : List (List ℕ)) (last : State) (texts' : List (List ℕ))
    (at : State) → LeadsTo state (before ++ line ∷ after) texts last → LeadsTo state before texts' at → Runs at line
led_at state [] line after texts last texts' at led mid = subst (λ (s : State). Runs s line) (sym mid.1) (led.0, led.2)
led_at state (b ∷ before) line after texts last texts' at led mid =
    let same : Ok led.0 ≡ Ok mid.0 = sym led.2 ∙ mid.2 in
    let step : led.0 ≡ mid.0 = cc in
    led_at mid.0.state before line after led.1 last mid.1 at
    (subst (λ (s : Step). LeadsTo s.state (before ++ line ∷ after) led.1 last) step led.4) mid.4

-- ---- the first line that isn't run

record Ended (state : State) (lines : List (List ℕ)) (first number : ℕ) (reason : Reason) : Type 0 where
  before : List (List ℕ)
  line : List ℕ
  after : List (List ℕ)
  parts : lines ≡ before ++ line ∷ after
  place : number ≡ first + length before
  texts : List (List ℕ)
  at : State
  led : LeadsTo state before texts at
  why : line_does at line ≡ Err reason

ended : (first : ℕ) (state : State) (lines : List (List ℕ)) (number : ℕ) (reason : Reason)
    → (runs_lines first state lines).verdict ≡ AtBadLine number reason → Ended state lines first number reason
ended first state [] number reason e = absurd cc
ended first state (line ∷ lines) number reason e =
    go (ltb 1048576 first) (line_does state line) refl e (λ s w. ended (first + 1) s lines number reason w)
  where
    rest : State → Run
    rest s = runs_lines (first + 1) s lines

    go : (b : Bool) (r : Result Step Reason) → line_does state line ≡ r
        → (cond b (stops TooManyLines state) (runs_step first state r rest)).verdict ≡ AtBadLine number reason
        → ((s : State) → (rest s).verdict ≡ AtBadLine number reason → Ended s lines (first + 1) number reason)
        → Ended state (line ∷ lines) first number reason
    go true r is e later = absurd cc
    go false (Ok step) is e later =
        let h = later step.state e in
        record {
          before = line ∷ h.before;
          line = h.line;
          after = h.after;
          parts = ap (λ (l : List (List ℕ)). line ∷ l) h.parts;
          place = let p = h.place in omega arith;
          texts = step.text ∷ h.texts;
          at = h.at;
          led = (step, h.texts, is, refl, h.led);
          why = h.why;
        }
    go false (Err found) is e later =
        let n : first ≡ number = cc in
        let r : found ≡ reason = cc in
        record {
          before = [];
          line = line;
          after = lines;
          parts = refl;
          place = omega arith;
          texts = [];
          at = state;
          led = (refl, refl);
          why = is ∙ ap (λ (w : Reason). Err w) r;
        }

-- ---- a line that is unmet

expected_is : (said : Said) (words : List ℕ) → expected said ≡ Some words → said ≡ Expect words
expected_is (Expect other) words e = let same : other ≡ words = cc in ap Expect same
expected_is said words e = cc

record Differs (at : State) (line : List ℕ) : Type 0 where
  words : List ℕ
  says : line_says (may_come at) at.names line ≡ Ok (Some (Expect words))
  not_met : is_met at.names at.reply words ≡ false

-- reading gives no such reason
abbrev pub NeverRead : Type 0
NeverRead = (may : MayCome) (look : Look) (line : List ℕ) → line_says may look line ≡ Err Unmet → ⊥

differs : NeverRead → (at : State) (line : List ℕ) → line_does at line ≡ Err Unmet → Differs at line
differs never at line e = go (line_says (may_come at) at.names line) refl e
  where
    told : (said : Said) → line_says (may_come at) at.names line ≡ Ok (Some said) → (words : Option (List ℕ)) → expected said ≡ words
        → expects words at (cond (is_taken said at.stage.world.names) (Err NameTaken) (Ok (does said at))) ≡ Err Unmet → Differs at line
    told said is None w f = free (is_taken said at.stage.world.names) f
      where
        free : (b : Bool) → cond b (Err NameTaken) (Ok (does said at)) ≡ Err Unmet → Differs at line
        free true f = absurd cc
        free false f = absurd cc
    told said is (Some words) w f = record {
      words = words;
      says = is ∙ ap (λ (s : Said). Ok (Some s)) (expected_is said words w);
      not_met = other (is_met at.names at.reply words) f;
    }
      where
        other : (b : Bool) → cond b (Ok (stays at)) (Err Unmet) ≡ Err Unmet → b ≡ false
        other true f = absurd cc
        other false f = refl

    go : (r : Result (Option Said) Reason) → line_says (may_come at) at.names line ≡ r → says_does at r ≡ Err Unmet → Differs at line
    go (Ok None) is f = absurd cc
    go (Ok (Some said)) is f = told said is (expected said) refl f
    go (Err reason) is f = let same : reason ≡ Unmet = cc in
        absurd (never (may_come at) at.names line (is ∙ ap (λ (w : Reason). Err w) same))

pub first_unmet : NeverRead → (from : State) (lines : List (List ℕ)) (number : ℕ) → from.reply ≡ []
    → (runs_lines 1 from lines).verdict ≡ AtBadLine number Unmet → FirstUnmet from lines number
first_unmet never from lines number none e =
    let h = ended 1 from lines number Unmet e in
    let d = differs never h.at h.line h.why in
    record {
      before = h.before;
      line = h.line;
      after = h.after;
      parts = h.parts;
      place = h.place;
      expects = record { texts = h.texts; at = h.at; led = h.led; words = d.words; says = d.says };
      unmet = λ same.
          let reply = fresh_replies from h.before h.texts h.at none h.led in
          let is : is_met h.at.names h.at.reply d.words ≡ true =
          (bytes_decides (filled h.at.names d.words) h.at.reply).1 (same ∙ sym reply) in
          let no : true ≡ false = sym is ∙ d.not_met in
          absurd cc;
      met = λ before after line parts e.
          is_met_of from before line e none
          (led_at from before line after h.texts h.at e.texts e.at
          (subst (λ (l : List (List ℕ)). LeadsTo from l h.texts h.at) parts h.led) e.led);
    }
