use Rattle.std.proofs.Common.{◌≡◌, ℕ, List, Ok, Some, None, Option, ap, drop, length, rules, string_bytes, subst, sym, ◌∙◌}
use Rattle.std.specs.Option.{option_copied}
use Rattle.script_lines.specs.Replies.{expected, is_met}
use Rattle.script_lines.specs.Said.{said}
use Rattle.script_lines.specs.declared.line.Line.{Line}
use Rattle.script_session.specs.Session.{is_taken, line_does, plays}
use Rattle.script_session.specs.Stands.{Compares, Plays}
use Rattle.script_session.specs.declared.stage.Stage.{Stage}
use Rattle.script_session.proofs.LineOutcomes.{compared, early, passed, ran, reads, runs}
use Rattle.script_session.proofs.session.Session.line.Goals as goal

pub returns-in-Ok-None : goal.returns-in-Ok-None
returns-in-Ok-None c = λ state h.
    passed c.args.self.now state c.args.line.now (string_bytes c.args.out.now) h
    (reads state c.may_come.result c.args.line.now c.read_line.result (Ok None) (c.may_come.ensures state h)
    (c.in-Ok-None.is ∙ ap (λ (o : Option Line). Ok o) c.in-Ok-None.field-0-is) (c.read_line.ensures state.names h.names))

pub returns-in-Some : goal.returns-in-Some
returns-in-Some c = λ state h.
    let it = said c.in-Ok-Some.line in
    let words = c.in-Some.words.now in
    let says =
    reads state c.may_come.result c.args.line.now c.read_line.result (Ok (Some c.in-Ok-Some.line))
    (c.may_come.ensures state h) (c.in-Ok-Some.is ∙ ap (λ (o : Option Line). Ok o) c.in-Ok-Some.field-0-is)
    (c.read_line.ensures state.names h.names) in
    let wants : expected it ≡ Some words = sym c.expected.ensures ∙ ap option_copied c.in-Some.is in
    compared c.args.self.now state c.args.line.now (string_bytes c.args.out.now) it words c.compare.result h says wants
    (subst (λ (r : List ℕ). Compares (is_met state.names r words) c.compare.result) h.reply (c.compare.ensures state.names h.names))

pub returns : goal.returns
returns c = λ state h.
    let it = said c.in-Ok-Some.line in
    let line = c.args.line.now in
    let out = string_bytes c.args.out.now in
    let text = string_bytes c.carry_out.new.out in
    let new = c.keep.new.self in
    let made = c.in-Ok.named.1 in
    let says =
    reads state c.may_come.result line c.read_line.result (Ok (Some c.in-Ok-Some.line))
    (c.may_come.ensures state h) (c.in-Ok-Some.is ∙ ap (λ (o : Option Line). Ok o) c.in-Ok-Some.field-0-is)
    (c.read_line.ensures state.names h.names) in
    let none : expected it ≡ None = sym c.expected.ensures ∙ ap option_copied c.in_default.is in
    let free = ap (is_taken it) h.stage.world.names ∙ sym c.is_taken.ensures ∙ c.if-is_taken.false in
    let opens = early c.args.self.now state line it h says in
    let scene = plays state.names it state.stage in
    let played : Plays scene c.carry_out.new.stage out text made =
    c.in-Ok.ensures.played state.stage state.names h.stage h.names opens in
    let staged : Plays scene new.stage out text made =
    subst (λ (s : Stage). Plays scene s out text made) (sym c.in-Ok-keep.ensures.stage) played in
    let behind : c.bytes_behind-printed.result.now ≡ drop (length out) text = search rules in
    ran c.args.self.now new state it (string_bytes c.in-Ok.named.0) made out text c.bytes_behind-printed.result.now h opens staged
    c.in-Ok.ensures.name (c.in-Ok-keep.ensures.names state.names h.names) behind c.in-Ok-keep.ensures.reply
    (c.in-Ok-keep.ensures.started ∙ c.starts-has_started.ensures) (line_does state line) (runs state line it says none free)
