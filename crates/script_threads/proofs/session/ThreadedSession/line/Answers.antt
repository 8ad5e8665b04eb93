use Rattle.std.proofs.Common.{◌≡◌, ℕ, true, List, ◌++◌, Ok, Some, None, Option, ap, refl, string_bytes, subst, sym, ◌∙◌}
use Rattle.std.specs.Option.{option_copied}
use Rattle.dist_books.specs.Acting.{Nodes, names_of}
use Rattle.script_lines.specs.Replies.{expected, is_met, reply_after}
use Rattle.script_lines.specs.Said.{said}
use Rattle.script_lines.specs.declared.line.Line.{Line}
use Rattle.script_session.specs.Session.{is_taken}
use Rattle.script_session.specs.Stands.{Compares}
use Rattle.script_threads.proofs.Lines.{compared, early, passed, ran, reads, reads_said, runs}
use Rattle.script_threads.specs.Standing.{is_idle, nodes_of}
use Rattle.script_threads.specs.declared.threads.NodeThreads.{NodeThreads}
use Rattle.script_threads.proofs.session.ThreadedSession.line.Goals as goal

pub returns-in-Ok-None : goal.returns-in-Ok-None
returns-in-Ok-None g c = λ known h.
    let says =
    reads known c.may_come.result c.args.line.now c.read.result (Ok None) (c.may_come.ensures known h)
    (c.in-Ok-None.is ∙ ap (λ (o : Option Line). Ok o) c.in-Ok-None.field-0-is) (c.read.ensures known.look h.names) in
    (None, passed known c.args.line.now says, (h, refl))

pub returns-in-Some : goal.returns-in-Some
returns-in-Some g c = λ known h.
    let it = said c.in-Ok-Some.line in
    let words = c.in-Some.words.now in
    let says =
    reads known c.may_come.result c.args.line.now c.read.result (Ok (Some c.in-Ok-Some.line)) (c.may_come.ensures known h)
    (c.in-Ok-Some.is ∙ ap (λ (o : Option Line). Ok o) c.in-Ok-Some.field-0-is) (c.read.ensures known.look h.names) in
    let wants : expected it ≡ Some words = sym c.expected.ensures ∙ ap option_copied c.in-Some.is in
    compared c.args.self.now known c.args.line.now (string_bytes c.args.out.now) it words c.compare.result h says wants
    (subst (λ (r : List ℕ). Compares (is_met known.look r words) c.compare.result) h.reply (c.compare.ensures known.look h.names))

pub returns-in_default-carry_out : goal.returns-in_default-carry_out
returns-in_default-carry_out g c = λ known h.
    let it = said c.in-Ok-Some.line in
    let says =
    reads known c.may_come.result c.args.line.now c.read.result (Ok (Some c.in-Ok-Some.line)) (c.may_come.ensures known h)
    (c.in-Ok-Some.is ∙ ap (λ (o : Option Line). Ok o) c.in-Ok-Some.field-0-is) (c.read.ensures known.look h.names) in
    let free = ap (λ (nodes : Nodes). is_taken it (names_of nodes)) (sym h.nodes) ∙ sym c.is_taken.ensures ∙ c.if-is_taken.false in
    (it, reads_said known c.args.line.now it says free)

pub returns-in_default-keep : goal.returns-in_default-keep
returns-in_default-keep g c = λ known h.
    let it = said c.in-Ok-Some.line in
    let says =
    reads known c.may_come.result c.args.line.now c.read.result (Ok (Some c.in-Ok-Some.line)) (c.may_come.ensures known h)
    (c.in-Ok-Some.is ∙ ap (λ (o : Option Line). Ok o) c.in-Ok-Some.field-0-is) (c.read.ensures known.look h.names) in
    let free = ap (λ (nodes : Nodes). is_taken it (names_of nodes)) (sym h.nodes) ∙ sym c.is_taken.ensures ∙ c.if-is_taken.false in
    (it, reads_said known c.args.line.now it says free)

pub returns-in_default-push_str : goal.returns-in_default-push_str
returns-in_default-push_str g c = λ known h.
    let it = said c.in-Ok-Some.line in
    let says =
    reads known c.may_come.result c.args.line.now c.read.result (Ok (Some c.in-Ok-Some.line)) (c.may_come.ensures known h)
    (c.in-Ok-Some.is ∙ ap (λ (o : Option Line). Ok o) c.in-Ok-Some.field-0-is) (c.read.ensures known.look h.names) in
    let free = ap (λ (nodes : Nodes). is_taken it (names_of nodes)) (sym h.nodes) ∙ sym c.is_taken.ensures ∙ c.if-is_taken.false in
    (it, reads_said known c.args.line.now it says free)

pub returns : goal.returns
returns g c = λ known h.
    let it = said c.in-Ok-Some.line in
    let line = c.args.line.now in
    let out = string_bytes c.args.out.now in
    let printed = string_bytes c.carry_out.new.out in
    let new = c.keep.new.self in
    let says =
    reads known c.may_come.result line c.read.result (Ok (Some c.in-Ok-Some.line)) (c.may_come.ensures known h)
    (c.in-Ok-Some.is ∙ ap (λ (o : Option Line). Ok o) c.in-Ok-Some.field-0-is) (c.read.ensures known.look h.names) in
    let none : expected it ≡ None = sym c.expected.ensures ∙ ap option_copied c.in_default.is in
    let free = ap (λ (nodes : Nodes). is_taken it (names_of nodes)) (sym h.nodes) ∙ sym c.is_taken.ensures ∙ c.if-is_taken.false in
    let idle = early c.args.self.now known line it h says in
    let same = c.in-Ok-keep.ensures.threads in
    let replied : new.reply.line.items ≡ reply_after printed c.args.self.now.reply.line.items =
    c.in-Ok-keep.ensures.reply ∙ ap (λ (t : List ℕ). reply_after t c.args.self.now.reply.line.items) c.as_str.ensures.value in
    let whole : string_bytes c.push_str.new.self ≡ out ++ printed =
    c.in-Ok-push_str.ensures.bytes ∙ ap (λ (t : List ℕ). out ++ t) c.as_str-2.ensures.value in (
      Some it,
      runs known line it says none free,
      record {
        text = printed;
        ran = ran c.args.self.now new known it (string_bytes c.in-Ok.named.0) c.in-Ok.named.1 printed h
            (ap (λ (t : NodeThreads). nodes_of t.cast) same ∙ c.in-Ok.ensures.nodes known.look h.names idle)
            (λ s. subst (λ (t : NodeThreads). is_idle t.cast ≡ true) (sym same) (c.in-Ok.ensures.idle idle s))
            c.in-Ok.ensures.name (c.in-Ok-keep.ensures.names known.look h.names) replied
            (c.in-Ok-keep.ensures.started ∙ c.starts-has_started.ensures);
        printed = whole;
      },
    )
