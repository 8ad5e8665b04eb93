use Rattle.std.proofs.Common.{◌≡◌, map, false, sym, subst, rules}
use Rattle.dist_model.specs.Linking.{exit_follows, told_to}
use Rattle.dist_model.specs.Node.{end_of}
use Rattle.dist_model.specs.Work.{Work, post_all, set_end}
use Rattle.erl_term.specs.declared.term.Pid.{Pid}
use Rattle.link_core.specs.News.{Signals, heard, reply}
use Rattle.link_core.specs.declared.end.End.{End}
use Rattle.link_core.specs.declared.end.LinkSignal.{LinkSignal}
use Rattle.node_plan.specs.Carried.{Carries, CarriesOut}
use Rattle.node_plan.specs.Seen.{seen}
use Rattle.node_processes.proofs.Unchanged.{same_end}
use Rattle.node_processes.proofs.taking.take_at_living.Goals as goal

abbrev taken : Pid → Pid → End → LinkSignal → Work → Work
taken p q was told w =
    exit_follows was (Signals told) p q
    (post_all (map (told_to p q) (reply false (Signals told))) (set_end p q (heard was (Signals told)) w))

pub returns-in-Unlink-clause-carries : goal.returns-in-Unlink-clause-carries
returns-in-Unlink-clause-carries c = λ w h.
    let m = seen c.args.node.now in
    let p = c.args.to.now in
    let q = c.args.from.now in
    let id = c.in-Unlink.id in
    let is : c.args.news ≡ LinkSignal.Unlink id = search rules in
    let same = same_end c.args.plan.now m w h c.requires.blank.change p q in
    let P : End → LinkSignal → Type 0 = λ was told. Carries m (taken p q was told w) c.tell.new.self c.tell.result in
    let changed = c.in_ok-change_end.ensures.carries m w c.requires.living h in
    let Q : LinkSignal → Type 0 = λ told. CarriesOut c.change_end.new.self m (set_end p q (heard (end_of m p q) (Signals told)) w) in
    let r : P (end_of m p q) (LinkSignal.Unlink id) = c.tell.ensures.carries _ (subst Q is changed) in
    subst (λ was. P was c.args.news) (sym same) (subst (P (end_of m p q)) (sym is) r)

pub returns-in-Link-clause-carries : goal.returns-in-Link-clause-carries
returns-in-Link-clause-carries c = λ w h.
    let m = seen c.args.node.now in
    let p = c.args.to.now in
    let q = c.args.from.now in
    let is : c.args.news ≡ LinkSignal.Link = search rules in
    let same = same_end c.args.plan.now m w h c.requires.blank.change p q in
    let P : End → LinkSignal → Type 0 = λ was told. CarriesOut c.change_end.new.self m (taken p q was told w) in
    let changed = c.in_ok-change_end.ensures.carries m w c.requires.living h in
    let Q : LinkSignal → Type 0 = λ told. CarriesOut c.change_end.new.self m (set_end p q (heard (end_of m p q) (Signals told)) w) in
    let r : P (end_of m p q) (LinkSignal.Link) = subst Q is changed in
    subst (λ was. P was c.args.news) (sym same) (subst (P (end_of m p q)) (sym is) r)

pub returns-in-Ack-clause-carries : goal.returns-in-Ack-clause-carries
returns-in-Ack-clause-carries c = λ w h.
    let m = seen c.args.node.now in
    let p = c.args.to.now in
    let q = c.args.from.now in
    let is : c.args.news ≡ LinkSignal.Ack c.in-Ack.field-0 = search rules in
    let same = same_end c.args.plan.now m w h c.requires.blank.change p q in
    let P : End → LinkSignal → Type 0 = λ was told. CarriesOut c.change_end.new.self m (taken p q was told w) in
    let changed = c.in_ok-change_end.ensures.carries m w c.requires.living h in
    let Q : LinkSignal → Type 0 = λ told. CarriesOut c.change_end.new.self m (set_end p q (heard (end_of m p q) (Signals told)) w) in
    let r : P (end_of m p q) (LinkSignal.Ack c.in-Ack.field-0) = subst Q is changed in
    subst (λ was. P was c.args.news) (sym same) (subst (P (end_of m p q)) (sym is) r)
