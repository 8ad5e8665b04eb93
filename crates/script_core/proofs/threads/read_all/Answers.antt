use Rattle.std.proofs.Common.{subst}
use Rattle.script_core.proofs.Merging.{ends_along, ends_in_lines, goes_along, kept_on, nothing_kept}
use Rattle.script_core.specs.Kept.{ReadsOn}
use Rattle.script_core.specs.Threaded.{IsKept, RunsLines, kept_lines}
use Rattle.script_core.proofs.threads.read_all.Goals as goal

pub returns-in-Err : goal.returns-in-Err
returns-in-Err g c = λ from input along.
    let a = c.loop.invariant from input along in
    let s = c.loop.script in
    let mid = c.read_on-ended.new.self in
    let on =
    c.read_on-ended.ensures.kept a.known s.number s.pending.items a.left (nothing_kept from input _ s a) a.remains in
    let k = kept_on a.known mid s.number s.pending.items a.left _ c.read_on-ended.result on in
    ends_in_lines from input _ s mid c.run_lines.new.script c.run_lines.new.script.session.session c.in-Err.outcome a k
    (subst (RunsLines a.known s.number (kept_lines mid.session) mid c.run_lines.new.script) c.in-Err.is
    (c.run_lines.ensures a.known s.number k.is_known k.number k.within))

pub returns-in-Some : goal.returns-in-Some
returns-in-Some g c = λ from input along.
    let a = c.loop.invariant from input along in
    let s = c.loop.script in
    let mid = c.read_on-ended.new.self in
    let left = g.R.Read.remaining c.read_on-ended.new.reader in
    let on =
    c.read_on-ended.ensures.kept a.known s.number s.pending.items a.left (nothing_kept from input _ s a) a.remains in
    let k = kept_on a.known mid s.number s.pending.items a.left left c.read_on-ended.result on in
    ends_along from input _ s mid c.run_lines.new.script c.in-Some.outcome a
    (subst (ReadsOn (IsKept a.known) mid s.number s.pending.items a.left left) c.in-Some.is on)
    (subst (RunsLines a.known s.number (kept_lines mid.session) mid c.run_lines.new.script) c.in_default.is
    (c.run_lines.ensures a.known s.number k.is_known k.number k.within))

pub loop-preserved : goal.loop-preserved
loop-preserved g c = λ from input along.
    let a = c.loop.invariant from input along in
    let s = c.loop.script in
    let mid = c.read_on-ended.new.self in
    let left = g.R.Read.remaining c.read_on-ended.new.reader in
    let on =
    c.read_on-ended.ensures.kept a.known s.number s.pending.items a.left (nothing_kept from input _ s a) a.remains in
    let k = kept_on a.known mid s.number s.pending.items a.left left c.read_on-ended.result on in
    goes_along from input _ left s mid c.run_lines.new.script a
    (subst (ReadsOn (IsKept a.known) mid s.number s.pending.items a.left left) c.in_default-ended.is on)
    (subst (RunsLines a.known s.number (kept_lines mid.session) mid c.run_lines.new.script) c.in_default.is
    (c.run_lines.ensures a.known s.number k.is_known k.number k.within))
