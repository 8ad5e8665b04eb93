use Rattle.std.proofs.Common.{◌≡◌, None, is_some, sym, ap, ◌∙◌}
use Rattle.std.specs.FinMap as map
use Rattle.monitor_core.specs.Monitors.{MonitorMap, Held, added}
use Rattle.monitor_core.proofs.Maps.{none_of, is_some_copied}
use Rattle.monitor_core.proofs.Present.{none_fresh, put_map}
use Rattle.monitor_core.proofs.monitors.Monitors.add.Goals as goal

pub put_in-requires-clause-fresh : goal.put_in-requires-clause-fresh
put_in-requires-clause-fresh g c =
    let here = ap (λ (k : Held g.row.M.Denot). k.monitors) c.self.view_is ∙ c.in_ok-reserve.ensures.monitors in
    let none : map.get c.args.self.now.monitors c.args.reference ≡ None =
    none_of _ (sym (ap is_some c.get.ensures) ∙ is_some_copied c.get.result ∙ sym c.is_some.ensures ∙ c.if-is_some.false) in
    none_fresh _ c.args.reference c.self.invariant.indexed.alone (ap (λ (m : MonitorMap g.row.M.Denot). map.get m c.args.reference) here ∙ none)

pub returns-clause-monitors : goal.returns-clause-monitors
returns-clause-monitors g c =
    let here = ap (λ (k : Held g.row.M.Denot). k.monitors) c.self.view_is ∙ c.in_ok-reserve.ensures.monitors in
    let none : map.get c.args.self.now.monitors c.args.reference ≡ None =
    none_of _ (sym (ap is_some c.get.ensures) ∙ is_some_copied c.get.result ∙ sym c.is_some.ensures ∙ c.if-is_some.false) in
    let fresh = none_fresh _ c.args.reference c.self.invariant.indexed.alone (ap (λ (m : MonitorMap g.row.M.Denot). map.get m c.args.reference) here ∙ none) in
    put_map _ _ (c.args.reference, c.args.monitor) c.self.invariant.indexed.alone c.put_in.ensures.indexed.alone fresh c.put_in.ensures.put
    ∙ ap (λ (m : MonitorMap g.row.M.Denot). added m c.args.reference c.args.monitor) here
