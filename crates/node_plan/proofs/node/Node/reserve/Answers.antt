use Rattle.std.proofs.Common.{◌≡◌, ◌≤◌, ◌+◌, ℕ, length, OnOk, Result, Ok, Err, rules, sym, ap, subst}
use Rattle.std.specs.VecDeque.{deque_capacity, deque_len}
use Rattle.std.specs.declared.alloc.AllocError.{AllocError}
use Rattle.dist_model.specs.Keeping.{CountsOwn, Steady}
use Rattle.node_plan.specs.Carried.{IsSound}
use Rattle.node_plan.specs.Plans.{committed}
use Rattle.node_plan.specs.Room.{Fits}
use Rattle.node_plan.specs.Seen.{seen}
use Rattle.node_plan.specs.SeenOf.{seen_of}
use Rattle.node_plan.specs.OwnList.{own_item}
use Rattle.node_plan.specs.Suits.{LetsAll}
use Rattle.node_plan.specs.declared.node.Node.{Node}
use Rattle.node_plan.specs.declared.plan.Plan.{Plan}
use Rattle.node_plan.proofs.node.Node.reserve.Goals as goal

-- memory is reserved for the own list last
by_local : (node : Node) (plan : Plan) (r : Result (Unit {0}) AllocError)
    → (deque_len node.local + length plan.local.items ≤ deque_capacity node.local → Fits node plan)
    → OnOk r (deque_len node.local + length plan.local.items ≤ deque_capacity node.local) → OnOk r (Fits node plan)
by_local node plan (Ok done) f h = f h
by_local node plan (Err e) f h = tt

pub returns-clause-fits : goal.returns-clause-fits
returns-clause-fits c =
    let old = c.args.self.now in
    let plan = c.args.plan.now in
    let m = seen old in
    let sides = c.in_ok-reserve.ensures.sides in
    let is : seen_of c.reserve_processes.new.incarnation c.reserve_processes.new.names old.own old.dialed c.reserve_watches.new.watches
    c.reserve_watchers.new.watchers c.reserve.new.self c.reserve-2.new.self.items ≡ m = (λ i. record {
      mint = c.in_ok-reserve_processes.ensures.mint i;
      cookie = old.own.cookie;
      flags = old.own.flags;
      up = c.in_ok-reserve_processes.ensures.up i;
      dialed = old.dialed;
      lives = c.in_ok-reserve_processes.ensures.lives i;
      names = c.in_ok-reserve_processes.ensures.names i;
      ends = c.in_ok-reserve_processes.ensures.ends i;
      watches = c.in_ok-reserve_watches.ensures.monitors i;
      registered = c.in_ok-reserve_watchers.ensures.monitors i;
      sides = sides i;
      local = Rattle.std.proofs.Common.map own_item (c.reserve-2.ensures.items i);
    }) in
    by_local _ plan c.reserve-2.result (λ local. record {
      sound = subst (IsSound plan) (sym is) c.requires.sound;
      steady = subst (λ n. Steady (committed plan n)) (sym is) c.requires.steady;
      counted = subst (λ n. CountsOwn (committed plan n)) (sym is) c.requires.counted;
      change = c.in_ok-reserve_processes.ensures.fits;
      names = c.in_ok-reserve_processes.ensures.room;
      watches = c.in_ok-reserve_watches.ensures.fits;
      watchers = c.in_ok-reserve_watchers.ensures.fits;
      lets = subst (LetsAll plan.sides.items) (sym sides) c.requires.lets;
      side_room = search rules;
      route_room = search rules;
      dialed = c.requires.dialed;
      local = local;
    }) (search rules)
