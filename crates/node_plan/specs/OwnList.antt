-- The own list of a node keeps signals in the first spelling: no reason follows a control term there.
use Rattle.std.specs.Prelude.{false}
use Rattle.dist_model.specs.Items.{Item, Signalled}
use Rattle.erl_control.specs.declared.signal.Signal.{Signal}

abbrev pub own_item : Signal → Item
own_item signal = Signalled signal false
