use Rattle.erl_control.proofs.Answered.{no_text}
use Rattle.erl_control.proofs.control.signal_of.Goals as goal

pub fault_of-requires : goal.fault_of-requires
fault_of-requires c = no_text c.args.text.now c.in_default.ensures
