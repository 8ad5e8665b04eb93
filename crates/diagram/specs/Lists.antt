-- Lists in vectors.
use Rattle.std.specs.Prelude.{List, Vec}
use Rattle.std.specs.declared.alloc.Global.{Global}

abbrev pub items_of : {A : Type 0} → Vec A Global → List A
items_of v = v.items
