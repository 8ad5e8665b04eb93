-- What a sweep that was planned comes to.
use Rattle.std.specs.Prelude.{Result, Ok, Err}

-- but for its value
abbrev pub done : {A E : Type 0} → Result A E → Result (Unit {0}) E
done (Ok value) = Ok tt
done (Err e) = Err e
