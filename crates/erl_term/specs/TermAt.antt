-- A term where it lies in the bytes, as reading it gives it.
use Rattle.std.specs.Prelude.{Result, Ok, Err}
use Rattle.erl_term.specs.declared.error.TermError.{TermError}
use Rattle.erl_term.specs.declared.size.Size.{Size}
use Rattle.erl_term.specs.Data.{Data, list, no_items}
use Rattle.erl_term.specs.Reading.{Read}
use Rattle.erl_term.specs.Size.{size_of}

-- the term that is read, and any where none is
abbrev pub data_in : Read Data → Data
data_in (Ok x) = x.0
data_in (Err e) = list no_items

abbrev pub size_in : Read Data → Result Size TermError
size_in (Ok x) = Ok (size_of x.0)
size_in (Err e) = Err e
