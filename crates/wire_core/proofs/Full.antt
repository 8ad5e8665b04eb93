-- What holds where a piece came back, and where it didn't.
use Rattle.std.proofs.Common.{◌≡◌, true, false, Option, Some, Result, Ok, Err, OnErr, OnOk, IfSome, subst}
use Rattle.std.specs.Result.{is_err}

pub came_back : {A E : Type 0} (r : Result A E) (P : Type 0) → true ≡ is_err r → OnErr r P → P
came_back (Ok x) P e h = absurd (let no : true ≡ false = e in cc)
came_back (Err x) P e h = h

pub went : {A E : Type 0} (r : Result A E) (P : Type 0) → false ≡ is_err r → OnOk r P → P
went (Ok x) P e h = h
went (Err x) P e h = absurd (let no : false ≡ true = e in cc)

pub some_is : {A : Type 0} (o : Option A) (x : A) (P : A → Type 0) → o ≡ Some x → IfSome o P → P x
some_is o x P e h = subst (λ u. IfSome u P) e h
