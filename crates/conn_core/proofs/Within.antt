-- Lists of happenings that another list has, and what the proofs of both roles need.
use Rattle.std.proofs.Common.{◌≡◌, ℕ, Bool, true, false, if◌then◌else◌, List, [], ◌∷◌, Contains, ap, ◌∙◌}
use Rattle.std.proofs.lemmas.List.Elements.{Contains-push, Contains-append_left, Contains-append_right}
use Rattle.std.specs.Cmp.Lexicographic.{bytes_decides}
use Rattle.erl_handshake.specs.declared.identity.Identity.{Identity}
use Rattle.erl_handshake.specs.Digest.{digest_of}
use Rattle.erl_handshake.specs.Roles.{is_answered}
use Rattle.conn_core.specs.declared.standing.Standing.{Standing}
use Rattle.conn_core.specs.Happenings.{Happening}

-- a list that has all that another has
pub Within : List Happening → List Happening → Type 0
Within part all = (x : Happening) → Contains part x → Contains all x

pub within_rest : (h : Happening) (hs all : List Happening) → Within (h ∷ hs) all → Within hs all
unfolding Within
within_rest h hs all w x c = w x (Contains-append_right (h ∷ []) hs x c)

pub first_within : (h : Happening) (hs all : List Happening) → Within (h ∷ hs) all → Contains all h
unfolding Within
first_within h hs all w = w h (Contains-append_left (h ∷ []) hs h (Contains-push [] h))

pub within_itself : (hs : List Happening) → Within hs hs
unfolding Within
within_itself hs = λ x c. c

-- ---- what both roles need

-- the digest is the one over this challenge
pub right_digest : (own : Identity) (c challenge : ℕ) (digest : List ℕ) → c ≡ challenge
    → is_answered own.cookie c digest ≡ true → digest ≡ digest_of own.cookie challenge
right_digest own c challenge digest e is = (bytes_decides digest (digest_of own.cookie c)).0 is ∙ ap (digest_of own.cookie) e

pub either : (Kept : Standing → Type 0) (b : Bool) (x y : Standing) → Kept x → Kept y → Kept (if b then x else y)
either Kept true x y p q = p
either Kept false x y p q = q
