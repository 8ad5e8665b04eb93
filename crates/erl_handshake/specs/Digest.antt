-- The digest by which a node shows that it knows the cookie.
-- (ERTS User's Guide, Distribution Protocol, Distribution Handshake.)
use Rattle.std.specs.Prelude.{ℕ, List, ◌++◌, decimal}
use Rattle.md5.specs.Md5.{md5}

-- MD5 of the cookie and of the challenge in decimal, without a sign and without leading zeros
abbrev pub digest_of : List ℕ → ℕ → List ℕ
digest_of cookie challenge = md5 (cookie ++ decimal challenge)
