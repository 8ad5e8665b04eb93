use Rattle.std.proofs.Common.{◌≡◌, List, ◌++◌, ℕ, String, Global, string_bytes, bytes_eq}
use Rattle.indexmap.specs.IndexMap.{get_by_text}
use Rattle.std.specs.Map.{lookup}
use Rattle.script_terms.specs.declared.names.Named.{Named}
use Rattle.script_terms.proofs.names.Names.copy.Given as goal

-- the names behind those that are left are copied
abbrev pub invariant-loop-name : goal.invariant-loop-name
invariant-loop-name l =
    (behind : List (String Global × Named)) × (l.self.bound.entries ≡ l.name-iterator.iter ++ behind)
    × ((name : List ℕ) → get_by_text l.copy.bound name ≡ lookup (λ key. bytes_eq name (string_bytes key)) behind)
