-- The types that handlers of legacy `try`s are given where a table of types has none for them.
use Rattle.std.specs.Prelude.{Bool, false, not, List, [], ◌∷◌, map, filter}
use Rattle.std.specs.Option.{is_none}
use Rattle.walrus_forms.specs.declared.value.ValType.{ValType}
use Rattle.walrus_forms.specs.Kinds.{Kind, function_kind}
use Rattle.walrus_forms.specs.Records.{TypeGroup}
use Rattle.walrus_forms.specs.Same.{same_kind}
use Rattle.walrus_named_bodies.specs.walrus_item_names.walrus_module.walrus_types.Table.{Table}
use Rattle.walrus_body_laws.specs.walrus_pairing.walrus_instr.BlockTypes.{picked}

-- what a handler takes and gives: the parameters of the tag that it catches, none if it catches all, and the results of its block
pub record Signature : Type 0 where
  pub params : List ValType
  pub results : List ValType

-- the kind of a type of it
abbrev pub kind_of : Signature → Kind
kind_of s = function_kind s.params s.results

-- there is no block type of it: neither a short form nor a type in the table
abbrev pub is_missing : Table → Signature → Bool
is_missing t s = is_none (picked s.params s.results t)

-- each of these kinds once, where it stands first
abbrev pub once : List Kind → List Kind
once [] = []
once (k ∷ ks) = k ∷ filter (λ other. not (same_kind k other)) (once ks)

-- the types that the table lacks for these, each once, in their order
abbrev pub added : Table → List Signature → List Kind
added t ss = once (map kind_of (filter (is_missing t) ss))

-- a group of this type alone, which isn't marked
abbrev pub single : Kind → TypeGroup
single kind = record { marked = false; kinds = kind ∷ [] }
