-- The part of a module that is written: what is kept of it, its types as a table writes them, its other items in their order. Where the module meets
-- the rules, so does that part.
use Rattle.std.specs.Prelude.{ℕ, ◌≡◌, ◌<◌, Bool, true, false, List, [], ◌∷◌, length, filter, map, Option, Some, None, slice_get, slice_index_or}
use Rattle.std.specs.List.{range_with_len}
use Rattle.walrus_forms.specs.Kinds.{Kind}
use Rattle.walrus_forms.specs.Records.{TypeGroup}
use Rattle.walrus_types.specs.Emission.{IsEmission, index_at, is_written, written_groups, written_kind, written_types}
use Rattle.walrus_types.specs.Items.{Group}
use Rattle.walrus_types.specs.Table.{Table}
use Rattle.wasm_features.specs.declared.WasmFeatures.{WasmFeatures}
use Rattle.wasm_operators.specs.Items.{Space, Types, Functions, Globals, Locals, Labels}
use Rattle.wasm_grammar.specs.Modules.{Function, Item, Module}
use Rattle.wasm_grammar.specs.States.{types_of}
use Rattle.wasm_merged_modules.specs.Merged.{ids_of, kinds_of}
use Rattle.wasm_normal_modules.specs.Modules.{MeetsRules}
use Rattle.wasm_references.specs.References.{Numbered, numbered}
use Rattle.wasm_ruled_modules.specs.Rules.{around_bodies, is_imported}
use Rattle.wasm_part.specs.Part.{Plan, part}
use Rattle.wasm_part.specs.Closed.{IsListed, Rise}
use Rattle.wasm_part.specs.Kept.{BodyCounts, BodyPicked, HasKept, LocalsNamed}

abbrev pub has_types : List ℕ → Bool
has_types [] = false
has_types (n ∷ ns) = true

-- types of groups, each group with whether it is written as one: those groups that have some
abbrev pub with_types : List (Bool × List ℕ) → List (Bool × List ℕ)
with_types gs = filter (λ (g : Bool × List ℕ). has_types g.1) gs

-- the table has the module's groups, in their order, of those types that are written
abbrev pub GroupsStand : Table → Numbered → Type 0
GroupsStand t v =
    map (λ (g : Group). (g.explicit, g.types)) (written_groups t)
    ≡ with_types (map (λ (g : TypeGroup × List ℕ). (g.0.marked, filter (is_written t) g.1)) (numbered v.filled.groups v.types))

pub record WritesKept (v : Numbered) (keep : Bool) (pushed : List Item) (t : Table) (p : Plan) : Type 0 where
  -- just what is kept
  pub kept : HasKept v keep pushed p
  -- types as the table writes them, each of which the module has, in its groups; those that are read back are one by one the same
  pub indices : List (Option ℕ)
  pub emitted : IsEmission t p.groups indices
  pub types : p.listed Types ≡ written_types t emitted.groups
  pub index : p.renames Types ≡ index_at indices
  pub known : (n : ℕ) (kind : Kind) → written_kind t n ≡ Some kind → slice_get (types_of v.filled) n ≡ Some kind
  pub grouped : GroupsStand t v
  pub once : ids_of p.groups ≡ range_with_len 0 (length (kinds_of p.groups))
  -- of all other spaces each item's new number is its place; globals and exports stay in their order
  pub only : (space : Space) (i n : ℕ) → IsListed space → slice_get (p.listed space) i ≡ Some n → p.renames space n ≡ i
  pub globals : Rise (p.listed Globals)
  pub exports : Rise p.exports
  pub labels : (n : ℕ) → p.renames Labels n ≡ n
  pub locals : (n : ℕ) → p.renames Locals n ≡ n

-- imported globals come first
abbrev pub GlobalsFirst : Module → Type 0
GlobalsFirst m = (n : ℕ) → n < length (filter is_imported m.globals) → is_imported (slice_index_or m.globals n None) ≡ true

abbrev pub KeptPartsAreRuled : Type 0
KeptPartsAreRuled = (features : WasmFeatures) (before counted : Bool) (v : Numbered) (keep : Bool) (pushed : List Item) (t : Table) (p : Plan) → WritesKept v keep pushed t p → GlobalsFirst v.filled
    → ((i n : ℕ) → slice_get (p.listed Functions) i ≡ Some n → (f : Function) → slice_index_or v.filled.functions n None ≡ Some f → BodyPicked (around_bodies features before v.filled) f.origin × LocalsNamed v n f f.origin × BodyCounts counted f.origin)
    → MeetsRules features before v.filled → MeetsRules features counted (part p v.filled)
