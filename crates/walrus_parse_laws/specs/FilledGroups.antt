-- The groups of a file in a module: each as it is, its names the ids of what its numbers name, but for single types that are merged.
use Rattle.std.specs.Prelude.{ℕ, ◌+◌, ◌≡◌, ◌&&◌, Bool, false, not, List, [], ◌∷◌, length, map, take, if◌then◌else◌}
use Rattle.std.specs.List.{AllByRecursion}
use Rattle.walrus_named_bodies.specs.walrus_file_bodies.walrus_items_into.walrus_module_bodies.walrus_body_trees.walrus_meaning.walrus_local_function.walrus_body_locals.wasm_grammar.States.{State}
use Rattle.walrus_named_bodies.specs.walrus_file_bodies.walrus_items_into.walrus_module_bodies.walrus_body_trees.walrus_meaning.walrus_local_function.walrus_body_locals.wasm_grammar.wasm_operators.wasm_features.declared.WasmFeatures.{WasmFeatures}
use Rattle.walrus_named_bodies.specs.walrus_file_bodies.walrus_items_into.walrus_module_bodies.walrus_body_trees.walrus_meaning.walrus_local_function.walrus_body_locals.wasm_grammar.walrus_forms.Kinds.{Kind}
use Rattle.walrus_named_bodies.specs.walrus_file_bodies.walrus_items_into.walrus_module_bodies.walrus_body_trees.walrus_meaning.walrus_local_function.walrus_body_locals.wasm_grammar.walrus_forms.Records.{TypeGroup}
use Rattle.walrus_named_bodies.specs.walrus_file_bodies.walrus_items_into.walrus_module_bodies.walrus_body_trees.walrus_meaning.walrus_local_function.walrus_body_locals.wasm_grammar.walrus_forms.Renaming.{at, renamed_kind}
use Rattle.walrus_named_bodies.specs.walrus_file_bodies.walrus_items_into.walrus_module_bodies.walrus_body_trees.walrus_meaning.walrus_module.walrus_types.Mergers.{is_single}
use Rattle.walrus_named_bodies.specs.walrus_file_bodies.walrus_items_into.walrus_module_bodies.walrus_body_trees.walrus_meaning.walrus_module.walrus_types.Parsing.{AreBelow, parsed, unparsed}
use Rattle.walrus_named_bodies.specs.walrus_file_bodies.walrus_items_into.walrus_functions_into.wasm_sections.Laws.{ReadsSections}
use Rattle.walrus_named_bodies.specs.walrus_file_bodies.walrus_items_into.walrus_module_bodies.walrus_body_trees.walrus_meaning.Bodies.{has_number}
use Rattle.walrus_named_bodies.specs.walrus_file_bodies.walrus_items_into.walrus_module_bodies.walrus_body_trees.walrus_meaning.Meaning.{has_kinds, own_groups}
use Rattle.walrus_named_bodies.specs.walrus_file_bodies.walrus_items_into.walrus_functions_into.walrus_types_into.Into.{no_types}

-- no type before this one has its id
abbrev pub is_new : List ℕ → ℕ → Bool
is_new ids n = not (has_number (take n ids) (at ids n))

-- marked but where it is of one type without a mark
abbrev pub renamed_group : (ℕ → ℕ) → TypeGroup → TypeGroup
renamed_group r g = record { marked = not (is_single g); kinds = map (renamed_kind r) g.kinds }

-- where types have these ids, and so many stand before: the groups that have types, but for a single one whose type has the id of an
-- earlier one
abbrev pub kept : List ℕ → ℕ → List TypeGroup → List TypeGroup
kept ids n [] = []
kept ids n (g ∷ groups) = if has_kinds g && is_new ids n then renamed_group (at ids) g ∷ kept ids (n + length g.kinds) groups else kept ids (n + length g.kinds) groups

-- no type is an entry type
abbrev pub AreDeclared : List TypeGroup → Type 0
AreDeclared [] = Unit {0}
AreDeclared (g ∷ groups) = AllByRecursion (λ (k : Kind). k.entry ≡ false) g.kinds × AreDeclared groups

-- the groups of a table that began empty mean those of the file
abbrev pub GroupsMean : Type 0
GroupsMean = (groups : List TypeGroup) → AreBelow 0 groups → AreDeclared groups → let p = parsed groups (unparsed no_types) in own_groups p.table ≡ kept p.ids 0 groups

-- so it is in a file
abbrev pub ReadTypesAreDeclared : Type 0
ReadTypesAreDeclared = (features : WasmFeatures) (bytes : List ℕ) (s : State) → ReadsSections features bytes s → AreDeclared s.filled.groups
