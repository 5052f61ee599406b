-- The types that handlers of legacy `try`s have and the module hasn't, in words of a file's module: `catch` and `catch_all` have no block type of their own.
use Rattle.std.specs.Prelude.{ℕ, ◌&&◌, Bool, true, false, not, List, [], ◌∷◌, ◌++◌, map, filter, Option, Some, None, slice_get, slice_index_or}
use Rattle.std.specs.List.{AllByRecursion, flat_map}
use Rattle.std.specs.Option.{is_none, option_and_then, option_map}
use Rattle.walrus_forms.specs.Forms.{Form, FunctionForm, StructForm, ArrayForm}
use Rattle.walrus_forms.specs.Kinds.{Kind, function_kind}
use Rattle.walrus_forms.specs.Records.{TypeGroup}
use Rattle.walrus_forms.specs.Renaming.{at, renamed_value}
use Rattle.walrus_forms.specs.declared.value.ValType.{ValType}
use Rattle.walrus_types.specs.Table.{Table, found_type}
use Rattle.wasm_features.specs.declared.WasmFeatures.{WasmFeatures}
use Rattle.wasm_operators.specs.declared.block_type.BlockType.{BlockType}
use Rattle.wasm_operators.specs.declared.block_type.BlockType.TheVariants as blocks
use Rattle.wasm_operators.specs.declared.entry.Flow.{Flow}
use Rattle.wasm_operators.specs.declared.entry.Flow.TheVariants as flows
use Rattle.wasm_operators.specs.Items.{Tags, Item, Names, Block}
use Rattle.wasm_operators.specs.Operators.{flow_of}
use Rattle.wasm_grammar.specs.Modules.{Origin, Imported, Own, Body, Function, Tag, Module}
use Rattle.wasm_grammar.specs.States.{types_of}
use Rattle.wasm_grammar.specs.TypeWords.{value_of}
use Rattle.wasm_modules.specs.Modules.{Reads}
use Rattle.wasm_normal_form.specs.Normal.{normal}
use Rattle.wasm_normal_form.specs.Trees.{Tree, Close, Arm, Skip, Run, Nest, tree_of}
use Rattle.wasm_ruled_normal.specs.Normal.{text_of}
use Rattle.wasm_merged_modules.specs.Merged.{IsMissing, ids_of, merged_types, once, single}

-- what a handler takes and gives: the parameters of the tag that it catches, none if it catches all, and the results of its block
pub record Signature : Type 0 where
  pub params : List ValType
  pub results : List ValType

abbrev pub signature_of : Option (List ValType) → Option (List ValType) → List Signature
signature_of (Some params) (Some results) = record { params = params; results = results } ∷ []
signature_of _ _ = []

-- the parameters and results of a form, if it is a function's
abbrev pub form_takes : Form → Option (List ValType)
form_takes (FunctionForm params results) = Some params
form_takes (StructForm fields) = None
form_takes (ArrayForm field) = None

abbrev pub form_gives : Form → Option (List ValType)
form_gives (FunctionForm params results) = Some results
form_gives (StructForm fields) = None
form_gives (ArrayForm field) = None

-- ---- handlers of a body, by the types of the file and its tags

module _ (types : List Kind) (tags : List (Option Tag)) where
  -- the parameters and results of a type, if it is a function's
  abbrev pub type_takes : ℕ → Option (List ValType)
  type_takes n = option_and_then (λ (k : Kind). form_takes k.form) (slice_get types n)

  abbrev pub type_gives : ℕ → Option (List ValType)
  type_gives n = option_and_then (λ (k : Kind). form_gives k.form) (slice_get types n)

  -- those of a tag, and of a block that is written so
  abbrev pub tag_takes : ℕ → Option (List ValType)
  tag_takes n = option_and_then (λ (t : Tag). type_takes t.ty) (slice_index_or tags n None)

  abbrev pub block_gives : BlockType → Option (List ValType)
  block_gives blocks.Empty = Some []
  block_gives (blocks.Value ty) = option_map (λ v. v ∷ []) (value_of ty)
  block_gives (blocks.Type n) = type_gives n

  abbrev pub opened_gives : List Item → Option (List ValType)
  opened_gives (Block written ∷ more) = block_gives written
  opened_gives _ = None

  -- the part that an operator begins in a block of these results: a `catch` takes the parameters of its tag's type, a `catch_all` none
  abbrev pub part_handles : Option (List ValType) → Option Flow → List Item → List Signature
  part_handles results (Some flows.Catch) (Names Tags n ∷ []) = signature_of (tag_takes n) results
  part_handles results (Some flows.CatchAll) items = signature_of (Some []) results
  part_handles results _ _ = []

  -- of the rest of a block of these results, in the order of the text
  abbrev pub text_handles : Option (List ValType) → Tree → List Signature
  text_handles results (Close o p) = []
  text_handles results (Arm o p t) = part_handles results (flow_of o.code) o.items ++ text_handles results t
  text_handles results (Skip o p t) = text_handles results t
  text_handles results (Run o p t) = text_handles results t
  text_handles results (Nest o p u t) = text_handles (opened_gives o.items) u ++ text_handles results t

  -- of a body's normal form, its block types as they are written
  abbrev pub body_handles : Body → List Signature
  body_handles x = text_handles None (normal (λ ty. ty) (tree_of (text_of x.operators)))

-- ---- of all bodies of a file, dropped functions' too, in their order

abbrev pub body_if : Origin Body → List Body
body_if (Imported import) = []
body_if (Own x) = x ∷ []

abbrev pub function_bodies : Option Function → List Body
function_bodies None = []
function_bodies (Some f) = body_if f.origin

abbrev pub bodies_of : Module → List Body
bodies_of file = flat_map function_bodies file.functions

abbrev pub bodies_handle : Module → List Body → List Signature
bodies_handle file xs = flat_map (body_handles (types_of file) file.tags) xs

-- ---- those for which there is no block type

-- no parameters and at most one result: there is a short form
abbrev pub is_short : List ValType → List ValType → Bool
is_short [] [] = true
is_short [] (ty ∷ []) = true
is_short _ _ = false

-- there is no block type of it: neither a short form nor a type in the table
abbrev pub is_missing : Table → Signature → Bool
is_missing t s = not (is_short s.params s.results) && is_none (found_type s.params s.results t)

-- the kind of a type of it
abbrev pub kind_of : Signature → Kind
kind_of s = function_kind s.params s.results

-- each type named by what it stands for
abbrev pub sent : (ℕ → ℕ) → Signature → Signature
sent r s = record { params = map (renamed_value r) s.params; results = map (renamed_value r) s.results }

-- the types that a file's handlers have and its merged types haven't, in the order of the text, each once
abbrev pub lacking : Module → List Kind
lacking file = map kind_of (filter (is_missing (merged_types file.groups).table) (map (sent (at (ids_of file.groups))) (bodies_handle file (bodies_of file))))

abbrev pub handler_groups : Module → List TypeGroup
handler_groups file = map single (once (lacking file))

-- in a file that is read each of them names types that are there, and no type of the file has it
abbrev pub HandlersAreMissing : Type 0
HandlersAreMissing = (features : WasmFeatures) (bytes : List ℕ) (file : Module) → Reads features bytes file → AllByRecursion (IsMissing file.groups) (lacking file)
