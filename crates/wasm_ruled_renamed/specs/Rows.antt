-- A worked body: it meets the rules, operands aside (its `block` lacks one), and this is its normal form.
use Rattle.std.specs.Prelude.{ℕ, ◌≡◌, ◌==◌, false, List, [], ◌∷◌, Option, unwrap_or, if◌then◌else◌}
use Rattle.walrus_forms.specs.Kinds.{Kind, function_kind}
use Rattle.walrus_forms.specs.Records.{TypeGroup}
use Rattle.walrus_forms.specs.declared.value.ValType.TheVariants.{I32, I64}
use Rattle.wasm_ruled_normal.specs.wasm_ruled_modules.Rules.{IsBody}
use Rattle.wasm_ruled_normal.specs.wasm_ruled_modules.wasm_module_rules.wasm_modules.wasm_body_grammar.Rules.{Around}
use Rattle.wasm_ruled_normal.specs.wasm_ruled_modules.wasm_module_rules.wasm_modules.wasm_body_grammar.wasm_formats.wasm_features.declared.WasmFeatures.{WasmFeatures}
use Rattle.wasm_ruled_normal.specs.wasm_ruled_modules.wasm_module_rules.wasm_modules.wasm_body_grammar.wasm_grammar.Modules.{Body, Placed, empty}
use Rattle.wasm_ruled_normal.specs.wasm_ruled_modules.wasm_module_rules.wasm_modules.wasm_body_grammar.wasm_operators.Items.{Locals, Item, Names, Block}
use Rattle.wasm_ruled_normal.specs.wasm_ruled_modules.wasm_module_rules.wasm_modules.wasm_body_grammar.wasm_operators.declared.block_type.BlockType.TheVariants as blocks
use Rattle.wasm_ruled_normal.specs.wasm_ruled_modules.wasm_module_rules.wasm_modules.wasm_body_grammar.wasm_operators.Operators.{op_code}
use Rattle.wasm_ruled_renamed.specs.Bodies.{normal_of}

abbrev pub one : Kind → TypeGroup
one kind = record { marked = false; kinds = kind ∷ [] }

-- a file of three types, the last of which stands for the second one
abbrev pub file : WasmFeatures → Around
file features = record {
  features = features;
  filled = record empty { groups = one (function_kind [] []) ∷ one (function_kind (I32 ∷ []) (I32 ∷ [])) ∷ one (function_kind (I32 ∷ []) (I32 ∷ [])) ∷ [] };
  same = λ n. if n == 2 then 1 else n;
  counted = false;
}

abbrev pub op : ℕ → ℕ → List Item → Placed
op place byte items = record { place = place; op = record { code = op_code 0 byte; items = items } }

-- nop, local.get 2, if (type 0), local.get 0, drop, return, drop, end, block (type 2), end, end
abbrev pub written : Body
written = record {
  locals = I64 ∷ I32 ∷ I32 ∷ [];
  operators =
      op 1 0x01 [] ∷ op 2 0x20 (Names Locals 2 ∷ []) ∷ op 4 0x04 (Block (blocks.Type 0) ∷ []) ∷ op 6 0x20 (Names Locals 0 ∷ []) ∷ op 8 0x1a [] ∷ op 9 0x0f [] ∷ op 10 0x1a [] ∷ op 11 0x0b []
      ∷ op 12 0x02 (Block (blocks.Type 2) ∷ []) ∷ op 14 0x0b [] ∷ op 15 0x0b [] ∷ [];
}

-- local.get 0, if, local.get 1, drop, return, else, end, block (type 1), end, end; what has no place stands at 0
abbrev pub normal : Body
normal = record {
  locals = I32 ∷ I64 ∷ [];
  operators =
      op 2 0x20 (Names Locals 0 ∷ []) ∷ op 4 0x04 (Block blocks.Empty ∷ []) ∷ op 6 0x20 (Names Locals 1 ∷ []) ∷ op 8 0x1a [] ∷ op 9 0x0f [] ∷ op 11 0x05 [] ∷ op 0 0x0b []
      ∷ op 12 0x02 (Block (blocks.Type 1) ∷ []) ∷ op 14 0x0b [] ∷ op 15 0x0b [] ∷ [];
}

abbrev pub or_none : Option ℕ → ℕ
or_none place = unwrap_or place 0

pub record WorkedBody (features : WasmFeatures) : Type 0 where
  pub ruled : IsBody (file features) 0 written
  pub is : normal_of or_none (file features) 0 written ≡ normal

abbrev pub IsWorked : Type 0
IsWorked = (features : WasmFeatures) → WorkedBody features
