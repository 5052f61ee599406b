-- Laws of bodies that were read into their module: they are those of the file, as the grammar reads them.
use Rattle.std.specs.Prelude.{ℕ, ◌≡◌, ◌≢◌, ◌+◌, ◌<◌, List, [], ◌∷◌, length, All, Some}
use Rattle.wasm_features.specs.declared.WasmFeatures.{WasmFeatures}
use Rattle.walrus_arena.specs.Arena.{item_at}
use Rattle.walrus_forms.specs.declared.value.ValType.{ValType}
use Rattle.walrus_function_types.specs.FunctionTypes.{params_at}
use Rattle.walrus_index_maps.specs.Maps.{Ids}
use Rattle.walrus_module_env.specs.walrus_body_parser.walrus_body_rules.wasm_body_grammar.Codes.{Code, ReadsCodes}
use Rattle.walrus_module_env.specs.walrus_body_parser.walrus_body_rules.wasm_body_grammar.Rules.{Around}
use Rattle.walrus_module_env.specs.walrus_body_parser.walrus_body_rules.wasm_grammar.Modules.{Body}
use Rattle.walrus_module_env.specs.walrus_body_parser.walrus_body_stack.walrus_body_nesting.Stands.{total}
use Rattle.walrus_module_env.specs.walrus_body_parser.walrus_body_stack.walrus_builder.Built.{contents}
use Rattle.walrus_module_env.specs.walrus_body_parser.walrus_body_stack.walrus_builder.Functions.{seqs_of}
use Rattle.walrus_body_trees.specs.walrus_body_text.Visiting.{text_size}
use Rattle.walrus_module_env.specs.walrus_handler_types.walrus_tree.Text.{operators}
use Rattle.walrus_module_env.specs.walrus_collections.walrus_module_items.declared.function.Function.{Function}
use Rattle.walrus_module_env.specs.walrus_collections.walrus_module_items.Functions.{type_of}
use Rattle.walrus_module_env.specs.walrus_functions_into.declared.bodies.FunctionBody.{FunctionBody}
use Rattle.walrus_module_bodies.specs.declared.file.FileEnv.{FileEnv}
use Rattle.walrus_module_bodies.specs.Steps.{AreApart, IsModuleOf, IsReady, IsStep, State, Steps}

-- the grammar has the body so: the same bytes at their place, of a function with as many parameters
pub record IsCodeOf (s : State) (b : FunctionBody) (c : Code) : Type 0 where
  pub place_is : c.chunk.place ≡ b.chunk.place
  pub bytes_are : c.chunk.bytes ≡ b.chunk.bytes.now
  pub small : All (λ (x : ℕ). x < 256) b.chunk.bytes.now
  pub counted : (item : Function) → item_at s.functions b.number ≡ Some item → (ps : List ValType) × (params_at s.types (type_of item.kind) ≡ Some ps) × (length ps ≡ c.params)

abbrev pub AreCodesOf : State → List FunctionBody → List Code → Type 0
AreCodesOf s [] [] = Unit {0}
AreCodesOf s (b ∷ bs) (c ∷ cs) = IsCodeOf s b c × AreCodesOf s bs cs
AreCodesOf s _ _ = ⊥

-- the indices of each function name its parameters and the locals that its body declares
abbrev pub NamesAll : (ℕ → List ℕ) → List FunctionBody → List Code → List Body → Type 0
NamesAll names [] [] [] = Unit {0}
NamesAll names (b ∷ bs) (c ∷ cs) (x ∷ xs) = (length (names b.number) ≡ c.params + length x.locals) × NamesAll names bs cs xs
NamesAll names _ _ _ = ⊥

-- bodies that were read are those of the file; of the map locals alone have changed, and those of their functions alone
pub record AreRead (a : Around) (codes : List Code) (bs : List FunctionBody) (old new : Ids) : Type 0 where
  pub bodies : List Body
  pub reads : ReadsCodes a codes bodies
  pub named : NamesAll new.locals bs codes bodies
  pub names : new ≡ record old { locals = new.locals }
  pub others : (n : ℕ) → All (λ (b : FunctionBody). b.number ≢ n) bs → new.locals n ≡ old.locals n

abbrev pub StepsReadCodes : Type 0
StepsReadCodes = (file : FileEnv) (features : WasmFeatures) (a : Around) (bs : List FunctionBody) (codes : List Code) (old new : State) → IsModuleOf file features old.types old.ids a → All (IsReady old) bs → AreApart bs
    → AreCodesOf old bs codes → Steps file features bs old new → AreRead a codes bs old.ids new.ids

-- a body that was read has as many operators, but for those that only mark where sequences end, as its sequences hold instructions
abbrev pub BodiesHoldTheirs : Type 0
BodiesHoldTheirs = (file : FileEnv) (features : WasmFeatures) (a : Around) (b : FunctionBody) (old new : State) → IsModuleOf file features old.types old.ids a → IsReady old b
    → All (λ (x : ℕ). x < 256) b.chunk.bytes.now → (s : IsStep file features b old new) → text_size (operators (seqs_of s.body.builder) 0) ≡ total (contents s.body.builder.builder)
