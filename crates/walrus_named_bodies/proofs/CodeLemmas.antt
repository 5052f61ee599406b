-- What is asked of the bodies of a file, over the list that holds them.
use Rattle.std.specs.Prelude.{◌≡◌, List, Result, Ok, Err, IfErr, IsErr, IsErrAnd}
use Rattle.std.proofs.Common.{sym, subst}
use Rattle.walrus_errors.specs.declared.error.ModuleError.{ModuleError}
use Rattle.walrus_arena.specs.Arena.{Arena}
use Rattle.walrus_file_bodies.specs.walrus_items_into.walrus_functions_into.declared.bodies.FunctionBody.{FunctionBody}
use Rattle.walrus_file_bodies.specs.walrus_items_into.walrus_tables_into.walrus_sections_into.walrus_known_sections.declared.sections.Sections.{Sections}
use Rattle.walrus_item_names.specs.walrus_module.walrus_module_items.declared.function.Function.{Function}
use Rattle.walrus_file_bodies.specs.walrus_module_bodies.Steps.{State}
use Rattle.walrus_file_bodies.specs.walrus_module_bodies.declared.file.FileEnv.{FileEnv}
use Rattle.walrus_item_names.specs.walrus_module.walrus_body_writer.walrus_pairing.wasm_operators.wasm_features.declared.WasmFeatures.{WasmFeatures}
use Rattle.walrus_file_bodies.specs.Ready.{AreReady, bodies_in}

pub ready_over : (s : Sections) (functions : Arena Function) (file : FileEnv) (features : WasmFeatures) (bodies : List FunctionBody) (old : State) → bodies ≡ bodies_in s functions
    → AreReady file features (bodies_in s functions) old → AreReady file features bodies old
ready_over s functions file features bodies old same ready = subst (λ (xs : List FunctionBody). AreReady file features xs old) (sym same) ready

-- a refusal that `?` hands on
pub handed : {A : Type 0} (P : ModuleError → Type 0) (e : ModuleError) (result : Result A ModuleError) → IsErr result × IsErrAnd result (λ x. x ≡ e) → P e → IfErr result P
handed P e (Ok x) h p = tt
handed P e (Err x) h p = subst P (sym h.1) p
