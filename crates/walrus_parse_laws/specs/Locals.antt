-- What the locals of a module that was read are: those of the file's bodies in their normal forms.
use Rattle.std.specs.Prelude.{ℕ, ◌≡◌, ◌⊎◌, ◌<◌, ◌++◌, true, List, All, Contains, length, map, Some, slice_get}
use Rattle.std.specs.List.{AllZip, range_with_len}
use Rattle.walrus_named_bodies.specs.walrus_file_bodies.walrus_body_trees.walrus_body_nesting.wasm_body_grammar.Rules.{Around}
use Rattle.walrus_named_bodies.specs.walrus_file_bodies.walrus_body_trees.walrus_body_nesting.wasm_body_grammar.wasm_grammar.Modules as grammar
use Rattle.walrus_named_bodies.specs.walrus_file_bodies.walrus_body_trees.walrus_body_nesting.wasm_body_grammar.wasm_operators.Items.{Locals}
use Rattle.walrus_named_bodies.specs.walrus_file_bodies.walrus_items_into.wasm_module_rules.wasm_modules.Modules.{around}
use Rattle.walrus_named_bodies.specs.walrus_file_bodies.walrus_items_into.walrus_module_bodies.walrus_body_trees.walrus_meaning.walrus_local_function.walrus_body_locals.wasm_normal_form.Bodies.{Body, is_used, new_number, normal_body, used_keys}
use Rattle.walrus_named_bodies.specs.walrus_file_bodies.walrus_items_into.walrus_module_bodies.walrus_body_trees.walrus_meaning.walrus_local_function.walrus_body_locals.wasm_normal_form.Locals.{Key}
use Rattle.walrus_named_bodies.specs.walrus_file_bodies.walrus_items_into.walrus_module_bodies.walrus_body_trees.walrus_meaning.walrus_local_function.walrus_body_locals.wasm_normal_form.Normal.{normal_ops}
use Rattle.walrus_named_bodies.specs.walrus_file_bodies.walrus_items_into.walrus_module_env.wasm_run_names.Picks.{block_pick}
use Rattle.walrus_arena.specs.Arena.{item_at}
use Rattle.walrus_config.specs.declared.config.ModuleConfig.{ModuleConfig}
use Rattle.walrus_named_bodies.specs.walrus_file_bodies.Ready.{bodies_in}
use Rattle.walrus_named_bodies.specs.walrus_file_bodies.walrus_body_trees.walrus_body_nesting.wasm_body_grammar.wasm_grammar.walrus_forms.Renaming.{at, renamed_value}
use Rattle.walrus_named_bodies.specs.walrus_file_bodies.walrus_items_into.walrus_functions_into.declared.bodies.FunctionBody.{FunctionBody}
use Rattle.walrus_named_bodies.specs.walrus_file_bodies.walrus_items_into.walrus_module_bodies.walrus_body_trees.walrus_meaning.walrus_body_writer.walrus_pairing.walrus_index_maps.Maps.{Ids}
use Rattle.walrus_named_bodies.specs.walrus_file_bodies.walrus_items_into.walrus_tables_into.walrus_sections_into.walrus_known_sections.State.{state_of}
use Rattle.walrus_named_bodies.specs.walrus_file_bodies.walrus_items_into.walrus_module_bodies.walrus_body_trees.walrus_meaning.walrus_local_function.declared.local_function.LocalFunction.{LocalFunction}
use Rattle.walrus_named_bodies.specs.walrus_file_bodies.walrus_items_into.walrus_module_bodies.walrus_body_trees.walrus_meaning.Bodies.{local_ids, named_locals, own_body, own_operators}
use Rattle.walrus_named_bodies.specs.walrus_file_bodies.walrus_items_into.walrus_module_bodies.walrus_body_trees.walrus_meaning.walrus_module.Parts.{Module, parts}
use Rattle.walrus_named_bodies.specs.walrus_file_bodies.walrus_items_into.walrus_module_bodies.walrus_body_trees.walrus_meaning.walrus_module.declared.module.Module.{Module as Whole}
use Rattle.walrus_named_bodies.specs.walrus_file_bodies.walrus_items_into.walrus_module_bodies.walrus_body_trees.walrus_meaning.walrus_linked.walrus_module_items.declared.function.Function.{Function}
use Rattle.walrus_named_bodies.specs.walrus_file_bodies.walrus_items_into.walrus_module_bodies.walrus_body_trees.walrus_meaning.walrus_linked.walrus_module_items.declared.function.FunctionKind.TheVariants as kinds
use Rattle.walrus_named_bodies.specs.Parsed.{IsReadAs, read_features}
use Rattle.walrus_parse_laws.specs.BodiesTexts.{naming, text_of}

-- a body with the ids of types in the place of their indices: locals are in the order of their types
abbrev pub typed : Ids → grammar.Body → Body
typed found x = record { locals = map (renamed_value (at found.types)) x.locals; ops = text_of x }

-- the used locals of a body of a function of so many parameters, in their new order
abbrev pub keys_of : Ids → Around → ℕ → grammar.Body → List Key
keys_of found a params x = used_keys params (typed found x).locals (normal_ops (block_pick a) (text_of x))

-- the numbers of parameters and used locals, in the order of their new numbers
abbrev pub kept_numbers : ℕ → List Key → List ℕ
kept_numbers params keys = range_with_len 0 params ++ map (λ (k : Key). k.1) keys

-- in the module the function of this body declares the locals of the normal form of that one of the file, behind its parameters; the ids of
-- its locals stand in the order of their new numbers: a parameter's, or that of a local that is used, at its new number; and the locals that its
-- operators name are the module's
pub record HasLocals (m : Module) (found : Ids) (a : Around) (b : FunctionBody) (x : grammar.Body) : Type 0 where
  pub function : Function
  pub there : item_at m.funcs b.number ≡ Some function
  pub local : LocalFunction
  pub kind : function.kind ≡ kinds.Local local
  pub locals : (own_body m.locals local).locals ≡ (normal_body (block_pick a) (length local.args.items) (typed found x)).locals
  pub arguments : local.args.items ≡ map (naming found b.number Locals) (range_with_len 0 (length local.args.items))
  pub ids : local_ids m.locals local ≡ map (naming found b.number Locals) (kept_numbers (length local.args.items) (keys_of found a (length local.args.items) x))
  pub numbers : (n : ℕ) → (n < length local.args.items) ⊎ (is_used (normal_ops (block_pick a) (text_of x)) n ≡ true)
      → slice_get (local_ids m.locals local) (new_number (length local.args.items) (keys_of found a (length local.args.items) x) n) ≡ Some (naming found b.number Locals n)
  pub inside : (id : ℕ) → Contains (named_locals (own_operators local)) id → id < length m.locals

-- so it is of each body of the file, in their order, with the function whose it is
abbrev pub ReadBodiesHaveTheirLocals : Type 0 → Type 0
ReadBodiesHaveTheirLocals B = (config : ModuleConfig) (bytes : List ℕ) (m : Whole B) (found : Ids) → All (λ b. b < 256) bytes → (is : IsReadAs config bytes m found)
    → AllZip (HasLocals (parts m) found (around (read_features config) (state_of is.1.sections))) (bodies_in is.1.sections is.1.filled.functions) is.1.bodies
