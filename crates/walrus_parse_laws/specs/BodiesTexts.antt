-- What the bodies of a module that was read mean: the normal forms of the file's.
use Rattle.std.specs.Prelude.{ℕ, ◌≡◌, ◌<◌, List, All, map, Some}
use Rattle.std.specs.List.{AllZip}
use Rattle.std.specs.Option.{unwrap_or}
use Rattle.walrus_named_bodies.specs.walrus_file_bodies.walrus_body_trees.walrus_body_nesting.wasm_body_grammar.Rules.{Around}
use Rattle.walrus_named_bodies.specs.walrus_file_bodies.walrus_body_trees.walrus_body_nesting.wasm_body_grammar.wasm_grammar.Modules as grammar
use Rattle.walrus_named_bodies.specs.walrus_file_bodies.walrus_items_into.wasm_module_rules.wasm_modules.Modules.{around}
use Rattle.walrus_named_bodies.specs.walrus_file_bodies.walrus_items_into.walrus_module_bodies.walrus_body_trees.walrus_meaning.walrus_local_function.walrus_body_locals.wasm_normal_form.Normal.{normal_ops}
use Rattle.walrus_named_bodies.specs.walrus_file_bodies.walrus_items_into.walrus_module_bodies.walrus_body_trees.walrus_meaning.walrus_local_function.walrus_body_locals.wasm_normal_form.Roles.{Placed, placed}
use Rattle.walrus_named_bodies.specs.walrus_file_bodies.walrus_body_trees.walrus_body_nesting.wasm_body_grammar.wasm_operators.Names.{Renaming}
use Rattle.walrus_named_bodies.specs.walrus_file_bodies.walrus_items_into.walrus_module_env.wasm_run_names.Picks.{block_pick}
use Rattle.walrus_arena.specs.Arena.{item_at}
use Rattle.walrus_named_bodies.specs.walrus_file_bodies.walrus_body_trees.Laws.{meant, renamed}
use Rattle.walrus_config.specs.declared.config.ModuleConfig.{ModuleConfig}
use Rattle.walrus_named_bodies.specs.walrus_file_bodies.Ready.{bodies_in}
use Rattle.walrus_named_bodies.specs.walrus_file_bodies.walrus_items_into.walrus_functions_into.declared.bodies.FunctionBody.{FunctionBody}
use Rattle.walrus_named_bodies.specs.walrus_file_bodies.walrus_body_trees.walrus_pairing.walrus_index_maps.Maps.{Ids}
use Rattle.walrus_named_bodies.specs.walrus_file_bodies.walrus_items_into.walrus_tables_into.walrus_sections_into.walrus_known_sections.State.{state_of}
use Rattle.walrus_named_bodies.specs.walrus_file_bodies.walrus_items_into.walrus_module_bodies.walrus_body_trees.walrus_meaning.walrus_local_function.declared.local_function.LocalFunction.{LocalFunction}
use Rattle.walrus_named_bodies.specs.walrus_file_bodies.walrus_items_into.walrus_module_bodies.walrus_body_trees.walrus_meaning.Bodies.{own_operators}
use Rattle.walrus_named_bodies.specs.walrus_file_bodies.walrus_items_into.walrus_module_bodies.walrus_body_trees.walrus_meaning.walrus_module.Parts.{Module, parts}
use Rattle.walrus_named_bodies.specs.walrus_file_bodies.walrus_items_into.walrus_module_bodies.walrus_body_trees.walrus_meaning.walrus_module.declared.module.Module.{Module as Whole}
use Rattle.walrus_named_bodies.specs.walrus_file_bodies.walrus_items_into.walrus_module_bodies.walrus_body_trees.walrus_meaning.walrus_linked.walrus_module_items.declared.function.Function.{Function}
use Rattle.walrus_named_bodies.specs.walrus_file_bodies.walrus_items_into.walrus_module_bodies.walrus_body_trees.walrus_meaning.walrus_linked.walrus_module_items.declared.function.FunctionKind.TheVariants as kinds
use Rattle.walrus_named_bodies.specs.walrus_file_bodies.walrus_body_trees.walrus_pairing.Looks.{id_of}
use Rattle.walrus_named_bodies.specs.Parsed.{IsReadAs, read_features}

-- each index of a function becomes the id that it names; one that names nothing stays, as labels do
abbrev pub naming : Ids → ℕ → Renaming
naming found function space n = unwrap_or (id_of found function space n) n

-- the operators of a body, each with the place that it carries
abbrev pub text_of : grammar.Body → List Placed
text_of x = map (λ (o : grammar.Placed). placed o.op (Some o.place)) x.operators

-- in the module the function of this body means the normal form of that one of the file
pub record MeansBody (m : Module) (found : Ids) (a : Around) (b : FunctionBody) (x : grammar.Body) : Type 0 where
  pub function : Function
  pub there : item_at m.funcs b.number ≡ Some function
  pub local : LocalFunction
  pub kind : function.kind ≡ kinds.Local local
  pub operators : map meant (own_operators local) ≡ map (renamed (naming found b.number)) (normal_ops (block_pick a) (text_of x))

-- so it is of each body of the file, in their order, with the function whose it is
abbrev pub ReadBodiesMeanTheirs : Type 0 → Type 0
ReadBodiesMeanTheirs B = (config : ModuleConfig) (bytes : List ℕ) (m : Whole B) (found : Ids) → All (λ b. b < 256) bytes → (is : IsReadAs config bytes m found)
    → AllZip (MeansBody (parts m) found (around (read_features config) (state_of is.1.sections))) (bodies_in is.1.sections is.1.filled.functions) is.1.bodies
