-- What the bodies of a module that was read name: items that live.
use Rattle.std.specs.Prelude.{ℕ, ◌≡◌, ◌<◌, List, All, Some}
use Rattle.std.specs.List.{AllByRecursion}
use Rattle.walrus_named_bodies.specs.walrus_file_bodies.walrus_body_trees.walrus_body_nesting.wasm_body_grammar.Rules.{space_of}
use Rattle.walrus_named_bodies.specs.walrus_file_bodies.walrus_body_trees.walrus_body_nesting.wasm_body_grammar.wasm_grammar.Modules.{Placed}
use Rattle.wasm_operators.specs.Items.{Space, Locals, Labels}
use Rattle.wasm_operators.specs.Names.{Name, operator_names}
use Rattle.walrus_arena.specs.Arena.{item_at}
use Rattle.walrus_config.specs.declared.config.ModuleConfig.{ModuleConfig}
use Rattle.walrus_named_bodies.specs.walrus_file_bodies.Ready.{bodies_in}
use Rattle.walrus_named_bodies.specs.walrus_file_bodies.walrus_items_into.walrus_functions_into.declared.bodies.FunctionBody.{FunctionBody}
use Rattle.walrus_named_bodies.specs.walrus_file_bodies.walrus_body_trees.walrus_pairing.walrus_index_maps.Maps.{Ids}
use Rattle.walrus_named_bodies.specs.walrus_file_bodies.walrus_items_into.walrus_module_bodies.walrus_body_trees.walrus_meaning.walrus_linked.walrus_local_function.declared.local_function.LocalFunction.{LocalFunction}
use Rattle.walrus_named_bodies.specs.walrus_file_bodies.walrus_items_into.walrus_module_bodies.walrus_body_trees.walrus_meaning.Bodies.{own_operators}
use Rattle.walrus_named_bodies.specs.walrus_item_names.walrus_module.Items.{LivesIn}
use Rattle.walrus_named_bodies.specs.walrus_item_names.walrus_module.Parts.{Module, parts}
use Rattle.walrus_named_bodies.specs.walrus_item_names.walrus_module.declared.module.Module.{Module as Whole}
use Rattle.walrus_named_bodies.specs.walrus_file_bodies.walrus_items_into.walrus_module_bodies.walrus_body_trees.walrus_meaning.walrus_linked.walrus_module_items.declared.function.Function.{Function}
use Rattle.walrus_named_bodies.specs.walrus_file_bodies.walrus_items_into.walrus_module_bodies.walrus_body_trees.walrus_meaning.walrus_linked.walrus_module_items.declared.function.FunctionKind.TheVariants as kinds
use Rattle.walrus_named_bodies.specs.Parsed.{IsReadAs}

-- the item of the module lives; a label or local is the body's own
abbrev pub IsThere : Module → Space → ℕ → Type 0
IsThere m Locals n = Unit {0}
IsThere m Labels n = Unit {0}
IsThere m space n = LivesIn m (space_of space) n

-- so does each that an operator names
abbrev pub NamesThere : Module → Placed → Type 0
NamesThere m o = AllByRecursion (λ (n : Name). IsThere m n.0 n.1) (operator_names o.op)

-- the function of this body names such items alone
pub record NamesLiving (m : Module) (b : FunctionBody) : Type 0 where
  pub function : Function
  pub there : item_at m.funcs b.number ≡ Some function
  pub local : LocalFunction
  pub kind : function.kind ≡ kinds.Local local
  pub named : AllByRecursion (NamesThere m) (own_operators local)

-- so it is of each body of the file
abbrev pub NamesOfReadBodiesLive : Type 0 → Type 0
NamesOfReadBodiesLive B = (config : ModuleConfig) (bytes : List ℕ) (m : Whole B) (found : Ids) → All (λ b. b < 256) bytes → (is : IsReadAs config bytes m found)
    → AllByRecursion (NamesLiving (parts m)) (bodies_in is.1.sections is.1.filled.functions)
