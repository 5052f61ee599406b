-- The numbers of the locals of a module that was read, and which locals are declared: those of the file's bodies in their normal forms.
use Rattle.std.specs.Prelude.{ℕ, ◌≡◌, ◌⊎◌, ◌<◌, true, List, All, length, map, Option, Some}
use Rattle.std.specs.List.{AllZip}
use Rattle.wasm_body_grammar.specs.Rules.{Around}
use Rattle.wasm_body_grammar.specs.wasm_grammar.Modules as grammar
use Rattle.wasm_body_grammar.specs.wasm_operators.Items.{Locals}
use Rattle.walrus_parse_laws.specs.walrus_named_bodies.walrus_file_bodies.walrus_items_into.wasm_module_rules.wasm_modules.Modules.{around}
use Rattle.walrus_parse_laws.specs.walrus_meaning.walrus_local_function.walrus_body_locals.wasm_normal_form.Bodies.{is_used, new_number, normal_body}
use Rattle.walrus_parse_laws.specs.walrus_meaning.walrus_local_function.walrus_body_locals.wasm_normal_form.Locals.{Key}
use Rattle.walrus_parse_laws.specs.walrus_meaning.walrus_local_function.walrus_body_locals.wasm_normal_form.Normal.{normal_ops}
use Rattle.walrus_parse_laws.specs.walrus_named_bodies.walrus_file_bodies.walrus_items_into.walrus_module_env.wasm_run_names.Picks.{block_pick}
use Rattle.walrus_arena.specs.Arena.{item_at}
use Rattle.walrus_config.specs.declared.config.ModuleConfig.{ModuleConfig}
use Rattle.walrus_parse_laws.specs.walrus_named_bodies.walrus_file_bodies.Ready.{bodies_in}
use Rattle.walrus_parse_laws.specs.walrus_named_bodies.walrus_file_bodies.walrus_items_into.walrus_functions_into.declared.bodies.FunctionBody.{FunctionBody}
use Rattle.walrus_parse_laws.specs.walrus_meaning.walrus_body_writer.walrus_pairing.walrus_index_maps.Maps.{Ids}
use Rattle.walrus_parse_laws.specs.walrus_meaning.walrus_body_writer.walrus_pairing.walrus_items.declared.local.Local.{Local}
use Rattle.walrus_parse_laws.specs.walrus_named_bodies.walrus_file_bodies.walrus_items_into.walrus_tables_into.walrus_sections_into.walrus_known_sections.State.{state_of}
use Rattle.walrus_parse_laws.specs.walrus_meaning.walrus_local_function.declared.local_function.LocalFunction.{LocalFunction}
use Rattle.walrus_parse_laws.specs.walrus_meaning.Bodies.{used_locals}
use Rattle.walrus_parse_laws.specs.walrus_meaning.walrus_module.Parts.{Module, parts}
use Rattle.walrus_parse_laws.specs.walrus_meaning.walrus_module.declared.module.Module.{Module as Whole}
use Rattle.walrus_parse_laws.specs.walrus_meaning.walrus_module.walrus_builder.Functions.{seqs_of}
use Rattle.walrus_parse_laws.specs.walrus_meaning.walrus_linked.walrus_module_items.declared.function.Function.{Function}
use Rattle.walrus_parse_laws.specs.walrus_meaning.walrus_linked.walrus_module_items.declared.function.FunctionKind.TheVariants as kinds
use Rattle.walrus_parse_laws.specs.walrus_named_bodies.Parsed.{IsReadAs, read_features}
use Rattle.walrus_parse_laws.specs.BodiesTexts.{naming, text_of}
use Rattle.walrus_body_names.specs.Names.{HaveSame, local_in, text_names}
use Rattle.walrus_body_names.specs.walrus_tree.Text.{operators}
use Rattle.walrus_local_numbers.specs.Declared.{declared, local_ids, with_numbers}
use Rattle.walrus_parse_laws.specs.Locals.{keys_of, typed}

-- these are the locals that the text of the function's body names, in any order and however often
abbrev pub AreUsed : LocalFunction → List ℕ → Type 0
AreUsed local used = HaveSame used (text_names local_in (operators (seqs_of local.builder) 0))

-- of these, the locals that are declared are those that the body means
abbrev pub UsedLocalsAreMeant : Type 0
UsedLocalsAreMeant = (local : LocalFunction) (locals : List Local) (used : List ℕ) → AreUsed local used → declared locals local.args.items used ≡ used_locals locals local

-- in the module, of the locals that the text of this body's function names, those that are declared are the locals of the normal form of
-- that one of the file; and once its locals are given their numbers, whatever had numbers before, each parameter and each local that is
-- used has the one that it has there
pub record HasNumbers (m : Module) (found : Ids) (a : Around) (b : FunctionBody) (x : grammar.Body) : Type 0 where
  pub function : Function
  pub there : item_at m.funcs b.number ≡ Some function
  pub local : LocalFunction
  pub kind : function.kind ≡ kinds.Local local
  pub locals : (used : List ℕ) → AreUsed local used → map (λ (k : Key). k.0) (declared m.locals local.args.items used) ≡ (normal_body (block_pick a) (length local.args.items) (typed found x)).locals
  pub numbers : (used : List ℕ) → AreUsed local used → (before : ℕ → ℕ → Option ℕ) (n : ℕ) → (n < length local.args.items) ⊎ (is_used (normal_ops (block_pick a) (text_of x)) n ≡ true)
      → with_numbers b.number 0 (local_ids m.locals local.args.items used) before b.number (naming found b.number Locals n) ≡ Some (new_number (length local.args.items) (keys_of found a (length local.args.items) x) n)

-- so it is of each body of the file, in their order, with the function whose it is
abbrev pub ReadBodiesHaveTheirNumbers : Type 0 → Type 0
ReadBodiesHaveTheirNumbers B = (config : ModuleConfig) (bytes : List ℕ) (m : Whole B) (found : Ids) → All (λ b. b < 256) bytes → (is : IsReadAs config bytes m found)
    → AllZip (HasNumbers (parts m) found (around (read_features config) (state_of is.1.sections))) (bodies_in is.1.sections is.1.filled.functions) is.1.bodies
