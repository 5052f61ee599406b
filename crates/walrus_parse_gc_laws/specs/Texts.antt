-- What is written for the bodies of a module that was read, once its locals have their numbers: the normal forms of the file's bodies.
use Rattle.std.specs.Prelude.{ℕ, ◌≡◌, ◌<◌, List, All, length, map, Option, Some}
use Rattle.std.specs.List.{AllZip}
use Rattle.wasm_body_grammar.specs.Rules.{Around}
use Rattle.wasm_body_grammar.specs.wasm_grammar.Modules as grammar
use Rattle.wasm_body_grammar.specs.wasm_operators.NameLaws.{after}
use Rattle.wasm_body_grammar.specs.wasm_operators.Names.{Renaming}
use Rattle.wasm_body_grammar.specs.wasm_operators.Items.{Locals}
use Rattle.walrus_parse_laws.specs.walrus_named_bodies.walrus_file_bodies.walrus_items_into.wasm_module_rules.wasm_modules.Modules.{around}
use Rattle.walrus_parse_laws.specs.walrus_meaning.walrus_local_function.walrus_body_locals.wasm_normal_form.Bodies.{normal_body}
use Rattle.walrus_parse_laws.specs.walrus_named_bodies.walrus_file_bodies.walrus_items_into.walrus_module_env.wasm_run_names.Picks.{block_pick}
use Rattle.walrus_arena.specs.Arena.{item_at}
use Rattle.walrus_config.specs.declared.config.ModuleConfig.{ModuleConfig}
use Rattle.walrus_parse_laws.specs.walrus_named_bodies.walrus_file_bodies.Ready.{bodies_in}
use Rattle.walrus_parse_laws.specs.walrus_named_bodies.walrus_file_bodies.walrus_items_into.walrus_functions_into.declared.bodies.FunctionBody.{FunctionBody}
use Rattle.walrus_parse_laws.specs.walrus_meaning.walrus_body_writer.walrus_pairing.walrus_index_maps.Maps.{Ids, Indices}
use Rattle.walrus_parse_laws.specs.walrus_named_bodies.walrus_file_bodies.walrus_items_into.walrus_tables_into.walrus_sections_into.walrus_known_sections.State.{state_of}
use Rattle.walrus_parse_laws.specs.walrus_meaning.walrus_local_function.declared.local_function.LocalFunction.{LocalFunction}
use Rattle.walrus_parse_laws.specs.walrus_meaning.walrus_module.Parts.{Module, parts}
use Rattle.walrus_parse_laws.specs.walrus_meaning.walrus_module.declared.module.Module.{Module as Whole}
use Rattle.walrus_parse_laws.specs.walrus_meaning.walrus_module.walrus_builder.Functions.{seqs_of}
use Rattle.walrus_parse_laws.specs.walrus_meaning.walrus_linked.walrus_module_items.declared.function.Function.{Function}
use Rattle.walrus_parse_laws.specs.walrus_meaning.walrus_linked.walrus_module_items.declared.function.FunctionKind.TheVariants as kinds
use Rattle.walrus_parse_laws.specs.walrus_named_bodies.Parsed.{IsReadAs, read_features}
use Rattle.walrus_parse_laws.specs.walrus_body_trees.Laws.{renamed}
use Rattle.walrus_parse_laws.specs.BodiesTexts.{naming}
use Rattle.walrus_body_laws.specs.WritingLaws.{text_ops}
use Rattle.walrus_body_laws.specs.Renaming.{KeepsLabels}
use Rattle.walrus_body_names.specs.walrus_body_writer.Spelled.{AreWritten}
use Rattle.walrus_body_names.specs.walrus_pairing.Looks.{number_of}
use Rattle.walrus_body_names.specs.walrus_tree.Text.{operators}
use Rattle.walrus_local_numbers.specs.Declared.{local_ids, with_numbers}
use Rattle.walrus_pairing.specs.Sends.{Sends}
use Rattle.walrus_parse_laws.specs.Locals.{typed}
use Rattle.walrus_parse_gc_laws.specs.Numbers.{AreUsed}

-- all is renamed but locals
abbrev pub but_locals : Renaming → Renaming
but_locals r Locals n = n
but_locals r space n = r space n

-- in the module, once the locals of the function of this body have their numbers, what is written for it are the operators of the normal
-- form of that one of the file: locals by their numbers there, each other index renamed to the number that is written for the id that it
-- names
pub record WritesBody (m : Module) (found : Ids) (a : Around) (b : FunctionBody) (x : grammar.Body) : Type 0 where
  pub function : Function
  pub there : item_at m.funcs b.number ≡ Some function
  pub local : LocalFunction
  pub kind : function.kind ≡ kinds.Local local
  pub written : (used : List ℕ) → AreUsed local used → (before : ℕ → ℕ → Option ℕ) (maps : Indices) → maps.locals b.number ≡ with_numbers b.number 0 (local_ids m.locals local.args.items used) before b.number
      → (r : Renaming) → Sends r (number_of maps b.number) → KeepsLabels r → AreWritten (number_of maps b.number) (seqs_of local.builder) (operators (seqs_of local.builder) 0)
      → text_ops (number_of maps b.number) (seqs_of local.builder) (operators (seqs_of local.builder) 0) ≡ map (renamed (but_locals (after r (naming found b.number)))) (normal_body (block_pick a) (length local.args.items) (typed found x)).ops

-- so it is of each body of the file, in their order, with the function whose it is
abbrev pub ReadBodiesWriteTheirs : Type 0 → Type 0
ReadBodiesWriteTheirs B = (config : ModuleConfig) (bytes : List ℕ) (m : Whole B) (found : Ids) → All (λ b. b < 256) bytes → (is : IsReadAs config bytes m found)
    → AllZip (WritesBody (parts m) found (around (read_features config) (state_of is.1.sections))) (bodies_in is.1.sections is.1.filled.functions) is.1.bodies
