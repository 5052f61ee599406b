-- The words of contracts, passed on under one name: a crate above lists the face alone, and names them here.
-- Index maps.
pub use Rattle.walrus_index_maps.specs.Maps
pub use Rattle.walrus_index_maps.specs.Views
-- Operators, their immediates and their bytes.
pub use Rattle.wasm_operators.specs.Kinds as OperatorKinds
pub use Rattle.wasm_operators.specs.Operators as OperatorTable
pub use Rattle.wasm_operators.specs.Table
pub use Rattle.wasm_operators.specs.Items
pub use Rattle.wasm_operators.specs.Bytes as OperatorBytes
pub use Rattle.wasm_operators.specs.Names as OperatorNames
pub use Rattle.walrus_operators.specs.Copies as OperatorCopies
pub use Rattle.walrus_operators.specs.Immediates
pub use Rattle.walrus_operators.specs.Operators
pub use Rattle.walrus_operators.specs.Appended
-- Operators and instructions.
pub use Rattle.walrus_local_function.specs.walrus_body_writer.walrus_pairing.Looks
pub use Rattle.walrus_local_function.specs.walrus_body_writer.walrus_pairing.Read as PairedInstructions
pub use Rattle.walrus_local_function.specs.walrus_body_writer.walrus_pairing.Write as PairedOperators
-- What a body is read beside, its grammar and its normal form.
pub use Rattle.walrus_body_env.specs.Faults
pub use Rattle.wasm_body_grammar.specs.Bodies
pub use Rattle.wasm_body_grammar.specs.Frames as GrammarFrames
pub use Rattle.wasm_body_grammar.specs.Rules
pub use Rattle.wasm_normal_form.specs.Bodies as NormalBodies
pub use Rattle.wasm_normal_form.specs.Locals as NormalLocals
pub use Rattle.wasm_normal_form.specs.Normal
pub use Rattle.wasm_normal_form.specs.Places
pub use Rattle.wasm_normal_form.specs.Roles
pub use Rattle.wasm_normal_form.specs.Trees as OperatorTrees
-- Functions with a body that are read.
pub use Rattle.walrus_local_function.specs.walrus_body_locals.Locals as DeclaredLocals
pub use Rattle.walrus_local_function.specs.walrus_body_locals.Told
pub use Rattle.walrus_body_laws.specs.walrus_body_steps.walrus_body_nesting.Stands
pub use Rattle.walrus_body_rules.specs.Sights
pub use Rattle.walrus_body_laws.specs.walrus_body_steps.Meanings
pub use Rattle.walrus_local_function.specs.walrus_function_parser.Parsed
-- Open frames.
pub use Rattle.walrus_body_frames.specs.Frames
-- Functions with a body: what they name, and what is written of them.
pub use Rattle.walrus_local_function.specs.Locals as FunctionLends
pub use Rattle.walrus_body_laws.specs.walrus_body_names.Names
pub use Rattle.walrus_body_laws.specs.walrus_body_names.walrus_body_writer.walrus_body_text.Walking as Emitting
pub use Rattle.walrus_body_laws.specs.walrus_body_names.walrus_body_writer.Outputs
pub use Rattle.walrus_body_laws.specs.walrus_body_names.walrus_body_writer.Refusals
pub use Rattle.walrus_body_laws.specs.walrus_body_names.walrus_body_writer.Spelled
pub use Rattle.walrus_body_laws.specs.walrus_body_names.walrus_body_writer.walrus_body_text.Visiting
pub use Rattle.walrus_body_laws.specs.walrus_local_numbers.Declared
pub use Rattle.walrus_body_laws.specs.walrus_local_numbers.Written
-- Runs.
pub use Rattle.walrus_body_laws.specs.wasm_run_laws.wasm_runs.Machine
pub use Rattle.walrus_body_laws.specs.wasm_run_laws.wasm_runs.Modules as RunModules
pub use Rattle.walrus_body_laws.specs.wasm_run_laws.wasm_runs.Outcomes
pub use Rattle.walrus_body_laws.specs.wasm_run_laws.wasm_runs.Programs
pub use Rattle.walrus_body_laws.specs.wasm_run_laws.wasm_runs.Traces
-- Laws.
pub use Rattle.walrus_body_laws.specs.WritingLaws as TextLaws
pub use Rattle.walrus_body_laws.specs.Naming as TextNaming
pub use Rattle.walrus_body_laws.specs.Nesting as TextNesting
pub use Rattle.walrus_body_laws.specs.Renaming as TextRenaming
pub use Rattle.walrus_body_laws.specs.walrus_body_trees.Laws as TreeLaws
pub use Rattle.walrus_body_laws.specs.EmissionLaws as EmissionLaws
pub use Rattle.wasm_normal_form.specs.Laws as NormalFormLaws
pub use Rattle.wasm_normal_laws.specs.Laws as NormalBodyLaws
pub use Rattle.walrus_body_laws.specs.wasm_run_laws.wasm_runs.Frames as RunFrames
pub use Rattle.walrus_body_laws.specs.wasm_run_laws.wasm_runs.Laws as RunLaws
pub use Rattle.walrus_body_laws.specs.wasm_run_laws.wasm_runs.Renamed as RunsRenamed
pub use Rattle.walrus_body_laws.specs.wasm_run_laws.Laws as NormalRunLaws
pub use Rattle.walrus_body_laws.specs.wasm_run_laws.Stands as RunStands
pub use Rattle.wasm_run_names.specs.Asked as RunAsked
pub use Rattle.wasm_run_names.specs.Picks as RunPicks
