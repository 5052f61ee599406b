-- Lemmas: what indices name lives in a module that was read.
use Rattle.std.specs.Prelude.{ℕ, ◌≡◌, ◌<◌, List, [], length, Option, Some}
use Rattle.std.specs.Option.{unwrap_or}
use Rattle.std.proofs.Common.{ap, sym, ◌∙◌, subst}
use Rattle.std.proofs.lemmas.Option.{slice_get_within}
use Rattle.walrus_named_bodies.specs.walrus_file_bodies.walrus_items_into.walrus_module_env.walrus_handler_types.walrus_body_steps.wasm_body_grammar.Rules.{Around}
use Rattle.walrus_named_bodies.specs.walrus_file_bodies.walrus_items_into.walrus_module_env.walrus_handler_types.walrus_body_steps.wasm_body_grammar.wasm_operators.wasm_features.declared.WasmFeatures.{WasmFeatures}
use Rattle.walrus_named_bodies.specs.walrus_file_bodies.walrus_items_into.walrus_module_env.walrus_handler_types.walrus_body_steps.wasm_grammar.States.{types_of}
use Rattle.walrus_named_bodies.specs.walrus_file_bodies.walrus_items_into.walrus_module_env.walrus_handler_types.walrus_body_steps.wasm_body_grammar.wasm_operators.Items.{Space, Types, Functions, Tables, Memories, Tags, Globals, ElementSegments, DataSegments, Locals, Labels}
use Rattle.wasm_import_links.specs.Full.{ReadModulesAreFull}
use Rattle.walrus_named_bodies.specs.walrus_file_bodies.walrus_items_into.wasm_module_rules.wasm_modules.Modules.{around}
use Rattle.walrus_named_bodies.proofs.walrus_file_bodies.StopLemmas.{bodies_wait}
use Rattle.walrus_named_bodies.specs.walrus_file_bodies.Laws.{BodiesReadFiles}
use Rattle.walrus_named_bodies.specs.walrus_file_bodies.Read.{env_is, env_of, grows_none}
use Rattle.walrus_function_types.specs.Growth.{FoundTypesStay, TablesGrowOn}
use Rattle.walrus_parse_laws.specs.FilledGroups.{ReadTypesAreDeclared}
use Rattle.walrus_named_bodies.specs.walrus_file_bodies.walrus_items_into.walrus_module_bodies.walrus_body_trees.walrus_meaning.walrus_linked.walrus_body_writer.walrus_pairing.walrus_index_maps.Maps.{Ids}
use Rattle.walrus_parse_laws.specs.Meaning.{OrderedStay}
use Rattle.walrus_named_bodies.specs.walrus_file_bodies.walrus_items_into.Laws.{FilledModulesAreFiled}
use Rattle.walrus_named_bodies.specs.walrus_file_bodies.walrus_items_into.Numbers.{types_in}
use Rattle.walrus_named_bodies.specs.walrus_file_bodies.walrus_items_into.walrus_tables_into.walrus_sections_into.walrus_known_sections.State.{state_of}
use Rattle.walrus_named_bodies.specs.walrus_file_bodies.walrus_items_into.walrus_module_bodies.walrus_body_trees.walrus_meaning.walrus_linked.walrus_module.Parts.{parts}
use Rattle.walrus_named_bodies.specs.walrus_file_bodies.walrus_items_into.walrus_module_env.Around.{IsFiled}
use Rattle.walrus_named_bodies.specs.walrus_file_bodies.walrus_items_into.walrus_module_env.declared.env.ModuleEnv.{ModuleEnv}
use Rattle.walrus_named_bodies.specs.walrus_file_bodies.walrus_items_into.walrus_module_bodies.walrus_body_trees.walrus_meaning.walrus_linked.walrus_body_writer.walrus_pairing.Looks.{id_of}
use Rattle.walrus_named_bodies.specs.Parsed.{read_features}
use Rattle.walrus_named_bodies.specs.walrus_file_bodies.walrus_items_into.walrus_functions_into.walrus_types_into.Into.{NewTypesStand, TypesNameBelow}
use Rattle.walrus_parse_laws.specs.Items.{ReadModulesHaveItems, file_of}
use Rattle.walrus_parse_laws.proofs.ItemsTypeLemmas.{types_live}
use Rattle.walrus_parse_laws.specs.Indices.{IndicesOfReadModulesLive}
use Rattle.walrus_parse_laws.specs.Uses.{IsThere}
use Rattle.walrus_parse_laws.proofs.BodiesRuleLemmas.{InRange}
use Rattle.walrus_parse_laws.proofs.UseLemmas.{in_file, others_stay, there}

-- an index that names something is below the count of its space
in_count : (e : ModuleEnv) (i j : Ids) (features : WasmFeatures) (a : Around) (locals : ℕ) → IsFiled e i 0 locals features a → j ≡ record i { locals = j.locals }
    → (function : ℕ) (space : Space) (n id : ℕ) → id_of j function space n ≡ Some id → InRange a.filled space n
in_count e i j features a locals filed same function Types n id is = subst (λ (k : ℕ). n < k) (ap (λ (x : Ids). length x.types) same ∙ filed.types_are.sized) (slice_get_within j.types n id is)
in_count e i j features a locals filed same function Functions n id is = subst (λ (k : ℕ). n < k) (ap (λ (x : Ids). length x.functions) same ∙ filed.functions_are) (slice_get_within j.functions n id is)
in_count e i j features a locals filed same function Tables n id is = subst (λ (k : ℕ). n < k) (ap (λ (x : Ids). length x.tables) same ∙ filed.tables_are) (slice_get_within j.tables n id is)
in_count e i j features a locals filed same function Memories n id is = subst (λ (k : ℕ). n < k) (ap (λ (x : Ids). length x.memories) same ∙ filed.memories_are) (slice_get_within j.memories n id is)
in_count e i j features a locals filed same function Tags n id is = subst (λ (k : ℕ). n < k) (ap (λ (x : Ids). length x.tags) same ∙ filed.tags_are) (slice_get_within j.tags n id is)
in_count e i j features a locals filed same function Globals n id is = subst (λ (k : ℕ). n < k) (ap (λ (x : Ids). length x.globals) same ∙ filed.globals_are) (slice_get_within j.globals n id is)
in_count e i j features a locals filed same function ElementSegments n id is = subst (λ (k : ℕ). n < k) (ap (λ (x : Ids). length x.elements) same ∙ filed.elements_are) (slice_get_within j.elements n id is)
in_count e i j features a locals filed same function DataSegments n id is = subst (λ (k : ℕ). n < k) (ap (λ (x : Ids). length x.segments) same ∙ filed.segments_are) (slice_get_within j.segments n id is)
in_count e i j features a locals filed same function Locals n id is = tt
in_count e i j features a locals filed same function Labels n id is = tt

pub indices_live : {B : Type 0} → FilledModulesAreFiled B → BodiesReadFiles B → ReadModulesHaveItems B → ReadModulesAreFull → OrderedStay → NewTypesStand → TypesNameBelow → ReadTypesAreDeclared → FoundTypesStay → TablesGrowOn
    → IndicesOfReadModulesLive B
indices_live {B} filed bodies items fulls ordered stand below declares stay on config bytes m found small is function space n id at =
    let h = is.1 in
    let s = h.sections in
    let i = h.numbers in
    let features = read_features config in
    let a = around features (state_of s) in
    let all = items config bytes m found small is in
    let f = file_of config bytes m found is in
    let read = bodies features bytes s m.start i h.filled h.file [] h.bodied h.reads.short small h.reads.sections h.are_filled h.is_file h.bodies_are in
    let numbered : found ≡ record i { locals = h.bodied.ids.locals } = h.found_are ∙ read.3 in
    let has : found ≡ record i { locals = found.locals } = numbered ∙ ap (λ (l : ℕ → List ℕ). record i { locals = l }) (sym (ap (λ (j : Ids). j.locals) numbered)) in
    let same : found.types ≡ (types_in s).ids = ap (λ (j : Ids). j.types) numbered ∙ ap (λ (j : Ids). j.types) h.are_filled.numbers in
    let typed = λ (n : ℕ) (lt : n < length (types_of f)). types_live stand below declares stay on config bytes m found is n lt same in
    let waits = bodies_wait features bytes s m.start i h.filled h.file filed h.reads.sections h.are_filled h.is_file [] [] tt in
    let e = env_of h.file h.filled.types in
    let around_is = waits.filed h.filled.types e (λ _. []) 0 (grows_none h.filled.types) (env_is h.file h.filled.types) in
    let lt = in_file (state_of s) h.bodies space n (in_count e (record i { locals = λ _. [] }) found features a _ around_is has function space n id at) in
    subst (IsThere (parts m) space) (ap (λ (o : Option ℕ). unwrap_or o n) at)
    (there (parts m) f _ all.1 (fulls features bytes f all.0) i found h.bodied.ids.locals numbered (others_stay ordered s i h.are_filled.numbers) typed function space n lt)
