-- Lemmas: where reading the bodies of a file stops, the file's bodies stop.
use Rattle.std.proofs.Common.{◌≡◌, ◌∙◌, ◌-◌, ℕ, List, [], ◌∷◌, length, map, slice_index_or, Option, None, refl, sym, ap, subst}
use Rattle.walrus_arena.specs.Arena.{item_at}
use Rattle.walrus_function_types.specs.FunctionTypes.{params_at}
use Rattle.walrus_function_types.specs.Growth.{EntryTypesGrow, FoundTypesStay, TablesGrowOn}
use Rattle.walrus_file_bodies.proofs.PairLemmas.{are_apart, chunks_fit}
use Rattle.walrus_file_bodies.proofs.ReadyLemmas.{filed_later}
use Rattle.walrus_file_bodies.specs.Ready.{IsFileOf, bodies_in}
use Rattle.walrus_items_into.specs.Filled.{IsFilledFrom}
use Rattle.walrus_items_into.specs.Laws.{FilledFunctionsStand, FilledModulesAreFiled}
use Rattle.walrus_items_into.specs.Spaces.{Spaces}
use Rattle.walrus_items_into.specs.walrus_functions_into.declared.bodies.FunctionBody.{FunctionBody}
use Rattle.walrus_items_into.specs.walrus_functions_into.Laws.{read_bodies}
use Rattle.walrus_items_into.specs.walrus_module_env.Filled.{AreFiled}
use Rattle.walrus_items_into.specs.walrus_tables_into.walrus_sections_into.walrus_collections.walrus_local_function.walrus_body_locals.walrus_body_nesting.wasm_formats.wasm_features.declared.WasmFeatures.{WasmFeatures}
use Rattle.walrus_items_into.specs.walrus_tables_into.walrus_sections_into.walrus_collections.walrus_local_function.walrus_body_locals.wasm_body_grammar.Codes.{Code, StopsCodes, param_count}
use Rattle.walrus_items_into.specs.walrus_tables_into.walrus_sections_into.walrus_collections.walrus_local_function.walrus_body_locals.wasm_body_grammar.Rules.{Around}
use Rattle.walrus_items_into.specs.walrus_tables_into.walrus_sections_into.walrus_collections.walrus_local_function.walrus_body_locals.wasm_grammar.States.{State, types_of}
use Rattle.walrus_items_into.specs.walrus_tables_into.walrus_sections_into.walrus_forms.Renaming.{at}
use Rattle.walrus_items_into.specs.walrus_tables_into.walrus_sections_into.walrus_index_maps.Maps.{Ids}
use Rattle.walrus_items_into.specs.walrus_tables_into.walrus_sections_into.walrus_instr.walrus_types.walrus_items.declared.local.Local.{Local}
use Rattle.walrus_items_into.specs.walrus_tables_into.walrus_sections_into.walrus_known_sections.Items.{chunk_of}
use Rattle.walrus_items_into.specs.walrus_tables_into.walrus_sections_into.walrus_known_sections.State.{state_of}
use Rattle.walrus_items_into.specs.walrus_tables_into.walrus_sections_into.walrus_known_sections.declared.items.Chunk.{Chunk}
use Rattle.walrus_items_into.specs.walrus_tables_into.walrus_sections_into.walrus_known_sections.declared.items.Function.{Function as ReadFunction}
use Rattle.walrus_items_into.specs.walrus_tables_into.walrus_sections_into.walrus_known_sections.declared.sections.Sections.{Sections}
use Rattle.walrus_items_into.specs.walrus_tables_into.walrus_sections_into.walrus_module_items.declared.function.Function.{Function}
use Rattle.walrus_items_into.specs.wasm_module_rules.Linked.{IsFunctionType as IsTyped, IsLinked}
use Rattle.walrus_items_into.specs.wasm_module_rules.Reading.{file_linked}
use Rattle.walrus_items_into.specs.wasm_module_rules.wasm_modules.Modules.{around}
use Rattle.walrus_items_into.specs.wasm_sections.Laws.{ReadsSections}
use Rattle.walrus_items_into.specs.wasm_sections.Within.{ChunksFit, bodies_inside}
use Rattle.walrus_items_into.specs.walrus_module_bodies.declared.file.FileEnv.{FileEnv}
use Rattle.walrus_items_into.specs.walrus_module_bodies.Steps.{AreApart, state}
use Rattle.walrus_file_bodies.specs.Laws.{BodiesStopFiles}
use Rattle.walrus_file_bodies.specs.Read.{AreCounted, Waits, coded_by, env_is, env_of, grows_none, stops_stop}
use Rattle.walrus_file_bodies.proofs.CountLemmas.{count_at, read_at}

-- how many parameters a function of the file has
abbrev pub count_in : Sections → ℕ → ℕ
count_in s n = param_count (state_of s).filled (at (map (λ (f : ReadFunction). f.ty) s.functions.items) n)

-- bodies, and their bytes
pub chunks_fit_in : (start end : ℕ) (bs : List FunctionBody) (chunks : List Chunk) → map (λ (b : FunctionBody). b.chunk) bs ≡ chunks → ChunksFit start end (map chunk_of chunks) → ChunksFit start end (map (λ (b : FunctionBody). chunk_of b.chunk) bs)
chunks_fit_in start end bs chunks is h = subst (ChunksFit start end) (ap (map chunk_of) (sym is) ∙ map_map bs) h
  where
    map_map : (bs : List FunctionBody) → map chunk_of (map (λ (b : FunctionBody). b.chunk) bs) ≡ map (λ (b : FunctionBody). chunk_of b.chunk) bs
    map_map [] = refl
    map_map (b ∷ bs) = ap (λ l. chunk_of b.chunk ∷ l) (map_map bs)

module _ {B : Type 0} (features : WasmFeatures) (bytes : List ℕ) (s : Sections) (begin : Option ℕ) (i : Ids) (m : Spaces B) (file : FileEnv) (law : FilledModulesAreFiled B)
    (reads : ReadsSections features bytes (state_of s)) (f : IsFilledFrom s begin i m) (o : IsFileOf s m.types m.tags m.memories file) where
  types_filed : AreFiled (types_of (state_of s).filled) i.types file.own_types m.types
  types_filed = (filed_later features bytes s begin i m file law reads f o m.types (env_of file m.types) i.locals 0 (grows_none m.types) (env_is file m.types)).types_are

  -- the functions have as many parameters as in the file
  pub functions_counted : AreCounted (count_in s) m.types (item_at m.functions)
  functions_counted n g there =
      let linked = subst (λ (t : State). IsLinked t.filled) reads.2 (file_linked features bytes reads.0 reads.1.0 reads.1.1) in
      let read = read_at (λ k. IsTyped (state_of s).filled k) i.types 0 s.functions.items n g linked.functions_typed (ap (λ (l : List (Option Function)). slice_index_or l n None) (sym f.functions) ∙ there) in
      let c = count_at (types_of (state_of s).filled) i.types file.own_types m.types types_filed (at (map (λ (f : ReadFunction). f.ty) s.functions.items) n) read.1 in
      (c.0, ap (params_at m.types) read.0 ∙ c.1, c.2)

  pub bodies_wait : (bs : List FunctionBody) (locals : List Local) → AreApart bs → Waits file features (around features (state_of s)) (count_in s) (state m.types locals i m.functions) bs
  bodies_wait bs locals apart = record {
    filed = filed_later features bytes s begin i m file law reads f o;
    counted = functions_counted;
    apart = apart;
    no_locals = λ k d lt. ap (λ (x : Ids). x.locals (slice_index_or bs k d).number) f.numbers;
  }

pub bodies_stop : {B : Type 0} → FilledFunctionsStand B → FilledModulesAreFiled B → FoundTypesStay → TablesGrowOn → EntryTypesGrow → BodiesStopFiles B
bodies_stop functions law stay on enter features bytes s begin i m file locals fault small reads f o stops =
    let stand = functions features bytes s begin i m reads f in
    let a : Around = around features (state_of s) in
    let bs : List FunctionBody = bodies_in s m.functions in
    let fit = chunks_fit s.code_start (length bytes) s.bodies (bodies_inside features bytes (state_of s) small reads) in
    let inside : ChunksFit file.code_start (length bytes) (map (λ (b : FunctionBody). chunk_of b.chunk) bs) = subst (λ (n : ℕ). ChunksFit n (length bytes) (map (λ (b : FunctionBody). chunk_of b.chunk) bs)) (sym o.code_start)
    (chunks_fit_in s.code_start (length bytes) bs (read_bodies s.bodies) stand.paired.chunks_are fit) in
    let waits = bodies_wait features bytes s begin i m file law reads f o bs locals (are_apart m.functions.slots 0 (read_bodies s.bodies)) in
    let stop = stops_stop stay on enter file features a (count_in s) (length bytes) bs (state m.types locals i m.functions) fault inside waits stops in
    let there = subst (λ (n : ℕ). StopsCodes a (length bytes - n) (map (coded_by (count_in s)) bs) stop.0) o.code_start stop.1 in
    (stop.0, subst (λ (cs : List Code). StopsCodes a (length bytes - s.code_start) cs stop.0) stand.paired.codes_are there, stop.2)
