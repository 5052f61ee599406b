-- The bodies of a file were read, or one of them stops: so does the file.
use Rattle.std.specs.Prelude.{ℕ, ◌<◌, ◌≡◌, All, List, slice_index_or, Option, Result, Ok, Err, IfErr, IsErr, IsErrAnd, refl}
use Rattle.std.proofs.lemmas.List.{get_or_default}
use Rattle.std.proofs.Common.{ap, sym, ◌∙◌, inl, inr, subst, arith, Fits, w8}
use Rattle.std.specs.Option.{is_some}
use Rattle.walrus_arena.specs.Arena.{Arena}
use Rattle.walrus_errors.specs.declared.error.ModuleError.{ModuleError}
use Rattle.walrus_named_bodies.specs.walrus_local_counts.Locals.{FewAreNumbered, HasFew}
use Rattle.walrus_named_bodies.specs.walrus_item_names.walrus_module.walrus_body_writer.walrus_pairing.walrus_index_maps.Maps.{Ids}
use Rattle.walrus_named_bodies.specs.walrus_item_names.walrus_module.walrus_body_writer.walrus_pairing.wasm_operators.wasm_features.declared.WasmFeatures.{WasmFeatures}
use Rattle.walrus_named_bodies.specs.walrus_item_names.walrus_module.walrus_local_function.walrus_body_locals.wasm_grammar.Modules as grammar
use Rattle.walrus_named_bodies.specs.walrus_item_names.walrus_module.walrus_types.walrus_items.declared.local.Local.{Local}
use Rattle.walrus_named_bodies.specs.walrus_file_bodies.Ready.{AreReady, IsFileOf, bodies_in}
use Rattle.walrus_named_bodies.specs.walrus_file_bodies.walrus_items_into.Filled.{IsFilledFrom, untyped}
use Rattle.walrus_named_bodies.specs.walrus_file_bodies.walrus_items_into.Laws.{FilledModulesAreNumbered, NamedLocalsCount}
use Rattle.walrus_named_bodies.specs.walrus_file_bodies.walrus_items_into.Spaces.{Spaces}
use Rattle.walrus_named_bodies.specs.walrus_file_bodies.walrus_items_into.walrus_payloads_into.Numbered.{IsNumbered}
use Rattle.walrus_named_bodies.specs.walrus_file_bodies.walrus_items_into.walrus_tables_into.walrus_sections_into.walrus_known_sections.State.{state_of}
use Rattle.walrus_named_bodies.specs.walrus_file_bodies.walrus_items_into.walrus_tables_into.walrus_sections_into.walrus_known_sections.declared.sections.Sections.{Sections}
use Rattle.walrus_named_bodies.specs.walrus_file_bodies.walrus_items_into.walrus_functions_into.declared.bodies.FunctionBody.{FunctionBody}
use Rattle.walrus_named_bodies.specs.walrus_file_bodies.walrus_items_into.walrus_tables_into.walrus_sections_into.walrus_module_items.declared.function.Function.{Function}
use Rattle.walrus_named_bodies.specs.walrus_file_bodies.walrus_items_into.walrus_tables_into.walrus_sections_into.walrus_module_items.declared.memory.Memory.{Memory}
use Rattle.walrus_named_bodies.specs.walrus_file_bodies.walrus_items_into.walrus_tables_into.walrus_sections_into.walrus_module_items.declared.tag.Tag.{Tag}
use Rattle.walrus_named_bodies.specs.walrus_item_names.walrus_module.walrus_types.Table.{Table}
use Rattle.walrus_named_bodies.specs.walrus_file_bodies.walrus_items_into.wasm_module_rules.wasm_modules.Modules.{IsShort, Reads, module_of}
use Rattle.walrus_named_bodies.specs.walrus_file_bodies.walrus_items_into.wasm_sections.Laws.{ReadsSections}
use Rattle.walrus_named_bodies.specs.walrus_file_bodies.walrus_module_bodies.Steps.{State, Steps, StopsIn, state}
use Rattle.walrus_named_bodies.specs.walrus_file_bodies.walrus_module_bodies.declared.file.FileEnv.{FileEnv}
use Rattle.walrus_named_bodies.specs.walrus_file_bodies.Laws.{BodiesReadFiles, BodiesStopFiles}
use Rattle.walrus_named_bodies.specs.Code.{IsCodeRefusal}
use Rattle.walrus_named_bodies.specs.Parsed.{ReadsAs}
use Rattle.walrus_file_reader.specs.Files.{read_has_header}
use Rattle.walrus_parse.specs.Refusals.{IsRefusal}
use Rattle.walrus_parse.proofs.RefusalLemmas.{fault_is}

-- the module of a file whose bodies were read
pub record IsWhole (features : WasmFeatures) (bytes : List ℕ) (s : Sections) (j : Ids) : Type 0 where
  pub bodies : List grammar.Body
  pub reads : ReadsAs features bytes s bodies
  pub numbered : IsNumbered (module_of (state_of s) bodies) j
  pub few : HasFew j

pub is_whole : {B : Type 0} → BodiesReadFiles B → NamedLocalsCount B → FilledModulesAreNumbered B → FewAreNumbered
    → (features : WasmFeatures) (bytes : List ℕ) (s : Sections) (begin : Option ℕ) (i : Ids) (m : Spaces B) (file : FileEnv) (locals : List Local) (new : State)
    → IsShort bytes → All (λ b. b < 256) bytes → ReadsSections features bytes (state_of s) → IsFilledFrom s begin i m → IsFileOf s m.types m.tags m.memories file
    → Steps file features (bodies_in s m.functions) (state m.types locals i m.functions) new → IsWhole features bytes s new.ids
is_whole read counted numbers few features bytes s begin i m file locals new short small reads filled is steps =
    let all = read features bytes s begin i m file locals new short small reads filled is steps in
    let numbered = numbers features bytes s begin i new.ids m all.0 reads filled all.3 (counted features bytes s begin i new.ids m all.0 reads filled all.2) in
    let whole : Reads features bytes (module_of (state_of s) all.0) = (short, (state_of s, all.0, reads, all.1, refl)) in record {
      bodies = all.0;
      reads = record { short = short; sections = reads; codes_are = all.1 };
      numbered = numbered;
      few = few features bytes (module_of (state_of s) all.0) new.ids whole numbered;
    }

-- what is left of a file's sections as its types are let go of tells the same of its bodies
pub file_typed : (left s : Sections) (types : Table) (tags : Arena Tag) (memories : Arena Memory) (file : FileEnv) → left ≡ untyped s → IsFileOf left types tags memories file → IsFileOf s types tags memories file
file_typed left s types tags memories file same is = record {
  tags_are = is.tags_are;
  memories_are = is.memories_are;
  own_types = is.own_types;
  has_data_count = is.has_data_count ∙ ap (λ (t : Sections). is_some t.data_count) same;
  code_start = is.code_start ∙ ap (λ (t : Sections). t.code_start) same;
}

pub bodies_typed : (left s : Sections) (functions : Arena Function) → left ≡ untyped s → bodies_in left functions ≡ bodies_in s functions
bodies_typed left s functions same = ap (λ (t : Sections). bodies_in t functions) same

pub steps_typed : (left s : Sections) (functions : Arena Function) (file : FileEnv) (features : WasmFeatures) (old new : State) → left ≡ untyped s
    → Steps file features (bodies_in left functions) old new → Steps file features (bodies_in s functions) old new
steps_typed left s functions file features old new same = subst (λ (bs : List FunctionBody). Steps file features bs old new) (bodies_typed left s functions same)

pub ready_left : (left s : Sections) (functions : Arena Function) (file : FileEnv) (features : WasmFeatures) (old : State) → left ≡ untyped s
    → AreReady file features (bodies_in s functions) old → AreReady file features (bodies_in left functions) old
ready_left left s functions file features old same = subst (λ (bs : List FunctionBody). AreReady file features bs old) (sym (bodies_typed left s functions same))

pub refusal_typed : (left s : Sections) (features : WasmFeatures) (tags : Arena Tag) (memories : Arena Memory) (functions : Arena Function) (old : State) (error : ModuleError) → left ≡ untyped s
    → IsCodeRefusal features left tags memories (bodies_in left functions) old error → IsCodeRefusal features s tags memories (bodies_in s functions) old error
refusal_typed left s features tags memories functions old error same (inl memory) = inl memory
refusal_typed left s features tags memories functions old error same (inr h) = inr (record {
  file = h.file;
  is_file = file_typed left s old.types tags memories h.file same h.is_file;
  fault = h.fault;
  stops = subst (λ (bs : List FunctionBody). StopsIn h.file features bs old h.fault) (bodies_typed left s functions same) h.stops;
  error_is = h.error_is;
})

-- a refusal of the bodies is one of the file
pub code_refused : {B : Type 0} → BodiesStopFiles B → (features : WasmFeatures) (bytes : List ℕ) (s : Sections) (begin : Option ℕ) (i : Ids) (m : Spaces B) (locals : List Local) (error : ModuleError)
    → IsShort bytes → All (λ b. b < 256) bytes → ReadsSections features bytes (state_of s) → IsFilledFrom s begin i m
    → IsCodeRefusal features s m.tags m.memories (bodies_in s m.functions) (state m.types locals i m.functions) error → IsRefusal features bytes error
code_refused stop features bytes s begin i m locals error short small reads filled (inl memory) = inl (memory, short, read_has_header features bytes (state_of s) reads)
code_refused stop features bytes s begin i m locals error short small reads filled (inr h) =
    let t = stop features bytes s begin i m h.file locals h.fault small reads filled h.is_file h.stops in
    inr (inr (record {
      trouble = t.0.trouble;
      place = t.2.0;
      stops = (t.0, (short, inr (state_of s, reads, t.1)), refl, t.2.1);
      error_is = h.error_is ∙ fault_is t.0.trouble t.2.0 h.fault t.2.2;
    }))

-- bytes are below 256
pub small : (xs : List ℕ) → ((i : ℕ) → Fits w8 (slice_index_or xs i 0)) → All (λ b. b < 256) xs
small xs fits k d lt = let same = get_or_default xs k d 0 lt in let fit = fits k in omega (arith, same, fit)
