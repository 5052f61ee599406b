-- What a module has of the file that it is read from.
use Rattle.std.specs.Prelude.{ℕ, ◌≡◌, List, [], Option, None, Result}
use Rattle.std.specs.Fn.{Once}
use Rattle.std.specs.Borrow.{Bor, MutBor}
use Rattle.std.specs.declared.alloc.Global.{Global as Alloc}
use Rattle.std.specs.declared.string.String.{String}
use Rattle.walrus_item_names.specs.walrus_module.walrus_body_writer.walrus_pairing.wasm_operators.wasm_features.Features.{features_of}
use Rattle.walrus_item_names.specs.walrus_module.walrus_body_writer.walrus_pairing.wasm_operators.wasm_features.declared.WasmFeatures.{WasmFeatures}
use Rattle.walrus_item_names.specs.walrus_module.walrus_local_function.walrus_body_locals.wasm_grammar.Modules as grammar
use Rattle.walrus_file_bodies.specs.walrus_items_into.wasm_module_rules.wasm_modules.Modules.{around, codes, module_of, IsShort, Reads}
use Rattle.walrus_item_names.specs.walrus_module.walrus_local_function.walrus_body_locals.wasm_body_grammar.Codes.{ReadsCodes}
use Rattle.walrus_file_bodies.specs.walrus_items_into.wasm_sections.Laws.{ReadsSections}
use Rattle.walrus_payload_readers.specs.wasm_name_payloads.Names.{names_of}
use Rattle.walrus_payload_readers.specs.wasm_name_payloads.Producers.{processed, producers_of}
use Rattle.walrus_arena.specs.Arena.{Arena}
use Rattle.walrus_config.specs.Config.{feature_names}
use Rattle.walrus_config.specs.declared.config.ModuleConfig.{ModuleConfig}
use Rattle.walrus_customs.specs.Producers.{fields_of}
use Rattle.walrus_customs.specs.declared.producers.ProducerField.{ProducerField}
use Rattle.walrus_errors.specs.declared.error.ModuleError.{ModuleError}
use Rattle.walrus_item_names.specs.walrus_module.walrus_body_writer.walrus_pairing.walrus_index_maps.Maps.{Ids}
use Rattle.walrus_item_names.specs.walrus_module.walrus_body_writer.walrus_pairing.walrus_index_maps.Views.{ids}
use Rattle.walrus_item_names.specs.walrus_module.walrus_body_writer.walrus_pairing.walrus_index_maps.declared.indices_to_ids.IndicesToIds.{IndicesToIds}
use Rattle.walrus_item_names.specs.walrus_module.walrus_builder.walrus_walks.walrus_instr.declared.seq.InstrLocId.{InstrLocId}
use Rattle.walrus_item_names.specs.Gives.{GivesNames}
use Rattle.walrus_item_names.specs.Holder.{Holder, holder}
use Rattle.walrus_item_names.specs.walrus_module.walrus_types.walrus_items.declared.local.Local.{Local}
use Rattle.walrus_file_bodies.specs.walrus_items_into.Filled.{IsFilledFrom}
use Rattle.walrus_file_bodies.specs.walrus_items_into.Spaces.{Spaces, spaces}
use Rattle.walrus_locations.specs.Sent.{FunctionsSent}
use Rattle.walrus_item_names.specs.walrus_module.declared.module.Module.{Module as Whole}
use Rattle.walrus_item_names.specs.walrus_module.walrus_module_items.declared.function.Function.{Function}
use Rattle.walrus_file_bodies.specs.walrus_items_into.walrus_tables_into.walrus_sections_into.walrus_known_sections.State.{state_of}
use Rattle.walrus_file_bodies.specs.walrus_items_into.walrus_tables_into.walrus_sections_into.walrus_known_sections.declared.sections.Sections.{Sections}
use Rattle.walrus_file_bodies.specs.walrus_module_bodies.Steps.{State, Steps, state}
use Rattle.walrus_file_bodies.specs.walrus_module_bodies.declared.file.FileEnv.{FileEnv}
use Rattle.walrus_file_bodies.specs.Ready.{IsFileOf, bodies_in}
use Rattle.walrus_named_bodies.specs.Named.{all_names}

-- the features that are read under these flags
abbrev pub read_features : ModuleConfig → WasmFeatures
read_features config = features_of (feature_names config)

-- the bytes read as a module of these sections and bodies
pub record ReadsAs (features : WasmFeatures) (bytes : List ℕ) (s : Sections) (bodies : List grammar.Body) : Type 0 where
  pub short : IsShort bytes
  pub sections : ReadsSections features bytes (state_of s)
  pub codes_are : ReadsCodes (around features (state_of s)) (codes (state_of s)) bodies

-- they read as some module under these flags
abbrev pub DoesRead : ModuleConfig → List ℕ → Type 0
DoesRead config bytes = (m : grammar.Module) × Reads (read_features config) bytes m

module _ {B : Type 0} where
  -- the collections with these types, functions and locals: what has names in a module
  abbrev pub named_in : Spaces B → State → Option (String Alloc) → Holder
  named_in m s own = holder s.types s.functions m.tables m.memories m.tags m.globals m.elements m.segments s.locals own

  -- its sections fill the collections of a module; then its bodies are read into it, in the file's order; then items are named, and the
  -- producers told; what has an index has this id
  pub record IsModuleOf (config : ModuleConfig) (bytes : List ℕ) (start : Option ℕ) (producers : List ProducerField) (m : Spaces B) (locals : List Local) (own : Option (String Alloc)) (found : Ids) : Type 0 where
    pub sections : Sections
    pub bodies : List grammar.Body
    pub reads : ReadsAs (read_features config) bytes sections bodies
    pub numbers : Ids
    pub filled : Spaces B
    pub are_filled : IsFilledFrom sections start numbers filled
    pub wanted : numbers.all_locals ≡ config.generate_synthetic_names_for_anonymous_items
    pub file : FileEnv
    pub is_file : IsFileOf sections filled.types filled.tags filled.memories file
    pub bodied : State
    pub bodies_are : Steps file (read_features config) (bodies_in sections filled.functions) (state filled.types [] numbers filled.functions) bodied
    pub found_are : found ≡ bodied.ids
    pub names : GivesNames (all_names config.generate_synthetic_names_for_anonymous_items bodied.ids (named_in filled bodied None) (names_of (module_of (state_of sections) bodies)))
        (named_in filled bodied None) (holder m.types m.functions m.tables m.memories m.tags m.globals m.elements m.segments locals own)
    pub imports : m.imports ≡ filled.imports
    pub exports : m.exports ≡ filled.exports
    pub customs : m.customs ≡ filled.customs
    pub producers_are : fields_of producers ≡ processed (producers_of (module_of (state_of sections) bodies))

  -- nothing is in it
  pub record IsEmpty (m : Spaces B) (locals : List Local) (own : Option (String Alloc)) : Type 0 where
    pub types : m.types ≡ record { types = []; groups = [] }
    pub imports : m.imports.slots ≡ []
    pub functions : m.functions.slots ≡ []
    pub tables : m.tables.slots ≡ []
    pub memories : m.memories.slots ≡ []
    pub tags : m.tags.slots ≡ []
    pub globals : m.globals.slots ≡ []
    pub exports : m.exports.slots ≡ []
    pub elements : m.elements.slots ≡ []
    pub segments : m.segments.slots ≡ []
    pub customs : m.customs.slots ≡ []
    pub no_locals : locals ≡ []
    pub unnamed : own ≡ None

  -- this module has it of the file, and these flags; what has an index has this id
  abbrev pub IsReadAs : ModuleConfig → List ℕ → Whole B → Ids → Type 0
  IsReadAs config bytes m found = (m.config ≡ config)
      × IsModuleOf config bytes m.start m.producers (spaces m.types m.imports m.funcs m.tables m.memories m.tags m.globals m.exports m.elements m.data_segments m.customs) m.locals m.name found

  abbrev pub IsRead : ModuleConfig → List ℕ → Whole B → Type 0
  IsRead config bytes m = (found : Ids) × IsReadAs config bytes m found

  module _ {F : Type 0} (g : Once F (MutBor (Whole B) × (Bor IndicesToIds × Unit {0})) (Result (Unit {0}) ModuleError × (MutBor (Whole B) × Unit {0}))) (f : F) where
    -- handed a module, and what indices name, f may answer this and leave that module
    pub record Leaves (read : Whole B) (found : IndicesToIds) (answer : Result (Unit {0}) ModuleError) (m : Whole B) : Type 0 where
      pub shown : MutBor (Whole B)
      pub shows : shown.now ≡ read
      pub given : Bor IndicesToIds
      pub gives : given.now ≡ found
      pub after : MutBor (Whole B)
      pub met : g.post f (shown, (given, tt)) (answer, (after, tt))
      pub leaves : after.now ≡ m

  module _ {G : Type 0} (step : G → ℕ → InstrLocId → G → Type 0) (places : G) {F : Type 0} (g : Once F (MutBor (Whole B) × (Bor IndicesToIds × Unit {0})) (Result (Unit {0}) ModuleError × (MutBor (Whole B) × Unit {0}))) (f : F) where
    -- the locations of the module that is read from these bytes are sent through the one; then the other may answer and leave so
    pub record HandsOn (config : ModuleConfig) (bytes : List ℕ) (answer : Result (Unit {0}) ModuleError) (m : Whole B) : Type 0 where
      pub read : Whole B
      pub found : IndicesToIds
      pub is_read : IsReadAs config bytes read (ids found)
      pub last : G
      pub functions : Arena Function
      pub sent : FunctionsSent step places read.funcs last functions
      pub left : Leaves g f (record read { funcs = functions }) found answer m
