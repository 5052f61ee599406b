-- The bytes of a module without its rules (Core Specification, binary format: modules): what they spell, and what they alone say.
use Rattle.std.specs.Prelude.{ℕ, ◌≡◌, Bool, true, List, [], ◌∷◌, length, None}
use Rattle.std.specs.Option.{is_some}
use Rattle.wasm_features.specs.declared.WasmFeatures.{WasmFeatures}
use Rattle.wasm_formats.specs.Formats.{Format}
use Rattle.wasm_formats.specs.Wholes.{whole}
use Rattle.wasm_grammar.specs.Modules.{Body, Module}
use Rattle.wasm_grammar.specs.States.{State, nothing_yet}
use Rattle.wasm_body_grammar.specs.Rules.{Around}
use Rattle.wasm_body_grammar.specs.Bodies.{Run, run, next_total, Parts, body, body_of}
use Rattle.wasm_body_grammar.specs.Codes.{Code}
use Rattle.wasm_sections.specs.TypeSection.{group}
use Rattle.wasm_sections.specs.Entities.{import_entry, table_entry, memory_entry, global_entry}
use Rattle.wasm_sections.specs.Exports.{export_entry}
use Rattle.wasm_sections.specs.Sections.{data_test, code, Section, CustomSection, TypeSection, ImportSection, FunctionSection, TableSection, MemorySection, TagSection, GlobalSection, ExportSection, StartSection, ElementSection, DataCountSection, CodeSection, DataSection, order_test, SectionEntry, next}
use Rattle.wasm_sections.specs.Modules.{FileEntry, file, state_of, has_all}
use Rattle.wasm_module_rules.specs.wasm_modules.Modules.{around, codes, module_of, IsShort, Reads}
use Rattle.wasm_module_rules.specs.Entries.{AllRuled}
use Rattle.wasm_ruled_modules.specs.Rules.{IsRuled}

-- ---- sections

-- an entry that meets the rules at some point of some file: its flags, kinds and other single bytes are those of a form, and its types have
-- words in the module
abbrev pub IsFormed : {A : Type 0} → (State → Format A) → A → Type 0
IsFormed entry x = (s : State) × (entry s).rules x

-- a code section has a body for each own function, none too long; data are as many as the data count says
abbrev pub SectionFormed : WasmFeatures → State → Section → Type 0
SectionFormed features s (CustomSection x) = Unit {0}
SectionFormed features s (TypeSection xs) = AllRuled (IsFormed (group features)) xs
SectionFormed features s (ImportSection xs) = AllRuled (IsFormed (import_entry features)) xs
SectionFormed features s (FunctionSection xs) = Unit {0}
SectionFormed features s (TableSection xs) = AllRuled (IsFormed (table_entry features)) xs
SectionFormed features s (MemorySection xs) = AllRuled (IsFormed memory_entry) xs
SectionFormed features s (TagSection xs) = Unit {0}
SectionFormed features s (GlobalSection xs) = AllRuled (IsFormed (global_entry features)) xs
SectionFormed features s (ExportSection xs) = AllRuled (IsFormed export_entry) xs
SectionFormed features s (StartSection n) = Unit {0}
SectionFormed features s (ElementSection xs) = Unit {0}
SectionFormed features s (DataCountSection n) = Unit {0}
SectionFormed features s (CodeSection x) = (whole (code s)).rules x
SectionFormed features s (DataSection xs) = data_test s.data_count (length xs) ≡ None

-- sections in their order
abbrev pub AreFormed : WasmFeatures → State → List SectionEntry → Type 0
AreFormed features s [] = Unit {0}
AreFormed features s (x ∷ xs) = (order_test s.last x.1.0 ≡ None) × SectionFormed features s x.1.1 × AreFormed features (next s x) xs

-- ---- bodies

-- an empty run meets its rules: a module doesn't show it
abbrev pub RunFormed : Around → ℕ → Run → Type 0
RunFormed a total r = r.0 ≡ 0 → (run a total).rules r

abbrev pub RunsFormed : Around → ℕ → List Run → Type 0
RunsFormed a total [] = Unit {0}
RunsFormed a total (r ∷ runs) = RunFormed a total r × RunsFormed a (next_total total r) runs

abbrev pub SpellsBody : Around → ℕ → ℕ → List ℕ → Body → Type 0
SpellsBody a params place bytes x = (parts : Parts) × (body a params place).spells bytes parts × RunsFormed a params parts.0.1 × (body_of parts ≡ x)

abbrev pub SpellsCodes : Around → List Code → List Body → Type 0
SpellsCodes a [] [] = Unit {0}
SpellsCodes a (c ∷ codes) (x ∷ xs) = SpellsBody a c.params c.chunk.place c.chunk.bytes x × SpellsCodes a codes xs
SpellsCodes a _ _ = ⊥

-- ---- modules

-- counted: there is a data count section
pub record SpellsModule (features : WasmFeatures) (bytes : List ℕ) (counted : Bool) (m : Module) : Type 0 where
  pub entry : FileEntry
  pub bodies : List Body
  pub spelled : (file features).spells bytes entry
  pub formed : AreFormed features nothing_yet entry.1
  pub complete : has_all entry ≡ true
  pub coded : SpellsCodes (around features (state_of entry)) (codes (state_of entry)) bodies
  pub told : is_some (state_of entry).data_count ≡ counted
  pub joined : module_of (state_of entry) bodies ≡ m

-- ---- reading is spelling and rules

pub record ReadsIsSpelledAndRuled : Type 0 where
  -- what reads is spelled, and ruled
  pub parts : (features : WasmFeatures) (bytes : List ℕ) (m : Module) → Reads features bytes m → (counted : Bool) × SpellsModule features bytes counted m × IsRuled features counted m
  -- what is spelled and ruled reads
  pub joins : (features : WasmFeatures) (bytes : List ℕ) (counted : Bool) (m : Module) → IsShort bytes → SpellsModule features bytes counted m → IsRuled features counted m → Reads features bytes m
