-- The custom sections of a file rewritten, those of dynamic linking and the others; and the sections of names and of producers that are due.
use Rattle.std.specs.Prelude.{◌≡◌, ◌++◌, Bool, true, false, not, List, filter, map}
use Rattle.wasm_features.specs.declared.WasmFeatures.{WasmFeatures}
use Rattle.wasm_grammar.specs.Modules.{Custom, Module}
use Rattle.wasm_name_payloads.specs.Names.{section_name}
use Rattle.wasm_name_payloads.specs.Producers.{Field, processed, producers_of, section_name as producers_name}
use Rattle.wasm_name_payloads.specs.Written.{Names, payload_bytes, producers_bytes}
use Rattle.wasm_part.specs.Part.{Plan}
use Rattle.wasm_canonical.specs.Canonical.{is_linking}
use Rattle.wasm_canonical.specs.Due.{custom_due}
use Rattle.wasm_rewritten.specs.Customs.{customs_written, names_kept, section_if, section_of}
use Rattle.walrus_customs.specs.Producers.{fields_of}
use Rattle.walrus_module.specs.declared.module.Module.{Module as Whole}
use Rattle.walrus_payload_writers.specs.Producers.{producers_section}
use Rattle.walrus_payload_writers.specs.Sections.{names_section}
use Rattle.walrus_emit_parts.specs.Due.{written}
use Rattle.walrus_emit.specs.Whole.{payloads}
use Rattle.walrus_due_laws.specs.Spelled.{SpelledAs, spelled}
use Rattle.walrus_customs_laws.specs.Payloads.{Fits}
use Rattle.walrus_customs_laws.specs.Sections.{written_of}

-- names and producers, where they are written
abbrev pub payload_sections : (names producers : Bool) → Names → List Field → List Custom
payload_sections names producers n fields = section_if names (section_of section_name (payload_bytes n)) ++ section_if producers (section_of producers_name (producers_bytes fields))

-- those of dynamic linking stand first, names and producers behind them, and then the others
pub record ArePartedSo (names producers : Bool) (features : WasmFeatures) (file : Module) (p : Plan) : Type 0 where
  pub first : filter is_linking (customs_written names producers features file p) ≡ written_of true file
  pub last : filter (λ c. not (is_linking c)) (customs_written names producers features file p)
      ≡ payload_sections names producers (names_kept features file p) (processed (producers_of file)) ++ written_of false file

abbrev pub CustomsAreParted : Type 0
CustomsAreParted = (names producers : Bool) (features : WasmFeatures) (file : Module) (p : Plan) → ArePartedSo names producers features file p

-- what is due for names and producers, as the flags say, is their spelling
abbrev pub PayloadsAreSpelled : Type 0 → Type 0
PayloadsAreSpelled B = (features : WasmFeatures) (input : Whole B) (n : Names) (fields : List Field) → fields_of input.producers ≡ processed fields
    → (input.config.generate_name_section ≡ true → Fits (names_section n)) → (input.config.generate_producers_section ≡ true → Fits (producers_section (processed fields)))
    → SpelledAs (payloads input (written (names_section n))) (spelled features (map custom_due (payload_sections input.config.generate_name_section input.config.generate_producers_section n (processed fields))))
