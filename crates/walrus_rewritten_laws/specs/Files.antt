-- What was written of what is kept of a module that was read is its file rewritten.
use Rattle.std.specs.Prelude.{ℕ, ◌≤◌, ◌^◌, ◌<◌, All, List, length, map, Option, Some}
use Rattle.wasm_grammar.specs.Modules as grammar
use Rattle.wasm_modules.specs.Modules.{Reads}
use Rattle.wasm_part.specs.Part.{Plan}
use Rattle.wasm_rewritten.specs.Customs.{customs_written}
use Rattle.wasm_rewritten.specs.Rewritten.{Rewritten}
use Rattle.walrus_config.specs.declared.config.ModuleConfig.{ModuleConfig}
use Rattle.walrus_index_maps.specs.Maps.{Ids, Indices}
use Rattle.walrus_module.specs.declared.module.Module.{Module}
use Rattle.walrus_named_bodies.specs.Parsed.{IsReadAs, read_features}
use Rattle.walrus_parse_laws.specs.Means.{MeansFile}
use Rattle.walrus_parse_laws.specs.Meant.{place_of}
use Rattle.walrus_sections.specs.declared.transform.CodeTransform.{CodeTransform}
use Rattle.walrus_emit_code.specs.declared.emission.Emission.{Emission}
use Rattle.walrus_emit.specs.Written.{IsWritten}
use Rattle.walrus_stands_laws.specs.Stands.{plan_in_file}
use Rattle.walrus_rewritten_laws.specs.Bytes.{SpellsCustoms}
use Rattle.walrus_rewritten_laws.specs.Made.{Keeps, WritesOut}
use Rattle.walrus_rewritten_laws.specs.Rewritten.{if_asked}

-- what else is known of the writing of what is kept of a module that was read from a file
module _ {B : Type 0} (own_name : B → List ℕ) (contents : B → Indices → Option (List ℕ)) (config : ModuleConfig) (input : List ℕ) (file : grammar.Module) (found : Ids) (read kept left : Module B) (bytes : List ℕ)
    (w : IsWritten own_name contents kept left bytes) where
  -- the plan by which it is the part of the file's module
  abbrev pub its_plan : Plan
  its_plan = plan_in_file config input file found read kept left w.facts w.order w.emitted

  pub record IsKnown : Type 0 where
    -- custom sections are those that are due
    pub customs : SpellsCustoms own_name contents (record left { customs = kept.customs }) w.facts w.order w.emitted left.customs (read_features config)
        (map (λ (c : grammar.Custom). Some c) (customs_written config.generate_name_section config.generate_producers_section (read_features config) file its_plan))

abbrev pub KeptFilesAreRewritten : Type 0 → Type 0
KeptFilesAreRewritten B = (own_name : B → List ℕ) (contents : B → Indices → Option (List ℕ)) (transformed : B → CodeTransform → B) (config : ModuleConfig) (input : List ℕ) (read : Module B) (found : Ids)
    → All (λ b. b < 256) input → IsReadAs config input read found → (kept left : Module B) (emission : Emission) → Keeps read kept → (out : WritesOut own_name contents transformed kept left emission)
    → length emission.bytes.items ≤ 2 ^ 30
    → (file : grammar.Module) → Reads (read_features config) input file → MeansFile config file read found
    → IsKnown own_name contents config input file found read kept left emission.bytes.items out.emitted.written
    → Rewritten place_of config.generate_name_section config.generate_producers_section config.keep_segments (read_features config) input emission.bytes.items
    (if_asked config.preserve_code_transform emission.locations.items)
