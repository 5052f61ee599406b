-- Lemmas: what was written of a module is cut into its parts.
use Rattle.std.specs.Prelude.{ℕ, ◌≡◌, ◌++◌, Bool, true, false, not, List, [], ◌∷◌, Option, filter, length, map, refl}
use Rattle.std.specs.List.{list_any}
use Rattle.std.proofs.Common.{ap, sym, ◌∙◌, subst}
use Rattle.std.proofs.lemmas.List.{append_assoc}
use Rattle.wasm_features.specs.declared.WasmFeatures.{WasmFeatures}
use Rattle.wasm_formats.specs.declared.fault.Limited.TheVariants.{Types as TypeLimit}
use Rattle.wasm_operators.specs.Items.{Functions}
use Rattle.wasm_grammar.specs.Modules as grammar
use Rattle.wasm_sections.specs.Modules.{magic}
use Rattle.wasm_canonical.specs.Canonical.{canonical_bytes, is_linking}
use Rattle.wasm_canonical.specs.Due.{custom_due, items_in}
use Rattle.wasm_part.specs.Part.{part}
use Rattle.walrus_types.specs.walrus_forms.Records.{type_group}
use Rattle.walrus_pairing.specs.Looks.{number_of}
use Rattle.walrus_index_maps.specs.Maps.{Indices, no_indices}
use Rattle.walrus_module.specs.Parts.{parts}
use Rattle.walrus_module.specs.declared.module.Module.{Module}
use Rattle.walrus_meaning.specs.Meaning.{means}
use Rattle.walrus_emit_parts.specs.Due.{Due, written}
use Rattle.walrus_emit_due.specs.Items as items
use Rattle.walrus_emit_due.specs.Types.{type_section}
use Rattle.walrus_emit_code.specs.Code.{code, facts_at}
use Rattle.walrus_emit_customs.specs.Names.{names_due}
use Rattle.walrus_emit_numbers.specs.declared.facts.BodyFacts.{BodyFacts}
use Rattle.walrus_emit_numbers.specs.Numbers.{functions_at}
use Rattle.walrus_emit.specs.Whole.{before_code, header, numbers, payloads, sections, types}
use Rattle.walrus_emit.specs.Written.{IsWritten}
use Rattle.walrus_due_laws.specs.Spelled.{SpelledAs, spelled}
use Rattle.walrus_due_laws.specs.Types.{TypesAreSpelled}
use Rattle.walrus_due_laws.proofs.Parts.{both, plain}
use Rattle.walrus_code_laws.specs.Parts.{AreTold, PartsAreCanonical, all_due, numbered}
use Rattle.walrus_code_laws.proofs.Bodies.{limit_off}
use Rattle.walrus_plan_laws.specs.Behind.{SegmentsNameNoLocals}
use Rattle.walrus_plan_laws.specs.Plans.{plan_of}
use Rattle.walrus_rewritten_laws.specs.Bytes.{SpellsCustoms, TellsSegments, WrittenBytesAreCanonical, later}
use Rattle.walrus_rewritten_laws.specs.Planned.{IsPlanned}

regrouped : (f d c s p l : Due) → ((f ++ d) ++ (c ++ (s ++ p))) ++ l ≡ f ++ ((d ++ (c ++ s)) ++ (p ++ l))
regrouped f d c s p l =
    append_assoc (f ++ d) (c ++ (s ++ p)) l
    ∙ append_assoc f d ((c ++ (s ++ p)) ++ l)
    ∙ ap (λ (x : Due). f ++ (d ++ x)) (append_assoc c (s ++ p) l ∙ ap (λ (x : Due). c ++ x) (append_assoc s p l) ∙ sym (append_assoc c s (p ++ l)))
    ∙ ap (λ (x : Due). f ++ x) (sym (append_assoc d (c ++ s) (p ++ l)))

magic_first : (due : Due) (spelling : List ℕ) → SpelledAs due spelling → SpelledAs (written header ++ due) (magic ++ spelling)
magic_first due spelling h = both (written header) due magic spelling (plain header) h

module _ {B : Type 0} (own_name : B → List ℕ) (contents : B → Indices → Option (List ℕ)) (old new : Module B) (bytes : List ℕ) (w : IsWritten own_name contents old new bytes) where
  abbrev input : Module B
  input = record new { customs = old.customs }

  abbrev by : Indices
  by = numbers input w.facts w.order w.emitted

  abbrev named : Bool
  named = list_any (λ (f : BodyFacts). f.uses_data_segments) w.facts

  abbrev first : Due
  first = sections own_name contents true no_indices old.customs

  abbrev last : Due
  last =
      let after = later own_name contents input w.facts w.order w.emitted new.customs in
      payloads input (names_due (parts new) w.emitted (facts_at w.facts w.order) after) ++ sections own_name contents false after new.customs

  cut : SegmentsNameNoLocals B → written bytes ≡ (written header ++ first) ++ (all_due by (parts new) (facts_at w.facts w.order) (functions_at w.facts w.order) (types w.emitted) named ++ last)
  cut behind =
      let look = number_of by 0 in
      let after = later own_name contents input w.facts w.order w.emitted new.customs in
      let front : Due = written header ++ first in
      let before : Due = before_code look (means (parts new)) w.emitted (functions_at w.facts w.order) named in
      let bodies : Due = code new.locals new.funcs by (facts_at w.facts w.order) in
      let names : Due = payloads input (names_due (parts new) w.emitted (facts_at w.facts w.order) after) in
      let others : Due = sections own_name contents false after new.customs in
      w.bytes_are
      ∙ ap (λ (s : Due). ((front ++ before) ++ (bodies ++ (s ++ names))) ++ others) (behind input w.facts w.order by)
      ∙ regrouped front before bodies (items.segments look (means (parts new)).segments) names others

  canonical : TypesAreSpelled → SegmentsNameNoLocals B → PartsAreCanonical → (features : WasmFeatures) (planned : IsPlanned new w.facts w.order w.emitted) → TellsSegments new w.facts w.order w.emitted → (customs : List (Option grammar.Custom))
      → SpellsCustoms own_name contents input w.facts w.order w.emitted new.customs features customs
      → bytes ≡ canonical_bytes features (record (part (plan_of new w.facts w.order w.emitted) (numbered (parts new))) { customs = customs })
  canonical types_spelled behind part_canonical features planned tell customs spells =
      let p = plan_of new w.facts w.order w.emitted in
      let told : AreTold features p (parts new) (types w.emitted) named = record {
        groups = λ out e. types_spelled features (map type_group w.emitted.groups.items) out (limit_off 1000000 (length w.emitted.ids.items) TypeLimit (type_section (map type_group w.emitted.groups.items)) out e);
        segments = tell;
      } in
      let whole = part_canonical features by p (parts new) (facts_at w.facts w.order) planned.code (types w.emitted) named told customs (written header ++ first) last
      (magic_first first (spelled features (map custom_due (filter is_linking (items_in customs)))) spells.front) spells.back in
      whole bytes
      (ap (λ (functions : List ℕ). (written header ++ first) ++ (all_due by (parts new) (facts_at w.facts w.order) functions (types w.emitted) named ++ last)) planned.own
      ∙ sym (cut behind))

pub bytes_canonical : {B : Type 0} → TypesAreSpelled → SegmentsNameNoLocals B → PartsAreCanonical → WrittenBytesAreCanonical B
bytes_canonical types_spelled behind part_canonical features own_name contents old new bytes w planned tell customs spells =
    canonical own_name contents old new bytes w types_spelled behind part_canonical features planned tell customs spells
