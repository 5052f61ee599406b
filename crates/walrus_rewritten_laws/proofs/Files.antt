-- Lemmas: what was written of what is kept of a module that was read is its file rewritten.
use Rattle.std.specs.Prelude.{ℕ, length, ◌≡◌, ◌++◌, false, take, drop, List, [], ◌∷◌, map, Some}
use Rattle.std.proofs.Common.{ap, sym, ◌∙◌, subst}
use Rattle.wasm_grammar.specs.Modules as grammar
use Rattle.wasm_modules.specs.Modules.{IsShort}
use Rattle.wasm_ruled_modules.specs.Rules.{IsCounted}
use Rattle.wasm_canonical.specs.Canonical.{canonical_bytes}
use Rattle.wasm_rewritten.specs.Customs.{customs_written}
use Rattle.wasm_canonical.specs.Due.{bodies_due}
use Rattle.wasm_canonical.specs.Formed.{AreNotLong}
use Rattle.wasm_places_laws.specs.Places.{around_written}
use Rattle.wasm_spelled_parts_laws.specs.Due.{BodiesAreShort}
use Rattle.walrus_module.specs.Parts.{Module as Parts, parts as module_parts}
use Rattle.walrus_types.specs.Table.{Table}
use Rattle.walrus_types.specs.TypeLaws.{AreGrouped}
use Rattle.walrus_emit.specs.Left.{Declares}
use Rattle.walrus_emit_numbers.specs.Undeclared.{undeclared_of}
use Rattle.walrus_emit_code.specs.Code.{code, facts_at}
use Rattle.walrus_emit.specs.Whole.{closing, numbers, opening, sections, with_bodies}
use Rattle.walrus_code_laws.specs.Parts.{CodeIsApart}
use Rattle.walrus_code_laws.specs.Short.{PartBodiesAreShort}
use Rattle.walrus_counted_laws.specs.Counted.{WrittenPartsAreCounted}
use Rattle.walrus_code_laws.proofs.Texts.{parts}
use Rattle.walrus_plan_laws.specs.Plans.{plan_of}
use Rattle.wasm_spelled_parts_laws.specs.Whole.{written_part}
use Rattle.wasm_spelled_parts_laws.specs.Written.{DuePartsAreWritten, IsDue}
use Rattle.walrus_named_bodies.specs.Parsed.{read_features}
use Rattle.walrus_parse_laws.specs.Meant.{place_of}
use Rattle.walrus_kept_laws.specs.Seen.{SeenAsMeant}
use Rattle.walrus_stands_laws.specs.Stands.{EmissionsStandForFiles, IsLeft, plan_in_file, types_in_file}
use Rattle.walrus_rewritten_laws.specs.Bytes.{WrittenBytesAreCanonical}
use Rattle.walrus_rewritten_laws.specs.Files.{KeptFilesAreRewritten}
use Rattle.walrus_rewritten_laws.specs.Planned.{KeptModulesArePlanned}
use Rattle.walrus_rewritten_laws.specs.Rewritten.{MadeAreRewritten, PlanStands, WritesFile}

-- a declared segment that is added leaves the types
types_stay : (functions : List ℕ) (old new : Parts) → Declares functions old new → old.types ≡ new.types
types_stay [] old new h = sym (ap (λ (m : Parts). m.types) h)
types_stay (f ∷ fs) old new h = sym (ap (λ (m : Parts). m.types) h.0)

pub files_rewritten : {B : Type 0} → SeenAsMeant B → KeptModulesArePlanned B → WrittenBytesAreCanonical B → EmissionsStandForFiles B → DuePartsAreWritten → WrittenPartsAreCounted B → PartBodiesAreShort → CodeIsApart → MadeAreRewritten B → KeptFilesAreRewritten B
files_rewritten seen planned_of canonical_of stand due counted_of bodies_short apart made own_name contents transformed config input read found bytes is kept left emission keeps out short file reads means known =
    let features = read_features config in
    let w = out.emitted.written in
    let planned = planned_of config input read found bytes is kept keeps.part own_name contents left emission.bytes.items w in
    let p = plan_in_file config input file found read kept left w.facts w.order w.emitted in
    let t = types_in_file config input file found read kept left w.facts w.order w.emitted in
    let is_left : IsLeft config input file found read kept left w.facts w.order w.emitted = record {
      is_read = is;
      reads = reads;
      means = means;
      grouped = keeps.grouped;
      alike = seen config input file read found bytes is reads means keeps.grouped config.keep_segments;
      sound = keeps.sound;
      part = keeps.part;
      still = keeps.left_grouped;
      known = w.known;
      declares = w.declared;
      types = w.types;
      plan = planned.plan;
    } in
    let stands = stand config input file found read kept left w.facts w.order w.emitted is_left in
    let customs = map (λ (c : grammar.Custom). Some c) (customs_written config.generate_name_section config.generate_producers_section features file p) in
    let k = written_part place_of config.generate_name_section config.generate_producers_section features file p in
    let are : emission.bytes.items ≡ canonical_bytes features k =
    canonical_of features own_name contents kept left emission.bytes.items w planned customs known.customs
    ∙ ap (λ (m : grammar.Module). canonical_bytes features (record m { customs = customs })) stands.same in
    let small : IsShort (canonical_bytes features k) = subst (λ (b : List ℕ). IsShort b) are short in
    let shown = record left { customs = kept.customs } in
    let by = numbers shown w.facts w.order w.emitted in
    let after = with_bodies shown w.facts w.order by in
    let first = opening own_name contents shown w.facts w.order w.emitted by in
    let mine = code left.locals left.funcs by (facts_at w.facts w.order) in
    let behind = closing shown w.facts w.order w.emitted after in
    let most = parts (first ++ (mine ++ behind)) (sections own_name contents false after left.customs) emission.bytes.items (sym w.bytes_are) in
    let rest = parts first (mine ++ behind) (take (length (first ++ (mine ++ behind))) emission.bytes.items) most.0 in
    let own = drop (length first) (take (length (first ++ (mine ++ behind))) emission.bytes.items) in
    let around = around_written features k in
    let q = plan_of left w.facts w.order w.emitted in
    let bodies : BodiesAreShort features k =
    subst AreNotLong (sym (apart.unplaced around k))
    (subst (λ (m : grammar.Module). AreNotLong (bodies_due around m)) stands.same
    (bodies_short around by q (module_parts left) (facts_at w.facts w.order) planned.code (take (length mine) own) (parts mine behind own rest.1).0)) in
    let grouped : AreGrouped left.types = subst (λ (table : Table). AreGrouped table) (types_stay (undeclared_of kept w.facts) (module_parts kept) (module_parts left) w.declared) keeps.left_grouped in
    let is_due : IsDue place_of config.generate_name_section config.generate_producers_section config.keep_segments features input file t p = record {
      small = bytes;
      reads = reads;
      writes = stands.writes;
      ordered = stands.ordered;
      declared = stands.declared;
      counted = subst (λ (m : grammar.Module). IsCounted m) stands.same (counted_of own_name contents kept left emission.bytes.items w grouped planned.plan []);
      bodies = bodies;
      short = small;
    } in
    let plan : PlanStands place_of config.keep_segments features file t p = record { writes = stands.writes; ordered = stands.ordered; declared = stands.declared } in
    let writes : WritesFile own_name contents config kept left emission.bytes.items w file = record {
      table = t;
      plan = p;
      stands = plan;
      same = stands.same;
      customs = known.customs;
      spelled = due place_of config.generate_name_section config.generate_producers_section config.keep_segments features input file t p is_due;
    } in
    made own_name contents transformed config input read found bytes is kept left emission keeps out file reads writes
