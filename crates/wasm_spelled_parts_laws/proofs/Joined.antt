-- Lemmas: the part that is written of a file, with its custom sections, is read again.
use Rattle.std.specs.Prelude.{ℕ, ◌≡◌, Bool, true, false, not, List, [], ◌∷◌, ◌++◌, filter, map, Option, Some, None, refl}
use Rattle.std.specs.List.{AllByRecursion, filter_map}
use Rattle.std.specs.Str.{is_utf8}
use Rattle.std.proofs.Common.{ap, sym, ◌∙◌, arith}
use Rattle.wasm_features.specs.declared.WasmFeatures.{WasmFeatures}
use Rattle.wasm_grammar.specs.Modules.{Body, Custom, Function, Imported, Module, Origin, Own, Placed}
use Rattle.wasm_operators.specs.Items.{Functions}
use Rattle.wasm_operators.specs.Operators.{flow_of}
use Rattle.wasm_body_grammar.specs.Bodies.{frames_of}
use Rattle.wasm_body_grammar.specs.Codes.{param_count}
use Rattle.wasm_body_grammar.specs.Frames.{Frame, turned}
use Rattle.wasm_body_grammar.specs.Rules.{Around}
use Rattle.wasm_module_bytes.specs.Bytes.{without_places}
use Rattle.wasm_module_rules.specs.Linked.{Each}
use Rattle.wasm_ruled_modules.specs.Rules.{AreOperators, HasBody, IsRuled, OriginRuled, around_bodies}
use Rattle.wasm_name_payloads.specs.Names.{section_name}
use Rattle.wasm_name_payloads.specs.Producers.{processed, producers_of, section_name as producers_name}
use Rattle.wasm_name_payloads.specs.Written.{payload_bytes, producers_bytes}
use Rattle.wasm_canonical.specs.Canonical.{bytes_due, canonical_bytes, is_linking}
use Rattle.wasm_canonical.specs.CanonicalReads.{SpelledAreCanonical}
use Rattle.wasm_canonical.specs.Dense.{IsDense}
use Rattle.wasm_canonical.specs.Due.{counts_data, items_in}
use Rattle.wasm_part.specs.Part.{Plan, part}
use Rattle.wasm_part.specs.Stands.{Stands}
use Rattle.wasm_places_laws.specs.Places.{FunctionsAtPlaces, WrittenPairsArePlaces}
use Rattle.wasm_rewritten.specs.Customs.{customs_written, names_kept, section_if, section_of, stays}
use Rattle.wasm_spelled_parts_laws.specs.Customs.{WrittenCustomsAreInOrder}
use Rattle.wasm_spelled_parts_laws.specs.Dense.{WrittenPartsAreDense}
use Rattle.wasm_spelled_parts_laws.specs.Due.{ItemsInAreSpelled}
use Rattle.wasm_spelled_parts_laws.specs.Items.{AreIn, NameIn, ReadItemsAreIn}
use Rattle.wasm_spelled_parts_laws.specs.Parts.{AreNumbered, WrittenItemsAreIn}
use Rattle.wasm_spelled_parts_laws.specs.Ruled.{CountedPartsAreRuled}
use Rattle.wasm_spelled_parts_laws.specs.Whole.{source_of, with_customs, written_part}
use Rattle.wasm_spelled_parts_laws.specs.Written.{DuePartsAreRead, DuePartsAreRewritten, DuePartsAreWritten}
use Rattle.wasm_spelled_parts_laws.proofs.Entries.{all_filtered, all_items}
use Rattle.wasm_spelled_parts_laws.proofs.Fitting.{both_all}

-- ---- custom sections are told apart

module _ (n : Module) (cs : List Custom) where
  dense_with : IsDense n → IsDense (with_customs n cs)
  dense_with d = record { groups = d.groups; imports = d.imports; brings = d.brings; functions = d.functions; tables = d.tables; memories = d.memories; tags = d.tags; globals = d.globals; exports = d.exports; elements = d.elements; segments = d.segments }

  module _ (features : WasmFeatures) (counted : Bool) where
    abbrev a : Around
    a = around_bodies features counted n

    abbrev b : Around
    b = around_bodies features counted (with_customs n cs)

    ops_with : (locals : ℕ) (frames : List Frame) (ops : List Placed) → AreOperators a locals frames ops → AreOperators b locals frames ops
    ops_with locals frames [] h = h
    ops_with locals frames (o ∷ ops) h = (h.0, h.1, ops_with locals (frames_of (turned (flow_of o.op.code) frames) frames) ops h.2)

    origin_with : (params : ℕ) (o : Origin Body) → OriginRuled a params o → OriginRuled b params o
    origin_with params (Imported k) h = h
    origin_with params (Own x) h = record { counted = h.counted; named = h.named; operators = ops_with _ _ x.operators h.operators }

    bodies_with : (fs : List (Option Function)) → Each (λ (f : Function). HasBody a f) fs → Each (λ (f : Function). HasBody b f) fs
    bodies_with [] h = tt
    bodies_with (None ∷ fs) h = bodies_with fs h
    bodies_with (Some f ∷ fs) h = (origin_with (param_count a.filled f.ty) f.origin h.0, bodies_with fs h.1)

    ruled_with : IsRuled features counted n → IsRuled features counted (with_customs n cs)
    ruled_with r = record {
      linked = record {
        functions_typed = r.linked.functions_typed;
        tags_typed = r.linked.tags_typed;
        tables_limited = r.linked.tables_limited;
        memories_limited = r.linked.memories_limited;
        imports_there = r.linked.imports_there;
        exports_there = r.linked.exports_there;
        exports_distinct = r.linked.exports_distinct;
        start_there = r.linked.start_there;
        elements_there = r.linked.elements_there;
        elements_listed = r.linked.elements_listed;
        segments_there = r.linked.segments_there;
      };
      lists = record { types = r.lists.types; imports = r.lists.imports; functions = r.lists.functions; tables = r.lists.tables; memories = r.lists.memories; tags = r.lists.tags; globals = r.lists.globals; exports = r.lists.exports; elements = r.lists.elements; segments = r.lists.segments };
      groups = r.groups;
      named = record { tables = r.named.tables; globals = r.named.globals; elements = r.named.elements; pages = r.named.pages };
      expressed = record { tables = r.expressed.tables; globals = r.expressed.globals; offsets = r.expressed.offsets; items = r.expressed.items; segments = r.expressed.segments };
      bodies = bodies_with n.functions r.bodies;
    }

  numbered_with : AreNumbered n → AreNumbered (with_customs n cs)
  numbered_with h = record { few_groups = h.few_groups; functions = h.functions; tags = h.tags; exports = h.exports; start = h.start; elements = h.elements; segments = h.segments }

somes_in : (cs : List Custom) → AllByRecursion (λ (c : Custom). NameIn c.name) cs → Each (λ (c : Custom). NameIn c.name) (map (λ (c : Custom). Some c) cs)
somes_in [] h = tt
somes_in (c ∷ cs) h = (h.0, somes_in cs h.1)

items_with : (features : WasmFeatures) (n : Module) (cs : List Custom) → AreIn features n → AllByRecursion (λ (c : Custom). NameIn c.name) cs → AreIn features (with_customs n cs)
items_with features n cs h k = record {
  groups = h.groups;
  imports = h.imports;
  functions = h.functions;
  tables = h.tables;
  memories = h.memories;
  globals = h.globals;
  exports = h.exports;
  elements = h.elements;
  segments = h.segments;
  customs = somes_in cs k;
}

-- ---- their names

abbrev IsNamed : Custom → Type 0
IsNamed c = NameIn c.name

names_utf8 : is_utf8 section_name ≡ true
unfolding Rattle.std.specs.Str.is_utf8 Rattle.std.specs.Str.chars lib.Utf8.encode
names_utf8 = refl

producers_utf8 : is_utf8 producers_name ≡ true
unfolding Rattle.std.specs.Str.is_utf8 Rattle.std.specs.Str.chars lib.Utf8.encode
producers_utf8 = refl

names_named : (b : Bool) (bytes : List ℕ) → AllByRecursion IsNamed (section_if b (section_of section_name bytes))
names_named false bytes = tt
names_named true [] = tt
names_named true (x ∷ bytes) = ((omega arith, names_utf8), tt)

producers_named : (b : Bool) (bytes : List ℕ) → AllByRecursion IsNamed (section_if b (section_of producers_name bytes))
producers_named false bytes = tt
producers_named true [] = tt
producers_named true (x ∷ bytes) = ((omega arith, producers_utf8), tt)

customs_named : (names producers : Bool) (features : WasmFeatures) (file : Module) (p : Plan) → AreIn features file → AllByRecursion IsNamed (customs_written names producers features file p)
customs_named names producers features file p h =
    let raw = all_filtered IsNamed stays (items_in file.customs) (all_items IsNamed file.customs h.customs) in
    let kept = filter stays (items_in file.customs) in
    let first = filter is_linking kept in
    let last = filter (λ c. not (is_linking c)) kept in
    let named = section_if names (section_of section_name (payload_bytes (names_kept features file p))) in
    let produced = section_if producers (section_of producers_name (producers_bytes (processed (producers_of file)))) in
    both_all IsNamed first (named ++ (produced ++ last)) (all_filtered IsNamed is_linking kept raw)
    (both_all IsNamed named (produced ++ last) (names_named names (payload_bytes (names_kept features file p)))
    (both_all IsNamed produced last (producers_named producers (producers_bytes (processed (producers_of file)))) (all_filtered IsNamed (λ c. not (is_linking c)) kept raw)))

-- ---- all of it

pub due_written : WrittenPartsAreDense → CountedPartsAreRuled → WrittenCustomsAreInOrder → ReadItemsAreIn → WrittenItemsAreIn → ItemsInAreSpelled → DuePartsAreWritten
due_written dense ruled customs read items spelled place names producers keep features input file t p due =
    let m = source_of place features file in
    let n = part p m in
    let cs = customs_written names producers features file p in
    let d = dense_with n cs (dense place keep features input file t p due.reads due.writes due.ordered) in
    let r = ruled_with n cs features (counts_data n) (ruled place keep features input file t p due.reads due.writes due.counted) in
    let own = items place keep features input file t p due.small due.reads due.writes due.declared due.counted in
    let all = items_with features n cs own.0 (customs_named names producers features file p (read features input file due.small due.reads)) in
    record {
      whole = refl;
      dense = d;
      ruled = r;
      customs = customs names producers features file p n;
      spelled = spelled features (counts_data n) (with_customs n cs) d r all (numbered_with n cs own.1) due.bodies;
      short = due.short;
    }

pub due_read : DuePartsAreWritten → SpelledAreCanonical → DuePartsAreRead
due_read written canonical place names producers keep features input file t p due =
    let w = written place names producers keep features input file t p due in
    (canonical features (written_part place names producers features file p) w.dense w.ruled w.customs w.spelled w.short).1

pub due_rewritten : DuePartsAreWritten → DuePartsAreRead → WrittenPairsArePlaces → DuePartsAreRewritten
due_rewritten written read pairs place names producers keep features input file t p due =
    let n = written_part place names producers features file p in
    let k = read place names producers keep features input file t p due in
    let places : FunctionsAtPlaces p = λ i f e. due.writes.only Functions i f tt e in
    let whole = k.2 in
    let customs : k.0.customs ≡ n.customs = ap (λ (m : Module). m.customs) k.2 in
    let stands : Stands place keep features file k.0 t p = record {
      writes = due.writes;
      ordered = due.ordered;
      declared = due.declared;
      whole = k.2 ∙ ap (λ (c : List (Option Custom)). (let m : Module = record (without_places (part p (source_of place features file))) { customs = c } in m)) (sym customs);
    } in
    let same : canonical_bytes features n ≡ canonical_bytes features k.0 = ap (bytes_due features) (sym k.2) in
    let at = pairs (place None) features (source_of place features file) n p places (written place names producers keep features input file t p due) k.0 k.1 in (
      record { file = file; n = k.0; t = t; p = p; reads = due.reads; stands = stands; customs_are = customs; canonical = same; reads_again = k.1; pairs = tt },
      record { file = file; n = k.0; t = t; p = p; reads = due.reads; stands = stands; customs_are = customs; canonical = same; reads_again = k.1; pairs = at },
    )
