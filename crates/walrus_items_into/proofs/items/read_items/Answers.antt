use Rattle.std.proofs.Common.{◌∙◌, List, length, ap}
use Rattle.std.specs.Bool.{OnFalse, OnTrue}
use Rattle.walrus_module_bodies.specs.walrus_functions_into.Functions.{with_functions}
use Rattle.walrus_read_laws.specs.walrus_tables_into.Customs.{plain}
use Rattle.walrus_read_laws.specs.walrus_tables_into.Tables.{TableLacks}
use Rattle.walrus_read_laws.specs.walrus_tables_into.Globals.{GlobalLacks}
use Rattle.walrus_read_laws.specs.walrus_tables_into.Elements.{ElementLacks}
use Rattle.walrus_read_laws.specs.walrus_tables_into.walrus_sections_into.Becomes.{look_of}
use Rattle.walrus_read_laws.specs.walrus_tables_into.walrus_sections_into.Lacks.{DataLacks, ExportLacks, ImportLacks, StartLacks, TagLacks}
use Rattle.walrus_read_laws.specs.walrus_tables_into.walrus_sections_into.walrus_known_sections.declared.items.Function.{Function as ReadFunction}
use Rattle.walrus_read_laws.specs.walrus_tables_into.walrus_sections_into.Exports.{StartBecomes}
use Rattle.walrus_read_laws.specs.walrus_tables_into.walrus_sections_into.walrus_index_maps.Views.{ids}
use Rattle.walrus_read_laws.specs.walrus_tables_into.walrus_sections_into.walrus_forms.Records.{TypeGroup}
use Rattle.walrus_items_into.specs.Filled.{IsFilledFrom, IsHollowFrom}
use Rattle.walrus_items_into.specs.Spaces.{spaces}
use Rattle.walrus_items_into.proofs.FillLemmas.{below, typed, typed_there, numbered, over, filled, on_hollow, on_kept, on_start}
use Rattle.walrus_items_into.proofs.LackLemmas.{refused_by, never_refused}
use Rattle.walrus_items_into.proofs.items.read_items.Goals as goal

pub read_types_into-requires : goal.read_types_into-requires
read_types_into-requires g c = below c.args.sections.now c.types_name_below.ensures c.requires.read

pub add_functions-requires : goal.add_functions-requires
add_functions-requires g c =
    typed_there c.args.sections.now (ids c.args.maps.now) (ids c.read_types_into.new.maps) c.args.types.now c.as_slice.result.now c.requires.new.numbers c.requires.new.types c.in_ok-read_types_into.ensures.ids c.as_slice.ensures.value
    (typed c.args.sections.now c.types_name_below.ensures c.new_types_stand.ensures c.read_functions_stand.ensures c.requires.read)

pub returns-clause-filled : goal.returns-clause-filled
returns-clause-filled g c =
    let s = c.args.sections.now in
    let i = ids c.args.maps.now in
    let l = ids c.number_items.new.maps in
    let old = spaces c.args.types.now c.args.imports.now c.args.functions.now c.args.tables.now c.args.memories.now c.args.tags.now c.args.globals.now c.args.exports.now c.args.elements.now c.args.segments.now c.args.customs.now in
    let new = spaces c.read_types_into.new.types c.add_imports.new.into c.add_functions.new.into c.add_tables.new.into c.add_memories.new.into c.add_tags.new.into c.add_globals.new.into c.add_exports.new.into c.add_elements.new.into c.add_segments.new.into c.add_customs.new.into in
    let held = over c.as_slice-9.ensures.value c.in_ok-add_segments.ensures.added in
    on_start (StartBecomes (look_of l) s.start) (λ start. OnTrue c.args.keeps_bytes (IsFilledFrom s start l new)) c.read_start.result
    (λ start begun. on_kept c.args.keeps_bytes (look_of l) s.segments.items old.segments.slots new.segments.slots (IsFilledFrom s start l new) held
    (λ segments.
    (filled s i (ids c.read_types_into.new.maps) (ids c.add_functions.new.maps) l old new c.requires.new c.as_slice.result.now c.as_slice.ensures.value
    c.in_ok-read_types_into.ensures.ids c.in_ok-read_types_into.ensures.types c.in_ok-add_functions.ensures.added c.in_ok-add_functions.ensures.numbered c.in_ok-number_items.ensures
    (over c.as_slice-2.ensures.value c.in_ok-add_imports.ensures.added)
    (over c.as_slice-3.ensures.value c.in_ok-add_tables.ensures.added)
    (over c.as_slice-4.ensures.value c.in_ok-add_memories.ensures.added)
    (over c.as_slice-5.ensures.value c.in_ok-add_tags.ensures.added)
    (over c.as_slice-6.ensures.value c.in_ok-add_globals.ensures.added)
    (over c.as_slice-7.ensures.value c.in_ok-add_exports.ensures.added)
    (over c.as_slice-8.ensures.value c.in_ok-add_elements.ensures.added)
    segments
    (over (ap plain c.as_slice-10.ensures.value) c.in_ok-add_customs.ensures.added) start begun)))
    c.read_start.ensures.becomes

pub returns-clause-hollow : goal.returns-clause-hollow
returns-clause-hollow g c =
    let s = c.args.sections.now in
    let i = ids c.args.maps.now in
    let l = ids c.number_items.new.maps in
    let old = spaces c.args.types.now c.args.imports.now c.args.functions.now c.args.tables.now c.args.memories.now c.args.tags.now c.args.globals.now c.args.exports.now c.args.elements.now c.args.segments.now c.args.customs.now in
    let new = spaces c.read_types_into.new.types c.add_imports.new.into c.add_functions.new.into c.add_tables.new.into c.add_memories.new.into c.add_tags.new.into c.add_globals.new.into c.add_exports.new.into c.add_elements.new.into c.add_segments.new.into c.add_customs.new.into in
    let held = over c.as_slice-9.ensures.value c.in_ok-add_segments.ensures.added in
    on_start (StartBecomes (look_of l) s.start) (λ start. OnFalse c.args.keeps_bytes (IsHollowFrom s start l new)) c.read_start.result
    (λ start begun. on_hollow c.args.keeps_bytes (look_of l) s.segments.items old.segments.slots new.segments (IsHollowFrom s start l new) c.requires.new.segments held
    (λ full are_held segments. record {
      full = full;
      held = are_held;
      filled =
          (filled s i (ids c.read_types_into.new.maps) (ids c.add_functions.new.maps) l old (record new { segments = full }) c.requires.new c.as_slice.result.now c.as_slice.ensures.value
          c.in_ok-read_types_into.ensures.ids c.in_ok-read_types_into.ensures.types c.in_ok-add_functions.ensures.added c.in_ok-add_functions.ensures.numbered c.in_ok-number_items.ensures
          (over c.as_slice-2.ensures.value c.in_ok-add_imports.ensures.added)
          (over c.as_slice-3.ensures.value c.in_ok-add_tables.ensures.added)
          (over c.as_slice-4.ensures.value c.in_ok-add_memories.ensures.added)
          (over c.as_slice-5.ensures.value c.in_ok-add_tags.ensures.added)
          (over c.as_slice-6.ensures.value c.in_ok-add_globals.ensures.added)
          (over c.as_slice-7.ensures.value c.in_ok-add_exports.ensures.added)
          (over c.as_slice-8.ensures.value c.in_ok-add_elements.ensures.added)
          segments
          (over (ap plain c.as_slice-10.ensures.value) c.in_ok-add_customs.ensures.added) start begun);
    }))
    c.read_start.ensures.becomes

pub lacks_nothing-requires : goal.lacks_nothing-requires
lacks_nothing-requires g c =
    let s = c.args.sections.now in
    let reads = ap (λ (reads : List ReadFunction). with_functions (length c.args.functions.now.slots) (length reads) (ids c.read_types_into.new.maps)) c.as_slice.ensures.value in (
      s,
      ap (λ (types : List TypeGroup). record s { types = types }) c.in_ok-read_types_into.ensures.left,
      c.requires.read,
      numbered s (ids c.args.maps.now) (ids c.read_types_into.new.maps) (ids c.add_functions.new.maps) (ids c.number_items.new.maps) c.args.types.now c.args.functions.now.slots
          c.requires.new.numbers c.requires.new.types c.requires.new.functions c.in_ok-read_types_into.ensures.ids (c.in_ok-add_functions.ensures.numbered ∙ reads) c.in_ok-number_items.ensures,
    )

pub returns-in_err-add_imports-clause-refused : goal.returns-in_err-add_imports-clause-refused
returns-in_err-add_imports-clause-refused g c =
    refused_by (ImportLacks (look_of (ids c.number_items.new.maps))) c.args.sections.now.imports.items c.as_slice-2.result.now _ c.from_residual-in_err-add_imports.result
    c.as_slice-2.ensures.value c.lacks_nothing.ensures.imports c.in_err-add_imports.ensures.unknown c.from_residual-in_err-add_imports.ensures

pub returns-in_err-add_tables-clause-refused : goal.returns-in_err-add_tables-clause-refused
returns-in_err-add_tables-clause-refused g c =
    refused_by (TableLacks (look_of (ids c.number_items.new.maps))) c.args.sections.now.tables.items c.as_slice-3.result.now _ c.from_residual-in_err-add_tables.result
    c.as_slice-3.ensures.value c.lacks_nothing.ensures.tables c.in_err-add_tables.ensures.unknown c.from_residual-in_err-add_tables.ensures

pub returns-in_err-add_tags-clause-refused : goal.returns-in_err-add_tags-clause-refused
returns-in_err-add_tags-clause-refused g c =
    refused_by (TagLacks (look_of (ids c.number_items.new.maps))) c.args.sections.now.tags.items c.as_slice-5.result.now _ c.from_residual-in_err-add_tags.result
    c.as_slice-5.ensures.value c.lacks_nothing.ensures.tags c.in_err-add_tags.ensures.unknown c.from_residual-in_err-add_tags.ensures

pub returns-in_err-add_globals-clause-refused : goal.returns-in_err-add_globals-clause-refused
returns-in_err-add_globals-clause-refused g c =
    refused_by (GlobalLacks (look_of (ids c.number_items.new.maps))) c.args.sections.now.globals.items c.as_slice-6.result.now _ c.from_residual-in_err-add_globals.result
    c.as_slice-6.ensures.value c.lacks_nothing.ensures.globals c.in_err-add_globals.ensures.unknown c.from_residual-in_err-add_globals.ensures

pub returns-in_err-add_exports-clause-refused : goal.returns-in_err-add_exports-clause-refused
returns-in_err-add_exports-clause-refused g c =
    refused_by (ExportLacks (look_of (ids c.number_items.new.maps))) c.args.sections.now.exports.items c.as_slice-7.result.now _ c.from_residual-in_err-add_exports.result
    c.as_slice-7.ensures.value c.lacks_nothing.ensures.exports c.in_err-add_exports.ensures.unknown c.from_residual-in_err-add_exports.ensures

pub returns-in_err-add_elements-clause-refused : goal.returns-in_err-add_elements-clause-refused
returns-in_err-add_elements-clause-refused g c =
    refused_by (ElementLacks (look_of (ids c.number_items.new.maps))) c.args.sections.now.elements.items c.as_slice-8.result.now _ c.from_residual-in_err-add_elements.result
    c.as_slice-8.ensures.value c.lacks_nothing.ensures.elements c.in_err-add_elements.ensures.unknown c.from_residual-in_err-add_elements.ensures

pub returns-in_err-add_segments-clause-refused : goal.returns-in_err-add_segments-clause-refused
returns-in_err-add_segments-clause-refused g c =
    refused_by (DataLacks (look_of (ids c.number_items.new.maps))) c.args.sections.now.segments.items c.as_slice-9.result.now _ c.from_residual-in_err-add_segments.result
    c.as_slice-9.ensures.value c.lacks_nothing.ensures.segments c.in_err-add_segments.ensures.unknown c.from_residual-in_err-add_segments.ensures

pub returns-clause-refused : goal.returns-clause-refused
returns-clause-refused g c =
    never_refused (StartLacks (look_of (ids c.number_items.new.maps)) c.args.sections.now.start) c.read_start.result c.lacks_nothing.ensures.start c.read_start.ensures.unknown
