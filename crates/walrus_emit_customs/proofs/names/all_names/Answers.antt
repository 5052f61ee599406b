use Rattle.std.proofs.Common.{ap, ◌∙◌, List, slice_get}
use Rattle.std.specs.List.{filter_map}
use Rattle.walrus_index_maps.specs.Views.{indices}
use Rattle.walrus_items.specs.declared.local.Local.{Local}
use Rattle.walrus_module.specs.Parts.{parts}
use Rattle.walrus_payload_writers.specs.declared.names.Names.{Names}
use Rattle.walrus_emit_customs.specs.Names.{local_names}
use Rattle.walrus_emit_customs.proofs.NameLemmas.{names_are}
use Rattle.walrus_emit_customs.proofs.names.all_names.Goals as goal

pub returns : goal.returns
returns g c =
    let bodies = filter_map (slice_get c.args.facts.now) c.args.order.now in
    let found : Names = record {
      own = c.text.result;
      functions = c.in_ok-functions.functions;
      locals = c.in_ok-locals.locals;
      types = c.in_ok-of_types.of_types;
      tables = c.in_ok-tables.tables;
      memories = c.in_ok-memories.memories;
      globals = c.in_ok-globals.globals;
      elements = c.in_ok-elements.elements;
      data_segments = c.in_ok-data_segments.data_segments;
      tags = c.in_ok-tags.tags;
    } in
    names_are found (parts c.args.input.now) c.args.types.now (indices c.args.maps.now) bodies c.text.ensures
    (c.in_ok-locals.ensures ∙ ap (λ (l : List Local). local_names l (indices c.args.maps.now) bodies) (c.as_slice-all.ensures.value ∙ c.iter.ensures))
    c.in_ok-functions.ensures c.in_ok-of_types.ensures c.in_ok-tables.ensures c.in_ok-memories.ensures c.in_ok-globals.ensures c.in_ok-elements.ensures c.in_ok-data_segments.ensures c.in_ok-tags.ensures
