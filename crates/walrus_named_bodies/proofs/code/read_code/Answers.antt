use Rattle.std.proofs.Common.{◌∙◌}
use Rattle.walrus_item_names.specs.walrus_module.walrus_body_writer.walrus_pairing.walrus_index_maps.Views.{ids}
use Rattle.walrus_file_bodies.specs.walrus_module_bodies.Steps.{state}
use Rattle.walrus_named_bodies.proofs.CodeLemmas.{ready_over}
use Rattle.walrus_named_bodies.proofs.code.read_code.Goals as goal

pub read_bodies-requires-clause-placed : goal.read_bodies-requires-clause-placed
read_bodies-requires-clause-placed c =
    (ready_over c.args.sections.now c.args.functions.now c.in_ok-file.file c.args.features c.as_slice.result.now (state c.args.types.now c.args.locals.now (ids c.args.maps.now) c.args.functions.now)
    (c.as_slice.ensures.value ∙ c.in_ok-file.ensures.bodies) (c.requires.ready c.in_ok-file.file c.in_ok-file.ensures.file)).placed

pub read_bodies-requires-clause-ready : goal.read_bodies-requires-clause-ready
read_bodies-requires-clause-ready c =
    (ready_over c.args.sections.now c.args.functions.now c.in_ok-file.file c.args.features c.as_slice.result.now (state c.args.types.now c.args.locals.now (ids c.args.maps.now) c.args.functions.now)
    (c.as_slice.ensures.value ∙ c.in_ok-file.ensures.bodies) (c.requires.ready c.in_ok-file.file c.in_ok-file.ensures.file)).ready

pub read_bodies-requires-clause-apart : goal.read_bodies-requires-clause-apart
read_bodies-requires-clause-apart c =
    (ready_over c.args.sections.now c.args.functions.now c.in_ok-file.file c.args.features c.as_slice.result.now (state c.args.types.now c.args.locals.now (ids c.args.maps.now) c.args.functions.now)
    (c.as_slice.ensures.value ∙ c.in_ok-file.ensures.bodies) (c.requires.ready c.in_ok-file.file c.in_ok-file.ensures.file)).apart

pub read_bodies-requires-clause-filed : goal.read_bodies-requires-clause-filed
read_bodies-requires-clause-filed c =
    (ready_over c.args.sections.now c.args.functions.now c.in_ok-file.file c.args.features c.as_slice.result.now (state c.args.types.now c.args.locals.now (ids c.args.maps.now) c.args.functions.now)
    (c.as_slice.ensures.value ∙ c.in_ok-file.ensures.bodies) (c.requires.ready c.in_ok-file.file c.in_ok-file.ensures.file)).filed

pub read_bodies-requires-clause-tags : goal.read_bodies-requires-clause-tags
read_bodies-requires-clause-tags c =
    (ready_over c.args.sections.now c.args.functions.now c.in_ok-file.file c.args.features c.as_slice.result.now (state c.args.types.now c.args.locals.now (ids c.args.maps.now) c.args.functions.now)
    (c.as_slice.ensures.value ∙ c.in_ok-file.ensures.bodies) (c.requires.ready c.in_ok-file.file c.in_ok-file.ensures.file)).tags
