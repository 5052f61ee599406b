use Rattle.std.specs.Prelude.{◌-◌, length}
use Rattle.walrus_index_maps.specs.Views.{indices}
use Rattle.walrus_emit_code.specs.Code.{contents}
use Rattle.walrus_emit_code.specs.Places.{places_in}
use Rattle.walrus_emit_code.proofs.PlaceLemmas.{apart_located, apart_ranged}
use Rattle.walrus_emit_code.proofs.code.write_body.Goals as goal

pub returns-clause-located : goal.returns-clause-located
returns-clause-located c =
    apart_located c.args.out.now.keeps_places (length c.args.emission.now.bytes.items - c.args.start) _
    (contents c.args.body.now.locals.now c.args.body.now.facts.now.function c.args.body.now.local.now c.args.body.now.facts.now.used_locals.items (indices c.args.emission.now.indices)) _
    (places_in c.args.body.now.locals.now c.args.body.now.facts.now.function c.args.body.now.local.now c.args.body.now.facts.now.used_locals.items (indices c.args.emission.now.indices)) _ _
    c.in_ok-write_apart.ensures.written c.in_ok-write_apart.ensures.placed c.in_ok-add_body.ensures.located

pub returns-clause-ranged : goal.returns-clause-ranged
returns-clause-ranged c =
    apart_ranged c.args.body.now.facts.now.function (length c.args.emission.now.bytes.items - c.args.start) _
    (contents c.args.body.now.locals.now c.args.body.now.facts.now.function c.args.body.now.local.now c.args.body.now.facts.now.used_locals.items (indices c.args.emission.now.indices)) _ _
    c.in_ok-write_apart.ensures.written c.in_ok-add_body.ensures.ranged
