use Rattle.std.proofs.Common.{◌∙◌, refl}
use Rattle.walrus_index_maps.specs.Views.{ids}
use Rattle.walrus_payload_readers.specs.Bearers.{given_of}
use Rattle.walrus_item_names.proofs.Given.{gives_next}
use Rattle.walrus_item_names.proofs.give.give_names.Goals as goal

pub loop-given-preserved : goal.loop-given-preserved
loop-given-preserved c =
    gives_next c.args.skips_empty (ids c.args.maps.now) given_of c.args.names.now c.loop-given.given-index _ _ _ _ _ refl c.loop-given-test.true c.loop-given.invariant c.in_ok-give_name.ensures.gives

pub returns-in_err-give_name-clause-same : goal.returns-in_err-give_name-clause-same
returns-in_err-give_name-clause-same c = c.give_name.ensures.same ∙ c.loop-given.invariant.same
