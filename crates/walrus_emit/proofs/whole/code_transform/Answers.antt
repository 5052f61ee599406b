use Rattle.walrus_emit.proofs.WrittenLemmas.{told_of}
use Rattle.walrus_emit.proofs.whole.code_transform.Goals as goal

pub returns : goal.returns
returns c =
    told_of _ c.args.emission.now.locations.items c.as_slice-locations.result.now c.args.emission.now.ranges.items c.as_slice-ranges.result.now c.args.emission.now.code_section_start
    c.as_slice-locations.ensures.value c.as_slice-ranges.ensures.value c.in_ok-transform_of.ensures.map c.in_ok-transform_of.ensures.ranges c.in_ok-transform_of.ensures.start
