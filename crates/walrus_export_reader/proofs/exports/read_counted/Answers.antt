use Rattle.std.proofs.Common.{◌∙◌}
use Rattle.walrus_export_reader.proofs.Judged.{counted_fails}
use Rattle.walrus_export_reader.proofs.exports.read_counted.Goals as goal

pub returns : goal.returns
returns c =
    counted_fails c.args.count c.args.sections.now c.read_candidates.new.sections c.read_candidates.new.places.items c.as_slice.result.now c.len-from.result c.args.reader.now
    c.read_candidates.new.reader c.in_ok-fault.fault _ c.in-Err.twice c.in_ok-fault.ensures.candidates (c.len-from.ensures ∙ c.args.sections.now.exports.ok.0) c.as_slice.ensures.value
    c.in-Err.ensures.names c.in-Err.ensures.place
