use Rattle.std.proofs.Common.{◌+◌, ◌^◌}
use Rattle.program_parts.proofs.TakeLemmas.{all_taken, shrunk}
use Rattle.program_parts.proofs.input.read_all.Goals as goal

pub returns : goal.returns
returns g c =
    shrunk (2 ^ 30 + 1) _ c.read_to_end.new.buf.items _ c.shrink_to_fit.ensures.items (
    all_taken g.R.Read.remaining c.take-limited.result c.args.reader _ c.new-bytes.result.items c.read_to_end.new.buf.items c.take-limited.ensures.limit c.take-limited.ensures.inner c.new-bytes.ensures.items
    c.in_ok-read_to_end.ensures.bytes)
