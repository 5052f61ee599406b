use Rattle.std.proofs.Common.{◌++◌, take, arith, length-append}
use Rattle.std.proofs.lemmas.List.{length-take}
use Rattle.std.proofs.KnownBytes.{Consumes-trans}
use Rattle.rewriter_devices.proofs.input.read_all.Goals as goal

pub returns-then-is_err-clause-so_far : goal.returns-then-is_err-clause-so_far
returns-then-is_err-clause-so_far g c =
    let given = take c.in-Ok.count c.read.new.buf in (
      c.loop-buffer.bytes.items ++ given,
      omega (arith, length-append c.loop-buffer.bytes.items given, length-take c.min-room.result c.loop-buffer.buffer, c.in-Ok.ensures.bound.0, c.in-Ok.ensures.bound.1),
      Consumes-trans _ _ _ _ _ c.loop-buffer.invariant.read c.in-Ok.ensures.bytes.0,
    )
