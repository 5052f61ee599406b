use Rattle.std.proofs.Common.{sym}
use Rattle.walrus_body_locals.proofs.NamedTypes.{type_read, type_refused}
use Rattle.walrus_body_locals.proofs.value_types.read_type.Goals as goal

pub returns-in-Ok : goal.returns-in-Ok
returns-in-Ok c =
    type_read c.args.indices.now.types.items c.args.reader.now c.from_reader.new.reader c.in_ok-ty.ty c.in-Ok.own c.in_ok-ty.ensures.value (sym c.in-Ok.ensures) c.in_ok-ty.ensures.moves

pub returns-in-Err : goal.returns-in-Err
returns-in-Err c =
    type_refused c.args.indices.now.types.items c.args.reader.now c.from_reader.new.reader c.in_ok-ty.ty c.in-Err.error c.original_position-offset.result c.type_fault.result
    c.in_ok-ty.ensures.value (sym c.in-Err.ensures) c.type_fault.ensures c.original_position-offset.ensures.left c.in_ok-ty.ensures.moves
