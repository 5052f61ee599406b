use Rattle.std.proofs.Common.{length}
use Rattle.std.proofs.lemmas.Result.{err_from_is_err_and}
use Rattle.wasm_operators.specs.Bytes.{unsigned_bytes}
use Rattle.walrus_operators.proofs.Keeps.{keeps_on}
use Rattle.walrus_operators.proofs.Appends.{list_begins, list_goes_on, list_ends}
use Rattle.walrus_operators.proofs.write.write_labels.Goals as goal

pub returns-in_err-write_unsigned : goal.returns-in_err-write_unsigned
returns-in_err-write_unsigned c =
    let p = err_from_is_err_and c.from_residual.result c.from_residual.ensures.1 in
    rw p.1 c.in_err-write_unsigned.ensures

pub loop-label-init : goal.loop-label-init
loop-label-init c = list_begins c.args.out.now.items c.write_unsigned.new.out.items (unsigned_bytes (length c.args.labels.now)) c.in_ok-write_unsigned.ensures

pub returns-in_err-write_index : goal.returns-in_err-write_index
returns-in_err-write_index c =
    let p = err_from_is_err_and c.from_residual-in_err-write_index.result c.from_residual-in_err-write_index.ensures.1 in
    rw p.1 (keeps_on c.args.out.now.items c.loop-label.out.items c.write_index.new.out.items _ c.loop-label.invariant c.in_err-write_index.ensures)

pub loop-label-preserved : goal.loop-label-preserved
loop-label-preserved c =
    list_goes_on unsigned_bytes c.args.out.now.items c.loop-label.out.items c.write_index.new.out.items (unsigned_bytes (length c.args.labels.now)) c.args.labels.now c.loop-label.label-index _
    c.loop-label-test.true c.loop-label.invariant c.in_ok-write_index.ensures

pub returns : goal.returns
returns c =
    list_ends unsigned_bytes c.args.out.now.items c.loop-label.out.items (unsigned_bytes (length c.args.labels.now)) c.args.labels.now c.loop-label.label-index c.loop-label-test.false c.loop-label.invariant
