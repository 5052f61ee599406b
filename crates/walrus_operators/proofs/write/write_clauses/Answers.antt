use Rattle.std.proofs.Common.{length}
use Rattle.std.proofs.lemmas.Result.{err_from_is_err_and}
use Rattle.wasm_operators.specs.Bytes.{clause_bytes, unsigned_bytes}
use Rattle.walrus_operators.proofs.Keeps.{keeps_on}
use Rattle.walrus_operators.proofs.Appends.{list_begins, list_goes_on, list_ends}
use Rattle.walrus_operators.proofs.write.write_clauses.Goals as goal

pub returns-in_err-write_unsigned : goal.returns-in_err-write_unsigned
returns-in_err-write_unsigned c =
    let p = err_from_is_err_and c.from_residual.result c.from_residual.ensures.1 in
    rw p.1 c.in_err-write_unsigned.ensures

pub loop-clause-init : goal.loop-clause-init
loop-clause-init c = list_begins c.args.out.now.items c.write_unsigned.new.out.items (unsigned_bytes (length c.args.clauses.now)) c.in_ok-write_unsigned.ensures

pub returns-in_err-write_clause : goal.returns-in_err-write_clause
returns-in_err-write_clause c =
    let p = err_from_is_err_and c.from_residual-in_err-write_clause.result c.from_residual-in_err-write_clause.ensures.1 in
    rw p.1 (keeps_on c.args.out.now.items c.loop-clause.out.items c.write_clause.new.out.items _ c.loop-clause.invariant c.in_err-write_clause.ensures)

pub loop-clause-preserved : goal.loop-clause-preserved
loop-clause-preserved c =
    list_goes_on clause_bytes c.args.out.now.items c.loop-clause.out.items c.write_clause.new.out.items (unsigned_bytes (length c.args.clauses.now)) c.args.clauses.now c.loop-clause.clause-index _
    c.loop-clause-test.true c.loop-clause.invariant c.in_ok-write_clause.ensures

pub returns : goal.returns
returns c =
    list_ends clause_bytes c.args.out.now.items c.loop-clause.out.items (unsigned_bytes (length c.args.clauses.now)) c.args.clauses.now c.loop-clause.clause-index c.loop-clause-test.false c.loop-clause.invariant
