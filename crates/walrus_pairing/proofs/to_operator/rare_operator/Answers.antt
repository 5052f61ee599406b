use Rattle.std.proofs.Common.{Ok, Some, sym, ◌∙◌}
use Rattle.walrus_index_maps.specs.Views.{indices}
use Rattle.walrus_pairing.specs.Looks.{number_of}
use Rattle.walrus_pairing.specs.Write.{variable, memory_op, object_op}
use Rattle.walrus_pairing.proofs.Reserved.{has_none, in_variable, in_memory, in_object, of_bare}
use Rattle.walrus_pairing.proofs.to_operator.rare_operator.Goals as goal

pub returns-in-Some-clause-reserved : goal.returns-in-Some-clause-reserved
returns-in-Some-clause-reserved c =
    rw c.op.ensures (of_bare c.args.instr.now c.in-Some.code (sym c.in-Some.is ∙ c.bare_code_of.ensures))

pub returns-in-Some-3-clause-reserved : goal.returns-in-Some-3-clause-reserved
returns-in-Some-3-clause-reserved c =
    let look = number_of (indices c.args.maps.now) c.args.function in
    has_none (Ok (Some c.in-Some-3.op)) (variable look c.args.instr.now) (rw c.in-Some-3.is at c.in_ok-op-2.ensures) (in_variable look c.args.instr.now)
    ∙ (rw c.in_default-2.is at c.in_ok-op.ensures.reserved)

pub returns-in-Some-4-clause-reserved : goal.returns-in-Some-4-clause-reserved
returns-in-Some-4-clause-reserved c =
    let look = number_of (indices c.args.maps.now) 0 in
    has_none (Ok (Some c.in-Some-4.op)) (memory_op look c.args.instr.now) (rw c.in-Some-4.is at c.in_ok-op-3.ensures) (in_memory look c.args.instr.now)
    ∙ (rw c.in_default-2.is at c.in_ok-op.ensures.reserved)

pub returns-clause-reserved : goal.returns-clause-reserved
returns-clause-reserved c =
    let look = number_of (indices c.args.maps.now) 0 in
    has_none c.write_object.result (object_op look c.args.instr.now) c.write_object.ensures (in_object look c.args.instr.now)
    ∙ (rw c.in_default-2.is at c.in_ok-op.ensures.reserved)
