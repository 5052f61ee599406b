use Rattle.walrus_pairing.proofs.Reserved.{of_constant}
use Rattle.walrus_pairing.proofs.families.write_numeric.Goals as goal

pub returns-in-Const-clause-value : goal.returns-in-Const-clause-value
returns-in-Const-clause-value c = rw c.in-Const.is c.write_constant.ensures

pub returns-in-Const-clause-reserved : goal.returns-in-Const-clause-reserved
returns-in-Const-clause-reserved c = rw c.in-Const.is (of_constant c.in-Const.value c.write_constant.result c.write_constant.ensures)

pub returns-in-Unop-clause-value : goal.returns-in-Unop-clause-value
returns-in-Unop-clause-value c = rw c.in-Unop.is (rw c.lane_of_unary.ensures at (rw c.code_of_unary.ensures at c.lane_op.ensures.value))

pub returns-in-Unop-clause-reserved : goal.returns-in-Unop-clause-reserved
returns-in-Unop-clause-reserved c = rw c.in-Unop.is c.lane_op.ensures.reserved

pub returns-in-Binop-clause-value : goal.returns-in-Binop-clause-value
returns-in-Binop-clause-value c = rw c.in-Binop.is (rw c.lane_of_binary.ensures at (rw c.code_of_binary.ensures at c.lane_op-in-Binop.ensures.value))

pub returns-in-Binop-clause-reserved : goal.returns-in-Binop-clause-reserved
returns-in-Binop-clause-reserved c = rw c.in-Binop.is c.lane_op-in-Binop.ensures.reserved
