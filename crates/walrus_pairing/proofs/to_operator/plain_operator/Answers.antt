use Rattle.std.proofs.Common.{None}
use Rattle.walrus_operators.specs.wasm_operators.Items.{Functions, Globals, Locals}
use Rattle.walrus_index_maps.specs.Views.{indices}
use Rattle.walrus_pairing.specs.Looks.{number_of}
use Rattle.walrus_pairing.proofs.Reserved.{of_one, of_access, of_constant}
use Rattle.walrus_pairing.proofs.to_operator.plain_operator.Goals as goal

pub returns-in-LocalGet-clause-reserved : goal.returns-in-LocalGet-clause-reserved
returns-in-LocalGet-clause-reserved c = rw c.in-LocalGet.is (of_one (number_of (indices c.args.maps.now) c.args.function) c.byte.result Locals c.in-LocalGet.local c.local_op.result c.local_op.ensures)

pub returns-in-LocalSet-clause-reserved : goal.returns-in-LocalSet-clause-reserved
returns-in-LocalSet-clause-reserved c = rw c.in-LocalSet.is (of_one (number_of (indices c.args.maps.now) c.args.function) c.byte-in-LocalSet.result Locals c.in-LocalSet.local c.local_op-in-LocalSet.result c.local_op-in-LocalSet.ensures)

pub returns-in-LocalTee-clause-reserved : goal.returns-in-LocalTee-clause-reserved
returns-in-LocalTee-clause-reserved c = rw c.in-LocalTee.is (of_one (number_of (indices c.args.maps.now) c.args.function) c.byte-in-LocalTee.result Locals c.in-LocalTee.local c.local_op-in-LocalTee.result c.local_op-in-LocalTee.ensures)

pub returns-in-Const-clause-reserved : goal.returns-in-Const-clause-reserved
returns-in-Const-clause-reserved c = rw c.in-Const.is (of_constant c.in-Const.value c.write_constant.result c.write_constant.ensures)

pub returns-in-Unop-clause-reserved : goal.returns-in-Unop-clause-reserved
returns-in-Unop-clause-reserved c = rw c.in-Unop.is c.lane_op.ensures.reserved

pub returns-in-Binop-clause-reserved : goal.returns-in-Binop-clause-reserved
returns-in-Binop-clause-reserved c = rw c.in-Binop.is c.lane_op-in-Binop.ensures.reserved

pub returns-in-Load-clause-reserved : goal.returns-in-Load-clause-reserved
returns-in-Load-clause-reserved c = rw c.in-Load.is (of_access (number_of (indices c.args.maps.now) 0) c.code_of_load.result c.in-Load.memory c.in-Load.arg None c.access_op.result c.access_op.ensures)

pub returns-in-Store-clause-reserved : goal.returns-in-Store-clause-reserved
returns-in-Store-clause-reserved c = rw c.in-Store.is (of_access (number_of (indices c.args.maps.now) 0) c.code_of_store.result c.in-Store.memory c.in-Store.arg None c.access_op-in-Store.result c.access_op-in-Store.ensures)

pub returns-in-Call-clause-reserved : goal.returns-in-Call-clause-reserved
returns-in-Call-clause-reserved c = rw c.in-Call.is (of_one (number_of (indices c.args.maps.now) 0) c.byte-in-Call.result Functions c.in-Call.func c.function_op.result c.function_op.ensures)

pub returns-in-GlobalGet-clause-reserved : goal.returns-in-GlobalGet-clause-reserved
returns-in-GlobalGet-clause-reserved c = rw c.in-GlobalGet.is (of_one (number_of (indices c.args.maps.now) 0) c.byte-in-GlobalGet.result Globals c.in-GlobalGet.global c.global_op.result c.global_op.ensures)

pub returns-in-GlobalSet-clause-reserved : goal.returns-in-GlobalSet-clause-reserved
returns-in-GlobalSet-clause-reserved c = rw c.in-GlobalSet.is (of_one (number_of (indices c.args.maps.now) 0) c.byte-in-GlobalSet.result Globals c.in-GlobalSet.global c.global_op-in-GlobalSet.result c.global_op-in-GlobalSet.ensures)
