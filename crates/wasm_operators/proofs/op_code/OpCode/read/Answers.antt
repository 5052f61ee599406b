use Rattle.wasm_operators.proofs.op_code.OpCode.read.Goals as goal

pub returns-in-None-clause-kind : goal.returns-in-None-clause-kind
returns-in-None-clause-kind c = (cc, c.original_position-offset.ensures.place)
