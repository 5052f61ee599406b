use Rattle.std.proofs.Common.{arith}
use Rattle.walrus_pairing.specs.wasm_operators.Table.{structure_rows, call_rows, plain_rows}
use Rattle.walrus_body_locals.proofs.Rows.{in_structure, in_calls, in_plain}
use Rattle.walrus_body_locals.proofs.class.class_of.Goals as goal

pub returns-in-2 : goal.returns-in-2
unfolding structure_rows
returns-in-2 c = λ e same. in_structure 2 2 c.args.byte e same (omega arith) (let h = c.in-2.is in omega (arith, h)) (let h = c.in-2.is in omega (arith, h))

pub returns-in-3 : goal.returns-in-3
unfolding structure_rows
returns-in-3 c = λ e same. in_structure 3 3 c.args.byte e same (omega arith) (let h = c.in-3.is in omega (arith, h)) (let h = c.in-3.is in omega (arith, h))

pub returns-in-4 : goal.returns-in-4
unfolding structure_rows
returns-in-4 c = λ e same. in_structure 4 4 c.args.byte e same (omega arith) (let h = c.in-4.is in omega (arith, h)) (let h = c.in-4.is in omega (arith, h))

pub returns-in-5 : goal.returns-in-5
unfolding structure_rows
returns-in-5 c = λ e same. in_structure 5 5 c.args.byte e same (omega arith) (let h = c.in-5.is in omega (arith, h)) (let h = c.in-5.is in omega (arith, h))

pub returns-in-11 : goal.returns-in-11
unfolding structure_rows
returns-in-11 c = λ e same. in_structure 11 11 c.args.byte e same (omega arith) (let h = c.in-11.is in omega (arith, h)) (let h = c.in-11.is in omega (arith, h))

pub returns-in-13 : goal.returns-in-13
unfolding structure_rows
returns-in-13 c = λ e same. in_structure 13 13 c.args.byte e same (omega arith) (let h = c.in-13.is in omega (arith, h)) (let h = c.in-13.is in omega (arith, h))

pub returns-in-16 : goal.returns-in-16
unfolding call_rows
returns-in-16 c = λ e same. in_calls 16 16 c.args.byte e same (omega arith) (omega arith) (let h = c.in-16.is in omega (arith, h)) (let h = c.in-16.is in omega (arith, h))

pub returns-in-26 : goal.returns-in-26
unfolding call_rows
returns-in-26 c = λ e same. in_calls 26 27 c.args.byte e same (omega arith) (omega arith) (omega arith) (omega arith)

pub returns-in-32-to-34 : goal.returns-in-32-to-34
unfolding call_rows
returns-in-32-to-34 c = λ e same. in_calls 32 34 c.args.byte e same (omega arith) (omega arith) (omega arith) (omega arith)

pub returns-in-35 : goal.returns-in-35
unfolding call_rows
returns-in-35 c = λ e same. in_calls 35 36 c.args.byte e same (omega arith) (omega arith) (omega arith) (omega arith)

pub returns-in-40-to-53 : goal.returns-in-40-to-53
unfolding plain_rows
returns-in-40-to-53 c = λ e same. in_plain 40 53 c.args.byte e same (omega arith) (omega arith) (omega arith) (omega arith)

pub returns-in-54-to-62 : goal.returns-in-54-to-62
unfolding plain_rows
returns-in-54-to-62 c = λ e same. in_plain 54 62 c.args.byte e same (omega arith) (omega arith) (omega arith) (omega arith)

pub returns-in-65 : goal.returns-in-65
unfolding plain_rows
returns-in-65 c = λ e same. in_plain 65 65 c.args.byte e same (omega arith) (omega arith) (let h = c.in-65.is in omega (arith, h)) (let h = c.in-65.is in omega (arith, h))

pub returns-in-66 : goal.returns-in-66
unfolding plain_rows
returns-in-66 c = λ e same. in_plain 66 66 c.args.byte e same (omega arith) (omega arith) (let h = c.in-66.is in omega (arith, h)) (let h = c.in-66.is in omega (arith, h))

pub returns-in-68 : goal.returns-in-68
unfolding plain_rows
returns-in-68 c = λ e same. in_plain 68 68 c.args.byte e same (omega arith) (omega arith) (let h = c.in-68.is in omega (arith, h)) (let h = c.in-68.is in omega (arith, h))

pub returns-in-69-to-196 : goal.returns-in-69-to-196
unfolding plain_rows
returns-in-69-to-196 c = λ e same. in_plain 69 196 c.args.byte e same (omega arith) (omega arith) (omega arith) (omega arith)
