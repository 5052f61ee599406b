use Rattle.std.proofs.Common.{Option, Ok, ap}
use Rattle.walrus_codes.specs.walrus_instr.declared.instr.Instr.{Instr}
use Rattle.walrus_pairing.proofs.to_instr.rare_instr.Goals as goal

pub returns-in-Bare : goal.returns-in-Bare
returns-in-Bare c = rw c.in-Bare.is (ap (λ (i : Option Instr). Ok i) c.no_immediates_instr.ensures)

pub returns-in-Function : goal.returns-in-Function
returns-in-Function c = rw c.in-Function.is c.read_function.ensures

pub returns-in-Local : goal.returns-in-Local
returns-in-Local c = rw c.in-Local.is c.read_local.ensures

pub returns-in-Global : goal.returns-in-Global
returns-in-Global c = rw c.in-Global.is c.read_global.ensures

pub returns-in-Access : goal.returns-in-Access
returns-in-Access c = rw c.in-Access.is c.read_access.ensures

pub returns-in-F32 : goal.returns-in-F32
returns-in-F32 c = rw c.in-F32.is (ap (λ (i : Option Instr). Ok i) c.f32_instr.ensures)

pub returns-in-F64 : goal.returns-in-F64
returns-in-F64 c = rw c.in-F64.is (ap (λ (i : Option Instr). Ok i) c.f64_instr.ensures)

pub returns-in-Heap : goal.returns-in-Heap
returns-in-Heap c = rw c.in-Heap.is c.read_reference.ensures

pub returns-in-TypeNumber : goal.returns-in-TypeNumber
returns-in-TypeNumber c = rw c.in-TypeNumber.is c.read_counted.ensures

pub returns-in-Vector : goal.returns-in-Vector
returns-in-Vector c = rw c.in-Vector.is (ap (λ (i : Option Instr). Ok i) c.run_instr.ensures)

pub returns-in-Lane : goal.returns-in-Lane
returns-in-Lane c = rw c.in-Lane.is (ap (λ (i : Option Instr). Ok i) c.byte_instr.ensures)

pub returns-in-AccessLane : goal.returns-in-AccessLane
returns-in-AccessLane c = rw c.in-AccessLane.is c.read_lane_access.ensures

pub returns-in-Zero : goal.returns-in-Zero
returns-in-Zero c = rw c.in-Zero.is (ap (λ (i : Option Instr). Ok i) c.byte_instr-in-Zero.ensures)
