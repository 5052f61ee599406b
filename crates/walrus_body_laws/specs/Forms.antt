-- Which instructions have one operator.
use Rattle.std.specs.Prelude.{◌≡◌, ◌⊎◌, ℕ, List, Option, Some, None, Ok}
use Rattle.walrus_instr.specs.declared.instr.Instr.{Instr}
use Rattle.walrus_instr.specs.declared.instr.Instr.TheVariants as instrs
use Rattle.walrus_instr.specs.declared.seq.InstrSeq.{InstrSeq}
use Rattle.wasm_operators.specs.declared.op_code.OpCode.{OpCode}
use Rattle.wasm_operators.specs.Operators.{Seen}
use Rattle.walrus_codes.specs.Runs.{byte, object}
use Rattle.walrus_pairing.specs.Looks.{Look}
use Rattle.walrus_pairing.specs.InstrLaws.{IsPlain, Undoes}
use Rattle.walrus_body_names.specs.walrus_body_writer.Spelled.{written_instr}

-- the code of an instruction that holds a label or the type of a block, which is another one for each form; none of all others
abbrev pub control_code : Instr → Option OpCode
control_code (instrs.Block _) = Some (byte 0x02)
control_code (instrs.Loop _) = Some (byte 0x03)
control_code (instrs.IfElse _ _) = Some (byte 0x04)
control_code (instrs.Try _ _) = Some (byte 0x06)
control_code (instrs.Rethrow _) = Some (byte 0x09)
control_code (instrs.Br _) = Some (byte 0x0c)
control_code (instrs.BrIf _) = Some (byte 0x0d)
control_code (instrs.BrTable _ _) = Some (byte 0x0e)
control_code (instrs.TryTable _ _) = Some (byte 0x1f)
control_code (instrs.BrOnNull _) = Some (byte 0xd5)
control_code (instrs.BrOnNonNull _) = Some (byte 0xd6)
control_code (instrs.BrOnCast _ _ _) = Some (object 24)
control_code (instrs.BrOnCastFail _ _ _) = Some (object 25)
control_code _ = None

-- instructions that have one operator are one and the same, which holds neither label nor type of a block, or both hold such and have its code, and so one form
abbrev pub ControlIsTold : Type 0
ControlIsTold = (look back : Look) → Undoes look back → (b : List InstrSeq) (number : ℕ → ℕ) (i j : Instr) (op : Seen) → IsPlain i → IsPlain j
    → written_instr look b number i ≡ Ok (Some op) → written_instr look b number j ≡ Ok (Some op)
    → ((control_code i ≡ None) × (i ≡ j)) ⊎ ((control_code i ≡ Some op.code) × (control_code j ≡ Some op.code))
