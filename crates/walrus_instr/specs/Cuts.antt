-- Where flow never goes on (Core Specification, control instructions: those typed stack-polymorphic).
use Rattle.std.specs.Prelude.{Bool, true, false}
use Rattle.walrus_instr.specs.declared.instr.Instr.{Instr}
use Rattle.walrus_instr.specs.declared.instr.Instr.TheVariants.{Unreachable, Br, BrTable, Return, Throw, ThrowRef, Rethrow}

-- a sequence's normal form ends with its first such instruction; tail calls cut nothing
abbrev pub cuts : Instr → Bool
cuts Unreachable = true
cuts (Br _) = true
cuts (BrTable _ _) = true
cuts Return = true
cuts (Throw _) = true
cuts ThrowRef = true
cuts (Rethrow _) = true
cuts _ = false
