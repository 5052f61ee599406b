-- What the rarer operators name, alone and in pairs.
use Rattle.std.specs.Prelude.{ℕ, [], ◌∷◌, Option, Ok, if◌then◌else◌}
use Rattle.std.specs.Option.{ok_or}
use Rattle.walrus_operators.specs.wasm_operators.Items as items
use Rattle.walrus_operators.specs.wasm_operators.Operators.{Seen}
use Rattle.walrus_operators.specs.declared.immediates.Immediates.{Immediates}
use Rattle.walrus_operators.specs.declared.immediates.Immediates.TheVariants as imm
use Rattle.walrus_codes.specs.wasm_operators.declared.op_code.OpCode.{OpCode}
use Rattle.walrus_codes.specs.walrus_instr.declared.instr.Instr.{Instr}
use Rattle.walrus_codes.specs.walrus_instr.declared.instr.Instr.TheVariants as instrs
use Rattle.walrus_codes.specs.Runs.{byte, object, bulk, atomic}
use Rattle.walrus_codes.specs.Access.{load_code, store_code, rmw_code, cmpxchg_code}
use Rattle.walrus_pairing.specs.declared.error.PairError.TheVariants as errors
use Rattle.walrus_pairing.specs.Looks.{Look, Or, ◌>>=◌, found, word}
use Rattle.walrus_pairing.specs.Write.{op}
use Rattle.walrus_pairing.specs.Read.{name_at, names_at}
use Rattle.walrus_pairing.specs.declared.spaces.Target.{Target}
use Rattle.walrus_pairing.specs.declared.spaces.Target.TheVariants as targets
use Rattle.walrus_pairing.specs.declared.spaces.Pair.{Pair}
use Rattle.walrus_pairing.specs.declared.spaces.Pair.TheVariants as pairs

abbrev pub space : Target → items.Space
space targets.«Type» = items.Types
space targets.Table = items.Tables
space targets.Memory = items.Memories
space targets.Tag = items.Tags
space targets.Element = items.ElementSegments
space targets.Data = items.DataSegments

abbrev pub first_of : Pair → Target
first_of pairs.TypeTable = targets.«Type»
first_of pairs.DataMemory = targets.Data
first_of pairs.MemoryMemory = targets.Memory
first_of pairs.ElementTable = targets.Element
first_of pairs.TableTable = targets.Table
first_of pairs.TypeData = targets.«Type»
first_of pairs.TypeElement = targets.«Type»
first_of pairs.TypeType = targets.«Type»

abbrev pub second_of : Pair → Target
second_of pairs.TypeTable = targets.Table
second_of pairs.DataMemory = targets.Memory
second_of pairs.MemoryMemory = targets.Memory
second_of pairs.ElementTable = targets.Table
second_of pairs.TableTable = targets.Table
second_of pairs.TypeData = targets.Data
second_of pairs.TypeElement = targets.Element
second_of pairs.TypeType = targets.«Type»

-- what immediates of one name name
abbrev pub target_of : Immediates → Target
target_of (imm.Tag n) = targets.Tag
target_of (imm.Table n) = targets.Table
target_of (imm.Memory n) = targets.Memory
target_of (imm.Data n) = targets.Data
target_of (imm.Element n) = targets.Element
target_of _ = targets.«Type»

-- what immediates of two names name
abbrev pub pair_of : Immediates → Pair
pair_of (imm.TypeTable m n) = pairs.TypeTable
pair_of (imm.DataMemory m n) = pairs.DataMemory
pair_of (imm.MemoryMemory m n) = pairs.MemoryMemory
pair_of (imm.ElementTable m n) = pairs.ElementTable
pair_of (imm.TableTable m n) = pairs.TableTable
pair_of (imm.TypeData m n) = pairs.TypeData
pair_of (imm.TypeElement m n) = pairs.TypeElement
pair_of _ = pairs.TypeType

-- what is read of a name, and of two
abbrev pub name_read : Look → OpCode → items.Space → ℕ → Or (Option Instr)
name_read look code space n = found look space n >>= λ id. Ok (name_at code space id)

abbrev pub pair_read : Look → OpCode → items.Space → ℕ → items.Space → ℕ → Or (Option Instr)
pair_read look code first m second n = found look first m >>= λ a. found look second n >>= λ b. Ok (names_at code first a second b)

-- what is written with the number of one name, or of two, where they have some
abbrev pub with_found : OpCode → items.Space → Option ℕ → Or (Option Seen)
with_found code space number = ok_or number (errors.Unknown (word space)) >>= λ n. op code (items.Names space n ∷ [])

abbrev pub with_both : OpCode → items.Space → Option ℕ → items.Space → Option ℕ → Or (Option Seen)
with_both code first m second n =
    ok_or m (errors.Unknown (word first)) >>= λ a. ok_or n (errors.Unknown (word second)) >>= λ b. op code (items.Names first a ∷ items.Names second b ∷ [])

-- the code of an instruction that names something, where others name as much
abbrev pub named_code : Instr → OpCode
named_code (instrs.Call func) = byte 0x10
named_code (instrs.CallIndirect ty table) = byte 0x11
named_code (instrs.ReturnCall func) = byte 0x12
named_code (instrs.ReturnCallIndirect ty table) = byte 0x13
named_code (instrs.CallRef ty) = byte 0x14
named_code (instrs.ReturnCallRef ty) = byte 0x15
named_code (instrs.LocalGet local) = byte 0x20
named_code (instrs.LocalSet local) = byte 0x21
named_code (instrs.LocalTee local) = byte 0x22
named_code (instrs.GlobalGet global) = byte 0x23
named_code (instrs.GlobalSet global) = byte 0x24
named_code (instrs.TableGet table) = byte 0x25
named_code (instrs.TableSet table) = byte 0x26
named_code (instrs.RefFunc func) = byte 0xd2
named_code (instrs.TableGrow table) = bulk 15
named_code (instrs.TableSize table) = bulk 16
named_code (instrs.TableFill table) = bulk 17
named_code (instrs.MemorySize memory) = byte 0x3f
named_code (instrs.MemoryGrow memory) = byte 0x40
named_code (instrs.MemoryFill memory) = bulk 11
named_code (instrs.Load memory kind arg) = load_code kind
named_code (instrs.Store memory kind arg) = store_code kind
named_code (instrs.AtomicNotify memory arg) = atomic 0
named_code (instrs.AtomicWait memory arg sixty_four) = atomic (if sixty_four then 2 else 1)
named_code (instrs.AtomicRmw memory change width arg) = rmw_code change width
named_code (instrs.Cmpxchg memory width arg) = cmpxchg_code width
named_code (instrs.StructNew ty) = object 0
named_code (instrs.StructNewDefault ty) = object 1
named_code (instrs.StructGet ty field) = object 2
named_code (instrs.StructGetS ty field) = object 3
named_code (instrs.StructGetU ty field) = object 4
named_code (instrs.StructSet ty field) = object 5
named_code (instrs.ArrayNew ty) = object 6
named_code (instrs.ArrayNewDefault ty) = object 7
named_code (instrs.ArrayNewFixed ty size) = object 8
named_code (instrs.ArrayNewData ty segment) = object 9
named_code (instrs.ArrayNewElem ty elem) = object 10
named_code (instrs.ArrayGet ty) = object 11
named_code (instrs.ArrayGetS ty) = object 12
named_code (instrs.ArrayGetU ty) = object 13
named_code (instrs.ArraySet ty) = object 14
named_code (instrs.ArrayFill ty) = object 16
named_code (instrs.ArrayInitData ty segment) = object 18
named_code (instrs.ArrayInitElem ty elem) = object 19
named_code _ = byte 0
