-- Pairing there and back.
use Rattle.std.specs.Prelude.{ℕ, ◌≡◌, ◌<◌, ◌^◌, true, Some, Ok}
use Rattle.wasm_operators.specs.Items.{Space}
use Rattle.wasm_operators.specs.Operators.{Seen}
use Rattle.walrus_instr.specs.declared.memory.MemArg.{MemArg}
use Rattle.walrus_instr.specs.declared.instr.Instr.{Instr}
use Rattle.walrus_instr.specs.declared.instr.Instr.TheVariants as instrs
use Rattle.walrus_instr.specs.declared.instr.Value.TheVariants as constants
use Rattle.walrus_pairing.specs.Looks.{Look}
use Rattle.walrus_pairing.specs.Write.{log_of, operator_at}
use Rattle.walrus_pairing.specs.Read.{instr_at}

-- one look-up undoes the other
abbrev pub Undoes : Look → Look → Type 0
Undoes there back = (space : Space) (m n : ℕ) → there space m ≡ Some n → back space n ≡ Some m

-- its alignment is a power of two, as far as 2^31
abbrev pub IsAligned : MemArg → Type 0
IsAligned arg = (2 ^ log_of arg.align ≡ arg.align) × (log_of arg.align < 32)

-- what a file can say of it: alignments are powers of two, the type of `ref.null` is nullable, vector constants have 128 bits
abbrev pub IsPlain : Instr → Type 0
IsPlain (instrs.Load memory kind arg) = IsAligned arg
IsPlain (instrs.Store memory kind arg) = IsAligned arg
IsPlain (instrs.LoadSimd memory kind arg) = IsAligned arg
IsPlain (instrs.AtomicNotify memory arg) = IsAligned arg
IsPlain (instrs.AtomicWait memory arg sixty_four) = IsAligned arg
IsPlain (instrs.AtomicRmw memory change width arg) = IsAligned arg
IsPlain (instrs.Cmpxchg memory width arg) = IsAligned arg
IsPlain (instrs.RefNull ty) = ty.nullable ≡ true
IsPlain (instrs.Const (constants.V128 bits)) = bits < 2 ^ 128
IsPlain _ = Unit {0}

-- an instruction that is paired with an operator is the one that this is paired with
abbrev pub InstrComesBack : Type 0
InstrComesBack = (there back : Look) → Undoes there back → (i : Instr) (op : Seen) → IsPlain i → operator_at there i ≡ Ok (Some op) → instr_at back op ≡ Ok (Some i)

-- instructions that differ have different operators
abbrev pub FormsAreTold : Type 0
FormsAreTold = (i j : Instr) (op : Seen) → IsPlain i → IsPlain j → operator_at (λ _ n. Some n) i ≡ Ok (Some op) → operator_at (λ _ n. Some n) j ≡ Ok (Some op) → i ≡ j
