-- Operators as instructions: which have one, and what comes back of it.
use Rattle.std.specs.Prelude.{ℕ, ◌≡◌, ◌≢◌, true, Some, None, Ok}
use Rattle.wasm_operators.specs.wasm_features.declared.WasmFeatures.{WasmFeatures}
use Rattle.wasm_operators.specs.Items.{Space}
use Rattle.wasm_operators.specs.declared.entry.Entry.{Entry}
use Rattle.wasm_operators.specs.Table.{find_code}
use Rattle.wasm_operators.specs.Operators.{Seen}
use Rattle.wasm_operators.specs.Names.{Renaming, renamed_operator}
use Rattle.wasm_operators.specs.Ranges.{OperatorFits}
use Rattle.walrus_instr.specs.declared.instr.Instr.{Instr}
use Rattle.walrus_operators.specs.declared.operator.Operator.{Operator}
use Rattle.walrus_operators.specs.Immediates.{kind_is}
use Rattle.walrus_operators.specs.Operators.{seen}
use Rattle.walrus_pairing.specs.Looks.{Look}
use Rattle.walrus_pairing.specs.Write.{operator_at}
use Rattle.walrus_pairing.specs.Read.{instr_at}
use Rattle.walrus_pairing.specs.Plain.{is_plain, IsPlainOperator, AreHeld}

-- the id of a number is written as that number renamed
abbrev pub Renames : Renaming → Look → Look → Type 0
Renames rename there back = (space : Space) (n id : ℕ) → there space n ≡ Some id → back space id ≡ Some (rename space n)

-- an operator that has a spelling comes back from its instruction, renamed
abbrev pub OperatorComesBack : Type 0
OperatorComesBack =
    (rename : Renaming) (there back : Look) → Renames rename there back → (features : WasmFeatures) (op : Seen) (i : Instr) → OperatorFits features op
    → instr_at there op ≡ Ok (Some i) → operator_at back i ≡ Ok (Some (renamed_operator rename op))

-- each number is its own id
abbrev pub all : Look
all space n = Some n

-- operators that have spellings and differ have different instructions
abbrev pub OperatorsAreTold : Type 0
OperatorsAreTold =
    (features : WasmFeatures) (op other : Seen) (i : Instr) → OperatorFits features op → OperatorFits features other
    → instr_at all op ≡ Ok (Some i) → instr_at all other ≡ Ok (Some i) → op ≡ other

-- a plain operator that has a spelling has an instruction, where that can hold its immediates
abbrev pub PlainIsRead : Type 0
PlainIsRead =
    (look : Look) (features : WasmFeatures) (op : Seen) → OperatorFits features op → IsPlainOperator op → AreHeld look op.items
    → (i : Instr) × (instr_at look op ≡ Ok (Some i))

-- a plain operator, with immediates of its code's kind, has an instruction or is refused
abbrev pub PlainIsAnswered : Type 0
PlainIsAnswered =
    (look : Look) (op : Operator) (e : Entry) → find_code op.code.prefix op.code.number ≡ Some e → is_plain e ≡ true → e.kind ≡ kind_is op.immediates
    → instr_at look (seen op) ≢ Ok None
