-- The operator of an instruction under a map, and under none.
use Rattle.std.specs.Prelude.{ℕ, ◌≡◌, Some, Ok}
use Rattle.wasm_operators.specs.Items.{Space}
use Rattle.wasm_operators.specs.Operators.{Seen}
use Rattle.wasm_operators.specs.Names.{Renaming, renamed_operator}
use Rattle.walrus_instr.specs.declared.instr.Instr.{Instr}
use Rattle.walrus_pairing.specs.Looks.{Look}
use Rattle.walrus_pairing.specs.Write.{operator_at}
use Rattle.walrus_pairing.specs.Laws.{all}

-- each id that is found is sent to its new number
abbrev pub Sends : Renaming → Look → Type 0
Sends r look = (space : Space) (id n : ℕ) → look space id ≡ Some n → n ≡ r space id

-- it is the operator under no map, renamed
abbrev pub IsSent : Renaming → Instr → Seen → Type 0
IsSent r i op = (bare : Seen) × (operator_at all i ≡ Ok (Some bare)) × (op ≡ renamed_operator r bare)

abbrev pub OperatorsAreSent : Type 0
OperatorsAreSent = (r : Renaming) (look : Look) → Sends r look → (i : Instr) (op : Seen) → operator_at look i ≡ Ok (Some op) → IsSent r i op
