-- What is written behind the bytes, with no operator between.
use Rattle.std.specs.Prelude.{ℕ, ◌≡◌, Bool, true, false, List, [], ◌∷◌, ◌++◌, Option, Some, Result, Ok, Err}
use Rattle.std.specs.Option.{ok_or}
use Rattle.std.specs.declared.alloc.Global.{Global}
use Rattle.std.specs.declared.vec.Vec.{Vec}
use Rattle.wasm_operators.specs.Items.{Space, Names}
use Rattle.wasm_operators.specs.declared.op_code.OpCode.{OpCode}
use Rattle.wasm_operators.specs.Operators.{Seen}
use Rattle.walrus_operators.specs.Appended.{Keeps}
use Rattle.walrus_operators.specs.wasm_operators.Bytes.{operator_bytes}
use Rattle.walrus_pairing.specs.Looks.{Or, ◌>>=◌, word}
use Rattle.walrus_pairing.specs.Write.{op}
use Rattle.walrus_pairing.specs.declared.error.PairError.{PairError}
use Rattle.walrus_pairing.specs.declared.error.PairError.TheVariants.{Unknown}
use Rattle.walrus_body_writer.specs.Refusals.{Gives}

-- an operator with a name, by the number that was found for it
abbrev pub named : OpCode → Space → Option ℕ → Or (Option Seen)
named code space n = ok_or n (Unknown (word space)) >>= λ k. op code (Names space k ∷ [])

-- the operator of an answer was put behind what was there
abbrev pub IsBehind : Or (Option Seen) → List ℕ → List ℕ → Type 0
IsBehind (Ok (Some op)) old new = new ≡ old ++ operator_bytes op
IsBehind _ old new = ⊥

-- so it was, or all is as it was; or it is refused, and what was there stands at the front
abbrev pub IsAppended : Type 0 → Or (Option Seen) → Vec ℕ Global → Vec ℕ Global → Result Bool PairError → Type 0
IsAppended large a old new (Ok true) = IsBehind a old.items new.items
IsAppended large a old new (Ok false) = new ≡ old
IsAppended large a old new (Err e) = Gives large a (Err e) × Keeps old.items new.items
