-- Plain instructions: those that hold no sequences and name no labels.
use Rattle.std.specs.Prelude.{◌≡◌, Bool, true, false, Some, Ok}
use Rattle.walrus_walks.specs.walrus_instr.declared.instr.Instr.{Instr}
use Rattle.walrus_walks.specs.walrus_instr.declared.instr.Instr.TheVariants as instrs
use Rattle.walrus_meaning.specs.Words.{itself, plain_seen}
use Rattle.walrus_meaning.specs.walrus_body_writer.walrus_pairing.Write.{operator_at}
use Rattle.walrus_meaning.specs.Told.{SameNames}

abbrev pub is_plain : Instr → Bool
is_plain (instrs.Block _) = false
is_plain (instrs.Loop _) = false
is_plain (instrs.IfElse _ _) = false
is_plain (instrs.Try _ _) = false
is_plain (instrs.TryTable _ _) = false
is_plain (instrs.Br _) = false
is_plain (instrs.BrIf _) = false
is_plain (instrs.BrTable _ _) = false
is_plain (instrs.BrOnNull _) = false
is_plain (instrs.BrOnNonNull _) = false
is_plain (instrs.BrOnCast _ _ _) = false
is_plain (instrs.BrOnCastFail _ _ _) = false
is_plain (instrs.Rethrow _) = false
is_plain _ = true

-- each has an operator of its own
abbrev pub PlainHaveOperators : Type 0
PlainHaveOperators = (i : Instr) → is_plain i ≡ true → operator_at itself i ≡ Ok (Some (plain_seen i))

-- what it names is what that operator names
abbrev pub PlainNameWhatIsTold : Type 0
PlainNameWhatIsTold = (i : Instr) → is_plain i ≡ true → SameNames i (plain_seen i)
