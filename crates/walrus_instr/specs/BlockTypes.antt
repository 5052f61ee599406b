-- The block type of parameters and results.
use Rattle.std.specs.Prelude.{◌≡◌, ℕ, List, [], ◌∷◌, Option, Some, None, MatchOption}
use Rattle.std.specs.Option.{option_map, option_or}
use Rattle.walrus_types.specs.walrus_forms.declared.value.ValType.{ValType}
use Rattle.walrus_types.specs.walrus_forms.Kinds.{function_kind}
use Rattle.walrus_types.specs.Table.{Table, Merges, found_type}
use Rattle.walrus_instr.specs.declared.seq.InstrSeqType.{InstrSeqType}
use Rattle.walrus_instr.specs.declared.seq.InstrSeqType.TheVariants.{Simple, MultiValue}

-- the short form, which no parameters and at most one result have (Core Specification, block types)
abbrev pub short_form : List ValType → List ValType → Option InstrSeqType
short_form [] [] = Some (Simple None)
short_form [] (ty ∷ []) = Some (Simple (Some ty))
short_form _ _ = None

-- the short form, or else that of the latest final function type without supertype of just these lists
abbrev pub picked : List ValType → List ValType → Table → Option InstrSeqType
picked params results t = option_or (short_form params results) (option_map MultiValue (found_type params results t))

-- the short form, which leaves the table, or else that of the type that stands for a new one of these lists
abbrev pub Makes : List ValType → List ValType → InstrSeqType → Table → Table → Type 0
Makes params results ty old new =
    MatchOption (short_form params results) ((id : ℕ) × (ty ≡ MultiValue id) × Merges (function_kind params results) id old new) (λ short. (ty ≡ short) × (new ≡ old))
