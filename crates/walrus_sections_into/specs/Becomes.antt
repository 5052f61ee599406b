-- What was read of a file, and what it becomes in a module: the same, but that a name is the id of what its number names.
use Rattle.std.specs.Prelude.{◌≡◌, List, [], ◌∷◌, map, Some, refl}
use Rattle.std.specs.Option.{unwrap_or}
use Rattle.std.specs.List.{AllByRecursion, AllZip}
use Rattle.std.proofs.Common.{ap, ◌∙◌}
use Rattle.wasm_features.specs.declared.WasmFeatures.{WasmFeatures}
use Rattle.wasm_operators.specs.Operators.{Seen}
use Rattle.wasm_operators.specs.Names.{Renaming, renamed_operator}
use Rattle.wasm_operators.specs.Ranges.{OperatorFits}
use Rattle.walrus_operators.specs.declared.operator.Operator.{Operator}
use Rattle.walrus_operators.specs.Operators.{seen}
use Rattle.walrus_instr.specs.declared.const_expr.ConstOp.{ConstOp}
use Rattle.walrus_index_maps.specs.Maps.{Ids}
use Rattle.walrus_pairing.specs.Looks.{Look, id_of}
use Rattle.walrus_collections.specs.walrus_module_items.Words.{const_seen}
use Rattle.walrus_sections_into.specs.Consts.{const_at}

-- the id that a number names
abbrev pub look_of : Ids → Look
look_of ids = id_of ids 0

-- each number that names something becomes its id
abbrev pub renames_by : Look → Renaming
renames_by look space n = unwrap_or (look space n) n

-- what it is in a constant expression; if it has a spelling it is the same, renamed
abbrev pub OpBecomes : Look → Operator → ConstOp → Type 0
OpBecomes look op c = (const_at look op ≡ Some c) × ((features : WasmFeatures) → OperatorFits features (seen op) → const_seen c ≡ renamed_operator (renames_by look) (seen op))

-- as many operators, each the same, renamed
abbrev pub OpsBecome : Look → List Operator → List ConstOp → Type 0
OpsBecome look = AllZip (OpBecomes look)

-- ---- Lemmas

-- an expression whose operators have spellings means what was read, renamed
pub ops_mean : (look : Look) (features : WasmFeatures) (ops : List Operator) (cs : List ConstOp) → AllByRecursion (OperatorFits features) (map seen ops) → OpsBecome look ops cs
    → map const_seen cs ≡ map (renamed_operator (renames_by look)) (map seen ops)
ops_mean look features [] [] fits h = refl
ops_mean look features [] (c ∷ cs) fits h = absurd h
ops_mean look features (op ∷ ops) [] fits h = absurd h
ops_mean look features (op ∷ ops) (c ∷ cs) fits h =
    ap (λ (s : Seen). s ∷ map const_seen cs) (h.0.1 features fits.0)
    ∙ ap (λ (l : List Seen). renamed_operator (renames_by look) (seen op) ∷ l) (ops_mean look features ops cs fits.1 h.1)
