-- What types of a file stand for, and which of them block types pick.
use Rattle.std.specs.Prelude.{ℕ, ◌≡◌, false, true, List, [], ◌∷◌, length, map, Option, Some}
use Rattle.std.specs.List.{range_with_len}
use Rattle.walrus_forms.specs.declared.value.ValType.{ValType}
use Rattle.walrus_forms.specs.declared.value.ValType.TheVariants.{I32, Ref}
use Rattle.walrus_forms.specs.Kinds.{Kind, function_kind}
use Rattle.walrus_forms.specs.Records.{TypeGroup}
use Rattle.wasm_operators.specs.declared.block_type.BlockType.{BlockType}
use Rattle.wasm_operators.specs.declared.block_type.BlockType.TheVariants as blocks
use Rattle.wasm_grammar.specs.Modules.{Module, empty}
use Rattle.wasm_body_grammar.specs.Rules.{Around, pick}
use Rattle.wasm_modules.specs.Modules.{same_of}
use Rattle.wasm_module_rows.specs.Files.{usual}
use Rattle.wasm_module_rows.specs.Read.{alone, reference}

-- groups of types, what each type stands for, parameters without results, and the pick for them
pub record Row : Type 0 where
  pub groups : List TypeGroup
  pub same : List ℕ
  pub params : List ValType
  pub picks : ℕ

abbrev pub written : List Kind → TypeGroup
written kinds = record { marked = true; kinds = kinds }

-- of two parameters, and of a reference to the values of the second type
abbrev pub plain : Kind
plain = function_kind (I32 ∷ I32 ∷ []) []

abbrev pub second : ValType
second = Ref (reference true 1)

abbrev pub taking : Kind
taking = function_kind (second ∷ []) []

-- two equal types; one of a written group behind an equal one, and a third that merges with the later; two of a written group, of which
-- the second names itself, and a third that merges with the first
abbrev pub rows : List Row
rows =
    record { groups = alone plain ∷ alone plain ∷ []; same = 0 ∷ 0 ∷ []; params = I32 ∷ I32 ∷ []; picks = 0 }
    ∷ record { groups = alone plain ∷ written (plain ∷ []) ∷ alone plain ∷ []; same = 0 ∷ 1 ∷ 1 ∷ []; params = I32 ∷ I32 ∷ []; picks = 1 }
    ∷ record { groups = written (taking ∷ taking ∷ []) ∷ alone taking ∷ []; same = 0 ∷ 1 ∷ 0 ∷ []; params = second ∷ []; picks = 1 }
    ∷ []

abbrev pub filled : Row → Module
filled r = record empty { groups = r.groups }

abbrev pub around : Row → Around
around r = record { features = usual; filled = filled r; same = same_of (filled r); counted = false }

pub record PicksStand : Type 0 where
  pub of_types : map (λ r. map (same_of (filled r)) (range_with_len 0 (length r.same))) rows ≡ map (λ (r : Row). r.same) rows
  pub of_picks : map (λ r. pick (around r) r.params []) rows ≡ map (λ (r : Row). (let picked : Option BlockType = Some (blocks.Type r.picks) in picked)) rows
