-- Lemmas: constant expressions over what is known here.
use Rattle.std.specs.Prelude.{◌≡◌, Bool, Result}
use Rattle.std.proofs.Common.{subst}
use Rattle.wasm_features.specs.declared.WasmFeatures.{WasmFeatures}
use Rattle.wasm_reader.specs.Cursor.{Cursor}
use Rattle.walrus_known_sections.specs.wasm_sections.wasm_grammar.Modules.{Expr}
use Rattle.walrus_known_sections.specs.wasm_sections.wasm_grammar.Exprs.{Known, expr, offset}
use Rattle.walrus_section_reader.specs.declared.fault.Fault.{Fault}
use Rattle.walrus_section_reader.specs.Parses.{Parses}

pub expr_known : {X : Type 0} (features : WasmFeatures) (k l : Known) (view : X → Expr) (old new : Cursor) (result : Result X Fault) → k ≡ l
    → Parses (expr features k).parse view old new result → Parses (expr features l).parse view old new result
expr_known features k l view old new result same p = subst (λ (k : Known). Parses (expr features k).parse view old new result) same p

pub offset_known : {X : Type 0} (features : WasmFeatures) (wide : Bool) (k l : Known) (view : X → Expr) (old new : Cursor) (result : Result X Fault) → k ≡ l
    → Parses (offset features wide k).parse view old new result → Parses (offset features wide l).parse view old new result
offset_known features wide k l view old new result same p = subst (λ (k : Known). Parses (offset features wide k).parse view old new result) same p
