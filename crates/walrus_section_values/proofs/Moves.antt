-- Operators that are read where nothing was taken before.
use Rattle.std.proofs.Common.{◌≡◌, Result, Ok, Err, subst, sym, ap, ◌∙◌}
use Rattle.wasm_features.specs.declared.WasmFeatures.{WasmFeatures}
use Rattle.wasm_reader.specs.Cursor.{Cursor}
use Rattle.wasm_grammar.specs.Exprs.{Known, operator}
use Rattle.walrus_operators.specs.declared.operator.Operator.{Operator}
use Rattle.walrus_operators.specs.Operators.{seen}
use Rattle.walrus_section_reader.specs.declared.fault.Fault.{Fault}
use Rattle.walrus_section_reader.specs.Parses.{Parses, ParsesExactly}
use Rattle.walrus_section_reader.specs.Repeats.{unless_memory}

pub operator_from : (f : WasmFeatures) (k : Known) (old mid new : Cursor) (result : Result Operator Fault) → mid ≡ old → old.window.features ≡ f
    → ParsesExactly (operator mid.window.features k).parse seen mid new result → Parses (operator f k).parse seen old new result
operator_from f k old mid new result same features h =
    let here = unless_memory (operator mid.window.features k).parse seen mid new result h in
    let under = subst (λ (g : WasmFeatures). Parses (operator g k).parse seen mid new result) (ap (λ (c : Cursor). c.window.features) same ∙ features) here in
    subst (λ (c : Cursor). Parses (operator f k).parse seen c new result) same under
