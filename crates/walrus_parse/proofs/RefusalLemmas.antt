-- Faults of sections and of bodies are those of the file.
use Rattle.std.specs.Prelude.{ℕ, ◌≡◌, List, Option, Some, None, refl}
use Rattle.std.proofs.Common.{ap, sym, ◌∙◌, inl, inr}
use Rattle.walrus_named_bodies.specs.walrus_item_names.walrus_module.walrus_body_writer.walrus_pairing.wasm_operators.wasm_features.declared.WasmFeatures.{WasmFeatures}
use Rattle.walrus_named_bodies.specs.walrus_item_names.walrus_module.walrus_local_function.walrus_body_locals.walrus_body_nesting.wasm_formats.Stops.{Trouble, Read, Header, SectionOrder, SectionSize, Count, Index, TypeForm, ConstExpr, OffsetType, Nesting, Position, Operator, Unsupported, DuplicateExport, Bounds, Limit}
use Rattle.walrus_named_bodies.specs.walrus_file_bodies.walrus_items_into.wasm_module_rules.wasm_modules.Modules.{IsShort}
use Rattle.walrus_named_bodies.specs.walrus_item_names.walrus_module.walrus_body_writer.walrus_body_env.declared.error.BodyError.{BodyError}
use Rattle.walrus_named_bodies.specs.walrus_item_names.walrus_module.walrus_local_function.walrus_body_locals.walrus_body_nesting.Faults.{fault_at}
use Rattle.walrus_errors.specs.declared.error.ModuleError.{ModuleError}
use Rattle.walrus_file_reader.specs.Files.{IsRefused}
use Rattle.walrus_named_bodies.specs.walrus_file_bodies.walrus_items_into.walrus_tables_into.walrus_section_values.walrus_section_reader.Faults.{error_at, trouble_of}
use Rattle.walrus_named_bodies.specs.walrus_file_bodies.walrus_items_into.walrus_tables_into.walrus_section_values.walrus_section_reader.declared.fault.FaultKind.{FaultKind}
use Rattle.walrus_named_bodies.specs.walrus_file_bodies.walrus_items_into.walrus_tables_into.walrus_section_values.walrus_section_reader.declared.fault.FaultKind.TheVariants as faults
use Rattle.walrus_named_bodies.specs.walrus_item_names.walrus_module.walrus_body_writer.walrus_body_env.Refusals.{module_error}
use Rattle.walrus_parse.specs.Refusals.{IsRefusal, refusal}

error_is : (kind : FaultKind) (place : ℕ) → error_at kind place ≡ refusal (trouble_of kind) place
error_is (faults.Read kind) place = refl
error_is faults.Header place = refl
error_is faults.SectionOrder place = refl
error_is faults.SectionSize place = refl
error_is faults.Count place = refl
error_is (faults.Index space) place = refl
error_is faults.TypeForm place = refl
error_is faults.ConstExpr place = refl
error_is faults.OffsetType place = refl
error_is (faults.Unsupported form) place = refl
error_is faults.DuplicateExport place = refl
error_is faults.Bounds place = refl
error_is (faults.Limit of) place = refl

pub sections_refused : (features : WasmFeatures) (bytes : List ℕ) (error : ModuleError) → IsShort bytes → IsRefused features bytes error → IsRefusal features bytes error
sections_refused features bytes error short (fault, same, inl h) = inr (inr (record {
  trouble = trouble_of fault.kind;
  place = fault.offset;
  stops = (h.0, (short, inl h.1), sym h.2, h.3);
  error_is = sym same ∙ error_is fault.kind fault.offset;
}))
sections_refused features bytes error short (fault, same, inr wants) = inl (sym same ∙ ap (λ (kind : FaultKind). error_at kind fault.offset) wants.0, short, wants.1)

abbrev some_or : {X : Type 0} → X → Option X → X
some_or other None = other
some_or other (Some x) = x

some_is : {X : Type 0} (x y : X) → Some x ≡ Some y → x ≡ y
some_is {X} x y h = ap (λ (o : Option X). some_or x o) h

-- what a body is refused for, told of its module
pub fault_is : (t : Trouble) (place : ℕ) (fault : BodyError) → fault_at t place ≡ Some fault → module_error fault ≡ refusal t place
fault_is (Read kind) place fault h = ap module_error (sym (some_is _ _ h))
fault_is (Index space) place fault h = ap module_error (sym (some_is _ _ h))
fault_is TypeForm place fault h = ap module_error (sym (some_is _ _ h))
fault_is Nesting place fault h = ap module_error (sym (some_is _ _ h))
fault_is Position place fault h = ap module_error (sym (some_is _ _ h))
fault_is Operator place fault h = ap module_error (sym (some_is _ _ h))
fault_is (Unsupported form) place fault h = ap module_error (sym (some_is _ _ h))
fault_is Bounds place fault h = ap module_error (sym (some_is _ _ h))
fault_is (Limit of) place fault h = ap module_error (sym (some_is _ _ h))
fault_is Header place fault h = absurd cc
fault_is SectionOrder place fault h = absurd cc
fault_is SectionSize place fault h = absurd cc
fault_is Count place fault h = absurd cc
fault_is ConstExpr place fault h = absurd cc
fault_is OffsetType place fault h = absurd cc
fault_is DuplicateExport place fault h = absurd cc
