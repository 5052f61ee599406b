-- Why a file is refused, and where (Core Specification, binary format: modules).
use Rattle.std.specs.Prelude.{ℕ, ◌^◌, ◌<◌, ◌≡◌, ◌⊎◌, List, length, Some}
use Rattle.walrus_named_bodies.specs.walrus_item_names.walrus_module.walrus_body_writer.walrus_pairing.wasm_operators.wasm_features.declared.WasmFeatures.{WasmFeatures}
use Rattle.walrus_named_bodies.specs.walrus_item_names.walrus_module.walrus_local_function.walrus_body_locals.walrus_body_nesting.wasm_formats.Stops.{Trouble, Read, Header, SectionOrder, SectionSize, Count, Index, TypeForm, ConstExpr, OffsetType, Nesting, Position, Operator, Unsupported, DuplicateExport, Bounds, Limit}
use Rattle.walrus_errors.specs.declared.error.ModuleError.{ModuleError}
use Rattle.walrus_errors.specs.declared.error.ModuleError.TheVariants as errors
use Rattle.walrus_errors.specs.Refusals.{refusal_of}
use Rattle.walrus_file_reader.specs.Files.{HasHeader}
use Rattle.walrus_named_bodies.specs.walrus_file_bodies.walrus_items_into.wasm_module_rules.wasm_modules.Modules.{IsShort, Stops}

-- a trouble at its place in the file, as the refusal of a module
abbrev pub refusal : Trouble → ℕ → ModuleError
refusal (Read kind) place = refusal_of (record { kind = kind; offset = place })
refusal Header place = errors.Header place
refusal SectionOrder place = errors.SectionOrder place
refusal SectionSize place = errors.SectionSize place
refusal Count place = errors.Count place
refusal (Index space) place = errors.Index space place
refusal TypeForm place = errors.TypeForm place
refusal ConstExpr place = errors.ConstExpr place
refusal OffsetType place = errors.OffsetType place
refusal Nesting place = errors.Nesting place
refusal Position place = errors.Position place
refusal Operator place = errors.Operator place
refusal (Unsupported form) place = errors.Unsupported form (Some place)
refusal DuplicateExport place = errors.DuplicateExport place
refusal Bounds place = errors.Bounds place
refusal (Limit of) place = errors.Limit of place

-- the file stops there with this trouble
pub record IsFault (features : WasmFeatures) (bytes : List ℕ) (error : ModuleError) : Type 0 where
  pub trouble : Trouble
  pub place : ℕ
  pub stops : Stops features bytes trouble place
  pub error_is : error ≡ refusal trouble place

-- the file is longer than 2^30 bytes, or it stops so; want of memory may stand in place of what comes behind the header, but for that length
abbrev pub IsRefusal : WasmFeatures → List ℕ → ModuleError → Type 0
IsRefusal features bytes error = ((error ≡ errors.Memory) × IsShort bytes × HasHeader bytes) ⊎ (((error ≡ errors.InputTooLong) × (2 ^ 30 < length bytes)) ⊎ IsFault features bytes error)
