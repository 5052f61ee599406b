-- Where a refusal stands, and what a reader's refusal is as that of a module.
use Rattle.std.specs.Prelude.{ℕ, Option, Some, None}
use Rattle.wasm_formats.specs.wasm_reader.declared.error.ErrorKind.{ErrorKind}
use Rattle.wasm_formats.specs.wasm_reader.declared.error.ErrorKind.TheVariants as kinds
use Rattle.wasm_formats.specs.wasm_reader.declared.error.Error.{Error}
use Rattle.walrus_errors.specs.declared.error.ModuleError.{ModuleError}
use Rattle.walrus_errors.specs.declared.error.ModuleError.TheVariants.{Read, Header, SectionOrder, SectionSize, Count, Index, TypeForm, ConstExpr, OffsetType, Nesting, Position, Operator, Unsupported, DuplicateExport, Bounds, Limit, Memory}

-- the place of its cause in the file, where its cause is in the bytes
abbrev pub offset_of : ModuleError → Option ℕ
offset_of (Read error) = Some error.offset
offset_of (Header offset) = Some offset
offset_of (SectionOrder offset) = Some offset
offset_of (SectionSize offset) = Some offset
offset_of (Count offset) = Some offset
offset_of (Index space offset) = Some offset
offset_of (TypeForm offset) = Some offset
offset_of (ConstExpr offset) = Some offset
offset_of (OffsetType offset) = Some offset
offset_of (Nesting offset) = Some offset
offset_of (Position offset) = Some offset
offset_of (Operator offset) = Some offset
offset_of (Unsupported form offset) = offset
offset_of (DuplicateExport offset) = Some offset
offset_of (Bounds offset) = Some offset
offset_of (Limit of offset) = Some offset
offset_of _ = None

-- a reader's refusal is that of the module; its want of memory is the module's
abbrev pub refusal_of : Error → ModuleError
refusal_of error = by_kind error.kind
  where
    by_kind : ErrorKind → ModuleError
    by_kind kinds.Memory = Memory
    by_kind _ = Read error
