-- Faults of the readers of sections, in words of the formats, and as refusals of a module.
use Rattle.std.specs.Prelude.{ℕ, ◌≡◌, Some}
use Rattle.wasm_reader.specs.declared.error.Error.{Error}
use Rattle.wasm_reader.specs.declared.error.ErrorKind.TheVariants as kinds
use Rattle.wasm_formats.specs.Stops.{Trouble, Read, Header, SectionOrder, SectionSize, Count, Index, TypeForm, ConstExpr, OffsetType, Unsupported, DuplicateExport, Bounds, Limit}
use Rattle.walrus_errors.specs.declared.error.ModuleError.{ModuleError}
use Rattle.walrus_errors.specs.declared.error.ModuleError.TheVariants as errors
use Rattle.walrus_errors.specs.Refusals.{refusal_of}
use Rattle.walrus_section_reader.specs.declared.fault.Fault.{Fault}
use Rattle.walrus_section_reader.specs.declared.fault.FaultKind.{FaultKind}
use Rattle.walrus_section_reader.specs.declared.fault.FaultKind.TheVariants as faults

abbrev pub fault_of : FaultKind → ℕ → Fault
fault_of kind offset = record { kind = kind; offset = offset }

-- a fault of the reader below
abbrev pub read_fault : Error → Fault
read_fault e = fault_of (faults.Read e.kind) e.offset

-- want of memory
abbrev pub no_memory : Fault
no_memory = fault_of (faults.Read kinds.Memory) 0

abbrev pub IsMemory : Fault → Type 0
IsMemory e = e.kind ≡ faults.Read kinds.Memory

-- the trouble that a fault tells of
abbrev pub trouble_of : FaultKind → Trouble
trouble_of (faults.Read kind) = Read kind
trouble_of faults.Header = Header
trouble_of faults.SectionOrder = SectionOrder
trouble_of faults.SectionSize = SectionSize
trouble_of faults.Count = Count
trouble_of (faults.Index space) = Index space
trouble_of faults.TypeForm = TypeForm
trouble_of faults.ConstExpr = ConstExpr
trouble_of faults.OffsetType = OffsetType
trouble_of (faults.Unsupported form) = Unsupported form
trouble_of faults.DuplicateExport = DuplicateExport
trouble_of faults.Bounds = Bounds
trouble_of (faults.Limit of) = Limit of

-- the same refusal as that of a module
abbrev pub error_at : FaultKind → ℕ → ModuleError
error_at (faults.Read kind) offset = refusal_of (record { kind = kind; offset = offset })
error_at faults.Header offset = errors.Header offset
error_at faults.SectionOrder offset = errors.SectionOrder offset
error_at faults.SectionSize offset = errors.SectionSize offset
error_at faults.Count offset = errors.Count offset
error_at (faults.Index space) offset = errors.Index space offset
error_at faults.TypeForm offset = errors.TypeForm offset
error_at faults.ConstExpr offset = errors.ConstExpr offset
error_at faults.OffsetType offset = errors.OffsetType offset
error_at (faults.Unsupported form) offset = errors.Unsupported form (Some offset)
error_at faults.DuplicateExport offset = errors.DuplicateExport offset
error_at faults.Bounds offset = errors.Bounds offset
error_at (faults.Limit of) offset = errors.Limit of offset

abbrev pub error_of : Fault → ModuleError
error_of e = error_at e.kind e.offset
