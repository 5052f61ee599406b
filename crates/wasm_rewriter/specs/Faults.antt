-- Which fault it is where a module is refused, and where it stands.
use Rattle.std.specs.Prelude.{ℕ, Option, Some, None}
use Rattle.walrus_errors.specs.declared.error.ModuleError.{ModuleError}
use Rattle.walrus_errors.specs.declared.error.ModuleError.TheVariants as errors
use Rattle.wasm_rewriter.specs.declared.fault.Fault.{Fault}
use Rattle.wasm_rewriter.specs.declared.fault.Fault.TheVariants as faults

-- the place of its cause in the file, where its cause is in the bytes
abbrev pub offset_of : Fault → Option ℕ
offset_of (faults.Read error) = Some error.offset
offset_of (faults.Header offset) = Some offset
offset_of (faults.SectionOrder offset) = Some offset
offset_of (faults.SectionSize offset) = Some offset
offset_of (faults.Count offset) = Some offset
offset_of (faults.Index space offset) = Some offset
offset_of (faults.TypeForm offset) = Some offset
offset_of (faults.ConstExpr offset) = Some offset
offset_of (faults.OffsetType offset) = Some offset
offset_of (faults.Nesting offset) = Some offset
offset_of (faults.Position offset) = Some offset
offset_of (faults.Operator offset) = Some offset
offset_of (faults.Unsupported form offset) = Some offset
offset_of (faults.DuplicateExport offset) = Some offset
offset_of (faults.Bounds offset) = Some offset
offset_of (faults.Limit of offset) = Some offset
offset_of _ = None

-- the refusal of a module, as a fault; want of memory for those of calls that a rewriting doesn't make
abbrev pub fault_of : ModuleError → Fault
fault_of (errors.Read error) = faults.Read error
fault_of (errors.Header offset) = faults.Header offset
fault_of (errors.SectionOrder offset) = faults.SectionOrder offset
fault_of (errors.SectionSize offset) = faults.SectionSize offset
fault_of (errors.Count offset) = faults.Count offset
fault_of (errors.Index space offset) = faults.Index space offset
fault_of (errors.TypeForm offset) = faults.TypeForm offset
fault_of (errors.ConstExpr offset) = faults.ConstExpr offset
fault_of (errors.OffsetType offset) = faults.OffsetType offset
fault_of (errors.Nesting offset) = faults.Nesting offset
fault_of (errors.Position offset) = faults.Position offset
fault_of (errors.Operator offset) = faults.Operator offset
fault_of (errors.Unsupported form (Some offset)) = faults.Unsupported form offset
fault_of (errors.Unsupported form None) = faults.Memory
fault_of (errors.DuplicateExport offset) = faults.DuplicateExport offset
fault_of (errors.Bounds offset) = faults.Bounds offset
fault_of (errors.Limit of offset) = faults.Limit of offset
fault_of (errors.OutputLimit of) = faults.OutputLimit of
fault_of (errors.DeadReference space) = faults.DeadReference space
fault_of errors.NoTree = faults.NoTree
fault_of errors.NotLinked = faults.NotLinked
fault_of errors.InputTooLong = faults.InputTooLong
fault_of _ = faults.Memory

-- the refusal of a module that was read, as a fault
abbrev pub late_fault : ModuleError → Fault
late_fault (errors.OutputLimit of) = faults.OutputLimit of
late_fault _ = faults.Memory
