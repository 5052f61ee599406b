-- The texts of faults.
use Rattle.std.specs.Prelude.{ℕ, List, ◌++◌, codes, decimal}
use Rattle.wasm_formats.specs.Texts.{form_text, limited_text, space_text}
use Rattle.wasm_formats.specs.wasm_reader.Messages.{message_of}
use Rattle.wasm_rewriter.specs.declared.fault.Fault.{Fault}
use Rattle.wasm_rewriter.specs.declared.fault.Fault.TheVariants as faults

abbrev pub fault_text : Fault → List ℕ
fault_text (faults.Read e) = message_of e.kind
fault_text (faults.Header _) = codes "not a WebAssembly module"
fault_text (faults.SectionOrder _) = codes "section out of order"
fault_text (faults.SectionSize _) = codes "section size is wrong"
fault_text (faults.Count _) = codes "counts do not agree"
fault_text (faults.Index space _) = codes "index of a " ++ space_text space ++ codes " is out of range"
fault_text (faults.TypeForm _) = codes "a function type is needed"
fault_text (faults.ConstExpr _) = codes "not a constant expression"
fault_text (faults.OffsetType _) = codes "offset has the wrong type"
fault_text (faults.Nesting _) = codes "blocks do not nest"
fault_text (faults.Position _) = codes "operator may not stand here"
fault_text (faults.Operator _) = codes "unknown operator"
fault_text (faults.Unsupported form _) = codes "not supported: " ++ form_text form
fault_text (faults.DuplicateExport _) = codes "duplicate export name"
fault_text (faults.Bounds _) = codes "number out of bounds"
fault_text (faults.Limit limited _) = codes "limit passed: " ++ limited_text limited
fault_text (faults.OutputLimit limited) = codes "output limit passed: " ++ limited_text limited
fault_text (faults.DeadReference space) = codes "reference to a deleted " ++ space_text space
fault_text faults.NoTree = codes "instructions form no tree"
fault_text faults.NotLinked = codes "import and item do not agree"
fault_text faults.Memory = codes "out of memory"
fault_text faults.InputTooLong = codes "input is too long"
fault_text faults.ReaderFault = codes "input can not be read"
fault_text (faults.WriterFault written) = codes "output can not be written after " ++ decimal written ++ codes " bytes"
fault_text (faults.PlacesFault written) = codes "places can not be written after " ++ decimal written ++ codes " bytes"
