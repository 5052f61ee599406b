-- The texts of refusals.
use Rattle.std.specs.Prelude.{ℕ, List, ◌++◌, codes}
use Rattle.wasm_formats.specs.Texts.{form_text, limited_text, space_text}
use Rattle.wasm_formats.specs.wasm_reader.Messages.{message_of}
use Rattle.walrus_errors.specs.declared.error.ErrorKind.{ErrorKind}
use Rattle.walrus_errors.specs.declared.error.ErrorKind.TheVariants.{InvalidWasm}
use Rattle.walrus_errors.specs.declared.error.ModuleError.{ModuleError}
use Rattle.walrus_errors.specs.declared.error.ModuleError.TheVariants as errors

abbrev pub kind_text : ErrorKind → List ℕ
kind_text InvalidWasm = codes "The input WebAssembly is invalid"

abbrev pub error_text : ModuleError → List ℕ
error_text (errors.Read e) = message_of e.kind
error_text (errors.Header _) = codes "not a WebAssembly module"
error_text (errors.SectionOrder _) = codes "section out of order"
error_text (errors.SectionSize _) = codes "section size is wrong"
error_text (errors.Count _) = codes "counts do not agree"
error_text (errors.Index space _) = codes "index of a " ++ space_text space ++ codes " is out of range"
error_text (errors.TypeForm _) = codes "a function type is needed"
error_text (errors.ConstExpr _) = codes "not a constant expression"
error_text (errors.OffsetType _) = codes "offset has the wrong type"
error_text (errors.Nesting _) = codes "blocks do not nest"
error_text (errors.Position _) = codes "operator may not stand here"
error_text (errors.Operator _) = codes "unknown operator"
error_text (errors.Unsupported form _) = codes "not supported: " ++ form_text form
error_text (errors.DuplicateExport _) = codes "duplicate export name"
error_text (errors.Bounds _) = codes "number out of bounds"
error_text (errors.Limit limited _) = codes "limit passed: " ++ limited_text limited
error_text (errors.OutputLimit limited) = codes "output limit passed: " ++ limited_text limited
error_text (errors.DeadReference space) = codes "reference to a deleted " ++ space_text space
error_text errors.NoTree = codes "instructions form no tree"
error_text errors.NotLinked = codes "import and item do not agree"
error_text errors.Memory = codes "out of memory"
error_text errors.InputTooLong = codes "input is too long"
error_text errors.NotFound = codes "NotFound"
error_text errors.Several = codes "Several"
error_text errors.WrongKind = codes "WrongKind"
error_text errors.SectionRefused = codes "SectionRefused"
