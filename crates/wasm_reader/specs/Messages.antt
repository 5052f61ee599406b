-- The texts and hints of faults.
use Rattle.std.specs.Prelude.{ℕ, List, codes, Option, Some, None}
use Rattle.wasm_features.specs.declared.WasmFeatures.{WasmFeatures}
use Rattle.wasm_reader.specs.declared.error.ErrorKind.{ErrorKind}
use Rattle.wasm_reader.specs.declared.error.ErrorKind.TheVariants as kinds

-- a fault's text
abbrev pub message_of : ErrorKind → List ℕ
message_of (kinds.EndOfFile needed) = codes "unexpected end"
message_of kinds.TooLong = codes "number is too long"
message_of kinds.TooLarge = codes "number is too large"
message_of kinds.Utf8 = codes "text is not UTF-8"
message_of kinds.BadByte = codes "byte is not allowed here"
message_of kinds.Limit = codes "count passes a limit"
message_of (kinds.Feature missing) = codes "feature is off"
message_of kinds.Trailing = codes "trailing bytes"
message_of kinds.Memory = codes "out of memory"

-- how many bytes are missing
abbrev pub hint_of : ErrorKind → Option ℕ
hint_of (kinds.EndOfFile needed) = Some needed
hint_of _ = None

-- the feature that is off
abbrev pub missing_of : ErrorKind → Option WasmFeatures
missing_of (kinds.Feature missing) = Some missing
missing_of _ = None
