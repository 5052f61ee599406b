-- The texts of the words of faults.
use Rattle.std.specs.Prelude.{ℕ, List, codes}
use Rattle.wasm_formats.specs.declared.fault.Space.{Space}
use Rattle.wasm_formats.specs.declared.fault.Space.TheVariants as spaces
use Rattle.wasm_formats.specs.declared.fault.Form.{Form}
use Rattle.wasm_formats.specs.declared.fault.Form.TheVariants as forms
use Rattle.wasm_formats.specs.declared.fault.Limited.{Limited}
use Rattle.wasm_formats.specs.declared.fault.Limited.TheVariants as limits

abbrev pub space_text : Space → List ℕ
space_text spaces.«Type» = codes "type"
space_text spaces.Function = codes "function"
space_text spaces.Table = codes "table"
space_text spaces.Memory = codes "memory"
space_text spaces.Tag = codes "tag"
space_text spaces.Global = codes "global"
space_text spaces.Element = codes "element"
space_text spaces.Data = codes "data"
space_text spaces.Local = codes "local"
space_text spaces.Label = codes "label"

abbrev pub form_text : Form → List ℕ
form_text forms.SharedTable = codes "shared table"
form_text forms.SharedGlobal = codes "shared global"
form_text forms.SharedType = codes "shared type"
form_text forms.ExactType = codes "exact type"
form_text forms.ContinuationType = codes "continuation type"
form_text forms.Select = codes "select"

abbrev pub limited_text : Limited → List ℕ
limited_text limits.Types = codes "types"
limited_text limits.Imports = codes "imports"
limited_text limits.Functions = codes "functions"
limited_text limits.Globals = codes "globals"
limited_text limits.Tags = codes "tags"
limited_text limits.Exports = codes "exports"
limited_text limits.Tables = codes "tables"
limited_text limits.Memories = codes "memories"
limited_text limits.Elements = codes "elements"
limited_text limits.Data = codes "data"
limited_text limits.Locals = codes "locals"
limited_text limits.Body = codes "body"
limited_text limits.File = codes "file"
limited_text limits.List = codes "list"
limited_text limits.String = codes "string"
