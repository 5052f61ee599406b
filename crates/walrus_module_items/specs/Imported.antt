-- The import that an item says brings it.
use Rattle.std.specs.Prelude.{ℕ, Option, Some, None}
use Rattle.walrus_module_items.specs.declared.function.FunctionKind.{FunctionKind}
use Rattle.walrus_module_items.specs.declared.function.FunctionKind.TheVariants as functions
use Rattle.walrus_module_items.specs.declared.global.GlobalKind.{GlobalKind}
use Rattle.walrus_module_items.specs.declared.global.GlobalKind.TheVariants as globals
use Rattle.walrus_module_items.specs.declared.tag.TagKind.{TagKind}
use Rattle.walrus_module_items.specs.declared.tag.TagKind.TheVariants as tags

abbrev pub function_import : FunctionKind → Option ℕ
function_import (functions.Import imported) = Some imported.import
function_import _ = None

abbrev pub global_import : GlobalKind → Option ℕ
global_import (globals.Import import) = Some import
global_import _ = None

abbrev pub tag_import : TagKind → Option ℕ
tag_import (tags.Import import) = Some import
tag_import _ = None
