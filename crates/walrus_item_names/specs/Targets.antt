-- What has a name in a module in memory, in words of the grammar.
use Rattle.wasm_formats.specs.declared.fault.Space.TheVariants as spaces
use Rattle.wasm_name_payloads.specs.Names.{Bearer, TheModule, item_in}
use Rattle.walrus_item_names.specs.declared.target.Target.{Target}
use Rattle.walrus_item_names.specs.declared.target.Target.TheVariants as targets

abbrev pub target_bearer : Target → Bearer
target_bearer targets.«Module» = TheModule
target_bearer (targets.«Type» id) = item_in spaces.«Type» id
target_bearer (targets.Function id) = item_in spaces.Function id
target_bearer (targets.Table id) = item_in spaces.Table id
target_bearer (targets.Memory id) = item_in spaces.Memory id
target_bearer (targets.Tag id) = item_in spaces.Tag id
target_bearer (targets.Global id) = item_in spaces.Global id
target_bearer (targets.Element id) = item_in spaces.Element id
target_bearer (targets.Data id) = item_in spaces.Data id
target_bearer (targets.Local id) = item_in spaces.Local id
