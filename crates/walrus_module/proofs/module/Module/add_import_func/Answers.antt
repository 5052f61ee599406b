use Rattle.std.proofs.Common.{rules}
use Rattle.walrus_collections.specs.walrus_module_items.declared.import.Import.{Import}
use Rattle.walrus_collections.specs.walrus_module_items.declared.import.ImportKind.TheVariants as kinds
use Rattle.walrus_module.proofs.module.Module.add_import_func.Goals as goal

pub returns-clause-import_ : goal.returns-clause-import_
returns-clause-import_ g c =
    let item : Import = record { id = c.add_reserved.result; «module» = c.in_ok-module.module; name = c.in_ok-name.name; kind = kinds.Function c.in_ok-function.function } in
    (item, search rules, search rules)
