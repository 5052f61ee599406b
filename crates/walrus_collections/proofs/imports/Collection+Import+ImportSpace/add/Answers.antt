use Rattle.std.proofs.Common.{rules}
use Rattle.walrus_module_items.specs.declared.import.Import.{Import}
use Rattle.walrus_collections.proofs.imports.Collection+Import+ImportSpace.add.Goals as goal

pub returns-clause-added : goal.returns-clause-added
returns-clause-added g c =
    let item : Import = record { id = c.add_reserved.result; «module» = c.in_ok-module.module; name = c.in_ok-name.name; kind = c.into-kind.result } in
    (c.into-kind.result, c.into-kind.ensures, (item, search rules, search rules))
