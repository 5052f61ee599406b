use Rattle.walrus_module_laws.proofs.ReplacedExport as E
use Rattle.walrus_module_laws.proofs.ReplacedImport as I
use Rattle.walrus_module_laws.proofs.edits.replaces_keep_linked.Goals as goal

pub returns : goal.returns
returns g c = record {
  exported = λ build function id m n r stands l. E.replaced_linked g.F.FnOnce build function id m n r stands l;
  imported = λ build function m n r stands l. I.replaced_linked g.F.FnOnce build function m n r stands l;
}
