use Rattle.std.proofs.Common.{◌≡◌, ◌++◌, map}
use Rattle.walrus_module.specs.walrus_module_items.declared.import.Import.{Import}
use Rattle.walrus_module.specs.Items.{brought}
use Rattle.walrus_emit.specs.Listed.{brought_in}
use Rattle.walrus_emit.proofs.checks.list_brought.Given as goal

abbrev pub invariant-loop-import : goal.invariant-loop-import
invariant-loop-import l = record {
  can : (goal.iterator-loop-import).can_next l.import-iterator;
  ends : (goal.iterator-loop-import).is_finite l.import-iterator;
  moved : l.listed.items ++ map (λ (i : Import). brought i.kind) l.import-iterator ≡ l.fn.listed.items ++ brought_in l.imports;
}
