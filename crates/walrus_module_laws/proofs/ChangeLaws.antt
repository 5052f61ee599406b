-- Deletes and writes, as the calls say what they do.
use Rattle.std.proofs.Common.{◌≡◌, List, ap, subst, sym}
use Rattle.walrus_arena.specs.Arena.{Arena}
use Rattle.walrus_linked.specs.walrus_module_items.declared.import.Import.{Import}
use Rattle.walrus_linked.specs.walrus_module_items.declared.export.Export.{Export}
use Rattle.walrus_linked.specs.walrus_module_items.declared.function.Function.{Function as FunctionItem}
use Rattle.walrus_linked.specs.walrus_module_items.declared.table.Table.{Table as TableItem}
use Rattle.walrus_linked.specs.walrus_module_items.declared.memory.Memory.{Memory as MemoryItem}
use Rattle.walrus_linked.specs.walrus_module_items.declared.global.Global.{Global as GlobalItem}
use Rattle.walrus_linked.specs.walrus_module_items.declared.tag.Tag.{Tag as TagItem}
use Rattle.walrus_linked.specs.walrus_module_items.declared.data.Data.{Data as DataItem}
use Rattle.walrus_linked.specs.walrus_module_items.declared.element.Element.{Element as ElementItem}
use Rattle.walrus_walks.specs.Events.{Event}
use Rattle.walrus_linked.specs.walrus_module.Parts.{Module}
use Rattle.walrus_linked.specs.walrus_module.Items.{Lives, given_out}
use Rattle.walrus_linked.specs.Names.{function_names, table_names, global_names, tag_names, data_kind_names, element_names}
use Rattle.walrus_linked.specs.Linked.{IsLinked}
use Rattle.walrus_module_laws.specs.Edits.{AreLive}
use Rattle.walrus_module_laws.proofs.ChangedExports.{export_set}
use Rattle.walrus_module_laws.specs.Changes.{DeletesKeepLinked, WritesKeepLinked}
use Rattle.walrus_module_laws.proofs.TypeChanges as Y
use Rattle.walrus_module_laws.proofs.FunctionChanges as F
use Rattle.walrus_module_laws.proofs.TableChanges as T
use Rattle.walrus_module_laws.proofs.MemoryChanges as M
use Rattle.walrus_module_laws.proofs.GlobalChanges as G
use Rattle.walrus_module_laws.proofs.TagChanges as E
use Rattle.walrus_module_laws.proofs.ElementChanges as S
use Rattle.walrus_module_laws.proofs.DataChanges as D
use Rattle.walrus_module_laws.proofs.ImportChanges as I

pub deletes_keep_linked : DeletesKeepLinked
deletes_keep_linked = record {
  types = λ m n id grouped live is rest none l. subst IsLinked (sym rest) (Y.deleted m n.types _ (Y.one_gone m n.types id is grouped live) none l);
  groups = λ m n id place group grouped at has is rest none l. subst IsLinked (sym rest) (Y.deleted m n.types _ (Y.group_gone m n.types place group at (is place group at has) grouped) none l);
  functions = λ m n id is rest none l. subst IsLinked (sym rest) (F.deleted m n.funcs id is none l);
  tables = λ m n id is rest none l. subst IsLinked (sym rest) (T.deleted m n.tables id is none l);
  memories = λ m n id is rest none l. subst IsLinked (sym rest) (M.deleted m n.memories id is none l);
  globals = λ m n id is rest none l. subst IsLinked (sym rest) (G.deleted m n.globals id is none l);
  tags = λ m n id is rest none l. subst IsLinked (sym rest) (E.deleted m n.tags id is none l);
  elements = λ m n id is rest none l. subst IsLinked (sym rest) (S.deleted m n.elements id is none l);
  data_segments = λ m n id is rest none l. subst IsLinked (sym rest) (D.deleted m n.data_segments id is none l);
}

-- n, when it is known to be another module
in_other : (n w : Module) → n ≡ w → (events : List Event) → AreLive n events → AreLive w events
in_other n w e events lives = let A : Module → Type 0 = λ v. AreLive v events in subst A e lives

pub writes_keep_linked : WritesKeepLinked
writes_keep_linked = record {
  imports = λ m n id old new at is rest same l. subst IsLinked (sym rest) (I.written m n.imports id old new at (ap (λ (a : Arena Import). a.slots) is) same l);
  exports = λ m n id new is rest lives l.
      let L : Module → Type 0 = λ v. Lives v (given_out new.item) in
      subst IsLinked (sym rest) (export_set m n.exports id new (ap (λ (a : Arena Export). a.slots) is) (subst L rest lives) l);
  functions = λ m n id old new at is rest same whole lives l.
      subst IsLinked (sym rest) (F.written m n.funcs id old new at (ap (λ (a : Arena FunctionItem). a.slots) is) same whole (in_other n (record m { funcs = n.funcs }) rest (function_names m.locals new) lives) l);
  tables = λ m n id old new at is rest same lives l.
      subst IsLinked (sym rest) (T.written m n.tables id old new at (ap (λ (a : Arena TableItem). a.slots) is) same (in_other n (record m { tables = n.tables }) rest (table_names new) lives) l);
  memories = λ m n id old new at is rest same l. subst IsLinked (sym rest) (M.written m n.memories id old new at (ap (λ (a : Arena MemoryItem). a.slots) is) same l);
  globals = λ m n id old new at is rest same lives l.
      subst IsLinked (sym rest) (G.written m n.globals id old new at (ap (λ (a : Arena GlobalItem). a.slots) is) same (in_other n (record m { globals = n.globals }) rest (global_names new) lives) l);
  tags = λ m n id old new at is rest same lives l.
      subst IsLinked (sym rest) (E.written m n.tags id old new at (ap (λ (a : Arena TagItem). a.slots) is) same (in_other n (record m { tags = n.tags }) rest (tag_names new) lives) l);
  elements = λ m n id old new at is rest lives l.
      subst IsLinked (sym rest) (S.written m n.elements id old new at (ap (λ (a : Arena ElementItem). a.slots) is) (in_other n (record m { elements = n.elements }) rest (element_names new) lives) l);
  data_segments = λ m n id old new at is rest lives l.
      subst IsLinked (sym rest) (D.written m n.data_segments id old new at (ap (λ (a : Arena DataItem). a.slots) is) (in_other n (record m { data_segments = n.data_segments }) rest (data_kind_names new.kind) lives) l);
}
