-- Adds, as the calls say what they do.
use Rattle.std.proofs.Common.{◌≡◌, ◌∙◌, ℕ, List, [], ◌∷◌, ◌++◌, Option, Contains, refl, sym, ap, subst}
use Rattle.walrus_forms.specs.declared.value.RefType.{RefType}
use Rattle.walrus_instr.specs.declared.const_expr.ConstExpr.{ConstExpr}
use Rattle.walrus_walks.specs.Events.{Event, NamesType, val_names, ref_names}
use Rattle.walrus_walks.specs.ConstEvents.{expr_names}
use Rattle.walrus_linked.specs.walrus_item_meaning.Meaning.{init_beside, table_init}
use Rattle.walrus_linked.specs.walrus_module_items.declared.export.ExportItem.{ExportItem}
use Rattle.walrus_linked.specs.walrus_module_items.declared.function.FunctionKind.{FunctionKind}
use Rattle.walrus_linked.specs.walrus_module_items.declared.function.FunctionKind.TheVariants as functions
use Rattle.walrus_items.specs.declared.local.Local.{Local}
use Rattle.walrus_linked.specs.walrus_module.Parts.{Module}
use Rattle.walrus_roots.specs.declared.item.Item.{Item}
use Rattle.walrus_marks.specs.Named.{items_of}
use Rattle.walrus_linked.specs.walrus_module.Items.{Lives, given_out}
use Rattle.walrus_linked.specs.Names.{table_names, init_names, function_names, body_names, data_kind_names, element_names}
use Rattle.walrus_linked.specs.Linked.{IsLinked, IsWhole, function_import}
use Rattle.walrus_module_laws.specs.Edits.{AreLive, KindsNameLive, AddsKeepLinked, DeletedExportsKeepLinked}
use Rattle.walrus_module_laws.proofs.AddedFunction as F
use Rattle.walrus_module_laws.proofs.AddedTable as T
use Rattle.walrus_module_laws.proofs.AddedMemory as M
use Rattle.walrus_module_laws.proofs.AddedGlobal as G
use Rattle.walrus_module_laws.proofs.AddedTag as E
use Rattle.walrus_module_laws.proofs.AddedData as D
use Rattle.walrus_module_laws.proofs.AddedElement as S
use Rattle.walrus_module_laws.proofs.ChangedExports as X
use Rattle.walrus_module_laws.proofs.GrownLocals as L
use Rattle.walrus_module_laws.proofs.GrownTypes as Y

-- n, when it is known to be another module
in_other : (n w : Module) → n ≡ w → (events : List Event) → AreLive n events → AreLive w events
in_other n w e events lives = let A : Module → Type 0 = λ v. AreLive v events in subst A e lives

pub adds_keep_linked : AddsKeepLinked
adds_keep_linked = record {
  functions = λ m n f local adds rest is lives l.
      let is_local = adds.1.kind_is in
      let W : FunctionKind → Type 0 = λ k. IsWhole m.types k in
      let C : FunctionKind → Item → Type 0 = λ k y. Contains (items_of (function_names m.locals (record adds.0 { kind = k }))) y in
      let w : Module = record m { funcs = n.funcs } in
      let new : (y : Item) → Contains (items_of (function_names m.locals adds.0)) y → Lives w y = λ y has.
      let K : FunctionKind → Type 0 = λ k. C k y in in_other n w rest (NamesType local.builder.ty ∷ body_names m.locals (functions.Local local)) lives y (subst K is_local has) in
      subst IsLinked (sym rest) (F.function_added m n.funcs adds.0 adds.2 (ap function_import is_local) (subst W (sym is_local) is) new l);
  tables = λ m n t table64 initial maximum element init adds rest lives l.
      let w : Module = record m { tables = n.tables } in
      let same : table_names adds.0 ≡ ref_names element ++ init_names init =
      ap (λ (e : RefType). ref_names e ++ init_names (table_init adds.0)) adds.1.element_is ∙ ap (λ (o : Option ℕ). ref_names element ++ init_names (init_beside o adds.0.init)) adds.1.import_is
      ∙ ap (λ (o : Option ConstExpr). ref_names element ++ init_names o) adds.1.init_is in
      let A : List Event → Type 0 = λ es. AreLive w es in
      subst IsLinked (sym rest) (T.table_added m n.tables adds.0 adds.2 adds.1.import_is (subst A (sym same) (in_other n w rest (ref_names element ++ init_names init) lives)) l);
  memories = λ m n x shared memory64 initial maximum page adds rest l. subst IsLinked (sym rest) (M.memory_added m n.memories adds.0 adds.2 adds.1.import_is l);
  globals = λ m n g ty mutable shared init adds rest lives l. subst IsLinked (sym rest) (G.global_added m n.globals _ adds refl (in_other n (record m { globals = n.globals }) rest (val_names ty ++ expr_names init) lives) l);
  tags = λ m n t ty adds rest lives l. subst IsLinked (sym rest) (E.tag_added m n.tags _ adds refl (in_other n (record m { tags = n.tags }) rest (NamesType ty ∷ []) lives) l);
  data_segments = λ m n d adds rest lives l. subst IsLinked (sym rest) (D.data_added m n.data_segments d adds (in_other n (record m { data_segments = n.data_segments }) rest (data_kind_names d.kind) lives) l);
  elements = λ m n e adds rest lives l. subst IsLinked (sym rest) (S.element_added m n.elements e adds (in_other n (record m { elements = n.elements }) rest (element_names e) lives) l);
  exports = λ m n e name i adds rest lives l.
      let w : Module = record m { exports = n.exports } in
      let x = given_out i in
      let there : Lives w x = (X.in_space m n.exports x.space).lives_kept x.id lives in
      let G : ExportItem → Type 0 = λ g. Lives w (given_out g) in
      subst IsLinked (sym rest) (X.export_added m n.exports adds.0 adds.2 (subst G (sym adds.1.item_is) there) l);
  locals = λ m n local adds rest l.
      let same : n ≡ record m { locals = m.locals ++ local ∷ [] } = rest ∙ ap (λ (ls : List Local). let w : Module = record m { locals = ls } in w) adds in
      subst IsLinked (sym same) (L.locals_added m (local ∷ []) l);
  types = λ m n kind id merges rest lives l.
      let L : Module → Type 0 = λ v. KindsNameLive v (kind ∷ []) in subst IsLinked (sym rest) (Y.types_grown m n.types (kind ∷ []) (Y.merged kind id m.types n.types merges).0 (subst L rest lives) l);
  groups = λ m n explicit kinds adds rest lives declared l.
      let L : Module → Type 0 = λ v. KindsNameLive v kinds in subst IsLinked (sym rest) (Y.types_grown m n.types kinds (Y.group_grows kinds m.types n.types explicit adds declared) (subst L rest lives) l);
}

pub deleted_exports_keep_linked : DeletedExportsKeepLinked
deleted_exports_keep_linked m n e is rest l = subst IsLinked (sym rest) (X.export_deleted m n.exports e is l)
