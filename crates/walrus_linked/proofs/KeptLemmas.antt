-- Adding an item with the import that brings it, as the calls say what they do.
use Rattle.std.proofs.Common.{◌≡◌, ◌∙◌, ℕ, zero, suc, List, [], ◌∷◌, ◌++◌, Option, Some, Contains, sym, ap, subst, arith}
use Rattle.std.proofs.lemmas.List.{append-nil}
use Rattle.walrus_forms.specs.declared.value.RefType.{RefType}
use Rattle.walrus_marks.specs.walrus_walks.Events.{Event, val_names, ref_names}
use Rattle.wasm_formats.specs.declared.fault.Space.TheVariants as spaces
use Rattle.walrus_item_meaning.specs.Meaning.{init_beside, table_init}
use Rattle.walrus_module.specs.Parts.{Module}
use Rattle.walrus_roots.specs.declared.item.Item.{Item}
use Rattle.walrus_roots.specs.Items.{item}
use Rattle.walrus_marks.specs.Named.{items_of}
use Rattle.walrus_module.specs.Items.{Lives, brought}
use Rattle.walrus_linked.specs.Names.{table_names, init_names}
use Rattle.walrus_linked.specs.Linked.{IsLinked}
use Rattle.walrus_linked.specs.Kept.{ImportsKeepLinked}
use Rattle.walrus_linked.proofs.ImportedFunction as F
use Rattle.walrus_linked.proofs.ImportedTable as T
use Rattle.walrus_linked.proofs.ImportedMemory as M
use Rattle.walrus_linked.proofs.ImportedGlobal as G
use Rattle.walrus_linked.proofs.ImportedTag as E

-- what a list of one has is that one
contains_one : (x y : Item) → Contains (x ∷ []) y → x ≡ y
contains_one x y (zero, less, at) = at
contains_one x y (suc k, less, at) = absurd (omega (arith, less))

contains_none : {P : Type 0} (y : Item) → Contains [] y → P
contains_none y (k, less, at) = absurd (omega (arith, less))

one_lives : (m : Module) (x y : Item) → Lives m x → Contains (x ∷ []) y → Lives m y
one_lives m x y lives has = subst (Lives m) (contains_one x y has) lives

-- nothing behind a list adds nothing
without_end : (es : List Event) (y : Item) → Contains (items_of (es ++ [])) y → Contains (items_of es) y
without_end es y has = let C : List Event → Type 0 = λ xs. Contains (items_of xs) y in subst C (append-nil es) has

pub imports_keep_linked : ImportsKeepLinked
imports_keep_linked = record {
  functions = λ m n f i ty «module» name fs is adds brings rest lives l.
      subst IsLinked (sym rest) (F.function_linked m n.imports n.funcs _ brings.0 brings.2 adds (ap Some is) (ap brought brings.1.kind_is ∙ ap (item spaces.Function) fs) tt
      (λ y has. one_lives (record m { imports = n.imports; funcs = n.funcs }) (item spaces.Type ty) y lives has) l);
  tables = λ m n t i «module» name table64 initial maximum element ts is adds brings rest lives l.
      let x0 = adds.0 in
      let back = adds.1.import_is ∙ ap Some is in
      let forth = ap brought brings.1.kind_is ∙ ap (item spaces.Table) ts in
      let same : table_names x0 ≡ ref_names element ++ [] = ap (λ (e : RefType). ref_names e ++ init_names (table_init x0)) adds.1.element_is ∙ ap (λ (o : Option ℕ). ref_names element ++ init_names (init_beside o x0.init)) adds.1.import_is in
      subst IsLinked (sym rest) (T.table_linked m n.imports n.tables x0 brings.0 brings.2 adds.2 back forth
      (λ y has. let C : List Event → Type 0 = λ xs. Contains (items_of xs) y in
      (T.in_space m n.imports n.tables x0 brings.0 brings.2 adds.2 back forth y.space).lives_kept y.id (lives y (without_end (ref_names element) y (subst C same has)))) l);
  memories = λ m n x i «module» name shared memory64 initial maximum page xs is adds brings rest l.
      subst IsLinked (sym rest) (M.memory_linked m n.imports n.memories adds.0 brings.0 brings.2 adds.2 (adds.1.import_is ∙ ap Some is) (ap brought brings.1.kind_is ∙ ap (item spaces.Memory) xs)
      (λ y has. contains_none y has) l);
  globals = λ m n g i «module» name ty mutable shared gs is adds brings rest lives l.
      let back = ap Some is in
      let forth = ap brought brings.1.kind_is ∙ ap (item spaces.Global) gs in
      subst IsLinked (sym rest) (G.global_linked m n.imports n.globals _ brings.0 brings.2 adds back forth
      (λ y has. (G.in_space m n.imports n.globals _ brings.0 brings.2 adds back forth y.space).lives_kept y.id (lives y (without_end (val_names ty) y has))) l);
  tags = λ m n t i ty «module» name ts is adds brings rest lives l.
      subst IsLinked (sym rest) (E.tag_linked m n.imports n.tags _ brings.0 brings.2 adds (ap Some is) (ap brought brings.1.kind_is ∙ ap (item spaces.Tag) ts)
      (λ y has. one_lives (record m { imports = n.imports; tags = n.tags }) (item spaces.Type ty) y lives has) l);
}
