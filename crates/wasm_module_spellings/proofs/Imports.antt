-- Lemmas: imports of a module that meets the rules met those of their entries, at the states before them.
use Rattle.std.specs.Prelude.{ℕ, ◌<◌, ◌≡◌, List, length, Some, None, refl}
use Rattle.std.proofs.Common.{sym, subst, arith}
use Rattle.wasm_features.specs.declared.WasmFeatures.{WasmFeatures}
use Rattle.walrus_forms.specs.Renaming.{RefBelow, ValueBelow}
use Rattle.wasm_grammar.specs.Modules.{Imported, Function, Table, Tag, Global, Import, Module}
use Rattle.wasm_grammar.specs.States.{State, types_of, type_count, count_of, most, function_type}
use Rattle.wasm_sections.specs.Entities.{TableType, table_type, GlobalType, global_type, TagType, tag_type, table_of, memory_of, global_of, Entity, FunctionOf, TableOf, MemoryOf, GlobalOf, TagOf, function_once, table_once, global_once, tag_once, entity, space_of, add_entity, import_of, with_import, ImportEntry, import_entry, add_import}
use Rattle.wasm_module_rules.specs.Linked.{IsFunctionType}
use Rattle.wasm_module_rules.specs.Reading.{kind_number, entity_kind}
use Rattle.wasm_module_spellings.specs.Spelled.{IsFormed}
use Rattle.wasm_module_spellings.proofs.Fronts.{Fronts, item_is, global_is, front_longer, globals_longer, before_function, before_table, before_memory, before_tag, before_global, before_import}
use Rattle.wasm_module_spellings.proofs.Values.{below_passes, first_passes, room_passes, ref_ruled, value_ruled}
use Rattle.wasm_module_spellings.proofs.Items.{Holds, typed_back, types_count}

-- what is asked of an imported item in a module
abbrev Asked : Module → Entity → Type 0
Asked m (FunctionOf ty) = IsFunctionType m ty
Asked m (TableOf ty) = RefBelow (length (types_of m)) ty.0
Asked m (MemoryOf ty) = Unit {0}
Asked m (GlobalOf ty) = ValueBelow (length (types_of m)) ty.0
Asked m (TagOf ty) = IsFunctionType m ty.1

-- with what its own bytes say
entity_ruled : (features : WasmFeatures) (s t : State) (e : Entity) → (entity features t (kind_number e)).rules e → Asked s.filled e → (entity features s (kind_number e)).rules e
entity_ruled features s t (FunctionOf ty) r a = λ y e. subst (λ (y : ℕ). (function_type s).rules y) (sym (function_once y ty e)) (tt, a)
entity_ruled features s t (TableOf ty) r a =
    let q = r ty refl in λ y e. subst (λ (y : TableType). (table_type features s).rules y) (sym (table_once y ty e)) (ref_ruled features (type_count s) ty.0 a, q.1)
entity_ruled features s t (MemoryOf ty) r a = r
entity_ruled features s t (GlobalOf ty) r a =
    let q = r ty refl in λ y e. subst (λ (y : GlobalType). (global_type features s).rules y) (sym (global_once y ty e)) (value_ruled features (type_count s) ty.0 a, q.1)
entity_ruled features s t (TagOf ty) r a = λ y e. subst (λ (y : TagType). (tag_type s).rules y) (sym (tag_once y ty e)) (tt, (tt, a))

-- the import itself counts in no other space
import_counts : (s : State) (x : Import) (e : Entity) → count_of (with_import s x).filled (space_of e) ≡ count_of s.filled (space_of e)
import_counts s x (FunctionOf ty) = refl
import_counts s x (TableOf ty) = refl
import_counts s x (MemoryOf ty) = refl
import_counts s x (GlobalOf ty) = refl
import_counts s x (TagOf ty) = refl

module _ (w : Module) (h : Holds w) where
  asked_back : (s : State) (e : Entity) → Fronts 1 s.filled w → Asked w e → Asked s.filled e
  asked_back s (FunctionOf ty) f a = typed_back 1 s.filled w ty (omega arith) f a
  asked_back s (TableOf ty) f a = subst (λ (n : ℕ). RefBelow n ty.0) (types_count 1 s.filled w (omega arith) f) a
  asked_back s (MemoryOf ty) f a = tt
  asked_back s (GlobalOf ty) f a = subst (λ (n : ℕ). ValueBelow n ty.0) (types_count 1 s.filled w (omega arith) f) a
  asked_back s (TagOf ty) f a = typed_back 1 s.filled w ty.1 (omega arith) f a

  entity_back : (s : State) (n : ℕ) (e : Entity) → Fronts 1 (add_entity s n e).filled w → Fronts 1 s.filled w × Asked w e × (count_of s.filled (space_of e) < most (space_of e))
  entity_back s n (FunctionOf ty) f =
      let y : Function = record { ty = ty; origin = Imported n } in
      let lt = front_longer 3 1 s.filled.functions w.functions (Some y) f.functions in
      let le = h.lists.functions in
      (before_function 1 s.filled w y (omega arith) f, item_is (λ (g : Function). IsFunctionType w g.ty) 3 1 s.filled.functions w.functions y f.functions h.linked.functions_typed, omega (arith, lt, le))
  entity_back s n (TableOf ty) f =
      let y = table_of ty None (Some n) in
      let lt = front_longer 4 1 s.filled.tables w.tables (Some y) f.tables in
      let le = h.lists.tables in
      (before_table 1 s.filled w y (omega arith) f, item_is (λ (t : Table). RefBelow (length (types_of w)) t.element) 4 1 s.filled.tables w.tables y f.tables h.named.tables, omega (arith, lt, le))
  entity_back s n (MemoryOf ty) f =
      let y = memory_of ty (Some n) in
      let lt = front_longer 5 1 s.filled.memories w.memories (Some y) f.memories in
      let le = h.lists.memories in
      (before_memory 1 s.filled w y (omega arith) f, tt, omega (arith, lt, le))
  entity_back s n (GlobalOf ty) f =
      let y = global_of ty (Imported n) in
      let lt = globals_longer 1 s.filled.globals w.globals (Some y) f.globals in
      let le = h.lists.globals in
      (before_global 1 s.filled w y (omega arith) (λ at. absurd (omega (arith, at))) f, global_is (λ (g : Global). ValueBelow (length (types_of w)) g.ty) 1 s.filled.globals w.globals y f.globals h.named.globals, omega (arith, lt, le))
  entity_back s n (TagOf ty) f =
      let y : Tag = record { ty = ty.1; imported = Some n } in
      let lt = front_longer 6 1 s.filled.tags w.tags (Some y) f.tags in
      let le = h.lists.tags in
      (before_tag 1 s.filled w y (omega arith) f, item_is (λ (t : Tag). IsFunctionType w t.ty) 6 1 s.filled.tags w.tags y f.tags h.linked.tags_typed, omega (arith, lt, le))

  pub import_back : (features : WasmFeatures) (s : State) (bytes : List ℕ) (x : ImportEntry) → (import_entry features s).spells bytes x → IsFormed (import_entry features) x → Fronts 1 (add_import s x).filled w
      → Fronts 1 s.filled w × (import_entry features s).rules x
  import_back features s bytes x spelled formed f =
      let i = import_of s x in
      let e = x.1.1.1 in
      let t = with_import s i in
      let one = entity_back t (length s.filled.imports) e f in
      let b = before_import 1 s.filled w i (omega arith) one.0 in
      let fi = one.0 in
      let lt = front_longer 2 1 s.filled.imports w.imports (Some i) fi.imports in
      let le = h.lists.imports in
      let told = spelled.4 in let inner = told.4 in
      let kind = entity_kind features s x.1.1.0 inner.1 e inner.4 in
      let r = formed.1 in let r0 = r.0 in let r1 = r0.1 in let r2 = r1.1 in
      let own = subst (λ (k : ℕ). (entity features formed.0 k).rules e) (sym kind) r2.1 in
      let rules = subst (λ (k : ℕ). (entity features s k).rules e) kind (entity_ruled features s formed.0 e own (asked_back s e b one.1)) in
      let room = subst (λ (n : ℕ). n < most (space_of e)) (import_counts s i e) one.2 in
      (b, ((r0.0, (r1.0, (r2.0, rules))), first_passes _ _ (below_passes (length s.filled.imports) 1000000 _ (omega (arith, lt, le))) (room_passes s (space_of e) room)))
