-- Lemmas: the entries that are due to imports are formed.
use Rattle.std.specs.Prelude.{ℕ, zero, suc, ◌≡◌, Bool, true, false, nat_lt, List, [], ◌∷◌, length, map, Option, Some, None, slice_index_or, refl}
use Rattle.std.proofs.Common.{sym, subst}
use Rattle.walrus_forms.specs.Renaming.{RefBelow, ValueBelow}
use Rattle.wasm_features.specs.declared.WasmFeatures.{WasmFeatures}
use Rattle.wasm_formats.specs.declared.fault.Space.{Space}
use Rattle.wasm_formats.specs.declared.fault.Space.TheVariants as spaces
use Rattle.wasm_grammar.specs.Modules.{Function, Table, Memory, Global, Tag, Import, Module, empty}
use Rattle.wasm_grammar.specs.States.{State, nothing_yet, types_of}
use Rattle.wasm_grammar.specs.Values.{in_order, memory_limits}
use Rattle.wasm_sections.specs.Entities.{Entity, FunctionOf, TableOf, MemoryOf, GlobalOf, TagOf, TableType, GlobalType, MemoryType, TagType, function_once, table_once, memory_once, global_once, tag_once, global_type, import_entry, table_type, tag_type}
use Rattle.wasm_grammar.specs.States.{function_type as function_index}
use Rattle.wasm_module_bytes.specs.Due.{bit, global_from, memory_from, space_kind, table_from}
use Rattle.wasm_module_rules.specs.Entries.{AllRuled}
use Rattle.wasm_module_rules.specs.Linked.{Each, IsFunctionType, IsLimited, IsLinked}
use Rattle.wasm_module_spellings.specs.Spelled.{IsFormed}
use Rattle.wasm_module_spellings.proofs.Values.{must_pass, ref_ruled, value_ruled}
use Rattle.wasm_ruled_modules.specs.Rules.{AreNamed, IsPageSize}
use Rattle.wasm_canonical.specs.Due.{entity_due, function_due, global_due, import_due, memory_due, table_due, tag_due}
use Rattle.wasm_canonical.specs.Dense.{BringAll, Brings, Counts, one_more}
use Rattle.wasm_canonical.proofs.Limits.{memory_limits_ruled, table_limits_ruled}

each_at : {A : Type 0} (P : A → Type 0) (xs : List (Option A)) (n : ℕ) (x : A) → Each P xs → slice_index_or xs n None ≡ Some x → P x
each_at P [] n x h e = absurd cc
each_at P (None ∷ xs) zero x h e = absurd cc
each_at P (None ∷ xs) (suc n) x h e = each_at P xs n x h e
each_at P (Some y ∷ xs) zero x h e = rw (← some_same y x e) h.0
  where
    some_same : {A : Type 0} (x y : A) → (let some : A → Option A = λ x. Some x in some x ≡ some y) → x ≡ y
    some_same x y e = cc
each_at P (Some y ∷ xs) (suc n) x h e = each_at P xs n x h.1 e

-- what is asked of imported items
pub record Typed (m : Module) : Type 0 where
  pub linked : IsLinked m
  pub named : AreNamed m

pub holds_typed : (m : Module) → IsLinked m → AreNamed m → Typed m
holds_typed m h k = record { linked = h; named = k }

module _ (features : WasmFeatures) (m : Module) (h : Typed m) where
  abbrev s : State
  s = record nothing_yet { filled = record empty { groups = m.groups } }

  abbrev Formed : List ℕ → List ℕ → ℕ → Entity → Type 0
  Formed a b kind e = IsFormed (import_entry features) (a, (b, (kind, e)))

  function_formed : (a b : List ℕ) (ty : ℕ) → IsFunctionType m ty → Formed a b 0 (FunctionOf ty)
  function_formed a b ty is = (s, ((tt, (tt, ((tt, refl), (λ y e. subst (λ (y : ℕ). (function_index s).rules y) (sym (function_once y ty e)) (tt, is))))), refl))

  table_formed : (a b : List ℕ) (t : Table) → in_order t.initial t.maximum ≡ true → RefBelow (length (types_of m)) t.element → Formed a b 1 (TableOf (table_from t))
  table_formed a b t order named = (
    s,
    ((tt, (tt, ((tt, refl), (λ y e. subst (λ (y : TableType). (table_type features s).rules y) (sym (table_once y (table_from t) e)) (ref_ruled features (length (types_of m)) t.element named, table_limits_ruled t order))))), refl),
  )

  memory_formed : (a b : List ℕ) (x : Memory) → IsLimited x → IsPageSize x.page_size_log2 → Formed a b 2 (MemoryOf (memory_from x))
  memory_formed a b x limited page = (s, ((tt, (tt, ((tt, refl), (λ y e. subst (λ (y : MemoryType). (memory_limits None).rules y) (sym (memory_once y (memory_from x) e)) (memory_limits_ruled x limited page))))), refl))

  mutable_flags : (b : Bool) → (nat_lt (bit 1 b) 4 ≡ true) × (nat_lt (bit 1 b) 2 ≡ true)
  mutable_flags true = (refl, refl)
  mutable_flags false = (refl, refl)

  global_formed : (a b : List ℕ) (g : Global) → ValueBelow (length (types_of m)) g.ty → Formed a b 3 (GlobalOf (global_from g))
  global_formed a b g named =
      let f = mutable_flags g.mutable in (
        s,
        (
          (
            tt,
            (
              tt,
              (
                (tt, refl),
                (λ y e. subst (λ (y : GlobalType). (global_type features s).rules y) (sym (global_once y (global_from g) e))
                    (value_ruled features (length (types_of m)) g.ty named, ((tt, must_pass (nat_lt (bit 1 g.mutable) 4) _ f.0), must_pass (nat_lt (bit 1 g.mutable) 2) _ f.1))),
              ),
            ),
          ),
          refl,
        ),
      )

  tag_formed : (a b : List ℕ) (ty : ℕ) → IsFunctionType m ty → Formed a b 4 (TagOf (tt, ty))
  tag_formed a b ty is = (s, ((tt, (tt, ((tt, refl), (λ y e. subst (λ (y : TagType). (tag_type s).rules y) (sym (tag_once y (tt, ty) e)) (tt, (tt, is)))))), refl))

  one_formed : (c : Counts) (a b : List ℕ) (space : Space) (n : ℕ) → Brings m c space n → Formed a b (space_kind space) (entity_due m space n)
  one_formed c a b spaces.Function n (same, (f, at, from)) =
      subst (λ (o : Option Function). Formed a b 0 (function_due o)) (sym at) (function_formed a b f.ty (each_at (λ (f : Function). IsFunctionType m f.ty) m.functions n f h.linked.functions_typed at))
  one_formed c a b spaces.Table n (same, (t, at, from, none)) =
      subst (λ (o : Option Table). Formed a b 1 (table_due o)) (sym at)
      (table_formed a b t (each_at (λ (t : Table). in_order t.initial t.maximum ≡ true) m.tables n t h.linked.tables_limited at) (each_at (λ (t : Table). RefBelow (length (types_of m)) t.element) m.tables n t h.named.tables at))
  one_formed c a b spaces.Memory n (same, (x, at, from)) =
      subst (λ (o : Option Memory). Formed a b 2 (memory_due o)) (sym at)
      (memory_formed a b x (each_at IsLimited m.memories n x h.linked.memories_limited at) (each_at (λ (x : Memory). IsPageSize x.page_size_log2) m.memories n x h.named.pages at))
  one_formed c a b spaces.Global n (same, (g, at, from)) =
      subst (λ (o : Option Global). Formed a b 3 (global_due o)) (sym at) (global_formed a b g (each_at (λ (g : Global). ValueBelow (length (types_of m)) g.ty) m.globals n g h.named.globals at))
  one_formed c a b spaces.Tag n (same, (t, at, from)) =
      subst (λ (o : Option Tag). Formed a b 4 (tag_due o)) (sym at) (tag_formed a b t.ty (each_at (λ (t : Tag). IsFunctionType m t.ty) m.tags n t h.linked.tags_typed at))
  one_formed c a b spaces.Type n k = absurd k
  one_formed c a b spaces.Element n k = absurd k
  one_formed c a b spaces.Data n k = absurd k
  one_formed c a b spaces.Local n k = absurd k
  one_formed c a b spaces.Label n k = absurd k

  pub imports_formed : (c : Counts) (is : List Import) → BringAll m c is → AllRuled (IsFormed (import_entry features)) (map (import_due m) is)
  imports_formed c [] k = tt
  imports_formed c (i ∷ is) k = (one_formed c i.space_name i.name i.item.space i.item.number k.0, imports_formed (one_more c i.item.space) is k.1)
