-- Lemmas: a file's module has imports and items that name one another, and imported globals first.
use Rattle.std.specs.Prelude.{ℕ, zero, suc, ◌≡◌, ◌<◌, ◌≤◌, ◌⊎◌, Bool, true, false, List, [], ◌∷◌, ◌++◌, length, map, filter, Option, Some, None, slice_index_or, refl, if◌then◌else◌, ◌==◌}
use Rattle.std.specs.List.{AllByRecursion}
use Rattle.std.specs.Option.{option_map}
use Rattle.std.proofs.Common.{ap, sym, ◌∙◌, subst, arith, inl, inr}
use Rattle.walrus_forms.specs.Records.{TypeGroup}
use Rattle.walrus_forms.specs.Renaming.{at}
use Rattle.wasm_features.specs.declared.WasmFeatures.{WasmFeatures}
use Rattle.wasm_formats.specs.declared.fault.Space.{Space}
use Rattle.wasm_formats.specs.declared.fault.Space.TheVariants as spaces
use Rattle.wasm_grammar.specs.Modules.{Body, Export, Expr, Function, Global, Imported, Mode, Passive, Declared, Active, Module, Origin, Own, Segment, Table, empty}
use Rattle.wasm_grammar.specs.States.{State}
use Rattle.wasm_body_grammar.specs.Codes.{param_count}
use Rattle.wasm_modules.specs.Modules.{Reads, module_of}
use Rattle.wasm_sections.specs.Entities.{Entity, FunctionOf, TableOf, MemoryOf, GlobalOf, TagOf, TableEntry, add_entity, add_table, global_of, import_of, with_import}
use Rattle.wasm_sections.specs.Exports.{kind_space}
use Rattle.wasm_sections.specs.Segments.{DataForm, ActiveData, PassiveData, DataInto, segment_of}
use Rattle.wasm_module_rules.specs.Linked.{Each}
use Rattle.wasm_ruled_modules.specs.Keeping.{EntriesKeepAt, file_kept_at}
use Rattle.wasm_ruled_modules.specs.Rules.{around_bodies, is_imported}
use Rattle.wasm_section_bytes.specs.Flags.{IsNotDeclared}
use Rattle.wasm_module_bytes.specs.Due.{IsExported}
use Rattle.wasm_import_links.specs.Links.{ImportsLink, ReadModulesLink, brought, function_brought, global_brought, slot_import, table_brought, tag_brought}
use Rattle.wasm_normal_modules.specs.Modules.{each, normal_function, normal_origin, retyped_expr, retyped_global, retyped_mode, retyped_origin, retyped_segment, retyped_table, retyped_tag}
use Rattle.wasm_merged_modules.specs.Merged.{ids_of, merged_module}
use Rattle.wasm_part.specs.Written.{GlobalsFirst}
use Rattle.wasm_rewritten.specs.Dense.{IsOrderly}
use Rattle.wasm_rewritten.specs.Orderly.{ReadFilesAreOrderly}

-- ---- imported globals come first

abbrev AllIn : List (Option Global) → Type 0
AllIn gs = AllByRecursion (λ (g : Option Global). is_imported g ≡ true) gs

abbrev AllOwn : List (Option Global) → Type 0
AllOwn gs = AllByRecursion (λ (g : Option Global). is_imported g ≡ false) gs

abbrev InFirst : List (Option Global) → Type 0
InFirst [] = Unit {0}
InFirst (g ∷ gs) = ((is_imported g ≡ true) × InFirst gs) ⊎ AllOwn (g ∷ gs)

in_more : (gs : List (Option Global)) (g : Option Global) → AllIn gs → is_imported g ≡ true → AllIn (gs ++ g ∷ [])
in_more [] g h e = (e, tt)
in_more (x ∷ gs) g h e = (h.0, in_more gs g h.1 e)

all_first : (gs : List (Option Global)) → AllIn gs → InFirst gs
all_first [] h = tt
all_first (g ∷ gs) h = inl (h.0, all_first gs h.1)

own_more : (gs : List (Option Global)) (g : Option Global) → AllOwn gs → is_imported g ≡ false → AllOwn (gs ++ g ∷ [])
own_more [] g h e = (e, tt)
own_more (x ∷ gs) g h e = (h.0, own_more gs g h.1 e)

first_more : (gs : List (Option Global)) (g : Option Global) → InFirst gs → is_imported g ≡ false → InFirst (gs ++ g ∷ [])
first_more [] g h e = inr (e, tt)
first_more (x ∷ gs) g (inl h) e = inl (h.0, first_more gs g h.1 e)
first_more (x ∷ gs) g (inr h) e = inr (h.0, own_more gs g h.1 e)

none_in : (gs : List (Option Global)) → AllOwn gs → filter is_imported gs ≡ []
none_in [] h = refl
none_in (g ∷ gs) h = rw h.0 (none_in gs h.1)

pub firsts : (gs : List (Option Global)) → InFirst gs → (n : ℕ) → n < length (filter is_imported gs) → is_imported (slice_index_or gs n None) ≡ true
firsts [] h n lt = absurd (omega (arith, lt))
firsts (g ∷ gs) (inl h) zero lt = h.0
firsts (g ∷ gs) (inl h) (suc n) lt = firsts gs h.1 n (less g (filter is_imported gs) h.0 lt)
  where
    less : (g : Option Global) (rest : List (Option Global)) → is_imported g ≡ true → suc n < length (if is_imported g then g ∷ rest else rest) → n < length rest
    less g rest e lt = let lt2 : suc n < length (g ∷ rest) = subst (λ (b : Bool). suc n < length (if b then g ∷ rest else rest)) e lt in omega (arith, lt2)
firsts (g ∷ gs) (inr h) n lt = let none : length (filter is_imported (g ∷ gs)) ≡ 0 = ap (λ (l : List (Option Global)). length l) (none_in (g ∷ gs) h) in absurd (omega (arith, lt, none))

-- ---- what each entry keeps, where sections stand in this place

abbrev TablePlain : Table → Type 0
TablePlain t = (i : ℕ) → t.imported ≡ Some i → t.init ≡ None

record Keeps (place : ℕ) (m : Module) : Type 0 where
  tables : Each TablePlain m.tables
  exports : Each (λ (e : Export). IsExported e.item.space) m.exports
  segments : Each (λ (x : Segment). IsNotDeclared x.mode) m.segments
  all_in : place < 7 → AllIn m.globals
  first : InFirst m.globals

pushed : {A : Type 0} (P : A → Type 0) (xs : List (Option A)) (x : A) → Each P xs → P x → Each P (xs ++ Some x ∷ [])
pushed P [] x h p = (p, tt)
pushed P (None ∷ xs) x h p = pushed P xs x h p
pushed P (Some y ∷ xs) x h p = (h.0, pushed P xs x h.1 p)

moves : (a b : ℕ) (m : Module) → a ≤ b → Keeps a m → Keeps b m
moves a b m le h = record { tables = h.tables; exports = h.exports; segments = h.segments; all_in = λ lt. h.all_in (omega (arith, le, lt)); first = h.first }

entity_kept : (s : State) (n : ℕ) (e : Entity) → Keeps 2 s.filled → Keeps 2 (add_entity s n e).filled
entity_kept s n (FunctionOf ty) h = record { tables = h.tables; exports = h.exports; segments = h.segments; all_in = h.all_in; first = h.first }
entity_kept s n (TableOf ty) h = record { tables = pushed TablePlain s.filled.tables _ h.tables (λ i e. refl); exports = h.exports; segments = h.segments; all_in = h.all_in; first = h.first }
entity_kept s n (MemoryOf ty) h = record { tables = h.tables; exports = h.exports; segments = h.segments; all_in = h.all_in; first = h.first }
entity_kept s n (TagOf ty) h = record { tables = h.tables; exports = h.exports; segments = h.segments; all_in = h.all_in; first = h.first }
entity_kept s n (GlobalOf ty) h =
    let all = in_more s.filled.globals (Some (global_of ty (Imported n))) (h.all_in (omega arith)) refl in
    record { tables = h.tables; exports = h.exports; segments = h.segments; all_in = λ lt. all; first = all_first (s.filled.globals ++ Some (global_of ty (Imported n)) ∷ []) all }

table_kept : (s : State) (x : TableEntry) → Keeps 4 s.filled → Keeps 4 (add_table s x).filled
table_kept s (inl x) h = record { tables = pushed TablePlain s.filled.tables _ h.tables (λ i e. absurd cc); exports = h.exports; segments = h.segments; all_in = h.all_in; first = h.first }
table_kept s (inr ty) h = record { tables = pushed TablePlain s.filled.tables _ h.tables (λ i e. refl); exports = h.exports; segments = h.segments; all_in = h.all_in; first = h.first }

exported_if : (b : Bool) (x y : Space) → IsExported x → IsExported y → IsExported (if b then x else y)
exported_if true x y h k = h
exported_if false x y h k = k

kind_exported : (kind : ℕ) → IsExported (kind_space kind)
kind_exported kind =
    exported_if (kind == 0) spaces.Function _ tt (exported_if (kind == 1) spaces.Table _ tt (exported_if (kind == 2) spaces.Memory _ tt (exported_if (kind == 3) spaces.Global spaces.Tag tt tt)))

segment_plain : (x : DataForm) → IsNotDeclared (segment_of x).mode
segment_plain (ActiveData x) = tt
segment_plain (PassiveData bytes) = tt
segment_plain (DataInto x) = tt

entries_keep : (features : WasmFeatures) → EntriesKeepAt features Keeps
entries_keep features = record {
  customs = λ place s x h. record { tables = h.tables; exports = h.exports; segments = h.segments; all_in = h.all_in; first = h.first };
  groups = λ s bytes x _ r h. record { tables = h.tables; exports = h.exports; segments = h.segments; all_in = h.all_in; first = h.first };
  imports = λ s bytes x _ r h. entity_kept (with_import s (import_of s x)) (length s.filled.imports) x.1.1.1 (record { tables = h.tables; exports = h.exports; segments = h.segments; all_in = h.all_in; first = h.first });
  functions = λ s bytes x _ r h. record { tables = h.tables; exports = h.exports; segments = h.segments; all_in = h.all_in; first = h.first };
  tables = λ s bytes x _ r h. table_kept s x h;
  memories = λ s bytes x _ r h. record { tables = h.tables; exports = h.exports; segments = h.segments; all_in = h.all_in; first = h.first };
  tags = λ s bytes x _ r h. record { tables = h.tables; exports = h.exports; segments = h.segments; all_in = h.all_in; first = h.first };
  globals = λ s bytes x _ r h. record { tables = h.tables; exports = h.exports; segments = h.segments; all_in = λ lt. absurd (omega (arith, lt)); first = first_more s.filled.globals (Some (global_of x.0 (Own x.1))) h.first refl };
  exports = λ s bytes x _ r h. record { tables = h.tables; exports = pushed (λ (e : Export). IsExported e.item.space) s.filled.exports _ h.exports (kind_exported x.0.1); segments = h.segments; all_in = h.all_in; first = h.first };
  start = λ s n r h. record { tables = h.tables; exports = h.exports; segments = h.segments; all_in = h.all_in; first = h.first };
  elements = λ s bytes x _ r h. record { tables = h.tables; exports = h.exports; segments = h.segments; all_in = h.all_in; first = h.first };
  segments = λ s bytes x _ r h. record { tables = h.tables; exports = h.exports; segments = pushed (λ (x : Segment). IsNotDeclared x.mode) s.filled.segments _ h.segments (segment_plain x.1); all_in = h.all_in; first = h.first };
}

none_kept : Keeps 0 empty
none_kept = record { tables = tt; exports = tt; segments = tt; all_in = λ lt. tt; first = tt }

-- what is left of that when bodies are in
pub record IsSorted (m : Module) : Type 0 where
  tables : Each TablePlain m.tables
  exports : Each (λ (e : Export). IsExported e.item.space) m.exports
  segments : Each (λ (x : Segment). IsNotDeclared x.mode) m.segments
  first : InFirst m.globals

read_sorted : (features : WasmFeatures) (bytes : List ℕ) (m : Module) → Reads features bytes m → IsSorted m
read_sorted features bytes m h =
    let s = h.1.0 in
    let reads = h.1.2 in
    let kept = file_kept_at features Keeps moves (entries_keep features) none_kept bytes reads.0 reads.1.0 reads.1.1 in
    let all : (t : State) → t ≡ s → Keeps t.last t.filled → IsSorted (module_of s h.1.1) = λ t e k. rw_state t e k in
    subst IsSorted h.1.4 (all _ reads.2 kept)
  where
    rw_state : (t : State) → t ≡ h.1.0 → Keeps t.last t.filled → IsSorted (module_of h.1.0 h.1.1)
    rw_state t e k = let l = subst (λ (t : State). Keeps t.last t.filled) e k in record { tables = l.tables; exports = l.exports; segments = l.segments; first = l.first }

-- ---- with types merged and bodies in normal form

each_sent : {A : Type 0} (P Q : A → Type 0) (f : A → A) (xs : List (Option A)) → ((x : A) → P x → Q (f x)) → Each P xs → Each Q (each f xs)
each_sent P Q f [] step h = tt
each_sent P Q f (None ∷ xs) step h = each_sent P Q f xs step h
each_sent P Q f (Some x ∷ xs) step h = (step x h.0, each_sent P Q f xs step h.1)

import_sent : {A : Type 0} (from : A → Option ℕ) (f : A → A) → ((x : A) → from (f x) ≡ from x) → (xs : List (Option A)) → map (slot_import from) (each f xs) ≡ map (slot_import from) xs
import_sent from f same [] = refl
import_sent from f same (None ∷ xs) = ap (λ (l : List (Option ℕ)). None ∷ l) (import_sent from f same xs)
import_sent from f same (Some x ∷ xs) = λ i. same x i ∷ import_sent from f same xs i

in_sent : (r : ℕ → ℕ) (g : Option Global) → is_imported (option_map (retyped_global r) g) ≡ is_imported g
in_sent r None = refl
in_sent r (Some g) = by g.origin
  where
    by : (o : Origin Expr) → is_imported (Some (record g { origin = retyped_origin r o })) ≡ is_imported (Some (record g { origin = o }))
    by (Imported n) = refl
    by (Own e) = refl

own_sent : (r : ℕ → ℕ) (gs : List (Option Global)) → AllOwn gs → AllOwn (each (retyped_global r) gs)
own_sent r [] h = tt
own_sent r (g ∷ gs) h = (in_sent r g ∙ h.0, own_sent r gs h.1)

first_sent : (r : ℕ → ℕ) (gs : List (Option Global)) → InFirst gs → InFirst (each (retyped_global r) gs)
first_sent r [] h = tt
first_sent r (g ∷ gs) (inl h) = inl (in_sent r g ∙ h.0, first_sent r gs h.1)
first_sent r (g ∷ gs) (inr h) = inr (in_sent r g ∙ h.0, own_sent r gs h.1)

mode_sent : (r : ℕ → ℕ) (mode : Mode) → IsNotDeclared mode → IsNotDeclared (retyped_mode r mode)
mode_sent r Passive h = tt
mode_sent r Declared h = h
mode_sent r (Active n offset) h = tt

module _ (place : Option ℕ → ℕ) (features : WasmFeatures) (more : List TypeGroup) (file : Module) where
  abbrev m : Module
  m = merged_module place features true more file

  abbrev r : ℕ → ℕ
  r = at (ids_of file.groups)

  function_same : (f : Function) → function_brought (normal_function place (around_bodies features true file) r f) ≡ function_brought f
  function_same f = by (param_count (around_bodies features true file).filled f.ty) f.origin
    where
      by : (params : ℕ) (o : Origin Body) → function_brought (record { ty = r f.ty; origin = normal_origin place (around_bodies features true file) r params o }) ≡ function_brought (record { ty = f.ty; origin = o })
      by params (Imported n) = refl
      by params (Own x) = refl

  global_same : (g : Global) → global_brought (retyped_global r g) ≡ global_brought g
  global_same g = by g.origin
    where
      by : (o : Origin Expr) → global_brought (record g { origin = retyped_origin r o }) ≡ global_brought (record g { origin = o })
      by (Imported n) = refl
      by (Own e) = refl

  brought_same : (space : Space) → brought m space ≡ brought file space
  brought_same spaces.Function = import_sent function_brought (normal_function place (around_bodies features true file) r) function_same file.functions
  brought_same spaces.Table = import_sent table_brought (retyped_table r) (λ t. refl) file.tables
  brought_same spaces.Memory = refl
  brought_same spaces.Tag = import_sent tag_brought (retyped_tag r) (λ t. refl) file.tags
  brought_same spaces.Global = import_sent global_brought (retyped_global r) global_same file.globals
  brought_same spaces.«Type» = refl
  brought_same spaces.Element = refl
  brought_same spaces.Data = refl
  brought_same spaces.Local = refl
  brought_same spaces.Label = refl

  links : ImportsLink file → ImportsLink m
  links h = record {
    named = λ i x e. ap (λ (l : List (Option ℕ)). slice_index_or l x.item.number None) (brought_same x.item.space) ∙ h.named i x e;
    told = λ space n i e. h.told space n i (ap (λ (l : List (Option ℕ)). slice_index_or l n None) (sym (brought_same space)) ∙ e);
  }

  plain_sent : (t : Table) → TablePlain t → TablePlain (retyped_table r t)
  plain_sent t h i e = ap (λ (o : Option Expr). option_map (retyped_expr r) o) (h i e)

  orderly : IsSorted file → ImportsLink file → IsOrderly m × GlobalsFirst m
  orderly h l = (
    record {
      linked = links l;
      tables = each_sent TablePlain TablePlain (retyped_table r) file.tables plain_sent h.tables;
      exports = h.exports;
      segments = each_sent (λ (x : Segment). IsNotDeclared x.mode) (λ (x : Segment). IsNotDeclared x.mode) (retyped_segment r) file.segments (λ x. mode_sent r x.mode) h.segments;
    },
    firsts m.globals (first_sent r file.globals h.first),
  )

pub files_orderly : ReadModulesLink → ReadFilesAreOrderly
files_orderly link place features bytes more file reads = orderly place features more file (read_sorted features bytes file reads) (link features bytes file reads)
