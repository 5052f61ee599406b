-- Lemmas: a module that is read has as many bodies as own functions.
use Rattle.std.specs.Prelude.{ℕ, ◌+◌, ◌<◌, ◌≤◌, ◌≡◌, ◌==◌, ◌⊎◌, nat_lt, true, List, [], ◌∷◌, ◌++◌, length, map, fold, Option, Some, None, refl}
use Rattle.std.specs.List.{filter_map}
use Rattle.std.proofs.Common.{ap, sym, ◌∙◌, subst, arith, inl, inr}
use Rattle.std.proofs.lemmas.Bool.{eqb-true, ltb-true}
use Rattle.std.proofs.lemmas.List.{length-append, length-map}
use Rattle.std.proofs.lemmas.List.Elements.{filter_map-append}
use Rattle.wasm_features.specs.declared.WasmFeatures.{WasmFeatures}
use Rattle.wasm_formats.specs.Stops.{SectionOrder, Count}
use Rattle.wasm_formats.specs.Lists.{SpellsEntries, EntryRules}
use Rattle.wasm_formats.specs.Wholes.{whole, sized}
use Rattle.wasm_module_rules.specs.wasm_modules.wasm_body_grammar.wasm_grammar.Modules.{Own, Imported, Function}
use Rattle.wasm_module_rules.specs.wasm_modules.wasm_body_grammar.wasm_grammar.States.{Chunk, State, nothing_yet}
use Rattle.wasm_module_rules.specs.wasm_modules.wasm_body_grammar.wasm_grammar.Values.{must}
use Rattle.wasm_module_rules.specs.wasm_modules.wasm_body_grammar.Codes.{own_type}
use Rattle.wasm_module_rules.specs.wasm_modules.wasm_sections.TypeSection.{add_group}
use Rattle.wasm_module_rules.specs.wasm_modules.wasm_sections.Entities.{Entity, FunctionOf, TableOf, MemoryOf, GlobalOf, TagOf, add_entity, add_import, import_of, with_import, add_function, no_body, TableEntry, add_table, add_memory, add_tag, add_global}
use Rattle.wasm_module_rules.specs.wasm_modules.wasm_sections.Exports.{add_export}
use Rattle.wasm_module_rules.specs.wasm_modules.wasm_sections.Segments.{add_element, add_data}
use Rattle.wasm_module_rules.specs.wasm_modules.wasm_sections.Sections.{own_functions, CodeEntry, code, chunk_of, Section, CustomSection, TypeSection, ImportSection, FunctionSection, TableSection, MemorySection, TagSection, GlobalSection, ExportSection, StartSection, ElementSection, DataCountSection, CodeSection, DataSection, code_once, id_of, section, order_test, SectionEntry, section_entry, put, ends_with, next}
use Rattle.wasm_module_rules.specs.wasm_modules.wasm_sections.Ids.{section_id}
use Rattle.wasm_module_rules.specs.wasm_modules.wasm_sections.Modules.{FileEntry, file, state_of, has_bodies, has_data}
use Rattle.wasm_module_rules.specs.wasm_modules.Modules.{chunks_of}
use Rattle.wasm_module_rules.specs.Keeps.{must_holds, and_both}

-- how many functions are the module's own
abbrev owns : State → ℕ
owns s = length (filter_map own_type s.filled.functions)

abbrev IsSummed : State → Type 0
IsSummed s = s.imported + owns s ≡ length s.filled.functions

-- once there are bodies there is one for each own function, and the code section was read
abbrev AreMatched : State → Type 0
AreMatched s = (s.bodies ≡ None) ⊎ ((12 ≤ s.last) × (length (chunks_of s.bodies) ≡ owns s))

-- ---- functions

more_functions : (fs : List (Option Function)) (f : Option Function) → length (filter_map own_type (fs ++ f ∷ [])) ≡ length (filter_map own_type fs) + length (filter_map own_type (f ∷ []))
more_functions fs f = ap length (filter_map-append own_type fs (f ∷ [])) ∙ length-append (filter_map own_type fs) (filter_map own_type (f ∷ []))

function_summed : (s : State) (x : ℕ) → IsSummed s → IsSummed (add_function s x)
function_summed s x h =
    let f : Option Function = Some (record { ty = x; origin = Own no_body }) in
    omega (arith, h, more_functions s.filled.functions f, length-append s.filled.functions (f ∷ []))

entity_summed : (s : State) (n : ℕ) (e : Entity) → IsSummed s → IsSummed (add_entity s n e)
entity_summed s n (FunctionOf ty) h =
    let f : Option Function = Some (record { ty = ty; origin = Imported n }) in
    omega (arith, h, more_functions s.filled.functions f, length-append s.filled.functions (f ∷ []))
entity_summed s n (TableOf ty) h = h
entity_summed s n (MemoryOf ty) h = h
entity_summed s n (GlobalOf ty) h = h
entity_summed s n (TagOf ty) h = h

fold_summed : {A : Type 0} (add : State → A → State) → ((s : State) (x : A) → IsSummed s → IsSummed (add s x)) → (xs : List A) (s : State) → IsSummed s → IsSummed (fold add s xs)
fold_summed add one [] s h = h
fold_summed add one (x ∷ xs) s h = fold_summed add one xs (add s x) (one s x h)

-- ---- what sections leave alone

fold_keeps : {A T : Type 0} (look : State → T) (add : State → A → State) → ((s : State) (x : A) → look (add s x) ≡ look s) → (xs : List A) (s : State) → look (fold add s xs) ≡ look s
fold_keeps look add same [] s = refl
fold_keeps look add same (x ∷ xs) s = fold_keeps look add same xs (add s x) ∙ same s x

abbrev looked : State → (ℕ × List (Option Function)) × Option (List Chunk)
looked s = ((s.imported, s.filled.functions), s.bodies)

abbrev bodies_in : State → Option (List Chunk)
bodies_in s = s.bodies

import_bodies : (s : State) (n : ℕ) (e : Entity) → bodies_in (add_entity s n e) ≡ bodies_in s
import_bodies s n (FunctionOf ty) = refl
import_bodies s n (TableOf ty) = refl
import_bodies s n (MemoryOf ty) = refl
import_bodies s n (GlobalOf ty) = refl
import_bodies s n (TagOf ty) = refl

table_same : (s : State) (x : TableEntry) → looked (add_table s x) ≡ looked s
table_same s (inl x) = refl
table_same s (inr ty) = refl

-- sums and bodies behind a section that leaves these alone
abbrev Fine : ℕ → (ℕ × List (Option Function)) × Option (List Chunk) → Type 0
Fine last l = (l.0.0 + length (filter_map own_type l.0.1) ≡ length l.0.1) × ((l.1 ≡ None) ⊎ ((12 ≤ last) × (length (chunks_of l.1) ≡ length (filter_map own_type l.0.1))))

early : (last n : ℕ) (l : (ℕ × List (Option Function)) × Option (List Chunk)) → last < 12 → Fine last l → Fine n l
early last n l lt (h, inl none) = (h, inl none)
early last n l lt (h, inr some) = let le = some.0 in absurd (omega (arith, lt, le))

later : (last n : ℕ) (l : (ℕ × List (Option Function)) × Option (List Chunk)) → last ≤ n → Fine last l → Fine n l
later last n l le (h, inl none) = (h, inl none)
later last n l le (h, inr some) = let twelve = some.0 in (h, inr (omega (arith, twelve, le), some.1))

same_fine : (n : ℕ) (s t : State) → looked t ≡ looked s → Fine n (looked s) → Fine n (looked t)
same_fine n s t e h = subst (Fine n) (sym e) h

order_below : (s : State) (r : ℕ) → must (nat_lt s.last r) SectionOrder ≡ None → s.last < r
order_below s r e = ltb-true s.last r (must_holds (nat_lt s.last r) SectionOrder e)

none_still : (n : ℕ) (s t : State) → bodies_in t ≡ bodies_in s → IsSummed t → s.last < 12 → Fine s.last (looked s) → Fine n (looked t)
none_still n s t e sum lt (h, inl none) = (sum, inl (e ∙ none))
none_still n s t e sum lt (h, inr some) = let le = some.0 in absurd (omega (arith, lt, le))

put_fine : (features : WasmFeatures) (s : State) (end : ℕ) (bytes : List ℕ) (x : Section) → (section features s (id_of x)).spells bytes x → (section features s (id_of x)).rules x → order_test s.last (id_of x) ≡ None
    → Fine s.last (looked s) → Fine (ends_with (id_of x) end (put s end x)).last (looked (put s end x))
put_fine features s end bytes (CustomSection x) h r o f = f
put_fine features s end bytes (TypeSection x) h r o f =
    let lt = order_below s 1 o in early s.last 1 (looked (fold add_group s x)) (omega (arith, lt)) (same_fine s.last s (fold add_group s x) (fold_keeps looked add_group (λ s x. refl) x s) f)
put_fine features s end bytes (ImportSection x) h r o f =
    let lt = order_below s 2 o in
    none_still 2 s (fold add_import s x) (fold_keeps bodies_in add_import (λ s x. import_bodies (with_import s (import_of s x)) (length s.filled.imports) x.1.1.1) x s)
    (fold_summed add_import (λ s x h. entity_summed (with_import s (import_of s x)) (length s.filled.imports) x.1.1.1 h) x s f.0) (omega (arith, lt)) f
put_fine features s end bytes (FunctionSection x) h r o f =
    let lt = order_below s 3 o in
    none_still 3 s (fold add_function s x) (fold_keeps bodies_in add_function (λ s x. refl) x s) (fold_summed add_function function_summed x s f.0) (omega (arith, lt)) f
put_fine features s end bytes (TableSection x) h r o f =
    let lt = order_below s 4 o in early s.last 4 (looked (fold add_table s x)) (omega (arith, lt)) (same_fine s.last s (fold add_table s x) (fold_keeps looked add_table table_same x s) f)
put_fine features s end bytes (MemorySection x) h r o f =
    let lt = order_below s 5 o in early s.last 5 (looked (fold add_memory s x)) (omega (arith, lt)) (same_fine s.last s (fold add_memory s x) (fold_keeps looked add_memory (λ s x. refl) x s) f)
put_fine features s end bytes (TagSection x) h r o f =
    let lt = order_below s 6 o in early s.last 6 (looked (fold add_tag s x)) (omega (arith, lt)) (same_fine s.last s (fold add_tag s x) (fold_keeps looked add_tag (λ s x. refl) x s) f)
put_fine features s end bytes (GlobalSection x) h r o f =
    let lt = order_below s 7 o in early s.last 7 (looked (fold add_global s x)) (omega (arith, lt)) (same_fine s.last s (fold add_global s x) (fold_keeps looked add_global (λ s x. refl) x s) f)
put_fine features s end bytes (ExportSection x) h r o f =
    let lt = order_below s 8 o in early s.last 8 (looked (fold add_export s x)) (omega (arith, lt)) (same_fine s.last s (fold add_export s x) (fold_keeps looked add_export (λ s x. refl) x s) f)
put_fine features s end bytes (StartSection x) h r o f = let lt = order_below s 9 o in early s.last 9 (looked s) (omega (arith, lt)) f
put_fine features s end bytes (ElementSection x) h r o f =
    let lt = order_below s 10 o in early s.last 10 (looked (fold add_element s x)) (omega (arith, lt)) (same_fine s.last s (fold add_element s x) (fold_keeps looked add_element (λ s x. refl) x s) f)
put_fine features s end bytes (DataCountSection x) h r o f = let lt = order_below s 11 o in early s.last 11 (looked s) (omega (arith, lt)) f
put_fine features s end bytes (CodeSection x) h r o f =
    let k = subst (λ (c : CodeEntry). (sized (whole (code s))).spells bytes c) (code_once h.0 x h.1) h.2 in
    let parts = k.4 in
    let list = parts.4 in
    let rules = r x refl in
    let count = rules.0 in
    let is = eqb-true x.0.1 (own_functions s) (must_holds (x.0.1 == own_functions s) Count count.1) in
    let sum = f.0 in
    let size : length (map chunk_of x.1) ≡ owns s = omega (arith, length-map x.1 chunk_of, list.1, is, sum) in
    (sum, inr (omega arith, size))
put_fine features s end bytes (DataSection x) h r o f =
    let lt = order_below s 13 o in later s.last 13 (looked (fold add_data s x)) (omega (arith, lt)) (same_fine s.last s (fold add_data s x) (fold_keeps looked add_data (λ s x. refl) x s) f)

next_fine : (features : WasmFeatures) (s : State) (bytes : List ℕ) (x : SectionEntry) → (section_entry features s).spells bytes x → (section_entry features s).rules x → Fine s.last (looked s) → Fine (next s x).last (looked (next s x))
next_fine features s bytes x h r f =
    let parts = h.0 in
    let is = section_id features s x.1.0 parts.1 x.1.1 parts.4 in
    let same = sym is in
    let order = r.0 in
    let fine = put_fine features s x.0 parts.1 x.1.1 (subst (λ (n : ℕ). (section features s n).spells parts.1 x.1.1) same parts.4) (subst (λ (n : ℕ). (section features s n).rules x.1.1) same r.1)
    (subst (λ (n : ℕ). order_test s.last n ≡ None) same order.1) f in
    subst (λ (n : ℕ). Fine (ends_with n x.0 (put s x.0 x.1.1)).last (looked (put s x.0 x.1.1))) is fine

all_fine : (features : WasmFeatures) (xs : List SectionEntry) (s : State) (bytes : List ℕ) → SpellsEntries next (section_entry features) s bytes xs → EntryRules next (section_entry features) s xs
    → Fine s.last (looked s) → Fine (fold next s xs).last (looked (fold next s xs))
all_fine features [] s bytes h r f = f
all_fine features (x ∷ xs) s bytes h r f = all_fine features xs (next s x) h.1 h.4 r.1 (next_fine features s h.0 x h.3 r.0 f)

none_there : (s : State) → s.bodies ≡ None → has_bodies s ≡ true → own_functions s ≡ 0
none_there s e h = eqb-true (own_functions s) 0 (rw e at h)

-- as many bodies as own functions
pub bodies_match : (features : WasmFeatures) (bytes : List ℕ) (x : FileEntry) → (file features).spells bytes x → (file features).rules x
    → length (chunks_of (state_of x).bodies) ≡ length (filter_map own_type (state_of x).filled.functions)
bodies_match features bytes x h r =
    let sections = r.0 in
    let fine = all_fine features x.1 nothing_yet h.1 h.4 sections.1 (refl, inl refl) in
    let all = and_both (has_bodies (state_of x)) (has_data (state_of x)) r.1 in
    go (state_of x) fine.0 fine.1 all.0
  where
    go : (s : State) → IsSummed s → AreMatched s → has_bodies s ≡ true → length (chunks_of s.bodies) ≡ owns s
    go s sum (inl none) there = let no = none_there s none there in rw none (omega (arith, sum, no))
    go s sum (inr some) there = some.1
