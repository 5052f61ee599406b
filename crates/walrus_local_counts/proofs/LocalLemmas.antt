-- Lemmas: functions of a module that was read have few locals.
use Rattle.std.proofs.Common.{◌≡◌, ◌≤◌, ◌⊎◌, inl, inr, ℕ, zero, suc, ◌+◌, List, [], ◌∷◌, length, slice_get, Option, Some, None, refl, subst, arith}
use Rattle.wasm_ruled_modules.specs.wasm_module_rules.wasm_modules.wasm_body_grammar.wasm_formats.wasm_features.declared.WasmFeatures.{WasmFeatures}
use Rattle.wasm_ruled_modules.specs.wasm_module_rules.wasm_modules.wasm_body_grammar.wasm_grammar.walrus_forms.Kinds.{Kind}
use Rattle.wasm_ruled_modules.specs.wasm_module_rules.wasm_modules.wasm_body_grammar.wasm_formats.declared.fault.Space.TheVariants as spaces
use Rattle.wasm_ruled_modules.specs.wasm_module_rules.wasm_modules.wasm_body_grammar.wasm_grammar.Modules.{Function, Origin, Imported, Own, Body, Module}
use Rattle.wasm_ruled_modules.specs.wasm_module_rules.wasm_modules.wasm_body_grammar.wasm_grammar.States.{State, types_of}
use Rattle.wasm_ruled_modules.specs.wasm_module_rules.wasm_modules.wasm_sections.Entities.{Entity, FunctionOf, TableOf, MemoryOf, GlobalOf, TagOf, ImportEntry, add_entity, with_import, import_of, TableEntry, add_table}
use Rattle.wasm_ruled_modules.specs.wasm_module_rules.wasm_modules.wasm_body_grammar.Bodies.{most_locals}
use Rattle.wasm_ruled_modules.specs.wasm_module_rules.wasm_modules.wasm_body_grammar.Codes.{kind_params, param_count}
use Rattle.wasm_ruled_modules.specs.wasm_module_rules.wasm_modules.wasm_body_grammar.Rules.{Around}
use Rattle.wasm_ruled_modules.specs.wasm_module_rules.Linked.{Each}
use Rattle.wasm_name_payloads.specs.Names.{body_locals, function_locals, first_slot}
use Rattle.wasm_ruled_modules.specs.Keeping.{EntriesKeep, file_kept}
use Rattle.wasm_ruled_modules.specs.Rules.{around_bodies, HasBody, OriginRuled}
use Rattle.wasm_ruled_modules.specs.Reading.{read_modules_are_ruled}
use Rattle.walrus_local_counts.specs.Locals.{FewLocals, FewAreNumbered}
use Rattle.walrus_local_counts.proofs.ParamLemmas.{AreFew, group_keeps, most_params}

-- ---- parameters

import_keeps : (s : State) (e : Entity) (x : ImportEntry) → AreFew (types_of s.filled) → AreFew (types_of (add_entity (with_import s (import_of s x)) (length s.filled.imports) e).filled)
import_keeps s (FunctionOf ty) x h = h
import_keeps s (TableOf ty) x h = h
import_keeps s (MemoryOf ty) x h = h
import_keeps s (GlobalOf ty) x h = h
import_keeps s (TagOf ty) x h = h

table_keeps : (s : State) (x : TableEntry) → AreFew (types_of s.filled) → AreFew (types_of (add_table s x).filled)
table_keeps s (inl x) h = h
table_keeps s (inr ty) h = h

few_kept : (features : WasmFeatures) → EntriesKeep features (λ m. AreFew (types_of m))
few_kept features = record {
  customs = λ _ s x h. h;
  groups = λ s bytes x spelled r h. group_keeps features s bytes x spelled h;
  imports = λ s bytes x _ r h. import_keeps s x.1.1.1 x h;
  functions = λ s bytes x _ r h. h;
  tables = λ s bytes x _ r h. table_keeps s x h;
  memories = λ s bytes x _ r h. h;
  tags = λ s bytes x _ r h. h;
  globals = λ s bytes x _ r h. h;
  exports = λ s bytes x _ r h. h;
  start = λ s n r h. h;
  elements = λ s bytes x _ r h. h;
  segments = λ s bytes x _ r h. h;
}

params_few : (kinds : List Kind) (n : ℕ) → AreFew kinds → kind_params (slice_get kinds n) ≤ most_params
params_few [] n h = omega arith
params_few (kind ∷ kinds) zero h = h.0
params_few (kind ∷ kinds) (suc n) h = params_few kinds n h.1

-- ---- locals

own_few : (a : Around) (params : ℕ) (origin : Origin Body) → params ≤ most_params → OriginRuled a params origin → body_locals params origin ≤ most_locals
own_few a params (Imported n) le h = omega arith
own_few a params (Own x) le h = go h.counted
  where
    go : (length x.locals ≡ 0) ⊎ (params + length x.locals ≤ most_locals) → params + length x.locals ≤ most_locals
    go (inl none) = omega (arith, le, none)
    go (inr some) = some

each_few : (a : Around) (m : Module) (fs : List (Option Function)) (n : ℕ) → AreFew (types_of m) → types_of a.filled ≡ types_of m → Each (λ (f : Function). HasBody a f) fs
    → function_locals m (first_slot (slice_get fs n)) ≤ most_locals
each_few a m [] n few same h = omega arith
each_few a m (None ∷ fs) zero few same h = omega arith
each_few a m (Some f ∷ fs) zero few same h =
    own_few a (param_count m f.ty) f.origin (params_few (types_of m) f.ty few) (subst (λ (kinds : List Kind). OriginRuled a (kind_params (slice_get kinds f.ty)) f.origin) same h.0)
each_few a m (None ∷ fs) (suc n) few same h = each_few a m fs n few same h
each_few a m (Some f ∷ fs) (suc n) few same h = each_few a m fs n few same h.1

pub few_locals : FewLocals
few_locals features bytes m h function =
    let s = h.1.0 in
    let xs = h.1.1 in
    let reads = h.1.2 in
    let ruled = read_modules_are_ruled features bytes m h in
    let rules = ruled.1 in
    let kept = file_kept features (λ m. AreFew (types_of m)) (few_kept features) tt bytes reads.0 reads.1.0 reads.1.1 in
    let few = subst (λ (s : State). AreFew (types_of s.filled)) reads.2 kept in
    each_few (around_bodies features ruled.0 m) m m.functions function (subst (λ (m : Module). AreFew (types_of m)) h.1.4 few) refl rules.bodies

pub few_are_numbered : FewAreNumbered
few_are_numbered features bytes m ids h numbered =
    let ruled = read_modules_are_ruled features bytes m h in
    let rules = ruled.1 in
    let lists = rules.lists in
    let many = numbered.items spaces.Function in record {
      functions = omega (arith, lists.functions, many);
      locals = λ function. let same = numbered.locals function in omega (arith, few_locals features bytes m h function, same);
    }
