-- Lemmas: no list of what was written is longer than it may be.
use Rattle.std.specs.Prelude.{ℕ, ◌≡◌, ◌≤◌, ◌+◌, suc, Bool, true, false, List, [], ◌∷◌, ◌++◌, length, map, filter, flat_map, Option, Some, None, slice_get, is_some, refl, if◌then◌else◌}
use Rattle.std.specs.List.{cons_option, filter_map, list_any}
use Rattle.std.proofs.Common.{ap, sym, ◌∙◌, subst, arith}
use Rattle.std.proofs.lemmas.List.{append-nil, length-append, length-map}
use Rattle.std.proofs.lemmas.Option.{none-some, same_Some}
use Rattle.wasm_operators.specs.Items.{Functions, Tables, Memories, Tags, Globals, ElementSegments, DataSegments}
use Rattle.wasm_formats.specs.declared.fault.Limited.TheVariants as limits
use Rattle.wasm_grammar.specs.Modules as grammar
use Rattle.wasm_part.specs.Kept.{AreFilled, ListsItems}
use Rattle.wasm_part.specs.Part.{Plan, part}
use Rattle.wasm_ruled_modules.specs.Rules.{IsCounted}
use Rattle.walrus_forms.specs.Kinds.{Kind}
use Rattle.walrus_forms.specs.Records.{TypeGroup}
use Rattle.walrus_forms.specs.Renaming.{index_at}
use Rattle.walrus_index_maps.specs.Maps.{Indices}
use Rattle.walrus_items.specs.Items.{Group}
use Rattle.walrus_pairing.specs.Looks.{Look, number_of}
use Rattle.walrus_meaning.specs.Meaning.{means}
use Rattle.walrus_module.specs.Parts.{parts}
use Rattle.walrus_module.specs.declared.module.Module.{Module}
use Rattle.walrus_types.specs.Emission.{IsEmission, described_group, is_written, written_in, written_kind, written_types}
use Rattle.walrus_types.specs.Inverse.{AreInverse}
use Rattle.walrus_types.specs.Table.{Table}
use Rattle.walrus_types.specs.TypeLaws.{AreGrouped}
use Rattle.walrus_types.specs.declared.emit.EmittedTypes.{EmittedTypes}
use Rattle.walrus_types.specs.walrus_forms.Records.{type_group}
use Rattle.walrus_types.proofs.OnceLemmas.{inverse-law}
use Rattle.walrus_emit_parts.specs.Due.{Due}
use Rattle.walrus_emit_due.specs.DataCount.{data_count}
use Rattle.walrus_emit_due.specs.Elements.{elements}
use Rattle.walrus_emit_due.specs.FunctionTypes.{function_types}
use Rattle.walrus_emit_due.specs.Imports.{import, imports}
use Rattle.walrus_emit_due.specs.Items as items
use Rattle.walrus_emit_due.specs.Own.{live, own_section}
use Rattle.walrus_emit_due.specs.Starts.{start}
use Rattle.walrus_emit_due.specs.Types.{type_section}
use Rattle.walrus_emit_code.specs.Code.{code, facts_at}
use Rattle.walrus_emit_numbers.specs.Numbers.{functions_at, numbers_of}
use Rattle.walrus_emit_numbers.specs.declared.facts.BodyFacts.{BodyFacts}
use Rattle.walrus_emit.specs.Whole.{before_code, closing, first, front, own_items, sections, types, uses, with_bodies}
use Rattle.walrus_emit.specs.Settled.{AreEmitted}
use Rattle.walrus_code_laws.specs.Parts.{numbered}
use Rattle.walrus_plan_laws.specs.Emissions.{HasPlan}
use Rattle.walrus_plan_laws.specs.Plans.{plan_of}
use Rattle.walrus_stands_laws.specs.Listed.{PlansListLiving}
use Rattle.walrus_counted_laws.specs.Counted.{WrittenPartsAreCounted}
use Rattle.walrus_counted_laws.proofs.Fits.{Fits, back_fits, front_fits, within_most}
use Rattle.walrus_counted_laws.proofs.Listed.{listed_apart, risen_apart}
use Rattle.walrus_counted_laws.proofs.Lists.{Apart, few}

-- ---- what is due is within its limits

-- as many live, and as many types are written
record AreFew (m : grammar.Module) (emitted : EmittedTypes) : Type 0 where
  types : length emitted.ids.items ≤ 1000000
  imports : length (live m.imports) ≤ 1000000
  functions : length (live m.functions) ≤ 1000000
  tables : length (live m.tables) ≤ 100
  memories : length (live m.memories) ≤ 100
  tags : length (live m.tags) ≤ 1000000
  globals : length (live m.globals) ≤ 1000000
  exports : length (live m.exports) ≤ 1000000
  elements : length (live m.elements) ≤ 100000
  segments : length (live m.segments) ≤ 100000

module _ (look : Look) (m : grammar.Module) (emitted : EmittedTypes) (functions : List ℕ) (named : Bool) where
  abbrev tags_on : Due
  tags_on = items.tags look m.tags ++ (items.globals look m.globals ++ items.exports look m.exports)

  are_few : Fits (before_code look m emitted functions named) → AreFew m emitted
  are_few h =
      let f = front look m emitted functions in
      let o = own_items look m in
      let u = uses look m named in
      let rest = back_fits f (o ++ u) h in
      let in_front = front_fits f (o ++ u) h in
      let in_own = front_fits o u rest in
      let in_uses = back_fits o u rest in
      let later = back_fits (types emitted) (imports look m ++ function_types look m.functions functions) in_front in
      let own_1 = back_fits (items.tables look m.tables) (items.memories m.memories ++ tags_on) in_own in
      let own_2 = back_fits (items.memories m.memories) tags_on own_1 in
      let own_3 = back_fits (items.tags look m.tags) (items.globals look m.globals ++ items.exports look m.exports) own_2 in
      let use_1 = back_fits (start look m.start) (elements look m.tables m.elements ++ data_count named m.segments) in_uses in
      record {
        types = within_most 1000000 (length emitted.ids.items) limits.Types (type_section (map type_group emitted.groups.items)) (front_fits (types emitted) (imports look m ++ function_types look m.functions functions) in_front);
        imports = within_most 1000000 (length (live m.imports)) limits.Imports (own_section 2 (λ _. true) (import look m) m.imports) (front_fits (imports look m) (function_types look m.functions functions) later);
        functions = within_most 1000000 (length (live m.functions)) limits.Functions _ (back_fits (imports look m) (function_types look m.functions functions) later);
        tables = within_most 100 (length (live m.tables)) limits.Tables _ (front_fits (items.tables look m.tables) (items.memories m.memories ++ tags_on) in_own);
        memories = within_most 100 (length (live m.memories)) limits.Memories _ (front_fits (items.memories m.memories) tags_on own_1);
        tags = within_most 1000000 (length (live m.tags)) limits.Tags _ (front_fits (items.tags look m.tags) (items.globals look m.globals ++ items.exports look m.exports) own_2);
        globals = within_most 1000000 (length (live m.globals)) limits.Globals _ (front_fits (items.globals look m.globals) (items.exports look m.exports) own_3);
        exports = within_most 1000000 (length (live m.exports)) limits.Exports _ (back_fits (items.globals look m.globals) (items.exports look m.exports) own_3);
        elements = within_most 100000 (length (live m.elements)) limits.Elements _ (front_fits (elements look m.tables m.elements) (data_count named m.segments) use_1);
        segments = within_most 100000 (length (live m.segments)) limits.Data _ (back_fits (elements look m.tables m.elements) (data_count named m.segments) use_1);
      }

-- ---- types

-- lists with the same at each place are one
same_gets : (xs ys : List ℕ) → ((i x : ℕ) → slice_get xs i ≡ Some x → slice_get ys i ≡ Some x) → ((i x : ℕ) → slice_get ys i ≡ Some x → slice_get xs i ≡ Some x) → xs ≡ ys
same_gets [] [] forth back = refl
same_gets [] (y ∷ ys) forth back = absurd (none-some y (back 0 y refl))
same_gets (x ∷ xs) [] forth back = absurd (none-some x (forth 0 x refl))
same_gets (x ∷ xs) (y ∷ ys) forth back =
    ap (λ (z : ℕ). z ∷ xs) (sym (same_Some y x (forth 0 x refl))) ∙ ap (λ (l : List ℕ). y ∷ l) (same_gets xs ys (λ i z at. forth (suc i) z at) (λ i z at. back (suc i) z at))

module _ (t : Table) where
  one_kind : (o : Option Kind) (n : ℕ) (ids : List ℕ) (kinds : List Kind) → length kinds ≡ length ids → length (cons_option o kinds) ≡ length (if is_some o then n ∷ ids else ids)
  one_kind None n ids kinds e = e
  one_kind (Some k) n ids kinds e = ap (λ (n : ℕ). suc n) e

  as_many_kinds : (ids : List ℕ) → length (filter_map (written_kind t) ids) ≡ length (filter (is_written t) ids)
  as_many_kinds [] = refl
  as_many_kinds (n ∷ ids) = one_kind (written_kind t n) n (filter (is_written t) ids) (filter_map (written_kind t) ids) (as_many_kinds ids)

  as_many : (index : ℕ → ℕ) (gs : List Group) → length (flat_map (λ (g : TypeGroup). g.kinds) (map (described_group t index) gs)) ≡ length (written_types t gs)
  as_many index [] = refl
  as_many index (g ∷ gs) =
      let d = described_group t index g in
      let left = length-append d.kinds (flat_map (λ (g : TypeGroup). g.kinds) (map (described_group t index) gs)) in
      let right = length-append (written_in t g) (written_types t gs) in
      let one : length d.kinds ≡ length (written_in t g) = length-map (filter_map (written_kind t) g.types) _ ∙ as_many_kinds g.types in
      let rest = as_many index gs in
      left ∙ ap (λ (n : ℕ). n + length (flat_map (λ (g : TypeGroup). g.kinds) (map (described_group t index) gs))) one ∙ ap (λ (n : ℕ). length (written_in t g) + n) rest ∙ sym right

  types_counted : AreGrouped t → (out : List TypeGroup) (indices : List (Option ℕ)) (order : List ℕ) → IsEmission t out indices → AreInverse order indices
      → length (flat_map (λ (g : TypeGroup). g.kinds) out) ≡ length order
  types_counted grouped out indices order e inverse =
      let own = inverse-law t grouped e.groups _ indices e.arranged.in_order e.arranged.indexed in
      let same = same_gets order (written_types t e.groups) (λ i x at. (own i x).1 ((inverse i x).0 at)) (λ i x at. (inverse i x).1 ((own i x).0 at)) in
      ap (λ (gs : List TypeGroup). length (flat_map (λ (g : TypeGroup). g.kinds) gs)) e.described ∙ as_many (index_at indices) e.groups ∙ sym (ap length same)

-- ---- items

module _ {B : Type 0} (input : Module B) (facts : List BodyFacts) (order : List ℕ) (emitted : EmittedTypes) (plan : HasPlan input facts order emitted) where
  abbrev m : grammar.Module
  m = means (parts input)

  abbrev p : Plan
  p = plan_of input facts order emitted

  listed_few : {A C : Type 0} (f : ℕ → C) (ns : List ℕ) (xs : List (Option A)) (most : ℕ) → Apart ns → AreFilled ns xs → length (live xs) ≤ most → length (map f ns) ≤ most
  listed_few f ns xs most apart filled le =
      let less = few ns xs apart filled in
      let same = length-map ns f in
      omega (arith, less, le, same)

  counted_by : AreGrouped input.types → AreEmitted input.types emitted → AreFew m emitted → ListsItems p m → (customs : List (Option grammar.Custom)) → IsCounted (record (part p (numbered (parts input))) { customs = customs })
  counted_by grouped e are there customs =
      let link = plan.serves.linked in
      let order = plan.serves.order in
      record {
        types = (let same = types_counted input.types grouped (map type_group emitted.groups.items) emitted.indices emitted.ids.items e.groups e.ids in let le = are.types in omega (arith, same, le));
        imports = listed_few _ p.imports m.imports 1000000 (risen_apart p.imports order.imports) there.imports are.imports;
        functions = listed_few _ (p.listed Functions) m.functions 1000000 (listed_apart m link Functions p order tt) there.functions are.functions;
        tables = listed_few _ (p.listed Tables) m.tables 100 (listed_apart m link Tables p order tt) there.tables are.tables;
        memories = listed_few _ (p.listed Memories) m.memories 100 (listed_apart m link Memories p order tt) there.memories are.memories;
        tags = listed_few _ (p.listed Tags) m.tags 1000000 (listed_apart m link Tags p order tt) there.tags are.tags;
        globals = listed_few _ (p.listed Globals) m.globals 1000000 (listed_apart m link Globals p order tt) there.globals are.globals;
        exports = listed_few _ p.exports m.exports 1000000 (risen_apart p.exports plan.serves.exports) there.exports are.exports;
        elements = (
            let le = listed_few _ (p.listed ElementSegments) m.elements 100000 (listed_apart m link ElementSegments p order tt) there.elements are.elements in
            subst (λ (n : ℕ). n ≤ 100000) (sym (ap length (append-nil _))) le
            );
        segments = listed_few _ (p.listed DataSegments) m.segments 100000 (listed_apart m link DataSegments p order tt) there.segments are.segments;
      }

pub parts_counted : {B : Type 0} → PlansListLiving B → WrittenPartsAreCounted B
parts_counted {B} lists own_name contents old new bytes w grouped plan customs =
    let input : Module B = record new { customs = old.customs } in
    let by : Indices = numbers_of new w.emitted.ids.items (functions_at w.facts w.order) in
    let named = list_any (λ (f : BodyFacts). f.uses_data_segments) w.facts in
    let before = before_code (number_of by 0) (means (parts new)) w.emitted (functions_at w.facts w.order) named in
    let after = with_bodies input w.facts w.order by in
    let head = first own_name contents old.customs in
    let tail = code new.locals new.funcs by (facts_at w.facts w.order) ++ closing input w.facts w.order w.emitted after in
    let last = sections own_name contents false after new.customs in
    let all : Fits (((head ++ before) ++ tail) ++ last) = (bytes, sym w.bytes_are) in
    let opening = front_fits (head ++ before) tail (front_fits ((head ++ before) ++ tail) last all) in
    counted_by new w.facts w.order w.emitted plan grouped w.types
    (are_few (number_of by 0) (means (parts new)) w.emitted (functions_at w.facts w.order) named (back_fits head before opening)) (lists new w.facts w.order w.emitted plan) customs
