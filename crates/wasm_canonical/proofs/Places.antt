-- Lemmas: rules don't look at places.
use Rattle.std.specs.Prelude.{ℕ, suc, ◌≤◌, ◌<◌, ◌≡◌, Bool, List, [], ◌∷◌, length, map, filter, Option, Some, None, refl}
use Rattle.std.proofs.Common.{ap, sym, subst}
use Rattle.wasm_features.specs.declared.WasmFeatures.{WasmFeatures}
use Rattle.wasm_formats.specs.declared.fault.Space.{Space}
use Rattle.wasm_formats.specs.declared.fault.Space.TheVariants as spaces
use Rattle.wasm_operators.specs.Operators.{flow_of}
use Rattle.wasm_grammar.specs.Modules.{Origin, Imported, Own, Placed, Body, Function, Table, Element, Segment, Import, Export, Module}
use Rattle.wasm_grammar.specs.States.{count_of, types_of}
use Rattle.wasm_body_grammar.specs.Frames.{Frame, turned}
use Rattle.wasm_body_grammar.specs.Rules.{Around}
use Rattle.wasm_body_grammar.specs.Bodies.{frames_of}
use Rattle.wasm_body_grammar.specs.Codes.{param_count}
use Rattle.wasm_module_bytes.specs.Bytes.{origin_unplaced, slot_unplaced, unplaced, without_places}
use Rattle.wasm_module_rules.specs.Linked.{AreListed, Each, IsBelow, IsFunctionType, IsLinked}
use Rattle.wasm_ruled_modules.specs.Rules.{AreExpressed, AreNamed, AreOperators, GlobalsSee, HasBody, IsCounted, IsInit, IsPlaced, IsRuled, ItemsKnown, OriginRuled, around_bodies, bare_origin, bare_slot, is_imported, memory_wide, table_wide}
use Rattle.wasm_canonical.specs.Places.{PlacesAreNotRuled}

-- ---- bodies

operators_without : (a : Around) (locals : ℕ) (frames : List Frame) (ps : List Placed) → AreOperators a locals frames ps → AreOperators a locals frames (map unplaced ps)
operators_without a locals frames [] h = h
operators_without a locals frames (p ∷ ps) h = (h.0, h.1, operators_without a locals (frames_of (turned (flow_of p.op.code) frames) frames) ps h.2)

operators_with : (a : Around) (locals : ℕ) (frames : List Frame) (ps : List Placed) → AreOperators a locals frames (map unplaced ps) → AreOperators a locals frames ps
operators_with a locals frames [] h = h
operators_with a locals frames (p ∷ ps) h = (h.0, h.1, operators_with a locals (frames_of (turned (flow_of p.op.code) frames) frames) ps h.2)

origin_without : (a : Around) (params : ℕ) (o : Origin Body) → OriginRuled a params o → OriginRuled a params (origin_unplaced o)
origin_without a params (Imported n) h = h
origin_without a params (Own x) h = record { counted = h.counted; named = h.named; operators = operators_without a _ _ x.operators h.operators }

origin_with : (a : Around) (params : ℕ) (o : Origin Body) → OriginRuled a params (origin_unplaced o) → OriginRuled a params o
origin_with a params (Imported n) h = h
origin_with a params (Own x) h = record { counted = h.counted; named = h.named; operators = operators_with a _ _ x.operators h.operators }

-- ---- slots

abbrev function_unplaced : Function → Function
function_unplaced f = record { ty = f.ty; origin = origin_unplaced f.origin }

each_without : (P : Function → Type 0) → ((f : Function) → P f → P (function_unplaced f)) → (fs : List (Option Function)) → Each P fs → Each P (map slot_unplaced fs)
each_without P one [] h = tt
each_without P one (None ∷ fs) h = each_without P one fs h
each_without P one (Some f ∷ fs) h = (one f h.0, each_without P one fs h.1)

each_with : (P : Function → Type 0) → ((f : Function) → P (function_unplaced f) → P f) → (fs : List (Option Function)) → Each P (map slot_unplaced fs) → Each P fs
each_with P one [] h = tt
each_with P one (None ∷ fs) h = each_with P one fs h
each_with P one (Some f ∷ fs) h = (one f h.0, each_with P one fs h.1)

bare_unplaced : (o : Origin Body) → bare_origin (origin_unplaced o) ≡ bare_origin o
bare_unplaced (Imported n) = refl
bare_unplaced (Own x) = refl

all_bare : (fs : List (Option Function)) → map bare_slot (map slot_unplaced fs) ≡ map bare_slot fs
all_bare [] = refl
all_bare (None ∷ fs) = ap (λ (l : List (Option Function)). None ∷ l) (all_bare fs)
all_bare (Some f ∷ fs) = λ i. Some (record { ty = f.ty; origin = bare_unplaced f.origin i }) ∷ all_bare fs i

all_length : (fs : List (Option Function)) → length (map slot_unplaced fs) ≡ length fs
all_length [] = refl
all_length (f ∷ fs) = ap (λ (n : ℕ). suc n) (all_length fs)

-- ---- a module with other functions

module _ (features : WasmFeatures) (counted : Bool) (m : Module) (fs : List (Option Function)) (same_length : length fs ≡ length m.functions) (same_bare : map bare_slot fs ≡ map bare_slot m.functions) where
  abbrev n : Module
  n = record m { functions = fs }

  around_stays : around_bodies features counted n ≡ around_bodies features counted m
  around_stays = λ i. record { features = features; filled = record m { functions = same_bare i }; same = (around_bodies features counted m).same; counted = counted }

  counts_stay : (space : Space) → count_of n space ≡ count_of m space
  counts_stay spaces.Function = same_length
  counts_stay _ = refl

  by_counts : (C : (Space → ℕ) → Type 0) → C (count_of m) → C (count_of n)
  by_counts C h = subst C (λ i space. sym (counts_stay space) i) h

  by_length : (C : ℕ → Type 0) → C (length m.functions) → C (length fs)
  by_length C h = subst C (sym same_length) h

  linked_on : IsLinked m → Each (λ (f : Function). IsFunctionType m f.ty) fs → IsLinked n
  linked_on l typed = record {
    functions_typed = typed;
    tags_typed = l.tags_typed;
    tables_limited = l.tables_limited;
    memories_limited = l.memories_limited;
    imports_there = by_counts (λ (c : Space → ℕ). Each (λ (i : Import). i.item.number < c i.item.space) m.imports) l.imports_there;
    exports_there = by_counts (λ (c : Space → ℕ). Each (λ (e : Export). e.item.number < c e.item.space) m.exports) l.exports_there;
    exports_distinct = l.exports_distinct;
    start_there = by_length (λ (k : ℕ). IsBelow k m.start) l.start_there;
    elements_there = l.elements_there;
    elements_listed = by_length (λ (k : ℕ). Each (λ (e : Element). AreListed k e.items) m.elements) l.elements_listed;
    segments_there = l.segments_there;
  }

  expressed_on : AreExpressed m → AreExpressed n
  expressed_on h = record {
    tables = by_length (λ (k : ℕ). Each (λ (t : Table). IsInit (record { types = length (types_of m); functions = k; globals = filter is_imported m.globals }) t.init) m.tables) h.tables;
    globals = by_length (λ (k : ℕ). GlobalsSee (length (types_of m)) k [] m.globals) h.globals;
    offsets = by_length (λ (k : ℕ). Each (λ (e : Element). IsPlaced (table_wide m.tables) (record { types = length (types_of m); functions = k; globals = m.globals }) e.mode) m.elements) h.offsets;
    items = by_length (λ (k : ℕ). Each (λ (e : Element). ItemsKnown (record { types = length (types_of m); functions = k; globals = m.globals }) e.items) m.elements) h.items;
    segments = by_length (λ (k : ℕ). Each (λ (x : Segment). IsPlaced (memory_wide m.memories) (record { types = length (types_of m); functions = k; globals = m.globals }) x.mode) m.segments) h.segments;
  }

  named_on : AreNamed m → AreNamed n
  named_on h = record { tables = h.tables; globals = h.globals; elements = h.elements; pages = h.pages }

  lists_on : IsCounted m → IsCounted n
  lists_on h = record {
    types = h.types;
    imports = h.imports;
    functions = by_length (λ (k : ℕ). k ≤ 1000000) h.functions;
    tables = h.tables;
    memories = h.memories;
    tags = h.tags;
    globals = h.globals;
    exports = h.exports;
    elements = h.elements;
    segments = h.segments;
  }

  ruled_on : IsRuled features counted m → Each (λ (f : Function). IsFunctionType m f.ty) fs → Each (λ (f : Function). HasBody (around_bodies features counted m) f) fs → IsRuled features counted n
  ruled_on r typed bodies = record {
    linked = linked_on r.linked typed;
    lists = lists_on r.lists;
    groups = r.groups;
    named = named_on r.named;
    expressed = expressed_on r.expressed;
    bodies = subst (λ (a : Around). Each (λ (f : Function). HasBody a f) fs) (sym around_stays) bodies;
  }

-- ---- without places, and back

ruled_without : (features : WasmFeatures) (counted : Bool) (m : Module) → IsRuled features counted m → IsRuled features counted (without_places m)
ruled_without features counted m r =
    let a = around_bodies features counted m in
    ruled_on features counted m (map slot_unplaced m.functions) (all_length m.functions) (all_bare m.functions) r
    (each_without (λ (f : Function). IsFunctionType m f.ty) (λ f h. h) m.functions r.linked.functions_typed)
    (each_without (λ (f : Function). HasBody a f) (λ f h. origin_without a (param_count a.filled f.ty) f.origin h) m.functions r.bodies)

ruled_with : (features : WasmFeatures) (counted : Bool) (m : Module) → IsRuled features counted (without_places m) → IsRuled features counted m
ruled_with features counted m r =
    let a = around_bodies features counted (without_places m) in
    ruled_on features counted (without_places m) m.functions (sym (all_length m.functions)) (sym (all_bare m.functions)) r
    (each_with (λ (f : Function). IsFunctionType (without_places m) f.ty) (λ f h. h) m.functions r.linked.functions_typed)
    (each_with (λ (f : Function). HasBody a f) (λ f h. origin_with a (param_count a.filled f.ty) f.origin h) m.functions r.bodies)

pub places_not_ruled : PlacesAreNotRuled
places_not_ruled features counted m n same r = ruled_with features counted n (subst (IsRuled features counted) (sym same) (ruled_without features counted m r))
