-- Lemmas: a dense module is so without its places, and has the same data count.
use Rattle.std.specs.Prelude.{ℕ, zero, suc, ◌≡◌, ◌||◌, Bool, List, [], ◌∷◌, map, drop, Option, Some, None, slice_index_or, refl}
use Rattle.std.specs.List.{AllByRecursion, list_any}
use Rattle.std.proofs.Common.{ap, ◌∙◌}
use Rattle.wasm_formats.specs.declared.fault.Space.{Space}
use Rattle.wasm_formats.specs.declared.fault.Space.TheVariants as spaces
use Rattle.wasm_grammar.specs.Modules.{Origin, Imported, Own, Placed, Body, Function, Import, Segment, Module}
use Rattle.wasm_module_bytes.specs.Bytes.{body_unplaced, origin_unplaced, slot_unplaced, unplaced, without_places}
use Rattle.wasm_canonical.specs.Due.{body_names_segment, counts_data, is_passive, items_in, names_segment}
use Rattle.wasm_canonical.specs.Dense.{BringAll, Brings, Counts, IsDense, IsOwnFunction, brought, none_brought, one_more}

-- ---- places are taken out once

ops_twice : (ps : List Placed) → map unplaced (map unplaced ps) ≡ map unplaced ps
ops_twice [] = refl
ops_twice (p ∷ ps) = ap (λ (l : List Placed). unplaced p ∷ l) (ops_twice ps)

origin_twice : (o : Origin Body) → origin_unplaced (origin_unplaced o) ≡ origin_unplaced o
origin_twice (Imported n) = refl
origin_twice (Own x) = ap (λ (l : List Placed). Own (record { locals = x.locals; operators = l })) (ops_twice x.operators)

slots_twice : (fs : List (Option Function)) → map slot_unplaced (map slot_unplaced fs) ≡ map slot_unplaced fs
slots_twice [] = refl
slots_twice (None ∷ fs) = ap (λ (l : List (Option Function)). None ∷ l) (slots_twice fs)
slots_twice (Some f ∷ fs) = λ i. Some (record { ty = f.ty; origin = origin_twice f.origin i }) ∷ slots_twice fs i

pub places_twice : (m : Module) → without_places (without_places m) ≡ without_places m
places_twice m = ap (λ (fs : List (Option Function)). record m { functions = fs }) (slots_twice m.functions)

-- ---- the data count

ops_name : (ps : List Placed) → list_any names_segment (map unplaced ps) ≡ list_any names_segment ps
ops_name [] = refl
ops_name (p ∷ ps) = ap (λ (b : Bool). names_segment p || b) (ops_name ps)

origin_names : (o : Origin Body) → body_names_segment (origin_unplaced o) ≡ body_names_segment o
origin_names (Imported n) = refl
origin_names (Own x) = ops_name x.operators

bodies_name : (fs : List (Option Function)) → list_any (λ (f : Function). body_names_segment f.origin) (items_in (map slot_unplaced fs)) ≡ list_any (λ (f : Function). body_names_segment f.origin) (items_in fs)
bodies_name [] = refl
bodies_name (None ∷ fs) = bodies_name fs
bodies_name (Some f ∷ fs) = λ i. origin_names f.origin i || bodies_name fs i

pub count_same : (m : Module) → counts_data (without_places m) ≡ counts_data m
count_same m = ap (λ (b : Bool). list_any (λ (x : Segment). is_passive x.mode) (items_in m.segments) || b) (bodies_name m.functions)

-- ---- dense

slot_at : (fs : List (Option Function)) (n : ℕ) → slice_index_or (map slot_unplaced fs) n None ≡ slot_unplaced (slice_index_or fs n None)
slot_at [] n = refl
slot_at (f ∷ fs) zero = refl
slot_at (f ∷ fs) (suc n) = slot_at fs n

one_own : (o : Option Function) → IsOwnFunction o → IsOwnFunction (slot_unplaced o)
one_own None h = h
one_own (Some f) h = (body_unplaced h.0, ap origin_unplaced h.1)

all_own : (fs : List (Option Function)) → AllByRecursion IsOwnFunction fs → AllByRecursion IsOwnFunction (map slot_unplaced fs)
all_own [] h = tt
all_own (f ∷ fs) h = (one_own f h.0, all_own fs h.1)

own_behind : (n : ℕ) (fs : List (Option Function)) → AllByRecursion IsOwnFunction (drop n fs) → AllByRecursion IsOwnFunction (drop n (map slot_unplaced fs))
own_behind zero fs h = all_own fs h
own_behind (suc n) [] h = tt
own_behind (suc n) (f ∷ fs) h = own_behind n fs h

all_bring : (m : Module) (c : Counts) (is : List Import) → BringAll m c is → BringAll (without_places m) c is
all_bring m c [] h = tt
all_bring m c (i ∷ is) h = (step i.item.space h.0, all_bring m (one_more c i.item.space) is h.1)
  where
    step : (space : Space) → Brings m c space i.item.number → Brings (without_places m) c space i.item.number
    step spaces.Function (same, (f, at, from)) = (same, (record { ty = f.ty; origin = origin_unplaced f.origin }, slot_at m.functions i.item.number ∙ ap slot_unplaced at, ap origin_unplaced from))
    step spaces.Table b = b
    step spaces.Memory b = b
    step spaces.Global b = b
    step spaces.Tag b = b
    step spaces.«Type» b = b
    step spaces.Element b = b
    step spaces.Data b = b
    step spaces.Local b = b
    step spaces.Label b = b

pub dense_without : (m : Module) → IsDense m → IsDense (without_places m)
dense_without m d = record {
  groups = d.groups;
  imports = d.imports;
  brings = all_bring m none_brought (items_in m.imports) d.brings;
  functions = own_behind (brought m).functions m.functions d.functions;
  tables = d.tables;
  memories = d.memories;
  tags = d.tags;
  globals = d.globals;
  exports = d.exports;
  elements = d.elements;
  segments = d.segments;
}
