-- Lemmas: each entry leaves a linked module linked.
use Rattle.std.specs.Prelude.{ℕ, ◌<◌, ◌≤◌, ◌≡◌, ◌&&◌, ◌||◌, Bool, true, false, not, List, [], ◌∷◌, ◌++◌, length, Option, Some, None, slice_get, refl}
use Rattle.std.specs.List.{list_any, flat_map}
use Rattle.std.proofs.Common.{ap, sym, ◌∙◌, subst, arith}
use Rattle.std.proofs.lemmas.List.{append_assoc, append-nil, length-append, get_or_append_left}
use Rattle.std.proofs.lemmas.List.Concat.{flat_map-append}
use Rattle.std.proofs.lemmas.Option.{slice_get_within, slice_get-get_or, get_or_from_slice_get}
use Rattle.walrus_forms.specs.Kinds.{Kind}
use Rattle.walrus_forms.specs.Records.{TypeGroup}
use Rattle.wasm_formats.specs.declared.fault.Space.{Space}
use Rattle.wasm_formats.specs.declared.fault.Space.TheVariants as spaces
use Rattle.wasm_formats.specs.Stops.{Trouble}
use Rattle.wasm_formats.specs.Bytes.{either_type}
use Rattle.wasm_modules.specs.wasm_body_grammar.wasm_grammar.Modules.{Item, Function, Table, Memory, Tag, Global, Import, Export, Elements, Functions, Expressions, Element, Segment, Mode, Active, Passive, Declared, Module}
use Rattle.wasm_modules.specs.wasm_body_grammar.wasm_grammar.Values.{must, first_of, in_order}
use Rattle.wasm_modules.specs.wasm_body_grammar.wasm_grammar.States.{State, types_of, count_of, form_test}
use Rattle.wasm_modules.specs.wasm_sections.TypeSection.{GroupEntry, type_group, add_group}
use Rattle.wasm_modules.specs.wasm_sections.Entities.{with_import, with_function, with_table, with_memory, with_tag, with_global}
use Rattle.wasm_modules.specs.wasm_sections.Exports.{has_name, ExportEntry, add_export, set_start, kind_space}
use Rattle.wasm_modules.specs.wasm_sections.Segments.{ElementEntry, add_element, element_of, DataEntry, add_data, segment_of}
use Rattle.wasm_module_rules.specs.Linked.{Each, IsFunctionType, IsThere, AreDistinct, GoesInto, AllBelow, AreListed, IsBelow, IsLimited, IsLinked}

-- ---- slots

pub each_push : {A : Type 0} (P : A → Type 0) (xs : List (Option A)) (x : A) → Each P xs → P x → Each P (xs ++ Some x ∷ [])
each_push P [] x h p = (p, tt)
each_push P (None ∷ xs) x h p = each_push P xs x h p
each_push P (Some y ∷ xs) x h p = (h.0, each_push P xs x h.1 p)

pub each_later : {A : Type 0} (P Q : A → Type 0) → ((x : A) → P x → Q x) → (xs : List (Option A)) → Each P xs → Each Q xs
each_later P Q f [] h = tt
each_later P Q f (None ∷ xs) h = each_later P Q f xs h
each_later P Q f (Some x ∷ xs) h = (f x h.0, each_later P Q f xs h.1)

pub distinct_push : (earlier xs : List (Option Export)) (e : Export) → AreDistinct earlier xs → list_any (has_name e.name) (earlier ++ xs) ≡ false → AreDistinct earlier (xs ++ Some e ∷ [])
distinct_push earlier [] e h fresh = (subst (λ (l : List (Option Export)). list_any (has_name e.name) l ≡ false) (append-nil earlier) fresh, tt)
distinct_push earlier (x ∷ xs) e h fresh =
    (h.0, distinct_push (earlier ++ x ∷ []) xs e h.1 (subst (λ (l : List (Option Export)). list_any (has_name e.name) l ≡ false) (sym (append_assoc earlier (x ∷ []) xs)) fresh))

pub goes_later : (count more : ℕ) (mode : Mode) → count ≤ more → GoesInto count mode → GoesInto more mode
goes_later count more (Active n offset) le h = omega (arith, le, h)
goes_later count more Passive le h = tt
goes_later count more Declared le h = tt

pub all_later : (count more : ℕ) (ns : List ℕ) → count ≤ more → AllBelow count ns → AllBelow more ns
all_later count more [] le h = tt
all_later count more (n ∷ ns) le h = let lt = h.0 in (omega (arith, le, lt), all_later count more ns le h.1)

pub listed_later : (count more : ℕ) (items : Elements) → count ≤ more → AreListed count items → AreListed more items
listed_later count more (Functions ns) le h = all_later count more ns le h
listed_later count more (Expressions ty es) le h = tt

pub below_later : (count more : ℕ) (o : Option ℕ) → count ≤ more → IsBelow count o → IsBelow more o
below_later count more None le h = tt
below_later count more (Some n) le h = omega (arith, le, h)

pub one_more : {A : Type 0} (xs : List A) (x : A) → length xs ≤ length (xs ++ x ∷ [])
one_more xs x = omega (arith, length-append xs (x ∷ []))

-- ---- tests that held

pub must_holds : (b : Bool) (t : Trouble) → must b t ≡ None → b ≡ true
must_holds true t e = refl
must_holds false t e = absurd cc

pub first_none : (a b : Option Trouble) → first_of a b ≡ None → (a ≡ None) × (b ≡ None)
first_none None b e = (refl, e)
first_none (Some t) b e = absurd cc

pub not_true : (b : Bool) → not b ≡ true → b ≡ false
not_true true e = absurd cc
not_true false e = refl

pub and_both : (a b : Bool) → (a && b) ≡ true → (a ≡ true) × (b ≡ true)
and_both true b e = (refl, e)
and_both false b e = absurd cc

pub shared_has : (shared some : Bool) → (not shared || some) ≡ true → shared ≡ true → some ≡ true
shared_has true some e k = e
shared_has false some e k = absurd cc

pub room_rules : {P : Type 0} (room : Bool) → either_type room P ⊥ → P
room_rules true h = h
room_rules false h = absurd h

-- ---- types

get_front : (xs more : List Kind) (i : ℕ) (k : Kind) → slice_get xs i ≡ Some k → slice_get (xs ++ more) i ≡ Some k
get_front xs more i k e =
    let lt = slice_get_within xs i k e in
    slice_get-get_or (xs ++ more) i k (omega (arith, lt, length-append xs more)) ∙ ap (λ (x : Kind). Some x) (get_or_append_left xs more k i lt ∙ get_or_from_slice_get xs i k k e)

typed_go : (xs more : List Kind) (i : ℕ) (o : Option Kind) → slice_get xs i ≡ o → form_test o ≡ None → form_test (slice_get (xs ++ more) i) ≡ None
typed_go xs more i None e h = absurd cc
typed_go xs more i (Some k) e h = rw (get_front xs more i k e) h

pub typed_later : (m n : Module) (more : List Kind) (i : ℕ) → types_of n ≡ types_of m ++ more → IsFunctionType m i → IsFunctionType n i
typed_later m n more i same h = subst (λ (ts : List Kind). form_test (slice_get ts i) ≡ None) (sym same) (typed_go (types_of m) more i (slice_get (types_of m) i) refl h)

-- ---- how many items there are

pub types_more : (s : State) (x : GroupEntry) → types_of (add_group s x).filled ≡ types_of s.filled ++ flat_map (λ (g : TypeGroup). g.kinds) (type_group x ∷ [])
types_more s x = flat_map-append (λ (g : TypeGroup). g.kinds) s.filled.groups (type_group x ∷ [])

pub group_counts : (s : State) (x : GroupEntry) (space : Space) → count_of s.filled space ≤ count_of (add_group s x).filled space
group_counts s x spaces.Type = omega (arith, ap length (types_more s x), length-append (types_of s.filled) (flat_map (λ (g : TypeGroup). g.kinds) (type_group x ∷ [])))
group_counts s x spaces.Function = omega arith
group_counts s x spaces.Table = omega arith
group_counts s x spaces.Memory = omega arith
group_counts s x spaces.Tag = omega arith
group_counts s x spaces.Global = omega arith
group_counts s x spaces.Element = omega arith
group_counts s x spaces.Data = omega arith
group_counts s x spaces.Local = omega arith
group_counts s x spaces.Label = omega arith

pub function_counts : (s : State) (x : Function) (space : Space) → count_of s.filled space ≤ count_of (with_function s x).filled space
function_counts s x spaces.Type = omega arith
function_counts s x spaces.Function = one_more s.filled.functions (Some x)
function_counts s x spaces.Table = omega arith
function_counts s x spaces.Memory = omega arith
function_counts s x spaces.Tag = omega arith
function_counts s x spaces.Global = omega arith
function_counts s x spaces.Element = omega arith
function_counts s x spaces.Data = omega arith
function_counts s x spaces.Local = omega arith
function_counts s x spaces.Label = omega arith

pub table_counts : (s : State) (x : Table) (space : Space) → count_of s.filled space ≤ count_of (with_table s x).filled space
table_counts s x spaces.Type = omega arith
table_counts s x spaces.Function = omega arith
table_counts s x spaces.Table = one_more s.filled.tables (Some x)
table_counts s x spaces.Memory = omega arith
table_counts s x spaces.Tag = omega arith
table_counts s x spaces.Global = omega arith
table_counts s x spaces.Element = omega arith
table_counts s x spaces.Data = omega arith
table_counts s x spaces.Local = omega arith
table_counts s x spaces.Label = omega arith

pub memory_counts : (s : State) (x : Memory) (space : Space) → count_of s.filled space ≤ count_of (with_memory s x).filled space
memory_counts s x spaces.Type = omega arith
memory_counts s x spaces.Function = omega arith
memory_counts s x spaces.Table = omega arith
memory_counts s x spaces.Memory = one_more s.filled.memories (Some x)
memory_counts s x spaces.Tag = omega arith
memory_counts s x spaces.Global = omega arith
memory_counts s x spaces.Element = omega arith
memory_counts s x spaces.Data = omega arith
memory_counts s x spaces.Local = omega arith
memory_counts s x spaces.Label = omega arith

pub tag_counts : (s : State) (x : Tag) (space : Space) → count_of s.filled space ≤ count_of (with_tag s x).filled space
tag_counts s x spaces.Type = omega arith
tag_counts s x spaces.Function = omega arith
tag_counts s x spaces.Table = omega arith
tag_counts s x spaces.Memory = omega arith
tag_counts s x spaces.Tag = one_more s.filled.tags (Some x)
tag_counts s x spaces.Global = omega arith
tag_counts s x spaces.Element = omega arith
tag_counts s x spaces.Data = omega arith
tag_counts s x spaces.Local = omega arith
tag_counts s x spaces.Label = omega arith

pub global_counts : (s : State) (x : Global) (space : Space) → count_of s.filled space ≤ count_of (with_global s x).filled space
global_counts s x spaces.Type = omega arith
global_counts s x spaces.Function = omega arith
global_counts s x spaces.Table = omega arith
global_counts s x spaces.Memory = omega arith
global_counts s x spaces.Tag = omega arith
global_counts s x spaces.Global = one_more s.filled.globals (Some x)
global_counts s x spaces.Element = omega arith
global_counts s x spaces.Data = omega arith
global_counts s x spaces.Local = omega arith
global_counts s x spaces.Label = omega arith

pub element_counts : (s : State) (x : ElementEntry) (space : Space) → count_of s.filled space ≤ count_of (add_element s x).filled space
element_counts s x spaces.Type = omega arith
element_counts s x spaces.Function = omega arith
element_counts s x spaces.Table = omega arith
element_counts s x spaces.Memory = omega arith
element_counts s x spaces.Tag = omega arith
element_counts s x spaces.Global = omega arith
element_counts s x spaces.Element = one_more s.filled.elements (Some (element_of x.1))
element_counts s x spaces.Data = omega arith
element_counts s x spaces.Local = omega arith
element_counts s x spaces.Label = omega arith

pub data_counts : (s : State) (x : DataEntry) (space : Space) → count_of s.filled space ≤ count_of (add_data s x).filled space
data_counts s x spaces.Type = omega arith
data_counts s x spaces.Function = omega arith
data_counts s x spaces.Table = omega arith
data_counts s x spaces.Memory = omega arith
data_counts s x spaces.Tag = omega arith
data_counts s x spaces.Global = omega arith
data_counts s x spaces.Element = omega arith
data_counts s x spaces.Data = one_more s.filled.segments (Some (segment_of x.1))
data_counts s x spaces.Local = omega arith
data_counts s x spaces.Label = omega arith

pub there_later : (m n : Module) (i : Item) → count_of m i.space ≤ count_of n i.space → IsThere m i → IsThere n i
there_later m n i le h = omega (arith, le, h)

-- ---- entries

pub group_linked : (s : State) (x : GroupEntry) → IsLinked s.filled → IsLinked (add_group s x).filled
group_linked s x h = record { functions_typed = each_later (λ (f : Function). IsFunctionType s.filled f.ty) (λ (f : Function). IsFunctionType (add_group s x).filled f.ty) (λ f p. typed_later s.filled (add_group s x).filled (flat_map (λ (g : TypeGroup). g.kinds) (type_group x ∷ [])) f.ty (types_more s x) p) s.filled.functions h.functions_typed; tags_typed = each_later (λ (t : Tag). IsFunctionType s.filled t.ty) (λ (t : Tag). IsFunctionType (add_group s x).filled t.ty) (λ t p. typed_later s.filled (add_group s x).filled (flat_map (λ (g : TypeGroup). g.kinds) (type_group x ∷ [])) t.ty (types_more s x) p) s.filled.tags h.tags_typed; tables_limited = h.tables_limited; memories_limited = h.memories_limited; imports_there = each_later (λ (i : Import). IsThere s.filled i.item) (λ (i : Import). IsThere (add_group s x).filled i.item) (λ i p. there_later s.filled (add_group s x).filled i.item (group_counts s x i.item.space) p) s.filled.imports h.imports_there; exports_there = each_later (λ (e : Export). IsThere s.filled e.item) (λ (e : Export). IsThere (add_group s x).filled e.item) (λ e p. there_later s.filled (add_group s x).filled e.item (group_counts s x e.item.space) p) s.filled.exports h.exports_there; exports_distinct = h.exports_distinct; start_there = h.start_there; elements_there = h.elements_there; elements_listed = h.elements_listed; segments_there = h.segments_there }

pub function_linked : (s : State) (x : Function) → IsFunctionType s.filled x.ty → IsLinked s.filled → IsLinked (with_function s x).filled
function_linked s x p h = record { functions_typed = each_push (λ (f : Function). IsFunctionType s.filled f.ty) s.filled.functions x h.functions_typed p; tags_typed = h.tags_typed; tables_limited = h.tables_limited; memories_limited = h.memories_limited; imports_there = each_later (λ (i : Import). IsThere s.filled i.item) (λ (i : Import). IsThere (with_function s x).filled i.item) (λ i p. there_later s.filled (with_function s x).filled i.item (function_counts s x i.item.space) p) s.filled.imports h.imports_there; exports_there = each_later (λ (e : Export). IsThere s.filled e.item) (λ (e : Export). IsThere (with_function s x).filled e.item) (λ e p. there_later s.filled (with_function s x).filled e.item (function_counts s x e.item.space) p) s.filled.exports h.exports_there; exports_distinct = h.exports_distinct; start_there = below_later (length s.filled.functions) (length (with_function s x).filled.functions) s.filled.start (one_more s.filled.functions (Some x)) h.start_there; elements_there = h.elements_there; elements_listed = each_later (λ (e : Element). AreListed (length s.filled.functions) e.items) (λ (e : Element). AreListed (length (with_function s x).filled.functions) e.items) (λ e q. listed_later (length s.filled.functions) (length (with_function s x).filled.functions) e.items (one_more s.filled.functions (Some x)) q) s.filled.elements h.elements_listed; segments_there = h.segments_there }

pub table_linked : (s : State) (x : Table) → in_order x.initial x.maximum ≡ true → IsLinked s.filled → IsLinked (with_table s x).filled
table_linked s x p h = record { functions_typed = h.functions_typed; tags_typed = h.tags_typed; tables_limited = each_push (λ (t : Table). in_order t.initial t.maximum ≡ true) s.filled.tables x h.tables_limited p; memories_limited = h.memories_limited; imports_there = each_later (λ (i : Import). IsThere s.filled i.item) (λ (i : Import). IsThere (with_table s x).filled i.item) (λ i p. there_later s.filled (with_table s x).filled i.item (table_counts s x i.item.space) p) s.filled.imports h.imports_there; exports_there = each_later (λ (e : Export). IsThere s.filled e.item) (λ (e : Export). IsThere (with_table s x).filled e.item) (λ e p. there_later s.filled (with_table s x).filled e.item (table_counts s x e.item.space) p) s.filled.exports h.exports_there; exports_distinct = h.exports_distinct; start_there = h.start_there; elements_there = each_later (λ (e : Element). GoesInto (length s.filled.tables) e.mode) (λ (e : Element). GoesInto (length (with_table s x).filled.tables) e.mode) (λ e q. goes_later (length s.filled.tables) (length (with_table s x).filled.tables) e.mode (one_more s.filled.tables (Some x)) q) s.filled.elements h.elements_there; elements_listed = h.elements_listed; segments_there = h.segments_there }

pub memory_linked : (s : State) (x : Memory) → IsLimited x → IsLinked s.filled → IsLinked (with_memory s x).filled
memory_linked s x p h = record { functions_typed = h.functions_typed; tags_typed = h.tags_typed; tables_limited = h.tables_limited; memories_limited = each_push IsLimited s.filled.memories x h.memories_limited p; imports_there = each_later (λ (i : Import). IsThere s.filled i.item) (λ (i : Import). IsThere (with_memory s x).filled i.item) (λ i p. there_later s.filled (with_memory s x).filled i.item (memory_counts s x i.item.space) p) s.filled.imports h.imports_there; exports_there = each_later (λ (e : Export). IsThere s.filled e.item) (λ (e : Export). IsThere (with_memory s x).filled e.item) (λ e p. there_later s.filled (with_memory s x).filled e.item (memory_counts s x e.item.space) p) s.filled.exports h.exports_there; exports_distinct = h.exports_distinct; start_there = h.start_there; elements_there = h.elements_there; elements_listed = h.elements_listed; segments_there = each_later (λ (e : Segment). GoesInto (length s.filled.memories) e.mode) (λ (e : Segment). GoesInto (length (with_memory s x).filled.memories) e.mode) (λ e q. goes_later (length s.filled.memories) (length (with_memory s x).filled.memories) e.mode (one_more s.filled.memories (Some x)) q) s.filled.segments h.segments_there }

pub tag_linked : (s : State) (x : Tag) → IsFunctionType s.filled x.ty → IsLinked s.filled → IsLinked (with_tag s x).filled
tag_linked s x p h = record { functions_typed = h.functions_typed; tags_typed = each_push (λ (t : Tag). IsFunctionType s.filled t.ty) s.filled.tags x h.tags_typed p; tables_limited = h.tables_limited; memories_limited = h.memories_limited; imports_there = each_later (λ (i : Import). IsThere s.filled i.item) (λ (i : Import). IsThere (with_tag s x).filled i.item) (λ i p. there_later s.filled (with_tag s x).filled i.item (tag_counts s x i.item.space) p) s.filled.imports h.imports_there; exports_there = each_later (λ (e : Export). IsThere s.filled e.item) (λ (e : Export). IsThere (with_tag s x).filled e.item) (λ e p. there_later s.filled (with_tag s x).filled e.item (tag_counts s x e.item.space) p) s.filled.exports h.exports_there; exports_distinct = h.exports_distinct; start_there = h.start_there; elements_there = h.elements_there; elements_listed = h.elements_listed; segments_there = h.segments_there }

pub global_linked : (s : State) (x : Global) → IsLinked s.filled → IsLinked (with_global s x).filled
global_linked s x h = record { functions_typed = h.functions_typed; tags_typed = h.tags_typed; tables_limited = h.tables_limited; memories_limited = h.memories_limited; imports_there = each_later (λ (i : Import). IsThere s.filled i.item) (λ (i : Import). IsThere (with_global s x).filled i.item) (λ i p. there_later s.filled (with_global s x).filled i.item (global_counts s x i.item.space) p) s.filled.imports h.imports_there; exports_there = each_later (λ (e : Export). IsThere s.filled e.item) (λ (e : Export). IsThere (with_global s x).filled e.item) (λ e p. there_later s.filled (with_global s x).filled e.item (global_counts s x e.item.space) p) s.filled.exports h.exports_there; exports_distinct = h.exports_distinct; start_there = h.start_there; elements_there = h.elements_there; elements_listed = h.elements_listed; segments_there = h.segments_there }

pub element_linked : (s : State) (x : ElementEntry) → GoesInto (length s.filled.tables) (element_of x.1).mode → AreListed (length s.filled.functions) (element_of x.1).items → IsLinked s.filled → IsLinked (add_element s x).filled
element_linked s x p q h = record { functions_typed = h.functions_typed; tags_typed = h.tags_typed; tables_limited = h.tables_limited; memories_limited = h.memories_limited; imports_there = each_later (λ (i : Import). IsThere s.filled i.item) (λ (i : Import). IsThere (add_element s x).filled i.item) (λ i p. there_later s.filled (add_element s x).filled i.item (element_counts s x i.item.space) p) s.filled.imports h.imports_there; exports_there = each_later (λ (e : Export). IsThere s.filled e.item) (λ (e : Export). IsThere (add_element s x).filled e.item) (λ e p. there_later s.filled (add_element s x).filled e.item (element_counts s x e.item.space) p) s.filled.exports h.exports_there; exports_distinct = h.exports_distinct; start_there = h.start_there; elements_there = each_push (λ (e : Element). GoesInto (length s.filled.tables) e.mode) s.filled.elements (element_of x.1) h.elements_there p; elements_listed = each_push (λ (e : Element). AreListed (length s.filled.functions) e.items) s.filled.elements (element_of x.1) h.elements_listed q; segments_there = h.segments_there }

pub data_linked : (s : State) (x : DataEntry) → GoesInto (length s.filled.memories) (segment_of x.1).mode → IsLinked s.filled → IsLinked (add_data s x).filled
data_linked s x p h = record { functions_typed = h.functions_typed; tags_typed = h.tags_typed; tables_limited = h.tables_limited; memories_limited = h.memories_limited; imports_there = each_later (λ (i : Import). IsThere s.filled i.item) (λ (i : Import). IsThere (add_data s x).filled i.item) (λ i p. there_later s.filled (add_data s x).filled i.item (data_counts s x i.item.space) p) s.filled.imports h.imports_there; exports_there = each_later (λ (e : Export). IsThere s.filled e.item) (λ (e : Export). IsThere (add_data s x).filled e.item) (λ e p. there_later s.filled (add_data s x).filled e.item (data_counts s x e.item.space) p) s.filled.exports h.exports_there; exports_distinct = h.exports_distinct; start_there = h.start_there; elements_there = h.elements_there; elements_listed = h.elements_listed; segments_there = each_push (λ (e : Segment). GoesInto (length s.filled.memories) e.mode) s.filled.segments (segment_of x.1) h.segments_there p }

pub export_linked : (s : State) (x : ExportEntry) → x.1 < count_of s.filled (kind_space x.0.1) → list_any (has_name x.0.0) s.filled.exports ≡ false → IsLinked s.filled → IsLinked (add_export s x).filled
export_linked s x p q h = record { functions_typed = h.functions_typed; tags_typed = h.tags_typed; tables_limited = h.tables_limited; memories_limited = h.memories_limited; imports_there = h.imports_there; exports_there = each_push (λ (e : Export). IsThere s.filled e.item) s.filled.exports (record { name = x.0.0; item = record { space = kind_space x.0.1; number = x.1 } }) h.exports_there p; exports_distinct = distinct_push [] s.filled.exports (record { name = x.0.0; item = record { space = kind_space x.0.1; number = x.1 } }) h.exports_distinct q; start_there = h.start_there; elements_there = h.elements_there; elements_listed = h.elements_listed; segments_there = h.segments_there }

pub start_linked : (s : State) (n : ℕ) → n < length s.filled.functions → IsLinked s.filled → IsLinked (set_start s n).filled
start_linked s n p h = record { functions_typed = h.functions_typed; tags_typed = h.tags_typed; tables_limited = h.tables_limited; memories_limited = h.memories_limited; imports_there = h.imports_there; exports_there = h.exports_there; exports_distinct = h.exports_distinct; start_there = p; elements_there = h.elements_there; elements_listed = h.elements_listed; segments_there = h.segments_there }

pub import_linked : (s : State) (x : Import) → IsThere s.filled x.item → IsLinked s.filled → IsLinked (with_import s x).filled
import_linked s x p h = record { functions_typed = h.functions_typed; tags_typed = h.tags_typed; tables_limited = h.tables_limited; memories_limited = h.memories_limited; imports_there = each_push (λ (i : Import). IsThere s.filled i.item) s.filled.imports x h.imports_there p; exports_there = h.exports_there; exports_distinct = h.exports_distinct; start_there = h.start_there; elements_there = h.elements_there; elements_listed = h.elements_listed; segments_there = h.segments_there }
