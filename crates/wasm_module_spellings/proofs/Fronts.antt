-- Lemmas: the lists of a module as far as it was read are fronts of those of the whole module; behind its section's place a list is whole.
use Rattle.std.specs.Prelude.{ℕ, ◌<◌, ◌≤◌, ◌≡◌, List, [], ◌∷◌, ◌++◌, length, filter, Option, Some, None, refl}
use Rattle.std.specs.List.{flat_map}
use Rattle.std.proofs.Common.{ap, sym, ◌∙◌, subst, arith}
use Rattle.std.proofs.lemmas.List.{append_assoc, append-nil, length-append}
use Rattle.std.proofs.lemmas.List.Elements.{filter-append}
use Rattle.walrus_forms.specs.Records.{TypeGroup}
use Rattle.wasm_grammar.specs.Modules.{Function, Table, Memory, Tag, Global, Import, Export, Custom, Element, Segment, Module}
use Rattle.wasm_grammar.specs.States.{types_of}
use Rattle.wasm_module_rules.specs.Linked.{Each}
use Rattle.wasm_ruled_modules.specs.Rules.{is_imported}

-- ---- one list

-- ys is xs and what came behind: nothing once the place of its own section is reached
abbrev pub Front : {A : Type 0} → ℕ → ℕ → List A → List A → Type 0
Front {A} own place xs ys = (more : List A) × (ys ≡ xs ++ more) × (own ≤ place → more ≡ [])

-- globals that aren't imported come behind all that are
abbrev pub GlobalsFront : ℕ → List (Option Global) → List (Option Global) → Type 0
GlobalsFront place xs ys = (more : List (Option Global)) × (ys ≡ xs ++ more) × (7 ≤ place → more ≡ []) × (2 ≤ place → filter is_imported more ≡ [])

pub front_all : {A : Type 0} (own place : ℕ) (xs : List A) → Front own place xs xs
front_all own place xs = ([], sym (append-nil xs), λ h. refl)

pub front_earlier : {A : Type 0} (own p q : ℕ) (xs ys : List A) → p ≤ q → Front own q xs ys → Front own p xs ys
front_earlier own p q xs ys le h = (h.0, h.1, λ at. h.2 (omega (arith, le, at)))

pub grown : {A : Type 0} (own q : ℕ) (xs new ys : List A) → q < own → Front own q (xs ++ new) ys → Front own q xs ys
grown own q xs new ys lt h = (new ++ h.0, h.1 ∙ append_assoc xs new h.0, λ at. absurd (omega (arith, lt, at)))

pub front_whole : {A : Type 0} (own q : ℕ) (xs ys : List A) → own ≤ q → Front own q xs ys → ys ≡ xs
front_whole own q xs ys le h = h.1 ∙ ap (λ (l : List _). xs ++ l) (h.2 le) ∙ append-nil xs

pub front_longer : {A : Type 0} (own q : ℕ) (xs ys : List A) (x : A) → Front own q (xs ++ x ∷ []) ys → length xs < length ys
front_longer own q xs ys x h = omega (arith, ap length h.1, length-append (xs ++ x ∷ []) h.0, length-append xs (x ∷ []))

-- what each item of the whole list is, the one behind a front is
each_mid : {A : Type 0} (P : A → Type 0) (xs more : List (Option A)) (x : A) → Each P ((xs ++ Some x ∷ []) ++ more) → P x
each_mid P [] more x h = h.0
each_mid P (None ∷ xs) more x h = each_mid P xs more x h
each_mid P (Some y ∷ xs) more x h = each_mid P xs more x h.1

pub item_is : {A : Type 0} (P : A → Type 0) (own q : ℕ) (xs ys : List (Option A)) (x : A) → Front own q (xs ++ Some x ∷ []) ys → Each P ys → P x
item_is P own q xs ys x h all = each_mid P xs h.0 x (subst (Each P) h.1 all)

pub global_is : (P : Global → Type 0) (q : ℕ) (xs ys : List (Option Global)) (x : Global) → GlobalsFront q (xs ++ Some x ∷ []) ys → Each P ys → P x
global_is P q xs ys x h all = each_mid P xs h.0 x (subst (Each P) h.1 all)

pub globals_longer : (q : ℕ) (xs ys : List (Option Global)) (x : Option Global) → GlobalsFront q (xs ++ x ∷ []) ys → length xs < length ys
globals_longer q xs ys x h = omega (arith, ap length h.1, length-append (xs ++ x ∷ []) h.0, length-append xs (x ∷ []))

-- ---- all of them

pub record Fronts (place : ℕ) (m whole : Module) : Type 0 where
  pub groups : Front 1 place m.groups whole.groups
  pub imports : Front 2 place m.imports whole.imports
  pub functions : Front 3 place m.functions whole.functions
  pub tables : Front 4 place m.tables whole.tables
  pub memories : Front 5 place m.memories whole.memories
  pub tags : Front 6 place m.tags whole.tags
  pub exports : Front 8 place m.exports whole.exports
  pub elements : Front 10 place m.elements whole.elements
  pub segments : Front 13 place m.segments whole.segments
  pub globals : GlobalsFront place m.globals whole.globals
  pub start : 9 ≤ place → whole.start ≡ m.start

pub fronts_all : (place : ℕ) (m : Module) → Fronts place m m
fronts_all place m = record {
  groups = front_all 1 place m.groups;
  imports = front_all 2 place m.imports;
  functions = front_all 3 place m.functions;
  tables = front_all 4 place m.tables;
  memories = front_all 5 place m.memories;
  tags = front_all 6 place m.tags;
  exports = front_all 8 place m.exports;
  elements = front_all 10 place m.elements;
  segments = front_all 13 place m.segments;
  globals = ([], sym (append-nil m.globals), λ h. refl, λ h. refl);
  start = λ h. refl;
}

pub fronts_earlier : (p q : ℕ) (m w : Module) → p ≤ q → Fronts q m w → Fronts p m w
fronts_earlier p q m w le h = record {
  groups = front_earlier 1 p q m.groups w.groups le h.groups;
  imports = front_earlier 2 p q m.imports w.imports le h.imports;
  functions = front_earlier 3 p q m.functions w.functions le h.functions;
  tables = front_earlier 4 p q m.tables w.tables le h.tables;
  memories = front_earlier 5 p q m.memories w.memories le h.memories;
  tags = front_earlier 6 p q m.tags w.tags le h.tags;
  exports = front_earlier 8 p q m.exports w.exports le h.exports;
  elements = front_earlier 10 p q m.elements w.elements le h.elements;
  segments = front_earlier 13 p q m.segments w.segments le h.segments;
  globals = let g = h.globals in (g.0, g.1, λ at. g.2 (omega (arith, le, at)), λ at. g.3 (omega (arith, le, at)));
  start = λ at. h.start (omega (arith, le, at));
}

-- ---- before one more item

pub before_group : (q : ℕ) (m w : Module) (x : TypeGroup) → q < 1 → Fronts q (record m { groups = m.groups ++ x ∷ [] }) w → Fronts q m w
before_group q m w x lt h = record { groups = grown 1 q m.groups (x ∷ []) w.groups lt h.groups; imports = h.imports; functions = h.functions; tables = h.tables; memories = h.memories; tags = h.tags; exports = h.exports; elements = h.elements; segments = h.segments; globals = h.globals; start = h.start }

pub before_import : (q : ℕ) (m w : Module) (x : Import) → q < 2 → Fronts q (record m { imports = m.imports ++ Some x ∷ [] }) w → Fronts q m w
before_import q m w x lt h = record { groups = h.groups; imports = grown 2 q m.imports (Some x ∷ []) w.imports lt h.imports; functions = h.functions; tables = h.tables; memories = h.memories; tags = h.tags; exports = h.exports; elements = h.elements; segments = h.segments; globals = h.globals; start = h.start }

pub before_function : (q : ℕ) (m w : Module) (x : Function) → q < 3 → Fronts q (record m { functions = m.functions ++ Some x ∷ [] }) w → Fronts q m w
before_function q m w x lt h = record { groups = h.groups; imports = h.imports; functions = grown 3 q m.functions (Some x ∷ []) w.functions lt h.functions; tables = h.tables; memories = h.memories; tags = h.tags; exports = h.exports; elements = h.elements; segments = h.segments; globals = h.globals; start = h.start }

pub before_table : (q : ℕ) (m w : Module) (x : Table) → q < 4 → Fronts q (record m { tables = m.tables ++ Some x ∷ [] }) w → Fronts q m w
before_table q m w x lt h = record { groups = h.groups; imports = h.imports; functions = h.functions; tables = grown 4 q m.tables (Some x ∷ []) w.tables lt h.tables; memories = h.memories; tags = h.tags; exports = h.exports; elements = h.elements; segments = h.segments; globals = h.globals; start = h.start }

pub before_memory : (q : ℕ) (m w : Module) (x : Memory) → q < 5 → Fronts q (record m { memories = m.memories ++ Some x ∷ [] }) w → Fronts q m w
before_memory q m w x lt h = record { groups = h.groups; imports = h.imports; functions = h.functions; tables = h.tables; memories = grown 5 q m.memories (Some x ∷ []) w.memories lt h.memories; tags = h.tags; exports = h.exports; elements = h.elements; segments = h.segments; globals = h.globals; start = h.start }

pub before_tag : (q : ℕ) (m w : Module) (x : Tag) → q < 6 → Fronts q (record m { tags = m.tags ++ Some x ∷ [] }) w → Fronts q m w
before_tag q m w x lt h = record { groups = h.groups; imports = h.imports; functions = h.functions; tables = h.tables; memories = h.memories; tags = grown 6 q m.tags (Some x ∷ []) w.tags lt h.tags; exports = h.exports; elements = h.elements; segments = h.segments; globals = h.globals; start = h.start }

pub before_export : (q : ℕ) (m w : Module) (x : Export) → q < 8 → Fronts q (record m { exports = m.exports ++ Some x ∷ [] }) w → Fronts q m w
before_export q m w x lt h = record { groups = h.groups; imports = h.imports; functions = h.functions; tables = h.tables; memories = h.memories; tags = h.tags; exports = grown 8 q m.exports (Some x ∷ []) w.exports lt h.exports; elements = h.elements; segments = h.segments; globals = h.globals; start = h.start }

pub before_element : (q : ℕ) (m w : Module) (x : Element) → q < 10 → Fronts q (record m { elements = m.elements ++ Some x ∷ [] }) w → Fronts q m w
before_element q m w x lt h = record { groups = h.groups; imports = h.imports; functions = h.functions; tables = h.tables; memories = h.memories; tags = h.tags; exports = h.exports; elements = grown 10 q m.elements (Some x ∷ []) w.elements lt h.elements; segments = h.segments; globals = h.globals; start = h.start }

pub before_segment : (q : ℕ) (m w : Module) (x : Segment) → q < 13 → Fronts q (record m { segments = m.segments ++ Some x ∷ [] }) w → Fronts q m w
before_segment q m w x lt h = record { groups = h.groups; imports = h.imports; functions = h.functions; tables = h.tables; memories = h.memories; tags = h.tags; exports = h.exports; elements = h.elements; segments = grown 13 q m.segments (Some x ∷ []) w.segments lt h.segments; globals = h.globals; start = h.start }

-- an own global comes behind the imports, an imported one before their end
pub before_global : (q : ℕ) (m w : Module) (x : Global) → q < 7 → (2 ≤ q → filter is_imported (Some x ∷ []) ≡ []) → Fronts q (record m { globals = m.globals ++ Some x ∷ [] }) w → Fronts q m w
before_global q m w x lt own h = record { groups = h.groups; imports = h.imports; functions = h.functions; tables = h.tables; memories = h.memories; tags = h.tags; exports = h.exports; elements = h.elements; segments = h.segments; globals = (let g = h.globals in (Some x ∷ g.0, g.1 ∙ append_assoc m.globals (Some x ∷ []) g.0, (λ at. absurd (omega (arith, lt, at))), (λ at. filter-append is_imported (Some x ∷ []) g.0 ∙ ap (λ (l : List (Option Global)). l ++ filter is_imported g.0) (own at) ∙ g.3 at))); start = h.start }

pub before_start : (q : ℕ) (m w : Module) (n : ℕ) → q < 9 → Fronts q (record m { start = Some n }) w → Fronts q m w
before_start q m w n lt h = record { groups = h.groups; imports = h.imports; functions = h.functions; tables = h.tables; memories = h.memories; tags = h.tags; exports = h.exports; elements = h.elements; segments = h.segments; globals = h.globals; start = (λ at. absurd (omega (arith, lt, at))) }

-- a custom section is in none of them
pub before_custom : (q : ℕ) (m w : Module) (x : Custom) → Fronts q (record m { customs = m.customs ++ Some x ∷ [] }) w → Fronts q m w
before_custom q m w x h = record { groups = h.groups; imports = h.imports; functions = h.functions; tables = h.tables; memories = h.memories; tags = h.tags; exports = h.exports; elements = h.elements; segments = h.segments; globals = h.globals; start = h.start }

-- ---- what is whole

pub types_whole : (q : ℕ) (m w : Module) → 1 ≤ q → Fronts q m w → types_of w ≡ types_of m
types_whole q m w le h = ap (λ (gs : List TypeGroup). flat_map (λ (g : TypeGroup). g.kinds) gs) (front_whole 1 q m.groups w.groups le h.groups)

pub globals_whole : (q : ℕ) (m w : Module) → 7 ≤ q → Fronts q m w → w.globals ≡ m.globals
globals_whole q m w le h = let g = h.globals in g.1 ∙ ap (λ (l : List (Option Global)). m.globals ++ l) (g.2 le) ∙ append-nil m.globals

-- those that are imported are there behind the imports
pub imported_whole : (q : ℕ) (m w : Module) → 2 ≤ q → Fronts q m w → filter is_imported m.globals ≡ m.globals → filter is_imported w.globals ≡ m.globals
imported_whole q m w le h is =
    let g = h.globals in
    ap (λ (l : List (Option Global)). filter is_imported l) g.1 ∙ filter-append is_imported m.globals g.0
    ∙ ap (λ (l : List (Option Global)). filter is_imported m.globals ++ l) (g.3 le) ∙ append-nil (filter is_imported m.globals) ∙ is
