-- What is true of a module that was read, field by field (Core Specification, valid modules).
use Rattle.std.specs.Prelude.{ℕ, ◌<◌, ◌≡◌, true, false, List, [], ◌∷◌, ◌++◌, length, Option, Some, None, slice_get}
use Rattle.std.specs.List.{list_any}
use Rattle.wasm_features.specs.declared.WasmFeatures.{WasmFeatures}
use Rattle.wasm_modules.specs.wasm_body_grammar.wasm_grammar.Modules.{Item, Function, Table, Memory, Tag, Mode, Passive, Declared, Active, Elements, Functions, Expressions, Element, Segment, Import, Export, Module}
use Rattle.wasm_modules.specs.wasm_body_grammar.wasm_grammar.Values.{in_order, is_some}
use Rattle.wasm_modules.specs.wasm_body_grammar.wasm_grammar.States.{types_of, count_of, form_test}
use Rattle.wasm_modules.specs.wasm_sections.Exports.{has_name}
use Rattle.wasm_modules.specs.Modules.{Reads}

-- of each filled slot
abbrev pub Each : {A : Type 0} → (A → Type 0) → List (Option A) → Type 0
Each P [] = Unit {0}
Each P (None ∷ xs) = Each P xs
Each P (Some x ∷ xs) = P x × Each P xs

-- the index of a function type
abbrev pub IsFunctionType : Module → ℕ → Type 0
IsFunctionType m n = form_test (slice_get (types_of m) n) ≡ None

-- an item of the module
abbrev pub IsThere : Module → Item → Type 0
IsThere m i = i.number < count_of m i.space

-- no export before it has its name
abbrev pub IsFresh : List (Option Export) → Option Export → Type 0
IsFresh earlier None = Unit {0}
IsFresh earlier (Some e) = list_any (has_name e.name) earlier ≡ false

abbrev pub AreDistinct : List (Option Export) → List (Option Export) → Type 0
AreDistinct earlier [] = Unit {0}
AreDistinct earlier (e ∷ es) = IsFresh earlier e × AreDistinct (earlier ++ e ∷ []) es

-- an active segment goes into one of so many
abbrev pub GoesInto : ℕ → Mode → Type 0
GoesInto count (Active n offset) = n < count
GoesInto count Passive = Unit {0}
GoesInto count Declared = Unit {0}

abbrev pub AllBelow : ℕ → List ℕ → Type 0
AllBelow count [] = Unit {0}
AllBelow count (n ∷ ns) = (n < count) × AllBelow count ns

-- the functions of a segment are there
abbrev pub AreListed : ℕ → Elements → Type 0
AreListed count (Functions ns) = AllBelow count ns
AreListed count (Expressions ty es) = Unit {0}

abbrev pub IsBelow : ℕ → Option ℕ → Type 0
IsBelow count None = Unit {0}
IsBelow count (Some n) = n < count

-- limits are in order; shared memories have a maximum
abbrev pub IsLimited : Memory → Type 0
IsLimited x = (in_order x.initial x.maximum ≡ true) × (x.shared ≡ true → is_some x.maximum ≡ true)

pub record IsLinked (m : Module) : Type 0 where
  -- functions and tags have function types
  pub functions_typed : Each (λ (f : Function). IsFunctionType m f.ty) m.functions
  pub tags_typed : Each (λ (t : Tag). IsFunctionType m t.ty) m.tags
  pub tables_limited : Each (λ (t : Table). in_order t.initial t.maximum ≡ true) m.tables
  pub memories_limited : Each IsLimited m.memories
  -- what is imported, exported and started is there
  pub imports_there : Each (λ (i : Import). IsThere m i.item) m.imports
  pub exports_there : Each (λ (e : Export). IsThere m e.item) m.exports
  pub exports_distinct : AreDistinct [] m.exports
  pub start_there : IsBelow (length m.functions) m.start
  -- active segments go into tables and memories that are there, and functions that segments list are
  pub elements_there : Each (λ (e : Element). GoesInto (length m.tables) e.mode) m.elements
  pub elements_listed : Each (λ (e : Element). AreListed (length m.functions) e.items) m.elements
  pub segments_there : Each (λ (x : Segment). GoesInto (length m.memories) x.mode) m.segments

abbrev pub ReadModulesAreLinked : Type 0
ReadModulesAreLinked = (features : WasmFeatures) (bytes : List ℕ) (m : Module) → Reads features bytes m → IsLinked m
