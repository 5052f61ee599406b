-- What is due for bodies by a plan's numbers is the code section of the plan's part, in which the locals of each body are numbered.
use Rattle.std.specs.Prelude.{ℕ, ◌≡◌, Bool, List, ◌++◌, map, Option}
use Rattle.std.specs.List.{AllByRecursion}
use Rattle.wasm_features.specs.declared.WasmFeatures.{WasmFeatures}
use Rattle.wasm_operators.specs.Items.{Functions}
use Rattle.wasm_grammar.specs.Modules as grammar
use Rattle.wasm_body_grammar.specs.Rules.{Around}
use Rattle.wasm_sections.specs.Modules.{magic}
use Rattle.wasm_sections.specs.Sections.{TypeSection}
use Rattle.wasm_module_bytes.specs.Bytes.{without_places}
use Rattle.wasm_module_bytes.specs.Due.{group_from}
use Rattle.wasm_canonical.specs.Canonical.{canonical_bytes, first_customs, last_customs}
use Rattle.wasm_canonical.specs.Due.{bodies_due, code_if, counts_data, custom_due, section_if, standard_due}
use Rattle.wasm_part.specs.Part.{Plan, part}
use Rattle.walrus_index_maps.specs.Maps.{Indices}
use Rattle.walrus_pairing.specs.Looks.{number_of}
use Rattle.walrus_module.specs.Parts.{Module}
use Rattle.walrus_meaning.specs.Meaning.{means, slots_of}
use Rattle.walrus_emit_numbers.specs.declared.facts.BodyFacts.{BodyFacts}
use Rattle.walrus_emit_parts.specs.Due.{Due}
use Rattle.walrus_emit_due.specs.Items.{segments}
use Rattle.walrus_emit_code.specs.Code.{code}
use Rattle.walrus_due_laws.specs.Spelled.{SpelledAs, spelled}
use Rattle.walrus_due_laws.specs.Standard.{ServesBy, before_code, due_before, names_segments}
use Rattle.walrus_code_laws.specs.Code.{BodiesHavePlaces, KnowsBody}
use Rattle.walrus_code_laws.specs.Numbered.{numbered_function}
use Rattle.walrus_code_laws.specs.Spelled.{ServesBodies}

-- ---- the module that is meant, with the locals of each body numbered

abbrev pub numbered : Module → grammar.Module
numbered m = record (means m) { functions = slots_of (numbered_function m.locals) m.funcs }

-- around code a part doesn't show how locals are numbered, and in code it doesn't show places
pub record CodeIsApart : Type 0 where
  pub around : (p : Plan) (m : Module) → before_code (part p (numbered m)) ≡ before_code (part p (means m))
  pub segments : (p : Plan) (m : Module) → names_segments (part p (numbered m)) ≡ names_segments (part p (means m))
  pub unplaced : (a : Around) (n : grammar.Module) → bodies_due a (without_places n) ≡ bodies_due a n

-- ---- its part

-- the plan's numbers serve for all sections, and the bodies of which this is known are those of the plan, in its order
pub record ServesCode (i : Indices) (p : Plan) (m : Module) (facts : List BodyFacts) : Type 0 where
  pub items : ServesBy (number_of i 0) p (means m)
  pub bodies : ServesBodies p.renames i
  pub places : BodiesHavePlaces m.locals m.funcs i
  pub known : AllByRecursion (KnowsBody m.locals m.funcs) facts
  pub order : map (λ (f : BodyFacts). f.function) facts ≡ items.order.own Functions

-- then code is that of the part
abbrev pub PartCodeIsSpelled : Type 0
PartCodeIsSpelled = (features : WasmFeatures) (a : Around) (i : Indices) (p : Plan) (m : Module) (facts : List BodyFacts) → ServesCode i p m facts
    → SpelledAs (code m.locals m.funcs i facts) (spelled features (code_if (bodies_due a (part p (numbered m)))))

-- ---- all of it

-- what is due for the standard sections, with this for the types, these functions with bodies, and whether a body names a data segment
abbrev pub all_due : Indices → Module → List BodyFacts → List ℕ → Due → Bool → Due
all_due i m facts functions types named =
    let look = number_of i 0 in due_before types look (means m) functions named ++ (code m.locals m.funcs i facts ++ segments look (means m).segments)

-- the types are those of the plan, and the bodies name data segments where this says so
pub record AreTold (features : WasmFeatures) (p : Plan) (m : Module) (types : Due) (named : Bool) : Type 0 where
  pub groups : SpelledAs types (spelled features (section_if TypeSection (map group_from p.groups)))
  pub segments : named ≡ names_segments (part p (means m))

-- then they are those of the part, places aside
abbrev pub PartsAreWritten : Type 0
PartsAreWritten = (features : WasmFeatures) (a : Around) (i : Indices) (p : Plan) (m : Module) (facts : List BodyFacts) (serves : ServesCode i p m facts) (types : Due) (named : Bool)
    → AreTold features p m types named
    → (let n = without_places (part p (numbered m)) in
    SpelledAs (all_due i m facts (serves.items.order.own Functions) types named) (spelled features (standard_due (bodies_due a n) (counts_data n) n)))

-- and between its custom sections they are its canonical bytes
abbrev pub PartsAreCanonical : Type 0
PartsAreCanonical = (features : WasmFeatures) (i : Indices) (p : Plan) (m : Module) (facts : List BodyFacts) (serves : ServesCode i p m facts) (types : Due) (named : Bool)
    → AreTold features p m types named → (customs : List (Option grammar.Custom)) (first last : Due)
    → (let n = record (part p (numbered m)) { customs = customs } in
    SpelledAs first (magic ++ spelled features (map custom_due (first_customs n))) → SpelledAs last (spelled features (map custom_due (last_customs n)))
    → SpelledAs (first ++ (all_due i m facts (serves.items.order.own Functions) types named ++ last)) (canonical_bytes features n))
