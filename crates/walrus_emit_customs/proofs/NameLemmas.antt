-- The names of items are found one after another.
use Rattle.std.specs.Prelude.{ℕ, ◌+◌, ◌≡◌, ◌<◌, ◌≤◌, zero, suc, List, [], ◌∷◌, ◌++◌, length, drop, slice_get, slice_index_or, Option, Some, None, refl}
use Rattle.std.specs.List.{filter_map, flat_map}
use Rattle.std.specs.Option.{option_and_then}
use Rattle.std.proofs.Common.{ap, sym, ◌∙◌, append_assoc, append-nil, arith}
use Rattle.std.proofs.lemmas.List.{at_drop_more}
use Rattle.wasm_formats.specs.declared.fault.Space.{Space}
use Rattle.wasm_formats.specs.declared.fault.Space.TheVariants as spaces
use Rattle.wasm_name_payloads.specs.Written.{NameMap}
use Rattle.walrus_index_maps.specs.Maps.{Indices}
use Rattle.walrus_items.specs.declared.local.Local.{Local}
use Rattle.walrus_module.specs.Parts.{Module}
use Rattle.walrus_types.specs.declared.emit.EmittedTypes.{EmittedTypes}
use Rattle.walrus_emit_numbers.specs.declared.facts.BodyFacts.{BodyFacts}
use Rattle.walrus_payload_writers.specs.Names.{entries_of, functions_of}
use Rattle.walrus_payload_writers.specs.Sections.{items_of, names_of, own_of}
use Rattle.walrus_payload_writers.specs.declared.names.Names.{Names}
use Rattle.walrus_emit_customs.specs.Names.{entry, local_name, names, names_in, text}

-- ---- what was made, with what is made of those that are left, is what is made of all

module _ {A N : Type 0} (made_of : A → List N) (all : List A) where
  pub none_made : (left : List A) (made : List N) → left ≡ all → made ≡ [] → made ++ flat_map made_of left ≡ flat_map made_of all
  none_made left made same none = ap (λ (l : List N). l ++ flat_map made_of left) none ∙ ap (λ (l : List A). flat_map made_of l) same

  pub one_made : (had left : List A) (x : A) (made new : List N) → had ≡ x ∷ left → made ++ flat_map made_of had ≡ flat_map made_of all → new ≡ made ++ made_of x
      → new ++ flat_map made_of left ≡ flat_map made_of all
  one_made had left x made new step h is =
      ap (λ (l : List N). l ++ flat_map made_of left) is ∙ append_assoc made (made_of x) (flat_map made_of left)
      ∙ sym (ap (λ (l : List A). made ++ flat_map made_of l) step) ∙ h

  pub all_made : (had : List A) (made : List N) → had ≡ [] → made ++ flat_map made_of had ≡ flat_map made_of all → made ≡ flat_map made_of all
  all_made had made none h = sym (append-nil made) ∙ sym (ap (λ (l : List A). made ++ flat_map made_of l) none) ∙ h

-- by the places of those that are left
module _ {A N : Type 0} (made_of : A → List N) (all : List A) where
  pub next_made : (i : ℕ) (d x : A) (made new : List N) → i < length all → x ≡ slice_index_or all i d → made ++ flat_map made_of (drop i all) ≡ flat_map made_of all → new ≡ made ++ made_of x
      → new ++ flat_map made_of (drop (i + 1) all) ≡ flat_map made_of all
  next_made i d x made new lt at h is =
      one_made made_of all (drop i all) (drop (i + 1) all) (slice_index_or all i d) made new (at_drop_more (λ (l : List A). l) all i d lt) h
      (is ∙ ap (λ (y : A). made ++ made_of y) at)

-- ---- locals of functions

no_local : (locals : List Local) (id : ℕ) → length locals ≤ id → slice_get locals id ≡ None
no_local [] id le = refl
no_local (l ∷ locals) zero le = absurd (omega (arith, le))
no_local (l ∷ locals) (suc id) le = no_local locals id (omega (arith, le))

pub local_skipped : (old : NameMap) (number : Option ℕ) (locals : List Local) (id at : ℕ) → at ≡ id → length locals ≤ at → old ≡ old ++ entry number (local_name locals id)
local_skipped old number locals id at same le =
    sym (append-nil old) ∙ ap (λ (o : Option Local). old ++ entry number (option_and_then (λ (l : Local). text l.name) o)) (sym (no_local locals id (omega (arith, same, le))))

-- ---- the facts of bodies at their positions

at_position : (facts : List BodyFacts) (at : ℕ) (d : BodyFacts) → at < length facts → slice_get facts at ≡ Some (slice_index_or facts at d)
at_position [] at d lt = absurd (omega (arith, lt))
at_position (f ∷ fs) zero d lt = refl
at_position (f ∷ fs) (suc at) d lt = at_position fs at d (omega (arith, lt))

first_body : (facts : List BodyFacts) (at : ℕ) (d : BodyFacts) (order : List ℕ) → at < length facts → filter_map (slice_get facts) (at ∷ order) ≡ slice_index_or facts at d ∷ filter_map (slice_get facts) order
first_body facts at d order lt = rw (at_position facts at d lt) refl

-- the next one
pub next_body : (facts : List BodyFacts) (order : List ℕ) (i o at : ℕ) (d f : BodyFacts) → i < length order → at ≡ slice_index_or order i o → at < length facts → f ≡ slice_index_or facts at d
    → filter_map (slice_get facts) (drop i order) ≡ f ∷ filter_map (slice_get facts) (drop (i + 1) order)
next_body facts order i o at d f lt is inside fact =
    at_drop_more (λ (l : List ℕ). filter_map (slice_get facts) l) order i o lt
    ∙ ap (λ (k : ℕ). filter_map (slice_get facts) (k ∷ drop (i + 1) order)) (sym is)
    ∙ first_body facts at d (drop (i + 1) order) inside
    ∙ ap (λ (g : BodyFacts). g ∷ filter_map (slice_get facts) (drop (i + 1) order)) (sym fact)

-- ---- all of them

module _ (n : Names) (m : Module) (types : EmittedTypes) (i : Indices) where
  items_are : entries_of n.functions.items ≡ names_in m types i spaces.Function → entries_of n.types.items ≡ names_in m types i spaces.«Type»
      → entries_of n.tables.items ≡ names_in m types i spaces.Table → entries_of n.memories.items ≡ names_in m types i spaces.Memory
      → entries_of n.globals.items ≡ names_in m types i spaces.Global → entries_of n.elements.items ≡ names_in m types i spaces.Element
      → entries_of n.data_segments.items ≡ names_in m types i spaces.Data → entries_of n.tags.items ≡ names_in m types i spaces.Tag
      → (space : Space) → items_of n space ≡ names_in m types i space
  items_are f t tb me g e d ta spaces.Function = f
  items_are f t tb me g e d ta spaces.«Type» = t
  items_are f t tb me g e d ta spaces.Table = tb
  items_are f t tb me g e d ta spaces.Memory = me
  items_are f t tb me g e d ta spaces.Global = g
  items_are f t tb me g e d ta spaces.Element = e
  items_are f t tb me g e d ta spaces.Data = d
  items_are f t tb me g e d ta spaces.Tag = ta
  items_are f t tb me g e d ta spaces.Local = refl
  items_are f t tb me g e d ta spaces.Label = refl

  pub names_are : (bodies : List BodyFacts) → own_of n.own ≡ text m.name → functions_of n.locals.items ≡ (names m types bodies i).locals
      → entries_of n.functions.items ≡ names_in m types i spaces.Function → entries_of n.types.items ≡ names_in m types i spaces.«Type»
      → entries_of n.tables.items ≡ names_in m types i spaces.Table → entries_of n.memories.items ≡ names_in m types i spaces.Memory
      → entries_of n.globals.items ≡ names_in m types i spaces.Global → entries_of n.elements.items ≡ names_in m types i spaces.Element
      → entries_of n.data_segments.items ≡ names_in m types i spaces.Data → entries_of n.tags.items ≡ names_in m types i spaces.Tag
      → names_of n ≡ names m types bodies i
  names_are bodies own locals f t tb me g e d ta k = record { own = own k; items = λ space. items_are f t tb me g e d ta space k; locals = locals k }
