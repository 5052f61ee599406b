-- Where code stands: a place counts from the beginning of the code section's contents, and each body stands behind its size.
use Rattle.std.specs.Prelude.{ℕ, ◌+◌, ◌==◌, Bool, true, false, not, List, [], ◌∷◌, ◌++◌, length, map, filter, Option, Some, None}
use Rattle.std.specs.declared.ops.Range.{Range}
use Rattle.walrus_arena.specs.Arena.{Arena, item_at}
use Rattle.walrus_index_maps.specs.Maps.{Indices}
use Rattle.walrus_instr.specs.declared.seq.InstrLocId.{InstrLocId}
use Rattle.walrus_items.specs.declared.local.Local.{Local}
use Rattle.walrus_body_writer.specs.Spelled.{text_places}
use Rattle.walrus_body_writer.specs.walrus_pairing.Looks.{number_of}
use Rattle.walrus_body_writer.specs.walrus_tree.Text.{operators}
use Rattle.walrus_body_writer.specs.walrus_tree.walrus_builder.Functions.{seqs_of}
use Rattle.walrus_local_function.specs.declared.local_function.LocalFunction.{LocalFunction}
use Rattle.walrus_module_items.specs.declared.function.Function.{Function}
use Rattle.walrus_module_items.specs.Functions.{local_of}
use Rattle.walrus_emit_parts.specs.Due.{Due, number}
use Rattle.walrus_emit_numbers.specs.declared.facts.BodyFacts.{BodyFacts}
use Rattle.walrus_emit_code.specs.Code.{bodies_due, body_due, body_numbers, contents, declarations, with_locals}

-- nothing where places aren't kept
abbrev pub if_kept : {A : Type 0} → Bool → List A → List A
if_kept true xs = xs
if_kept false xs = []

-- ---- one body

-- an operator has a location other than the default
abbrev pub has_location : InstrLocId × ℕ → Bool
has_location p = not (p.0.0 == 4294967295)

-- the locations of operators that have one, each with its place, so much further on
abbrev pub located : ℕ → List (InstrLocId × ℕ) → List (ℕ × ℕ)
located by places = map (λ (p : InstrLocId × ℕ). (p.0.0, by + p.1)) (filter has_location places)

-- where the operators of a body stand, the first of them there
abbrev pub places_from : ℕ → ℕ → LocalFunction → Indices → List (InstrLocId × ℕ)
places_from at function local i = text_places (number_of i function) (seqs_of local.builder) at (operators (seqs_of local.builder) 0)

-- where they stand in it, behind the declarations of its locals
abbrev pub places_in : List Local → ℕ → LocalFunction → List ℕ → Indices → List (InstrLocId × ℕ)
places_in locals function local used i = places_from (length (declarations locals local used i)) function local (with_locals locals function local used i)

-- what is due stands behind its size, which stands there
abbrev pub behind_size : ℕ → Due → ℕ
behind_size at due = at + length (number (length due))

abbrev pub range_of : ℕ → Due → Range ℕ
range_of at due = record { start = behind_size at due; end = behind_size at due + length due }

-- ---- all of them

module _ (locals : List Local) (functions : Arena Function) where
  abbrev pub kind_locations : Indices → BodyFacts → ℕ → Option LocalFunction → List (ℕ × ℕ)
  kind_locations i facts at None = []
  kind_locations i facts at (Some local) =
      located (behind_size at (contents locals facts.function local facts.used_locals.items i)) (places_in locals facts.function local facts.used_locals.items i)

  abbrev pub slot_locations : Indices → BodyFacts → ℕ → Option Function → List (ℕ × ℕ)
  slot_locations i facts at None = []
  slot_locations i facts at (Some f) = kind_locations i facts at (local_of f.kind)

  -- of the operators of a function's body, the size of which stands there
  abbrev pub body_locations : Indices → BodyFacts → ℕ → List (ℕ × ℕ)
  body_locations i facts at = slot_locations i facts at (item_at functions facts.function)

  abbrev pub kind_ranges : Indices → BodyFacts → ℕ → Option LocalFunction → List (ℕ × Range ℕ)
  kind_ranges i facts at None = []
  kind_ranges i facts at (Some local) = (facts.function, range_of at (contents locals facts.function local facts.used_locals.items i)) ∷ []

  abbrev pub slot_ranges : Indices → BodyFacts → ℕ → Option Function → List (ℕ × Range ℕ)
  slot_ranges i facts at None = []
  slot_ranges i facts at (Some f) = kind_ranges i facts at (local_of f.kind)

  -- the body itself, without its size
  abbrev pub body_ranges : Indices → BodyFacts → ℕ → List (ℕ × Range ℕ)
  body_ranges i facts at = slot_ranges i facts at (item_at functions facts.function)

  -- one body behind another, the first of them there
  abbrev pub bodies_locations : Indices → ℕ → List BodyFacts → List (ℕ × ℕ)
  bodies_locations i at [] = []
  bodies_locations i at (f ∷ fs) = body_locations i f at ++ bodies_locations (body_numbers locals functions i f) (at + length (body_due locals functions i f)) fs

  abbrev pub bodies_ranges : Indices → ℕ → List BodyFacts → List (ℕ × Range ℕ)
  bodies_ranges i at [] = []
  bodies_ranges i at (f ∷ fs) = body_ranges i f at ++ bodies_ranges (body_numbers locals functions i f) (at + length (body_due locals functions i f)) fs

  -- those of the section, behind the count of its bodies
  abbrev pub locations : Indices → List BodyFacts → List (ℕ × ℕ)
  locations i fs = bodies_locations i (length (number (length fs))) fs

  abbrev pub ranges : Indices → List BodyFacts → List (ℕ × Range ℕ)
  ranges i fs = bodies_ranges i (length (number (length fs))) fs

  -- where the section's contents begin, if the section stands there; as before where there is no body
  abbrev pub code_start : Indices → (before at : ℕ) → List BodyFacts → ℕ
  code_start i before at [] = before
  code_start i before at (f ∷ fs) = behind_size (at + 1) (number (length (f ∷ fs)) ++ bodies_due locals functions i (f ∷ fs))
