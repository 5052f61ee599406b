-- The pairs of places that the writing of a code section leaves are those of the bodies that functions mean, renamed, behind their count.
use Rattle.std.specs.Prelude.{ℕ, ◌≡◌, List, length, map, Option}
use Rattle.std.specs.List.{AllByRecursion}
use Rattle.std.specs.Option.{option_map}
use Rattle.wasm_operators.specs.Bytes.{unsigned_bytes}
use Rattle.wasm_operators.specs.Names.{Renaming}
use Rattle.wasm_grammar.specs.Modules as grammar
use Rattle.wasm_body_grammar.specs.Rules.{Around}
use Rattle.wasm_part.specs.Part.{renumbered_function}
use Rattle.wasm_places_laws.specs.Pairs.{functions_pairs}
use Rattle.walrus_arena.specs.Arena.{Arena, item_at}
use Rattle.walrus_index_maps.specs.Maps.{Indices}
use Rattle.walrus_items.specs.declared.local.Local.{Local}
use Rattle.walrus_module_items.specs.declared.function.Function.{Function}
use Rattle.walrus_emit_numbers.specs.declared.facts.BodyFacts.{BodyFacts}
use Rattle.walrus_emit_parts.specs.Due.{written}
use Rattle.walrus_emit_code.specs.Code.{code}
use Rattle.walrus_emit_code.specs.Places.{locations}
use Rattle.walrus_code_laws.specs.Code.{BodiesHavePlaces, KnowsBody}
use Rattle.walrus_code_laws.specs.Numbered.{numbered_function}
use Rattle.walrus_code_laws.specs.Spelled.{ServesBodies}
use Rattle.walrus_places_laws.specs.Bodies.{no_place}

module _ (locals : List Local) (functions : Arena Function) (r : Renaming) (brings : ℕ → ℕ) where
  -- the function that an id means, renamed
  abbrev pub meant_at : ℕ → Option grammar.Function
  meant_at id = option_map (renumbered_function r brings) (option_map (numbered_function locals) (item_at functions id))

  -- those whose bodies these are
  abbrev pub meant_of : List BodyFacts → List (Option grammar.Function)
  meant_of facts = map (λ (f : BodyFacts). meant_at f.function) facts

abbrev pub CodePlacesArePairs : Type 0
CodePlacesArePairs = (a : Around) (r : Renaming) (brings : ℕ → ℕ) (i : Indices) → ServesBodies r i
    → (locals : List Local) (functions : Arena Function) → BodiesHavePlaces locals functions i
    → (facts : List BodyFacts) → AllByRecursion (KnowsBody locals functions) facts
    → (bytes : List ℕ) → code locals functions i facts ≡ written bytes
    → locations locals functions i facts ≡ functions_pairs no_place a (length (unsigned_bytes (length facts))) (meant_of locals functions r brings facts)
