-- The pairs of places that the writing of a body leaves are those of the body that it means, renamed: of each operator that has a location, that location
-- and the place at which the operator begins.
use Rattle.std.specs.Prelude.{ℕ, ◌≡◌, List}
use Rattle.wasm_operators.specs.Names.{Renaming}
use Rattle.wasm_body_grammar.specs.Rules.{Around}
use Rattle.wasm_part.specs.Part.{renumbered_body}
use Rattle.wasm_places_laws.specs.Pairs.{body_pairs}
use Rattle.walrus_index_maps.specs.Maps.{Indices}
use Rattle.walrus_items.specs.declared.local.Local.{Local}
use Rattle.walrus_local_function.specs.declared.local_function.LocalFunction.{LocalFunction}
use Rattle.walrus_meaning.specs.Bodies.{local_ids, own_body}
use Rattle.walrus_emit_parts.specs.Due.{written}
use Rattle.walrus_emit_code.specs.Code.{contents}
use Rattle.walrus_emit_code.specs.Places.{located, places_in}
use Rattle.walrus_code_laws.specs.Bodies.{IsKnown}
use Rattle.walrus_code_laws.specs.Numbered.{numbered_body}
use Rattle.walrus_code_laws.specs.Spelled.{HavePlaces, ServesBodies}

-- the number of the default location, which stands for no place
abbrev pub no_place : ℕ
no_place = 4294967295

-- where the body can be written, and begins there
abbrev pub BodyPlacesArePairs : Type 0
BodyPlacesArePairs = (a : Around) (params : ℕ) (r : Renaming) (i : Indices) → ServesBodies r i
    → (locals : List Local) (function : ℕ) (local : LocalFunction) (used : List ℕ) → IsKnown local used → HavePlaces (local_ids locals local) (i.locals function)
    → (bytes : List ℕ) → contents locals function local used i ≡ written bytes → (at : ℕ)
    → located at (places_in locals function local used i) ≡ body_pairs no_place a params at (renumbered_body r (numbered_body (local_ids locals local) (own_body locals local)))
