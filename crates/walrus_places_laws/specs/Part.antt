-- The pairs of places that the writing of a module's code leaves are those of the plan's part, in which the locals of each body are numbered.
use Rattle.std.specs.Prelude.{ℕ, ◌≡◌, List}
use Rattle.wasm_body_grammar.specs.Rules.{Around}
use Rattle.wasm_part.specs.Part.{Plan, part}
use Rattle.wasm_places_laws.specs.Pairs.{module_pairs}
use Rattle.walrus_index_maps.specs.Maps.{Indices}
use Rattle.walrus_module.specs.Parts.{Module}
use Rattle.walrus_emit_numbers.specs.declared.facts.BodyFacts.{BodyFacts}
use Rattle.walrus_emit_parts.specs.Due.{written}
use Rattle.walrus_emit_code.specs.Code.{code}
use Rattle.walrus_emit_code.specs.Places.{locations}
use Rattle.walrus_code_laws.specs.Parts.{ServesCode, numbered}
use Rattle.walrus_places_laws.specs.Bodies.{no_place}

abbrev pub LocationsArePairs : Type 0
LocationsArePairs = (a : Around) (i : Indices) (p : Plan) (m : Module) (facts : List BodyFacts) → ServesCode i p m facts
    → (bytes : List ℕ) → code m.locals m.funcs i facts ≡ written bytes → locations m.locals m.funcs i facts ≡ module_pairs no_place a (part p (numbered m))
