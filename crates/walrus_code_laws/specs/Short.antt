-- Bodies that can be written are no longer than a reader takes.
use Rattle.std.specs.Prelude.{◌≡◌, ℕ, List}
use Rattle.wasm_body_grammar.specs.Rules.{Around}
use Rattle.wasm_canonical.specs.Due.{bodies_due}
use Rattle.wasm_canonical.specs.Formed.{AreNotLong}
use Rattle.wasm_part.specs.Part.{Plan, part}
use Rattle.walrus_index_maps.specs.Maps.{Indices}
use Rattle.walrus_module.specs.Parts.{Module}
use Rattle.walrus_emit_numbers.specs.declared.facts.BodyFacts.{BodyFacts}
use Rattle.walrus_emit_parts.specs.Due.{written}
use Rattle.walrus_emit_code.specs.Code.{code}
use Rattle.walrus_code_laws.specs.Parts.{ServesCode, numbered}

abbrev pub PartBodiesAreShort : Type 0
PartBodiesAreShort = (a : Around) (i : Indices) (p : Plan) (m : Module) (facts : List BodyFacts) → ServesCode i p m facts → (bytes : List ℕ) → code m.locals m.funcs i facts ≡ written bytes
    → AreNotLong (bodies_due a (part p (numbered m)))
