-- What is due for the code section is the shortest spelling of the bodies that are meant, renamed, in their order.
use Rattle.std.specs.Prelude.{ℕ, ◌≡◌, List, Option, Some}
use Rattle.std.specs.List.{AllByRecursion, filter_map}
use Rattle.std.specs.Option.{option_map}
use Rattle.wasm_features.specs.declared.WasmFeatures.{WasmFeatures}
use Rattle.wasm_operators.specs.Names.{Renaming}
use Rattle.wasm_body_grammar.specs.Rules.{Around}
use Rattle.wasm_canonical.specs.Due.{code_if, own_bytes}
use Rattle.wasm_part.specs.Part.{renumbered_function}
use Rattle.walrus_arena.specs.Arena.{Arena, item_at}
use Rattle.walrus_index_maps.specs.Maps.{Indices}
use Rattle.walrus_items.specs.declared.local.Local.{Local}
use Rattle.walrus_local_function.specs.declared.local_function.LocalFunction.{LocalFunction}
use Rattle.walrus_module_items.specs.Functions.{local_of}
use Rattle.walrus_module_items.specs.declared.function.Function.{Function}
use Rattle.walrus_meaning.specs.Bodies.{local_ids}
use Rattle.walrus_emit_numbers.specs.declared.facts.BodyFacts.{BodyFacts}
use Rattle.walrus_emit_code.specs.Code.{code}
use Rattle.walrus_due_laws.specs.Spelled.{SpelledAs, spelled}
use Rattle.walrus_code_laws.specs.Bodies.{IsKnown}
use Rattle.walrus_code_laws.specs.Numbered.{numbered_function}
use Rattle.walrus_code_laws.specs.Spelled.{HavePlaces, ServesBodies}

module _ (locals : List Local) (functions : Arena Function) where
  -- where the function has a body, its locals are known
  abbrev pub KnowsBody : BodyFacts → Type 0
  KnowsBody facts = (f : Function) (local : LocalFunction) → item_at functions facts.function ≡ Some f → local_of f.kind ≡ Some local → IsKnown local facts.used_locals.items

  -- those locals of bodies that have a number have their place
  abbrev pub BodiesHavePlaces : Indices → Type 0
  BodiesHavePlaces i = (function : ℕ) (f : Function) (local : LocalFunction) → item_at functions function ≡ Some f → local_of f.kind ≡ Some local
      → HavePlaces (local_ids locals local) (i.locals function)

  -- the shortest spelling of the body that a function means, renamed; none where it has no body
  abbrev pub meant_bytes : Around → Renaming → (ℕ → ℕ) → ℕ → Option (List ℕ)
  meant_bytes a r brings id = own_bytes a (option_map (renumbered_function r brings) (option_map (numbered_function locals) (item_at functions id)))

abbrev pub CodeIsSpelled : Type 0
CodeIsSpelled = (features : WasmFeatures) (a : Around) (r : Renaming) (brings : ℕ → ℕ) (i : Indices) → ServesBodies r i
    → (locals : List Local) (functions : Arena Function) → BodiesHavePlaces locals functions i
    → (facts : List BodyFacts) → AllByRecursion (KnowsBody locals functions) facts
    → SpelledAs (code locals functions i facts) (spelled features (code_if (filter_map (λ (f : BodyFacts). meant_bytes locals functions a r brings f.function) facts)))
