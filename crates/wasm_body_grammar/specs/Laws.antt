-- Laws of bodies.
use Rattle.std.specs.Prelude.{ℕ, ◌<◌, ◌≤◌, ◌≡◌, ◌⊎◌, false, List, ◌++◌, length, Ok, Err}
use Rattle.wasm_grammar.specs.wasm_formats.wasm_reader.Laws.{IsPrefixFree}
use Rattle.wasm_grammar.specs.wasm_formats.Stops.{Nesting, Stop, stop, moved}
use Rattle.wasm_grammar.specs.wasm_formats.Formats.{Small}
use Rattle.wasm_file_formats.specs.Closed.{is_cut}
use Rattle.wasm_grammar.specs.Modules.{Body}
use Rattle.wasm_body_grammar.specs.Rules.{Around}
use Rattle.wasm_body_grammar.specs.Bodies.{Parts, body, body_of, body_at}

-- the bytes read as this body: they spell its runs of locals and its operators, and these meet the rules
abbrev pub ReadsBody : Around → ℕ → ℕ → List ℕ → Body → Type 0
ReadsBody a params place bytes x =
    (parts : Parts) × ((body a params place).spells bytes parts × (body a params place).rules parts) × (body_of parts ≡ x)

-- the bytes read as no body: where, and for which fault
abbrev pub StopsBody : Around → ℕ → ℕ → List ℕ → Stop → Type 0
StopsBody a params place bytes s = (body a params place).stops bytes s

-- bytes read as one body at most
abbrev pub BodiesReadOnce : Type 0
BodiesReadOnce = (a : Around) (params place : ℕ) (bytes : List ℕ) (x y : Body) → ReadsBody a params place bytes x → ReadsBody a params place bytes y → x ≡ y

-- what reads doesn't stop
abbrev pub ReadDontStop : Type 0
ReadDontStop = (a : Around) (params place : ℕ) (bytes : List ℕ) (x : Body) (s : Stop) → ReadsBody a params place bytes x → StopsBody a params place bytes s → ⊥

-- what doesn't read stops
abbrev pub BodiesReadOrStop : Type 0
BodiesReadOrStop =
    (a : Around) (params place : ℕ) (bytes : List ℕ) → Small bytes → ((x : Body) × ReadsBody a params place bytes x) ⊎ ((s : Stop) × StopsBody a params place bytes s)

-- with one fault, at one place
abbrev pub BodiesStopOnce : Type 0
BodiesStopOnce = (a : Around) (params place : ℕ) (bytes : List ℕ) (s t : Stop) → StopsBody a params place bytes s → StopsBody a params place bytes t → s ≡ t

-- which lies in the bytes, or at their end
abbrev pub BodiesStopInside : Type 0
BodiesStopInside = (a : Around) (params place : ℕ) (bytes : List ℕ) (s : Stop) → StopsBody a params place bytes s → s.left ≤ length bytes

-- bytes behind a fault don't change it, the end of the bytes aside: the limit on locals is final, too
abbrev pub BodiesStopForGood : Type 0
BodiesStopForGood = (a : Around) (params place : ℕ) (bytes more : List ℕ) (s : Stop) → Small (bytes ++ more) → StopsBody a params place bytes s → is_cut s.trouble ≡ false
    → StopsBody a params place (bytes ++ more) (moved (length more) s)

-- what follows a body is refused at its first byte
abbrev pub BodiesEnd : Type 0
BodiesEnd = (a : Around) (params place : ℕ) (bytes more : List ℕ) (x : Body) → ReadsBody a params place bytes x → 0 < length more
    → StopsBody a params place (bytes ++ more) (stop Nesting (length more))

-- no body's bytes are a proper front of another's
abbrev pub BodiesArePrefixFree : Type 0
BodiesArePrefixFree = (a : Around) (params place : ℕ) → IsPrefixFree (ReadsBody a params place)

-- what is parsed reads, and what reads is parsed; and so where it stops
pub record ParsingReads : Type 0 where
  pub found : (a : Around) (params place : ℕ) (bytes : List ℕ) (x : Body) → Small bytes → body_at a params place bytes ≡ Ok x → ReadsBody a params place bytes x
  pub again : (a : Around) (params place : ℕ) (bytes : List ℕ) (x : Body) → ReadsBody a params place bytes x → body_at a params place bytes ≡ Ok x
  pub told : (a : Around) (params place : ℕ) (bytes : List ℕ) (s : Stop) → Small bytes → body_at a params place bytes ≡ Err s → StopsBody a params place bytes s
  pub tells : (a : Around) (params place : ℕ) (bytes : List ℕ) (s : Stop) → StopsBody a params place bytes s → body_at a params place bytes ≡ Err s
