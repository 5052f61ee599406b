-- The bodies of a module, one after another, once its sections were read (Core Specification, binary format: code section).
use Rattle.std.specs.Prelude.{ℕ, ◌+◌, ◌-◌, ◌≤◌, ◌≡◌, ◌⊎◌, List, [], ◌∷◌, length, drop, filter_map, Option, Some, None, Result, Ok, Err, if◌then◌else◌, slice_get}
use Rattle.std.specs.Option.{is_some}
use Rattle.wasm_grammar.specs.walrus_forms.Forms.{params_of}
use Rattle.wasm_grammar.specs.walrus_forms.Kinds.{Kind}
use Rattle.wasm_grammar.specs.wasm_formats.Stops.{Stop, stop, moved, before, ◌>>=◌}
use Rattle.wasm_grammar.specs.wasm_formats.Formats.{Small}
use Rattle.wasm_grammar.specs.Modules.{Function, Origin, Imported, Own, Module, Body}
use Rattle.wasm_grammar.specs.States.{Chunk, types_of}
use Rattle.wasm_body_grammar.specs.Rules.{Around}
use Rattle.wasm_body_grammar.specs.Bodies.{body_at}
use Rattle.wasm_body_grammar.specs.Laws.{ReadsBody, StopsBody}

-- ---- which function each body is of

-- the bytes of a body, of a function of so many parameters
pub record Code : Type 0 where
  pub params : ℕ
  pub chunk : Chunk

abbrev pub kind_params : Option Kind → ℕ
kind_params None = 0
kind_params (Some kind) = length (params_of kind.form)

-- how many parameters functions of a type have
abbrev pub param_count : Module → ℕ → ℕ
param_count m ty = kind_params (slice_get (types_of m) ty)

-- the type of a function that isn't imported
abbrev pub type_if_own : ℕ → Origin Body → Option ℕ
type_if_own ty (Imported n) = None
type_if_own ty (Own body) = Some ty

abbrev pub own_type : Option Function → Option ℕ
own_type None = None
own_type (Some f) = type_if_own f.ty f.origin

abbrev pub coded : Module → List ℕ → List Chunk → List Code
coded m (ty ∷ types) (chunk ∷ chunks) = record { params = param_count m ty; chunk = chunk } ∷ coded m types chunks
coded m _ _ = []

-- the module's own functions have these bodies, in their order
abbrev pub codes_of : Module → List Chunk → List Code
codes_of m chunks = coded m (filter_map own_type m.functions) chunks

-- ---- the bodies, in order: the first one that stops

-- how many bytes of the file are behind a body, where so many are left from the function count of the code section on
abbrev pub left_behind : ℕ → Chunk → ℕ
left_behind left chunk = left - (chunk.place + length chunk.bytes)

abbrev pub codes_at : Around → ℕ → List Code → Result (List Body) Stop
codes_at a left [] = Ok []
codes_at a left (c ∷ codes) =
    before (left_behind left c.chunk) (body_at a c.params c.chunk.place c.chunk.bytes) >>= λ x. codes_at a left codes >>= λ xs. Ok (x ∷ xs)

-- each reads as its body
abbrev pub ReadsCodes : Around → List Code → List Body → Type 0
ReadsCodes a [] [] = Unit {0}
ReadsCodes a (c ∷ codes) (x ∷ xs) = ReadsBody a c.params c.chunk.place c.chunk.bytes x × ReadsCodes a codes xs
ReadsCodes a _ _ = ⊥

-- the first one stops, or it reads and one behind it stops
abbrev pub StopsCodes : Around → ℕ → List Code → Stop → Type 0
StopsCodes a left [] s = ⊥
StopsCodes a left (c ∷ codes) s =
    ((t : Stop) × StopsBody a c.params c.chunk.place c.chunk.bytes t × (s ≡ moved (left_behind left c.chunk) t))
    ⊎ ((x : Body) × ReadsBody a c.params c.chunk.place c.chunk.bytes x × StopsCodes a left codes s)

-- ---- the module with its bodies

abbrev pub filled_with : Option Function → List Body → Option Function
filled_with (Some f) (body ∷ bodies) = Some (record f { origin = Own body })
filled_with f _ = f

abbrev pub with_bodies : List (Option Function) → List Body → List (Option Function)
with_bodies [] bodies = []
with_bodies (f ∷ functions) bodies =
    if is_some (own_type f) then (filled_with f bodies ∷ with_bodies functions (drop 1 bodies)) else (f ∷ with_bodies functions bodies)

-- ---- laws

abbrev pub AreBytes : List Code → Type 0
AreBytes [] = Unit {0}
AreBytes (c ∷ codes) = Small c.chunk.bytes × AreBytes codes

-- so many bytes are left that all bodies are in them
abbrev pub AreInside : ℕ → List Code → Type 0
AreInside left [] = Unit {0}
AreInside left (c ∷ codes) = (c.chunk.place + length c.chunk.bytes ≤ left) × AreInside left codes

-- what is parsed reads, and what reads is parsed; and so where it stops, which is in those bytes
pub record ParsingReadsAll : Type 0 where
  pub found : (a : Around) (left : ℕ) (codes : List Code) (xs : List Body) → AreBytes codes → codes_at a left codes ≡ Ok xs → ReadsCodes a codes xs
  pub again : (a : Around) (left : ℕ) (codes : List Code) (xs : List Body) → ReadsCodes a codes xs → codes_at a left codes ≡ Ok xs
  pub told : (a : Around) (left : ℕ) (codes : List Code) (s : Stop) → AreBytes codes → codes_at a left codes ≡ Err s → StopsCodes a left codes s
  pub tells : (a : Around) (left : ℕ) (codes : List Code) (s : Stop) → StopsCodes a left codes s → codes_at a left codes ≡ Err s
  pub within : (a : Around) (left : ℕ) (codes : List Code) (s : Stop) → AreInside left codes → StopsCodes a left codes s → s.left ≤ left
  -- in another file that holds them the same stops at the same place, counted from the function count: a fault inside a body is final, whatever it is
  pub moves : (a : Around) (left other : ℕ) (codes : List Code) (s : Stop) (place : ℕ) → AreInside left codes → AreInside other codes → StopsCodes a left codes s → place + s.left ≡ left
      → StopsCodes a other codes (stop s.trouble (other - place))
