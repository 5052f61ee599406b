-- Modules (Core Specification, binary format: modules): which bytes read as which module, and where reading stops.
use Rattle.std.specs.Prelude.{ℕ, ◌+◌, ◌-◌, ◌^◌, ◌≤◌, ◌≡◌, ◌⊎◌, List, [], length, Option, Some, None, Result, Ok}
use Rattle.std.specs.Option.{is_some}
use Rattle.wasm_features.specs.declared.WasmFeatures.{WasmFeatures}
use Rattle.walrus_forms.specs.Renaming.{at}
use Rattle.walrus_types.specs.Parsing.{parsed, unparsed}
use Rattle.wasm_formats.specs.Stops.{Trouble, Stop, ◌>>=◌}
use Rattle.wasm_sections.specs.wasm_grammar.Modules.{Body, Module}
use Rattle.wasm_sections.specs.wasm_grammar.States.{Chunk, State}
use Rattle.wasm_body_grammar.specs.Rules.{Around}
use Rattle.wasm_body_grammar.specs.Codes.{Code, codes_of, codes_at, ReadsCodes, StopsCodes, with_bodies}
use Rattle.wasm_sections.specs.Modules.{file, state_of}
use Rattle.wasm_sections.specs.Laws.{ReadsSections, StopsSections}

-- what each type stands for: types get one id where they stand for one type
abbrev pub same_of : Module → ℕ → ℕ
same_of m = at (parsed m.groups (unparsed (record { types = []; groups = [] }))).ids

-- the file around its bodies
abbrev pub around : WasmFeatures → State → Around
around features s = record { features = features; filled = s.filled; same = same_of s.filled; counted = is_some s.data_count }

abbrev pub chunks_of : Option (List Chunk) → List Chunk
chunks_of None = []
chunks_of (Some chunks) = chunks

-- the bytes of the bodies, each with its function
abbrev pub codes : State → List Code
codes s = codes_of s.filled (chunks_of s.bodies)

-- how many bytes of the file there are from the function count of the code section on
abbrev pub code_left : List ℕ → State → ℕ
code_left bytes s = length bytes - s.code_start

-- the module with its bodies
abbrev pub module_of : State → List Body → Module
module_of s bodies = record s.filled { functions = with_bodies s.filled.functions bodies }

-- a file is no longer than this
abbrev pub IsShort : List ℕ → Type 0
IsShort bytes = length bytes ≤ 2 ^ 30

-- the bytes read as this module: they spell its sections and its bodies, and these meet the rules
abbrev pub Reads : WasmFeatures → List ℕ → Module → Type 0
Reads features bytes m =
    IsShort bytes × ((s : State) × (xs : List Body) × ReadsSections features bytes s × ReadsCodes (around features s) (codes s) xs × (module_of s xs ≡ m))

-- the bytes read as no module: a section stops, or the sections read and a body stops
abbrev pub StopsAt : WasmFeatures → List ℕ → Stop → Type 0
StopsAt features bytes e =
    IsShort bytes × (StopsSections features bytes e ⊎ ((s : State) × ReadsSections features bytes s × StopsCodes (around features s) (code_left bytes s) (codes s) e))

-- with this fault, at this offset
abbrev pub Stops : WasmFeatures → List ℕ → Trouble → ℕ → Type 0
Stops features bytes trouble place = (e : Stop) × StopsAt features bytes e × (e.trouble ≡ trouble) × (place + e.left ≡ length bytes)

-- from left to right: the sections, then the bodies
abbrev pub module_at : WasmFeatures → List ℕ → Result Module Stop
module_at features bytes = (file features).parse bytes >>= λ x.
    codes_at (around features (state_of x)) (code_left bytes (state_of x)) (codes (state_of x)) >>= λ xs. Ok (module_of (state_of x) xs)
