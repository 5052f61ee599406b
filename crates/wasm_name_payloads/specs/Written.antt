-- What is written of names and producers: the shortest spelling, subsections by rising number, empty ones left out.
use Rattle.std.specs.Prelude.{ℕ, ◌<◌, ◌≡◌, ◌^◌, true, List, [], ◌∷◌, ◌++◌, length, Option, Some, None}
use Rattle.std.specs.List.{flat_map}
use Rattle.std.specs.Str.{is_utf8}
use Rattle.wasm_reader.specs.Shortest.{u32_bytes}
use Rattle.wasm_formats.specs.declared.fault.Space.{Space}
use Rattle.wasm_formats.specs.declared.fault.Space.TheVariants as spaces
use Rattle.wasm_body_grammar.specs.wasm_grammar.Modules.{Module}
use Rattle.wasm_body_grammar.specs.wasm_grammar.States.{count_of}
use Rattle.wasm_name_payloads.specs.Names.{Given, given, TheModule, ALocal, item_in, named_below, local_count, space_number}
use Rattle.wasm_name_payloads.specs.Producers.{Value, Field}

-- an index and its name
abbrev pub NameMap : Type 0
NameMap = List (ℕ × List ℕ)

pub record Names : Type 0 where
  -- the module's own
  pub own : Option (List ℕ)
  pub items : Space → NameMap
  pub locals : List (ℕ × NameMap)

-- ---- bytes

abbrev pub name_bytes : List ℕ → List ℕ
name_bytes name = u32_bytes (length name) ++ name

abbrev pub vec_bytes : {A : Type 0} → (A → List ℕ) → List A → List ℕ
vec_bytes bytes xs = u32_bytes (length xs) ++ flat_map bytes xs

abbrev pub association_bytes : ℕ × List ℕ → List ℕ
association_bytes e = u32_bytes e.0 ++ name_bytes e.1

abbrev pub map_bytes : NameMap → List ℕ
map_bytes entries = vec_bytes association_bytes entries

abbrev pub locals_bytes : List (ℕ × NameMap) → List ℕ
locals_bytes functions = vec_bytes (λ (e : ℕ × NameMap). u32_bytes e.0 ++ map_bytes e.1) functions

abbrev pub part_bytes : ℕ → List ℕ → List ℕ
part_bytes id contents = id ∷ (u32_bytes (length contents) ++ contents)

abbrev pub own_part : Option (List ℕ) → List ℕ
own_part None = []
own_part (Some name) = part_bytes 0 (name_bytes name)

abbrev pub item_part : Space → NameMap → List ℕ
item_part space [] = []
item_part space (e ∷ entries) = part_bytes (space_number space) (map_bytes (e ∷ entries))

abbrev pub local_part : List (ℕ × NameMap) → List ℕ
local_part [] = []
local_part (e ∷ functions) = part_bytes 2 (locals_bytes (e ∷ functions))

-- the spaces of the subsections behind that of locals
abbrev pub later_spaces : List Space
later_spaces = spaces.Type ∷ spaces.Table ∷ spaces.Memory ∷ spaces.Global ∷ spaces.Element ∷ spaces.Data ∷ spaces.Tag ∷ []

abbrev pub payload_bytes : Names → List ℕ
payload_bytes n =
    own_part n.own ++ (item_part spaces.Function (n.items spaces.Function) ++ (local_part n.locals ++ flat_map (λ space. item_part space (n.items space)) later_spaces))

abbrev pub value_bytes : Value → List ℕ
value_bytes v = name_bytes v.name ++ name_bytes v.version

abbrev pub field_bytes : Field → List ℕ
field_bytes f = name_bytes f.name ++ vec_bytes value_bytes f.values

abbrev pub producers_bytes : List Field → List ℕ
producers_bytes fields = vec_bytes field_bytes fields

-- ---- what the bytes give: names of what is there, in their order

abbrev pub own_given : Option (List ℕ) → List Given
own_given None = []
own_given (Some name) = given TheModule name ∷ []

abbrev pub items_given : Module → Space → NameMap → List Given
items_given m space entries = flat_map (named_below (count_of m space) (item_in space)) entries

abbrev pub locals_given : Module → List (ℕ × NameMap) → List Given
locals_given m functions = flat_map (λ (e : ℕ × NameMap). flat_map (named_below (local_count m e.0) (ALocal e.0)) e.1) functions

abbrev pub names_given : Module → Names → List Given
names_given m n =
    own_given n.own
    ++ (items_given m spaces.Function (n.items spaces.Function)
    ++ (locals_given m n.locals ++ flat_map (λ space. items_given m space (n.items space)) later_spaces))

-- ---- numbers and sizes are u32, texts are UTF-8, and functions whose locals are named are there

abbrev pub FitsName : List ℕ → Type 0
FitsName name = (length name < 2 ^ 32) × (is_utf8 name ≡ true)

abbrev pub AllFit : {A : Type 0} → (A → Type 0) → List A → Type 0
AllFit fits [] = Unit {0}
AllFit fits (x ∷ xs) = fits x × AllFit fits xs

abbrev pub FitsVec : {A : Type 0} → (A → Type 0) → List A → Type 0
FitsVec fits xs = (length xs < 2 ^ 32) × AllFit fits xs

abbrev pub FitsMap : NameMap → Type 0
FitsMap entries = FitsVec (λ (e : ℕ × List ℕ). (e.0 < 2 ^ 32) × FitsName e.1) entries

abbrev pub FitsOwn : Option (List ℕ) → Type 0
FitsOwn None = Unit {0}
FitsOwn (Some name) = FitsName name × (length (name_bytes name) < 2 ^ 32)

abbrev pub FitsItems : NameMap → Type 0
FitsItems entries = FitsMap entries × (length (map_bytes entries) < 2 ^ 32)

abbrev pub FitsLocals : Module → List (ℕ × NameMap) → Type 0
FitsLocals m functions = FitsVec (λ (e : ℕ × NameMap). (e.0 < length m.functions) × (e.0 < 2 ^ 32) × FitsMap e.1) functions × (length (locals_bytes functions) < 2 ^ 32)

pub record FitsNames (m : Module) (n : Names) : Type 0 where
  pub own : FitsOwn n.own
  pub items : (space : Space) → FitsItems (n.items space)
  pub locals : FitsLocals m n.locals

abbrev pub FitsValue : Value → Type 0
FitsValue v = FitsName v.name × FitsName v.version

abbrev pub FitsField : Field → Type 0
FitsField f = FitsName f.name × FitsVec FitsValue f.values
