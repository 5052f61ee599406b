-- The payload of the section `name` (Core Specification, appendix Custom Sections: name section; the proposals that add subsections).
use Rattle.std.specs.Prelude.{ℕ, ◌+◌, ◌<◌, ◌==◌, ◌&&◌, nat_lt, Bool, true, false, List, [], ◌∷◌, length, Option, Some, None, if◌then◌else◌, slice_get}
use Rattle.std.specs.List.{flat_map}
use Rattle.std.specs.Cmp.Lexicographic.{pointwise}
use Rattle.std.proofs.Common.{ap, arith}
use Rattle.std.proofs.lemmas.List.{length-append}
use Rattle.wasm_reader.specs.Text.{unlimited_string_at, SpellsText}
use Rattle.wasm_reader.specs.Spellings.{unlimited_string_taken}
use Rattle.wasm_reader.specs.Finals.{unlimited_string_final}
use Rattle.wasm_formats.specs.declared.fault.Space.{Space}
use Rattle.wasm_formats.specs.declared.fault.Space.TheVariants as spaces
use Rattle.wasm_formats.specs.Stops.{Index}
use Rattle.wasm_formats.specs.Formats.{Format, leaf}
use Rattle.wasm_formats.specs.Bytes.{byte}
use Rattle.wasm_formats.specs.Joined.{checked, after}
use Rattle.wasm_formats.specs.Wholes.{u32}
use Rattle.wasm_body_grammar.specs.wasm_grammar.Modules.{Item, Origin, Imported, Own, Body, Function, Custom, Module}
use Rattle.wasm_body_grammar.specs.wasm_grammar.Values.{must, run}
use Rattle.wasm_body_grammar.specs.wasm_grammar.States.{count_of}
use Rattle.wasm_body_grammar.specs.Codes.{param_count}
use Rattle.wasm_name_payloads.specs.Keepers.{Rest, Keeper, one}
use Rattle.wasm_name_payloads.specs.Joined.{times, led, each}
use Rattle.wasm_name_payloads.specs.Windows.{window, total, behind_all, SpellsParts}

-- what has a name: the module, an item, or a local of a function
pub data Bearer : Type 0 where
  TheModule : Bearer
  AnItem : Item → Bearer
  ALocal : (function local : ℕ) → Bearer

pub record Given : Type 0 where
  pub bearer : Bearer
  pub name : List ℕ

abbrev pub given : Bearer → List ℕ → Given
given bearer name = record { bearer = bearer; name = name }

-- the numbers of the subsections that name items of a space
abbrev pub space_number : Space → ℕ
space_number spaces.Function = 1
space_number spaces.Type = 4
space_number spaces.Table = 5
space_number spaces.Memory = 6
space_number spaces.Global = 7
space_number spaces.Element = 8
space_number spaces.Data = 9
space_number spaces.Tag = 11
space_number _ = 0

abbrev pub same_name : List ℕ → List ℕ → Bool
same_name a b = pointwise ◌==◌ a b

-- ---- names and maps of them

-- a name: it has no limit here
abbrev pub text : Format (List ℕ)
text = leaf unlimited_string_at SpellsText unlimited_string_taken unlimited_string_final

-- vec
abbrev pub counted : {A : Type 0} → Keeper A → Keeper A
counted k = led u32 (times k)

-- an index and a name
abbrev pub association : Format (ℕ × List ℕ)
association = after u32 (λ _. text)

-- a name map, of so many bearers: an entry whose index has none is skipped
abbrev pub named_below : ℕ → (ℕ → Bearer) → ℕ × List ℕ → List Given
named_below count bearer e = if nat_lt e.0 count then (given (bearer e.0) e.1 ∷ []) else []

abbrev pub name_map : ℕ → (ℕ → Bearer) → Keeper Given
name_map count bearer = each (counted (one association)) (named_below count bearer)

-- ---- locals

-- the parameters and the declared locals of a function with a body; others have none that could be named
abbrev pub body_locals : ℕ → Origin Body → ℕ
body_locals params (Imported n) = 0
body_locals params (Own body) = params + length body.locals

abbrev pub function_locals : Module → Option Function → ℕ
function_locals m None = 0
function_locals m (Some f) = body_locals (param_count m f.ty) f.origin

abbrev pub first_slot : Option (Option Function) → Option Function
first_slot None = None
first_slot (Some slot) = slot

abbrev pub local_count : Module → ℕ → ℕ
local_count m f = function_locals m (first_slot (slice_get m.functions f))

-- an indirect name map: a function that isn't there is a fault
abbrev pub known_function : Module → Format ℕ
known_function m = checked u32 (λ f. must (nat_lt f (length m.functions)) (Index spaces.Function))

abbrev pub local_names : Module → Keeper Given
local_names m = counted (led (known_function m) (λ f. name_map (local_count m f) (ALocal f)))

-- ---- subsections

pub data Part : Type 0 where
  ModuleName : Part
  ItemNames : Space → Part
  LocalNames : Part
  Skipped : Part

abbrev pub part_of : ℕ → Part
part_of id =
    if id == 0 then ModuleName
    else (if id == 1 then ItemNames spaces.Function
    else (if id == 2 then LocalNames
    else (if id == 4 then ItemNames spaces.Type
    else (if id == 5 then ItemNames spaces.Table
    else (if id == 6 then ItemNames spaces.Memory
    else (if id == 7 then ItemNames spaces.Global
    else (if id == 8 then ItemNames spaces.Element
    else (if id == 9 then ItemNames spaces.Data
    else (if id == 11 then ItemNames spaces.Tag
    else Skipped)))))))))

abbrev pub item_in : Space → ℕ → Bearer
item_in space n = AnItem (record { space = space; number = n })

-- the contents of a subsection of so many bytes; one of another id is skipped
abbrev pub contents : Module → Part → ℕ → Keeper Given
contents m ModuleName size = window size (each (one text) (λ name. given TheModule name ∷ []))
contents m (ItemNames space) size = window size (name_map (count_of m space) (item_in space))
contents m LocalNames size = window size (local_names m)
contents m Skipped size = each (one (run size)) (λ bytes. [])

-- an id, a size, and contents of that size
abbrev pub subsection : Module → Keeper Given
subsection m = led (after byte (λ _. u32)) (λ h. contents m (part_of h.0) h.1)

pub takes_some : (m : Module) (bytes : List ℕ) (items : List Given) → (subsection m).spells bytes items → 0 < length bytes
takes_some m bytes items h =
    let first = h.4.0 in
    omega (arith, ap length h.3, length-append h.1 h.2, ap length first.2, length-append first.0 first.1, ap length first.3.0)

-- the names that stand whole before the first fault, in their order
abbrev pub names_in : Module → List ℕ → List Given
names_in m bytes = total (subsection m) (takes_some m) bytes

-- what is behind them: a fault, which ends the payload, or its end
abbrev pub names_rest : Module → List ℕ → Rest
names_rest m bytes = behind_all (subsection m) (takes_some m) bytes

-- the bytes of a payload without a fault: subsections, and the names that each gives
abbrev pub SpellsNames : Module → List ℕ → List (List Given) → Type 0
SpellsNames m bytes parts = SpellsParts (subsection m) (takes_some m) bytes parts

-- ---- the names of a module

-- n, a, m, e
abbrev pub section_name : List ℕ
section_name = 0x6e ∷ 0x61 ∷ 0x6d ∷ 0x65 ∷ []

abbrev pub names_if : Module → Option Custom → List Given
names_if m None = []
names_if m (Some c) = if same_name c.name section_name then names_in m c.bytes else []

-- each section of that name is read, in the order of the file
abbrev pub names_of : Module → List Given
names_of m = flat_map (names_if m) m.customs

-- the last name that something was given wins
abbrev pub same_bearer : Bearer → Bearer → Bool
same_bearer TheModule TheModule = true
same_bearer (AnItem a) (AnItem b) = space_number a.space == space_number b.space && a.number == b.number
same_bearer (ALocal f l) (ALocal g k) = f == g && l == k
same_bearer _ _ = false

abbrev pub last_name : Bearer → Option (List ℕ) → List Given → Option (List ℕ)
last_name bearer found [] = found
last_name bearer found (g ∷ names) = last_name bearer (if same_bearer g.bearer bearer then Some g.name else found) names

abbrev pub name_of : Module → Bearer → Option (List ℕ)
name_of m bearer = last_name bearer None (names_of m)
