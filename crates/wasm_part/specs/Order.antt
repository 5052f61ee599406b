-- The order in which the items of a part are written: in each index space what imports bring first (Core Specification, indices); and the segment that declares
-- functions (valid modules: references of `ref.func`).
use Rattle.std.specs.Prelude.{ℕ, ◌≡◌, ◌<◌, ◌⊎◌, ◌↔◌, Bool, true, false, List, [], ◌∷◌, ◌++◌, Contains, Option, Some, None, slice_get, slice_index_or, if◌then◌else◌}
use Rattle.std.specs.List.{AllByRecursion, filter_map}
use Rattle.wasm_formats.specs.declared.fault.Space.{Space as FileSpace}
use Rattle.wasm_formats.specs.declared.fault.Space.TheVariants as spaces
use Rattle.wasm_operators.specs.Items.{Space, Functions, Tables, Memories, Tags, Globals, ElementSegments, Names}
use Rattle.wasm_operators.specs.Operators.{Seen, op_code}
use Rattle.wasm_grammar.specs.Modules.{Expr, Origin, Imported, Own, Placed, Body, Function, Global, Elements, Functions as Listed, Expressions, Element, Import, Export, Module}
use Rattle.wasm_body_grammar.specs.Rules.{space_of}
use Rattle.wasm_import_links.specs.Links.{brought}
use Rattle.wasm_normal_form.specs.Normal.{size}
use Rattle.wasm_ruled_normal.specs.Normal.{text_of}
use Rattle.wasm_part.specs.Part.{Plan}
use Rattle.wasm_part.specs.Closed.{IsListed, Rise}

-- ---- imported items first, in the order of their imports; the module's own functions by falling size, its other items by number

-- the import that brings an item
abbrev pub import_of : Module → Space → ℕ → Option ℕ
import_of m space n = slice_index_or (brought m (space_of space)) n None

abbrev pub origin_size : Origin Body → ℕ
origin_size (Imported i) = 0
origin_size (Own x) = size (text_of x.operators)

abbrev pub slot_size : Option Function → ℕ
slot_size None = 0
slot_size (Some f) = origin_size f.origin

-- how many operators the body of a function has, but for those that only mark where sequences end
abbrev pub size_of : Module → ℕ → ℕ
size_of m n = slot_size (slice_index_or m.functions n None)

-- the one item of the module's own is written before the other
abbrev pub OwnBefore : Module → Space → ℕ → ℕ → Type 0
OwnBefore m Functions k n = (size_of m n < size_of m k) ⊎ ((size_of m k ≡ size_of m n) × (k < n))
OwnBefore m space k n = k < n

-- whether an import brings an item of this space
abbrev pub is_to : Space → FileSpace → Bool
is_to Functions spaces.Function = true
is_to Tables spaces.Table = true
is_to Memories spaces.Memory = true
is_to Tags spaces.Tag = true
is_to Globals spaces.Global = true
is_to _ _ = false

abbrev pub brought_to : Space → Option Import → Option ℕ
brought_to space None = None
brought_to space (Some x) = if is_to space x.item.space then Some x.item.number else None

-- the items that these imports bring to a space, in the order of the imports
abbrev pub brought_by : Module → Space → List ℕ → List ℕ
brought_by m space ns = filter_map (λ n. brought_to space (slice_index_or m.imports n None)) ns

-- a plan lists items in their order: imports in theirs, and of each space first what these bring, and then the module's own
pub record InOrder (m : Module) (p : Plan) : Type 0 where
  pub imports : Rise p.imports
  pub brings : (i n : ℕ) → slice_get p.imports i ≡ Some n → p.brings n ≡ i
  pub own : Space → List ℕ
  pub listed : (space : Space) → IsListed space → p.listed space ≡ brought_by m space p.imports ++ own space
  pub are_own : (space : Space) → IsListed space → AllByRecursion (λ n. import_of m space n ≡ None) (own space)
  pub ordered : (space : Space) → IsListed space → (i j k n : ℕ) → i < j → slice_get (own space) i ≡ Some k → slice_get (own space) j ≡ Some n → OwnBefore m space k n

-- ---- the segment that declares functions

-- `ref.func` of this function
abbrev pub IsReference : ℕ → Seen → Type 0
IsReference n op = op ≡ record { code = op_code 0 0xd2; items = Names Functions n ∷ [] }

abbrev pub BodyRefers : ℕ → Origin Body → Type 0
BodyRefers n (Imported i) = ⊥
BodyRefers n (Own x) = (o : Placed) × Contains x.operators o × IsReference n o.op

abbrev pub InitRefers : ℕ → Origin Expr → Type 0
InitRefers n (Imported i) = ⊥
InitRefers n (Own e) = (op : Seen) × Contains e op × IsReference n op

-- a body or the initialiser of a global refers to the function
pub data Wants (m : Module) (p : Plan) (n : ℕ) : Type 0 where
  body : (k : ℕ) (f : Function) → Contains (p.listed Functions) k → slice_index_or m.functions k None ≡ Some f → BodyRefers n f.origin → Wants m p n
  init : (k : ℕ) (g : Global) → Contains (p.listed Globals) k → slice_index_or m.globals k None ≡ Some g → InitRefers n g.origin → Wants m p n

abbrev pub ItemsHold : ℕ → Elements → Type 0
ItemsHold n (Listed ns) = Contains ns n
ItemsHold n (Expressions ty es) = (op : Seen) × IsReference n op × Contains es (op ∷ [])

-- an export or a segment holds it
pub data Holds (m : Module) (p : Plan) (n : ℕ) : Type 0 where
  exported : (k : ℕ) (e : Export) → Contains p.exports k → slice_index_or m.exports k None ≡ Some e → e.item.space ≡ spaces.Function → e.item.number ≡ n → Holds m p n
  segment : (k : ℕ) (e : Element) → Contains (p.listed ElementSegments) k → slice_index_or m.elements k None ≡ Some e → ItemsHold n e.items → Holds m p n

-- the functions that are referred to and held nowhere, by number, in one segment, and none where there are none
abbrev pub HasDeclared : Module → Plan → List (List ℕ) → Type 0
HasDeclared m p [] = (n : ℕ) → Wants m p n → Holds m p n
HasDeclared m p (ns ∷ []) = Rise ns × ((n : ℕ) × Contains ns n) × ((n : ℕ) → Contains ns n ↔ (Wants m p n × (Holds m p n → ⊥)))
HasDeclared m p _ = ⊥
