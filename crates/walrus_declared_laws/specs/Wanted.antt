-- The functions to which the bodies and globals of a module refer, and those that its exports and segments hold, as lists (Core Specification, valid modules:
-- references of `ref.func`).
use Rattle.std.specs.Prelude.{ℕ, ◌≡◌, ◌<◌, ◌↔◌, ◌==◌, ◌&&◌, ◌++◌, Bool, Contains, List, [], ◌∷◌, length, Option, Some, None, slice_index_or, if◌then◌else◌}
use Rattle.std.specs.List.{flat_map}
use Rattle.wasm_features.specs.declared.WasmFeatures.{WasmFeatures}
use Rattle.wasm_formats.specs.declared.fault.Space.{Space as FileSpace}
use Rattle.wasm_formats.specs.declared.fault.Space.TheVariants as spaces
use Rattle.wasm_grammar.specs.Modules.{Body, Element, Elements, Export, Expr, Expressions, Function, Functions as Listed, Global, Imported, Module, Origin, Own, Placed}
use Rattle.wasm_normal_modules.specs.Modules.{MeetsRules}
use Rattle.wasm_operators.specs.Items.{ElementSegments, Functions, Globals, Item, Names}
use Rattle.wasm_operators.specs.Operators.{Seen}
use Rattle.wasm_operators.specs.declared.op_code.OpCode.{OpCode}
use Rattle.wasm_part.specs.Order.{Holds, Wants}
use Rattle.wasm_part.specs.Part.{Plan}

-- the function to which an operator refers
abbrev pub is_ref : OpCode → Bool
is_ref code = code.prefix == 0 && code.number == 0xd2

abbrev pub referred_in : List Item → Bool → List ℕ
referred_in (Names Functions n ∷ []) b = if b then n ∷ [] else []
referred_in _ b = []

abbrev pub refs : Seen → List ℕ
refs op = referred_in op.items (is_ref op.code)

abbrev pub origin_refs : Origin Body → List ℕ
origin_refs (Imported i) = []
origin_refs (Own x) = flat_map (λ (o : Placed). refs o.op) x.operators

abbrev pub function_refs : Option Function → List ℕ
function_refs None = []
function_refs (Some f) = origin_refs f.origin

abbrev pub init_refs : Origin Expr → List ℕ
init_refs (Imported i) = []
init_refs (Own e) = flat_map refs e

abbrev pub global_refs : Option Global → List ℕ
global_refs None = []
global_refs (Some g) = init_refs g.origin

-- the functions that exports and segments hold
abbrev pub given_out : FileSpace → ℕ → List ℕ
given_out spaces.Function n = n ∷ []
given_out _ n = []

abbrev pub export_names : Option Export → List ℕ
export_names None = []
export_names (Some e) = given_out e.item.space e.item.number

abbrev pub single_refs : Expr → List ℕ
single_refs [] = []
single_refs (op ∷ []) = refs op
single_refs (op ∷ other ∷ ops) = []

abbrev pub held_names : Elements → List ℕ
held_names (Listed ns) = ns
held_names (Expressions ty es) = flat_map single_refs es

abbrev pub element_names : Option Element → List ℕ
element_names None = []
element_names (Some e) = held_names e.items

abbrev pub wanted : Module → List ℕ
wanted m = flat_map function_refs m.functions ++ flat_map global_refs m.globals

abbrev pub held : Module → List ℕ
held m = flat_map export_names m.exports ++ flat_map element_names m.elements

-- a plan lists all that is there
pub record ListsAll (p : Plan) (m : Module) : Type 0 where
  pub functions : (n : ℕ) (f : Function) → slice_index_or m.functions n None ≡ Some f → Contains (p.listed Functions) n
  pub globals : (n : ℕ) (g : Global) → slice_index_or m.globals n None ≡ Some g → Contains (p.listed Globals) n
  pub exports : (n : ℕ) (e : Export) → slice_index_or m.exports n None ≡ Some e → Contains p.exports n
  pub elements : (n : ℕ) (e : Element) → slice_index_or m.elements n None ≡ Some e → Contains (p.listed ElementSegments) n

-- so these are what it wants and holds
pub record AreTold (p : Plan) (m : Module) : Type 0 where
  pub wants : (n : ℕ) → Wants m p n ↔ Contains (wanted m) n
  pub holds : (n : ℕ) → Holds m p n ↔ Contains (held m) n

abbrev pub WantsAreTold : Type 0
WantsAreTold = (p : Plan) (m : Module) → ListsAll p m → AreTold p m

-- what is wanted of a module that meets the rules is there
abbrev pub WantedAreThere : Type 0
WantedAreThere = (features : WasmFeatures) (counted : Bool) (m : Module) (p : Plan) → MeetsRules features counted m → (n : ℕ) → Wants m p n → n < length m.functions
