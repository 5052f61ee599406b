-- What references look at, where the one module counts types by ids and the other by their places among these (Core Specification, indices): the same is kept.
use Rattle.std.specs.Prelude.{ℕ, ◌≡◌, ◌↔◌, Bool, List, Some, slice_get}
use Rattle.wasm_formats.specs.declared.fault.Space.{Space}
use Rattle.wasm_formats.specs.declared.fault.Space.TheVariants as spaces
use Rattle.wasm_grammar.specs.Modules.{Item}
use Rattle.wasm_references.specs.References.{Numbered}
use Rattle.wasm_references.specs.Kept.{Kept}

-- the type of an id has its place; all else has one number
abbrev pub NumberStands : List ℕ → Space → ℕ → ℕ → Type 0
NumberStands ids spaces.«Type» id n = slice_get ids n ≡ Some id
NumberStands ids spaces.Function id n = id ≡ n
NumberStands ids spaces.Table id n = id ≡ n
NumberStands ids spaces.Memory id n = id ≡ n
NumberStands ids spaces.Tag id n = id ≡ n
NumberStands ids spaces.Global id n = id ≡ n
NumberStands ids spaces.Element id n = id ≡ n
NumberStands ids spaces.Data id n = id ≡ n
NumberStands ids spaces.Local id n = id ≡ n
NumberStands ids spaces.Label id n = id ≡ n

-- an item of the one, and what it is in the other
pub record StandsFor (ids : List ℕ) (x y : Item) : Type 0 where
  pub space : x.space ≡ y.space
  pub number : NumberStands ids y.space x.number y.number

-- what is kept of the one is what is kept of the other, and each item of it stands for one there
pub record KeptAlike (ids : List ℕ) (v w : Numbered) (keep : Bool) (pushed : List Item) : Type 0 where
  pub same : (x y : Item) → StandsFor ids x y → Kept v keep pushed x ↔ Kept w keep pushed y
  pub forth : (x : Item) → Kept v keep pushed x → (y : Item) × StandsFor ids x y
  pub back : (y : Item) → Kept w keep pushed y → (x : Item) × StandsFor ids x y
