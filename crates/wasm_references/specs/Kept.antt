-- Kept: what a finite chain of references reaches from a root; and the first memory, where data is kept and no memory is.
use Rattle.std.specs.Prelude.{◌≡◌, ◌⊎◌, ℕ, ◌<◌, Bool, true, List, IsSome}
use Rattle.wasm_formats.specs.declared.fault.Space.TheVariants as spaces
use Rattle.wasm_grammar.specs.Modules.{Item, Module}
use Rattle.wasm_references.specs.References.{Numbered, Refers, item, slot}
use Rattle.wasm_references.specs.Roots.{Root}

-- a finite chain of references leads to the item from a root
pub data IsReached (v : Numbered) (keep : Bool) (pushed : List Item) : Item → Type 0 where
  root : {x : Item} → Root v.filled keep pushed x → IsReached v keep pushed x
  refers : {x y : Item} → IsReached v keep pushed x → Refers v x y → IsReached v keep pushed y

-- the memory of the lowest number
pub record IsFirstMemory (m : Module) (n : ℕ) : Type 0 where
  pub there : IsSome (slot m.memories n)
  pub first : (other : ℕ) → other < n → IsSome (slot m.memories other) → ⊥

-- the item is the first memory, and there data is kept and no memory is
pub record IsSpared (v : Numbered) (keep : Bool) (pushed : List Item) (x : Item) : Type 0 where
  pub memory : ℕ
  pub is : x ≡ item spaces.Memory memory
  pub first : IsFirstMemory v.filled memory
  pub segment : ℕ
  pub has_data : IsReached v keep pushed (item spaces.Data segment)
  pub no_memory : (other : ℕ) → IsReached v keep pushed (item spaces.Memory other) → ⊥

-- the item is kept: with all active element segments, or without
abbrev pub Kept : Numbered → (keep : Bool) → List Item → Item → Type 0
Kept v keep pushed x = IsReached v keep pushed x ⊎ IsSpared v keep pushed x

-- what is reached lies in each set of items that has the roots and is closed under references
abbrev pub KeptIsLeast : Type 0
KeptIsLeast = (v : Numbered) (keep : Bool) (pushed : List Item) (part : Item → Bool) → ((x : Item) → Root v.filled keep pushed x → part x ≡ true)
    → ((x y : Item) → part x ≡ true → Refers v x y → part y ≡ true) → (x : Item) → IsReached v keep pushed x → part x ≡ true
