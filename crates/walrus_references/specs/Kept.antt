-- Kept: what a finite chain of references reaches from a root; and the first memory, where data is kept and no memory is.
use Rattle.std.specs.Prelude.{◌≡◌, ◌⊎◌, ℕ, ◌<◌, Bool, true, List}
use Rattle.wasm_formats.specs.declared.fault.Space.TheVariants as spaces
use Rattle.walrus_arena.specs.Arena.{IsLive}
use Rattle.walrus_module.specs.Parts.{Module}
use Rattle.walrus_roots.specs.declared.item.Item.{Item}
use Rattle.walrus_roots.specs.Items.{item}
use Rattle.walrus_marks.specs.Chains.{Chain}
use Rattle.walrus_references.specs.References.{Refers}
use Rattle.walrus_references.specs.Roots.{Root}

-- a chain of references leads to the item from a root
abbrev pub IsReached : Module → List Item → Item → Type 0
IsReached m pushed x = Chain (Root m pushed) (Refers m) x

-- the live memory of the lowest id
pub record IsFirstMemory (m : Module) (id : ℕ) : Type 0 where
  pub live : IsLive m.memories id
  pub first : (other : ℕ) → other < id → IsLive m.memories other → ⊥

-- the item is the first memory, and there data is kept and no memory is
pub record IsSpared (m : Module) (pushed : List Item) (x : Item) : Type 0 where
  pub memory : ℕ
  pub is : x ≡ item spaces.Memory memory
  pub first : IsFirstMemory m memory
  pub segment : ℕ
  pub has_data : IsReached m pushed (item spaces.Data segment)
  pub no_memory : (other : ℕ) → IsReached m pushed (item spaces.Memory other) → ⊥

-- the item is kept
abbrev pub Kept : Module → List Item → Item → Type 0
Kept m pushed x = IsReached m pushed x ⊎ IsSpared m pushed x

-- what is reached lies in each set of items that has the roots and is closed under references
abbrev pub KeptIsLeast : Type 0
KeptIsLeast = (m : Module) (pushed : List Item) (part : Item → Bool) → ((x : Item) → Root m pushed x → part x ≡ true)
    → ((x y : Item) → part x ≡ true → Refers m x y → part y ≡ true) → (x : Item) → IsReached m pushed x → part x ≡ true
