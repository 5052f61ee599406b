-- What is asked of all that is reached in a module, and why one is refused.
use Rattle.std.specs.Prelude.{◌≡◌, List, None}
use Rattle.wasm_formats.specs.declared.fault.Form.{Form}
use Rattle.wasm_formats.specs.declared.fault.Form.TheVariants as forms
use Rattle.walrus_errors.specs.declared.error.ModuleError.{ModuleError}
use Rattle.walrus_errors.specs.declared.error.ModuleError.TheVariants as refusals
use Rattle.walrus_used.specs.walrus_module.Parts.{Module}
use Rattle.walrus_roots.specs.declared.item.Item.{Item}
use Rattle.walrus_used.specs.walrus_references.Kept.{IsReached}
use Rattle.walrus_used.specs.walrus_module.Items.{Lives}
use Rattle.walrus_used.specs.walrus_references.Refused.{FormsTree}
use Rattle.walrus_refusals.specs.Asked.{Linked}
use Rattle.walrus_refusals.specs.Written.{StaysInGroup, IsUnshared, HasNoExact}

-- that is so of each reached item
abbrev pub AllReached : Module → List Item → (Item → Type 0) → Type 0
AllReached m pushed P = (x : Item) → IsReached m pushed x → P x

-- reached items and imports name each other, bodies are trees, what is reached lives, types name none past their own groups,
-- globals aren't shared, and no heap type is exact
pub record IsSound (m : Module) (pushed : List Item) : Type 0 where
  pub linked : AllReached m pushed (Linked m)
  pub trees : AllReached m pushed (FormsTree m)
  pub live : AllReached m pushed (Lives m)
  pub grouped : AllReached m pushed (StaysInGroup m)
  pub unshared : AllReached m pushed (IsUnshared m)
  pub inexact : AllReached m pushed (HasNoExact m)

-- the item lives, and if it is a type it names none past its own group
abbrev pub Stands : Module → Item → Type 0
Stands m x = Lives m x × StaysInGroup m x

-- some item has the form, which stands in no file. Only these two can be in a module.
abbrev pub HasForm : Module → List Item → Form → Type 0
HasForm m pushed forms.SharedGlobal = AllReached m pushed (IsUnshared m) → ⊥
HasForm m pushed forms.ExactType = AllReached m pushed (HasNoExact m) → ⊥
HasForm m pushed _ = ⊥

-- why a module is refused: the first of these that isn't so of all that is reached; or for want of memory, of which nothing is said.
-- What isn't supported stands in no bytes, and has no place.
abbrev pub IsRefused : Module → List Item → ModuleError → Type 0
IsRefused m pushed refusals.NotLinked = AllReached m pushed (Linked m) → ⊥
IsRefused m pushed refusals.NoTree = AllReached m pushed (Linked m) × (AllReached m pushed (FormsTree m) → ⊥)
IsRefused m pushed (refusals.DeadReference space) = AllReached m pushed (Linked m) × AllReached m pushed (FormsTree m) × (AllReached m pushed (λ x. x.space ≡ space → Stands m x) → ⊥)
IsRefused m pushed (refusals.Unsupported form place) =
    AllReached m pushed (Linked m) × AllReached m pushed (FormsTree m) × AllReached m pushed (Stands m) × HasForm m pushed form × (place ≡ None)
IsRefused m pushed refusals.Memory = Unit {0}
IsRefused m pushed _ = ⊥
