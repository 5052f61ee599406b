-- A linked module isn't refused.
use Rattle.std.specs.Prelude.{◌≡◌, List, Contains}
use Rattle.wasm_formats.specs.declared.fault.Space.{Space}
use Rattle.wasm_formats.specs.declared.fault.Space.TheVariants as spaces
use Rattle.walrus_errors.specs.declared.error.ModuleError.{ModuleError}
use Rattle.walrus_errors.specs.declared.error.ModuleError.TheVariants as refusals
use Rattle.walrus_passes.specs.walrus_refusals.walrus_used.walrus_module.Parts.{Module}
use Rattle.walrus_passes.specs.walrus_refusals.walrus_used.walrus_module.Items.{Lives}
use Rattle.walrus_roots.specs.declared.item.Item.{Item}
use Rattle.walrus_linked.specs.Linked.{IsLinked}
use Rattle.walrus_passes.specs.walrus_refusals.walrus_used.walrus_references.Refused.{FormsTree}
use Rattle.walrus_passes.specs.walrus_refusals.Asked.{Linked}
use Rattle.walrus_passes.specs.walrus_refusals.Sound.{AllReached, IsRefused}
use Rattle.walrus_passes.specs.walrus_refusals.Written.{StaysInGroup, IsUnshared, HasNoExact}

-- what custom sections push lives, and is no local, as `Roots` takes none
abbrev pub PushesLive : Module → List Item → Type 0
PushesLive m pushed = (x : Item) → Contains pushed x → Lives m x × (x.space ≡ spaces.Local → ⊥)

-- where what custom sections push lives, what is reached does, so that without types that name one past their own group none of it
-- is a dead reference; and without forms that stand in no file the module is refused for want of memory alone
pub record LiveIsServed (m : Module) (pushed : List Item) : Type 0 where
  pub live : AllReached m pushed (Lives m)
  pub none_dead : AllReached m pushed (StaysInGroup m) → (space : Space) → IsRefused m pushed (refusals.DeadReference space) → ⊥
  pub memory_alone : AllReached m pushed (StaysInGroup m) → AllReached m pushed (IsUnshared m) → AllReached m pushed (HasNoExact m)
      → (fault : ModuleError) → IsRefused m pushed fault → fault ≡ refusals.Memory

-- in a linked module items and imports name each other and bodies are trees, whatever custom sections push
pub record LinkedIsServed (m : Module) (pushed : List Item) : Type 0 where
  pub linked : AllReached m pushed (Linked m)
  pub trees : AllReached m pushed (FormsTree m)
  pub not_unlinked : IsRefused m pushed refusals.NotLinked → ⊥
  pub not_treeless : IsRefused m pushed refusals.NoTree → ⊥
  pub pushing_live : PushesLive m pushed → LiveIsServed m pushed

abbrev pub LinkedAreServed : Type 0
LinkedAreServed = (m : Module) (pushed : List Item) → IsLinked m → LinkedIsServed m pushed
