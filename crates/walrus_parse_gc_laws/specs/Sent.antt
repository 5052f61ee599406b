-- What a module is whose locations were sent through a callback: linked as before, and it means the same, but for the places of operators.
use Rattle.std.specs.Prelude.{ℕ}
use Rattle.walrus_locations.specs.Sent.{FunctionsSent, LocationSent}
use Rattle.walrus_meaning.specs.Meaning.{means}
use Rattle.walrus_meaning.specs.walrus_linked.Linked.{IsLinked}
use Rattle.walrus_meaning.specs.walrus_linked.walrus_module.Parts.{parts}
use Rattle.walrus_meaning.specs.walrus_linked.walrus_module.declared.module.Module.{Module as Whole}
use Rattle.walrus_meaning.specs.walrus_linked.walrus_module.walrus_collections.walrus_module_items.declared.function.Function.{Function}
use Rattle.walrus_meaning.specs.walrus_linked.walrus_module.walrus_types.walrus_forms.walrus_arena.Arena.{Arena}
use Rattle.walrus_walks.specs.walrus_instr.declared.seq.InstrLocId.{InstrLocId}
use Rattle.walrus_parse_gc_laws.specs.Moved.{ModuleMoved}

module _ {F : Type 0} (step : F → ℕ → InstrLocId → F → Type 0) where
  -- called with this place, the callback answers that one in some state; what stands for no place stays
  abbrev pub IsAnswer : ℕ → ℕ → Type 0
  IsAnswer place answer = (f : F) × (g : F) × LocationSent step f (record { 0 = place }) g (record { 0 = answer })

  -- a linked module whose locations are sent stays linked
  abbrev pub SentModulesAreLinked : Type 0 → Type 0
  SentModulesAreLinked B = (f g : F) (m : Whole B) (functions : Arena Function) → FunctionsSent step f m.funcs g functions
      → IsLinked (parts m) → IsLinked (parts (record m { funcs = functions }))

  -- a module whose locations are sent means what it meant, each operator at the answer for its place
  abbrev pub SentModulesMeanTheSame : Type 0 → Type 0
  SentModulesMeanTheSame B = (f g : F) (m : Whole B) (functions : Arena Function) → FunctionsSent step f m.funcs g functions
      → ModuleMoved IsAnswer (means (parts m)) (means (parts (record m { funcs = functions })))
