-- Why a count is refused.
use Rattle.std.proofs.Common.{◌≡◌}
use Rattle.walrus_errors.specs.declared.error.ModuleError.{ModuleError}
use Rattle.walrus_errors.specs.declared.error.ModuleError.TheVariants.{Memory, NoTree}
use Rattle.walrus_counts.specs.Counts.{IsCause}

-- want of memory is a cause beside any other
pub wanted : (A : Type 0) (e : ModuleError) → e ≡ Memory → IsCause A e
wanted A e h = rw h tt

-- a cause for one reason is one for what that reason gives
pub wider : {A B : Type 0} → (A → B) → (e : ModuleError) → IsCause A e → IsCause B e
wider f NoTree h = f h
wider f Memory h = tt
wider f _ h = h
