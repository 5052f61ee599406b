-- Why no group is added.
use Rattle.std.proofs.Common.{ℕ, Vec, Global, Result, Ok, length, inr}
use Rattle.walrus_type_arenas.specs.declared.error.IrError.{IrError}
use Rattle.walrus_type_arenas.specs.declared.error.IrError.TheVariants.{Memory, WrongCount, Dead, EntryOnly, Later}
use Rattle.walrus_type_arenas.specs.declared.group.NewType.{NewType}
use Rattle.walrus_type_arenas.specs.Counts.{IsMiscount}
use Rattle.walrus_type_arenas.specs.Groups.{IsCause}

-- of members that were made another count than was asked for
pub cause-of : (returns : Result (Vec NewType Global) IrError → Type 0) (count : ℕ) (fault : IrError) (members : Vec NewType Global)
    → returns (Ok members) → IsMiscount (length members.items) count fault → IsCause returns count fault
cause-of returns count Memory members returned cause = tt
cause-of returns count WrongCount members returned cause = inr (members, returned, cause)
cause-of returns count Dead members returned cause = absurd cause
cause-of returns count EntryOnly members returned cause = absurd cause
cause-of returns count Later members returned cause = absurd cause
