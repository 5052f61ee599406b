-- Why a group of so many members isn't added.
use Rattle.std.specs.Prelude.{ℕ, ◌≢◌, ⊤}
use Rattle.walrus_type_arenas.specs.declared.error.IrError.{IrError}
use Rattle.walrus_type_arenas.specs.declared.error.IrError.TheVariants.{Memory, WrongCount, Dead, EntryOnly, Later}

-- they are another count than was asked for, or want of memory
abbrev pub IsMiscount : ℕ → ℕ → IrError → Type 0
IsMiscount made count Memory = ⊤
IsMiscount made count WrongCount = made ≢ count
IsMiscount made count Dead = ⊥
IsMiscount made count EntryOnly = ⊥
IsMiscount made count Later = ⊥
