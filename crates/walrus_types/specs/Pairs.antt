-- What a table is after two kinds were added to it.
use Rattle.std.specs.Prelude.{ℕ}
use Rattle.walrus_type_arenas.specs.walrus_type_index.walrus_items.walrus_forms.Kinds.{Kind}
use Rattle.walrus_type_arenas.specs.Table.{Table, Merges}

-- an equal live type is answered for the first kind, or else there is one more, and then so for the second
pub record MergesBoth (first : Kind) (first_id : ℕ) (second : Kind) (second_id : ℕ) (old new : Table) : Type 0 where
  pub between : Table
  pub first_merges : Merges first first_id old between
  pub second_merges : Merges second second_id between new
