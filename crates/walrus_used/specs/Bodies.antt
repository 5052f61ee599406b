-- What is met of a body.
use Rattle.std.specs.Prelude.{ℕ, List, [], ◌∷◌, length, Contains, slice_get}
use Rattle.walrus_instr.specs.declared.seq.InstrSeq.{InstrSeq}
use Rattle.walrus_roots.specs.declared.item.Item.{Item}
use Rattle.walrus_references.specs.References.{Reaches, known_items}

-- there are so many sequences, and no other items
abbrev pub seq_counts : List InstrSeq → List ℕ
seq_counts b = 0 ∷ 0 ∷ 0 ∷ 0 ∷ 0 ∷ 0 ∷ 0 ∷ 0 ∷ 0 ∷ length b ∷ []

-- the sequence is reached and names the item
abbrev pub SeqNames : List InstrSeq → ℕ → Item → Type 0
SeqNames b k y = Reaches b k × Contains (known_items k (slice_get b k)) y
