-- What is known of a body before it is written.
use Rattle.std.specs.Prelude.{◌≡◌, ◌+◌, ◌++◌, ◌||◌}
use Rattle.walrus_body_writer.specs.walrus_tree.Text.{Piece}
use Rattle.walrus_body_writer.specs.walrus_body_text.Visiting.{weight}
use Rattle.walrus_body_names.specs.declared.facts.Facts.{Facts}
use Rattle.walrus_body_names.specs.Names.{HaveSame, function_in, has_any, local_in, piece_names, segment_in}

-- one piece more was counted, and what it names was gathered
pub record IsTold (old : Facts) (piece : Piece) (new : Facts) : Type 0 where
  pub counted : new.size ≡ old.size + weight piece
  pub marked : new.names_segment ≡ (old.names_segment || has_any (piece_names segment_in piece))
  pub gathered : HaveSame new.found.items (old.found.items ++ piece_names local_in piece)
  pub referred : new.referred.items ≡ old.referred.items ++ piece_names function_in piece

-- the same counts, marks and names
pub record IsAsBefore (old new : Facts) : Type 0 where
  pub counted : new.size ≡ old.size
  pub marked : new.names_segment ≡ old.names_segment
  pub gathered : new.found.items ≡ old.found.items
  pub referred : new.referred.items ≡ old.referred.items
