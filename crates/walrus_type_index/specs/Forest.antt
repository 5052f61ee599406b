-- Trees whose nodes stand in one list: one for each of the first places, and one for all further ones.
use Rattle.std.specs.Prelude.{◌≡◌, ℕ, List, [], ◌∷◌, length, Option, None}
use Rattle.walrus_type_index.specs.declared.node_list.FlatNode.{FlatNode}
use Rattle.walrus_type_index.specs.Places.{Hashed}
use Rattle.walrus_type_index.specs.Directory.{joined}
use Rattle.walrus_type_index.specs.Flat.{Link, slots, Stands, listed, IsOnce}

-- their ids, and how many ids have a node
pub record Forest : Type 0 where
  pub trees : List (List Hashed)
  pub last : List Hashed
  pub room : ℕ

abbrev pub ids_in : List FlatNode → ℕ → List Hashed
ids_in ns top = listed (length ns) (slots ns) top

abbrev pub all_ids_in : List FlatNode → List ℕ → List (List Hashed)
all_ids_in ns [] = []
all_ids_in ns (top ∷ tops) = ids_in ns top ∷ all_ids_in ns tops

-- each of these trees stands
abbrev pub AllStand : (ℕ → Option Link) → List ℕ → List (List Hashed) → Type 0
AllStand at [] trees = trees ≡ []
AllStand at (top ∷ tops) [] = ⊥
AllStand at (top ∷ tops) (tree ∷ trees) = Stands at top tree × AllStand at tops trees

-- all of them stand, and no id is in two
pub record AreTrees (at : ℕ → Option Link) (tops : List ℕ) (top : ℕ) (trees : List (List Hashed)) (last : List Hashed) : Type 0 where
  pub stand : AllStand at tops trees
  pub last_stands : Stands at top last
  pub once : IsOnce (joined trees last)
  pub bare : at 4294967295 ≡ None
