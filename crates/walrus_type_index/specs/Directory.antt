-- A directory over trees, each with the ids of one place. Places rise with hashes, so that the ids of all trees are in order.
use Rattle.std.specs.Prelude.{◌≡◌, ◌≤◌, ℕ, zero, suc, ◌/◌, ◌^◌, Bool, not, List, [], ◌∷◌, ◌++◌, filter}
use Rattle.std.specs.Bool.{nat_lt}
use Rattle.std.specs.List.{AllByRecursion}
use Rattle.walrus_type_index.specs.Places.{Hashed}

-- the first of the 63 highest bits of a hash
abbrev pub place_of : ℕ → ℕ → ℕ
place_of shift hash = hash / 2 ^ 65 / 2 ^ shift

-- the ids of all trees, the last one of which has all further places
abbrev pub joined : List (List Hashed) → List Hashed → List Hashed
joined [] last = last
joined (tree ∷ trees) last = tree ++ joined trees last

-- from this place on, each id is in the tree of its place
abbrev pub AreSpread : ℕ → List (List Hashed) → ℕ → List Hashed → Type 0
AreSpread shift [] place last = AllByRecursion (λ x. place ≤ place_of shift x.hash) last
AreSpread shift (tree ∷ trees) place last = AllByRecursion (λ x. place_of shift x.hash ≡ place) tree × AreSpread shift trees (suc place) last

-- the tree of that place
abbrev pub tree_at : {A : Type 0} → List A → ℕ → A → A
tree_at [] place last = last
tree_at (tree ∷ trees) zero last = tree
tree_at (tree ∷ trees) (suc place) last = tree_at trees place last

-- the last tree, after another was put at that place
abbrev pub last_set : {A : Type 0} → List A → ℕ → A → A → A
last_set [] place last new = new
last_set (tree ∷ trees) zero last new = last
last_set (tree ∷ trees) (suc place) last new = last_set trees place last new

-- whether an id's place is later than this one
abbrev pub is_later : ℕ → ℕ → Hashed → Bool
is_later shift place x = nat_lt place (place_of shift x.hash)

-- each tree in two, by one more bit, from this place on
abbrev pub halves : ℕ → List (List Hashed) → ℕ → List Hashed → List (List Hashed)
halves shift [] place last = filter (λ x. not (is_later shift place x)) last ∷ []
halves shift (tree ∷ trees) place last = filter (λ x. not (is_later shift place x)) tree ∷ filter (is_later shift place) tree ∷ halves shift trees (suc (suc place)) last

-- what is then last
abbrev pub last_half : ℕ → List (List Hashed) → ℕ → List Hashed → List Hashed
last_half shift [] place last = filter (is_later shift place) last
last_half shift (tree ∷ trees) place last = last_half shift trees (suc (suc place)) last

-- so many of the trees changed by this
abbrev pub changed_to : (List Hashed → List Hashed) → ℕ → List (List Hashed) → List (List Hashed)
changed_to f zero trees = trees
changed_to f (suc k) [] = []
changed_to f (suc k) (tree ∷ trees) = f tree ∷ changed_to f k trees
