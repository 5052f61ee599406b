-- Trees whose nodes stand in one list, by id.
use Rattle.std.specs.Prelude.{◌≡◌, ◌≤◌, ℕ, zero, suc, ◌+◌, ◌==◌, Bool, not, List, [], ◌∷◌, ◌++◌, length, filter, find, Option, Some, None, IsSome, is_some, slice_get, if◌then◌else◌}
use Rattle.std.specs.List.Sorted.{IsStrictlySortedBy}
use Rattle.std.specs.Option.{option_map, option_map_or}
use Rattle.walrus_type_index.specs.declared.node_list.FlatNode.{FlatNode}
use Rattle.walrus_items.specs.walrus_forms.Kinds.{Kind}
use Rattle.walrus_type_index.specs.Places.{Hashed, hashed_cmp, is_before, is_tied, is_upto, last_at, last_of, put_in}
use Rattle.walrus_type_index.specs.Ordered.{IsIndex}

-- a node without its height: no answer rests on it
pub record Link : Type 0 where
  pub hash : ℕ
  pub left : ℕ
  pub right : ℕ

abbrev pub link_of : FlatNode → Link
link_of n = record { hash = n.hash; left = n.left; right = n.right }

-- what stands where
abbrev pub slots : List FlatNode → ℕ → Option Link
slots ns id = option_map link_of (slice_get ns id)

abbrev pub hashed_of : ℕ → Link → Hashed
hashed_of id n = record { hash = n.hash; id = id }

-- Where no node is, no ids are, and only one number says so: what stands goes on standing behind more nodes. Else the ids are those of the left side, the node's own, and those of the right side.
pub data Stands (at : ℕ → Option Link) : ℕ → List Hashed → Type 0 where
  none : (top : ℕ) (xs : List Hashed) → top ≡ 4294967295 → at top ≡ None → xs ≡ [] → Stands at top xs
  node : (top : ℕ) (xs : List Hashed) (n : Link) (before behind : List Hashed) → at top ≡ Some n → Stands at n.left before → Stands at n.right behind
      → xs ≡ before ++ hashed_of top n ∷ behind → Stands at top xs

-- the same computed, as far as there is fuel
abbrev pub listed : ℕ → (ℕ → Option Link) → ℕ → List Hashed
listed zero at top = []
listed (suc fuel) at top = option_map_or (λ (n : Link). listed fuel at n.left ++ hashed_of top n ∷ listed fuel at n.right) (at top) []

abbrev pub count : ℕ → List Hashed → ℕ
count id [] = 0
count id (x ∷ xs) = (if x.id == id then 1 else 0) + count id xs

-- no id is in it twice
abbrev pub IsOnce : List Hashed → Type 0
IsOnce xs = (id : ℕ) → count id xs ≤ 1

-- at most the nodes of these ids have changed
pub record Keeps (old new : ℕ → Option Link) (touched : List Hashed) : Type 0 where
  pub apart : (id : ℕ) → count id touched ≡ 0 → new id ≡ old id
  pub empty : (id : ℕ) → old id ≡ None → new id ≡ None

-- a tree stands now, whose ids are of those whose nodes may have changed
pub record Becomes (old new : ℕ → Option Link) (touched : List Hashed) (top : ℕ) (xs : List Hashed) : Type 0 where
  pub stands : Stands new top xs
  pub keeps : Keeps old new touched
  pub within : (id : ℕ) → count id xs ≤ count id touched

-- two of them
pub record Parts (old new : ℕ → Option Link) (touched : List Hashed) (first second : ℕ) (xs ys : List Hashed) : Type 0 where
  pub first_stands : Stands new first xs
  pub second_stands : Stands new second ys
  pub keeps : Keeps old new touched
  pub within : (id : ℕ) → count id xs + count id ys ≤ count id touched

-- one node alone has changed, but for its hash
pub record Wrote (old new : ℕ → Option Link) (top left right : ℕ) : Type 0 where
  pub here : (n : Link) → old top ≡ Some n → new top ≡ Some (record { hash = n.hash; left = left; right = right })
  pub apart : (id : ℕ) → (id ≡ top → ⊥) → new id ≡ old id
  pub empty : old top ≡ None → new top ≡ None

-- the same ids, in the same order
abbrev pub Turns : (ℕ → Option Link) → (ℕ → Option Link) → ℕ → ℕ → Type 0
Turns old new top result = (xs : List Hashed) → Stands old top xs → IsOnce xs → Becomes old new xs result xs

-- a node between two sides
abbrev pub Joins : (ℕ → Option Link) → (ℕ → Option Link) → ℕ → ℕ → ℕ → ℕ → Type 0
Joins old new left top right result =
    (n : Link) (before behind : List Hashed) → old top ≡ Some n → Stands old left before → Stands old right behind → IsOnce (before ++ hashed_of top n ∷ behind)
    → Becomes old new (before ++ hashed_of top n ∷ behind) result (before ++ hashed_of top n ∷ behind)

-- the first node is let go of
pub record IsFirst (old new : ℕ → Option Link) (xs : List Hashed) (first rest : ℕ) : Type 0 where
  pub n : Link
  pub behind : List Hashed
  pub found : new first ≡ Some n
  pub are : xs ≡ hashed_of first n ∷ behind
  pub stands : Stands new rest behind
  pub keeps : Keeps old new xs

-- two trees in one
abbrev pub Merges : (ℕ → Option Link) → (ℕ → Option Link) → ℕ → ℕ → ℕ → ℕ → Type 0
Merges old new left right fuel result =
    (before behind : List Hashed) → Stands old left before → Stands old right behind → IsOnce (before ++ behind) → length behind ≤ fuel → Becomes old new (before ++ behind) result (before ++ behind)

-- the first node of a tree, and the others
abbrev pub Firsts : (ℕ → Option Link) → (ℕ → Option Link) → ℕ → ℕ → ℕ → ℕ → Type 0
Firsts old new top fuel first rest = (n : Link) (xs : List Hashed) → old top ≡ Some n → Stands old top xs → IsOnce xs → length xs ≤ fuel → IsFirst old new xs first rest

-- a node alone
pub record Begins (old new : ℕ → Option Link) (x : Hashed) : Type 0 where
  pub here : IsSome (old x.id) → new x.id ≡ Some (record { hash = x.hash; left = 4294967295; right = 4294967295 })
  pub apart : (id : ℕ) → (id ≡ x.id → ⊥) → new id ≡ old id
  pub empty : old x.id ≡ None → new x.id ≡ None

-- one more id, whose node is there
abbrev pub Puts : List (Option Kind) → (ℕ → Option Link) → (ℕ → Option Link) → ℕ → Hashed → ℕ → ℕ → Type 0
Puts ks old new top x fuel result =
    (xs : List Hashed) → Stands old top xs → IsOnce (x ∷ xs) → IsStrictlySortedBy (hashed_cmp ks) xs → IsSome (old x.id) → old 4294967295 ≡ None → length xs ≤ fuel
    → Becomes old new (x ∷ xs) result (put_in (is_before ks x) x xs)

-- the one that ties is let go of
abbrev pub Takes : List (Option Kind) → (ℕ → Option Link) → (ℕ → Option Link) → ℕ → Hashed → ℕ → ℕ → Type 0
Takes ks old new top x fuel result =
    (xs : List Hashed) → Stands old top xs → IsOnce xs → IsStrictlySortedBy (hashed_cmp ks) xs → length xs ≤ fuel → Becomes old new xs result (filter (λ y. not (is_tied ks x y)) xs)

-- whether there is one
abbrev pub Meets : List (Option Kind) → (ℕ → Option Link) → ℕ → Hashed → ℕ → Bool → Type 0
Meets ks old top x fuel met = (xs : List Hashed) → Stands old top xs → IsStrictlySortedBy (hashed_cmp ks) xs → length xs ≤ fuel → met ≡ is_some (find (is_tied ks x) xs)

-- those that pass
abbrev pub Filters : (Hashed → Bool) → (ℕ → Option Link) → (ℕ → Option Link) → ℕ → ℕ → ℕ → Type 0
Filters p old new top fuel result = (xs : List Hashed) → Stands old top xs → IsOnce xs → length xs ≤ fuel → Becomes old new xs result (filter p xs)

-- those that fail, and those that pass
abbrev pub Splits : (Hashed → Bool) → (ℕ → Option Link) → (ℕ → Option Link) → ℕ → ℕ → ℕ → ℕ → Type 0
Splits p old new top fuel first second =
    (xs : List Hashed) → Stands old top xs → IsOnce xs → length xs ≤ fuel → Parts old new xs first second (filter (λ x. not (p x)) xs) (filter p xs)

-- the last that is no later, else what was found before
abbrev pub Finds : List (Option Kind) → (ℕ → Option Link) → ℕ → ℕ → Kind → Bool → Option Hashed → ℕ → Option Hashed → Type 0
Finds ks at top hash kind own found fuel result =
    (xs : List Hashed) → Stands at top xs → IsStrictlySortedBy (hashed_cmp ks) xs → length xs ≤ fuel → result ≡ last_at (is_upto ks hash kind own) found xs

-- the last of just this kind
abbrev pub IsLatest : List (Option Kind) → (ℕ → Option Link) → ℕ → Kind → Bool → ℕ → Option ℕ → Type 0
IsLatest ks at top kind own fuel result = (xs : List Hashed) → Stands at top xs → IsIndex ks xs → length xs ≤ fuel → result ≡ last_of ks kind own xs
