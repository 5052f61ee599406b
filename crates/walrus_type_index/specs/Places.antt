-- How the types of a table are ordered: by hash, then by kind, then those that name themselves last, then by id.
use Rattle.std.specs.Prelude.{ℕ, Bool, false, not, ◌==◌, List, [], ◌∷◌, map, Option, Some, None, slice_index_or, if◌then◌else◌}
use Rattle.std.specs.declared.cmp.Ordering.{Ordering}
use Rattle.std.specs.Ordering.{ordering_then, bool_cmp, nat_cmp, is_gt, is_lt, is_eq}
use Rattle.std.specs.List.{list_any}
use Rattle.std.specs.Option.{option_map, option_map_or, option_cmp}
use Rattle.walrus_items.specs.walrus_forms.Kinds.{Kind, kind_names}
use Rattle.walrus_items.specs.walrus_forms.Order.{kind_cmp}
use Rattle.walrus_items.specs.declared.subtype.Type.{«Type» as TypeItem}
use Rattle.walrus_items.specs.Items.{kind_of}
pub use Rattle.walrus_type_index.specs.declared.node.Hashed.{Hashed}
use Rattle.walrus_type_index.specs.Hashes.{hash_at}

-- the kinds of the live types, by id
abbrev pub kinds_in : List (Option TypeItem) → List (Option Kind)
kinds_in slots = map (option_map kind_of) slots

-- whether a type of this kind and id names itself
abbrev pub names_itself : ℕ → Kind → Bool
names_itself id kind = list_any (λ name. name == id) (kind_names kind)

-- the kind, if the type lives, and whether it names itself
abbrev pub place_of : ℕ → Option Kind → Option Kind × Bool
place_of id kind = (kind, option_map_or (λ k. names_itself id k) kind false)

abbrev pub place_at : List (Option Kind) → ℕ → Option Kind × Bool
place_at kinds id = place_of id (slice_index_or kinds id None)

-- dead types first, then by kind, then those that name themselves last
abbrev pub place_cmp : Option Kind × Bool → Option Kind × Bool → Ordering
place_cmp a b = ordering_then (option_cmp kind_cmp a.0 b.0) (bool_cmp a.1 b.1)

-- ids by their places, then by number
abbrev pub id_cmp : List (Option Kind) → ℕ → ℕ → Ordering
id_cmp kinds a b = ordering_then (place_cmp (place_at kinds a) (place_at kinds b)) (nat_cmp a b)

-- by hash, then as ids
abbrev pub hashed_cmp : List (Option Kind) → Hashed → Hashed → Ordering
hashed_cmp kinds a b = ordering_then (nat_cmp a.hash b.hash) (id_cmp kinds a.id b.id)

-- whether the one stands before the other
abbrev pub is_before : List (Option Kind) → Hashed → Hashed → Bool
is_before kinds a b = is_lt (hashed_cmp kinds a b)

-- whether neither stands before the other
abbrev pub is_tied : List (Option Kind) → Hashed → Hashed → Bool
is_tied kinds a b = is_eq (hashed_cmp kinds a b)

-- the id behind its type's hash
abbrev pub hashed_at : List (Option Kind) → ℕ → Hashed
hashed_at kinds id = record { hash = hash_at kinds id; id = id }

-- how an id stands to the types of this kind that name themselves, or that don't
abbrev pub key_cmp : List (Option Kind) → Kind → Bool → ℕ → Ordering
key_cmp kinds kind own id = place_cmp (place_at kinds id) (Some kind, own)

-- how an id and its hash stand to those of this hash and kind
abbrev pub wanted_cmp : List (Option Kind) → ℕ → Kind → Bool → Hashed → Ordering
wanted_cmp kinds hash kind own x = ordering_then (nat_cmp x.hash hash) (key_cmp kinds kind own x.id)

abbrev pub is_upto : List (Option Kind) → ℕ → Kind → Bool → Hashed → Bool
is_upto kinds hash kind own x = not (is_gt (wanted_cmp kinds hash kind own x))

abbrev pub is_exactly : List (Option Kind) → Kind → Bool → ℕ → Bool
is_exactly kinds kind own id = is_eq (key_cmp kinds kind own id)

-- the last id that passes, else what was found before
abbrev pub last_in : (Hashed → Bool) → Option ℕ → List Hashed → Option ℕ
last_in test found [] = found
last_in test found (x ∷ xs) = last_in test (if test x then Some x.id else found) xs

-- the last that passes, else what was found before
abbrev pub last_at : (Hashed → Bool) → Option Hashed → List Hashed → Option Hashed
last_at test found [] = found
last_at test found (x ∷ xs) = last_at test (if test x then Some x else found) xs

-- the last id of just this kind
abbrev pub last_of : List (Option Kind) → Kind → Bool → List Hashed → Option ℕ
last_of kinds kind own index = last_in (λ x. is_exactly kinds kind own x.id) None index

-- the list with one more, before the first that passes
abbrev pub put_in : (Hashed → Bool) → Hashed → List Hashed → List Hashed
put_in test new [] = new ∷ []
put_in test new (x ∷ xs) = if test x then new ∷ x ∷ xs else x ∷ put_in test new xs

-- the list with the id where it belongs
abbrev pub entered : List (Option Kind) → ℕ → List Hashed → List Hashed
entered kinds id index = put_in (is_before kinds (hashed_at kinds id)) (hashed_at kinds id) index
