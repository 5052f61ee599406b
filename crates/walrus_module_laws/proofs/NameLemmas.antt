-- The items of events, part by part.
use Rattle.std.proofs.Common.{◌≡◌, ◌∙◌, ℕ, zero, suc, List, [], ◌∷◌, ◌++◌, map, Contains, refl, sym, ap, subst, arith}
use Rattle.std.proofs.lemmas.List.{append_assoc}
use Rattle.std.proofs.lemmas.List.Elements.{Contains-append_left, Contains-append_right}
use Rattle.walrus_walks.specs.Events.{Event, NamesType}
use Rattle.wasm_formats.specs.declared.fault.Space.TheVariants as spaces
use Rattle.walrus_roots.specs.declared.item.Item.{Item}
use Rattle.walrus_roots.specs.Items.{item}
use Rattle.walrus_marks.specs.Named.{items_of, event_items}

pub here : {X : Type 0} (x : X) (xs : List X) → Contains (x ∷ xs) x
here x xs = (0, omega arith, refl)

-- what a list of one has is that one
pub the_one : {X : Type 0} (x y : X) → Contains (x ∷ []) y → x ≡ y
the_one x y (zero, less, at) = at
the_one x y (suc k, less, at) = absurd (omega (arith, less))

items_append : (xs ys : List Event) → items_of (xs ++ ys) ≡ items_of xs ++ items_of ys
items_append [] ys = refl
items_append (x ∷ xs) ys = ap (λ (is : List Item). event_items x ++ is) (items_append xs ys) ∙ sym (append_assoc (event_items x) (items_of xs) (items_of ys))

-- what stands in the items of a first part stands in all
pub first_part : (xs ys : List Event) (y : Item) → Contains (items_of xs) y → Contains (items_of (xs ++ ys)) y
first_part xs ys y has = let C : List Item → Type 0 = λ is. Contains is y in subst C (sym (items_append xs ys)) (Contains-append_left (items_of xs) (items_of ys) y has)

pub last_part : (xs ys : List Event) (y : Item) → Contains (items_of ys) y → Contains (items_of (xs ++ ys)) y
last_part xs ys y has = let C : List Item → Type 0 = λ is. Contains is y in subst C (sym (items_append xs ys)) (Contains-append_right (items_of xs) (items_of ys) y has)

-- a type that is named, as an item
pub named_type : (names : List ℕ) (name : ℕ) → Contains names name → Contains (items_of (map (λ (id : ℕ). NamesType id) names)) (item spaces.Type name)
named_type [] name (k, less, at) = absurd (omega (arith, less))
named_type (x ∷ xs) name (zero, less, at) =
    let rest = items_of (map (λ (id : ℕ). NamesType id) xs) in
    let C : ℕ → Type 0 = λ i. Contains (item spaces.Type x ∷ rest) (item spaces.Type i) in subst C at (here (item spaces.Type x) rest)
named_type (x ∷ xs) name (suc k, less, at) = last_part (NamesType x ∷ []) (map (λ (id : ℕ). NamesType id) xs) (item spaces.Type name) (named_type xs name (k, omega (arith, less), at))

-- and what a type names is a type
pub type_at_names : (names : List ℕ) (y : Item) → Contains (items_of (map (λ (id : ℕ). NamesType id) names)) y → (name : ℕ) × Contains names name × (item spaces.Type name ≡ y)
type_at_names [] y (k, less, at) = absurd (omega (arith, less))
type_at_names (x ∷ xs) y (zero, less, at) = (x, here x xs, at)
type_at_names (x ∷ xs) y (suc k, less, at) =
    let rest = type_at_names xs y (k, omega (arith, less), at) in
    (rest.0, Contains-append_right (x ∷ []) xs rest.0 rest.1, rest.2)
