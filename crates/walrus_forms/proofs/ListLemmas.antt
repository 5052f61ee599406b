-- Steps of loops over lists.
use Rattle.std.proofs.Common.{◌≡◌, ◌∙◌, ℕ, ◌+◌, ◌<◌, All, List, [], ◌∷◌, ◌++◌, length, map, take, subst, arith, Option, Some, None, slice_index_or, refl, sym, ap, add-one, append_assoc}
use Rattle.std.specs.List.{filter_map, cons_option}
use Rattle.std.specs.Option.{option_to_list}
use Rattle.std.proofs.Math.Seq.{take-suc}
use Rattle.std.proofs.lemmas.List.{get_or-map, length-map}
use Rattle.std.proofs.lemmas.List.Elements.{All-get_or, filter_map-append}

filter_map-one : {X Y : Type 0} (h : X → Option Y) (x : X) → filter_map h (x ∷ []) ≡ option_to_list (h x)
filter_map-one h x = elim (h x) as (λ o. cons_option o [] ≡ option_to_list o) [ None ↦ refl | Some y ↦ refl ]

-- one more element, as at a step of a loop
pub filter_map-more : {X Y : Type 0} (h : X → Option Y) (xs : List X) (i : ℕ) (d : X) → i < length xs
    → filter_map h (take (i + 1) xs) ≡ filter_map h (take i xs) ++ option_to_list (h (slice_index_or xs i d))
filter_map-more h xs i d less =
    rw (add-one, take-suc xs i d less) (filter_map-append h (take i xs) (slice_index_or xs i d ∷ []) ∙ ap (λ ys. filter_map h (take i xs) ++ ys) (filter_map-one h (slice_index_or xs i d)))

-- a step of a loop that adds what h gives of each element
pub filter_map-turn : {X Y : Type 0} (h : X → Option Y) (xs : List X) (i : ℕ) (x : X) (o : Option Y) (old now new : List Y)
    → i < length xs → x ≡ slice_index_or xs i x → o ≡ h x
    → now ≡ old ++ filter_map h (take i xs) → new ≡ now ++ option_to_list o
    → new ≡ old ++ filter_map h (take (i + 1) xs)
filter_map-turn h xs i x o old now new less is given before after =
    let more = filter_map-more h xs i x less in
    after ∙ ap (λ ys. ys ++ option_to_list o) before
    ∙ append_assoc old (filter_map h (take i xs)) (option_to_list o)
    ∙ ap (λ ys. old ++ ys) (ap (λ p. filter_map h (take i xs) ++ option_to_list p) (given ∙ ap h is) ∙ sym more)

-- what holds of all that f gives of the elements holds of what it gives of each
pub All-of_map : {X Y : Type 0} (P : X → Type 0) (f : Y → X) (ys : List Y) (i : ℕ) (d : Y) → i < length ys → All P (map f ys) → P (f (slice_index_or ys i d))
All-of_map P f ys i d less all =
    subst P (get_or-map f ys i d (f d) less) (All-get_or P (map f ys) i (f d) (omega (arith, length-map ys f)) all)
