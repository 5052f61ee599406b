-- Lists by what stands at each place.
use Rattle.std.proofs.Common.{◌≡◌, ◌≢◌, ◌∙◌, eqb, ℕ, zero, suc, ◌+◌, ◌<◌, ◌≤◌, ◌⊎◌, inl, inr, List, [], ◌∷◌, ◌++◌, length, get_or, map, take, AllPairs, Contains, IsPermutation, Some, refl, sym, ap, subst, arith, length-append}
use Rattle.std.specs.List.{range_with_len, slice_get, flat_map}
use Rattle.std.specs.Option.{option_map}
use Rattle.std.proofs.lemmas.Bool.{cases_lt, cases_eq}
use Rattle.std.proofs.lemmas.Bool.Decides.{Decides-eqb}
use Rattle.std.proofs.lemmas.Cmp.{nat_eq_equiv}
use Rattle.std.proofs.lemmas.List.FromFn.{length-range_with_len, get_or-range_with_len}
use Rattle.std.proofs.lemmas.List.Sorted.{Contains-permutation, IsPermutation-sym, length_permutation}
use Rattle.std.proofs.lemmas.Map.Made.{AllPairs-from_IsDistinct, IsDistinct-from_AllPairs}
use Rattle.std.proofs.lemmas.Map.Keys.{IsDistinct-IsPermutation}
use Rattle.std.proofs.lemmas.Option.{slice_get_within, slice_get-get_or, get_or_from_slice_get, slice_get-map, same_Some, none-some}

-- x stands at some place
abbrev pub Has : {X : Type 0} → List X → X → Type 0
Has xs x = (p : ℕ) × (slice_get xs p ≡ Some x)

-- of each two, R holds of the one that stands first and the other
abbrev pub Pairs : {X : Type 0} → (X → X → Type 0) → List X → Type 0
Pairs {X} R xs = (p q : ℕ) (x y : X) → p < q → slice_get xs p ≡ Some x → slice_get xs q ≡ Some y → R x y

-- each stands at one place
abbrev pub Once : {X : Type 0} → List X → Type 0
Once {X} xs = (p q : ℕ) (x : X) → slice_get xs p ≡ Some x → slice_get xs q ≡ Some x → p ≡ q

pub get : {X : Type 0} (xs : List X) (i : ℕ) → i < length xs → (x : X) × (slice_get xs i ≡ Some x)
get [] i small = absurd (omega arith)
get (x ∷ xs) zero small = (x, refl)
get (x ∷ xs) (suc i) small = get xs i (omega arith)

pub has_contains : {X : Type 0} (xs : List X) (x : X) → Has xs x → Contains xs x
has_contains xs x h = (h.0, slice_get_within xs h.0 x h.1, get_or_from_slice_get xs h.0 x x h.1)

pub contains_has : {X : Type 0} (xs : List X) (x : X) → Contains xs x → Has xs x
contains_has xs x c = (c.0, slice_get-get_or xs c.0 x c.1 ∙ ap Some c.2)

pub pairs_of : {X : Type 0} (R : X → X → Type 0) (xs : List X) → AllPairs R xs → Pairs R xs
pairs_of R xs all = λ p q x y before at_p at_q.
    subst (λ z. R z y) (get_or_from_slice_get xs p x x at_p)
    (subst (λ z. R (get_or xs p x) z) (get_or_from_slice_get xs q y x at_q) (all p q x before (slice_get_within xs q y at_q)))

pub pairs_to : {X : Type 0} (R : X → X → Type 0) (xs : List X) → Pairs R xs → AllPairs R xs
pairs_to R xs pairs = λ i j d before small.
    pairs i j (get_or xs i d) (get_or xs j d) before (slice_get-get_or xs i d (omega (arith, before, small))) (slice_get-get_or xs j d small)

pub once_of : (xs : List ℕ) → AllPairs ◌≢◌ xs → Once xs
once_of xs all = λ p q x at_p at_q.
    let pairs = pairs_of ◌≢◌ xs all in
    elim (cases_lt p q) as (λ _. p ≡ q) [
      | inl before ↦ absurd (pairs p q x x before at_p at_q refl)
      | inr upto ↦ elim (cases_lt q p) as (λ _. p ≡ q) [
        | inl after ↦ absurd (pairs q p x x after at_q at_p refl)
        | inr same ↦ omega (arith, upto, same)
      ]
    ]

pub once_to : (xs : List ℕ) → Once xs → AllPairs ◌≢◌ xs
once_to xs once = pairs_to ◌≢◌ xs (λ p q x y before at_p at_q e. absurd (omega (arith, before, once p q x at_p (at_q ∙ ap Some (sym e)))))

pub range_at : (a n i : ℕ) → i < n → slice_get (range_with_len a n) i ≡ Some (a + i)
range_at a n i small = slice_get-get_or (range_with_len a n) i 0 (omega (arith, small, length-range_with_len a n)) ∙ ap Some (get_or-range_with_len a n i 0 small)

pub at_range : (a n i x : ℕ) → slice_get (range_with_len a n) i ≡ Some x → (i < n) × (x ≡ a + i)
at_range a n i x at =
    let small : i < n = omega (arith, slice_get_within (range_with_len a n) i x at, length-range_with_len a n) in
    (small, same_Some x (a + i) (sym at ∙ range_at a n i small))

pub range_once : (a n : ℕ) → Once (range_with_len a n)
range_once a n = λ p q x at_p at_q.
    let e = at_range a n p x at_p in
    let f = at_range a n q x at_q in
    omega (arith, e.1, f.1)

-- the numbers below n in some order
pub record Turns (n : ℕ) (turn : List ℕ) : Type 0 where
  pub sized : length turn ≡ n
  pub below : (p i : ℕ) → slice_get turn p ≡ Some i → i < n
  pub onto : (i : ℕ) → i < n → Has turn i
  pub one : Once turn

pub turns_of : (n : ℕ) (turn : List ℕ) → IsPermutation (range_with_len 0 n) turn → Turns n turn
turns_of n turn whole = record {
  sized = length_permutation (range_with_len 0 n) turn whole ∙ length-range_with_len 0 n;
  below = λ p i at.
      let c = contains_has (range_with_len 0 n) i (Contains-permutation turn (range_with_len 0 n) i (IsPermutation-sym (range_with_len 0 n) turn whole) (has_contains turn i (p, at))) in
      let e = at_range 0 n c.0 i c.1 in
      omega (arith, e.0, e.1);
  onto = λ i small.
      contains_has turn i (Contains-permutation (range_with_len 0 n) turn i whole (has_contains (range_with_len 0 n) i (i, range_at 0 n i small ∙ ap Some (let e : 0 + i ≡ i = omega arith in e))));
  one = once_of turn (AllPairs-from_IsDistinct Decides-eqb turn
      (IsDistinct-IsPermutation eqb nat_eq_equiv.symm (range_with_len 0 n) turn whole (IsDistinct-from_AllPairs Decides-eqb (range_with_len 0 n) (once_to (range_with_len 0 n) (range_once 0 n)))));
}

-- what a map was made of
pub map_at : {X Y : Type 0} (f : X → Y) (xs : List X) (i : ℕ) (y : Y) → slice_get (map f xs) i ≡ Some y → (x : X) × (slice_get xs i ≡ Some x) × (f x ≡ y)
map_at f [] i y at = absurd (none-some y at)
map_at f (x ∷ xs) zero y at = (x, refl, same_Some (f x) y at)
map_at f (x ∷ xs) (suc i) y at = map_at f xs i y at

pub at_map : {X Y : Type 0} (f : X → Y) (xs : List X) (i : ℕ) (x : X) → slice_get xs i ≡ Some x → slice_get (map f xs) i ≡ Some (f x)
at_map f xs i x at = slice_get-map f xs i ∙ ap (option_map f) at

-- lists with one thing at each place are one
pub same_list : {X : Type 0} (xs ys : List X) → ((i : ℕ) (x : X) → slice_get xs i ≡ Some x → slice_get ys i ≡ Some x) → length xs ≡ length ys → xs ≡ ys
same_list [] [] same sized = refl
same_list [] (y ∷ ys) same sized = absurd (omega (arith, sized))
same_list (x ∷ xs) [] same sized = absurd (omega (arith, sized))
same_list {X} (x ∷ xs) (y ∷ ys) same sized =
    let head : y ≡ x = same_Some y x (same 0 x refl) in
    ap (λ (z : X). z ∷ xs) (sym head) ∙ ap (λ (zs : List X). y ∷ zs) (same_list xs ys (λ i z at. same (suc i) z at) (omega (arith, sized)))

-- two maps that agree at each element
pub maps_agree : {X Y : Type 0} (f g : X → Y) (xs : List X) → ((i : ℕ) (x : X) → slice_get xs i ≡ Some x → f x ≡ g x) → map f xs ≡ map g xs
maps_agree f g [] all = refl
maps_agree {X} {Y} f g (x ∷ xs) all = ap (λ (y : Y). y ∷ map f xs) (all 0 x refl) ∙ ap (λ (ys : List Y). g x ∷ ys) (maps_agree f g xs (λ i z at. all (suc i) z at))

pub maps_twice : {X Y Z : Type 0} (f : X → Y) (g : Y → Z) (xs : List X) → map g (map f xs) ≡ map (λ x. g (f x)) xs
maps_twice f g [] = refl
maps_twice {Z = Z} f g (x ∷ xs) = ap (λ (zs : List Z). g (f x) ∷ zs) (maps_twice f g xs)

-- lists of one set of elements, each once and in one order, are one
head_has : {X : Type 0} (y : X) (ys : List X) (x : X) → Has (y ∷ ys) x → (y ≡ x) ⊎ Has ys x
head_has y ys x (zero, at) = inl (same_Some y x at)
head_has y ys x (suc p, at) = inr (p, at)

later : {X : Type 0} (y : X) (ys : List X) (x : X) → Has ys x → Has (y ∷ ys) x
later y ys x h = (suc h.0, h.1)

tail_pairs : {X : Type 0} (R : X → X → Type 0) (x : X) (xs : List X) → Pairs R (x ∷ xs) → Pairs R xs
tail_pairs R x xs pairs = λ p q a b before at_p at_q. pairs (suc p) (suc q) a b (omega (arith, before)) at_p at_q

tail_once : {X : Type 0} (x : X) (xs : List X) → Once (x ∷ xs) → Once xs
tail_once x xs once = λ p q a at_p at_q. let e = once (suc p) (suc q) a at_p at_q in omega (arith, e)

among_tail : (x : ℕ) (xs : List ℕ) (y : ℕ) (ys : List ℕ) → x ≡ y → Once (x ∷ xs) → ((n : ℕ) → Has (x ∷ xs) n → Has (y ∷ ys) n) → (n : ℕ) → Has xs n → Has ys n
among_tail x xs y ys e once among n h = elim (head_has y ys n (among n (later x xs n h))) as (λ _. Has ys n) [
  | inl is ↦ absurd (let z = once 0 (suc h.0) n (ap Some (e ∙ is)) h.1 in omega (arith, z))
  | inr rest ↦ rest
]

pub one_order : (R : ℕ → ℕ → Type 0) (xs ys : List ℕ) → ((i j : ℕ) → Has xs i → Has xs j → i ≢ j → R i j → R j i → ⊥)
    → ((n : ℕ) → Has xs n → Has ys n) → ((n : ℕ) → Has ys n → Has xs n) → Once xs → Once ys → Pairs R xs → Pairs R ys → xs ≡ ys
one_order R [] [] apart forth back dx dy px py = refl
one_order R [] (y ∷ ys) apart forth back dx dy px py = let h = back y (0, refl) in absurd (none-some y h.1)
one_order R (x ∷ xs) [] apart forth back dx dy px py = let h = forth x (0, refl) in absurd (none-some x h.1)
one_order R (x ∷ xs) (y ∷ ys) apart forth back dx dy px py = elim (cases_eq x y) as (λ _. x ∷ xs ≡ y ∷ ys) [
  | inl e ↦
      let rest : xs ≡ ys =
      one_order R xs ys (λ i j hi hj. apart i j (later x xs i hi) (later x xs j hj)) (among_tail x xs y ys e dx forth) (among_tail y ys x xs (sym e) dy back)
      (tail_once x xs dx) (tail_once y ys dy) (tail_pairs R x xs px) (tail_pairs R y ys py) in
      ap (λ n. n ∷ xs) e ∙ ap (λ ns. y ∷ ns) rest
  | inr differ ↦ elim (head_has y ys x (forth x (0, refl))) as (λ _. x ∷ xs ≡ y ∷ ys) [
    | inl e ↦ absurd (differ (sym e))
    | inr x_later ↦ elim (head_has x xs y (back y (0, refl))) as (λ _. x ∷ xs ≡ y ∷ ys) [
      | inl e ↦ absurd (differ e)
      | inr y_later ↦
          absurd (apart x y (0, refl) (later x xs y y_later) differ (px 0 (suc y_later.0) x y (omega arith) refl y_later.1) (py 0 (suc x_later.0) y x (omega arith) refl x_later.1))
    ]
  ]
]

-- where the pieces of a list joined from pieces begin
abbrev pub start : {X Y : Type 0} → (X → List Y) → List X → ℕ → ℕ
start f xs p = length (flat_map f (take p xs))

-- what stands in a joined list stands in one of the pieces
pub record Seat {X Y : Type 0} (f : X → List Y) (xs : List X) (j : ℕ) (y : Y) : Type 0 where
  pub piece : ℕ
  pub place : ℕ
  pub from : X
  pub at_piece : slice_get xs piece ≡ Some from
  pub at_place : slice_get (f from) place ≡ Some y
  pub is : j ≡ start f xs piece + place

pub left_at : {X : Type 0} (xs ys : List X) (i : ℕ) (x : X) → slice_get xs i ≡ Some x → slice_get (xs ++ ys) i ≡ Some x
left_at [] ys i x at = absurd (none-some x at)
left_at (y ∷ xs) ys zero x at = at
left_at (y ∷ xs) ys (suc i) x at = left_at xs ys i x at

pub right_at : {X : Type 0} (xs ys : List X) (i j : ℕ) (y : X) → length xs + i ≡ j → slice_get ys i ≡ Some y → slice_get (xs ++ ys) j ≡ Some y
right_at [] ys i j y is at = let e : i ≡ j = omega (arith, is) in subst (λ (k : ℕ). slice_get ys k ≡ Some y) e at
right_at (x ∷ xs) ys i zero y is at = absurd (omega (arith, is))
right_at (x ∷ xs) ys i (suc j) y is at = right_at xs ys i j y (omega (arith, is)) at

pub append_at : {X : Type 0} (xs ys : List X) (j : ℕ) (y : X) → slice_get (xs ++ ys) j ≡ Some y
    → (slice_get xs j ≡ Some y) ⊎ ((i : ℕ) × (length xs + i ≡ j) × (slice_get ys i ≡ Some y))
append_at [] ys j y at = inr (j, omega arith, at)
append_at (x ∷ xs) ys zero y at = inl at
append_at (x ∷ xs) ys (suc j) y at = elim (append_at xs ys j y at) as (λ _. (slice_get (x ∷ xs) (suc j) ≡ Some y) ⊎ ((i : ℕ) × (length (x ∷ xs) + i ≡ suc j) × (slice_get ys i ≡ Some y))) [
  | inl here ↦ inl here
  | inr there ↦ inr (there.0, omega (arith, there.1), there.2)
]

pub seat : {X Y : Type 0} (f : X → List Y) (xs : List X) (j : ℕ) (y : Y) → slice_get (flat_map f xs) j ≡ Some y → Seat f xs j y
seat f [] j y at = absurd (none-some y at)
seat f (x ∷ xs) j y at = elim (append_at (f x) (flat_map f xs) j y at) as (λ _. Seat f (x ∷ xs) j y) [
  | inl here ↦ record { piece = 0; place = j; from = x; at_piece = refl; at_place = here; is = omega arith }
  | inr there ↦
      let s = seat f xs there.0 y there.2 in
      record {
        piece = suc s.piece;
        place = s.place;
        from = s.from;
        at_piece = s.at_piece;
        at_place = s.at_place;
        is = omega (arith, s.is, there.1, length-append (f x) (flat_map f (take s.piece xs)));
      }
]

pub unseat : {X Y : Type 0} (f : X → List Y) (xs : List X) (p k : ℕ) (x : X) (y : Y) → slice_get xs p ≡ Some x → slice_get (f x) k ≡ Some y → slice_get (flat_map f xs) (start f xs p + k) ≡ Some y
unseat f [] p k x y at_p at_k = absurd (none-some x at_p)
unseat {X} f (z ∷ xs) zero k x y at_p at_k =
    let e : z ≡ x = same_Some z x at_p in
    let here : slice_get (f z ++ flat_map f xs) k ≡ Some y = left_at (f z) (flat_map f xs) k y (subst (λ (w : X). slice_get (f w) k ≡ Some y) (sym e) at_k) in
    let n : 0 + k ≡ k = omega arith in
    subst (λ (i : ℕ). slice_get (f z ++ flat_map f xs) i ≡ Some y) (sym n) here
unseat f (z ∷ xs) (suc p) k x y at_p at_k =
    right_at (f z) (flat_map f xs) (start f xs p + k) (start f (z ∷ xs) (suc p) + k) y (omega (arith, length-append (f z) (flat_map f (take p xs)))) (unseat f xs p k x y at_p at_k)

-- a later piece begins behind the earlier ones
pub starts_rise : {X Y : Type 0} (f : X → List Y) (xs : List X) (p q : ℕ) (x : X) → p < q → slice_get xs p ≡ Some x → start f xs p + length (f x) ≤ start f xs q
starts_rise f [] p q x before at = absurd (none-some x at)
starts_rise f (z ∷ xs) p zero x before at = absurd (omega (arith, before))
starts_rise {X} f (z ∷ xs) zero (suc q) x before at =
    let e : length (f z) ≡ length (f x) = ap (λ (w : X). length (f w)) (same_Some z x at) in
    omega (arith, e, length-append (f z) (flat_map f (take q xs)))
starts_rise f (z ∷ xs) (suc p) (suc q) x before at =
    omega (arith, starts_rise f xs p q x (omega (arith, before)) at, length-append (f z) (flat_map f (take p xs)), length-append (f z) (flat_map f (take q xs)))

pub seats_one : {X Y : Type 0} (f : X → List Y) (xs : List X) (j : ℕ) (y z : Y) (s : Seat f xs j y) (t : Seat f xs j z) → (s.piece ≡ t.piece) × (s.place ≡ t.place)
seats_one {X} f xs j y z s t =
    let small = slice_get_within (f s.from) s.place y s.at_place in
    let tiny = slice_get_within (f t.from) t.place z t.at_place in
    elim (cases_lt s.piece t.piece) as (λ _. (s.piece ≡ t.piece) × (s.place ≡ t.place)) [
      | inl before ↦ absurd (omega (arith, starts_rise f xs s.piece t.piece s.from before s.at_piece, small, s.is, t.is))
      | inr upto ↦ elim (cases_lt t.piece s.piece) as (λ _. (s.piece ≡ t.piece) × (s.place ≡ t.place)) [
        | inl after ↦ absurd (omega (arith, starts_rise f xs t.piece s.piece t.from after t.at_piece, tiny, s.is, t.is))
        | inr same ↦
            let e : s.piece ≡ t.piece = omega (arith, upto, same) in
            (e, omega (arith, s.is, t.is, ap (λ (p : ℕ). start f xs p) e))
      ]
    ]
