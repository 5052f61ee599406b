-- Lemmas: rising numbers pick what all slots give, in their order.
use Rattle.std.specs.Prelude.{ℕ, zero, suc, ◌+◌, ◌<◌, ◌≤◌, ◌≡◌, ◌⊎◌, List, [], ◌∷◌, ◌++◌, length, map, Option, Some, None, slice_get, slice_index_or, refl}
use Rattle.std.specs.List.{cons_option, filter_map}
use Rattle.std.specs.Option.{option_map}
use Rattle.std.proofs.Common.{ap, sym, ◌∙◌, subst, arith, inl, inr}
use Rattle.std.proofs.lemmas.Bool.{cases_lt}
use Rattle.std.proofs.lemmas.List.{get_or_past}
use Rattle.wasm_part.specs.Closed.{Rise}
use Rattle.wasm_part.specs.Part.{picked}
use Rattle.walrus_due_laws.specs.Spelled.{in_slots}

same_some : {A : Type 0} (x y : A) → (let some : A → Option A = λ x. Some x in some x ≡ some y) → x ≡ y
same_some x y e = cc

-- somewhere among these numbers
abbrev pub In : List ℕ → ℕ → Type 0
In ns n = (i : ℕ) × (slice_get ns i ≡ Some n)

-- they rise from this one on
abbrev RiseFrom : ℕ → List ℕ → Type 0
RiseFrom k [] = Unit {0}
RiseFrom k (n ∷ ns) = (k ≤ n) × RiseFrom (suc n) ns

rise_from : (k : ℕ) (ns : List ℕ) → Rise ns → ((i n : ℕ) → slice_get ns i ≡ Some n → k ≤ n) → RiseFrom k ns
rise_from k [] h low = tt
rise_from k (n ∷ ns) h low =
    (low zero n refl, rise_from (suc n) ns (λ i j a b lt e f. h (suc i) (suc j) a b (omega (arith, lt)) e f) (λ i b e. let lt : n < b = h zero (suc i) n b (omega arith) refl e in omega (arith, lt)))

from_least : (k : ℕ) (ns : List ℕ) → RiseFrom k ns → (i n : ℕ) → slice_get ns i ≡ Some n → k ≤ n
from_least k [] h i n e = absurd cc
from_least k (m ∷ ns) h zero n e = let same : m ≡ n = same_some m n e in let low : k ≤ m = h.0 in omega (arith, same, low)
from_least k (m ∷ ns) h (suc i) n e = let more : suc m ≤ n = from_least (suc m) ns h.1 i n e in let low : k ≤ m = h.0 in omega (arith, more, low)

module _ {E : Type 0} (given : ℕ → Option E) where
  -- what is given of so many numbers from this one on
  abbrev values : ℕ → ℕ → List E
  values k zero = []
  values k (suc count) = cons_option (given k) (values (suc k) count)

  none_given : (ns : List ℕ) → ((i n : ℕ) → slice_get ns i ≡ Some n → given n ≡ None) → filter_map given ns ≡ []
  none_given [] h = refl
  none_given (n ∷ ns) h = ap (λ (o : Option E). cons_option o (filter_map given ns)) (h zero n refl) ∙ none_given ns (λ i k e. h (suc i) k e)

  not_given : (o : Option E) → ((e : E) → o ≡ Some e → ⊥) → o ≡ None
  not_given None h = refl
  not_given (Some e) h = absurd (h e refl)

  passed : (k count : ℕ) (ns : List ℕ) → given k ≡ None → filter_map given ns ≡ values (suc k) count → filter_map given ns ≡ values k (suc count)
  passed k count ns none rest = rest ∙ ap (λ (o : Option E). cons_option o (values (suc k) count)) (sym none)

  taken : (k n count : ℕ) (ns : List ℕ) → n ≡ k → filter_map given ns ≡ values (suc k) count → filter_map given (n ∷ ns) ≡ values k (suc count)
  taken k n count ns same rest = ap (λ (n : ℕ). cons_option (given n) (filter_map given ns)) same ∙ ap (λ (l : List E). cons_option (given k) l) rest

  -- each that gives something is among these, and none from there on does
  abbrev Has : ℕ → List ℕ → Type 0
  Has k ns = (n : ℕ) (e : E) → k ≤ n → given n ≡ Some e → In ns n

  -- one that lies in front of them gives nothing
  before_none : (k : ℕ) (ns : List ℕ) → RiseFrom (suc k) ns → Has k ns → given k ≡ None
  before_none k ns rise has =
      not_given (given k) (λ e is. let at = has k e (omega arith) is in let more : suc k ≤ k = from_least (suc k) ns rise at.0 k at.1 in absurd (omega (arith, more)))

  has_later : (k : ℕ) (ns : List ℕ) → Has k ns → Has (suc k) ns
  has_later k ns has n e le is = has n e (omega (arith, le)) is

  has_rest : (k m : ℕ) (ns : List ℕ) → m ≡ k → Has k (m ∷ ns) → Has (suc k) ns
  has_rest k m ns same has n e le is = go (has n e (omega (arith, le)) is)
    where
      at_zero : slice_get (m ∷ ns) zero ≡ Some n → In ns n
      at_zero f = let is : m ≡ n = same_some m n f in absurd (omega (arith, same, is, le))

      go : In (m ∷ ns) n → In ns n
      go (zero, f) = at_zero f
      go (suc i, f) = (i, f)

  pub picked_rise : (count k : ℕ) (ns : List ℕ) → RiseFrom k ns → Has k ns → ((n : ℕ) → k + count ≤ n → given n ≡ None) → filter_map given ns ≡ values k count
  picked_rise zero k ns rise has beyond = none_given ns (λ i n e. beyond n (let low : k ≤ n = from_least k ns rise i n e in omega (arith, low)))
  picked_rise (suc count) k [] rise has beyond =
      passed k count [] (before_none k [] tt has) (picked_rise count (suc k) [] tt (has_later k [] has) (λ n le. beyond n (omega (arith, le))))
  picked_rise (suc count) k (m ∷ ns) rise has beyond = elim (cases_lt k m) [
    | inl lt ↦
        let later : RiseFrom (suc k) (m ∷ ns) = (omega (arith, lt), rise.1) in
        passed k count (m ∷ ns) (before_none k (m ∷ ns) later has) (picked_rise count (suc k) (m ∷ ns) later (has_later k (m ∷ ns) has) (λ n le. beyond n (omega (arith, le))))
    | inr le ↦
        let low : k ≤ m = rise.0 in
        let same : m ≡ k = omega (arith, low, le) in
        taken k m count ns same
        (picked_rise count (suc k) ns (subst (λ (n : ℕ). RiseFrom (suc n) ns) same rise.1) (has_rest k m ns same has) (λ n le. beyond n (omega (arith, le))))
  ]

shifted : {E : Type 0} (given : ℕ → Option E) (k count : ℕ) → values given (suc k) count ≡ values (λ n. given (suc n)) k count
shifted given k zero = refl
shifted {E} given k (suc count) = ap (λ (l : List E). cons_option (given (suc k)) l) (shifted given (suc k) count)

-- all slots
values_all : {A E : Type 0} (of : Option A → Option E) (slots : List (Option A)) → values (λ n. of (slice_index_or slots n None)) 0 (length slots) ≡ filter_map of slots
values_all of [] = refl
values_all {A} {E} of (x ∷ slots) =
    ap (λ (l : List E). cons_option (of x) l) (shifted (λ n. of (slice_index_or (x ∷ slots) n None)) 0 (length slots) ∙ values_all of slots)

mapped_filter : {A B E : Type 0} (own : B → Option E) (f : A → B) (xs : List A) → filter_map own (map f xs) ≡ filter_map (λ x. own (f x)) xs
mapped_filter own f [] = refl
mapped_filter {A} {B} {E} own f (x ∷ xs) = ap (λ (l : List E). cons_option (own (f x)) l) (mapped_filter own f xs)

-- those in front give nothing
front_none : {E : Type 0} (given : ℕ → Option E) (front back : List ℕ) → ((i n : ℕ) → slice_get front i ≡ Some n → given n ≡ None) → filter_map given (front ++ back) ≡ filter_map given back
front_none given [] back h = refl
front_none {E} given (n ∷ front) back h = ap (λ (o : Option E). cons_option o (filter_map given (front ++ back))) (h zero n refl) ∙ front_none given front back (λ i k e. h (suc i) k e)

in_either : (front back : List ℕ) (i n : ℕ) → slice_get (front ++ back) i ≡ Some n → In front n ⊎ In back n
in_either [] back i n e = inr (i, e)
in_either (m ∷ front) back zero n e = inl (zero, e)
in_either (m ∷ front) back (suc i) n e = go (in_either front back i n e)
  where
    go : In front n ⊎ In back n → In (m ∷ front) n ⊎ In back n
    go (inl at) = inl (suc at.0, at.1)
    go (inr at) = inr at

module _ {A E : Type 0} (f : A → A) (own : Option A → Option E) (slots : List (Option A)) (front back : List ℕ) (none : own None ≡ None) where
  abbrev entry_of : ℕ → Option E
  entry_of n = own (option_map f (slice_index_or slots n None))

  filled : (o : Option A) (e : E) → own (option_map f o) ≡ Some e → (x : A) × (o ≡ Some x)
  filled None e is = let bad : (let nothing : Option E = None in nothing ≡ Some e) = sym none ∙ is in absurd cc
  filled (Some x) e is = (x, refl)

  pub own_behind : ((i n : ℕ) → slice_get front i ≡ Some n → entry_of n ≡ None) → filter_map own (picked f (front ++ back) slots) ≡ filter_map own (picked f back slots)
  own_behind imported =
      mapped_filter own (λ n. option_map f (slice_index_or slots n None)) (front ++ back)
      ∙ front_none entry_of front back imported
      ∙ sym (mapped_filter own (λ n. option_map f (slice_index_or slots n None)) back)

  pub own_stay : ((i n : ℕ) → slice_get front i ≡ Some n → entry_of n ≡ None) → Rise back → ((n : ℕ) (x : A) → slice_index_or slots n None ≡ Some x → In (front ++ back) n)
      → filter_map own (picked f (front ++ back) slots) ≡ filter_map own (in_slots f slots)
  own_stay imported rise lives =
      mapped_filter own (λ n. option_map f (slice_index_or slots n None)) (front ++ back)
      ∙ front_none entry_of front back imported
      ∙ picked_rise entry_of (length slots) 0 back (rise_from 0 back rise (λ i n e. omega arith)) has beyond
      ∙ values_all (λ o. own (option_map f o)) slots
      ∙ sym (mapped_filter own (option_map f) slots)
    where
      has : Has entry_of 0 back
      has n e le is =
          let x = filled (slice_index_or slots n None) e is in
          let at = lives n x.0 x.1 in
          behind (in_either front back at.0 n at.1)
        where
          behind : In front n ⊎ In back n → In back n
          behind (inl i) = let bad : (let nothing : Option E = None in nothing ≡ Some e) = sym (imported i.0 n i.1) ∙ is in absurd cc
          behind (inr i) = i

      beyond : (n : ℕ) → 0 + length slots ≤ n → entry_of n ≡ None
      beyond n le = ap (λ (o : Option A). own (option_map f o)) (get_or_past slots n None (omega (arith, le))) ∙ none
