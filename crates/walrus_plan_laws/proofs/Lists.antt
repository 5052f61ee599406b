-- Lemmas: lists without repetitions, and what is in them.
use Rattle.std.specs.Prelude.{ℕ, zero, suc, ◌+◌, ◌≤◌, ◌≡◌, ◌⊎◌, Bool, true, false, cond, List, [], ◌∷◌, ◌++◌, length, filter, Contains, Option, Some, None, slice_get, refl}
use Rattle.std.specs.List.{AllByRecursion, cons_option, filter_map}
use Rattle.std.proofs.Common.{ap, sym, ◌∙◌, subst, arith, inl, inr}
use Rattle.std.proofs.lemmas.Option.{none-some, same_Some, slice_get_read}
use Rattle.wasm_part.specs.Closed.{Rise}

-- somewhere in the list
abbrev pub In : {A : Type 0} → List A → A → Type 0
In xs x = (i : ℕ) × (slice_get xs i ≡ Some x)

-- none of them stands there twice
abbrev pub Apart : List ℕ → Type 0
Apart [] = Unit {0}
Apart (n ∷ ns) = (In ns n → ⊥) × Apart ns

-- they rise, from this one on
abbrev pub RiseFrom : ℕ → List ℕ → Type 0
RiseFrom k [] = Unit {0}
RiseFrom k (n ∷ ns) = (k ≤ n) × RiseFrom (suc n) ns

module _ {A : Type 0} where
  pub in_later : (y x : A) (xs : List A) → In xs x → In (y ∷ xs) x
  in_later y x xs h = (suc h.0, h.1)

  pub in_front : (xs ys : List A) (x : A) → In xs x → In (xs ++ ys) x
  in_front [] ys x (i, e) = absurd (none-some x e)
  in_front (y ∷ xs) ys x (zero, e) = (zero, e)
  in_front (y ∷ xs) ys x (suc i, e) = in_later y x (xs ++ ys) (in_front xs ys x (i, e))

  pub in_back : (xs ys : List A) (x : A) → In ys x → In (xs ++ ys) x
  in_back [] ys x h = h
  in_back (y ∷ xs) ys x h = in_later y x (xs ++ ys) (in_back xs ys x h)

  pub in_either : (xs ys : List A) (x : A) → In (xs ++ ys) x → In xs x ⊎ In ys x
  in_either [] ys x h = inr h
  in_either (y ∷ xs) ys x (zero, e) = inl (zero, e)
  in_either (y ∷ xs) ys x (suc i, e) = go (in_either xs ys x (i, e))
    where
      go : In xs x ⊎ In ys x → In (y ∷ xs) x ⊎ In ys x
      go (inl at) = inl (suc at.0, at.1)
      go (inr at) = inr at

  pub in_contains : (xs : List A) (x : A) → Contains xs x → In xs x
  in_contains xs x h = (h.0, slice_get_read xs (length xs) h.0 x refl h.1 (sym h.2))

  pub contains_at : (xs : List A) (i : ℕ) (x : A) → slice_get xs i ≡ Some x → Contains xs x
  contains_at [] i x e = absurd (none-some x e)
  contains_at (y ∷ xs) zero x e = (zero, omega arith, same_Some y x e)
  contains_at (y ∷ xs) (suc i) x e = let h = contains_at xs i x e in (suc h.0, omega (arith, h.1), h.2)

  pub all_in : (P : A → Type 0) (xs : List A) → ((x : A) → In xs x → P x) → AllByRecursion P xs
  all_in P [] h = tt
  all_in P (x ∷ xs) h = (h x (zero, refl), all_in P xs (λ y at. h y (suc at.0, at.1)))

  -- the same element stands at one place
  pub behind_it : (xs ys : List A) (x : A) (i : ℕ) → slice_get ys i ≡ Some x → slice_get (xs ++ ys) (length xs + i) ≡ Some x
  behind_it [] ys x i e = let same : i ≡ 0 + i = omega arith in subst (λ (j : ℕ). slice_get ys j ≡ Some x) same e
  behind_it (y ∷ xs) ys x i e =
      let same : suc (length xs + i) ≡ length (y ∷ xs) + i = omega arith in
      subst (λ (j : ℕ). slice_get (y ∷ (xs ++ ys)) j ≡ Some x) same (behind_it xs ys x i e)

  pub before_it : (xs ys : List A) (x : A) (i : ℕ) → slice_get xs i ≡ Some x → slice_get (xs ++ ys) i ≡ Some x
  before_it [] ys x i e = absurd (none-some x e)
  before_it (y ∷ xs) ys x zero e = e
  before_it (y ∷ xs) ys x (suc i) e = before_it xs ys x i e

  -- a place in the list with one more is one of the list, or the last
  pub one_of : (xs : List A) (y x : A) (i : ℕ) → slice_get (xs ++ y ∷ []) i ≡ Some x → (slice_get xs i ≡ Some x) ⊎ ((i ≡ length xs) × (y ≡ x))
  one_of [] y x zero e = inr (refl, same_Some y x e)
  one_of [] y x (suc i) e = absurd (none-some x e)
  one_of (z ∷ xs) y x zero e = inl e
  one_of (z ∷ xs) y x (suc i) e = go (one_of xs y x i e)
    where
      go : (slice_get xs i ≡ Some x) ⊎ ((i ≡ length xs) × (y ≡ x)) → (slice_get xs i ≡ Some x) ⊎ ((suc i ≡ suc (length xs)) × (y ≡ x))
      go (inl h) = inl h
      go (inr h) = inr (ap (λ (n : ℕ). suc n) h.0, h.1)

-- ---- lists without repetitions

pub apart_join : (xs ys : List ℕ) → Apart xs → Apart ys → ((n : ℕ) → In xs n → In ys n → ⊥) → Apart (xs ++ ys)
apart_join [] ys h k other = k
apart_join (x ∷ xs) ys h k other = (not_there, apart_join xs ys h.1 k (λ n at to. other n (suc at.0, at.1) to))
  where
    not_there : In (xs ++ ys) x → ⊥
    not_there at = go (in_either xs ys x at)
      where
        go : In xs x ⊎ In ys x → ⊥
        go (inl at) = h.0 at
        go (inr at) = other x (zero, refl) at

-- the first of the back isn't in the front
pub apart_middle : (xs : List ℕ) (y : ℕ) (ys : List ℕ) → Apart (xs ++ y ∷ ys) → In xs y → ⊥
apart_middle [] y ys h (i, e) = absurd (none-some y e)
apart_middle (x ∷ xs) y ys h (zero, e) = h.0 (subst (λ (n : ℕ). In (xs ++ y ∷ ys) n) (sym (same_Some x y e)) (in_back xs (y ∷ ys) y (zero, refl)))
apart_middle (x ∷ xs) y ys h (suc i, e) = apart_middle xs y ys h.1 (i, e)

pub apart_once : (ns : List ℕ) → Apart ns → (i j n : ℕ) → slice_get ns i ≡ Some n → slice_get ns j ≡ Some n → i ≡ j
apart_once [] h i j n a b = absurd (none-some n a)
apart_once (m ∷ ns) h zero zero n a b = refl
apart_once (m ∷ ns) h zero (suc j) n a b = absurd (h.0 (j, b ∙ sym a))
apart_once (m ∷ ns) h (suc i) zero n a b = absurd (h.0 (i, a ∙ sym b))
apart_once (m ∷ ns) h (suc i) (suc j) n a b = ap (λ (k : ℕ). suc k) (apart_once ns h.1 i j n a b)

-- ids that give back their places
pub apart_told : (place : ℕ → Option ℕ) (k : ℕ) (ns : List ℕ) → ((i n : ℕ) → slice_get ns i ≡ Some n → place n ≡ Some (k + i)) → Apart ns
apart_told place k [] h = tt
apart_told place k (n ∷ ns) h = (twice, apart_told place (suc k) ns (λ i m e. let same : k + suc i ≡ suc k + i = omega arith in h (suc i) m e ∙ ap (λ (j : ℕ). Some j) same))
  where
    twice : In ns n → ⊥
    twice (i, e) = let same : k + 0 ≡ k + suc i = same_Some (k + 0) (k + suc i) (sym (h zero n refl) ∙ h (suc i) n e) in omega (arith, same)

given_one : (F : ℕ → Option ℕ) (k n : ℕ) (ks : List ℕ) (o : Option ℕ) → F k ≡ o → (In (filter_map F ks) n → (j : ℕ) × In ks j × (F j ≡ Some n)) → In (cons_option o (filter_map F ks)) n
    → (j : ℕ) × In (k ∷ ks) j × (F j ≡ Some n)
given_one F k n ks None is rest at = let h = rest at in (h.0, in_later k h.0 ks h.1, h.2)
given_one F k n ks (Some m) is rest (zero, e) = (k, (zero, refl), is ∙ e)
given_one F k n ks (Some m) is rest (suc i, e) = let h = rest (i, e) in (h.0, in_later k h.0 ks h.1, h.2)

pub given_in : (F : ℕ → Option ℕ) (ks : List ℕ) (n : ℕ) → In (filter_map F ks) n → (k : ℕ) × In ks k × (F k ≡ Some n)
given_in F [] n (i, e) = absurd (none-some n e)
given_in F (k ∷ ks) n at = given_one F k n ks (F k) refl (λ at. given_in F ks n at) at

apart_one : (F : ℕ → Option ℕ) (k : ℕ) (ks : List ℕ) → (In ks k → ⊥) → ((i j n : ℕ) → F i ≡ Some n → F j ≡ Some n → i ≡ j) → Apart (filter_map F ks) → (o : Option ℕ) → F k ≡ o → Apart (cons_option o (filter_map F ks))
apart_one F k ks first one rest None is = rest
apart_one F k ks first one rest (Some n) is = (λ at. let h = given_in F ks n at in first (subst (λ (j : ℕ). In ks j) (one h.0 k n h.2 is) h.1), rest)

-- what different ones give is different
pub apart_given : (F : ℕ → Option ℕ) (ks : List ℕ) → Apart ks → ((i j n : ℕ) → F i ≡ Some n → F j ≡ Some n → i ≡ j) → Apart (filter_map F ks)
apart_given F [] h one = tt
apart_given F (k ∷ ks) h one = apart_one F k ks h.0 one (apart_given F ks h.1 one) (F k) refl

pub in_given : {A : Type 0} (F : ℕ → Option A) (ks : List ℕ) (k : ℕ) (x : A) → In ks k → F k ≡ Some x → In (filter_map F ks) x
in_given F [] k x (i, e) is = absurd (none-some k e)
in_given {A} F (j ∷ ks) k x (zero, e) is = subst (λ (o : Option A). In (cons_option o (filter_map F ks)) x) (sym (ap F (same_Some j k e) ∙ is)) (zero, refl)
in_given {A} F (j ∷ ks) k x (suc i, e) is = past (F j) (in_given F ks k x (i, e) is)
  where
    past : (o : Option A) → In (filter_map F ks) x → In (cons_option o (filter_map F ks)) x
    past None h = h
    past (Some y) h = in_later y x (filter_map F ks) h

-- ---- they rise

pub rise_lower : (k j : ℕ) (ns : List ℕ) → k ≤ j → RiseFrom j ns → RiseFrom k ns
rise_lower k j [] le h = tt
rise_lower k j (n ∷ ns) le h = (let low : j ≤ n = h.0 in omega (arith, le, low), h.1)

pub rise_least : (k : ℕ) (ns : List ℕ) → RiseFrom k ns → (i n : ℕ) → slice_get ns i ≡ Some n → k ≤ n
rise_least k [] h i n e = absurd (none-some n e)
rise_least k (m ∷ ns) h zero n e = let same : m ≡ n = same_Some m n e in omega (arith, same, h.0)
rise_least k (m ∷ ns) h (suc i) n e = let more : suc m ≤ n = rise_least (suc m) ns h.1 i n e in omega (arith, more, h.0)

pub rises : (k : ℕ) (ns : List ℕ) → RiseFrom k ns → Rise ns
rises k [] h i j a b lt e f = absurd (none-some a e)
rises k (m ∷ ns) h zero zero a b lt e f = absurd (omega (arith, lt))
rises k (m ∷ ns) h zero (suc j) a b lt e f = let same : m ≡ a = same_Some m a e in let more : suc m ≤ b = rise_least (suc m) ns h.1 j b f in omega (arith, same, more)
rises k (m ∷ ns) h (suc i) zero a b lt e f = absurd (omega (arith, lt))
rises k (m ∷ ns) h (suc i) (suc j) a b lt e f = rises (suc m) ns h.1 i j a b (omega (arith, lt)) e f

pub rise_apart : (k : ℕ) (ns : List ℕ) → RiseFrom k ns → Apart ns
rise_apart k [] h = tt
rise_apart k (m ∷ ns) h = (λ at. let more : suc m ≤ m = rise_least (suc m) ns h.1 at.0 m at.1 in absurd (omega (arith, more)), rise_apart (suc m) ns h.1)

-- ---- those that pass a test

module _ (test : ℕ → Bool) where
  pub in_filter : (ns : List ℕ) (n : ℕ) → In ns n → test n ≡ true → In (filter test ns) n
  in_filter [] n (i, e) pass = absurd (none-some n e)
  in_filter (m ∷ ns) n (zero, e) pass = subst (λ (b : Bool). In (cond b (m ∷ filter test ns) (filter test ns)) n) (sym (ap test (same_Some m n e) ∙ pass)) (zero, e)
  in_filter (m ∷ ns) n (suc i, e) pass = past (test m) (in_filter ns n (i, e) pass)
    where
      past : (b : Bool) → In (filter test ns) n → In (cond b (m ∷ filter test ns) (filter test ns)) n
      past true h = in_later m n (filter test ns) h
      past false h = h

  filter_one : (m : ℕ) (ns : List ℕ) (n : ℕ) (b : Bool) → test m ≡ b → (In (filter test ns) n → In ns n × (test n ≡ true)) → In (cond b (m ∷ filter test ns) (filter test ns)) n → In (m ∷ ns) n × (test n ≡ true)
  filter_one m ns n false is rest at = let h = rest at in (in_later m n ns h.0, h.1)
  filter_one m ns n true is rest (zero, e) = ((zero, e), sym (ap test (same_Some m n e)) ∙ is)
  filter_one m ns n true is rest (suc i, e) = let h = rest (i, e) in (in_later m n ns h.0, h.1)

  pub filter_in : (ns : List ℕ) (n : ℕ) → In (filter test ns) n → In ns n × (test n ≡ true)
  filter_in [] n (i, e) = absurd (none-some n e)
  filter_in (m ∷ ns) n at = filter_one m ns n (test m) refl (λ at. filter_in ns n at) at

  rises_one : (k m : ℕ) (ns : List ℕ) (b : Bool) → k ≤ m → RiseFrom (suc m) ns → RiseFrom k (cond b (m ∷ ns) ns)
  rises_one k m ns true le h = (le, h)
  rises_one k m ns false le h = rise_lower k (suc m) ns (omega (arith, le)) h

  pub filter_rises : (k : ℕ) (ns : List ℕ) → RiseFrom k ns → RiseFrom k (filter test ns)
  filter_rises k [] h = tt
  filter_rises k (m ∷ ns) h = rises_one k m (filter test ns) (test m) h.0 (filter_rises (suc m) ns h.1)
