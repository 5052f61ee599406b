-- Lists of hashed ids in order, around one of them.
use Rattle.std.proofs.Common.{◌≡◌, ◌∙◌, ℕ, ◌<◌, ◌==◌, Bool, true, false, cond, not, List, [], ◌∷◌, ◌++◌, filter, find, slice_index_or, Bor, Option, Some, None, inl, inr, refl, sym, ap, subst, Ordering, Less, Equal, Greater, eq-eqb}
use Rattle.std.specs.Ordering.{ordering_then, ordering_reverse, bool_cmp, nat_cmp, MatchOrdering, is_gt, is_lt, is_eq}
use Rattle.std.specs.Option.{option_or, option_map, option_map_or, option_copied}
use Rattle.std.proofs.Math.ListN.{get_or-map}
use Rattle.walrus_items.specs.declared.subtype.Type.{«Type» as TypeItem}
use Rattle.walrus_items.specs.Items.{kind_of}
use Rattle.std.specs.List.{AllByRecursion}
use Rattle.std.specs.List.Sorted.{IsStrictlySortedBy}
use Rattle.std.specs.Cmp.{IsTotalOrder, upto, tied_itself, nat_cmp_total}
use Rattle.std.proofs.lemmas.Bool.{cases_Bool, false≢true, eqb-true}
use Rattle.std.proofs.lemmas.List.Elements.{filter-append}
use Rattle.std.proofs.lemmas.List.Folds.{find-append}
use Rattle.walrus_items.specs.walrus_forms.Kinds.{Kind}
use Rattle.walrus_items.specs.walrus_forms.Order.{kind_cmp}
use Rattle.walrus_type_index.specs.Places.{Hashed, kinds_in, names_itself, place_of, place_at, place_cmp, id_cmp, hashed_cmp, hashed_at, is_tied, key_cmp, wanted_cmp, is_before, is_upto, is_exactly, last_in, last_at, last_of, put_in}
use Rattle.walrus_type_index.specs.Hashes.{hash_of, hash_at}
use Rattle.walrus_type_index.specs.Ordered.{IsIndex}
use Rattle.walrus_type_index.proofs.KindTotal.{hashed_ids, spot_cmp, spots}
use Rattle.walrus_type_index.proofs.Tied.{tied}

abbrev pub Sorted : List (Option Kind) → List Hashed → Type 0
Sorted ks xs = IsStrictlySortedBy (hashed_cmp ks) xs

pub all-front : (P : Hashed → Type 0) (l m : List Hashed) → AllByRecursion P (l ++ m) → AllByRecursion P l
all-front P [] m a = tt
all-front P (x ∷ l) m a = (a.0, all-front P l m a.1)

all-mid : (P : Hashed → Type 0) (l : List Hashed) (k : Hashed) (r : List Hashed) → AllByRecursion P (l ++ k ∷ r) → P k
all-mid P [] k r a = a.0
all-mid P (x ∷ l) k r a = all-mid P l k r a.1

pub all-map : (P Q : Hashed → Type 0) → ((x : Hashed) → P x → Q x) → (xs : List Hashed) → AllByRecursion P xs → AllByRecursion Q xs
all-map P Q f [] a = tt
all-map P Q f (x ∷ xs) a = (f x a.0, all-map P Q f xs a.1)

pub sorted-front : (c : Hashed → Hashed → Ordering) (l m : List Hashed) → IsStrictlySortedBy c (l ++ m) → IsStrictlySortedBy c l
unfolding IsStrictlySortedBy
sorted-front c [] m s = tt
sorted-front c (x ∷ l) m s = (all-front (λ y. c x y ≡ Less) l m s.0, sorted-front c l m s.1)

pub sorted-back : (c : Hashed → Hashed → Ordering) (l : List Hashed) (k : Hashed) (r : List Hashed) → IsStrictlySortedBy c (l ++ k ∷ r) → IsStrictlySortedBy c r
unfolding IsStrictlySortedBy
sorted-back c [] k r s = s.1
sorted-back c (x ∷ l) k r s = sorted-back c l k r s.1

before-mid : (c : Hashed → Hashed → Ordering) (l : List Hashed) (k : Hashed) (r : List Hashed) → IsStrictlySortedBy c (l ++ k ∷ r) → AllByRecursion (λ x. c x k ≡ Less) l
unfolding IsStrictlySortedBy
before-mid c [] k r s = tt
before-mid c (x ∷ l) k r s = (all-mid (λ y. c x y ≡ Less) l k r s.0, before-mid c l k r s.1)

after-mid : (c : Hashed → Hashed → Ordering) (l : List Hashed) (k : Hashed) (r : List Hashed) → IsStrictlySortedBy c (l ++ k ∷ r) → AllByRecursion (λ y. c k y ≡ Less) r
unfolding IsStrictlySortedBy
after-mid c [] k r s = s.0
after-mid c (x ∷ l) k r s = after-mid c l k r s.1

less-is : (o : Ordering) → is_lt o ≡ true → o ≡ Less
less-is Less e = refl
less-is Equal e = absurd (false≢true e)
less-is Greater e = absurd (false≢true e)

eq-is : (o : Ordering) → is_eq o ≡ true → o ≡ Equal
eq-is Less e = absurd (false≢true e)
eq-is Equal e = refl
eq-is Greater e = absurd (false≢true e)

less-equal : Less ≡ Equal → ⊥
less-equal e = false≢true (ap is_eq e)

less-greater : Less ≡ Greater → ⊥
less-greater e = false≢true (ap is_gt e)

pub then-first : (o p : Ordering) → ordering_then o p ≡ Equal → o ≡ Equal
then-first Less p e = e
then-first Equal p e = refl
then-first Greater p e = e

-- putting
pub put-step : (b : Bool) (new x : Hashed) (t u m v : List Hashed) → v ≡ u ++ m → cond b (new ∷ x ∷ (t ++ m)) (x ∷ v) ≡ cond b (new ∷ x ∷ t) (x ∷ u) ++ m
put-step true new x t u m v e = refl
put-step false new x t u m v e = ap (λ (zs : List Hashed). x ∷ zs) e

pub put-left : (test : Hashed → Bool) (new : Hashed) (l : List Hashed) (k : Hashed) (r : List Hashed) → test k ≡ true → put_in test new (l ++ k ∷ r) ≡ put_in test new l ++ k ∷ r
put-left test new [] k r hit = ap (λ (b : Bool). cond b (new ∷ k ∷ r) (k ∷ put_in test new r)) hit
put-left test new (x ∷ l) k r hit = put-step (test x) new x l (put_in test new l) (k ∷ r) (put_in test new (l ++ k ∷ r)) (put-left test new l k r hit)

put-past : (test : Hashed → Bool) (new : Hashed) (l : List Hashed) (k : Hashed) (r : List Hashed) → AllByRecursion (λ x. test x ≡ false) l → test k ≡ false
    → put_in test new (l ++ k ∷ r) ≡ l ++ k ∷ put_in test new r
put-past test new [] k r none no_it = ap (λ (b : Bool). cond b (new ∷ k ∷ r) (k ∷ put_in test new r)) no_it
put-past test new (x ∷ l) k r none no_it =
    ap (λ (b : Bool). cond b (new ∷ x ∷ (l ++ k ∷ r)) (x ∷ put_in test new (l ++ k ∷ r))) none.0 ∙ ap (λ (zs : List Hashed). x ∷ zs) (put-past test new l k r none.1 no_it)

not-before : (c : Hashed → Hashed → Ordering) (o : IsTotalOrder c) (new x k : Hashed) → is_lt (c new k) ≡ false → c x k ≡ Less → is_lt (c new x) ≡ false
not-before c o new x k past less = elim (cases_Bool (is_lt (c new x))) as (λ _. is_lt (c new x) ≡ false) [
  | inl hit ↦ absurd (false≢true (sym past ∙ ap is_lt (o.trans new x k (less-is (c new x) hit) less)))
  | inr no_it ↦ no_it
]

pub put-right : (ks : List (Option Kind)) (new : Hashed) (l : List Hashed) (k : Hashed) (r : List Hashed) → Sorted ks (l ++ k ∷ r) → is_before ks new k ≡ false
    → put_in (is_before ks new) new (l ++ k ∷ r) ≡ l ++ k ∷ put_in (is_before ks new) new r
put-right ks new l k r s past =
    put-past (is_before ks new) new l k r
    (all-map (λ x. hashed_cmp ks x k ≡ Less) (λ x. is_before ks new x ≡ false) (λ x less. not-before (hashed_cmp ks) (hashed_ids ks) new x k past less) l (before-mid (hashed_cmp ks) l k r s)) past

-- looking
pub last-right : (test : Hashed → Bool) (l : List Hashed) (k : Hashed) (r : List Hashed) (found : Option Hashed) → test k ≡ true → last_at test found (l ++ k ∷ r) ≡ last_at test (Some k) r
last-right test [] k r found hit = ap (λ (b : Bool). last_at test (cond b (Some k) found) r) hit
last-right test (x ∷ l) k r found hit = last-right test l k r (cond (test x) (Some x) found) hit

-- the one that is found has the last id that passes
ids-step : (b : Bool) (x : Hashed) (found : Option Hashed) → option_map (λ h. h.id) (cond b (Some x) found) ≡ cond b (Some x.id) (option_map (λ h. h.id) found)
ids-step true x found = refl
ids-step false x found = refl

pub last-ids : (test : Hashed → Bool) (found : Option Hashed) (xs : List Hashed) → option_map (λ h. h.id) (last_at test found xs) ≡ last_in test (option_map (λ h. h.id) found) xs
last-ids test found [] = refl
last-ids test found (x ∷ xs) = last-ids test (cond (test x) (Some x) found) xs ∙ ap (λ (o : Option ℕ). last_in test o xs) (ids-step (test x) x found)

-- what holds of all holds of the one that is found
holds-step : (P : Hashed → Type 0) (b : Bool) (x : Hashed) (found : Option Hashed) → P x → ((y : Hashed) → found ≡ Some y → P y) → (y : Hashed) → cond b (Some x) found ≡ Some y → P y
holds-step P true x found it f y e = subst P (ap (λ (o : Option Hashed). option_map_or (λ h. h) o x) e) it
holds-step P false x found it f y e = f y e

pub last-holds : (P : Hashed → Type 0) (test : Hashed → Bool) (found : Option Hashed) (xs : List Hashed) → AllByRecursion P xs → ((y : Hashed) → found ≡ Some y → P y)
    → (y : Hashed) → last_at test found xs ≡ Some y → P y
last-holds P test found [] a f = f
last-holds P test found (x ∷ xs) a f = last-holds P test (cond (test x) (Some x) found) xs a.1 (holds-step P (test x) x found a.0 f)

pub last-none : (test : Hashed → Bool) (found : Option ℕ) (xs : List Hashed) → AllByRecursion (λ x. test x ≡ false) xs → last_in test found xs ≡ found
last-none test found [] none = refl
last-none test found (x ∷ xs) none = ap (λ (b : Bool). last_in test (cond b (Some x.id) found) xs) none.0 ∙ last-none test found xs none.1

last_at-none : (test : Hashed → Bool) (found : Option Hashed) (xs : List Hashed) → AllByRecursion (λ x. test x ≡ false) xs → last_at test found xs ≡ found
last_at-none test found [] none = refl
last_at-none test found (x ∷ xs) none = ap (λ (b : Bool). last_at test (cond b (Some x) found) xs) none.0 ∙ last_at-none test found xs none.1

last-past : (test : Hashed → Bool) (l : List Hashed) (k : Hashed) (r : List Hashed) (found : Option Hashed) → test k ≡ false → AllByRecursion (λ x. test x ≡ false) r
    → last_at test found (l ++ k ∷ r) ≡ last_at test found l
last-past test [] k r found no_it none = last_at-none test found (k ∷ r) (no_it, none)
last-past test (x ∷ l) k r found no_it none = last-past test l k r (cond (test x) (Some x) found) no_it none

then-less : (o p q : Ordering) → ordering_then o (ordering_then p q) ≡ Less → is_gt (ordering_then o p) ≡ false
then-less Less p q e = refl
then-less Equal Less q e = refl
then-less Equal Equal q e = refl
then-less Equal Greater q e = absurd (less-greater (sym e))
then-less Greater p q e = absurd (less-greater (sym e))

-- a hash and a place
abbrev pub spot : List (Option Kind) → Hashed → ℕ × (Option Kind × Bool)
spot ks x = (x.hash, place_at ks x.id)

spots-rise : (ks : List (Option Kind)) (x y : Hashed) → hashed_cmp ks x y ≡ Less → is_gt (spot_cmp (spot ks x) (spot ks y)) ≡ false
spots-rise ks x y less = then-less (nat_cmp x.hash y.hash) (place_cmp (place_at ks x.id) (place_at ks y.id)) (nat_cmp x.id y.id) less

later-past : (ks : List (Option Kind)) (hash : ℕ) (kind : Kind) (own : Bool) (k y : Hashed) → is_gt (wanted_cmp ks hash kind own k) ≡ true → hashed_cmp ks k y ≡ Less
    → is_gt (wanted_cmp ks hash kind own y) ≡ true
later-past ks hash kind own k y past less = elim (cases_Bool (is_gt (wanted_cmp ks hash kind own y))) as (λ _. is_gt (wanted_cmp ks hash kind own y) ≡ true) [
  | inl hit ↦ hit
  | inr no_it ↦ absurd (false≢true (sym (upto spots (spot ks k) (spot ks y) (hash, (Some kind, own)) (spots-rise ks k y less) no_it) ∙ past))
]

pub last-left : (ks : List (Option Kind)) (hash : ℕ) (kind : Kind) (own : Bool) (l : List Hashed) (k : Hashed) (r : List Hashed) (found : Option Hashed) → Sorted ks (l ++ k ∷ r)
    → is_gt (wanted_cmp ks hash kind own k) ≡ true → last_at (is_upto ks hash kind own) found (l ++ k ∷ r) ≡ last_at (is_upto ks hash kind own) found l
last-left ks hash kind own l k r found s past =
    last-past (is_upto ks hash kind own) l k r found (ap not past)
    (all-map (λ y. hashed_cmp ks k y ≡ Less) (λ y. is_upto ks hash kind own y ≡ false) (λ y less. ap not (later-past ks hash kind own k y past less)) r (after-mid (hashed_cmp ks) l k r s))

-- taking out the one that ties
pub or-none : (o : Option Hashed) → option_or o None ≡ o
or-none None = refl
or-none (Some x) = refl

-- what is left of the whole, and which is taken out
pub record Split (hit : Hashed → Bool) (whole left : List Hashed) (which : Option Hashed) : Type 0 where
  pub rest : filter (λ x. not (hit x)) whole ≡ left
  pub found : find hit whole ≡ which

pub all-stay : (hit : Hashed → Bool) (xs : List Hashed) → AllByRecursion (λ x. hit x ≡ false) xs → Split hit xs xs None
all-stay hit [] none = record { rest = refl; found = refl }
all-stay hit (x ∷ xs) none =
    let behind = all-stay hit xs none.1 in
    record {
      rest = ap (λ (b : Bool). cond (not b) (x ∷ filter (λ y. not (hit y)) xs) (filter (λ y. not (hit y)) xs)) none.0 ∙ ap (λ (zs : List Hashed). x ∷ zs) behind.rest;
      found = ap (λ (b : Bool). cond b (Some x) (find hit xs)) none.0 ∙ behind.found;
    }

-- it is before, behind or at the middle
pub split-left : (hit : Hashed → Bool) (l : List Hashed) (k : Hashed) (r : List Hashed) → AllByRecursion (λ x. hit x ≡ false) (k ∷ r)
    → Split hit (l ++ k ∷ r) (filter (λ x. not (hit x)) l ++ k ∷ r) (find hit l)
split-left hit l k r none =
    let behind = all-stay hit (k ∷ r) none in
    record {
      rest = filter-append (λ x. not (hit x)) l (k ∷ r) ∙ ap (λ (zs : List Hashed). filter (λ x. not (hit x)) l ++ zs) behind.rest;
      found = find-append hit l (k ∷ r) ∙ ap (option_or (find hit l)) behind.found ∙ or-none (find hit l);
    }

pub split-right : (hit : Hashed → Bool) (l r : List Hashed) → AllByRecursion (λ x. hit x ≡ false) l → Split hit (l ++ r) (l ++ filter (λ x. not (hit x)) r) (find hit r)
split-right hit l r none =
    let before = all-stay hit l none in
    record {
      rest = filter-append (λ x. not (hit x)) l r ∙ ap (λ (zs : List Hashed). zs ++ filter (λ x. not (hit x)) r) before.rest;
      found = find-append hit l r ∙ ap (λ (o : Option Hashed). option_or o (find hit r)) before.found;
    }

-- x is at k or behind it, and y before
earlier-apart : (ks : List (Option Kind)) (x k y : Hashed) → is_lt (hashed_cmp ks x k) ≡ false → hashed_cmp ks y k ≡ Less → is_tied ks x y ≡ false
earlier-apart ks x k y past less = elim (cases_Bool (is_tied ks x y)) as (λ _. is_tied ks x y ≡ false) [
  | inl same ↦ absurd (false≢true (sym past ∙ ap is_lt ((hashed_ids ks).congr x y k (eq-is (hashed_cmp ks x y) same) ∙ less)))
  | inr other ↦ other
]

-- x is at k or before it, and y behind
later-apart : (ks : List (Option Kind)) (x k y : Hashed) → is_gt (hashed_cmp ks x k) ≡ false → hashed_cmp ks k y ≡ Less → is_tied ks x y ≡ false
later-apart ks x k y upto_it less = elim (cases_Bool (is_tied ks x y)) as (λ _. is_tied ks x y ≡ false) [
  | inl same ↦
      let o = hashed_ids ks in
      let more : hashed_cmp ks x k ≡ Greater = o.congr x y k (eq-is (hashed_cmp ks x y) same) ∙ o.antisymm y k ∙ ap ordering_reverse less in
      absurd (false≢true (sym upto_it ∙ ap is_gt more))
  | inr other ↦ other
]

before-apart : (ks : List (Option Kind)) (x : Hashed) (l : List Hashed) (k : Hashed) (r : List Hashed) → Sorted ks (l ++ k ∷ r) → is_lt (hashed_cmp ks x k) ≡ false
    → AllByRecursion (λ y. is_tied ks x y ≡ false) l
before-apart ks x l k r s past = all-map (λ y. hashed_cmp ks y k ≡ Less) (λ y. is_tied ks x y ≡ false) (λ y up. earlier-apart ks x k y past up) l (before-mid (hashed_cmp ks) l k r s)

behind-apart : (ks : List (Option Kind)) (x : Hashed) (l : List Hashed) (k : Hashed) (r : List Hashed) → Sorted ks (l ++ k ∷ r) → is_gt (hashed_cmp ks x k) ≡ false
    → AllByRecursion (λ y. is_tied ks x y ≡ false) r
behind-apart ks x l k r s upto_it = all-map (λ y. hashed_cmp ks k y ≡ Less) (λ y. is_tied ks x y ≡ false) (λ y up. later-apart ks x k y upto_it up) r (after-mid (hashed_cmp ks) l k r s)

pub take-left : (ks : List (Option Kind)) (x : Hashed) (l : List Hashed) (k : Hashed) (r : List Hashed) → Sorted ks (l ++ k ∷ r) → hashed_cmp ks x k ≡ Less
    → Split (is_tied ks x) (l ++ k ∷ r) (filter (λ y. not (is_tied ks x y)) l ++ k ∷ r) (find (is_tied ks x) l)
take-left ks x l k r s less = split-left (is_tied ks x) l k r (ap is_eq less, behind-apart ks x l k r s (ap is_gt less))

pub take-right : (ks : List (Option Kind)) (x : Hashed) (l : List Hashed) (k : Hashed) (r : List Hashed) → Sorted ks (l ++ k ∷ r) → hashed_cmp ks x k ≡ Greater
    → Split (is_tied ks x) (l ++ k ∷ r) (l ++ k ∷ filter (λ y. not (is_tied ks x y)) r) (find (is_tied ks x) r)
take-right ks x l k r s more =
    let hit = is_tied ks x in
    let split = split-right hit l (k ∷ r) (before-apart ks x l k r s (ap is_lt more)) in
    let here : hit k ≡ false = ap is_eq more in
    record {
      rest = split.rest ∙ ap (λ (b : Bool). l ++ cond (not b) (k ∷ filter (λ y. not (hit y)) r) (filter (λ y. not (hit y)) r)) here;
      found = split.found ∙ ap (λ (b : Bool). cond b (Some k) (find hit r)) here;
    }

pub take-here : (ks : List (Option Kind)) (x : Hashed) (l : List Hashed) (k : Hashed) (r : List Hashed) → Sorted ks (l ++ k ∷ r) → hashed_cmp ks x k ≡ Equal
    → Split (is_tied ks x) (l ++ k ∷ r) (l ++ r) (Some k)
take-here ks x l k r s tied =
    let hit = is_tied ks x in
    let split = split-right hit l (k ∷ r) (before-apart ks x l k r s (ap is_lt tied)) in
    let here : hit k ≡ true = ap is_eq tied in
    let behind = all-stay hit r (behind-apart ks x l k r s (ap is_gt tied)) in
    record {
      rest = split.rest ∙ ap (λ (b : Bool). l ++ cond (not b) (k ∷ filter (λ y. not (hit y)) r) (filter (λ y. not (hit y)) r)) here ∙ ap (λ (zs : List Hashed). l ++ zs) behind.rest;
      found = split.found ∙ ap (λ (b : Bool). cond b (Some k) (find hit r)) here;
    }

then-tied : (o p : Ordering) → ordering_then o p ≡ Equal → p ≡ Equal
then-tied Less p e = absurd (less-equal e)
then-tied Equal p e = e
then-tied Greater p e = absurd (false≢true (sym (ap is_gt e)))

pub number-tied : (a b : ℕ) → nat_cmp a b ≡ Equal → a ≡ b
number-tied a b e = subst (λ (o : Ordering). MatchOrdering o (a < b) (a ≡ b) (b < a)) e (Rattle.std.specs.Cmp.ranks a b)

-- hashed ids that tie have one id
pub ids-tied : (ks : List (Option Kind)) (x y : Hashed) → hashed_cmp ks x y ≡ Equal → x.id ≡ y.id
ids-tied ks x y tied =
    number-tied x.id y.id (then-tied (place_cmp (place_at ks x.id) (place_at ks y.id)) (nat_cmp x.id y.id) (then-tied (nat_cmp x.hash y.hash) (id_cmp ks x.id y.id) tied))

-- where hashes are right, the one that ties has the id
tied-at : (ks : List (Option Kind)) (id : ℕ) (x : Hashed) → x.hash ≡ hash_at ks x.id → is_tied ks (hashed_at ks id) x ≡ (x.id == id)
tied-at ks id x right = elim (cases_Bool (x.id == id)) as (λ _. is_tied ks (hashed_at ks id) x ≡ (x.id == id)) [
  | inl same ↦
      let it : x.id ≡ id = eqb-true x.id id same in
      let tied : hashed_cmp ks (hashed_at ks id) x ≡ Equal =
      ap (λ (k : ℕ). hashed_cmp ks (hashed_at ks k) x) (sym it) ∙ ap (λ (k : ℕ). ordering_then (nat_cmp (hash_at ks x.id) k) (id_cmp ks x.id x.id)) right ∙ tied_itself (hashed_ids ks) (hashed_at ks x.id) in
      ap is_eq tied ∙ sym same
  | inr other ↦ elim (cases_Bool (is_tied ks (hashed_at ks id) x)) as (λ _. is_tied ks (hashed_at ks id) x ≡ (x.id == id)) [
    | inl tied ↦ absurd (false≢true (sym other ∙ eq-eqb x.id id (sym (ids-tied ks (hashed_at ks id) x (eq-is (hashed_cmp ks (hashed_at ks id) x) tied)))))
    | inr apart ↦ apart ∙ sym other
  ]
]

-- tests that agree on a list
filter-same : (p q : Hashed → Bool) (xs : List Hashed) → AllByRecursion (λ x. p x ≡ q x) xs → filter (λ x. not (p x)) xs ≡ filter (λ x. not (q x)) xs
filter-same p q [] same = refl
filter-same p q (x ∷ xs) same =
    ap (λ (b : Bool). cond (not b) (x ∷ filter (λ y. not (p y)) xs) (filter (λ y. not (p y)) xs)) same.0
    ∙ ap (λ (zs : List Hashed). cond (not (q x)) (x ∷ zs) zs) (filter-same p q xs same.1)

find-same : (p q : Hashed → Bool) (xs : List Hashed) → AllByRecursion (λ x. p x ≡ q x) xs → find p xs ≡ find q xs
find-same p q [] same = refl
find-same p q (x ∷ xs) same = ap (λ (b : Bool). cond b (Some x) (find p xs)) same.0 ∙ ap (λ (o : Option Hashed). cond (q x) (Some x) o) (find-same p q xs same.1)

all-tied : (ks : List (Option Kind)) (id : ℕ) (xs : List Hashed) (wanted : Hashed) → AllByRecursion (λ x. x.hash ≡ hash_at ks x.id) xs → wanted ≡ hashed_at ks id
    → AllByRecursion (λ x. is_tied ks wanted x ≡ (x.id == id)) xs
all-tied ks id xs wanted right is =
    all-map (λ x. x.hash ≡ hash_at ks x.id) (λ x. is_tied ks wanted x ≡ (x.id == id)) (λ x e. ap (λ (w : Hashed). is_tied ks w x) is ∙ tied-at ks id x e) xs right

pub left-at : (ks : List (Option Kind)) (id : ℕ) (xs : List Hashed) (wanted : Hashed) → AllByRecursion (λ x. x.hash ≡ hash_at ks x.id) xs → wanted ≡ hashed_at ks id
    → filter (λ x. not (is_tied ks wanted x)) xs ≡ filter (λ x. not (x.id == id)) xs
left-at ks id xs wanted right is = filter-same (is_tied ks wanted) (λ x. x.id == id) xs (all-tied ks id xs wanted right is)

pub found-at : (ks : List (Option Kind)) (id : ℕ) (xs : List Hashed) (wanted : Hashed) → AllByRecursion (λ x. x.hash ≡ hash_at ks x.id) xs → wanted ≡ hashed_at ks id
    → find (is_tied ks wanted) xs ≡ find (λ x. x.id == id) xs
found-at ks id xs wanted right is = find-same (is_tied ks wanted) (λ x. x.id == id) xs (all-tied ks id xs wanted right is)

-- the last of just one kind is the last that is no later, if it is of that kind
abbrev pub if_exact : List (Option Kind) → Kind → Bool → Option ℕ → Option ℕ
if_exact ks kind own None = None
if_exact ks kind own (Some x) = cond (is_exactly ks kind own x) (Some x) None

-- what is looked at
copied : (r : Option (Bor TypeItem)) → option_map (λ (t : Bor TypeItem). kind_of t.now) r ≡ option_map kind_of (option_copied r)
copied None = refl
copied (Some t) = refl

pub kind-seen : (r : Option (Bor TypeItem)) (slots : List (Option TypeItem)) (id : ℕ) → option_copied r ≡ slice_index_or slots id None
    → option_map (λ (t : Bor TypeItem). kind_of t.now) r ≡ slice_index_or (kinds_in slots) id None
kind-seen r slots id is = copied r ∙ ap (option_map kind_of) is ∙ sym (get_or-map (option_map kind_of) slots id None)

less-left : (o : Ordering) → is_gt o ≡ false → is_eq o ≡ false → o ≡ Less
less-left Less e f = refl
less-left Equal e f = absurd (false≢true (sym f))
less-left Greater e f = absurd (false≢true (sym e))

-- an id of the kind has its hash
place-hash : (id : ℕ) (slot : Option Kind) (kind : Kind) (own : Bool) → place_cmp (place_of id slot) (Some kind, own) ≡ Equal → option_map_or hash_of slot 0 ≡ hash_of kind
place-hash id None kind own e = absurd (less-equal e)
place-hash id (Some k) kind own e = ap hash_of (tied k kind (then-first (kind_cmp k kind) (bool_cmp (names_itself id k) own) e))

pub exact-wanted : (ks : List (Option Kind)) (kind : Kind) (own : Bool) (x : Hashed) → x.hash ≡ hash_at ks x.id → is_exactly ks kind own x.id ≡ true → wanted_cmp ks (hash_of kind) kind own x ≡ Equal
exact-wanted ks kind own x right hit =
    let key : key_cmp ks kind own x.id ≡ Equal = eq-is (key_cmp ks kind own x.id) hit in
    let hash : x.hash ≡ hash_of kind = right ∙ place-hash x.id (slice_index_or ks x.id None) kind own key in
    ap (λ (k : ℕ). ordering_then (nat_cmp k (hash_of kind)) (key_cmp ks kind own x.id)) hash
    ∙ ap (λ (o : Ordering). ordering_then o (key_cmp ks kind own x.id)) (tied_itself nat_cmp_total (hash_of kind))
    ∙ key

wanted-exact : (o p : Ordering) → is_gt (ordering_then o p) ≡ false → is_eq p ≡ false → ordering_then o p ≡ Less
wanted-exact Less p e f = refl
wanted-exact Equal p e f = less-left p e f
wanted-exact Greater p e f = absurd (false≢true (sym e))

-- one that is past isn't of the kind
past-inexact : (ks : List (Option Kind)) (kind : Kind) (own : Bool) (x : Hashed) → x.hash ≡ hash_at ks x.id → is_gt (wanted_cmp ks (hash_of kind) kind own x) ≡ true → is_exactly ks kind own x.id ≡ false
past-inexact ks kind own x right past = elim (cases_Bool (is_exactly ks kind own x.id)) as (λ _. is_exactly ks kind own x.id ≡ false) [
  | inl hit ↦ absurd (false≢true (sym (ap is_gt (exact-wanted ks kind own x right hit)) ∙ past))
  | inr no_it ↦ no_it
]

-- behind one that is past, all are past
past-all : (ks : List (Option Kind)) (hash : ℕ) (kind : Kind) (own : Bool) (y : Hashed) (ys : List Hashed) → Sorted ks (y ∷ ys) → is_gt (wanted_cmp ks hash kind own y) ≡ true
    → AllByRecursion (λ x. is_gt (wanted_cmp ks hash kind own x) ≡ true) (y ∷ ys)
past-all ks hash kind own y ys s past =
    (past, all-map (λ x. hashed_cmp ks y x ≡ Less) (λ x. is_gt (wanted_cmp ks hash kind own x) ≡ true) (λ x less. later-past ks hash kind own y x past less) ys (after-mid (hashed_cmp ks) [] y ys s))

all-inexact : (ks : List (Option Kind)) (kind : Kind) (own : Bool) (xs : List Hashed) → AllByRecursion (λ x. x.hash ≡ hash_at ks x.id) xs
    → AllByRecursion (λ x. is_gt (wanted_cmp ks (hash_of kind) kind own x) ≡ true) xs → AllByRecursion (λ x. is_exactly ks kind own x.id ≡ false) xs
all-inexact ks kind own [] right past = tt
all-inexact ks kind own (x ∷ xs) right past = (past-inexact ks kind own x right.0 past.0, all-inexact ks kind own xs right.1 past.1)

past-both : (ks : List (Option Kind)) (kind : Kind) (own : Bool) (f : Option ℕ) (xs : List Hashed) → AllByRecursion (λ x. x.hash ≡ hash_at ks x.id) xs
    → AllByRecursion (λ x. is_gt (wanted_cmp ks (hash_of kind) kind own x) ≡ true) xs
    → last_in (λ x. is_exactly ks kind own x.id) (if_exact ks kind own f) xs ≡ if_exact ks kind own (last_in (is_upto ks (hash_of kind) kind own) f xs)
past-both ks kind own f xs right past =
    last-none (λ x. is_exactly ks kind own x.id) (if_exact ks kind own f) xs (all-inexact ks kind own xs right past)
    ∙ ap (if_exact ks kind own) (sym (last-none (is_upto ks (hash_of kind) kind own) f xs
    (all-map (λ x. is_gt (wanted_cmp ks (hash_of kind) kind own x) ≡ true) (λ x. is_upto ks (hash_of kind) kind own x ≡ false) (λ x e. ap not e) xs past)))

-- one of the kind has none before the kind behind it
not-exact : (ks : List (Option Kind)) (kind : Kind) (own : Bool) (x y : Hashed) → x.hash ≡ hash_at ks x.id → hashed_cmp ks x y ≡ Less → wanted_cmp ks (hash_of kind) kind own y ≡ Less
    → is_exactly ks kind own x.id ≡ false
not-exact ks kind own x y right less short = elim (cases_Bool (is_exactly ks kind own x.id)) as (λ _. is_exactly ks kind own x.id ≡ false) [
  | inl hit ↦
      let z : ℕ × (Option Kind × Bool) = (hash_of kind, (Some kind, own)) in
      let turned : spot_cmp (spot ks x) (spot ks y) ≡ spot_cmp z (spot ks y) = spots.congr (spot ks x) z (spot ks y) (exact-wanted ks kind own x right hit) in
      let more : spot_cmp z (spot ks y) ≡ Greater = spots.antisymm z (spot ks y) ∙ ap ordering_reverse short in
      absurd (false≢true (sym (spots-rise ks x y less) ∙ ap is_gt (turned ∙ more)))
  | inr no_it ↦ no_it
]

step-exact : (ks : List (Option Kind)) (kind : Kind) (own : Bool) (x y : Hashed) → x.hash ≡ hash_at ks x.id → hashed_cmp ks x y ≡ Less → is_gt (wanted_cmp ks (hash_of kind) kind own y) ≡ false
    → cond (is_exactly ks kind own y.id) (Some y.id) (if_exact ks kind own (Some x.id)) ≡ if_exact ks kind own (Some y.id)
step-exact ks kind own x y right less upto_it = elim (cases_Bool (is_exactly ks kind own y.id)) as (λ _. cond (is_exactly ks kind own y.id) (Some y.id) (if_exact ks kind own (Some x.id)) ≡ if_exact ks kind own (Some y.id)) [
  | inl hit ↦ ap (λ (b : Bool). cond b (Some y.id) (if_exact ks kind own (Some x.id))) hit ∙ sym (ap (λ (b : Bool). cond b (Some y.id) None) hit)
  | inr no_it ↦
      let short : wanted_cmp ks (hash_of kind) kind own y ≡ Less = wanted-exact (nat_cmp y.hash (hash_of kind)) (key_cmp ks kind own y.id) upto_it no_it in
      let gone : if_exact ks kind own (Some x.id) ≡ None = ap (λ (b : Bool). cond b (Some x.id) None) (not-exact ks kind own x y right less short) in
      ap (λ (o : Option ℕ). cond (is_exactly ks kind own y.id) (Some y.id) o) gone
]

sorted-first : (c : Hashed → Hashed → Ordering) (x y : Hashed) (ys : List Hashed) → IsStrictlySortedBy c (x ∷ y ∷ ys) → c x y ≡ Less
sorted-first c x y ys s = (after-mid c [] x (y ∷ ys) s).0

exact-from : (ks : List (Option Kind)) (kind : Kind) (own : Bool) (x : Hashed) (xs : List Hashed) → Sorted ks (x ∷ xs) → AllByRecursion (λ y. y.hash ≡ hash_at ks y.id) (x ∷ xs)
    → last_in (λ y. is_exactly ks kind own y.id) (if_exact ks kind own (Some x.id)) xs ≡ if_exact ks kind own (last_in (is_upto ks (hash_of kind) kind own) (Some x.id) xs)
exact-from ks kind own x [] s right = refl
exact-from ks kind own x (y ∷ ys) s right =
    let tail : Sorted ks (y ∷ ys) = sorted-back (hashed_cmp ks) [] x (y ∷ ys) s in
    elim (cases_Bool (is_gt (wanted_cmp ks (hash_of kind) kind own y)))
    as (λ _. last_in (λ z. is_exactly ks kind own z.id) (if_exact ks kind own (Some x.id)) (y ∷ ys) ≡ if_exact ks kind own (last_in (is_upto ks (hash_of kind) kind own) (Some x.id) (y ∷ ys))) [
      | inl past ↦ past-both ks kind own (Some x.id) (y ∷ ys) right.1 (past-all ks (hash_of kind) kind own y ys tail past)
      | inr upto_it ↦
          ap (λ (o : Option ℕ). last_in (λ z. is_exactly ks kind own z.id) o ys) (step-exact ks kind own x y right.0 (sorted-first (hashed_cmp ks) x y ys s) upto_it)
          ∙ exact-from ks kind own y ys tail right.1
          ∙ ap (λ (b : Bool). if_exact ks kind own (last_in (is_upto ks (hash_of kind) kind own) (cond (not b) (Some y.id) (Some x.id)) ys)) (sym upto_it)
    ]

pub latest-exact : (ks : List (Option Kind)) (kind : Kind) (own : Bool) (xs : List Hashed) → IsIndex ks xs
    → last_of ks kind own xs ≡ if_exact ks kind own (last_in (is_upto ks (hash_of kind) kind own) None xs)
latest-exact ks kind own [] i = refl
latest-exact ks kind own (y ∷ ys) i =
    elim (cases_Bool (is_gt (wanted_cmp ks (hash_of kind) kind own y))) as (λ _. last_of ks kind own (y ∷ ys) ≡ if_exact ks kind own (last_in (is_upto ks (hash_of kind) kind own) None (y ∷ ys))) [
      | inl past ↦ past-both ks kind own None (y ∷ ys) i.hashed (past-all ks (hash_of kind) kind own y ys i.sorted past)
      | inr upto_it ↦
          exact-from ks kind own y ys i.sorted i.hashed
          ∙ ap (λ (b : Bool). if_exact ks kind own (last_in (is_upto ks (hash_of kind) kind own) (cond (not b) (Some y.id) None) ys)) (sym upto_it)
    ]

pub latest-found : (ks : List (Option Kind)) (hash : ℕ) (kind : Kind) (own : Bool) (xs : List Hashed) (found : Option Hashed) → IsIndex ks xs → hash ≡ hash_of kind
    → found ≡ last_at (is_upto ks hash kind own) None xs → last_of ks kind own xs ≡ if_exact ks kind own (option_map (λ h. h.id) found)
latest-found ks hash kind own xs found i h e =
    latest-exact ks kind own xs i
    ∙ ap (if_exact ks kind own)
    (sym (last-ids (is_upto ks (hash_of kind) kind own) None xs) ∙ ap (λ (r : ℕ). option_map (λ h. h.id) (last_at (is_upto ks r kind own) None xs)) (sym h) ∙ ap (λ (o : Option Hashed). option_map (λ h. h.id) o) (sym e))

-- one of another hash isn't of the kind
pub other-hash : (ks : List (Option Kind)) (kind : Kind) (own : Bool) (x : Hashed) → x.hash ≡ hash_at ks x.id → (x.hash ≡ hash_of kind → ⊥) → is_exactly ks kind own x.id ≡ false
other-hash ks kind own x right other = elim (cases_Bool (is_exactly ks kind own x.id)) as (λ _. is_exactly ks kind own x.id ≡ false) [
  | inl hit ↦ absurd (other (right ∙ place-hash x.id (slice_index_or ks x.id None) kind own (eq-is (key_cmp ks kind own x.id) hit)))
  | inr no_it ↦ no_it
]

-- one that passes stays between what is left of the others
pub kept-mid : (p : Hashed → Bool) (l : List Hashed) (k : Hashed) (r : List Hashed) → p k ≡ true → filter p (l ++ k ∷ r) ≡ filter p l ++ k ∷ filter p r
kept-mid p l k r passes = filter-append p l (k ∷ r) ∙ ap (λ (b : Bool). filter p l ++ cond b (k ∷ filter p r) (filter p r)) passes

pub gone-mid : (p : Hashed → Bool) (l : List Hashed) (k : Hashed) (r : List Hashed) → p k ≡ false → filter p (l ++ k ∷ r) ≡ filter p l ++ filter p r
gone-mid p l k r fails = filter-append p l (k ∷ r) ∙ ap (λ (b : Bool). filter p l ++ cond b (k ∷ filter p r) (filter p r)) fails
