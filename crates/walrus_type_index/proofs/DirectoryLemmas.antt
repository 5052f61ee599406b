-- Lists of ids over a directory: what is looked for lies in the tree of its place alone.
use Rattle.std.proofs.Common.{◌≡◌, ◌∙◌, ℕ, zero, suc, ◌+◌, ◌/◌, ◌^◌, ◌<◌, ◌≤◌, ◌==◌, Bool, true, false, cond, not, List, [], ◌∷◌, ◌++◌, length, filter, find, slice_index_or, slice_set, Option, Some, None, is_some, inl, inr, refl, sym, ap, subst, arith, Ordering, Less, Equal, Greater}
use Rattle.std.specs.Ordering.{ordering_then, nat_cmp, is_lt, MatchOrdering}
use Rattle.std.specs.Option.{option_map, option_or}
use Rattle.std.specs.List.{AllByRecursion}
use Rattle.std.specs.List.Sorted.{IsStrictlySortedBy}
use Rattle.std.specs.Cmp.{ranks}
use Rattle.std.proofs.Math.Pow.{shr_mono}
use Rattle.std.proofs.lemmas.Nat.{shr-shr}
use Rattle.std.proofs.lemmas.Bool.{cases_lt, cases_Bool, false≢true, eqb-true, lt-ltb, ltb-true, ltb-false}
use Rattle.std.proofs.lemmas.List.Elements.{filter-append}
use Rattle.std.proofs.lemmas.List.Folds.{find-append}
use Rattle.walrus_items.specs.walrus_forms.Kinds.{Kind}
use Rattle.walrus_type_index.specs.Places.{Hashed, id_cmp, key_cmp, hashed_at, hashed_cmp, is_before, is_tied, is_exactly, last_in, last_of, put_in, entered}
use Rattle.walrus_type_index.specs.Hashes.{hash_of, hash_at}
use Rattle.walrus_type_index.specs.Ordered.{IsIndex}
use Rattle.walrus_type_index.specs.Directory.{place_of, joined, AreSpread, tree_at, last_set, is_later, halves, last_half, changed_to}
use Rattle.walrus_type_index.proofs.TreeLemmas.{Sorted, all-map, all-front, sorted-front, put-step, last-none, split-right, all-stay, or-none, exact-wanted, then-first, number-tied, left-at, found-at}
use Rattle.walrus_type_index.proofs.OrderedLemmas.{all-put, all-filter}

-- all of a list
all-append : (P : Hashed → Type 0) (l m : List Hashed) → AllByRecursion P l → AllByRecursion P m → AllByRecursion P (l ++ m)
all-append P [] m a b = b
all-append P (x ∷ l) m a b = (a.0, all-append P l m a.1 b)

all-back : (P : Hashed → Type 0) (l m : List Hashed) → AllByRecursion P (l ++ m) → AllByRecursion P m
all-back P [] m a = a
all-back P (x ∷ l) m a = all-back P l m a.1

all-both : (P Q R : Hashed → Type 0) → ((x : Hashed) → P x → Q x → R x) → (xs : List Hashed) → AllByRecursion P xs → AllByRecursion Q xs → AllByRecursion R xs
all-both P Q R f [] a b = tt
all-both P Q R f (x ∷ xs) a b = (f x a.0 b.0, all-both P Q R f xs a.1 b.1)

sorted-behind : (c : Hashed → Hashed → Ordering) (l m : List Hashed) → IsStrictlySortedBy c (l ++ m) → IsStrictlySortedBy c m
unfolding IsStrictlySortedBy
sorted-behind c [] m s = s
sorted-behind c (x ∷ l) m s = sorted-behind c l m s.1

-- places rise with hashes
place-rises : (shift a b : ℕ) → a ≤ b → place_of shift a ≤ place_of shift b
place-rises shift a b up = shr_mono shift (shr_mono 65 up)

hash-below : (shift a b : ℕ) → place_of shift a < place_of shift b → a < b
hash-below shift a b less = elim (cases_lt a b) as (λ _. a < b) [
  | inl below ↦ below
  | inr up ↦ absurd (let e = place-rises shift b a up in omega (arith, e, less))
]

rank-below : (o : Ordering) (a b : ℕ) → MatchOrdering o (a < b) (a ≡ b) (b < a) → a < b → o ≡ Less
rank-below Less a b m l = refl
rank-below Equal a b m l = absurd (omega (arith, m, l))
rank-below Greater a b m l = absurd (omega (arith, m, l))

rank-above : (o : Ordering) (a b : ℕ) → MatchOrdering o (a < b) (a ≡ b) (b < a) → b < a → o ≡ Greater
rank-above Less a b m l = absurd (omega (arith, m, l))
rank-above Equal a b m l = absurd (omega (arith, m, l))
rank-above Greater a b m l = refl

before-later : (ks : List (Option Kind)) (shift : ℕ) (new x : Hashed) → place_of shift new.hash < place_of shift x.hash → is_before ks new x ≡ true
before-later ks shift new x less =
    ap (λ (o : Ordering). is_lt (ordering_then o (id_cmp ks new.id x.id))) (rank-below (nat_cmp new.hash x.hash) new.hash x.hash (ranks new.hash x.hash) (hash-below shift new.hash x.hash less))

past-earlier : (ks : List (Option Kind)) (shift : ℕ) (new x : Hashed) → place_of shift x.hash < place_of shift new.hash → is_before ks new x ≡ false
past-earlier ks shift new x less =
    ap (λ (o : Ordering). is_lt (ordering_then o (id_cmp ks new.id x.id))) (rank-above (nat_cmp new.hash x.hash) new.hash x.hash (ranks new.hash x.hash) (hash-below shift x.hash new.hash less))

misses : (hit : Hashed → Bool) (x : Hashed) (a b : ℕ) → (hit x ≡ true → a ≡ b) → (a ≡ b → ⊥) → hit x ≡ false
misses hit x a b here other = elim (cases_Bool (hit x)) as (λ _. hit x ≡ false) [
  | inl is ↦ absurd (other (here is))
  | inr no_it ↦ no_it
]

-- all places are this one or later
all-later : (shift : ℕ) (trees : List (List Hashed)) (place : ℕ) (last : List Hashed) → AreSpread shift trees place last → AllByRecursion (λ x. place ≤ place_of shift x.hash) (joined trees last)
all-later shift [] place last s = s
all-later shift (tree ∷ trees) place last s =
    all-append (λ x. place ≤ place_of shift x.hash) tree (joined trees last)
    (all-map (λ x. place_of shift x.hash ≡ place) (λ x. place ≤ place_of shift x.hash) (λ x e. omega (arith, e)) tree s.0)
    (all-map (λ x. suc place ≤ place_of shift x.hash) (λ x. place ≤ place_of shift x.hash) (λ x e. omega (arith, e)) (joined trees last) (all-later shift trees (suc place) last s.1))

-- one tree of a directory
pub tree-sorted : (c : Hashed → Hashed → Ordering) (trees : List (List Hashed)) (p : ℕ) (last : List Hashed) → IsStrictlySortedBy c (joined trees last) → IsStrictlySortedBy c (tree_at trees p last)
tree-sorted c [] p last s = s
tree-sorted c (tree ∷ trees) zero last s = sorted-front c tree (joined trees last) s
tree-sorted c (tree ∷ trees) (suc p) last s = tree-sorted c trees p last (sorted-behind c tree (joined trees last) s)

tree-all : (P : Hashed → Type 0) (trees : List (List Hashed)) (p : ℕ) (last : List Hashed) → AllByRecursion P (joined trees last) → AllByRecursion P (tree_at trees p last)
tree-all P [] p last a = a
tree-all P (tree ∷ trees) zero last a = all-front P tree (joined trees last) a
tree-all P (tree ∷ trees) (suc p) last a = tree-all P trees p last (all-back P tree (joined trees last) a)

pub tree-index : (ks : List (Option Kind)) (trees : List (List Hashed)) (p : ℕ) (last : List Hashed) → IsIndex ks (joined trees last) → IsIndex ks (tree_at trees p last)
tree-index ks trees p last i = record {
  sorted = tree-sorted (hashed_cmp ks) trees p last i.sorted;
  hashed = tree-all (λ x. x.hash ≡ hash_at ks x.id) trees p last i.hashed;
}

pub tree-inside : {A : Type 0} (trees : List A) (p : ℕ) (last d : A) → p < length trees → slice_index_or trees p d ≡ tree_at trees p last
tree-inside [] p last d less = absurd (omega (arith, less))
tree-inside (tree ∷ trees) zero last d less = refl
tree-inside (tree ∷ trees) (suc p) last d less = tree-inside trees p last d (omega (arith, less))

pub tree-past : {A : Type 0} (trees : List A) (p : ℕ) (last : A) → length trees ≤ p → last ≡ tree_at trees p last
tree-past [] p last up = refl
tree-past (tree ∷ trees) zero last up = absurd (omega (arith, up))
tree-past (tree ∷ trees) (suc p) last up = tree-past trees p last (omega (arith, up))

pub last-inside : {A : Type 0} (trees : List A) (p : ℕ) (last new : A) → p < length trees → last ≡ last_set trees p last new
last-inside [] p last new less = absurd (omega (arith, less))
last-inside (tree ∷ trees) zero last new less = refl
last-inside (tree ∷ trees) (suc p) last new less = last-inside trees p last new (omega (arith, less))

pub last-past : {A : Type 0} (trees : List A) (p : ℕ) (last new : A) → length trees ≤ p → new ≡ last_set trees p last new
last-past [] p last new up = refl
last-past (tree ∷ trees) zero last new up = absurd (omega (arith, up))
last-past (tree ∷ trees) (suc p) last new up = last-past trees p last new (omega (arith, up))

-- one tree became another
pub record Put (trees : List (List Hashed)) (p : ℕ) (last new : List Hashed) (trees_now : List (List Hashed)) (last_now : List Hashed) : Type 0 where
  pub trees_are : trees_now ≡ slice_set trees p new
  pub last_is : last_now ≡ last_set trees p last new

pub spread-put : (shift : ℕ) (f : List Hashed → List Hashed) (new : Hashed) → ((P : Hashed → Type 0) → P new → (xs : List Hashed) → AllByRecursion P xs → AllByRecursion P (f xs))
    → (trees : List (List Hashed)) (p place : ℕ) (last : List Hashed) → place_of shift new.hash ≡ place + p → AreSpread shift trees place last
    → AreSpread shift (slice_set trees p (f (tree_at trees p last))) place (last_set trees p last (f (tree_at trees p last)))
spread-put shift f new keeps [] p place last e s = keeps (λ x. place ≤ place_of shift x.hash) (omega (arith, e)) last s
spread-put shift f new keeps (tree ∷ trees) zero place last e s = (keeps (λ x. place_of shift x.hash ≡ place) (omega (arith, e)) tree s.0, s.1)
spread-put shift f new keeps (tree ∷ trees) (suc p) place last e s = (s.0, spread-put shift f new keeps trees p (suc place) last (omega (arith, e)) s.1)

-- putting
put-here : (test : Hashed → Bool) (new : Hashed) (l m : List Hashed) → AllByRecursion (λ x. test x ≡ true) m → put_in test new (l ++ m) ≡ put_in test new l ++ m
put-here test new [] [] a = refl
put-here test new [] (y ∷ m) a = ap (λ (b : Bool). cond b (new ∷ y ∷ m) (y ∷ put_in test new m)) a.0
put-here test new (x ∷ l) m a = put-step (test x) new x l (put_in test new l) m (put_in test new (l ++ m)) (put-here test new l m a)

put-beyond : (test : Hashed → Bool) (new : Hashed) (l m : List Hashed) → AllByRecursion (λ x. test x ≡ false) l → put_in test new (l ++ m) ≡ l ++ put_in test new m
put-beyond test new [] m none = refl
put-beyond test new (x ∷ l) m none = ap (λ (b : Bool). cond b (new ∷ x ∷ (l ++ m)) (x ∷ put_in test new (l ++ m))) none.0 ∙ ap (λ (zs : List Hashed). x ∷ zs) (put-beyond test new l m none.1)

pub put-joined : (ks : List (Option Kind)) (shift : ℕ) (new : Hashed) (trees : List (List Hashed)) (p place : ℕ) (last : List Hashed) → place_of shift new.hash ≡ place + p → AreSpread shift trees place last
    → joined (slice_set trees p (put_in (is_before ks new) new (tree_at trees p last))) (last_set trees p last (put_in (is_before ks new) new (tree_at trees p last))) ≡ put_in (is_before ks new) new (joined trees last)
put-joined ks shift new [] p place last e s = refl
put-joined ks shift new (tree ∷ trees) zero place last e s =
    sym (put-here (is_before ks new) new tree (joined trees last)
    (all-map (λ x. suc place ≤ place_of shift x.hash) (λ x. is_before ks new x ≡ true) (λ x up. before-later ks shift new x (omega (arith, e, up))) (joined trees last) (all-later shift trees (suc place) last s.1)))
put-joined ks shift new (tree ∷ trees) (suc p) place last e s =
    ap (λ (zs : List Hashed). tree ++ zs) (put-joined ks shift new trees p (suc place) last (omega (arith, e)) s.1)
    ∙ sym (put-beyond (is_before ks new) new tree (joined trees last)
    (all-map (λ x. place_of shift x.hash ≡ place) (λ x. is_before ks new x ≡ false) (λ x is. past-earlier ks shift new x (omega (arith, e, is))) tree s.0))

-- those that pass a test that only ids of one place pass
abbrev pub Here : ℕ → (Hashed → Bool) → ℕ → Hashed → Type 0
Here shift hit at x = hit x ≡ true → place_of shift x.hash ≡ at

none-behind : (shift : ℕ) (hit : Hashed → Bool) (place : ℕ) (xs : List Hashed) → AllByRecursion (λ x. suc place ≤ place_of shift x.hash) xs → AllByRecursion (Here shift hit (place + zero)) xs
    → AllByRecursion (λ x. hit x ≡ false) xs
none-behind shift hit place xs up here =
    all-both (λ x. suc place ≤ place_of shift x.hash) (Here shift hit (place + zero)) (λ x. hit x ≡ false)
    (λ x later is. misses hit x (place_of shift x.hash) (place + zero) is (λ e. omega (arith, e, later))) xs up here

none-before : (shift : ℕ) (hit : Hashed → Bool) (p place : ℕ) (xs : List Hashed) → AllByRecursion (λ x. place_of shift x.hash ≡ place) xs → AllByRecursion (Here shift hit (place + suc p)) xs
    → AllByRecursion (λ x. hit x ≡ false) xs
none-before shift hit p place xs same here =
    all-both (λ x. place_of shift x.hash ≡ place) (Here shift hit (place + suc p)) (λ x. hit x ≡ false)
    (λ x it is. misses hit x (place_of shift x.hash) (place + suc p) is (λ e. omega (arith, e, it))) xs same here

next-here : (shift : ℕ) (hit : Hashed → Bool) (p place : ℕ) (xs : List Hashed) → AllByRecursion (Here shift hit (place + suc p)) xs → AllByRecursion (Here shift hit (suc place + p)) xs
next-here shift hit p place xs here = all-map (Here shift hit (place + suc p)) (Here shift hit (suc place + p)) (λ x is e. omega (arith, is e)) xs here

stays-behind : (hit : Hashed → Bool) (l m : List Hashed) → AllByRecursion (λ x. hit x ≡ false) m → (filter (λ x. not (hit x)) (l ++ m) ≡ filter (λ x. not (hit x)) l ++ m) × (find hit (l ++ m) ≡ find hit l)
stays-behind hit l m none =
    let behind = all-stay hit m none in
    (filter-append (λ x. not (hit x)) l m ∙ ap (λ (zs : List Hashed). filter (λ x. not (hit x)) l ++ zs) behind.rest, find-append hit l m ∙ ap (option_or (find hit l)) behind.found ∙ or-none (find hit l))

pub rest-joined : (shift : ℕ) (hit : Hashed → Bool) (trees : List (List Hashed)) (p place : ℕ) (last : List Hashed) → AllByRecursion (Here shift hit (place + p)) (joined trees last) → AreSpread shift trees place last
    → joined (slice_set trees p (filter (λ x. not (hit x)) (tree_at trees p last))) (last_set trees p last (filter (λ x. not (hit x)) (tree_at trees p last))) ≡ filter (λ x. not (hit x)) (joined trees last)
rest-joined shift hit [] p place last here s = refl
rest-joined shift hit (tree ∷ trees) zero place last here s =
    sym (stays-behind hit tree (joined trees last) (none-behind shift hit place (joined trees last) (all-later shift trees (suc place) last s.1) (all-back (Here shift hit (place + zero)) tree (joined trees last) here))).0
rest-joined shift hit (tree ∷ trees) (suc p) place last here s =
    ap (λ (zs : List Hashed). tree ++ zs) (rest-joined shift hit trees p (suc place) last (next-here shift hit p place (joined trees last) (all-back (Here shift hit (place + suc p)) tree (joined trees last) here)) s.1)
    ∙ sym (split-right hit tree (joined trees last) (none-before shift hit p place tree s.0 (all-front (Here shift hit (place + suc p)) tree (joined trees last) here))).rest

pub found-joined : (shift : ℕ) (hit : Hashed → Bool) (trees : List (List Hashed)) (p place : ℕ) (last : List Hashed) → AllByRecursion (Here shift hit (place + p)) (joined trees last) → AreSpread shift trees place last
    → find hit (joined trees last) ≡ find hit (tree_at trees p last)
found-joined shift hit [] p place last here s = refl
found-joined shift hit (tree ∷ trees) zero place last here s =
    (stays-behind hit tree (joined trees last) (none-behind shift hit place (joined trees last) (all-later shift trees (suc place) last s.1) (all-back (Here shift hit (place + zero)) tree (joined trees last) here))).1
found-joined shift hit (tree ∷ trees) (suc p) place last here s =
    (split-right hit tree (joined trees last) (none-before shift hit p place tree s.0 (all-front (Here shift hit (place + suc p)) tree (joined trees last) here))).found
    ∙ found-joined shift hit trees p (suc place) last (next-here shift hit p place (joined trees last) (all-back (Here shift hit (place + suc p)) tree (joined trees last) here)) s.1

last-front : (hit : Hashed → Bool) (found : Option ℕ) (l m : List Hashed) → AllByRecursion (λ x. hit x ≡ false) m → last_in hit found (l ++ m) ≡ last_in hit found l
last-front hit found [] m none = last-none hit found m none
last-front hit found (x ∷ l) m none = last-front hit (cond (hit x) (Some x.id) found) l m none

last-back : (hit : Hashed → Bool) (found : Option ℕ) (l m : List Hashed) → AllByRecursion (λ x. hit x ≡ false) l → last_in hit found (l ++ m) ≡ last_in hit found m
last-back hit found [] m none = refl
last-back hit found (x ∷ l) m none = ap (λ (b : Bool). last_in hit (cond b (Some x.id) found) (l ++ m)) none.0 ∙ last-back hit found l m none.1

last-joined : (shift : ℕ) (hit : Hashed → Bool) (trees : List (List Hashed)) (p place : ℕ) (last : List Hashed) → AllByRecursion (Here shift hit (place + p)) (joined trees last) → AreSpread shift trees place last
    → last_in hit None (joined trees last) ≡ last_in hit None (tree_at trees p last)
last-joined shift hit [] p place last here s = refl
last-joined shift hit (tree ∷ trees) zero place last here s =
    last-front hit None tree (joined trees last) (none-behind shift hit place (joined trees last) (all-later shift trees (suc place) last s.1) (all-back (Here shift hit (place + zero)) tree (joined trees last) here))
last-joined shift hit (tree ∷ trees) (suc p) place last here s =
    last-back hit None tree (joined trees last) (none-before shift hit p place tree s.0 (all-front (Here shift hit (place + suc p)) tree (joined trees last) here))
    ∙ last-joined shift hit trees p (suc place) last (next-here shift hit p place (joined trees last) (all-back (Here shift hit (place + suc p)) tree (joined trees last) here)) s.1

-- an id, and the types of a kind, have one place
pub id-here : (ks : List (Option Kind)) (shift id : ℕ) (xs : List Hashed) → AllByRecursion (λ x. x.hash ≡ hash_at ks x.id) xs → AllByRecursion (Here shift (λ x. x.id == id) (place_of shift (hash_at ks id))) xs
id-here ks shift id xs right =
    all-map (λ x. x.hash ≡ hash_at ks x.id) (Here shift (λ x. x.id == id) (place_of shift (hash_at ks id)))
    (λ x e same. ap (place_of shift) (e ∙ ap (hash_at ks) (eqb-true x.id id same))) xs right

exact-hash : (ks : List (Option Kind)) (kind : Kind) (own : Bool) (x : Hashed) → x.hash ≡ hash_at ks x.id → is_exactly ks kind own x.id ≡ true → x.hash ≡ hash_of kind
exact-hash ks kind own x right hit =
    number-tied x.hash (hash_of kind) (then-first (nat_cmp x.hash (hash_of kind)) (key_cmp ks kind own x.id) (exact-wanted ks kind own x right hit))

pub latest-joined : (ks : List (Option Kind)) (shift : ℕ) (kind : Kind) (own : Bool) (trees : List (List Hashed)) (p : ℕ) (last : List Hashed) → p ≡ place_of shift (hash_of kind) → IsIndex ks (joined trees last)
    → AreSpread shift trees 0 last → last_of ks kind own (joined trees last) ≡ last_of ks kind own (tree_at trees p last)
latest-joined ks shift kind own trees p last at i s =
    last-joined shift (λ x. is_exactly ks kind own x.id) trees p 0 last
    (all-map (λ x. x.hash ≡ hash_at ks x.id) (Here shift (λ x. is_exactly ks kind own x.id) (0 + p))
    (λ x right hit. let e = ap (place_of shift) (exact-hash ks kind own x right hit) in omega (arith, e, at)) (joined trees last) i.hashed) s

zero-plus : (p : ℕ) → p ≡ 0 + p
zero-plus p = omega arith

-- what a call leaves
spread-now : (shift : ℕ) (f : List Hashed → List Hashed) (trees : List (List Hashed)) (p : ℕ) (last new : List Hashed) (trees_now : List (List Hashed)) (last_now : List Hashed)
    → Put trees p last new trees_now last_now → new ≡ f (tree_at trees p last) → AreSpread shift (slice_set trees p (f (tree_at trees p last))) 0 (last_set trees p last (f (tree_at trees p last)))
    → AreSpread shift trees_now 0 last_now
spread-now shift f trees p last new trees_now last_now put e s =
    subst (λ (ts : List (List Hashed)). AreSpread shift ts 0 last_now) (sym (put.trees_are ∙ ap (slice_set trees p) e))
    (subst (λ (xs : List Hashed). AreSpread shift (slice_set trees p (f (tree_at trees p last))) 0 xs) (sym (put.last_is ∙ ap (last_set trees p last) e)) s)

joined-now : (f : List Hashed → List Hashed) (trees : List (List Hashed)) (p : ℕ) (last new : List Hashed) (trees_now : List (List Hashed)) (last_now : List Hashed)
    → Put trees p last new trees_now last_now → new ≡ f (tree_at trees p last)
    → joined trees_now last_now ≡ joined (slice_set trees p (f (tree_at trees p last))) (last_set trees p last (f (tree_at trees p last)))
joined-now f trees p last new trees_now last_now put e =
    ap (λ (ts : List (List Hashed)). joined ts last_now) (put.trees_are ∙ ap (slice_set trees p) e)
    ∙ ap (λ (xs : List Hashed). joined (slice_set trees p (f (tree_at trees p last))) xs) (put.last_is ∙ ap (last_set trees p last) e)

pub put-done : (ks : List (Option Kind)) (shift id : ℕ) (hashed : Hashed) (trees : List (List Hashed)) (p : ℕ) (last new : List Hashed) (trees_now : List (List Hashed)) (last_now : List Hashed)
    → hashed ≡ hashed_at ks id → p ≡ place_of shift hashed.hash → AreSpread shift trees 0 last → Put trees p last new trees_now last_now → new ≡ put_in (is_before ks hashed) hashed (tree_at trees p last)
    → AreSpread shift trees_now 0 last_now × (joined trees_now last_now ≡ entered ks id (joined trees last))
put-done ks shift id hashed trees p last new trees_now last_now h at s put e =
    let f : List Hashed → List Hashed = put_in (is_before ks hashed) hashed in
    let here : place_of shift hashed.hash ≡ 0 + p = sym at ∙ zero-plus p in (
      spread-now shift f trees p last new trees_now last_now put e (spread-put shift f hashed (λ P a xs all. all-put P (is_before ks hashed) hashed xs a all) trees p 0 last here s),
      joined-now f trees p last new trees_now last_now put e ∙ put-joined ks shift hashed trees p 0 last here s
          ∙ ap (λ (x : Hashed). put_in (is_before ks x) x (joined trees last)) h,
    )

pub take-done : (ks : List (Option Kind)) (shift id : ℕ) (hashed : Hashed) (trees : List (List Hashed)) (p : ℕ) (last new : List Hashed) (trees_now : List (List Hashed)) (last_now : List Hashed)
    → hashed ≡ hashed_at ks id → p ≡ place_of shift hashed.hash → IsIndex ks (joined trees last) → AreSpread shift trees 0 last → Put trees p last new trees_now last_now
    → new ≡ filter (λ x. not (is_tied ks hashed x)) (tree_at trees p last)
    → AreSpread shift trees_now 0 last_now × (joined trees_now last_now ≡ filter (λ x. not (x.id == id)) (joined trees last))
take-done ks shift id hashed trees p last new trees_now last_now h at i s put e =
    let f : List Hashed → List Hashed = filter (λ x. not (x.id == id)) in
    let place : place_of shift (hash_at ks id) ≡ 0 + p = ap (λ (x : Hashed). place_of shift x.hash) (sym h) ∙ sym at ∙ zero-plus p in
    let is : new ≡ f (tree_at trees p last) = e ∙ left-at ks id (tree_at trees p last) hashed (tree-index ks trees p last i).hashed h in (
      spread-now shift f trees p last new trees_now last_now put is
          (spread-put shift f (hashed_at ks id) (λ P a xs all. all-filter P (λ x. not (x.id == id)) xs all) trees p 0 last place s),
      joined-now f trees p last new trees_now last_now put is
          ∙ rest-joined shift (λ x. x.id == id) trees p 0 last
          (subst (λ (k : ℕ). AllByRecursion (Here shift (λ x. x.id == id) k) (joined trees last)) place (id-here ks shift id (joined trees last) i.hashed)) s,
    )

take-found : (ks : List (Option Kind)) (shift id : ℕ) (hashed : Hashed) (trees : List (List Hashed)) (p : ℕ) (last : List Hashed)
    → hashed ≡ hashed_at ks id → p ≡ place_of shift hashed.hash → IsIndex ks (joined trees last) → AreSpread shift trees 0 last
    → find (is_tied ks hashed) (tree_at trees p last) ≡ find (λ x. x.id == id) (joined trees last)
take-found ks shift id hashed trees p last h at i s =
    let place : place_of shift (hash_at ks id) ≡ 0 + p = ap (λ (x : Hashed). place_of shift x.hash) (sym h) ∙ sym at ∙ zero-plus p in
    found-at ks id (tree_at trees p last) hashed (tree-index ks trees p last i).hashed h
    ∙ sym (found-joined shift (λ x. x.id == id) trees p 0 last
    (subst (λ (k : ℕ). AllByRecursion (Here shift (λ x. x.id == id) k) (joined trees last)) place (id-here ks shift id (joined trees last) i.hashed)) s)

found-id : (id : ℕ) (xs : List Hashed) → true ≡ is_some (find (λ x. x.id == id) xs) → Some id ≡ option_map (λ (x : Hashed). x.id) (find (λ x. x.id == id) xs)
found-id id [] e = absurd (false≢true (sym e))
found-id id (x ∷ xs) e = elim (cases_Bool (x.id == id)) as (λ _. Some id ≡ option_map (λ (y : Hashed). y.id) (cond (x.id == id) (Some x) (find (λ y. y.id == id) xs))) [
  | inl same ↦ ap Some (sym (eqb-true x.id id same)) ∙ ap (λ (b : Bool). option_map (λ (y : Hashed). y.id) (cond b (Some x) (find (λ y. y.id == id) xs))) (sym same)
  | inr other ↦
      let here : cond (x.id == id) (Some x) (find (λ y. y.id == id) xs) ≡ find (λ y. y.id == id) xs = ap (λ (b : Bool). cond b (Some x) (find (λ y. y.id == id) xs)) other in
      found-id id xs (e ∙ ap (λ (o : Option Hashed). is_some o) here) ∙ ap (option_map (λ (y : Hashed). y.id)) (sym here)
]

found-none : (o : Option Hashed) → false ≡ is_some o → None ≡ option_map (λ (x : Hashed). x.id) o
found-none None e = refl
found-none (Some x) e = absurd (false≢true e)

-- what is answered where it was in, and where it wasn't
pub took-it : (ks : List (Option Kind)) (shift id : ℕ) (hashed : Hashed) (trees : List (List Hashed)) (p : ℕ) (last : List Hashed)
    → hashed ≡ hashed_at ks id → p ≡ place_of shift hashed.hash → IsIndex ks (joined trees last) → AreSpread shift trees 0 last → true ≡ is_some (find (is_tied ks hashed) (tree_at trees p last))
    → Some id ≡ option_map (λ (x : Hashed). x.id) (find (λ x. x.id == id) (joined trees last))
took-it ks shift id hashed trees p last h at i s met =
    found-id id (joined trees last) (met ∙ ap (λ (o : Option Hashed). is_some o) (take-found ks shift id hashed trees p last h at i s))

pub took-none : (ks : List (Option Kind)) (shift id : ℕ) (hashed : Hashed) (trees : List (List Hashed)) (p : ℕ) (last : List Hashed)
    → hashed ≡ hashed_at ks id → p ≡ place_of shift hashed.hash → IsIndex ks (joined trees last) → AreSpread shift trees 0 last → false ≡ is_some (find (is_tied ks hashed) (tree_at trees p last))
    → None ≡ option_map (λ (x : Hashed). x.id) (find (λ x. x.id == id) (joined trees last))
took-none ks shift id hashed trees p last h at i s met =
    found-none (find (λ x. x.id == id) (joined trees last)) (met ∙ ap (λ (o : Option Hashed). is_some o) (take-found ks shift id hashed trees p last h at i s))

-- sweeping
pub spread-swept : (shift : ℕ) (p : Hashed → Bool) (trees : List (List Hashed)) (place : ℕ) (last : List Hashed) → AreSpread shift trees place last
    → AreSpread shift (changed_to (filter p) (length trees) trees) place (filter p last)
spread-swept shift p [] place last s = all-filter (λ x. place ≤ place_of shift x.hash) p last s
spread-swept shift p (tree ∷ trees) place last s = (all-filter (λ x. place_of shift x.hash ≡ place) p tree s.0, spread-swept shift p trees (suc place) last s.1)

pub swept-joined : (p : Hashed → Bool) (trees : List (List Hashed)) (last : List Hashed) → joined (changed_to (filter p) (length trees) trees) (filter p last) ≡ filter p (joined trees last)
swept-joined p [] last = refl
swept-joined p (tree ∷ trees) last = ap (λ (zs : List Hashed). filter p tree ++ zs) (swept-joined p trees last) ∙ sym (filter-append p tree (joined trees last))

changed-more : (f : List Hashed → List Hashed) (trees : List (List Hashed)) (k : ℕ) (d : List Hashed) → k < length trees
    → slice_set (changed_to f k trees) k (f (slice_index_or (changed_to f k trees) k d)) ≡ changed_to f (suc k) trees
changed-more f [] k d less = absurd (omega (arith, less))
changed-more f (tree ∷ trees) zero d less = refl
changed-more f (tree ∷ trees) (suc k) d less = ap (λ (ts : List (List Hashed)). f tree ∷ ts) (changed-more f trees k d (omega (arith, less)))

pub swept-more : (f : List Hashed → List Hashed) (trees : List (List Hashed)) (k : ℕ) (now : List (List Hashed)) (tree new : List Hashed)
    → now ≡ changed_to f k trees → k < length trees → tree ≡ slice_index_or now k tree → new ≡ f tree → slice_set now k new ≡ changed_to f (k + 1) trees
swept-more f trees k now tree new n less t e =
    let next : suc k ≡ k + 1 = omega arith in
    ap (λ (ts : List (List Hashed)). slice_set ts k new) n
    ∙ ap (slice_set (changed_to f k trees) k) (e ∙ ap f (t ∙ ap (λ (ts : List (List Hashed)). slice_index_or ts k tree) n))
    ∙ changed-more f trees k tree less
    ∙ ap (λ (n : ℕ). changed_to f n trees) next

-- widening
place-half : (shift hash : ℕ) → place_of shift hash / 2 ≡ place_of (suc shift) hash
place-half shift hash = shr-shr (hash / 2 ^ 65) shift 1 ∙ ap (λ (k : ℕ). hash / 2 ^ 65 / 2 ^ k) (omega arith)

later-is : (shift place : ℕ) (x : Hashed) → is_later shift place x ≡ true → place < place_of shift x.hash
later-is shift place x e = ltb-true place (place_of shift x.hash) e

later-not : (shift place : ℕ) (x : Hashed) → not (is_later shift place x) ≡ true → place_of shift x.hash ≤ place
later-not shift place x e = elim (cases_Bool (is_later shift place x)) as (λ _. place_of shift x.hash ≤ place) [
  | inl hit ↦ absurd (false≢true (sym (ap not hit) ∙ e))
  | inr no_it ↦ ltb-false place (place_of shift x.hash) no_it
]

all-passed : (P Q : Hashed → Type 0) (p : Hashed → Bool) → ((x : Hashed) → P x → p x ≡ true → Q x) → (xs : List Hashed) → AllByRecursion P xs → AllByRecursion Q (filter p xs)
all-passed P Q p f [] a = tt
all-passed P Q p f (x ∷ xs) a = elim (cases_Bool (p x)) as (λ _. AllByRecursion Q (cond (p x) (x ∷ filter p xs) (filter p xs))) [
  | inl hit ↦ subst (λ (b : Bool). AllByRecursion Q (cond b (x ∷ filter p xs) (filter p xs))) (sym hit) (f x a.0 hit, all-passed P Q p f xs a.1)
  | inr no_it ↦ subst (λ (b : Bool). AllByRecursion Q (cond b (x ∷ filter p xs) (filter p xs))) (sym no_it) (all-passed P Q p f xs a.1)
]

pub spread-halves : (shift : ℕ) (trees : List (List Hashed)) (place wide : ℕ) (last : List Hashed) → wide ≡ place + place → AreSpread (suc shift) trees place last
    → AreSpread shift (halves shift trees wide last) wide (last_half shift trees wide last)
spread-halves shift [] place wide last e s = (
  all-passed (λ x. place ≤ place_of (suc shift) x.hash) (λ x. place_of shift x.hash ≡ wide) (λ x. not (is_later shift wide x))
      (λ x at low. let l = later-not shift wide x low in let h = place-half shift x.hash in omega (arith, at, l, h, e)) last s,
  all-passed (λ x. place ≤ place_of (suc shift) x.hash) (λ x. suc wide ≤ place_of shift x.hash) (is_later shift wide) (λ x at high. later-is shift wide x high) last s,
)
spread-halves shift (tree ∷ trees) place wide last e s = (
  all-passed (λ x. place_of (suc shift) x.hash ≡ place) (λ x. place_of shift x.hash ≡ wide) (λ x. not (is_later shift wide x))
      (λ x at low. let l = later-not shift wide x low in let h = place-half shift x.hash in omega (arith, at, l, h, e)) tree s.0,
  (
    all-passed (λ x. place_of (suc shift) x.hash ≡ place) (λ x. place_of shift x.hash ≡ suc wide) (is_later shift wide)
        (λ x at high. let l = later-is shift wide x high in let h = place-half shift x.hash in omega (arith, at, l, h, e)) tree s.0,
    spread-halves shift trees (suc place) (suc (suc wide)) last (omega (arith, e)) s.1,
  ),
)

-- in order, those that are later are last
later-rises : (ks : List (Option Kind)) (shift place : ℕ) (x y : Hashed) → hashed_cmp ks x y ≡ Less → is_later shift place x ≡ true → is_later shift place y ≡ true
later-rises ks shift place x y less later = elim (cases_lt y.hash x.hash) as (λ _. is_later shift place y ≡ true) [
  | inl below ↦ absurd (greater-less (sym (ap (λ (o : Ordering). ordering_then o (id_cmp ks x.id y.id)) (rank-above (nat_cmp x.hash y.hash) x.hash y.hash (ranks x.hash y.hash) below)) ∙ less))
  | inr up ↦ lt-ltb place (place_of shift y.hash) (let a = later-is shift place x later in let b = place-rises shift x.hash y.hash up in omega (arith, a, b))
]
  where
    greater-less : Greater ≡ Less → ⊥
    greater-less e = false≢true (ap is_lt e)

all-kept : (p : Hashed → Bool) (xs : List Hashed) → AllByRecursion (λ x. p x ≡ true) xs → (filter p xs ≡ xs) × (filter (λ x. not (p x)) xs ≡ [])
all-kept p [] a = (refl, refl)
all-kept p (x ∷ xs) a =
    let back = all-kept p xs a.1 in (
      ap (λ (b : Bool). cond b (x ∷ filter p xs) (filter p xs)) a.0 ∙ ap (λ (zs : List Hashed). x ∷ zs) back.0,
      ap (λ (b : Bool). cond (not b) (x ∷ filter (λ y. not (p y)) xs) (filter (λ y. not (p y)) xs)) a.0 ∙ back.1,
    )

halves-order : (ks : List (Option Kind)) (shift place : ℕ) (xs : List Hashed) → Sorted ks xs → filter (λ x. not (is_later shift place x)) xs ++ filter (is_later shift place) xs ≡ xs
unfolding IsStrictlySortedBy
halves-order ks shift place [] s = refl
halves-order ks shift place (x ∷ xs) s =
    let p = is_later shift place in
    elim (cases_Bool (p x)) as (λ _. cond (not (p x)) (x ∷ filter (λ y. not (p y)) xs) (filter (λ y. not (p y)) xs) ++ cond (p x) (x ∷ filter p xs) (filter p xs) ≡ x ∷ xs) [
      | inl hit ↦
          let all = all-kept p xs (all-map (λ y. hashed_cmp ks x y ≡ Less) (λ y. p y ≡ true) (λ y less. later-rises ks shift place x y less hit) xs s.0) in
          ap (λ (b : Bool). cond (not b) (x ∷ filter (λ y. not (p y)) xs) (filter (λ y. not (p y)) xs) ++ cond b (x ∷ filter p xs) (filter p xs)) hit
          ∙ ap (λ (zs : List Hashed). zs ++ (x ∷ filter p xs)) all.1 ∙ ap (λ (zs : List Hashed). x ∷ zs) all.0
      | inr no_it ↦
          ap (λ (b : Bool). cond (not b) (x ∷ filter (λ y. not (p y)) xs) (filter (λ y. not (p y)) xs) ++ cond b (x ∷ filter p xs) (filter p xs)) no_it
          ∙ ap (λ (zs : List Hashed). x ∷ zs) (halves-order ks shift place xs s.1)
    ]

append-three : (a b c : List Hashed) → a ++ (b ++ c) ≡ (a ++ b) ++ c
append-three [] b c = refl
append-three (x ∷ a) b c = ap (λ (zs : List Hashed). x ∷ zs) (append-three a b c)

pub halves-joined : (ks : List (Option Kind)) (shift : ℕ) (trees : List (List Hashed)) (place : ℕ) (last : List Hashed) → Sorted ks (joined trees last)
    → joined (halves shift trees place last) (last_half shift trees place last) ≡ joined trees last
halves-joined ks shift [] place last s = halves-order ks shift place last s
halves-joined ks shift (tree ∷ trees) place last s =
    let low = filter (λ x. not (is_later shift place x)) tree in
    let high = filter (is_later shift place) tree in
    ap (λ (zs : List Hashed). low ++ (high ++ zs)) (halves-joined ks shift trees (suc (suc place)) last (sorted-behind (hashed_cmp ks) tree (joined trees last) s))
    ∙ append-three low high (joined trees last)
    ∙ ap (λ (zs : List Hashed). zs ++ joined trees last) (halves-order ks shift place tree (sorted-front (hashed_cmp ks) tree (joined trees last) s))

-- some of the trees are halved
pub record Halved (shift : ℕ) (trees : List (List Hashed)) (last : List Hashed) (done left : List (List Hashed)) : Type 0 where
  pub trees_are : done ++ halves shift left (length done) last ≡ halves shift trees 0 last
  pub last_is : last_half shift left (length done) last ≡ last_half shift trees 0 last

two-more : (a : List (List Hashed)) (x y : List Hashed) → length ((a ++ x ∷ []) ++ y ∷ []) ≡ suc (suc (length a))
two-more [] x y = refl
two-more (z ∷ a) x y = ap suc (two-more a x y)

two-joined : (a c : List (List Hashed)) (x y : List Hashed) → ((a ++ x ∷ []) ++ y ∷ []) ++ c ≡ a ++ x ∷ y ∷ c
two-joined [] c x y = refl
two-joined (z ∷ a) c x y = ap (λ (zs : List (List Hashed)). z ∷ zs) (two-joined a c x y)

pub halved-more : (shift : ℕ) (trees : List (List Hashed)) (last : List Hashed) (done : List (List Hashed)) (tree : List Hashed) (left : List (List Hashed)) → Halved shift trees last done (tree ∷ left)
    → Halved shift trees last ((done ++ filter (λ x. not (is_later shift (length done) x)) tree ∷ []) ++ filter (is_later shift (length done)) tree ∷ []) left
halved-more shift trees last done tree left h =
    let low = filter (λ x. not (is_later shift (length done) x)) tree in
    let high = filter (is_later shift (length done)) tree in
    record {
      trees_are =
          ap (λ (k : ℕ). ((done ++ low ∷ []) ++ high ∷ []) ++ halves shift left k last) (two-more done low high)
          ∙ two-joined done (halves shift left (suc (suc (length done))) last) low high ∙ h.trees_are;
      last_is = ap (λ (k : ℕ). last_half shift left k last) (two-more done low high) ∙ h.last_is;
    }

pub halved-last : (shift : ℕ) (trees : List (List Hashed)) (last : List Hashed) (done left : List (List Hashed)) (count : ℕ) (before behind : List Hashed) (now : List (List Hashed))
    → Halved shift trees last done left → left ≡ [] → count ≡ length done → before ≡ filter (λ x. not (is_later shift count x)) last → behind ≡ filter (is_later shift count) last → now ≡ done ++ before ∷ []
    → (now ≡ halves shift trees 0 last) × (behind ≡ last_half shift trees 0 last)
halved-last shift trees last done left count before behind now h none counted b a n =
    let e = subst (λ (ts : List (List Hashed)). Halved shift trees last done ts) none h in (
      n ∙ ap (λ (xs : List Hashed). done ++ xs ∷ []) (b ∙ ap (λ (k : ℕ). filter (λ x. not (is_later shift k x)) last) counted) ∙ e.trees_are,
      a ∙ ap (λ (k : ℕ). filter (is_later shift k) last) counted ∙ e.last_is,
    )

pub widened : (ks : List (Option Kind)) (old shift : ℕ) (trees : List (List Hashed)) (last : List Hashed) (now : List (List Hashed)) (last_now : List Hashed)
    → old ≡ suc shift → now ≡ halves shift trees 0 last → last_now ≡ last_half shift trees 0 last → Sorted ks (joined trees last) → AreSpread old trees 0 last
    → AreSpread shift now 0 last_now × (joined now last_now ≡ joined trees last)
widened ks old shift trees last now last_now o now_is last_is sorted s = (
  subst (λ (ts : List (List Hashed)). AreSpread shift ts 0 last_now) (sym now_is) (subst (λ (xs : List Hashed). AreSpread shift (halves shift trees 0 last) 0 xs) (sym last_is)
      (spread-halves shift trees 0 0 last refl (subst (λ (k : ℕ). AreSpread k trees 0 last) o s))),
  ap (λ (ts : List (List Hashed)). joined ts last_now) now_is ∙ ap (joined (halves shift trees 0 last)) last_is ∙ halves-joined ks shift trees 0 last sorted,
)

pub swept-done : (shift : ℕ) (p : Hashed → Bool) (trees : List (List Hashed)) (last : List Hashed) (now : List (List Hashed)) (last_now : List Hashed)
    → now ≡ changed_to (filter p) (length trees) trees → last_now ≡ filter p last → AreSpread shift trees 0 last → AreSpread shift now 0 last_now × (joined now last_now ≡ filter p (joined trees last))
swept-done shift p trees last now last_now n l s = (
  subst (λ (ts : List (List Hashed)). AreSpread shift ts 0 last_now) (sym n) (subst (λ (xs : List Hashed). AreSpread shift (changed_to (filter p) (length trees) trees) 0 xs) (sym l) (spread-swept shift p trees 0 last s)),
  ap (λ (ts : List (List Hashed)). joined ts last_now) n ∙ ap (joined (changed_to (filter p) (length trees) trees)) l ∙ swept-joined p trees last,
)
