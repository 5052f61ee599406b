-- The highest id that passes a test, found in the index and in the table.
use Rattle.std.proofs.Common.{◌≡◌, ◌∙◌, ℕ, ◌≤◌, ◌==◌, ◌&&◌, ◌||◌, Bool, true, false, not, cond, List, [], ◌∷◌, length, max, Option, Some, None, slice_index_or, inl, inr, ⊎_elim, refl, sym, ap, subst, arith, Ordering, Less, Equal, Greater}
use Rattle.std.specs.Ordering.{ordering_then, bool_cmp, is_eq}
use Rattle.std.specs.Option.{option_map, option_map_or, MatchOption}
use Rattle.std.specs.Prelude.{is_some}
use Rattle.std.specs.Cmp.{tied_itself, both_ways}
use Rattle.std.proofs.lemmas.Bool.{cases_Bool, cases_lt, false≢true, eqb-true, and_right, eq-eqb}
use Rattle.std.proofs.lemmas.List.{length-map}
use Rattle.walrus_type_index.specs.walrus_items.walrus_forms.Kinds.{Kind}
use Rattle.walrus_type_index.specs.walrus_items.walrus_forms.Order.{kind_cmp}
use Rattle.walrus_type_index.specs.walrus_items.walrus_forms.Same.{same_kind}
use Rattle.walrus_type_index.proofs.walrus_forms.EqLemmas.{same-kind-law}
use Rattle.walrus_type_index.specs.walrus_items.declared.subtype.Type.{«Type» as TypeItem}
use Rattle.walrus_type_index.specs.walrus_items.Items.{Item, item_of, kind_of}
use Rattle.walrus_type_index.specs.declared.node.Hashed.{Hashed}
use Rattle.walrus_type_index.specs.Places.{kinds_in, place_of, place_cmp, is_exactly, last_in, last_of, names_itself}
use Rattle.walrus_type_index.specs.Ordered.{IsIndex, IsOrdered, IsLast, has, is_at, lives_at}
use Rattle.walrus_type_index.proofs.KindTotal.{kinds}
use Rattle.walrus_type_index.proofs.OrderedLemmas.{last-law}
use Rattle.walrus_type_index.proofs.Tied.{tied}
use Rattle.walrus_type_arenas.specs.Highest.{later_of, if_of_kind}
use Rattle.walrus_type_arenas.specs.Table.{Table, table_of, type_at, latest_id, merges, equal_type}
use Rattle.walrus_type_arenas.specs.TypeLaws.{IsLatest}
use Rattle.walrus_type_arenas.proofs.LawLemmas.{latest-law}
use Rattle.walrus_type_arenas.proofs.TableLemmas.{at-map}

-- the highest number that passes, if one does
abbrev IsHighest : (ℕ → Bool) → Option ℕ → Type 0
IsHighest p None = (id : ℕ) → p id ≡ false
IsHighest p (Some x) = (p x ≡ true) × ((y : ℕ) → p y ≡ true → y ≤ x)

-- there is one alone
one-highest : (p : ℕ → Bool) (a b : Option ℕ) → IsHighest p a → IsHighest p b → a ≡ b
one-highest p None None f g = refl
one-highest p None (Some y) f g = absurd (false≢true (sym (f y) ∙ g.0))
one-highest p (Some x) None f g = absurd (false≢true (sym (g x) ∙ f.0))
one-highest p (Some x) (Some y) f g =
    let up : y ≤ x = f.1 y g.0 in
    let down : x ≤ y = g.1 x f.0 in
    ap (λ (k : ℕ). Some k) (let same : x ≡ y = omega (arith, up, down) in same)

-- by tests that agree
same-highest : (p q : ℕ → Bool) (a : Option ℕ) → ((id : ℕ) → p id ≡ q id) → IsHighest p a → IsHighest q a
same-highest p q None same f = λ id. sym (same id) ∙ f id
same-highest p q (Some x) same f = (sym (same x) ∙ f.0, λ y e. f.1 y (same y ∙ e))

or-cases : (a b : Bool) (P : Type 0) → (a || b) ≡ true → (a ≡ true → P) → (b ≡ true → P) → P
or-cases true b P e f g = f refl
or-cases false b P e f g = g e

or-left : (a b : Bool) → a ≡ true → (a || b) ≡ true
or-left true b e = refl
or-left false b e = absurd (false≢true e)

or-right : (a b : Bool) → b ≡ true → (a || b) ≡ true
or-right true b e = refl
or-right false b e = e

or-none : (a b : Bool) → a ≡ false → b ≡ false → (a || b) ≡ false
or-none true b e f = e
or-none false b e f = f

-- by either test
either-highest : (p q : ℕ → Bool) (a b : Option ℕ) → IsHighest p a → IsHighest q b → IsHighest (λ id. p id || q id) (later_of a b)
either-highest p q None None f g = λ id. or-none (p id) (q id) (f id) (g id)
either-highest p q None (Some y) f g = (
  or-right (p y) (q y) g.0,
  λ z e. or-cases (p z) (q z) (z ≤ y) e (λ h. absurd (false≢true (sym (f z) ∙ h))) (λ h. g.1 z h),
)
either-highest p q (Some x) None f g = (
  or-left (p x) (q x) f.0,
  λ z e. or-cases (p z) (q z) (z ≤ x) e (λ h. f.1 z h) (λ h. absurd (false≢true (sym (g z) ∙ h))),
)
either-highest p q (Some x) (Some y) f g = ⊎_elim
    (λ less.
    let is : max x y ≡ y = omega (arith, less) in (
      ap (λ (k : ℕ). p k || q k) is ∙ or-right (p y) (q y) g.0,
      λ z e. or-cases (p z) (q z) (z ≤ max x y) e (λ h. let up : z ≤ x = f.1 z h in omega (arith, up)) (λ h. let up : z ≤ y = g.1 z h in omega (arith, up)),
    ))
    (λ past.
    let is : max x y ≡ x = omega (arith, past) in (
      ap (λ (k : ℕ). p k || q k) is ∙ or-left (p x) (q x) f.0,
      λ z e. or-cases (p z) (q z) (z ≤ max x y) e (λ h. let up : z ≤ x = f.1 z h in omega (arith, up)) (λ h. let up : z ≤ y = g.1 z h in omega (arith, up)),
    ))
    (cases_lt x y)

-- a search that finds nothing leaves nothing out
never : (test : ℕ → Bool) (id : ℕ) (xs : List Hashed) → last_in (λ z. test z.id) (Some id) xs ≡ None → ⊥
never test id [] e = cc
never test id (y ∷ ys) e = elim (cases_Bool (test y.id)) as (λ _. ⊥) [
  | inl hit ↦ never test y.id ys (ap (λ (b : Bool). last_in (λ z. test z.id) (cond b (Some y.id) (Some id)) ys) (sym hit) ∙ e)
  | inr no_it ↦ never test id ys (ap (λ (b : Bool). last_in (λ z. test z.id) (cond b (Some y.id) (Some id)) ys) (sym no_it) ∙ e)
]

none-in : (test : ℕ → Bool) (xs : List Hashed) → last_in (λ z. test z.id) None xs ≡ None → (y : ℕ) → (has y xs && test y) ≡ false
none-in test [] e y = refl
none-in test (x ∷ xs) e y = elim (cases_Bool (test x.id)) as (λ _. (((x.id == y) || has y xs) && test y) ≡ false) [
  | inl hit ↦ absurd (never test x.id xs (ap (λ (b : Bool). last_in (λ z. test z.id) (cond b (Some x.id) None) xs) (sym hit) ∙ e))
  | inr no_it ↦ elim (cases_Bool (x.id == y)) as (λ _. (((x.id == y) || has y xs) && test y) ≡ false) [
    | inl same ↦ and_right ((x.id == y) || has y xs) (test y) (ap test (sym (eqb-true x.id y same)) ∙ no_it)
    | inr other ↦
        ap (λ (b : Bool). (b || has y xs) && test y) other
        ∙ none-in test xs (ap (λ (b : Bool). last_in (λ z. test z.id) (cond b (Some x.id) None) xs) (sym no_it) ∙ e) y
  ]
]

both-true : (a b : Bool) → a ≡ true → b ≡ true → (a && b) ≡ true
both-true true b e f = f
both-true false b e f = absurd (false≢true e)

of-both : (a b : Bool) → (a && b) ≡ true → (a ≡ true) × (b ≡ true)
of-both true b e = (refl, e)
of-both false b e = absurd (false≢true e)

-- what a search of the index finds is the highest id of it
found-highest : (ks : List (Option Kind)) (kind : Kind) (own : Bool) (xs : List Hashed) → IsIndex ks xs → (o : Option ℕ)
    → last_of ks kind own xs ≡ o → IsHighest (λ id. has id xs && is_exactly ks kind own id) o
found-highest ks kind own xs s None is = none-in (is_exactly ks kind own) xs is
found-highest ks kind own xs s (Some x) is =
    let last : IsLast ks kind own xs x = last-law ks kind own xs s x is in (
      both-true (has x xs) (is_exactly ks kind own x) last.in_it last.is,
      λ y e. let parts = of-both (has y xs) (is_exactly ks kind own y) e in last.latest y parts.0 parts.1,
    )

-- what passes in a slot
abbrev slot_passes : {X : Type 0} → (X → Bool) → Option X → Bool
slot_passes f slot = option_map_or f slot false

none-passes : {X : Type 0} (f : X → Bool) (slot : Option X) → ((x : X) → slot ≡ Some x → f x ≡ false) → slot_passes f slot ≡ false
none-passes f None all = refl
none-passes f (Some x) all = all x refl

one-passes : {X : Type 0} (f : X → Bool) (slot : Option X) → slot_passes f slot ≡ true → (x : X) × (slot ≡ Some x) × (f x ≡ true)
one-passes f None e = absurd (false≢true e)
one-passes f (Some x) e = (x, refl, e)

-- what a search of the table finds is the highest live id that passes
latest-highest : (t : Table) (test : ℕ × Item → Bool) (o : Option ℕ)
    → MatchOption o ((id : ℕ) (item : Item) → type_at t id ≡ Some item → test (id, item) ≡ false) (IsLatest test t)
    → IsHighest (λ id. slot_passes (λ (item : Item). test (id, item)) (type_at t id)) o
latest-highest t test None law = λ id. none-passes (λ (item : Item). test (id, item)) (type_at t id) (law id)
latest-highest t test (Some x) law = (
  ap (slot_passes (λ (item : Item). test (x, item))) law.live ∙ law.passes,
  λ y e. ⊎_elim
      (λ later.
      let it = one-passes (λ (item : Item). test (y, item)) (type_at t y) e in
      absurd (false≢true (sym (law.latest y it.0 later it.1) ∙ it.2)))
      (λ upto. upto)
      (cases_lt x y),
)

eq-then : (o p : Ordering) → is_eq (ordering_then o p) ≡ (is_eq o && is_eq p)
eq-then Less p = refl
eq-then Equal p = refl
eq-then Greater p = refl

eq-is : (o : Ordering) → is_eq o ≡ true → o ≡ Equal
eq-is Less e = absurd (false≢true e)
eq-is Equal e = refl
eq-is Greater e = absurd (false≢true e)

-- kinds that tie are equal
tie-same : (a b : Kind) → is_eq (kind_cmp a b) ≡ same_kind a b
tie-same a b = both_ways (is_eq (kind_cmp a b)) (same_kind a b)
    (λ e. (same-kind-law a b).1 (tied a b (eq-is (kind_cmp a b) e)))
    (λ e. ap is_eq (ap (kind_cmp a) (sym ((same-kind-law a b).0 e)) ∙ tied_itself kinds a))

-- whether a type that names itself, or one that doesn't, is looked for
abbrev of_own : Bool → Bool → Bool
of_own true names = names
of_own false names = not names

own-same : (names own : Bool) → is_eq (bool_cmp names own) ≡ of_own own names
own-same true true = refl
own-same true false = refl
own-same false true = refl
own-same false false = refl

-- whether an id is of just that kind
exactly : (id : ℕ) (slot : Option Kind) (kind : Kind) (own : Bool)
    → is_eq (place_cmp (place_of id slot) (Some kind, own)) ≡ slot_passes (λ k. same_kind k kind && of_own own (names_itself id k)) slot
exactly id None kind own = refl
exactly id (Some k) kind own =
    eq-then (kind_cmp k kind) (bool_cmp (names_itself id k) own)
    ∙ ap (λ (b : Bool). b && is_eq (bool_cmp (names_itself id k) own)) (tie-same k kind)
    ∙ ap (λ (b : Bool). same_kind k kind && b) (own-same (names_itself id k) own)

-- a new type: types that name themselves aside, and no type is lent
plain-step : (slot : Option Kind) (f : Kind → Bool) → ((is_some slot && not false) && slot_passes f slot) ≡ slot_passes f slot
plain-step None f = refl
plain-step (Some k) f = refl

as-item : (slot : Option TypeItem) (f : Kind → Bool) → slot_passes f (option_map kind_of slot) ≡ slot_passes (λ (item : Item). f item.kind) (option_map item_of slot)
as-item None f = refl
as-item (Some ty) f = refl

-- the kinds of the index and the items of the table
seen-alike : (slots : List (Option TypeItem)) (f : Kind → Bool) (id : ℕ)
    → slot_passes f (slice_index_or (kinds_in slots) id None) ≡ slot_passes (λ (item : Item). f item.kind) (type_at (table_of slots []) id)
seen-alike slots f id =
    ap (slot_passes f) (at-map kind_of slots id) ∙ as-item (slice_index_or slots id None) f ∙ sym (ap (slot_passes (λ (item : Item). f item.kind)) (at-map item_of slots id))

-- a search of the index finds the type that stands for a new one
pub finds-equal : (slots : List (Option TypeItem)) (index : List Hashed) (kind : Kind) → IsOrdered None index (kinds_in slots)
    → last_of (kinds_in slots) kind false index ≡ latest_id (merges kind) (table_of slots [])
finds-equal slots index kind o =
    let ks = kinds_in slots in
    let t : Table = table_of slots [] in
    let found = last_of ks kind false index in
    one-highest (λ id. slot_passes (λ (item : Item). merges kind (id, item)) (type_at t id)) found (latest_id (merges kind) t)
    (same-highest (λ id. has id index && is_exactly ks kind false id) (λ id. slot_passes (λ (item : Item). merges kind (id, item)) (type_at t id)) found
    (λ id.
    let f : Kind → Bool = λ k. same_kind k kind && not (names_itself id k) in
    ap (λ (b : Bool). b && is_exactly ks kind false id) (o.listed id)
    ∙ ap (λ (b : Bool). (lives_at ks id && not false) && b) (exactly id (slice_index_or ks id None) kind false)
    ∙ plain-step (slice_index_or ks id None) f
    ∙ seen-alike slots f id)
    (found-highest ks kind false index o.sorted found refl))
    (latest-highest t (merges kind) (latest_id (merges kind) t) (latest-law t (merges kind)))

-- what the index finds for a new type is what stands for it
pub looked-up : (slots : List (Option TypeItem)) (index : List Hashed) (kind : Kind) (next : ℕ) (found : Option ℕ) → IsOrdered None index (kinds_in slots) → next ≡ length slots
    → names_itself next kind ≡ false → found ≡ last_of (kinds_in slots) kind false index → found ≡ equal_type kind (table_of slots [])
looked-up slots index kind next found o is_next apart is =
    is ∙ finds-equal slots index kind o
    ∙ sym (ap (λ (n : ℕ). cond (names_itself n kind) None (latest_id (merges kind) (table_of slots []))) (length-map slots (option_map item_of) ∙ sym is_next)
    ∙ ap (λ (b : Bool). cond b None (latest_id (merges kind) (table_of slots []))) apart)

-- the lent type, if it is of the kind
lent-highest : (ks : List (Option Kind)) (kind : Kind) (lent : Option ℕ)
    → IsHighest (λ id. is_at lent id && slot_passes (λ k. same_kind k kind) (slice_index_or ks id None)) (if_of_kind ks kind lent)
lent-highest ks kind None = λ id. refl
lent-highest ks kind (Some x) =
    let hit : ℕ → Bool = λ id. slot_passes (λ k. same_kind k kind) (slice_index_or ks id None) in
    elim (cases_Bool (hit x)) as (λ _. IsHighest (λ id. (x == id) && hit id) (cond (hit x) (Some x) None)) [
      | inl passes ↦ subst (λ (b : Bool). IsHighest (λ id. (x == id) && hit id) (cond b (Some x) None)) (sym passes) (
        both-true (x == x) (hit x) (eq-eqb x x refl) passes,
        λ y e. let same : x ≡ y = eqb-true x y (of-both (x == y) (hit y) e).0 in omega (arith, same),
      )
      | inr fails ↦ subst (λ (b : Bool). IsHighest (λ id. (x == id) && hit id) (cond b (Some x) None)) (sym fails)
          (λ id. elim (cases_Bool (x == id)) as (λ _. ((x == id) && hit id) ≡ false) [
            | inl same ↦ and_right (x == id) (hit id) (ap hit (sym (eqb-true x id same)) ∙ fails)
            | inr other ↦ ap (λ (b : Bool). b && hit id) other
          ])
    ]

-- in the index among the others or those that name themselves, or lent
parts : (same names lent : Bool) → ((not lent && (same && not names)) || (not lent && (same && names))) || (lent && same) ≡ same
parts true true true = refl
parts true true false = refl
parts true false true = refl
parts true false false = refl
parts false true true = refl
parts false true false = refl
parts false false true = refl
parts false false false = refl

never-both : (lent : Bool) → (lent && false) ≡ false
never-both true = refl
never-both false = refl

all-parts : (id : ℕ) (slot : Option Kind) (kind : Kind) (lent : Bool)
    → (((is_some slot && not lent) && slot_passes (λ k. same_kind k kind && not (names_itself id k)) slot)
    || ((is_some slot && not lent) && slot_passes (λ k. same_kind k kind && names_itself id k) slot))
    || (lent && slot_passes (λ k. same_kind k kind) slot)
    ≡ slot_passes (λ k. same_kind k kind) slot
all-parts id None kind lent = never-both lent
all-parts id (Some k) kind lent = parts (same_kind k kind) (names_itself id k) lent

-- a search of the index for both, and a look at the lent type, find the latest of the kind
pub finds-function : (slots : List (Option TypeItem)) (lent : Option ℕ) (index : List Hashed) (kind : Kind) → IsOrdered lent index (kinds_in slots)
    → later_of (later_of (last_of (kinds_in slots) kind false index) (last_of (kinds_in slots) kind true index)) (if_of_kind (kinds_in slots) kind lent)
    ≡ latest_id (λ e. same_kind e.1.kind kind) (table_of slots [])
finds-function slots lent index kind o =
    let ks = kinds_in slots in
    let t : Table = table_of slots [] in
    let plain = last_of ks kind false index in
    let own = last_of ks kind true index in
    let test : ℕ × Item → Bool = λ e. same_kind e.1.kind kind in
    let p : ℕ → Bool = λ id. has id index && is_exactly ks kind false id in
    let q : ℕ → Bool = λ id. has id index && is_exactly ks kind true id in
    let r : ℕ → Bool = λ id. is_at lent id && slot_passes (λ k. same_kind k kind) (slice_index_or ks id None) in
    one-highest (λ id. slot_passes (λ (item : Item). test (id, item)) (type_at t id)) (later_of (later_of plain own) (if_of_kind ks kind lent)) (latest_id test t)
    (same-highest (λ id. (p id || q id) || r id) (λ id. slot_passes (λ (item : Item). test (id, item)) (type_at t id)) (later_of (later_of plain own) (if_of_kind ks kind lent))
    (λ id.
    let slot = slice_index_or ks id None in
    ap (λ (b : Bool). ((b && is_exactly ks kind false id) || (b && is_exactly ks kind true id)) || r id) (o.listed id)
    ∙ ap (λ (b : Bool). (((lives_at ks id && not (is_at lent id)) && b) || ((lives_at ks id && not (is_at lent id)) && is_exactly ks kind true id)) || r id) (exactly id slot kind false)
    ∙ ap (λ (b : Bool). (((lives_at ks id && not (is_at lent id)) && slot_passes (λ k. same_kind k kind && not (names_itself id k)) slot) || ((lives_at ks id && not (is_at lent id)) && b)) || r id) (exactly id slot kind true)
    ∙ all-parts id slot kind (is_at lent id)
    ∙ seen-alike slots (λ k. same_kind k kind) id)
    (either-highest (λ id. p id || q id) r (later_of plain own) (if_of_kind ks kind lent)
    (either-highest p q plain own (found-highest ks kind false index o.sorted plain refl) (found-highest ks kind true index o.sorted own refl))
    (lent-highest ks kind lent)))
    (latest-highest t test (latest_id test t) (latest-law t test))
