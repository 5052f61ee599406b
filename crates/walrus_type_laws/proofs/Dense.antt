-- Tables in which each id has a type that is written, the members of the groups one after the other.
use Rattle.std.proofs.Common.{◌≡◌, ◌∙◌, ◌≢◌, ℕ, zero, suc, ◌+◌, ◌<◌, inl, inr, Bool, true, false, ◌||◌, AllPairs, List, [], ◌∷◌, ◌++◌, length, map, filter, Option, Some, None, is_some, if◌then◌else◌, refl, sym, ap, subst, arith, length-append}
use Rattle.std.specs.Prelude.{slice_index_or}
use Rattle.std.specs.List.{slice_get, range_with_len, flat_map, list_any}
use Rattle.std.specs.Option.{option_and_then}
use Rattle.std.proofs.lemmas.Bool.{false≢true, cases_lt}
use Rattle.std.proofs.lemmas.List.{append-nil, get_or_past, map-append}
use Rattle.std.proofs.lemmas.List.Concat.{flat_map-append}
use Rattle.std.proofs.lemmas.Option.{same_Some, none-some}
use Rattle.walrus_arena.specs.Arena.{entries_from}
use Rattle.walrus_forms.specs.Kinds.{Kind}
use Rattle.walrus_types.specs.Items.{Item, Group}
use Rattle.walrus_types.specs.Groups.{new_items, group_slot}
use Rattle.walrus_types.specs.Table.{Table, type_at}
use Rattle.walrus_types.specs.Parsing.{with_group}
use Rattle.walrus_types.specs.Emission.{shown_kind, written_kind, is_written, written_groups}
use Rattle.walrus_types.proofs.GroupLemmas.{length-new_items}
use Rattle.walrus_type_laws.specs.Alike.{members, AreHomed}
use Rattle.walrus_types.proofs.Places.{get, has_contains, contains_has, once_to, range_at, at_range, range_once, append_at, unseat, start}
use Rattle.walrus_type_laws.proofs.Written.{types_of, filter_all}

pub record Dense (kinds : List Kind) (gs : List Group) (t : Table) : Type 0 where
  pub types : t.types ≡ new_items 0 kinds
  pub groups : t.groups ≡ map Some gs
  pub plain : (i : ℕ) (k : Kind) → slice_get kinds i ≡ Some k → k.entry ≡ false
  pub listed : flat_map types_of gs ≡ range_with_len 0 (length kinds)
  pub filled : (p : ℕ) (g : Group) → slice_get gs p ≡ Some g → 0 < length g.types

pub items_at : (a : ℕ) (kinds : List Kind) (i j : ℕ) (k : Kind) → a + i ≡ j → slice_get kinds i ≡ Some k → slice_index_or (new_items a kinds) i None ≡ Some (record { id = j; kind = k; name = None })
items_at a [] i j k is at = absurd (none-some k at)
items_at a (x ∷ kinds) zero j k is at =
    let e : a ≡ j = omega (arith, is) in
    ap (λ (y : Kind). let o : Option Item = Some (record { id = a; kind = y; name = None }) in o) (same_Some x k at)
    ∙ ap (λ (n : ℕ). let o : Option Item = Some (record { id = n; kind = k; name = None }) in o) e
items_at a (x ∷ kinds) (suc i) j k is at = items_at (a + 1) kinds i j k (omega (arith, is)) at

entries_some : (a : ℕ) (gs : List Group) → map (λ e. e.1) (entries_from a (map Some gs)) ≡ gs
entries_some a [] = refl
entries_some a (g ∷ gs) = ap (λ (hs : List Group). g ∷ hs) (entries_some (a + 1) gs)

any_first : (f : ℕ → Bool) (xs : List ℕ) (x : ℕ) → slice_get xs 0 ≡ Some x → f x ≡ true → list_any f xs ≡ true
any_first f [] x at is = absurd (none-some x at)
any_first f (y ∷ ys) x at is = ap (λ (b : Bool). b || list_any f ys) (ap f (same_Some y x at) ∙ is)

module _ (kinds : List Kind) (gs : List Group) (t : Table) (dense : Dense kinds gs t) where
  pub dense_length : length t.types ≡ length kinds
  dense_length = ap (λ (xs : List (Option Item)). length xs) dense.types ∙ length-new_items 0 kinds

  pub dense_type : (id : ℕ) (k : Kind) → slice_get kinds id ≡ Some k → type_at t id ≡ Some (record { id = id; kind = k; name = None })
  dense_type id k at = ap (λ (xs : List (Option Item)). slice_index_or xs id None) dense.types ∙ items_at 0 kinds id id k (omega arith) at

  pub dense_written : (id : ℕ) (k : Kind) → slice_get kinds id ≡ Some k → written_kind t id ≡ Some k
  dense_written id k at =
      ap (λ (o : Option Item). option_and_then (λ item. shown_kind item.kind) o) (dense_type id k at)
      ∙ ap (λ (b : Bool). if b then None else Some k) (dense.plain id k at)

  pub dense_below : (id : ℕ) → is_written t id ≡ true → id < length kinds
  dense_below id written = elim (cases_lt id (length kinds)) as (λ _. id < length kinds) [
    | inl less ↦ less
    | inr past ↦
        let none : type_at t id ≡ None = get_or_past t.types id None (omega (arith, past, dense_length)) in
        absurd (false≢true (sym (ap (λ (o : Option Item). is_some (option_and_then (λ item. shown_kind item.kind) o)) none) ∙ written))
  ]

  pub dense_kind : (id : ℕ) (k : Kind) → written_kind t id ≡ Some k → slice_get kinds id ≡ Some k
  dense_kind id k is =
      let x = get kinds id (dense_below id (ap (λ (o : Option Kind). is_some o) is)) in
      x.1 ∙ sym (dense_written id x.0 x.1) ∙ is

  pub dense_is : (id : ℕ) → id < length kinds → is_written t id ≡ true
  dense_is id less = let x = get kinds id less in ap (λ (o : Option Kind). is_some o) (dense_written id x.0 x.1)

  pub dense_member : (p k : ℕ) (g : Group) (id : ℕ) → slice_get gs p ≡ Some g → slice_get g.types k ≡ Some id → id < length kinds
  dense_member p k g id at_p at_k =
      let there = ap (λ (xs : List ℕ). slice_get xs (start types_of gs p + k)) (sym dense.listed) ∙ unseat types_of gs p k g id at_p at_k in
      let r = at_range 0 (length kinds) (start types_of gs p + k) id there in
      omega (arith, r.0, r.1)

  pub dense_groups : written_groups t ≡ gs
  dense_groups =
      let test : Group → Bool = λ group. list_any (is_written t) group.types in
      ap (λ (slots : List (Option Group)). filter test (map (λ e. e.1) (entries_from 0 slots))) dense.groups
      ∙ ap (λ (hs : List Group). filter test hs) (entries_some 0 gs)
      ∙ filter_all test gs (λ p g at.
      let first = get g.types 0 (dense.filled p g at) in
      any_first (is_written t) g.types first.0 first.1 (dense_is first.0 (dense_member p 0 g first.0 at first.1)))

  pub dense_members : members t ≡ range_with_len 0 (length kinds)
  dense_members = ap (λ (hs : List Group). flat_map types_of hs) dense_groups ∙ dense.listed

  pub dense_homed : AreHomed t
  dense_homed = record {
    homed = λ id. (
      λ c.
          let h = contains_has (members t) id c in
          let r = at_range 0 (length kinds) h.0 id (ap (λ (xs : List ℕ). slice_get xs h.0) (sym dense_members) ∙ h.1) in
          dense_is id (omega (arith, r.0, r.1)),
      λ written.
          let less = dense_below id written in
          let e : 0 + id ≡ id = omega arith in
          has_contains (members t) id (id, ap (λ (xs : List ℕ). slice_get xs id) dense_members ∙ range_at 0 (length kinds) id less ∙ ap Some e),
    );
    once = subst (λ (xs : List ℕ). AllPairs (λ x y. x ≢ y) xs) (sym dense_members) (once_to (range_with_len 0 (length kinds)) (range_once 0 (length kinds)));
  }

-- one more group
pub range_append : (a m b c n : ℕ) → a + m ≡ b → m + c ≡ n → range_with_len a m ++ range_with_len b c ≡ range_with_len a n
range_append a zero b c n first total =
    let e : b ≡ a = omega (arith, first) in
    let f : c ≡ n = omega (arith, total) in
    ap (λ (x : ℕ). range_with_len x c) e ∙ ap (λ (x : ℕ). range_with_len a x) f
range_append a (suc m) b c zero first total = absurd (omega (arith, total))
range_append a (suc m) b c (suc n) first total = ap (λ (xs : List ℕ). a ∷ xs) (range_append (a + 1) m b c n (omega (arith, first)) (omega (arith, total)))

pub items_append : (a b : ℕ) (ks ls : List Kind) → a + length ks ≡ b → new_items a ks ++ new_items b ls ≡ new_items a (ks ++ ls)
items_append a b [] ls is = let e : b ≡ a = omega (arith, is) in ap (λ (n : ℕ). new_items n ls) e
items_append a b (k ∷ ks) ls is =
    ap (λ (xs : List (Option Item)). Some (record { id = a; kind = k; name = None }) ∷ xs) (items_append (a + 1) b ks ls (omega (arith, is)))

-- the group of these members, none where there are none
abbrev pub one_group : Bool → List ℕ → List Group
one_group explicit [] = []
one_group explicit (id ∷ ids) = record { explicit = explicit; types = id ∷ ids } ∷ []

pub slot_is : (explicit : Bool) (ids : List ℕ) → group_slot explicit ids ≡ map Some (one_group explicit ids)
slot_is explicit [] = refl
slot_is explicit (id ∷ ids) = refl

pub one_types : (explicit : Bool) (ids : List ℕ) → flat_map types_of (one_group explicit ids) ≡ ids
one_types explicit [] = refl
one_types explicit (id ∷ ids) = append-nil (id ∷ ids)

pub one_is : (explicit : Bool) (ids : List ℕ) → 0 < length ids → one_group explicit ids ≡ record { explicit = explicit; types = ids } ∷ []
one_is explicit [] some = absurd (omega (arith, some))
one_is explicit (id ∷ ids) some = refl

pub of_one : (explicit : Bool) (ids : List ℕ) (p : ℕ) (g : Group) → slice_get (one_group explicit ids) p ≡ Some g → (g ≡ record { explicit = explicit; types = ids }) × (0 < length ids)
of_one explicit [] p g at = absurd (none-some g at)
of_one explicit (id ∷ ids) zero g at = (sym (same_Some (record { explicit = explicit; types = id ∷ ids }) g at), omega arith)
of_one explicit (id ∷ ids) (suc p) g at = absurd (none-some g at)

pub dense_more : (kinds ks : List Kind) (gs : List Group) (t : Table) (explicit : Bool) → Dense kinds gs t → ((i : ℕ) (k : Kind) → slice_get ks i ≡ Some k → k.entry ≡ false)
    → Dense (kinds ++ ks) (gs ++ one_group explicit (range_with_len (length kinds) (length ks))) (with_group explicit ks t)
dense_more kinds ks gs t explicit dense plain =
    let n : ℕ = length kinds in
    let len : length t.types ≡ n = dense_length kinds gs t dense in
    let ids : List ℕ = range_with_len n (length ks) in
    record {
      types =
          ap (λ (xs : List (Option Item)). xs ++ new_items (length t.types) ks) dense.types
          ∙ ap (λ (m : ℕ). new_items 0 kinds ++ new_items m ks) len
          ∙ items_append 0 n kinds ks (omega arith);
      groups =
          ap (λ (xs : List (Option Group)). xs ++ group_slot explicit (range_with_len (length t.types) (length ks))) dense.groups
          ∙ ap (λ (m : ℕ). map Some gs ++ group_slot explicit (range_with_len m (length ks))) len
          ∙ ap (λ (xs : List (Option Group)). map Some gs ++ xs) (slot_is explicit ids)
          ∙ sym (map-append Some gs (one_group explicit ids));
      plain = λ i k at. elim (append_at kinds ks i k at) as (λ _. k.entry ≡ false) [
        | inl old ↦ dense.plain i k old
        | inr new ↦ plain new.0 k new.2
      ];
      listed =
          flat_map-append types_of gs (one_group explicit ids)
          ∙ ap (λ (xs : List ℕ). xs ++ flat_map types_of (one_group explicit ids)) dense.listed
          ∙ ap (λ (xs : List ℕ). range_with_len 0 n ++ xs) (one_types explicit ids)
          ∙ range_append 0 n n (length ks) (length (kinds ++ ks)) (omega arith) (sym (length-append kinds ks));
      filled = λ p g at. elim (append_at gs (one_group explicit ids) p g at) as (λ _. 0 < length g.types) [
        | inl old ↦ dense.filled p g old
        | inr new ↦
            let o = of_one explicit ids new.0 g new.2 in
            subst (λ (w : Group). 0 < length w.types) (sym o.0) o.1
      ];
    }
