-- New recursion groups.
use Rattle.std.proofs.Common.{◌≡◌, ◌≢◌, ◌∙◌, ℕ, zero, suc, ◌+◌, ◌-◌, ◌<◌, Bool, List, [], ◌∷◌, ◌++◌, length, map, Contains, AllPairs, Option, Some, None, slice_index, slice_index_or, refl, sym, ap, arith, ⊎_elim, subst, length-append, add-one, cond}
use Rattle.std.specs.List.{range_with_len}
use Rattle.std.specs.Option.{option_map}
use Rattle.std.proofs.lemmas.Bool.{cases_lt}
use Rattle.std.proofs.lemmas.List.{get_or_append_left, length-map, map-append}
use Rattle.std.proofs.lemmas.List.FromFn.{length-range_with_len, get_or-range_with_len}
use Rattle.std.proofs.Math.Seq.{get_or-append_right}
use Rattle.walrus_type_index.specs.walrus_items.walrus_arena.Arena.{entries_from}
use Rattle.walrus_type_index.proofs.walrus_forms.walrus_arena.ArenaLemmas.{live-within, at-kept, at-last, at-push}
use Rattle.walrus_type_index.specs.walrus_items.declared.subtype.Type.{«Type» as TypeItem}
use Rattle.walrus_type_index.specs.walrus_items.Items.{Item, Group, item_of, group_of}
use Rattle.walrus_type_index.specs.walrus_items.walrus_forms.Kinds.{Kind}
use Rattle.walrus_type_index.specs.walrus_items.declared.subtype.RecGroup.{RecGroup}
use Rattle.walrus_type_arenas.specs.Groups.{new_items, group_slot, AddsGroup}
use Rattle.walrus_type_arenas.specs.Table.{Table, next_id, latest_in, table_of, IsGrouped}
use Rattle.walrus_type_arenas.proofs.TableLemmas.{rise-more}

-- one more number
pub range-more : (n a b : ℕ) → a + n ≡ b → range_with_len a (n + 1) ≡ range_with_len a n ++ b ∷ []
range-more zero a b is = let e : a ≡ b = omega arith in ap (λ (x : ℕ). x ∷ []) e
range-more (suc n) a b is =
    ap (λ (k : ℕ). range_with_len a k) (add-one (suc n))
    ∙ ap (λ (xs : List ℕ). a ∷ xs) (sym (ap (λ (k : ℕ). range_with_len (a + 1) k) (add-one n)) ∙ range-more n (a + 1) b (omega arith))

-- as many new types as kinds, each of them alive
pub length-new_items : (id : ℕ) (kinds : List Kind) → length (new_items id kinds) ≡ length kinds
length-new_items id [] = refl
length-new_items id (k ∷ ks) = ap (λ (n : ℕ). suc n) (length-new_items (id + 1) ks)

pub new-some : (id : ℕ) (kinds : List Kind) (i : ℕ) → i < length kinds → (item : Item) × (slice_index_or (new_items id kinds) i None ≡ Some item)
new-some id [] i less = absurd (omega arith)
new-some id (k ∷ ks) zero less = (_, refl)
new-some id (k ∷ ks) (suc i) less = new-some (id + 1) ks i (omega arith)

-- a new group with its members
pub grouped-group : (types news : List (Option Item)) (groups : List (Option Group)) (homes tail : List ℕ) (count home : ℕ) (explicit : Bool)
    → IsGrouped types groups homes → length groups ≡ home → length news ≡ count → length tail ≡ count
    → ((i : ℕ) → i < count → slice_index tail i ≡ home)
    → ((i : ℕ) → i < count → (item : Item) × (slice_index_or news i None ≡ Some item))
    → IsGrouped (types ++ news) (groups ++ Some (record { explicit = explicit; types = range_with_len (length types) count }) ∷ []) (homes ++ tail)
grouped-group types news groups homes tail count home explicit g is_home sized_news sized_tail at_tail at_news =
    let alone : Group = record { explicit = explicit; types = range_with_len (length types) count } in
    let later : (i : ℕ) → i < count → slice_index (homes ++ tail) (length types + i) ≡ home =
    λ i less. get_or-append_right homes tail (length types + i) 0 (omega (arith, g.sized))
    ∙ ap (λ (k : ℕ). slice_index tail k) (let e : length types + i - length homes ≡ i = omega (arith, g.sized) in e) ∙ at_tail i less in
    let new_at : (i : ℕ) → slice_index_or (types ++ news) (length types + i) None ≡ slice_index_or news i None =
    λ i. get_or-append_right types news (length types + i) None (omega arith)
    ∙ ap (λ (k : ℕ). slice_index_or news k None) (let e : length types + i - length types ≡ i = omega arith in e) in
    record {
      sized = omega (arith, length-append homes tail, length-append types news, g.sized);
      listed = λ other x at. ⊎_elim
          (λ less.
          let h = g.listed other x (sym (get_or_append_left types news None other less) ∙ at) in
          let same_home : slice_index (homes ++ tail) other ≡ slice_index homes other = get_or_append_left homes tail 0 other (omega (arith, g.sized)) in (
            h.0,
            ap (λ (i : ℕ). slice_index_or (groups ++ Some alone ∷ []) i None) same_home
                ∙ at-kept groups (Some alone) (slice_index homes other) (live-within groups (slice_index homes other) h.0 h.1) ∙ h.1,
            h.2,
          ))
          (λ past.
          let k : ℕ = other - length types in
          let is : length types + k ≡ other = omega arith in
          let there : slice_index_or news k None ≡ Some x = sym (new_at k) ∙ ap (λ (i : ℕ). slice_index_or (types ++ news) i None) is ∙ at in
          let less : k < count = omega (arith, live-within news k x there, sized_news) in
          let this_home : slice_index (homes ++ tail) other ≡ home = ap (λ (i : ℕ). slice_index (homes ++ tail) i) (sym is) ∙ later k less in (
            alone,
            ap (λ (i : ℕ). slice_index_or (groups ++ Some alone ∷ []) i None) this_home ∙ at-last groups (Some alone) home is_home,
            (k, omega (arith, length-range_with_len (length types) count), get_or-range_with_len (length types) count k other less ∙ is),
          ))
          (cases_lt other (length types));
      member = λ place h at other in_it. ⊎_elim
          (λ old.
          let m = g.member place h old other in_it in
          let within = live-within types other m.0 m.1 in
          (m.0, get_or_append_left types news None other within ∙ m.1, get_or_append_left homes tail 0 other (omega (arith, g.sized)) ∙ m.2))
          (λ last.
          let range_in : Contains (range_with_len (length types) count) other = subst (λ (x : Group). Contains x.types other) last.1 in_it in
          let less : range_in.0 < count = omega (arith, range_in.1, length-range_with_len (length types) count) in
          let is : length types + range_in.0 ≡ other = sym (get_or-range_with_len (length types) count range_in.0 other less) ∙ range_in.2 in
          let item = at_news range_in.0 less in (
            item.0,
            ap (λ (i : ℕ). slice_index_or (types ++ news) i None) (sym is) ∙ new_at range_in.0 ∙ item.1,
            ap (λ (i : ℕ). slice_index (homes ++ tail) i) (sym is) ∙ later range_in.0 less ∙ sym is_home ∙ sym last.0,
          ))
          (at-push groups alone h place at);
      once = λ place h at. ⊎_elim
          (λ old. g.once place h old)
          (λ last. subst (λ (x : Group). AllPairs (λ a b. a ≢ b) x.types) (sym last.1)
          (λ i j d less within.
          let bound : j < count = omega (arith, within, length-range_with_len (length types) count) in
          λ same.
          let a = get_or-range_with_len (length types) count i d (omega arith) in
          let b = get_or-range_with_len (length types) count j d bound in
          omega (arith, a, b, same)))
          (at-push groups alone h place at);
      homes_rise = rise-more homes tail (length groups) (length (groups ++ Some alone ∷ [])) g.homes_rise (omega (arith, length-append groups (Some alone ∷ [])))
          (λ k less. at_tail k (omega arith) ∙ sym is_home);
    }

-- types that were made, as a table shows them
pub shown-made : (made : List TypeItem) → map (option_map item_of) (map (λ (x : TypeItem). Some x) made) ≡ map (λ (x : TypeItem). Some (item_of x)) made
shown-made [] = refl
shown-made (x ∷ made) = ap (λ (xs : List (Option Item)). Some (item_of x) ∷ xs) (shown-made made)

pub entries_from-append : {X : Type 0} (id : ℕ) (xs ys : List (Option X)) (next : ℕ) → id + length xs ≡ next
    → entries_from id (xs ++ ys) ≡ entries_from id xs ++ entries_from next ys
entries_from-append id [] ys next is = let e : id ≡ next = omega arith in ap (λ (k : ℕ). entries_from k ys) e
entries_from-append id (None ∷ xs) ys next is = entries_from-append (id + 1) xs ys next (omega arith)
entries_from-append {X} id (Some x ∷ xs) ys next is = ap (λ (es : List (ℕ × X)). (id, x) ∷ es) (entries_from-append (id + 1) xs ys next (omega arith))

pub latest_in-append : (xs ys : List (ℕ × Item)) (test : ℕ × Item → Bool) (found : Option ℕ)
    → latest_in test found (xs ++ ys) ≡ latest_in test (latest_in test found xs) ys
latest_in-append [] ys test found = refl
latest_in-append (x ∷ xs) ys test found = latest_in-append xs ys test (cond (test x) (Some x.0) found)

-- each of a list of one value is that value
pub const-at : {X : Type 0} (xs : List X) (home i : ℕ) → i < length xs → slice_index (map (λ (x : X). home) xs) i ≡ home
const-at [] home i less = absurd (omega arith)
const-at (x ∷ xs) home zero less = refl
const-at (x ∷ xs) home (suc i) less = const-at xs home i (omega arith)

-- a new group in a table
pub group-pushed : (types : List (Option TypeItem)) (groups : List (Option RecGroup)) (homes : List ℕ) (made : List TypeItem) (kinds : List Kind)
    (group : RecGroup) (n home : ℕ) (explicit : Bool)
    → IsGrouped (map (option_map item_of) types) (map (option_map group_of) groups) homes
    → length types ≡ n → length groups ≡ home
    → map (λ (x : TypeItem). Some (item_of x)) made ≡ new_items n kinds
    → group_of group ≡ record { explicit = explicit; types = range_with_len n (length kinds) }
    → IsGrouped (map (option_map item_of) (types ++ map (λ (x : TypeItem). Some x) made)) (map (option_map group_of) (groups ++ Some group ∷ [])) (homes ++ map (λ (x : TypeItem). home) made)
group-pushed types groups homes made kinds group n home explicit g is_n is_home shown alone =
    let count_types : n ≡ length (map (option_map item_of) types) = sym (length-map types (option_map item_of) ∙ is_n) in
    let there : map (λ (x : TypeItem). Some (item_of x)) made ≡ new_items (length (map (option_map item_of) types)) kinds =
    shown ∙ ap (λ (k : ℕ). new_items k kinds) count_types in
    let more_types : map (option_map item_of) (types ++ map (λ (x : TypeItem). Some x) made) ≡ map (option_map item_of) types ++ new_items (length (map (option_map item_of) types)) kinds =
    map-append (option_map item_of) types (map (λ (x : TypeItem). Some x) made)
    ∙ ap (λ (xs : List (Option Item)). map (option_map item_of) types ++ xs) (shown-made made ∙ there) in
    let alone_here : group_of group ≡ record { explicit = explicit; types = range_with_len (length (map (option_map item_of) types)) (length kinds) } =
    alone ∙ ap (λ (k : ℕ). let h : Group = record { explicit = explicit; types = range_with_len k (length kinds) } in h) count_types in
    let more_groups : map (option_map group_of) (groups ++ Some group ∷ [])
    ≡ map (option_map group_of) groups ++ Some (record { explicit = explicit; types = range_with_len (length (map (option_map item_of) types)) (length kinds) }) ∷ [] =
    map-append (option_map group_of) groups (Some group ∷ []) ∙ ap (λ (h : Group). map (option_map group_of) groups ++ Some h ∷ []) alone_here in
    let count_made : length made ≡ length kinds =
    sym (length-map made (λ (x : TypeItem). Some (item_of x))) ∙ ap (λ (xs : List (Option Item)). length xs) shown ∙ length-new_items n kinds in
    rw (more_types, more_groups)
    (grouped-group (map (option_map item_of) types) (new_items (length (map (option_map item_of) types)) kinds) (map (option_map group_of) groups) homes
    (map (λ (x : TypeItem). home) made) (length kinds) home explicit g
    (length-map groups (option_map group_of) ∙ is_home)
    (length-new_items (length (map (option_map item_of) types)) kinds)
    (length-map made (λ (x : TypeItem). home) ∙ count_made)
    (λ i less. const-at made home i (omega arith))
    (new-some (length (map (option_map item_of) types)) kinds))

-- as many types are made as there are kinds
pub made-length : (made : List TypeItem) (kinds : List Kind) (n : ℕ) → map (λ (x : TypeItem). Some (item_of x)) made ≡ new_items n kinds
    → length made ≡ length kinds
made-length made kinds n shown =
    sym (length-map made (λ (x : TypeItem). Some (item_of x))) ∙ ap (λ (xs : List (Option Item)). length xs) shown ∙ length-new_items n kinds

-- a group with a member takes a slot
some-slot : (explicit : Bool) (n count : ℕ) → 0 < count → group_slot explicit (range_with_len n count) ≡ Some (record { explicit = explicit; types = range_with_len n count }) ∷ []
some-slot explicit n zero some = absurd (omega arith)
some-slot explicit n (suc count) some = refl

-- the table with a new group is as it should be
pub adds-group : (types : List (Option TypeItem)) (groups : List (Option RecGroup)) (made : List TypeItem) (kinds : List Kind) (group : RecGroup) (n : ℕ) (explicit : Bool) (t : Table)
    → table_of types groups ≡ t → length types ≡ n
    → map (λ (x : TypeItem). Some (item_of x)) made ≡ new_items n kinds
    → group_of group ≡ record { explicit = explicit; types = range_with_len n (length kinds) }
    → 0 < length kinds
    → AddsGroup explicit kinds t (table_of (types ++ map (λ (x : TypeItem). Some x) made) (groups ++ Some group ∷ []))
adds-group types groups made kinds group n explicit t view is_n shown alone some =
    let next : n ≡ next_id t = sym (length-map types (option_map item_of) ∙ is_n) ∙ ap (λ (u : Table). length u.types) view in
    record {
      types =
          map-append (option_map item_of) types (map (λ (x : TypeItem). Some x) made)
          ∙ ap (λ (xs : List (Option Item)). map (option_map item_of) types ++ xs) (shown-made made ∙ shown ∙ ap (λ (k : ℕ). new_items k kinds) next)
          ∙ ap (λ (u : Table). u.types ++ new_items (next_id t) kinds) view;
      groups =
          map-append (option_map group_of) groups (Some group ∷ [])
          ∙ ap (λ (h : Group). map (option_map group_of) groups ++ Some h ∷ []) alone
          ∙ ap (λ (xs : List (Option Group)). map (option_map group_of) groups ++ xs) (sym (some-slot explicit n (length kinds) some))
          ∙ ap (λ (k : ℕ). map (option_map group_of) groups ++ group_slot explicit (range_with_len k (length kinds))) next
          ∙ ap (λ (u : Table). u.groups ++ group_slot explicit (range_with_len (next_id t) (length kinds))) view;
    }

-- the next id of a table
pub next-seen : (types : List (Option TypeItem)) (groups : List (Option RecGroup)) (n : ℕ) (t : Table) → table_of types groups ≡ t → n ≡ length types → n ≡ next_id t
next-seen types groups n t view is = is ∙ sym (length-map types (option_map item_of)) ∙ ap (λ (u : Table). length u.types) view
