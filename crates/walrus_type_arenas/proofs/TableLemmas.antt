-- The table over its adds, deletes and writes: groups and index.
use Rattle.std.proofs.Common.{◌≡◌, ◌∙◌, ℕ, ◌+◌, ◌-◌, ◌<◌, ◌≤◌, Bool, cond, List, [], ◌∷◌, ◌++◌, length, map, Contains, Option, Some, None, slice_index, slice_index_or, slice_set, refl, sym, ap, arith, ◌⊎◌, inl, inr, ⊎_elim, length-append, IsSome, Bor, subst}
use Rattle.std.specs.Option.{option_map, option_copied, MatchOption}
use Rattle.std.proofs.lemmas.Bool.{cases_eq, cases_lt}
use Rattle.std.proofs.lemmas.List.{get_or_push, get_or_append_left, get_or-set_same, length-set}
use Rattle.std.proofs.Math.ListN.{get_or-map}
use Rattle.std.proofs.Math.Seq.{get_or-append_right}
use Rattle.walrus_type_index.specs.walrus_items.walrus_arena.Arena.{entries_from}
use Rattle.walrus_type_index.proofs.walrus_forms.walrus_arena.ArenaLemmas.{live-within, at-kept, at-last, at-push, at-other}
use Rattle.walrus_type_index.specs.walrus_items.declared.subtype.Type.{«Type» as TypeItem}
use Rattle.walrus_type_index.specs.walrus_items.declared.subtype.RecGroup.{RecGroup}
use Rattle.walrus_type_index.specs.walrus_items.Items.{Item, Group, item_of, group_of}
use Rattle.walrus_type_arenas.specs.Table.{Table, HasMember, group_at, entries, latest_in, table_of, RiseBelow, IsGrouped}

-- a look-up in mapped slots
pub at-map : {X Y : Type 0} (f : X → Y) (slots : List (Option X)) (id : ℕ) → slice_index_or (map (option_map f) slots) id None ≡ option_map f (slice_index_or slots id None)
at-map f slots id = get_or-map (option_map f) slots id None

-- the entries of mapped slots
pub entries_from-map : {X Y : Type 0} (f : X → Y) (id : ℕ) (slots : List (Option X))
    → entries_from id (map (option_map f) slots) ≡ map (λ (e : ℕ × X). (e.0, f e.1)) (entries_from id slots)
entries_from-map f id [] = refl
entries_from-map f id (None ∷ rest) = entries_from-map f (id + 1) rest
entries_from-map {X} {Y} f id (Some x ∷ rest) = ap (λ (es : List (ℕ × Y)). (id, f x) ∷ es) (entries_from-map f (id + 1) rest)

-- one more entry is the latest if it passes
pub latest_in-push : (es : List (ℕ × Item)) (test : ℕ × Item → Bool) (found : Option ℕ) (e : ℕ × Item)
    → latest_in test found (es ++ e ∷ []) ≡ cond (test e) (Some e.0) (latest_in test found es)
latest_in-push [] test found e = refl
latest_in-push (first ∷ rest) test found e = latest_in-push rest test (cond (test first) (Some first.0) found) e

-- a number of a list, or one of those behind it
rise-cases : (xs tail : List ℕ) (x i : ℕ) → ((k : ℕ) → k < length tail → slice_index tail k ≡ x) → i < length (xs ++ tail)
    → ((i < length xs) × (slice_index (xs ++ tail) i ≡ slice_index xs i)) ⊎ ((length xs ≤ i) × (slice_index (xs ++ tail) i ≡ x))
rise-cases xs tail x i all less = ⊎_elim
    (λ before. inl (before, get_or_append_left xs tail 0 i before))
    (λ past. inr (
      omega arith,
      get_or-append_right xs tail i 0 (omega arith) ∙ all (i - length xs) (omega (arith, length-append xs tail)),
    ))
    (cases_lt i (length xs))

-- more numbers, all of them the bound before
pub rise-more : (xs tail : List ℕ) (count more : ℕ) → RiseBelow count xs → count < more
    → ((k : ℕ) → k < length tail → slice_index tail k ≡ count) → RiseBelow more (xs ++ tail)
rise-more xs tail count more r less all = record {
  below = λ i within. ⊎_elim
      (λ old. let h = r.below i old.0 in omega (arith, old.1))
      (λ new. omega (arith, new.1))
      (rise-cases xs tail count i all within);
  rising = λ i j first within. ⊎_elim
      (λ old. let here = get_or_append_left xs tail 0 i (omega (arith, old.0)) in let h = r.rising i j first old.0 in omega (arith, old.1, here))
      (λ new. ⊎_elim
      (λ old. let h = r.below i old.0 in omega (arith, old.1, new.1))
      (λ later. omega (arith, later.1, new.1))
      (rise-cases xs tail count i all (omega arith)))
      (rise-cases xs tail count j all within);
}

-- no types, no groups
pub grouped-nil : IsGrouped [] [] []
grouped-nil = record {
  sized = refl;
  listed = λ id item at. absurd cc;
  member = λ group g at id in_it. absurd cc;
  once = λ group g at. absurd cc;
  homes_rise = record { below = λ i less. absurd (omega arith); rising = λ i j less within. absurd (omega arith) };
}

-- a type is written over a live one
pub grouped-written : (types : List (Option Item)) (groups : List (Option Group)) (homes : List ℕ) (id : ℕ) (old new : Item)
    → IsGrouped types groups homes → slice_index_or types id None ≡ Some old
    → IsGrouped (slice_set types id (Some new)) groups homes
grouped-written types groups homes id old new g live =
    let within = live-within types id old live in
    record {
      sized = g.sized ∙ sym (length-set types id (Some new));
      listed = λ other item at. ⊎_elim
          (λ same.
          let there : slice_index_or types other None ≡ Some old = ap (λ (i : ℕ). slice_index_or types i None) same ∙ live in
          g.listed other old there)
          (λ apart. g.listed other item (sym (at-other types (Some new) id other apart) ∙ at))
          (cases_eq other id);
      member = λ group h at other in_it.
          let m = g.member group h at other in_it in
          ⊎_elim
          (λ same.
          let here : slice_index_or (slice_set types id (Some new)) other None ≡ Some new =
          ap (λ (i : ℕ). slice_index_or (slice_set types id (Some new)) i None) same ∙ get_or-set_same types id (Some new) None within in
          (new, here, m.2))
          (λ apart. (m.0, at-other types (Some new) id other apart ∙ m.1, m.2))
          (cases_eq other id);
      once = g.once;
      homes_rise = g.homes_rise;
    }

-- a list of one has that one alone
only-member : (xs : List ℕ) (id other : ℕ) → xs ≡ id ∷ [] → Contains xs other → other ≡ id
only-member xs id other is (k, less, at) =
    let few : k < 1 = let n : length xs ≡ 1 = ap (λ (ys : List ℕ). length ys) is in omega arith in
    let zeroth : k ≡ 0 = omega arith in
    sym at ∙ ap (λ (ys : List ℕ). slice_index_or ys k other) is ∙ ap (λ (i : ℕ). slice_index_or (id ∷ []) i other) zeroth

-- one more type, in a group of its own
pub grouped-added : (types : List (Option Item)) (groups : List (Option Group)) (homes : List ℕ) (id home : ℕ) (item : Item) (explicit : Bool)
    → IsGrouped types groups homes → length types ≡ id → length groups ≡ home
    → IsGrouped (types ++ Some item ∷ []) (groups ++ Some (record { explicit = explicit; types = id ∷ [] }) ∷ []) (homes ++ home ∷ [])
grouped-added types groups homes id home item explicit g is_id is_home =
    let alone : Group = record { explicit = explicit; types = id ∷ [] } in
    record {
      sized = omega (arith, length-append homes (home ∷ []), length-append types (Some item ∷ []), g.sized);
      listed = λ other x at. ⊎_elim
          (λ old.
          let h = g.listed other x old in
          let within = live-within types other x old in
          let same_home : slice_index (homes ++ home ∷ []) other ≡ slice_index homes other = get_or_append_left homes (home ∷ []) 0 other (omega (arith, g.sized)) in
          let at_home : slice_index_or (groups ++ Some alone ∷ []) (slice_index (homes ++ home ∷ []) other) None ≡ Some h.0 =
          ap (λ (i : ℕ). slice_index_or (groups ++ Some alone ∷ []) i None) same_home
          ∙ at-kept groups (Some alone) (slice_index homes other) (live-within groups (slice_index homes other) h.0 h.1) ∙ h.1 in
          (h.0, at_home, h.2))
          (λ last.
          let this_home : slice_index (homes ++ home ∷ []) other ≡ home = get_or_push homes home 0 other (g.sized ∙ sym last.0) in
          let at_home : slice_index_or (groups ++ Some alone ∷ []) (slice_index (homes ++ home ∷ []) other) None ≡ Some alone =
          ap (λ (i : ℕ). slice_index_or (groups ++ Some alone ∷ []) i None) this_home ∙ at-last groups (Some alone) home is_home in
          (alone, at_home, (0, omega arith, sym is_id ∙ sym last.0)))
          (at-push types item x other at);
      member = λ group h at other in_it. ⊎_elim
          (λ old.
          let m = g.member group h old other in_it in
          let within = live-within types other m.0 m.1 in
          let same_home : slice_index (homes ++ home ∷ []) other ≡ slice_index homes other =
          get_or_append_left homes (home ∷ []) 0 other (omega (arith, g.sized)) in
          (m.0, at-kept types (Some item) other within ∙ m.1, same_home ∙ m.2))
          (λ last.
          let this : other ≡ id = only-member h.types id other (ap (λ (x : Group). x.types) last.1) in_it in
          let here : slice_index_or (types ++ Some item ∷ []) other None ≡ Some item =
          ap (λ (i : ℕ). slice_index_or (types ++ Some item ∷ []) i None) this ∙ at-last types (Some item) id is_id in
          let this_home : slice_index (homes ++ home ∷ []) other ≡ home = get_or_push homes home 0 other (g.sized ∙ is_id ∙ sym this) in
          (item, here, this_home ∙ sym is_home ∙ sym last.0))
          (at-push groups alone h group at);
      once = λ group h at. ⊎_elim
          (λ old. g.once group h old)
          (λ last. λ i j d less within.
          let n : length h.types ≡ 1 = ap (λ (x : Group). length x.types) last.1 in
          absurd (omega arith))
          (at-push groups alone h group at);
      homes_rise = rise-more homes (home ∷ []) (length groups) (length (groups ++ Some alone ∷ [])) g.homes_rise (omega (arith, length-append groups (Some alone ∷ [])))
          (λ k less. ap (λ (i : ℕ). slice_index (home ∷ []) i) (let zeroth : k ≡ 0 = omega arith in zeroth) ∙ sym is_home);
    }

-- the entries of a table, from those of its types
pub entries-seen : (slots : List (Option TypeItem)) (t : Table) (es : List (ℕ × TypeItem)) (groups : List (Option RecGroup))
    → es ≡ entries_from 0 slots → table_of slots groups ≡ t
    → map (λ (e : ℕ × TypeItem). (e.0, item_of e.1)) es ≡ entries t
entries-seen slots t es groups is view =
    ap (λ (xs : List (ℕ × TypeItem)). map (λ (e : ℕ × TypeItem). (e.0, item_of e.1)) xs) is
    ∙ sym (entries_from-map item_of 0 slots)
    ∙ ap (λ (u : Table). entries u) view

-- the items of entries of mapped slots
pub items-seen : {X Y : Type 0} (f : X → Y) (id : ℕ) (slots : List (Option X))
    → map (λ (e : ℕ × X). f e.1) (entries_from id slots) ≡ map (λ (e : ℕ × Y). e.1) (entries_from id (map (option_map f) slots))
items-seen f id [] = refl
items-seen f id (None ∷ rest) = items-seen f (id + 1) rest
items-seen {X} {Y} f id (Some x ∷ rest) = ap (λ (ys : List Y). f x ∷ ys) (items-seen f (id + 1) rest)

-- what a slot holds, where it holds something
pub held : {X : Type 0} (o : Option X) → IsSome o → (x : X) × (o ≡ Some x)
held None h = absurd cc
held (Some x) h = (x, refl)

-- a group that was found, as the table sees it
pub match-group : (r : Option (Bor RecGroup)) (o : Option RecGroup) (g : Group) (P : Type 0) (Q : Group → Type 0)
    → option_copied r ≡ o → option_map group_of o ≡ Some g → Q g → MatchOption r P (λ b. Q (group_of b.now))
match-group None o g P Q is seen q =
    let none : option_map group_of o ≡ None = ap (option_map group_of) (sym is) in absurd cc
match-group (Some b) o g P Q is seen q =
    let some : Some (group_of b.now) ≡ Some g = ap (option_map group_of) is ∙ seen in
    let same : g ≡ group_of b.now = cc in
    subst Q same q

-- the home of a live type lists it
pub home-lists : (types : List (Option TypeItem)) (groups : List (Option RecGroup)) (homes : List ℕ) (t : Table) (id : ℕ)
    → IsGrouped (map (option_map item_of) types) (map (option_map group_of) groups) homes
    → table_of types groups ≡ t → IsSome (slice_index_or types id None)
    → (g : Group) × (option_map group_of (slice_index_or groups (slice_index homes id) None) ≡ Some g) × HasMember t id g × (id < length homes)
home-lists types groups homes t id grouped view live =
    let h = held (slice_index_or types id None) live in
    let listed = grouped.listed id (item_of h.0) (at-map item_of types id ∙ ap (option_map item_of) h.1) in (
      listed.0,
      sym (at-map group_of groups (slice_index homes id)) ∙ listed.1,
      record {
        place = slice_index homes id;
        live = ap (λ (u : Table). group_at u (slice_index homes id)) (sym view) ∙ listed.1;
        listed = listed.2;
      },
      omega (arith, grouped.sized, live-within (map (option_map item_of) types) id (item_of h.0) (at-map item_of types id ∙ ap (option_map item_of) h.1)),
    )
