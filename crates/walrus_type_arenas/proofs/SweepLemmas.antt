-- The table over the deletion of many types: its groups are swept one by one.
use Rattle.std.proofs.Common.{◌≡◌, ◌≢◌, ◌∙◌, ℕ, zero, suc, ◌+◌, ◌≤◌, Bool, false, not, List, [], ◌∷◌, length, map, filter, add-one, Contains, AllPairs, Option, Some, None, slice_index, slice_index_or, slice_set, refl, sym, ap, arith, subst, IsSome}
use Rattle.std.specs.Prelude.{is_some, IsTrue}
use Rattle.std.specs.Option.{option_map, option_and_then}
use Rattle.std.proofs.lemmas.Bool.{false≢true}
use Rattle.std.proofs.lemmas.List.{length-map, map-set, set-get_or}
use Rattle.std.proofs.lemmas.List.Kept.{AllPairs-filter}
use Rattle.std.proofs.Math.ListN.{get_or-map}
use Rattle.walrus_type_index.specs.Ordered.{is_marked}
use Rattle.walrus_type_index.specs.walrus_items.declared.subtype.RecGroup.{RecGroup}
use Rattle.walrus_type_index.specs.walrus_items.Items.{Item, Group, group_of}
use Rattle.walrus_type_arenas.specs.Table.{IsGrouped, RiseBelow, nonempty_group, with_live, without_marked, clear_all}
use Rattle.walrus_type_arenas.proofs.TableLemmas.{at-map, held}
use Rattle.walrus_type_arenas.proofs.DeleteLemmas.{nonempty-some, contains-filter, filter-contains, nothing, length-clear_all, at-cleared}

-- what is left of so many of the groups, and then the others
abbrev pub swept_to : (Option Group → Option Group) → ℕ → List (Option Group) → List (Option Group)
swept_to f zero slots = slots
swept_to f (suc k) [] = []
swept_to f (suc k) (slot ∷ slots) = f slot ∷ swept_to f k slots

-- one more
swept-more : (f : Option Group → Option Group) (k : ℕ) (slots : List (Option Group))
    → slice_set (swept_to f k slots) k (f (slice_index_or slots k None)) ≡ swept_to f (suc k) slots
swept-more f zero [] = refl
swept-more f zero (slot ∷ slots) = refl
swept-more f (suc k) [] = refl
swept-more f (suc k) (slot ∷ slots) = ap (λ (rest : List (Option Group)). f slot ∷ rest) (swept-more f k slots)

swept-here : (f : Option Group → Option Group) (k : ℕ) (slots : List (Option Group)) → slice_index_or (swept_to f k slots) k None ≡ slice_index_or slots k None
swept-here f zero slots = refl
swept-here f (suc k) [] = refl
swept-here f (suc k) (slot ∷ slots) = swept-here f k slots

-- all of them
pub swept-all : (f : Option Group → Option Group) (k : ℕ) (slots : List (Option Group)) → length slots ≤ k → swept_to f k slots ≡ map f slots
swept-all f zero [] all = refl
swept-all f zero (slot ∷ slots) all = absurd (omega (arith, all))
swept-all f (suc k) [] all = refl
swept-all f (suc k) (slot ∷ slots) all = ap (λ (rest : List (Option Group)). f slot ∷ rest) (swept-all f k slots (omega (arith, all)))

-- a step of the loop over the groups
pub swept-step : (f : Option Group → Option Group) (first now after : List (Option RecGroup)) (k place : ℕ) → place ≡ k
    → map (option_map group_of) now ≡ swept_to f k (map (option_map group_of) first)
    → map (option_map group_of) after ≡ slice_set (map (option_map group_of) now) place (f (option_map group_of (slice_index_or now place None)))
    → map (option_map group_of) after ≡ swept_to f (k + 1) (map (option_map group_of) first)
swept-step f first now after k place is before step =
    let shown : List (Option Group) = map (option_map group_of) now in
    let start : List (Option Group) = map (option_map group_of) first in
    step
    ∙ ap (λ (i : ℕ). slice_set shown i (f (option_map group_of (slice_index_or now i None)))) is
    ∙ ap (λ (slot : Option Group). slice_set shown k (f slot)) (sym (at-map group_of now k))
    ∙ ap (λ (slots : List (Option Group)). slice_set slots k (f (slice_index_or slots k None))) before
    ∙ ap (λ (slot : Option Group). slice_set (swept_to f k start) k (f slot)) (swept-here f k start)
    ∙ swept-more f k start
    ∙ ap (λ (n : ℕ). swept_to f n start) (sym (add-one k))

-- what is left of one group
pub left-unmarked : (marks : List Bool) (old new : RecGroup) (slot : Option RecGroup) → slot ≡ Some old
    → new.types.items ≡ filter (λ id. not (is_marked marks id)) old.types.items → new.explicit ≡ old.explicit
    → option_and_then (without_marked marks) (option_map group_of slot) ≡ nonempty_group new.explicit new.types.items
left-unmarked marks old new slot is members same =
    ap (λ (s : Option RecGroup). option_and_then (without_marked marks) (option_map group_of s)) is
    ∙ ap (λ (b : Bool). nonempty_group b (filter (λ id. not (is_marked marks id)) old.types.items)) (sym same)
    ∙ ap (λ (xs : List ℕ). nonempty_group new.explicit xs) (sym members)

-- its place is written
pub swept-at : (slots : List (Option RecGroup)) (place : ℕ) (slot : Option RecGroup) (left : Option Group) → left ≡ option_map group_of slot
    → map (option_map group_of) (slice_set slots place slot) ≡ slice_set (map (option_map group_of) slots) place left
swept-at slots place slot left is =
    map-set (option_map group_of) slots place slot ∙ ap (λ (l : Option Group). slice_set (map (option_map group_of) slots) place l) (sym is)

none-there : {X : Type 0} (o : Option X) (lives : Bool) → (IsSome o → IsTrue lives) → lives ≡ false → o ≡ None
none-there None lives test dead = refl
none-there (Some x) lives test dead = absurd (false≢true (sym dead ∙ test refl))

-- or there is none
pub swept-dead : (marks : List Bool) (slots : List (Option RecGroup)) (place : ℕ) (lives : Bool) → (IsSome (slice_index_or slots place None) → IsTrue lives) → lives ≡ false
    → map (option_map group_of) slots ≡ slice_set (map (option_map group_of) slots) place (option_and_then (without_marked marks) (option_map group_of (slice_index_or slots place None)))
swept-dead marks slots place lives test dead =
    let none = none-there (slice_index_or slots place None) lives test dead in
    let shown : List (Option Group) = map (option_map group_of) slots in
    sym (set-get_or shown place None)
    ∙ ap (λ (slot : Option Group). slice_set shown place slot) (at-map group_of slots place ∙ ap (option_map group_of) none)
    ∙ ap (λ (slot : Option RecGroup). slice_set shown place (option_and_then (without_marked marks) (option_map group_of slot))) (sym none)

left-is : (explicit : Bool) (xs : List ℕ) (h : Group) → nonempty_group explicit xs ≡ Some h → h ≡ record { explicit = explicit; types = xs }
left-is explicit [] h is = absurd cc
left-is explicit (x ∷ xs) h is = let e : record { explicit = explicit; types = x ∷ xs } ≡ h = cc in sym e

left-member : (explicit : Bool) (xs : List ℕ) (h : Group) → nonempty_group explicit xs ≡ Some h → (id : ℕ) × Contains h.types id
left-member explicit [] h is = absurd cc
left-member explicit (x ∷ xs) h is =
    let e : record { explicit = explicit; types = x ∷ xs } ≡ h = cc in
    (x, subst (λ (g : Group). Contains g.types x) e (0, omega arith, refl))

-- what is left of a group was one, and has a member
pub was-there : (types : List (Option Item)) (slot : Option Group) (h : Group) → option_and_then (with_live types) slot ≡ Some h
    → (g : Group) × (slot ≡ Some g) × (h ≡ record { explicit = g.explicit; types = filter (λ id. is_some (slice_index_or types id None)) g.types })
was-there types None h is = absurd cc
was-there types (Some g) h is = (g, refl, left-is g.explicit (filter (λ id. is_some (slice_index_or types id None)) g.types) h is)

pub member-there : (types : List (Option Item)) (slot : Option Group) (h : Group) → option_and_then (with_live types) slot ≡ Some h → (id : ℕ) × Contains h.types id
member-there types None h is = absurd cc
member-there types (Some g) h is = left-member g.explicit (filter (λ id. is_some (slice_index_or types id None)) g.types) h is

-- many types leave the table and their groups
pub grouped-swept : (ids : List ℕ) (types : List (Option Item)) (groups : List (Option Group)) (homes : List ℕ) → IsGrouped types groups homes
    → IsGrouped (clear_all ids types) (map (option_and_then (with_live (clear_all ids types))) groups) homes
grouped-swept ids types groups homes g =
    let after : List (Option Item) = clear_all ids types in
    let lives : ℕ → Bool = λ id. is_some (slice_index_or after id None) in
    let at-place : (place : ℕ) → slice_index_or (map (option_and_then (with_live after)) groups) place None ≡ option_and_then (with_live after) (slice_index_or groups place None)
    = λ place. get_or-map (option_and_then (with_live after)) groups place None in
    record {
      sized = g.sized ∙ sym (length-clear_all ids types);
      listed = λ id item at.
          let old = at-cleared ids types id item at in
          let h = g.listed id item old.0 in
          let left : List ℕ = filter lives h.0.types in
          let member = filter-contains lives h.0.types id h.2 (ap (λ (o : Option Item). is_some o) at) in
          let some = nonempty-some h.0.explicit left (λ e. nothing id (subst (λ (zs : List ℕ). Contains zs id) e member)) in
          (record { explicit = h.0.explicit; types = left }, at-place (slice_index homes id) ∙ ap (option_and_then (with_live after)) h.1 ∙ some, member);
      member = λ place h at id in_it.
          let was = was-there after (slice_index_or groups place None) h (sym (at-place place) ∙ at) in
          let kept = contains-filter lives was.0.types id (subst (λ (x : Group). Contains x.types id) was.2 in_it) in
          let live = held (slice_index_or after id None) kept.1 in
          let m = g.member place was.0 was.1 id kept.0 in
          (live.0, live.1, m.2);
      once = λ place h at.
          let was = was-there after (slice_index_or groups place None) h (sym (at-place place) ∙ at) in
          subst (λ (left : Group). AllPairs (λ x y. x ≢ y) left.types) (sym was.2) (AllPairs-filter (λ x y. x ≢ y) lives was.0.types (g.once place was.0 was.1));
      homes_rise = subst (λ (n : ℕ). RiseBelow n homes) (sym (length-map groups (option_and_then (with_live after)))) g.homes_rise;
    }
