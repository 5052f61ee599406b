-- Lemmas: the groups of a table mean those of the file that it was made of.
use Rattle.std.proofs.Common.{◌≡◌, ◌∙◌, ◌+◌, ◌⊎◌, ℕ, zero, suc, Bool, true, false, not, List, [], ◌∷◌, ◌++◌, length, map, filter, take, Option, Some, None, slice_get, refl, sym, ap, subst, arith, inl, inr}
use Rattle.std.specs.Prelude.{if◌then◌else◌}
use Rattle.std.specs.List.{AllByRecursion, AllZip, flat_map}
use Rattle.std.proofs.lemmas.List.{length-append, append_assoc, append-nil, map-append}
use Rattle.std.proofs.lemmas.List.Elements.{filter-append}
use Rattle.walrus_arena.specs.Arena.{entries_from}
use Rattle.walrus_named_bodies.specs.walrus_file_bodies.walrus_items_into.walrus_module_bodies.walrus_body_trees.walrus_meaning.walrus_local_function.walrus_body_locals.wasm_grammar.walrus_forms.Kinds.{Kind}
use Rattle.walrus_named_bodies.specs.walrus_file_bodies.walrus_items_into.walrus_module_bodies.walrus_body_trees.walrus_meaning.walrus_local_function.walrus_body_locals.wasm_grammar.walrus_forms.Records.{TypeGroup}
use Rattle.walrus_named_bodies.specs.walrus_file_bodies.walrus_items_into.walrus_module_bodies.walrus_body_trees.walrus_meaning.walrus_local_function.walrus_body_locals.wasm_grammar.walrus_forms.Renaming.{at, renamed_kind}
use Rattle.walrus_named_bodies.specs.walrus_file_bodies.walrus_items_into.walrus_tables_into.walrus_sections_into.walrus_known_sections.Types.{kinds_in}
use Rattle.walrus_named_bodies.specs.walrus_file_bodies.walrus_items_into.walrus_module_bodies.walrus_body_trees.walrus_meaning.Bodies.{has_number}
use Rattle.walrus_named_bodies.specs.walrus_file_bodies.walrus_items_into.walrus_module_bodies.walrus_body_trees.walrus_meaning.Meaning.{plain_kind, group_kinds, has_kinds, own_groups}
use Rattle.walrus_named_bodies.specs.walrus_file_bodies.walrus_items_into.walrus_module_bodies.walrus_body_trees.walrus_meaning.walrus_module.walrus_types.Items.{Item, Group}
use Rattle.walrus_named_bodies.specs.walrus_file_bodies.walrus_items_into.walrus_module_bodies.walrus_body_trees.walrus_meaning.walrus_module.walrus_types.Groups.{group_slot}
use Rattle.walrus_named_bodies.specs.walrus_file_bodies.walrus_items_into.walrus_module_bodies.walrus_body_trees.walrus_meaning.walrus_module.walrus_types.Table.{Table, type_at}
use Rattle.walrus_named_bodies.specs.walrus_file_bodies.walrus_items_into.walrus_module_bodies.walrus_body_trees.walrus_meaning.walrus_module.walrus_types.Parsing.{Parsed, parsed_group, parsed, unparsed}
use Rattle.walrus_named_bodies.specs.walrus_file_bodies.walrus_items_into.walrus_functions_into.walrus_types_into.Into.{no_types, NewTypesStand}
use Rattle.walrus_parse_laws.specs.FilledGroups.{is_new, renamed_group, kept, AreDeclared, GroupsMean}
use Rattle.walrus_parse_laws.proofs.ParsedLemmas.{AllGiven, IsMerged, IsAdded, is_explicit, step, later_ids, ids_are}

-- ---- lists

zip_from : {Y : Type 0} (R : ℕ → Y → Type 0) (ids : List ℕ) (ys : List Y) → length ids ≡ length ys → ((i : ℕ) (y : Y) → slice_get ys i ≡ Some y → R (at ids i) y) → AllZip R ids ys
zip_from R [] [] e h = tt
zip_from R [] (y ∷ ys) e h = absurd (omega (arith, e))
zip_from R (id ∷ ids) [] e h = absurd (omega (arith, e))
zip_from R (id ∷ ids) (y ∷ ys) e h = (h 0 y refl, zip_from R ids ys (omega (arith, e)) (λ i y is. h (suc i) y is))

zip_front : {Y : Type 0} (R : ℕ → Y → Type 0) (ids more : List ℕ) (ys others : List Y) → length ids ≡ length ys → AllZip R (ids ++ more) (ys ++ others) → AllZip R ids ys × AllZip R more others
zip_front R [] more [] others e h = (tt, h)
zip_front R [] more (y ∷ ys) others e h = absurd (omega (arith, e))
zip_front R (id ∷ ids) more [] others e h = absurd (omega (arith, e))
zip_front R (id ∷ ids) more (y ∷ ys) others e h = let k = zip_front R ids more ys others (omega (arith, e)) h.1 in ((h.0, k.0), k.1)

front_is : (xs ys : List ℕ) → take (length xs) (xs ++ ys) ≡ xs
front_is [] ys = refl
front_is (x ∷ xs) ys = ap (λ (l : List ℕ). x ∷ l) (front_is xs ys)

behind_is : (xs : List ℕ) (y : ℕ) (ys : List ℕ) → at (xs ++ y ∷ ys) (length xs) ≡ y
behind_is [] y ys = refl
behind_is (x ∷ xs) y ys = behind_is xs y ys

new_is : (front : List ℕ) (id : ℕ) (more ids : List ℕ) → ids ≡ front ++ id ∷ more → is_new ids (length front) ≡ not (has_number front id)
new_is front id more ids e =
    ap (λ (l : List ℕ). is_new l (length front)) e
    ∙ ap (λ (l : List ℕ). not (has_number l (at (front ++ id ∷ more) (length front)))) (front_is front (id ∷ more))
    ∙ ap (λ (k : ℕ). not (has_number front k)) (behind_is front id more)

-- ---- the live groups

abbrev live : List (Option Group) → List Group
live [] = []
live (None ∷ slots) = live slots
live (Some g ∷ slots) = g ∷ live slots

live_both : (a b : List (Option Group)) → live (a ++ b) ≡ live a ++ live b
live_both [] b = refl
live_both (None ∷ a) b = live_both a b
live_both (Some g ∷ a) b = ap (λ (l : List Group). g ∷ l) (live_both a b)

live_is : {X : Type 0} (f : Group → X) (id : ℕ) (slots : List (Option Group)) → map (λ (e : ℕ × Group). f e.1) (entries_from id slots) ≡ map f (live slots)
live_is f id [] = refl
live_is f id (None ∷ slots) = live_is f (id + 1) slots
live_is {X} f id (Some g ∷ slots) = ap (λ (l : List X). f g ∷ l) (live_is f (id + 1) slots)

module _ (t : Table) where
  abbrev seen_in : List (Option Group) → List TypeGroup
  seen_in slots = filter has_kinds (map (group_kinds t) (live slots))

  seen_both : (a b : List (Option Group)) → seen_in (a ++ b) ≡ seen_in a ++ seen_in b
  seen_both a b =
      ap (λ (l : List Group). filter has_kinds (map (group_kinds t) l)) (live_both a b)
      ∙ ap (λ (l : List TypeGroup). filter has_kinds l) (map-append (group_kinds t) (live a) (live b))
      ∙ filter-append has_kinds (map (group_kinds t) (live a)) (map (group_kinds t) (live b))

  own_is : own_groups t ≡ seen_in t.groups
  own_is = ap (λ (l : List TypeGroup). filter has_kinds l) (live_is (group_kinds t) 0 t.groups)

  module _ (r : ℕ → ℕ) where
    -- the live type of this id is the one that was read, renamed
    abbrev IsOf : ℕ → Kind → Type 0
    IsOf id kind = type_at t id ≡ Some (record { id = id; kind = renamed_kind r kind; name = None })

    kinds_are : (own : List ℕ) (kinds : List Kind) → AllZip IsOf own kinds → AllByRecursion (λ (k : Kind). k.entry ≡ false) kinds → flat_map (λ id. plain_kind (type_at t id)) own ≡ map (renamed_kind r) kinds
    kinds_are [] [] h plain = refl
    kinds_are [] (k ∷ kinds) h plain = absurd h
    kinds_are (id ∷ own) [] h plain = absurd h
    kinds_are (id ∷ own) (k ∷ kinds) h plain =
        let more = flat_map (λ id. plain_kind (type_at t id)) own in
        ap (λ (o : Option Item). plain_kind o ++ more) h.0
        ∙ ap (λ (b : Bool). (if b then [] else renamed_kind r k ∷ []) ++ more) plain.0
        ∙ ap (λ (l : List Kind). renamed_kind r k ∷ l) (kinds_are own kinds h.1 plain.1)

    -- a group that was added
    added_seen : (explicit : Bool) (own : List ℕ) (k : Kind) (kinds : List Kind) → AllZip IsOf own (k ∷ kinds) → AllByRecursion (λ (k : Kind). k.entry ≡ false) (k ∷ kinds)
        → seen_in (group_slot explicit own) ≡ record { marked = explicit; kinds = map (renamed_kind r) (k ∷ kinds) } ∷ []
    added_seen explicit [] k kinds h plain = absurd h
    added_seen explicit (id ∷ own) k kinds h plain =
        ap (λ (l : List Kind). filter has_kinds (record { marked = explicit; kinds = l } ∷ [])) (kinds_are (id ∷ own) (k ∷ kinds) h plain)

-- ---- group by group

module _ (t : Table) (ids : List ℕ) where
  if_kept : (b : Bool) (g : TypeGroup) (later : List TypeGroup) → b ≡ true → (if b then g ∷ later else later) ≡ g ∷ later
  if_kept true g later e = refl
  if_kept false g later e = absurd cc

  if_not : (b : Bool) (g : TypeGroup) (later : List TypeGroup) → b ≡ false → (if b then g ∷ later else later) ≡ later
  if_not true g later e = absurd cc
  if_not false g later e = refl

  -- what a group adds is what is kept of it
  one_group : (marked : Bool) (kinds : List Kind) (own : List ℕ) (groups : List TypeGroup) (s u : Parsed) → length own ≡ length kinds → IsMerged own s u ⊎ IsAdded (is_explicit marked (length kinds)) own s u → (more : List ℕ) → ids ≡ s.ids ++ (own ++ more)
      → AllZip (IsOf t (at ids)) own kinds → AllByRecursion (λ (k : Kind). k.entry ≡ false) kinds
      → seen_in t u.table.groups ++ kept ids (length s.ids + length kinds) groups ≡ seen_in t s.table.groups ++ kept ids (length s.ids) (record { marked = marked; kinds = kinds } ∷ groups)
  one_group marked [] [] groups s u size (inl h) more e typed plain = let none = h.1 in absurd cc
  one_group marked [] [] groups s u size (inr h) more e typed plain = ap (λ (l : List (Option Group)). seen_in t l ++ kept ids (length s.ids + 0) groups) (h.1 ∙ append-nil s.table.groups)
  one_group marked [] (id ∷ own) groups s u size h more e typed plain = absurd (omega (arith, size))
  one_group marked (k ∷ kinds) [] groups s u size h more e typed plain = absurd (omega (arith, size))
  one_group marked (k ∷ kinds) (id ∷ own) groups s u size (inl h) more e typed plain =
      let later = kept ids (length s.ids + length (k ∷ kinds)) groups in
      let there : has_number s.ids id ≡ true = subst (λ (n : ℕ). has_number s.ids n ≡ true) (sym (head_is h.0 h.1)) h.2 in
      ap (λ (l : List (Option Group)). seen_in t l ++ later) h.3
      ∙ ap (λ (l : List TypeGroup). seen_in t s.table.groups ++ l) (sym (if_not (is_new ids (length s.ids)) _ later (new_is s.ids id (own ++ more) ids e ∙ ap not there)))
    where
      head_is : (found : ℕ) → id ∷ own ≡ found ∷ [] → id ≡ found
      head_is found e = cc
  one_group marked (k ∷ kinds) (id ∷ own) groups s u size (inr h) more e typed plain =
      let later = kept ids (length s.ids + length (k ∷ kinds)) groups in
      let explicit = is_explicit marked (length (k ∷ kinds)) in
      let own_group = renamed_group (at ids) (record { marked = marked; kinds = k ∷ kinds }) in
      ap (λ (l : List TypeGroup). l ++ later)
      (ap (seen_in t) h.1 ∙ seen_both t s.table.groups (group_slot explicit (id ∷ own)) ∙ ap (λ (l : List TypeGroup). seen_in t s.table.groups ++ l) (added_seen t (at ids) explicit (id ∷ own) k kinds typed plain))
      ∙ append_assoc (seen_in t s.table.groups) (own_group ∷ []) later
      ∙ ap (λ (l : List TypeGroup). seen_in t s.table.groups ++ l) (sym (if_kept (is_new ids (length s.ids)) own_group later (new_is s.ids id (own ++ more) ids e ∙ ap not h.0)))

  all_groups : (groups : List TypeGroup) (s : Parsed) (h : AllGiven s) → ids ≡ s.ids ++ later_ids groups s h → AllZip (IsOf t (at ids)) (later_ids groups s h) (kinds_in groups) → AreDeclared groups
      → seen_in t (parsed groups s).table.groups ≡ seen_in t s.table.groups ++ kept ids (length s.ids) groups
  all_groups [] s h e typed plain = sym (append-nil (seen_in t s.table.groups))
  all_groups (g ∷ groups) s h e typed plain =
      let one = step g s h in
      let u = parsed_group g s in
      let more = later_ids groups u one.given in
      let split = zip_front (IsOf t (at ids)) one.own more g.kinds (kinds_in groups) one.sized typed in
      let count : length u.ids ≡ length s.ids + length g.kinds = ap length one.ids ∙ length-append s.ids one.own ∙ ap (λ (n : ℕ). length s.ids + n) one.sized in
      all_groups groups u one.given (e ∙ sym (append_assoc s.ids one.own more) ∙ sym (ap (λ (l : List ℕ). l ++ more) one.ids)) split.1 plain.1
      ∙ ap (λ (n : ℕ). seen_in t u.table.groups ++ kept ids n groups) count
      ∙ one_group g.marked g.kinds one.own groups s u one.sized one.groups more e split.0 plain.0

at_is : (ids : List ℕ) (i id : ℕ) → slice_get ids i ≡ Some id → at ids i ≡ id
at_is [] i id e = absurd cc
at_is (x ∷ ids) zero id e = some_is x id e
  where
    some_is : (a b : ℕ) → Some a ≡ Some b → a ≡ b
    some_is a b e = cc
at_is (x ∷ ids) (suc i) id e = at_is ids i id e

none_given : AllGiven (unparsed no_types)
none_given = record { below = tt; all = λ id lt. absurd (omega (arith, lt)) }

pub groups_mean : NewTypesStand → GroupsMean
groups_mean stand groups below plain =
    let s = unparsed no_types in
    let p = parsed groups s in
    let types = stand groups below in
    let is = ids_are groups s none_given in
    let typed = zip_from (IsOf p.table (at p.ids)) p.ids (kinds_in groups) types.sized
    (λ i kind e. let there = types.stand i kind e in subst (λ (id : ℕ). IsOf p.table (at p.ids) id kind) (sym (at_is p.ids i there.0 there.1)) there.2) in
    own_is p.table ∙ all_groups p.table p.ids groups s none_given is (subst (λ (l : List ℕ). AllZip (IsOf p.table (at p.ids)) l (kinds_in groups)) is typed) plain
