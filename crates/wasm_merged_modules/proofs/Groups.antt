-- Lemmas: the groups that are kept, beside the table that they were put into.
use Rattle.std.specs.Prelude.{ℕ, suc, ◌≡◌, ◌<◌, ◌+◌, ◌==◌, ◌&&◌, ◌⊎◌, Bool, true, false, not, List, [], ◌∷◌, ◌++◌, length, map, Option, Some, refl, if◌then◌else◌}
use Rattle.std.specs.List.{list_any, range_with_len}
use Rattle.std.specs.Option.{option_map}
use Rattle.std.proofs.Common.{ap, sym, ◌∙◌, subst, arith, inl, inr}
use Rattle.std.proofs.lemmas.List.{append_assoc, append-nil, length-append, length-map, map-append}
use Rattle.walrus_forms.proofs.RenamingLemmas.{kinds-twice}
use Rattle.walrus_forms.specs.Kinds.{Kind}
use Rattle.walrus_forms.specs.Records.{TypeGroup}
use Rattle.walrus_forms.specs.Renaming.{at, renamed_kind}
use Rattle.walrus_types.specs.walrus_items.Items.{Group, Item}
use Rattle.walrus_types.specs.Groups.{new_items}
use Rattle.walrus_types.specs.Parsing.{Parsed, added, known_ids, parsed, parsed_group, with_group}
use Rattle.walrus_types.specs.Table.{Table, next_id}
use Rattle.wasm_normal_modules.specs.wasm_ruled_renamed.wasm_ruled_normal.wasm_ruled_modules.Rules.{AreBelow, GroupsBelow}
use Rattle.wasm_merged_modules.proofs.SentKinds.{kinds_alike, kinds_sent}
use Rattle.wasm_merged_modules.proofs.Orders.{at_left, at_range, behind_is, front_is, has_at, has_none, range_joined}
use Rattle.wasm_merged_modules.proofs.Steps.{IsAdded, IsMerged, IsOrderly, added_cases, added_marked, all_ids, given_kinds, group_ids, group_orderly, next_more, with_new}
use Rattle.wasm_merged_modules.specs.Merged.{is_filled, is_new, kept, kinds_of, renamed_group}

-- the kinds of a table's types, by id
abbrev pub seen : Table → List (Option Kind)
seen t = map (option_map (λ (i : Item). i.kind)) t.types

abbrev pub somes : List Kind → List (Option Kind)
somes kinds = map (λ (k : Kind). Some k) kinds

new_seen : (id : ℕ) (kinds : List Kind) → map (option_map (λ (i : Item). i.kind)) (new_items id kinds) ≡ somes kinds
new_seen id [] = refl
new_seen id (k ∷ kinds) = ap (λ (l : List (Option Kind)). Some k ∷ l) (new_seen (id + 1) kinds)

pub group_seen : (marked : Bool) (kinds : List Kind) (t : Table) → seen (with_group marked kinds t) ≡ seen t ++ somes kinds
group_seen marked kinds t =
    map-append (option_map (λ (i : Item). i.kind)) t.types (new_items (next_id t) kinds) ∙ ap (λ (l : List (Option Kind)). seen t ++ l) (new_seen (next_id t) kinds)

-- ---- what is new

abbrev has : List ℕ → ℕ → Bool
has xs id = list_any (λ m. m == id) xs

new_is : (front : List ℕ) (id : ℕ) (more ids : List ℕ) → ids ≡ front ++ id ∷ more → is_new ids (length front) ≡ not (has front id)
new_is front id more ids e =
    ap (λ (l : List ℕ). is_new l (length front)) e
    ∙ ap (λ (l : List ℕ). not (has l (at (front ++ id ∷ more) (length front)))) (front_is front (id ∷ more))
    ∙ ap (λ (k : ℕ). not (has front k)) (behind_is front id more)

if_both : {A : Type 0} (a b : Bool) (x y : A) → a ≡ true → b ≡ true → (if a && b then x else y) ≡ x
if_both true true x y e f = refl
if_both true false x y e f = absurd cc
if_both false b x y e f = absurd cc

if_not : {A : Type 0} (a b : Bool) (x y : A) → b ≡ false → (if a && b then x else y) ≡ y
if_not true true x y e = absurd cc
if_not true false x y e = refl
if_not false b x y e = refl

-- ---- group by group

-- what is known of the groups that are kept of some, where their types are put behind others
pub record AreKept (groups : List TypeGroup) (s : Parsed) (ids : List ℕ) : Type 0 where
  pub seen_are : seen (parsed groups s).table ≡ seen s.table ++ somes (kinds_of (kept ids (length s.ids) groups))
  -- put into the same table by their ids, they give the same, and each type its own id
  pub again : (t : Parsed) → t.table ≡ s.table → t.ids ≡ range_with_len 0 (next_id s.table)
      → parsed (kept ids (length s.ids) groups) t ≡ record { ids = range_with_len 0 (next_id (parsed groups s).table); table = (parsed groups s).table }
  pub below : GroupsBelow (next_id s.table) (kept ids (length s.ids) groups)

-- nothing is kept of a group for which an earlier one stands, or that is empty
skipped : (g : TypeGroup) (groups : List TypeGroup) (s u : Parsed) (ids : List ℕ) → parsed groups (parsed_group g s) ≡ parsed groups u → u.table ≡ s.table
    → kept ids (length s.ids) (g ∷ groups) ≡ kept ids (length u.ids) groups → AreKept groups u ids → AreKept (g ∷ groups) s ids
skipped g groups s u ids p same e h = record {
  seen_are =
      ap (λ (t : Parsed). seen t.table) p ∙ h.seen_are ∙ ap (λ (t : Table). seen t ++ somes (kinds_of (kept ids (length u.ids) groups))) same
      ∙ sym (ap (λ (l : List TypeGroup). seen s.table ++ somes (kinds_of l)) e);
  again = λ t table own.
      ap (λ (l : List TypeGroup). parsed l t) e ∙ h.again t (table ∙ sym same) (own ∙ sym (ap (λ (x : Table). range_with_len 0 (next_id x)) same))
      ∙ sym (ap (λ (x : Parsed). (let q : Parsed = record { ids = range_with_len 0 (next_id x.table); table = x.table } in q)) p);
  below = subst (GroupsBelow (next_id s.table)) (sym e) (subst (λ (t : Table). GroupsBelow (next_id t) (kept ids (length u.ids) groups)) same h.below);
}

module _ (g : TypeGroup) (groups : List TypeGroup) (s : Parsed) (ids : List ℕ) (orderly : IsOrderly s) (own : AreBelow (length s.ids + length g.kinds) g.kinds) (a : IsAdded g.marked (given_kinds g s) s)
    (u_is : parsed_group g s ≡ with_new a.0 (given_kinds g s) s) (rest : List ℕ) (ids_are : ids ≡ (parsed_group g s).ids ++ rest) (size : length (parsed_group g s).ids ≡ length s.ids + length g.kinds)
    (later_orderly : IsOrderly (parsed_group g s)) (h : AreKept groups (parsed_group g s) ids) where
  abbrev u : Parsed
  u = parsed_group g s

  abbrev given : List Kind
  given = given_kinds g s

  abbrev sent : List Kind
  sent = map (renamed_kind (at ids)) g.kinds

  given_many : length given ≡ length g.kinds
  given_many = length-map g.kinds (renamed_kind (at (known_ids g s)))

  u_ids : u.ids ≡ known_ids g s
  u_ids = ap (λ (t : Parsed). t.ids) u_is ∙ ap (λ (n : ℕ). s.ids ++ range_with_len (next_id s.table) n) given_many

  -- names are those of the ids that all have in the end
  at_known : (k : ℕ) → k < length s.ids + length g.kinds → at (known_ids g s) k ≡ at ids k
  at_known k lt = ap (λ (l : List ℕ). at l k) (sym u_ids) ∙ sym (at_left u.ids rest k (let small : k < length u.ids = omega (arith, lt, size) in small)) ∙ ap (λ (l : List ℕ). at l k) (sym ids_are)

  given_sent : given ≡ sent
  given_sent = kinds_alike (at (known_ids g s)) (at ids) (length s.ids + length g.kinds) at_known g.kinds own

  next_u : next_id u.table ≡ next_id s.table + length g.kinds
  next_u = ap (λ (t : Parsed). next_id t.table) u_is ∙ next_more a.0 given s.table ∙ ap (λ (n : ℕ). next_id s.table + n) given_many

  id_small : (k : ℕ) → k < length s.ids + length g.kinds → at ids k < next_id s.table + length g.kinds
  id_small k lt =
      let small : k < length u.ids = omega (arith, lt, size) in
      let here = later_orderly.below k small in
      let same : at ids k ≡ at u.ids k = ap (λ (l : List ℕ). at l k) ids_are ∙ at_left u.ids rest k small in
      omega (arith, here, same, next_u)

  abbrev kept_group : TypeGroup
  kept_group = renamed_group (at ids) g

  kept_seen : seen u.table ≡ seen s.table ++ somes sent
  kept_seen = ap (λ (t : Parsed). seen t.table) u_is ∙ group_seen a.0 given s.table ∙ ap (λ (l : List Kind). seen s.table ++ somes l) given_sent

  -- read by its ids it gives the same
  module _ (t : Parsed) (table : t.table ≡ s.table) (ids_own : t.ids ≡ range_with_len 0 (next_id s.table)) where
    sent_many : length sent ≡ length g.kinds
    sent_many = length-map g.kinds (renamed_kind (at ids))

    known_own : known_ids kept_group t ≡ range_with_len 0 (next_id s.table + length g.kinds)
    known_own =
        ap (λ (l : List ℕ). l ++ range_with_len (next_id t.table) (length sent)) ids_own
        ∙ ap (λ (n : ℕ). range_with_len 0 (next_id s.table) ++ range_with_len n (length sent)) (ap next_id table ∙ (let e : next_id s.table ≡ 0 + next_id s.table = omega arith in e))
        ∙ range_joined 0 (next_id s.table) (length sent) ∙ ap (λ (n : ℕ). range_with_len 0 (next_id s.table + n)) sent_many

    own_again : (k : ℕ) → k < length s.ids + length g.kinds → at (known_ids kept_group t) (at ids k) ≡ at ids k
    own_again k lt =
        ap (λ (l : List ℕ). at l (at ids k)) known_own ∙ at_range 0 (next_id s.table + length g.kinds) (at ids k) (id_small k lt) ∙ (let e : 0 + at ids k ≡ at ids k = omega arith in e)

    twice : (kinds : List Kind) → map (renamed_kind (at (known_ids kept_group t))) (map (renamed_kind (at ids)) kinds) ≡ map (renamed_kind (λ k. at (known_ids kept_group t) (at ids k))) kinds
    twice [] = refl
    twice (k ∷ kinds) =
        ap (λ (x : Kind). x ∷ map (renamed_kind (at (known_ids kept_group t))) (map (renamed_kind (at ids)) kinds)) (kinds-twice (at ids) (at (known_ids kept_group t)) k)
        ∙ ap (λ (l : List Kind). renamed_kind (λ k. at (known_ids kept_group t) (at ids k)) k ∷ l) (twice kinds)

    given_again : given_kinds kept_group t ≡ given
    given_again = twice g.kinds ∙ kinds_alike (λ k. at (known_ids kept_group t) (at ids k)) (at ids) (length s.ids + length g.kinds) own_again g.kinds own ∙ sym given_sent

    group_again : parsed_group kept_group t ≡ with_new a.0 given t
    group_again =
        ap (λ (l : List Kind). added kept_group.marked l t) given_again ∙ ap (λ (n : ℕ). added (not (not g.marked && n == 1)) given t) (sym given_many)
        ∙ added_marked g.marked given t ∙ a.1 t table

    table_again : (parsed_group kept_group t).table ≡ u.table
    table_again = ap (λ (x : Parsed). x.table) group_again ∙ ap (with_group a.0 given) table ∙ sym (ap (λ (x : Parsed). x.table) u_is)

    ids_again : (parsed_group kept_group t).ids ≡ range_with_len 0 (next_id u.table)
    ids_again =
        ap (λ (x : Parsed). x.ids) group_again ∙ ap (λ (l : List ℕ). l ++ range_with_len (next_id t.table) (length given)) ids_own
        ∙ ap (λ (n : ℕ). range_with_len 0 (next_id s.table) ++ range_with_len n (length given)) (ap next_id table ∙ (let e : next_id s.table ≡ 0 + next_id s.table = omega arith in e))
        ∙ range_joined 0 (next_id s.table) (length given) ∙ ap (λ (n : ℕ). range_with_len 0 (next_id s.table + n)) given_many ∙ ap (range_with_len 0) (sym next_u)

  abbrev later : List TypeGroup
  later = kept ids (length s.ids + length g.kinds) groups

  later_is : kept ids (length u.ids) groups ≡ later
  later_is = ap (λ (n : ℕ). kept ids n groups) size

  pub one_kept : kept ids (length s.ids) (g ∷ groups) ≡ kept_group ∷ later → AreKept (g ∷ groups) s ids
  one_kept e = record {
    seen_are =
        h.seen_are ∙ ap (λ (l : List TypeGroup). seen u.table ++ somes (kinds_of l)) later_is ∙ ap (λ (l : List (Option Kind)). l ++ somes (kinds_of later)) kept_seen
        ∙ append_assoc (seen s.table) (somes sent) (somes (kinds_of later)) ∙ ap (λ (l : List (Option Kind)). seen s.table ++ l) (sym (map-append (λ (k : Kind). Some k) sent (kinds_of later)))
        ∙ sym (ap (λ (l : List TypeGroup). seen s.table ++ somes (kinds_of l)) e);
    again = λ t table ids_own.
        ap (λ (l : List TypeGroup). parsed l t) e ∙ ap (λ (l : List TypeGroup). parsed l (parsed_group kept_group t)) (sym later_is)
        ∙ h.again (parsed_group kept_group t) (table_again t table ids_own) (ids_again t table ids_own);
    below = subst (GroupsBelow (next_id s.table)) (sym e) (
      subst (λ (n : ℕ). AreBelow (next_id s.table + n) sent) (sym (length-map g.kinds (renamed_kind (at ids)))) (kinds_sent (at ids) (length s.ids + length g.kinds) (next_id s.table + length g.kinds) id_small g.kinds own),
      subst (λ (n : ℕ). GroupsBelow n later) (next_u ∙ ap (λ (n : ℕ). next_id s.table + n) (sym (length-map g.kinds (renamed_kind (at ids))))) (subst (GroupsBelow (next_id u.table)) later_is h.below),
    );
  }

-- ---- all of them

-- the ids of one step, in front of all
abbrev Front : TypeGroup → List TypeGroup → Parsed → List ℕ → Type 0
Front g groups s ids = (rest : List ℕ) × (ids ≡ (parsed_group g s).ids ++ rest)

of_step : (g : TypeGroup) (groups : List TypeGroup) (s : Parsed) (ids : List ℕ) → IsOrderly s → AreBelow (length s.ids + length g.kinds) g.kinds → Front g groups s ids → AreKept groups (parsed_group g s) ids
    → IsMerged g.marked (given_kinds g s) s ⊎ IsAdded g.marked (given_kinds g s) s → AreKept (g ∷ groups) s ids
of_step g groups s ids orderly own front h (inl m) =
    let u = parsed_group g s in
    let one = group_ids g s in
    let place = orderly.onto m.0 m.1 in
    let there : list_any (λ k. k == m.0) s.ids ≡ true = subst (λ (id : ℕ). list_any (λ k. k == id) s.ids ≡ true) place.2 (has_at s.ids place.0 place.1) in
    let split : ids ≡ s.ids ++ m.0 ∷ front.0 = front.1 ∙ ap (λ (t : Parsed). t.ids ++ front.0) m.2 ∙ append_assoc s.ids (m.0 ∷ []) front.0 in
    let old : is_new ids (length s.ids) ≡ false = new_is s.ids m.0 front.0 ids split ∙ ap not there in
    let size : length u.ids ≡ length s.ids + length g.kinds = ap length one.1 ∙ length-append s.ids one.0 ∙ ap (λ (n : ℕ). length s.ids + n) one.2 in
    skipped g groups s u ids refl (ap (λ (t : Parsed). t.table) m.2)
    (if_not (is_filled g.kinds) (is_new ids (length s.ids)) _ (kept ids (length s.ids + length g.kinds) groups) old ∙ ap (λ (n : ℕ). kept ids n groups) (sym size)) h
of_step g groups s ids orderly own front h (inr a) = go g.kinds refl
  where
    size : length (parsed_group g s).ids ≡ length s.ids + length g.kinds
    size = let one = group_ids g s in ap length one.1 ∙ length-append s.ids one.0 ∙ ap (λ (n : ℕ). length s.ids + n) one.2

    go : (kinds : List Kind) → g.kinds ≡ kinds → AreKept (g ∷ groups) s ids
    go [] e =
        let none : given_kinds g s ≡ [] = ap (map (renamed_kind (at (known_ids g s)))) e in
        let u_is : parsed_group g s ≡ with_new a.0 [] s = a.1 s refl ∙ ap (λ (l : List Kind). with_new a.0 l s) none in
        skipped g groups s (parsed_group g s) ids refl
        (ap (λ (t : Parsed). t.table) u_is ∙ ap (λ (types : List (Option Item)). (let t : Table = record { types = types; groups = s.table.groups ++ [] } in t)) (append-nil s.table.types)
        ∙ ap (λ (gs : List (Option Group)). (let t : Table = record { types = s.table.types; groups = gs } in t)) (append-nil s.table.groups))
        (ap (λ (b : Bool). if b && is_new ids (length s.ids) then renamed_group (at ids) g ∷ kept ids (length s.ids + length g.kinds) groups else kept ids (length s.ids + length g.kinds) groups) (ap is_filled e)
        ∙ ap (λ (n : ℕ). kept ids n groups) (sym size)) h
    go (k ∷ kinds) e =
        let many : length (given_kinds g s) ≡ suc (length kinds) = length-map g.kinds (renamed_kind (at (known_ids g s))) ∙ ap length e in
        let u_is : parsed_group g s ≡ with_new a.0 (given_kinds g s) s = a.1 s refl in
        let first : (parsed_group g s).ids ≡ s.ids ++ next_id s.table ∷ range_with_len (next_id s.table + 1) (length kinds) =
        ap (λ (t : Parsed). t.ids) u_is ∙ ap (λ (n : ℕ). s.ids ++ range_with_len (next_id s.table) n) many in
        let split : ids ≡ s.ids ++ next_id s.table ∷ (range_with_len (next_id s.table + 1) (length kinds) ++ front.0) =
        front.1 ∙ ap (λ (l : List ℕ). l ++ front.0) first ∙ append_assoc s.ids (next_id s.table ∷ range_with_len (next_id s.table + 1) (length kinds)) front.0 in
        let new : is_new ids (length s.ids) ≡ true =
        new_is s.ids (next_id s.table) (range_with_len (next_id s.table + 1) (length kinds) ++ front.0) ids split ∙ ap not (has_none s.ids (next_id s.table) orderly.below) in
        one_kept g groups s ids orderly own a u_is front.0 front.1 size (group_orderly g s orderly) h
        (if_both (is_filled g.kinds) (is_new ids (length s.ids)) _ _ (ap is_filled e) new)

pub all_kept : (groups : List TypeGroup) (s : Parsed) → IsOrderly s → GroupsBelow (length s.ids) groups → (ids : List ℕ) → ids ≡ (parsed groups s).ids → AreKept groups s ids
all_kept [] s orderly h ids e = record { seen_are = sym (append-nil (seen s.table)); again = λ t table own. (λ i. record { ids = own i; table = table i }); below = tt }
all_kept (g ∷ groups) s orderly h ids e =
    let u = parsed_group g s in
    let one = group_ids g s in
    let more = all_ids groups u in
    let size : length u.ids ≡ length s.ids + length g.kinds = ap length one.1 ∙ length-append s.ids one.0 ∙ ap (λ (n : ℕ). length s.ids + n) one.2 in
    of_step g groups s ids orderly h.0 (more.0, e ∙ more.1) (all_kept groups u (group_orderly g s orderly) (subst (λ (n : ℕ). GroupsBelow n groups) (sym size) h.1) ids e) (added_cases g.marked (given_kinds g s) s)
