-- Reading a section in which no type merges: each id is the index, and each name is kept.
use Rattle.std.proofs.Common.{◌≡◌, ◌∙◌, ℕ, suc, ◌+◌, ◌<◌, inl, inr, Bool, true, false, List, [], ◌∷◌, ◌++◌, length, map, Option, Some, None, refl, sym, ap, subst, arith, append_assoc, length-append}
use Rattle.std.specs.List.{slice_get, range_with_len, flat_map}
use Rattle.std.proofs.lemmas.List.{append-nil, length-map, map-append, map-id}
use Rattle.std.proofs.lemmas.List.Concat.{flat_map-append}
use Rattle.std.proofs.lemmas.List.FromFn.{get_or-range_with_len}
use Rattle.std.proofs.lemmas.Option.{none-some}
use Rattle.walrus_forms.specs.Kinds.{Kind, kind_names}
use Rattle.walrus_forms.specs.Records.{TypeGroup}
use Rattle.walrus_forms.specs.Renaming.{at, renamed_kind}
use Rattle.walrus_forms.proofs.RenamingLemmas.{In, kinds-agree}
use Rattle.walrus_types.specs.Items.{Item, Group}
use Rattle.walrus_types.specs.Groups.{new_items, group_slot}
use Rattle.walrus_types.specs.Table.{next_id, equal_type}
use Rattle.walrus_types.specs.Parsing.{Parsed, with_group, merged, added, known_ids, parsed_group, parsed}
use Rattle.walrus_types.specs.Mergers.{Entry, is_single, entries_of}
use Rattle.walrus_types.proofs.GroupLemmas.{length-new_items}
use Rattle.walrus_type_laws.specs.Rounds.{read}
use Rattle.walrus_type_laws.proofs.KindOrder.{kinds-kept}
use Rattle.walrus_types.proofs.Places.{append_at, maps_twice}
use Rattle.walrus_type_laws.proofs.Written.{types_of}
use Rattle.walrus_type_laws.proofs.Dense.{Dense, range_append, items_append, one_group, slot_is, one_types, of_one}

abbrev pub kinds_in : TypeGroup → List Kind
kinds_in g = g.kinds

abbrev pub all_kinds : List TypeGroup → List Kind
all_kinds gs = flat_map kinds_in gs

-- the groups of a section, where each type's id is its index and the first has this one
abbrev pub groups_from : ℕ → List TypeGroup → List Group
groups_from b [] = []
groups_from b (g ∷ gs) = one_group g.marked (range_with_len b (length g.kinds)) ++ groups_from (b + length g.kinds) gs

abbrev pub state : List Kind → List Group → Parsed
state ks gs = record { ids = range_with_len 0 (length ks); table = record { types = new_items 0 ks; groups = map Some gs } }

abbrev pub straight : List TypeGroup → Parsed
straight gs = state (all_kinds gs) (groups_from 0 gs)

pub kinds_entries : (gs : List TypeGroup) → all_kinds gs ≡ map (λ (e : Entry). e.kind) (entries_of gs)
kinds_entries [] = refl
kinds_entries (g ∷ gs) =
    let b : Bool = is_single g in
    let make : Kind → Entry = λ kind. record { single = b; kind = kind } in
    let own : map (λ (e : Entry). e.kind) (map make g.kinds) ≡ g.kinds = maps_twice make (λ (e : Entry). e.kind) g.kinds ∙ map-id g.kinds in
    ap (λ (ks : List Kind). g.kinds ++ ks) (kinds_entries gs)
    ∙ ap (λ (ks : List Kind). ks ++ map (λ (e : Entry). e.kind) (entries_of gs)) (sym own)
    ∙ sym (map-append (λ (e : Entry). e.kind) (map make g.kinds) (entries_of gs))

pub kinds_length : (gs : List TypeGroup) → length (all_kinds gs) ≡ length (entries_of gs)
kinds_length gs = ap (λ (ks : List Kind). length ks) (kinds_entries gs) ∙ length-map (entries_of gs) (λ (e : Entry). e.kind)

groups_append : (b c : ℕ) (xs ys : List TypeGroup) → b + length (all_kinds xs) ≡ c → groups_from b (xs ++ ys) ≡ groups_from b xs ++ groups_from c ys
groups_append b c [] ys is = let e : b ≡ c = omega (arith, is) in ap (λ (n : ℕ). groups_from n ys) e
groups_append b c (g ∷ xs) ys is =
    let own : List Group = one_group g.marked (range_with_len b (length g.kinds)) in
    ap (λ (hs : List Group). own ++ hs) (groups_append (b + length g.kinds) c xs ys (omega (arith, is, length-append g.kinds (all_kinds xs))))
    ∙ sym (append_assoc own (groups_from (b + length g.kinds) xs) (groups_from c ys))

maps_kept : (f : Kind → Kind) (ks : List Kind) → ((i : ℕ) (k : Kind) → slice_get ks i ≡ Some k → f k ≡ k) → map f ks ≡ ks
maps_kept f [] all = refl
maps_kept f (k ∷ ks) all = ap (λ (x : Kind). x ∷ map f ks) (all 0 k refl) ∙ ap (λ (xs : List Kind). k ∷ xs) (maps_kept f ks (λ i x is. all (suc i) x is))

-- where no equal type is found the types are added, with the mark that they have where those without one are single
added_is : (marked : Bool) (ks : List Kind) (s : Parsed) → (marked ≡ false → length ks ≡ 1) → ((k : Kind) → marked ≡ false → ks ≡ k ∷ [] → equal_type k s.table ≡ None)
    → added marked ks s ≡ record { ids = s.ids ++ range_with_len (next_id s.table) (length ks); table = with_group marked ks s.table }
added_is true ks s single none = refl
added_is false [] s single none = absurd (omega (arith, single refl))
added_is false (k ∷ []) s single none = ap (λ (o : Option ℕ). merged o k s) (none k refl refl)
added_is false (k ∷ l ∷ ks) s single none = absurd (omega (arith, single refl))

-- the next group has one type where it has no mark, merges with nothing, and names types below its end
pub record Goes (done : List TypeGroup) (g : TypeGroup) : Type 0 where
  pub below : (i : ℕ) (k : Kind) (m : ℕ) → slice_get g.kinds i ≡ Some k → In m (kind_names k) → m < length (all_kinds done) + length g.kinds
  pub single : g.marked ≡ false → length g.kinds ≡ 1
  pub apart : (k : Kind) → g.marked ≡ false → g.kinds ≡ k ∷ [] → equal_type k (straight done).table ≡ None

grown_state : (ks more : List Kind) (gs : List Group) (marked : Bool)
    → (let p : Parsed = record { ids = range_with_len 0 (length ks) ++ range_with_len (next_id (state ks gs).table) (length more); table = with_group marked more (state ks gs).table } in p)
    ≡ state (ks ++ more) (gs ++ one_group marked (range_with_len (length ks) (length more)))
grown_state ks more gs marked =
    let n : ℕ = length ks in
    let c : ℕ = length more in
    let next : ℕ = next_id (state ks gs).table in
    let len : next ≡ n = length-new_items 0 ks in
    let ids : range_with_len 0 n ++ range_with_len next c ≡ range_with_len 0 (length (ks ++ more)) =
    range_append 0 n next c (length (ks ++ more)) (omega (arith, len)) (sym (length-append ks more)) in
    let types : new_items 0 ks ++ new_items next more ≡ new_items 0 (ks ++ more) = items_append 0 next ks more (omega (arith, len)) in
    let groups : map Some gs ++ group_slot marked (range_with_len next c) ≡ map Some (gs ++ one_group marked (range_with_len n c)) =
    ap (λ (x : ℕ). map Some gs ++ group_slot marked (range_with_len x c)) len
    ∙ ap (λ (xs : List (Option Group)). map Some gs ++ xs) (slot_is marked (range_with_len n c))
    ∙ sym (map-append Some gs (one_group marked (range_with_len n c))) in
    ap (λ (xs : List ℕ). let p : Parsed = record { ids = xs; table = with_group marked more (state ks gs).table } in p) ids
    ∙ ap (λ (xs : List (Option Item)).
    let p : Parsed = record { ids = range_with_len 0 (length (ks ++ more)); table = record { types = xs; groups = map Some gs ++ group_slot marked (range_with_len next c) } } in p) types
    ∙ ap (λ (xs : List (Option Group)). let p : Parsed = record { ids = range_with_len 0 (length (ks ++ more)); table = record { types = new_items 0 (ks ++ more); groups = xs } } in p) groups

straight_step : (done : List TypeGroup) (g : TypeGroup) → Goes done g → parsed_group g (straight done) ≡ straight (done ++ g ∷ [])
straight_step done g goes =
    let s : Parsed = straight done in
    let ks : List Kind = all_kinds done in
    let n : ℕ = length ks in
    let c : ℕ = length g.kinds in
    let len : next_id s.table ≡ n = length-new_items 0 ks in
    let known : known_ids g s ≡ range_with_len 0 (n + c) = range_append 0 n (next_id s.table) c (n + c) (omega (arith, len)) refl in
    let keeps : (i : ℕ) (k : Kind) → slice_get g.kinds i ≡ Some k → renamed_kind (at (known_ids g s)) k ≡ k =
    λ i k is.
    kinds-agree (at (known_ids g s)) (λ m. m) k (λ m h.
    let e : 0 + m ≡ m = omega arith in
    ap (λ (xs : List ℕ). at xs m) known ∙ get_or-range_with_len 0 (n + c) m 0 (goes.below i k m is h) ∙ e)
    ∙ kinds-kept k in
    let hs : List Group = groups_from 0 done in
    let kinds : ks ++ g.kinds ≡ all_kinds (done ++ g ∷ []) =
    ap (λ (xs : List Kind). ks ++ xs) (sym (append-nil g.kinds)) ∙ sym (flat_map-append kinds_in done (g ∷ [])) in
    let own : List Group = one_group g.marked (range_with_len n c) in
    let groups : hs ++ own ≡ groups_from 0 (done ++ g ∷ []) =
    ap (λ (xs : List Group). hs ++ xs) (sym (append-nil own)) ∙ sym (groups_append 0 n done (g ∷ []) (omega arith)) in
    ap (λ (xs : List Kind). added g.marked xs s) (maps_kept (renamed_kind (at (known_ids g s))) g.kinds keeps)
    ∙ added_is g.marked g.kinds s goes.single goes.apart
    ∙ grown_state ks g.kinds hs g.marked
    ∙ ap (λ (xs : List Kind). state xs (hs ++ own)) kinds
    ∙ ap (λ (xs : List Group). state (all_kinds (done ++ g ∷ [])) xs) groups

straight_run : (out done rest : List TypeGroup) → ((before after : List TypeGroup) (g : TypeGroup) → out ≡ before ++ g ∷ after → Goes before g) → out ≡ done ++ rest → parsed rest (straight done) ≡ straight (done ++ rest)
straight_run out done [] goes is = ap (λ (gs : List TypeGroup). straight gs) (sym (append-nil done))
straight_run out done (g ∷ rest) goes is =
    ap (λ (s : Parsed). parsed rest s) (straight_step done g (goes done rest g is))
    ∙ straight_run out (done ++ g ∷ []) rest goes (is ∙ sym (append_assoc done (g ∷ []) rest))
    ∙ ap (λ (gs : List TypeGroup). straight gs) (append_assoc done (g ∷ []) rest)

-- what is read is the section itself
pub straight_read : (out : List TypeGroup) → ((before after : List TypeGroup) (g : TypeGroup) → out ≡ before ++ g ∷ after → Goes before g) → read out ≡ straight out
straight_read out goes = straight_run out [] out goes refl

from_types : (b : ℕ) (gs : List TypeGroup) → flat_map types_of (groups_from b gs) ≡ range_with_len b (length (all_kinds gs))
from_types b [] = refl
from_types b (g ∷ gs) =
    let c : ℕ = length g.kinds in
    let own : List Group = one_group g.marked (range_with_len b c) in
    flat_map-append types_of own (groups_from (b + c) gs)
    ∙ ap (λ (xs : List ℕ). xs ++ flat_map types_of (groups_from (b + c) gs)) (one_types g.marked (range_with_len b c))
    ∙ ap (λ (xs : List ℕ). range_with_len b c ++ xs) (from_types (b + c) gs)
    ∙ range_append b c (b + c) (length (all_kinds gs)) (length (g.kinds ++ all_kinds gs)) refl (sym (length-append g.kinds (all_kinds gs)))

from_filled : (b : ℕ) (gs : List TypeGroup) (p : ℕ) (h : Group) → slice_get (groups_from b gs) p ≡ Some h → 0 < length h.types
from_filled b [] p h is = absurd (none-some h is)
from_filled b (g ∷ gs) p h is =
    let ids : List ℕ = range_with_len b (length g.kinds) in
    elim (append_at (one_group g.marked ids) (groups_from (b + length g.kinds) gs) p h is) as (λ _. 0 < length h.types) [
      | inl own ↦ let o = of_one g.marked ids p h own in subst (λ (w : Group). 0 < length w.types) (sym o.0) o.1
      | inr rest ↦ from_filled (b + length g.kinds) gs rest.0 h rest.2
    ]

pub straight_dense : (gs : List TypeGroup) → ((i : ℕ) (k : Kind) → slice_get (all_kinds gs) i ≡ Some k → k.entry ≡ false) → Dense (all_kinds gs) (groups_from 0 gs) (straight gs).table
straight_dense gs plain = record { types = refl; groups = refl; plain = plain; listed = from_types 0 gs; filled = from_filled 0 gs }
