-- A table whose groups of several types are made explicit, beside the one in which they may be without a mark: what is written of the one is
-- what is written of the other, but for these marks, and it is read back alike.
use Rattle.std.proofs.Common.{◌≡◌, ◌≢◌, ◌∙◌, ℕ, zero, suc, ◌+◌, Bool, true, false, not, ◌&&◌, ◌==◌, All, AllPairs, Contains, List, [], ◌∷◌, ◌++◌, length, map, filter, Option, Some, None, if◌then◌else◌, refl, sym, ap, subst, arith}
use Rattle.std.specs.Prelude.{slice_index_or}
use Rattle.std.specs.List.{slice_get, filter_map, list_any}
use Rattle.std.specs.Option.{option_map, option_or}
use Rattle.std.proofs.lemmas.Bool.{and_parts, eq-eqb, eqb-true, ne_eqb}
use Rattle.std.proofs.lemmas.List.{length-map}
use Rattle.std.proofs.lemmas.List.Elements.{All-head, All-tail}
use Rattle.std.proofs.lemmas.Option.{get_or_from_slice_get, same_Some, none-some}
use Rattle.walrus_arena.specs.Arena.{entries_from}
use Rattle.walrus_type_order.specs.Order.{IsEmissionOrder}
use Rattle.walrus_forms.specs.Kinds.{Kind}
use Rattle.walrus_forms.specs.Order.{kind_cmp}
use Rattle.walrus_forms.specs.Records.{TypeGroup}
use Rattle.walrus_forms.specs.Renaming.{at, renamed_kind}
use Rattle.walrus_types.specs.Items.{Item, Group}
use Rattle.walrus_types.specs.Table.{Table, type_at, group_at}
use Rattle.walrus_types.specs.TypeLaws.{AreGrouped}
use Rattle.walrus_types.specs.Merged.{single_group, IsMerged, UnmarkedAreSingle}
use Rattle.walrus_types.specs.Parsing.{Parsed, added, known_ids, parsed_group, parsed, unparsed}
use Rattle.walrus_types.specs.Emission.{written_kind, is_written, written_groups, single_kind, key_of, index_at, no_group, AreInOrder, written_in, written_types, first_fault, fault_at, group_names, groups_fault, described_group, IsEmission}
use Rattle.walrus_types.proofs.Places.{get, at_map, maps_agree, maps_twice, turns_of}
use Rattle.walrus_type_laws.specs.Alike.{AreHomed}
use Rattle.walrus_type_laws.specs.Rounds.{empty_table, read}
use Rattle.walrus_type_laws.specs.Ordinary.{IsSingleUnmarked}
use Rattle.walrus_type_laws.specs.Edited.{explicit_group}
use Rattle.walrus_type_laws.proofs.Shape.{not_false}
use Rattle.walrus_type_laws.proofs.Steady.{Steady, edited_homed, edited_steady}
use Rattle.walrus_type_laws.proofs.Written.{indexed, group_kinds}

abbrev pub marked_group : Group → Group
marked_group g = record { explicit = not (not g.explicit && length g.types == 1); types = g.types }

abbrev pub marked_table : Table → Table
marked_table t = record { types = t.types; groups = map (option_map marked_group) t.groups }

-- its groups
at_marked : (slots : List (Option Group)) (p : ℕ) (g : Group) → slice_index_or (map (option_map marked_group) slots) p None ≡ Some g
    → (h : Group) × (slice_index_or slots p None ≡ Some h) × (g ≡ marked_group h)
at_marked [] p g is = absurd (none-some g is)
at_marked (None ∷ slots) zero g is = absurd (none-some g is)
at_marked (Some h ∷ slots) zero g is = (h, refl, sym (same_Some (marked_group h) g is))
at_marked (slot ∷ slots) (suc p) g is = at_marked slots p g is

pub marked_at : (slots : List (Option Group)) (p : ℕ) (h : Group) → slice_index_or slots p None ≡ Some h → slice_index_or (map (option_map marked_group) slots) p None ≡ Some (marked_group h)
marked_at [] p h is = absurd (none-some h is)
marked_at (None ∷ slots) zero h is = absurd (none-some h is)
marked_at (Some g ∷ slots) zero h is = ap (λ (x : Group). let o : Option Group = Some (marked_group x) in o) (same_Some g h is)
marked_at (slot ∷ slots) (suc p) h is = marked_at slots p h is

not_so : (b : Bool) → not b ≡ true → b ≡ false
not_so true h = absurd cc
not_so false h = refl

-- one that isn't explicit then
still_unmarked : (g : Group) → (marked_group g).explicit ≡ false → (g.explicit ≡ false) × (length g.types ≡ 1)
still_unmarked g h =
    let parts = and_parts (not g.explicit) (length g.types == 1) (not_false (not g.explicit && length g.types == 1) h) in
    (not_so g.explicit parts.0, eqb-true (length g.types) 1 parts.1)

still_single : (g : Group) (id : ℕ) → single_group id ≡ marked_group g → g ≡ single_group id
still_single g id is =
    let explicit : g.explicit ≡ false = (still_unmarked g (sym (ap (λ (w : Group). w.explicit) is))).0 in
    let types : g.types ≡ id ∷ [] = sym (ap (λ (w : Group). w.types) is) in
    ap (λ (e : Bool). let w : Group = record { explicit = e; types = g.types } in w) explicit ∙ ap (λ (xs : List ℕ). let w : Group = record { explicit = false; types = xs } in w) types

module _ (t : Table) where
  abbrev v : Table
  v = marked_table t

  old_group : (p : ℕ) (g : Group) → group_at v p ≡ Some g → (h : Group) × (group_at t p ≡ Some h) × (g ≡ marked_group h)
  old_group p g is = at_marked t.groups p g is

  in_old : (g h : Group) (id : ℕ) → g ≡ marked_group h → Contains g.types id → Contains h.types id
  in_old g h id is c = subst (λ (w : Group). Contains w.types id) is c

  marked_grouped : AreGrouped t → AreGrouped v
  marked_grouped grouped = record {
    listed = λ id item live.
        let home = grouped.listed id item live in
        let m = home.1 in
        (marked_group home.0, record { place = m.place; live = marked_at t.groups m.place home.0 m.live; listed = m.listed });
    live = λ place g is id c. let h = old_group place g is in grouped.live place h.0 h.1 id (in_old g h.0 id h.2 c);
    one = λ id p q g h at_p in_g at_q in_h.
        let a = old_group p g at_p in
        let b = old_group q h at_q in
        grouped.one id p q a.0 b.0 a.1 (in_old g a.0 id a.2 in_g) b.1 (in_old h b.0 id b.2 in_h);
    once = λ place g is. let h = old_group place g is in subst (λ (w : Group). AllPairs (λ x y. x ≢ y) w.types) (sym h.2) (grouped.once place h.0 h.1);
    rising = λ p q g h before at_p at_q i j in_g in_h.
        let a = old_group p g at_p in
        let b = old_group q h at_q in
        grouped.rising p q a.0 b.0 before a.1 b.1 i j (in_old g a.0 i a.2 in_g) (in_old h b.0 j b.2 in_h);
  }

  marked_merged : IsMerged t → IsMerged v
  marked_merged merged = record {
    apart = λ place a b x y is is_b apart_b less is_a.
        let h = old_group place (single_group b) is in
        merged.apart place a b x y (h.1 ∙ ap Some (still_single h.0 b h.2)) is_b apart_b less is_a;
    entries = λ place g is id item c live entry.
        let h = old_group place g is in
        ap (λ (w : Group). w.types) h.2 ∙ merged.entries place h.0 h.1 id item (in_old g h.0 id h.2 c) live entry;
  }

  marked_single : UnmarkedAreSingle v
  marked_single place g is unmarked =
      let h = old_group place g is in
      ap (λ (w : Group). length w.types) h.2 ∙ (still_unmarked h.0 (sym (ap (λ (w : Group). w.explicit) h.2) ∙ unmarked)).1

  pub marked_steady : AreGrouped t → IsMerged t → Steady v
  marked_steady grouped merged = edited_steady v (marked_grouped grouped) (marked_merged merged) marked_single

  -- the groups that are written
  entries_marked : (i : ℕ) (slots : List (Option Group)) → map (λ e. e.1) (entries_from i (map (option_map marked_group) slots)) ≡ map marked_group (map (λ e. e.1) (entries_from i slots))
  entries_marked i [] = refl
  entries_marked i (None ∷ slots) = entries_marked (i + 1) slots
  entries_marked i (Some g ∷ slots) = ap (λ (gs : List Group). marked_group g ∷ gs) (entries_marked (i + 1) slots)

  shown_marked : (b : Bool) (g : Group) (gs hs : List Group) → hs ≡ map marked_group gs → (if b then marked_group g ∷ hs else hs) ≡ map marked_group (if b then g ∷ gs else gs)
  shown_marked true g gs hs is = ap (λ (l : List Group). marked_group g ∷ l) is
  shown_marked false g gs hs is = is

  filter_marked : (w : ℕ → Bool) (gs : List Group) → filter (λ group. list_any w group.types) (map marked_group gs) ≡ map marked_group (filter (λ group. list_any w group.types) gs)
  filter_marked w [] = refl
  filter_marked w (g ∷ gs) =
      shown_marked (list_any w g.types) g (filter (λ group. list_any w group.types) gs) (filter (λ group. list_any w group.types) (map marked_group gs)) (filter_marked w gs)

  groups_marked : written_groups v ≡ map marked_group (written_groups t)
  groups_marked =
      ap (λ (gs : List Group). filter (λ group. list_any (is_written t) group.types) gs) (entries_marked 0 t.groups)
      ∙ filter_marked (is_written t) (map (λ e. e.1) (entries_from 0 t.groups))

  -- they are anchors as before
  key_marked : (find : ℕ → Option Item) (explicit : Bool) (ids : List ℕ)
      → (if not (not explicit && length ids == 1) then None else single_kind find ids) ≡ (if explicit then None else single_kind find ids)
  key_marked find true ids = refl
  key_marked find false [] = refl
  key_marked find false (id ∷ []) = refl
  key_marked find false (id ∷ other ∷ ids) =
      ap (λ (one : Bool). if not one then None else single_kind find (id ∷ other ∷ ids)) (ne_eqb (length (id ∷ other ∷ ids)) 1 (λ e. omega (arith, e)))

  keys_marked : map (key_of v) (written_groups v) ≡ map (key_of t) (written_groups t)
  keys_marked =
      ap (map (key_of v)) groups_marked
      ∙ maps_twice marked_group (key_of v) (written_groups t)
      ∙ maps_agree (λ g. key_of v (marked_group g)) (key_of t) (written_groups t) (λ i g is. key_marked (type_at t) g.explicit g.types)

  in_order_marked : (gs : List Group) → AreInOrder t gs → AreInOrder v (map marked_group gs)
  in_order_marked gs is =
      let wg : List Group = written_groups t in
      let keys : List (Option Kind) = map (key_of t) wg in
      let pick : ℕ → Group = λ i. slice_index_or wg i no_group in
      let again : ℕ → Group = λ i. slice_index_or (written_groups v) i no_group in
      let turns = turns_of (length keys) is.order is.ordered.whole in
      let each : (j i : ℕ) → slice_get is.order j ≡ Some i → marked_group (pick i) ≡ again i =
      λ j i at_j.
      let g = get wg i (omega (arith, turns.below j i at_j, length-map wg (key_of t))) in
      ap marked_group (get_or_from_slice_get wg i g.0 no_group g.1)
      ∙ sym (ap (λ (hs : List Group). slice_index_or hs i no_group) groups_marked ∙ get_or_from_slice_get (map marked_group wg) i (marked_group g.0) no_group (at_map marked_group wg i g.0 g.1)) in
      record {
        order = is.order;
        ordered = subst (λ (ks : List (Option Kind)). IsEmissionOrder kind_cmp ks is.order) (sym keys_marked) is.ordered;
        places = ap (map marked_group) is.places ∙ maps_twice pick marked_group is.order ∙ maps_agree (λ i. marked_group (pick i)) again is.order each;
      }

  types_marked : (gs : List Group) → written_types v (map marked_group gs) ≡ written_types t gs
  types_marked [] = refl
  types_marked (g ∷ gs) = ap (λ (ids : List ℕ). written_in t g ++ ids) (types_marked gs)

  fault_marked : (index : ℕ → ℕ) (first : ℕ) (gs : List Group) → groups_fault v index first (map marked_group gs) ≡ groups_fault t index first gs
  fault_marked index first [] = refl
  fault_marked index first (g ∷ gs) =
      let end : ℕ = first + length (written_in t g) in
      ap (option_or (first_fault (fault_at t index end) (group_names t g))) (fault_marked index end gs)

  described_marked : (index : ℕ → ℕ) (g : Group) → ((k id : ℕ) → slice_get g.types k ≡ Some id → is_written t id ≡ true) → explicit_group (described_group t index g) ≡ described_group v index (marked_group g)
  described_marked index g all =
      let kinds : List Kind = map (renamed_kind index) (filter_map (written_kind t) g.types) in
      ap (λ (n : ℕ). let d : TypeGroup = record { marked = not (not g.explicit && n == 1); kinds = kinds } in d)
      (length-map (filter_map (written_kind t) g.types) (renamed_kind index) ∙ group_kinds t g all)

  pub marked_emission : AreGrouped t → IsMerged t → (out : List TypeGroup) (indices : List (Option ℕ)) → IsEmission t out indices → IsEmission v (map explicit_group out) indices
  marked_emission grouped merged out indices is =
      let gs : List Group = is.groups in
      let index : ℕ → ℕ = index_at indices in
      let homed : AreHomed t = edited_homed t grouped merged in
      let idx = indexed t gs indices homed is.arranged in
      let places = is.arranged.indexed in
      record {
        groups = map marked_group gs;
        arranged = record {
          in_order = in_order_marked gs is.arranged.in_order;
          indexed = record {
            sized = places.sized;
            place = λ id n at_n. ap (λ (ids : List ℕ). slice_get ids n) (types_marked gs) ∙ places.place id n at_n;
            each = λ id c. places.each id (subst (λ (ids : List ℕ). Contains ids id) (types_marked gs) c);
          };
        };
        sound = fault_marked index 0 gs ∙ is.sound;
        described = ap (map explicit_group) is.described
            ∙ maps_twice (described_group t index) explicit_group gs
            ∙ maps_agree (λ g. explicit_group (described_group t index g)) (λ g. described_group v index (marked_group g)) gs (λ p g at_p. described_marked index g (λ k id at_k. idx.all p k g id at_p at_k))
            ∙ sym (maps_twice marked_group (described_group v index) gs);
      }

-- what is read is the same
added_marked : (marked : Bool) (kinds : List Kind) (s : Parsed) → added (not (not marked && length kinds == 1)) kinds s ≡ added marked kinds s
added_marked true kinds s = refl
added_marked false [] s = refl
added_marked false (kind ∷ []) s = refl
added_marked false (kind ∷ second ∷ rest) s = ap (λ (one : Bool). added (not one) (kind ∷ second ∷ rest) s) (ne_eqb (length (kind ∷ second ∷ rest)) 1 (λ e. omega (arith, e)))

group_marked : (g : TypeGroup) (s : Parsed) → parsed_group (explicit_group g) s ≡ parsed_group g s
group_marked g s =
    let r : ℕ → ℕ = at (known_ids g s) in
    let kinds : List Kind = map (renamed_kind r) g.kinds in
    ap (λ (n : ℕ). added (not (not g.marked && n == 1)) kinds s) (sym (length-map g.kinds (renamed_kind r))) ∙ added_marked g.marked kinds s

groups_read : (gs : List TypeGroup) (s : Parsed) → parsed (map explicit_group gs) s ≡ parsed gs s
groups_read [] s = refl
groups_read (g ∷ gs) s = ap (parsed (map explicit_group gs)) (group_marked g s) ∙ groups_read gs (parsed_group g s)

pub read_marked : (gs : List TypeGroup) → read (map explicit_group gs) ≡ read gs
read_marked gs = groups_read gs (unparsed empty_table)

-- where those without a mark have one type nothing changes
mark_kept : (marked : Bool) (n : ℕ) → (marked ≡ false → n ≡ 1) → not (not marked && n == 1) ≡ marked
mark_kept true n one = refl
mark_kept false n one = ap not (eq-eqb n 1 (one refl))

pub marks_kept : (gs : List TypeGroup) → All IsSingleUnmarked gs → map explicit_group gs ≡ gs
marks_kept [] all = refl
marks_kept (g ∷ gs) all =
    ap (λ (b : Bool). let d : TypeGroup = record { marked = b; kinds = g.kinds } in d ∷ map explicit_group gs) (mark_kept g.marked (length g.kinds) (All-head IsSingleUnmarked g gs all))
    ∙ ap (λ (ds : List TypeGroup). g ∷ ds) (marks_kept gs (All-tail IsSingleUnmarked g gs all))
