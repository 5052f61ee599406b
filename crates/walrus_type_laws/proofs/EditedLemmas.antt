-- Reading back what an edited table emits.
use Rattle.std.proofs.Common.{◌≡◌, ◌∙◌, ℕ, ◌<◌, true, List, length, map, Option, Some, None, is_some, sym, ap, subst, arith}
use Rattle.std.specs.List.{slice_get, range_with_len}
use Rattle.std.proofs.lemmas.Option.{slice_get_within, get_or_from_slice_get, same_Some}
use Rattle.walrus_forms.specs.Kinds.{Kind}
use Rattle.walrus_forms.specs.Records.{TypeGroup}
use Rattle.walrus_forms.specs.Renaming.{renamed_kind}
use Rattle.walrus_types.specs.Items.{Group}
use Rattle.walrus_types.specs.Table.{Table, type_at, group_at, next_id, HasMember}
use Rattle.walrus_types.specs.TypeLaws.{AreGrouped}
use Rattle.walrus_types.specs.Merged.{IsMerged, UnmarkedAreSingle}
use Rattle.walrus_types.specs.Parsing.{Parsed}
use Rattle.walrus_types.specs.Emission.{written_kind, is_written, written_groups, index_at, IsEmission}
use Rattle.walrus_types.proofs.GroupLemmas.{length-new_items}
use Rattle.walrus_types.proofs.OnceLemmas.{reordered, place_written}
use Rattle.walrus_types.proofs.Places.{has_contains, contains_has, at_map}
use Rattle.walrus_type_laws.specs.Alike.{renamed_group}
use Rattle.walrus_type_laws.specs.Rounds.{read}
use Rattle.walrus_type_laws.specs.Edited.{explicit_group, IsReadBack, EditedAreReadBack, EditedAreWrittenAgain}
use Rattle.walrus_type_laws.proofs.AgainLemmas.{at_place, out_kind, index_one, groups_out, plain_out, straight_is, both_again}
use Rattle.walrus_type_laws.proofs.Dense.{dense_type}
use Rattle.walrus_type_laws.proofs.Marked.{marked_group, marked_table, marked_at, marked_steady, marked_emission, read_marked, marks_kept}
use Rattle.walrus_type_laws.proofs.OrdinaryLemmas.{emitted_single}
use Rattle.walrus_type_laws.proofs.Steady.{Steady, shown_by}
use Rattle.walrus_type_laws.proofs.Straight.{all_kinds, groups_from, straight, straight_dense}

module _ (t : Table) (steady : Steady t) (out : List TypeGroup) (indices : List (Option ℕ)) (emission : IsEmission t out indices) where
  abbrev m : ℕ → ℕ
  m = index_at indices

  abbrev u : Table
  u = (straight out).table

  ids_count : next_id u ≡ length (all_kinds out)
  ids_count = length-new_items 0 (all_kinds out)

  -- where a group that is written comes to stand
  home_back : (p : ℕ) (group : Group) → slice_get (written_groups t) p ≡ Some group → (q : ℕ) × (group_at u q ≡ Some (renamed_group m group))
  home_back p group at =
      let hs : List Group = emission.groups in
      let re = reordered t hs emission.arranged.in_order in
      let turn = re.turns.onto p (slice_get_within (written_groups t) p group at) in
      let f = re.forth turn.0 p turn.1 in
      let same : f.0 ≡ group = same_Some f.0 group (sym f.2 ∙ at) in
      let there : slice_get (groups_from 0 out) turn.0 ≡ Some (renamed_group m group) =
      ap (λ (gs : List Group). slice_get gs turn.0) (groups_out t steady out indices emission)
      ∙ at_map (renamed_group m) hs turn.0 group (f.1 ∙ ap Some same) in
      (turn.0, get_or_from_slice_get (map Some (groups_from 0 out)) turn.0 (Some (renamed_group m group)) None (at_map Some (groups_from 0 out) turn.0 (renamed_group m group) there))

  ids_back : (straight out).ids ≡ range_with_len 0 (next_id u)
  ids_back = ap (λ (n : ℕ). range_with_len 0 n) (sym ids_count)

  kind_back : (id : ℕ) (kind : Kind) → written_kind t id ≡ Some kind → type_at u (m id) ≡ Some (record { id = m id; kind = renamed_kind m kind; name = None })
  kind_back id kind is =
      dense_type (all_kinds out) (groups_from 0 out) u (straight_dense out (plain_out t steady out indices emission)) (m id) (renamed_kind m kind)
      (out_kind t steady out indices emission id kind (ap (λ (o : Option Kind). is_some o) is) is)

  onto_back : (k : ℕ) → k < next_id u → (id : ℕ) × (is_written t id ≡ true) × (m id ≡ k)
  onto_back k less =
      let a = at_place t steady out indices emission k (omega (arith, less, ids_count)) in
      (a.id, a.written, a.index)

  member_back : (id : ℕ) (group : Group) → is_written t id ≡ true → HasMember t id group → HasMember u (m id) (renamed_group m group)
  member_back id group written h =
      let has = place_written t h.place group h.live (shown_by t group id h.listed written) in
      let back = home_back has.0 group has.1 in
      let place = contains_has group.types id h.listed in
      record { place = back.0; live = back.1; listed = has_contains (map m group.types) (m id) (place.0, at_map m group.types place.0 id place.1) }

-- by the table whose groups of several are explicit
module _ (t : Table) (grouped : AreGrouped t) (merged : IsMerged t) (out : List TypeGroup) (indices : List (Option ℕ)) (emission : IsEmission t out indices) where
  abbrev v : Table
  v = marked_table t

  abbrev records : List TypeGroup
  records = map explicit_group out

  steady : Steady v
  steady = marked_steady t grouped merged

  written : IsEmission v records indices
  written = marked_emission t grouped merged out indices emission

  straight_back : IsReadBack t (index_at indices) (straight records)
  straight_back = record {
    ids = ids_back v steady records indices written;
    kinds = kind_back v steady records indices written;
    one = index_one v steady records indices written;
    onto = onto_back v steady records indices written;
    groups = λ id group shown h.
        member_back v steady records indices written id (marked_group group) shown (record { place = h.place; live = marked_at t.groups h.place group h.live; listed = h.listed });
  }

  back : IsReadBack t (index_at indices) (read out)
  back = subst (λ (p : Parsed). IsReadBack t (index_at indices) p) (sym (straight_is v steady records indices written) ∙ read_marked out) straight_back

  again : (second : List TypeGroup) (others : List (Option ℕ)) → IsEmission (read out).table second others
      → (second ≡ records) × (UnmarkedAreSingle t → second ≡ out) × ((id : ℕ) → is_written t id ≡ true → index_at others (index_at indices id) ≡ index_at indices id)
  again second others next =
      let both = both_again v steady records indices written second others (subst (λ (p : Parsed). IsEmission p.table second others) (sym (read_marked out)) next) in
      (both.0, λ single. both.0 ∙ marks_kept out (emitted_single t out indices emission single), both.1)

pub read_back-law : EditedAreReadBack
read_back-law t grouped merged out indices emission = back t grouped merged out indices emission

pub written_again-law : EditedAreWrittenAgain
written_again-law t grouped merged out second indices others first emission = again t grouped merged out indices first second others emission
