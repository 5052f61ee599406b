-- Tables that are alike are written alike.
use Rattle.std.proofs.Common.{◌≡◌, ◌∙◌, ℕ, suc, ◌<◌, true, List, [], ◌∷◌, ◌++◌, length, map, Option, Some, None, is_some, if◌then◌else◌, refl, sym, ap, subst, arith}
use Rattle.std.specs.Prelude.{slice_index_or}
use Rattle.std.specs.List.{slice_get, flat_map, filter_map, cons_option}
use Rattle.std.specs.Option.{option_map, option_map_or}
use Rattle.std.proofs.lemmas.List.{length-map, map-append}
use Rattle.std.proofs.lemmas.Option.{slice_get-get_or, get_or_from_slice_get}
use Rattle.walrus_forms.specs.Kinds.{Kind, kind_names}
use Rattle.walrus_forms.specs.Order.{kind_cmp}
use Rattle.walrus_forms.specs.Records.{TypeGroup}
use Rattle.walrus_forms.specs.Renaming.{renamed_kind}
use Rattle.walrus_forms.proofs.RenamingLemmas.{In, kinds-agree, kinds-twice, kinds-names}
use Rattle.std.specs.declared.cmp.Ordering.TheVariants.{Equal}
use Rattle.walrus_type_order.specs.Order.{HasAnchor}
use Rattle.walrus_types.specs.Items.{Item, Group}
use Rattle.walrus_types.specs.Table.{Table, type_at}
use Rattle.walrus_types.specs.Emission.{written_kind, is_written, written_groups, loose_kind, single_kind, key_of, index_at, no_group, AreInOrder, AreArranged, written_types, described_group, IsEmission}
use Rattle.walrus_type_laws.specs.Alike.{keys_of, renamed_group, AreHomed, Alike, AlikeAreWrittenAlike}
use Rattle.walrus_type_laws.proofs.Faults.{names_written}
use Rattle.walrus_type_laws.proofs.KindOrder.{kinds-kept}
use Rattle.walrus_types.proofs.Places.{Turns, has_contains, pairs_of, turns_of, map_at, at_map, maps_agree, maps_twice, seat}
use Rattle.walrus_type_laws.proofs.TurnLemmas.{IsTurned, one_composed}
use Rattle.walrus_type_laws.proofs.Written.{types_of, AllWritten, home_written, written_all, Indexed, indexed, kind_of, written_item}
use Rattle.walrus_types.proofs.OnceLemmas.{some_is}

single_is : (t : Table) (id : ℕ) (k : Kind) → written_kind t id ≡ Some k → single_kind (type_at t) (id ∷ []) ≡ loose_kind (kind_names k) k
single_is t id k is =
    let found = written_item t id k is in
    ap (λ (o : Option Item). option_map_or (λ item. loose_kind (kind_names item.kind) item.kind) o None) found.1
    ∙ ap (λ (x : Kind). loose_kind (kind_names x) x) found.2

-- a kind that names no type is its own renaming
loose_none : (r : ℕ → ℕ) (k : Kind) (names : List ℕ) → kind_names k ≡ names → loose_kind (map r names) (renamed_kind r k) ≡ loose_kind names k
loose_none r k [] none =
    let same : renamed_kind r k ≡ renamed_kind (λ m. m) k = kinds-agree r (λ m. m) k (λ m i. absurd (subst (λ (ns : List ℕ). In m ns) none i)) in
    ap Some (same ∙ kinds-kept k)
loose_none r k (name ∷ names) is = refl

loose_same : (r : ℕ → ℕ) (k : Kind) → loose_kind (kind_names (renamed_kind r k)) (renamed_kind r k) ≡ loose_kind (kind_names k) k
loose_same r k = ap (λ (ns : List ℕ). loose_kind ns (renamed_kind r k)) (kinds-names r k) ∙ loose_none r k (kind_names k) refl

module _ (r : ℕ → ℕ) (t u : Table) (homed : AreHomed t) (alike : Alike r t u) where
  -- what r does to a type that is written
  abbrev pub wg : List Group
  wg = written_groups t

  pub kind_renamed : (id : ℕ) (k : Kind) → written_kind t id ≡ Some k → written_kind u (r id) ≡ Some (renamed_kind r k)
  kind_renamed id k is = alike.kinds id ((homed.homed id).1 (ap (λ (o : Option Kind). is_some o) is)) ∙ ap (option_map (renamed_kind r)) is

  pub written_renamed : (id : ℕ) → is_written t id ≡ true → is_written u (r id) ≡ true
  written_renamed id written = let k = kind_of t id written in ap (λ (o : Option Kind). is_some o) (kind_renamed id k.0 k.1)

  single_same : (ids : List ℕ) → ((k id : ℕ) → slice_get ids k ≡ Some id → is_written t id ≡ true) → single_kind (type_at u) (map r ids) ≡ single_kind (type_at t) ids
  single_same [] all = refl
  single_same (id ∷ []) all =
      let k = kind_of t id (all 0 id refl) in
      single_is u (r id) (renamed_kind r k.0) (kind_renamed id k.0 k.1) ∙ loose_same r k.0 ∙ sym (single_is t id k.0 k.1)
  single_same (id ∷ other ∷ ids) all = refl

  key_same : (g : Group) → ((k id : ℕ) → slice_get g.types k ≡ Some id → is_written t id ≡ true) → key_of u (renamed_group r g) ≡ key_of t g
  key_same g all = ap (λ (o : Option Kind). if g.explicit then None else o) (single_same g.types all)

  abbrev pick : ℕ → Group
  pick i = slice_index_or wg i no_group

  turns : Turns (length wg) alike.turn
  turns = turns_of (length wg) alike.turn alike.whole

  turned : IsTurned (keys_of t) (keys_of u) alike.turn
  turned = record {
    turns = subst (λ (n : ℕ). Turns n alike.turn) (sym (length-map wg (key_of t))) turns;
    sized = length-map (written_groups u) (key_of u) ∙ ap (λ (hs : List Group). length hs) alike.groups ∙ length-map alike.turn (λ i. renamed_group r (slice_index_or wg i no_group));
    same = λ p i at.
        let g : Group = slice_index_or wg i no_group in
        let at_g : slice_get wg i ≡ Some g = slice_get-get_or wg i no_group (turns.below p i at) in
        let at_u : slice_get (written_groups u) p ≡ Some (renamed_group r g) =
        ap (λ (hs : List Group). slice_get hs p) alike.groups ∙ at_map (λ i. renamed_group r (slice_index_or wg i no_group)) alike.turn p i at in
        at_map (key_of u) (written_groups u) p (renamed_group r g) at_u
        ∙ ap (λ (o : Option Kind). let key : Option (Option Kind) = Some o in key) (key_same g (λ k id at_k. home_written t homed i k g id at_g at_k))
        ∙ sym (at_map (key_of t) wg i g at_g);
    anchored = pairs_of (λ i j. HasAnchor (keys_of t) j i → ⊥) alike.turn alike.anchored;
    stable = pairs_of (λ i j. (a b : Kind) → slice_get (keys_of t) i ≡ Some (Some a) → slice_get (keys_of t) j ≡ Some (Some b) → kind_cmp a b ≡ Equal → i < j) alike.turn alike.stable;
  }

  -- the groups of u in order are those of t, renamed
  pub groups_same : (gs hs : List Group) → AreInOrder t gs → AreInOrder u hs → hs ≡ map (renamed_group r) gs
  groups_same gs hs in_t in_u =
      let a : List ℕ = in_t.order in
      let b : List ℕ = in_u.order in
      let rg : Group → Group = renamed_group r in
      let from : ℕ → ℕ = λ p. slice_index_or alike.turn p 0 in
      let composed : a ≡ map from b = one_composed (keys_of t) (keys_of u) alike.turn turned a b in_t.ordered in_u.ordered in
      let tb : Turns (length (keys_of u)) b = turns_of (length (keys_of u)) b in_u.ordered.whole in
      let each : (j p : ℕ) → slice_get b j ≡ Some p → slice_index_or (written_groups u) p no_group ≡ rg (pick (from p)) =
      λ j p at.
      let small : p < length alike.turn = omega (arith, tb.below j p at, turned.sized) in
      get_or_from_slice_get (written_groups u) p (rg (pick (from p))) no_group
      (ap (λ (xs : List Group). slice_get xs p) alike.groups ∙ at_map (λ i. rg (slice_index_or wg i no_group)) alike.turn p (from p) (slice_get-get_or alike.turn p 0 small)) in
      in_u.places
      ∙ maps_agree (λ i. slice_index_or (written_groups u) i no_group) (λ p. rg (pick (from p))) b each
      ∙ sym (maps_twice (λ p. pick (from p)) rg b)
      ∙ ap (map rg) (sym (maps_twice from pick b))
      ∙ ap (λ (xs : List ℕ). map rg (map pick xs)) (sym composed)
      ∙ ap (map rg) (sym in_t.places)

  types_renamed : (gs : List Group) → flat_map types_of (map (renamed_group r) gs) ≡ map r (flat_map types_of gs)
  types_renamed [] = refl
  types_renamed (g ∷ gs) = ap (λ (ids : List ℕ). map r g.types ++ ids) (types_renamed gs) ∙ sym (map-append r g.types (flat_map types_of gs))

  all_renamed : (gs : List Group) → AllWritten t gs → AllWritten u (map (renamed_group r) gs)
  all_renamed gs all p k g id at_p at_k =
      let h = map_at (renamed_group r) gs p g at_p in
      let i = map_at r h.0.types k id (ap (λ (w : Group). slice_get w.types k) h.2 ∙ at_k) in
      subst (λ (n : ℕ). is_written u n ≡ true) i.2 (written_renamed i.0 (all p k h.0 i.0 h.1 i.1))

  pub index_same : (gs : List Group) (index : ℕ → ℕ) (others : List (Option ℕ)) → Indexed t gs index → AreArranged u (map (renamed_group r) gs) others
      → (id : ℕ) → is_written t id ≡ true → index_at others (r id) ≡ index id
  index_same gs index others idx arranged id written =
      let ids : List ℕ = flat_map types_of gs in
      let hs : List Group = map (renamed_group r) gs in
      let is : written_types u hs ≡ map r ids = written_all u hs (all_renamed gs idx.all) ∙ types_renamed gs in
      let here : slice_get (written_types u hs) (index id) ≡ Some (r id) = ap (λ (xs : List ℕ). slice_get xs (index id)) is ∙ at_map r ids (index id) id (idx.there id written) in
      let some = some_is (slice_index_or others (r id) None) (arranged.indexed.each (r id) (has_contains (written_types u hs) (r id) (index id, here))) in
      let j : ℕ = index_at others (r id) in
      let at_j : slice_get (map r ids) j ≡ Some (r id) = ap (λ (xs : List ℕ). slice_get xs j) (sym is) ∙ arranged.indexed.place (r id) j some in
      let m = map_at r ids j (r id) at_j in
      let s = seat types_of gs j m.0 m.1 in
      let its = idx.all s.piece s.place s.from m.0 s.at_piece s.at_place in
      let e : m.0 ≡ id = alike.one m.0 id ((homed.homed m.0).1 its) ((homed.homed id).1 written) m.2 in
      sym (idx.back j id (m.1 ∙ ap Some e))

  kinds_renamed : (f g : ℕ → ℕ) (ids : List ℕ)
      → ((k id : ℕ) → slice_get ids k ≡ Some id → (x : Kind) × (written_kind t id ≡ Some x) × (renamed_kind f (renamed_kind r x) ≡ renamed_kind g x))
      → map (renamed_kind f) (filter_map (written_kind u) (map r ids)) ≡ map (renamed_kind g) (filter_map (written_kind t) ids)
  kinds_renamed f g [] all = refl
  kinds_renamed f g (id ∷ ids) all =
      let x = all 0 id refl in
      let us : List Kind = filter_map (written_kind u) (map r ids) in
      let ts : List Kind = filter_map (written_kind t) ids in
      ap (λ (o : Option Kind). map (renamed_kind f) (cons_option o us)) (kind_renamed id x.0 x.1)
      ∙ ap (λ (y : Kind). y ∷ map (renamed_kind f) us) x.2
      ∙ ap (λ (ys : List Kind). renamed_kind g x.0 ∷ ys) (kinds_renamed f g ids (λ k i at. all (suc k) i at))
      ∙ sym (ap (λ (o : Option Kind). map (renamed_kind g) (cons_option o ts)) x.1)

  -- the records and the indices are the same
  same_emission : (out other : List TypeGroup) (indices others : List (Option ℕ)) → IsEmission t out indices → IsEmission u other others
      → (other ≡ out) × ((id : ℕ) → is_written t id ≡ true → index_at others (r id) ≡ index_at indices id)
  same_emission out other indices others first second =
      let gs : List Group = first.groups in
      let index : ℕ → ℕ = index_at indices in
      let idx : Indexed t gs index = indexed t gs indices homed first.arranged in
      let groups : second.groups ≡ map (renamed_group r) gs = groups_same gs second.groups first.arranged.in_order second.arranged.in_order in
      let arranged : AreArranged u (map (renamed_group r) gs) others = subst (λ (hs : List Group). AreArranged u hs others) groups second.arranged in
      let same : (id : ℕ) → is_written t id ≡ true → index_at others (r id) ≡ index id = index_same gs index others idx arranged in
      let kinds : (p : ℕ) (g : Group) → slice_get gs p ≡ Some g → (k id : ℕ) → slice_get g.types k ≡ Some id
      → (x : Kind) × (written_kind t id ≡ Some x) × (renamed_kind (index_at others) (renamed_kind r x) ≡ renamed_kind index x) =
      λ p g at_p k id at_k.
      let x = kind_of t id (idx.all p k g id at_p at_k) in (
        x.0,
        x.1,
        kinds-twice r (index_at others) x.0
            ∙ kinds-agree (λ m. index_at others (r m)) index x.0 (λ m i. same m (names_written t index 0 gs first.sound p k g id x.0 m at_p at_k x.1 i).0),
      ) in
      let each : (p : ℕ) (g : Group) → slice_get gs p ≡ Some g → described_group u (index_at others) (renamed_group r g) ≡ described_group t index g =
      λ p g at.
      ap (λ (ks : List Kind). let d : TypeGroup = record { marked = g.explicit; kinds = ks } in d) (kinds_renamed (index_at others) index g.types (kinds p g at)) in
      let records : other ≡ out =
      second.described
      ∙ ap (map (described_group u (index_at others))) groups
      ∙ maps_twice (renamed_group r) (described_group u (index_at others)) gs
      ∙ maps_agree (λ g. described_group u (index_at others) (renamed_group r g)) (described_group t index) gs each
      ∙ sym first.described in
      (records, same)

pub alike-law : AlikeAreWrittenAlike
alike-law r t u homed alike out other indices others first second = same_emission r t u homed alike out other indices others first second
