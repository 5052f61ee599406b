-- The index map carries a section onto what is emitted.
use Rattle.std.proofs.Common.{◌≡◌, ◌∙◌, ℕ, zero, suc, ◌+◌, ◌<◌, ◌≤◌, inl, inr, Bool, true, List, [], ◌∷◌, length, map, take, Option, Some, None, sym, ap, subst, arith}
use Rattle.std.specs.List.{slice_get, range_with_len, flat_map, filter_map}
use Rattle.std.proofs.lemmas.Bool.{cases_Bool}
use Rattle.std.proofs.lemmas.List.{length-map, take-map}
use Rattle.std.proofs.lemmas.List.FromFn.{length-range_with_len}
use Rattle.std.proofs.lemmas.Option.{slice_get_within, same_Some, none-some}
use Rattle.walrus_arena.proofs.ArenaLemmas.{live-within}
use Rattle.walrus_forms.specs.declared.record.GroupRecord.{GroupRecord}
use Rattle.walrus_forms.specs.Kinds.{Kind}
use Rattle.walrus_forms.specs.Records.{TypeGroup, record_kind, type_group}
use Rattle.walrus_forms.specs.Renaming.{at, renamed_kind}
use Rattle.walrus_forms.proofs.RenamingLemmas.{kinds-twice}
use Rattle.walrus_types.specs.Items.{Item, Group}
use Rattle.walrus_types.specs.Table.{Table}
use Rattle.walrus_types.specs.Parsing.{Parsed, AreBelow}
use Rattle.walrus_types.specs.Mergers.{Entry, is_single, entries_of, IsSame, CarriesSame}
use Rattle.walrus_types.specs.Emission.{written_kind, is_written, written_groups, index_at, described_group, IsEmission}
use Rattle.walrus_types.proofs.MergerLemmas.{parsing-law}
use Rattle.walrus_types.proofs.SameOnce.{once-law}
use Rattle.walrus_type_laws.specs.Alike.{AreHomed}
use Rattle.walrus_type_laws.specs.Rounds.{read, index_map, IsGroupAt, is_explicit, carried_group, IsCarried, SectionsAreCarried}
use Rattle.walrus_types.proofs.OnceLemmas.{reordered}
use Rattle.walrus_types.proofs.Places.{get, map_at, at_map, same_list, seat, unseat, start, range_at, left_at, right_at}
use Rattle.walrus_type_laws.proofs.Written.{types_of, Indexed, indexed, group_kinds, group_kind_at, make_entry, described_length, described_at}
use Rattle.walrus_type_laws.proofs.Dense.{dense_length, dense_type, dense_written, dense_below, dense_is, dense_groups, dense_homed}
use Rattle.walrus_type_laws.proofs.Shape.{Shape, entries_more, before_end}
use Rattle.walrus_type_laws.proofs.ShapeRun.{PlainGroups, shape_read}

-- a type of a group among all types
entry_at : (groups : List TypeGroup) (p k : ℕ) (g : TypeGroup) (kind : Kind) → slice_get groups p ≡ Some g → slice_get g.kinds k ≡ Some kind
    → slice_get (entries_of groups) (length (entries_of (take p groups)) + k) ≡ Some (make_entry (is_single g) kind)
entry_at [] p k g kind at_p at_k = absurd (none-some g at_p)
entry_at (h ∷ groups) zero k g kind at_p at_k =
    let e : h ≡ g = same_Some h g at_p in
    let b : Bool = is_single h in
    let here = left_at (map (λ (x : Kind). let y : Entry = record { single = b; kind = x } in y) h.kinds) (entries_of groups) k (make_entry b kind)
    (at_map (λ (x : Kind). let y : Entry = record { single = b; kind = x } in y) h.kinds k kind (ap (λ (w : TypeGroup). slice_get w.kinds k) e ∙ at_k)) in
    let n : 0 + k ≡ k = omega arith in
    ap (λ (i : ℕ). slice_get (entries_of (h ∷ groups)) i) n ∙ here ∙ ap (λ (w : TypeGroup). let o : Option Entry = Some (make_entry (is_single w) kind) in o) e
entry_at (h ∷ groups) (suc p) k g kind at_p at_k =
    let b : Bool = is_single h in
    let news : List Entry = map (λ (x : Kind). let y : Entry = record { single = b; kind = x } in y) h.kinds in
    let sized : length news ≡ length h.kinds = length-map h.kinds (λ (x : Kind). let y : Entry = record { single = b; kind = x } in y) in
    right_at news (entries_of groups) (length (entries_of (take p groups)) + k) (length (entries_of (take (suc p) (h ∷ groups))) + k) (make_entry (is_single g) kind)
    (omega (arith, sized, entries_more h (take p groups))) (entry_at groups p k g kind at_p at_k)

pub front_at : {X : Type 0} (n : ℕ) (xs : List X) (i : ℕ) (x : X) → slice_get (take n xs) i ≡ Some x → slice_get xs i ≡ Some x
front_at zero xs i x is = absurd (none-some x is)
front_at (suc n) [] i x is = absurd (none-some x is)
front_at (suc n) (y ∷ xs) zero x is = is
front_at (suc n) (y ∷ xs) (suc i) x is = front_at n xs i x is

-- what a type stands for isn't later
same_low : (entries : List Entry) (same : List ℕ) → IsSame entries same → (j : ℕ) → j < length entries → at same j ≤ j
same_low entries same is j less =
    let e = get entries j less in
    elim (cases_Bool (e.0).single) as (λ _. at same j ≤ j) [
      | inl single ↦ elim (is.single j e.0 e.1 single) as (λ _. at same j ≤ j) [
        | inl q ↦ let l = (q.0).earlier in omega (arith, l)
        | inr z ↦ omega (arith, z.0)
      ]
      | inr grouped ↦ omega (arith, is.grouped j e.0 e.1 grouped)
    ]

module _ (groups : List TypeGroup) (plain : PlainGroups groups) (below : AreBelow 0 groups) (same : List ℕ) (is_same : IsSame (entries_of groups) same)
    (out : List TypeGroup) (indices : List (Option ℕ)) (emission : IsEmission (read groups).table out indices) where
  abbrev p : Parsed
  p = read groups

  abbrev t : Table
  t = (read groups).table

  abbrev r : ℕ → ℕ
  r = index_at indices

  abbrev hs : List Group
  hs = emission.groups

  abbrev ids : List ℕ
  ids = (read groups).ids

  shape : Shape groups p
  shape = shape_read groups plain

  carries : CarriesSame (entries_of groups) p
  carries = parsing-law groups below

  homed : AreHomed t
  homed = dense_homed shape.kinds shape.gs t shape.dense

  idx : Indexed t hs r
  idx = indexed t hs indices homed emission.arranged

  agree : (i : ℕ) → i < length (entries_of groups) → at carries.same i ≡ at same i
  agree i less = once-law groups below carries.same same carries.is_same is_same i less

  id_written : (i : ℕ) → i < length (entries_of groups) → is_written t (at ids i) ≡ true
  id_written i less =
      let e = get (entries_of groups) i less in
      let live = live-within t.types (at ids i) (record { id = at ids i; kind = renamed_kind (at ids) (e.0).kind; name = None }) (carries.kinds i e.0 e.1) in
      dense_is shape.kinds shape.gs t shape.dense (at ids i) (omega (arith, live, dense_length shape.kinds shape.gs t shape.dense))

  id_kind : (i : ℕ) (e : Entry) → slice_get (entries_of groups) i ≡ Some e → written_kind t (at ids i) ≡ Some (renamed_kind (at ids) e.kind)
  id_kind i e is =
      let id : ℕ = at ids i in
      let k = get shape.kinds id (dense_below shape.kinds shape.gs t shape.dense id (id_written i (slice_get_within (entries_of groups) i e is))) in
      let found = sym (dense_type shape.kinds shape.gs t shape.dense id k.0 k.1) ∙ carries.kinds i e is in
      let kind : k.0 ≡ renamed_kind (at ids) e.kind =
      ap (λ (x : Item). x.kind) (same_Some (let x : Item = record { id = id; kind = k.0; name = None } in x) (record { id = id; kind = renamed_kind (at ids) e.kind; name = None }) found) in
      dense_written shape.kinds shape.gs t shape.dense id k.0 k.1 ∙ ap Some kind

  one_forth : (i j : ℕ) → i < length (entries_of groups) → j < length (entries_of groups) → r (at ids i) ≡ r (at ids j) → at same i ≡ at same j
  one_forth i j less_i less_j e =
      let a = idx.there (at ids i) (id_written i less_i) in
      let b = idx.there (at ids j) (id_written j less_j) in
      let id : at ids i ≡ at ids j = same_Some (at ids i) (at ids j) (sym a ∙ ap (λ (n : ℕ). slice_get (flat_map types_of hs) n) e ∙ b) in
      sym (agree i less_i) ∙ (carries.one i j less_i less_j).0 id ∙ agree j less_j

  one_back : (i j : ℕ) → i < length (entries_of groups) → j < length (entries_of groups) → at same i ≡ at same j → r (at ids i) ≡ r (at ids j)
  one_back i j less_i less_j e = ap r ((carries.one i j less_i less_j).1 (agree i less_i ∙ e ∙ sym (agree j less_j)))

  out_is : out ≡ map (described_group t r) hs
  out_is = emission.described

  reached : (k : ℕ) → k < length (entries_of out) → (i : ℕ) × (i < length (entries_of groups)) × (r (at ids i) ≡ k)
  reached k less =
      let flat : List ℕ = flat_map types_of hs in
      let len : length (entries_of out) ≡ length flat = ap (λ (gs : List TypeGroup). length (entries_of gs)) out_is ∙ described_length t r hs idx.all in
      let id = get flat k (omega (arith, less, len)) in
      let s = seat types_of hs k id.0 id.1 in
      let written = idx.all s.piece s.place s.from id.0 s.at_piece s.at_place in
      let from = shape.reached id.0 (dense_below shape.kinds shape.gs t shape.dense id.0 written) in
      (from.0, (let l = from.1 in omega (arith, l, shape.sized)), ap r from.2 ∙ idx.back k id.0 id.1)

  kind_carried : (i : ℕ) (e : Entry) → slice_get (entries_of groups) i ≡ Some e
      → (other : Entry) × (slice_get (entries_of out) (r (at ids i)) ≡ Some other) × (other.kind ≡ renamed_kind (index_map groups indices) e.kind)
  kind_carried i e is =
      let id : ℕ = at ids i in
      let there = idx.there id (id_written i (slice_get_within (entries_of groups) i e is)) in
      let s = seat types_of hs (r id) id there in
      let x : Kind = renamed_kind (at ids) e.kind in
      let other : Entry = make_entry (is_single (described_group t r s.from)) (renamed_kind r x) in
      let found : slice_get (entries_of out) (r id) ≡ Some other =
      ap (λ (gs : List TypeGroup). slice_get (entries_of gs) (r id)) out_is
      ∙ ap (λ (n : ℕ). slice_get (entries_of (map (described_group t r) hs)) n) s.is
      ∙ described_at t r hs idx.all s.piece s.place s.from id x s.at_piece s.at_place (id_kind i e is) in
      (other, found, kinds-twice (at ids) r e.kind)

  -- where a group that wasn't merged away is written
  record Kept (b : ℕ) (g : TypeGroup) : Type 0 where
    place : ℕ
    there : slice_get hs place ≡ Some (record { explicit = is_explicit g; types = range_with_len (at ids b) (length g.kinds) })
    each : (k : ℕ) → k < length g.kinds → at ids (b + k) ≡ at ids b + k

  kept : (q : ℕ) (g : TypeGroup) → slice_get groups q ≡ Some g → 0 < length g.kinds → at same (length (entries_of (take q groups))) ≡ length (entries_of (take q groups))
      → Kept (length (entries_of (take q groups))) g
  kept q g is some self =
      let b : ℕ = length (entries_of (take q groups)) in
      let end = before_end groups q g is in
      elim (shape.stood q g is some) as (λ _. Kept b g) [
        | inl m ↦
            let l = m.2 in
            let j_in : m.1 < length (entries_of groups) = omega (arith, l, end) in
            let b_in : b < length (entries_of groups) = omega (arith, some, end) in
            let stands : at same m.1 ≡ b = sym (agree m.1 j_in) ∙ (carries.one m.1 b j_in b_in).0 m.3 ∙ agree b b_in ∙ self in
            absurd (omega (arith, stands, same_low (entries_of groups) same is_same m.1 j_in, l))
        | inr h ↦
            let group : Group = record { explicit = is_explicit g; types = range_with_len (at ids b) (length g.kinds) } in
            let re = reordered t hs emission.arranged.in_order in
            let at_wg : slice_get (written_groups t) h.0.0 ≡ Some group = ap (λ (gs : List Group). slice_get gs h.0.0) (dense_groups shape.kinds shape.gs t shape.dense) ∙ h.0.1 in
            let turn = re.turns.onto h.0.0 (slice_get_within (written_groups t) h.0.0 group at_wg) in
            let f = re.forth turn.0 h.0.0 turn.1 in
            record { place = turn.0; there = f.1 ∙ sym f.2 ∙ at_wg; each = h.1 }
      ]

  -- the indices of its members
  kept_index : (b : ℕ) (g : TypeGroup) (kept : Kept b g) (k : ℕ) → k < length g.kinds → r (at ids (b + k)) ≡ start types_of hs kept.place + k
  kept_index b g kept k less =
      let a : ℕ = at ids b in
      ap r (kept.each k less)
      ∙ idx.back (start types_of hs kept.place + k) (a + k)
      (unseat types_of hs kept.place k (record { explicit = is_explicit g; types = range_with_len a (length g.kinds) }) (a + k) kept.there (range_at a (length g.kinds) k less))

  kept_first : (b : ℕ) (g : TypeGroup) (kept : Kept b g) → 0 < length g.kinds → r (at ids b) ≡ start types_of hs kept.place
  kept_first b g kept some =
      let e : b ≡ b + 0 = omega arith in
      let f : start types_of hs kept.place + 0 ≡ start types_of hs kept.place = omega arith in
      ap (λ (i : ℕ). r (at ids i)) e ∙ kept_index b g kept 0 some ∙ f

  kept_kinds : (q : ℕ) (g : TypeGroup) → slice_get groups q ≡ Some g → (kept : Kept (length (entries_of (take q groups))) g)
      → map (renamed_kind (index_map groups indices)) g.kinds
      ≡ map (renamed_kind r) (filter_map (written_kind t) (range_with_len (at ids (length (entries_of (take q groups)))) (length g.kinds)))
  kept_kinds q g is kept =
      let b : ℕ = length (entries_of (take q groups)) in
      let a : ℕ = at ids b in
      let group : Group = record { explicit = is_explicit g; types = range_with_len a (length g.kinds) } in
      let all : (k id : ℕ) → slice_get group.types k ≡ Some id → is_written t id ≡ true = λ k id at_k. idx.all kept.place k group id kept.there at_k in
      let m : ℕ → ℕ = index_map groups indices in
      same_list (map (renamed_kind m) g.kinds) (map (renamed_kind r) (filter_map (written_kind t) group.types))
      (λ k x at_k.
      let kind = map_at (renamed_kind m) g.kinds k x at_k in
      let less = slice_get_within g.kinds k kind.0 kind.1 in
      let e = entry_at groups q k g kind.0 is kind.1 in
      let known : written_kind t (a + k) ≡ Some (renamed_kind (at ids) kind.0) =
      ap (λ (id : ℕ). written_kind t id) (sym (kept.each k less)) ∙ id_kind (b + k) (make_entry (is_single g) kind.0) e in
      at_map (renamed_kind r) (filter_map (written_kind t) group.types) k (renamed_kind (at ids) kind.0)
      (group_kind_at t group all k (a + k) (renamed_kind (at ids) kind.0) (range_at a (length g.kinds) k less) known)
      ∙ ap Some (kinds-twice (at ids) r kind.0 ∙ kind.2))
      (length-map g.kinds (renamed_kind m)
      ∙ sym (length-map (filter_map (written_kind t) group.types) (renamed_kind r) ∙ group_kinds t group all ∙ length-range_with_len a (length g.kinds)))

  whole_at : (q : ℕ) (g : TypeGroup) → slice_get groups q ≡ Some g → 0 < length g.kinds → (kept : Kept (length (entries_of (take q groups))) g)
      → IsGroupAt out (r (at ids (length (entries_of (take q groups))))) (carried_group (index_map groups indices) g)
  whole_at q g is some kept =
      let b : ℕ = length (entries_of (take q groups)) in
      let group : Group = record { explicit = is_explicit g; types = range_with_len (at ids b) (length g.kinds) } in
      let d : Group → TypeGroup = described_group t r in
      record {
        position = kept.place;
        there = ap (λ (gs : List TypeGroup). slice_get gs kept.place) out_is ∙ at_map d hs kept.place group kept.there
            ∙ ap (λ (ks : List Kind). let o : Option TypeGroup = Some (record { marked = is_explicit g; kinds = ks }) in o) (sym (kept_kinds q g is kept));
        before = kept_first b g kept some
            ∙ sym (described_length t r (take kept.place hs) (λ i k h id at_i at_k. idx.all i k h id (front_at kept.place hs i h at_i) at_k))
            ∙ ap (λ (gs : List TypeGroup). length (entries_of gs)) (sym (take-map d kept.place hs) ∙ ap (λ (gs : List TypeGroup). take kept.place gs) (sym out_is));
      }

  pub carried : IsCarried groups same (index_map groups indices) out
  carried = record {
    one = λ i j less_i less_j. (one_forth i j less_i less_j, one_back i j less_i less_j);
    onto = reached;
    kinds = kind_carried;
    whole = λ index g at_g some self.
        let e = at_g.before in
        let k = kept at_g.position g at_g.there some (subst (λ (n : ℕ). at same n ≡ n) e self) in
        subst (λ (n : ℕ). IsGroupAt out (r (at ids n)) (carried_group (index_map groups indices) g)) (sym e) (whole_at at_g.position g at_g.there some k);
    members = λ index g at_g j less self.
        let e = at_g.before in
        let some : 0 < length g.kinds = omega (arith, less) in
        let b : ℕ = length (entries_of (take at_g.position groups)) in
        let k = kept at_g.position g at_g.there some (subst (λ (n : ℕ). at same n ≡ n) e self) in
        subst (λ (n : ℕ). r (at ids (n + j)) ≡ r (at ids n) + j) (sym e) (kept_index b g k j less ∙ ap (λ (n : ℕ). n + j) (sym (kept_first b g k some)));
  }

-- no record describes an entry type
pub section_plain : (section : List GroupRecord) → PlainGroups (map type_group section)
section_plain section p i g k at_p at_i =
    let m = map_at type_group section p g at_p in
    let n = map_at record_kind (m.0).types.items i k (ap (λ (w : TypeGroup). slice_get w.kinds i) m.2 ∙ at_i) in
    ap (λ (x : Kind). x.entry) (sym n.2)

pub carried-law : SectionsAreCarried
carried-law section below same is_same out indices emission = carried (map type_group section) (section_plain section) below same is_same out indices emission
