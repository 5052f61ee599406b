-- The table after a section was read into a new one, group by group.
use Rattle.std.proofs.Common.{◌≡◌, ◌∙◌, ℕ, suc, ◌<◌, inl, inr, Bool, true, false, not, ◌&&◌, ◌==◌, List, [], ◌∷◌, ◌++◌, length, map, Option, Some, None, if◌then◌else◌, refl, sym, ap, subst, arith, append_assoc}
use Rattle.std.specs.List.{slice_get, range_with_len}
use Rattle.std.proofs.lemmas.Bool.{false≢true, cases_Bool, and_from, eq-eqb, ne_eqb}
use Rattle.std.proofs.lemmas.List.{append-nil, length-map}
use Rattle.std.proofs.lemmas.Option.{same_Some, none-some, MatchOption-at_some, MatchOption-at_none}
use Rattle.walrus_arena.proofs.ArenaLemmas.{live-within}
use Rattle.walrus_forms.specs.Kinds.{Kind}
use Rattle.walrus_forms.specs.Records.{TypeGroup}
use Rattle.walrus_forms.specs.Renaming.{at, renamed_kind}
use Rattle.walrus_forms.specs.Same.{same_kind}
use Rattle.walrus_forms.proofs.EqLemmas.{same-kind-law}
use Rattle.walrus_types.specs.Items.{Item}
use Rattle.walrus_types.specs.Table.{Table, next_id, type_at, names_itself, merges, latest_id, equal_type}
use Rattle.walrus_types.specs.TypeLaws.{IsLatest}
use Rattle.walrus_types.specs.Parsing.{Parsed, with_group, merged, added, known_ids, parsed_group, parsed, unparsed}
use Rattle.walrus_types.proofs.LawLemmas.{latest-law}
use Rattle.walrus_types.specs.Mergers.{is_single}
use Rattle.walrus_type_laws.specs.Rounds.{empty_table, read, is_explicit}
use Rattle.walrus_types.proofs.Places.{map_at}
use Rattle.walrus_type_laws.proofs.Dense.{dense_length, dense_type}
use Rattle.walrus_type_laws.proofs.Shape.{Shape, shape_merged, shape_more}

-- no kind in these groups is an entry type
abbrev pub PlainGroups : List TypeGroup → Type 0
PlainGroups groups = (p i : ℕ) (g : TypeGroup) (k : Kind) → slice_get groups p ≡ Some g → slice_get g.kinds i ≡ Some k → k.entry ≡ false

abbrev PlainKinds : List Kind → Type 0
PlainKinds ks = (i : ℕ) (k : Kind) → slice_get ks i ≡ Some k → k.entry ≡ false

-- where no equal type is found there is none
pub none_equal : (t : Table) (kind : Kind) → equal_type kind t ≡ None → names_itself (next_id t) kind ≡ false → (a : ℕ) (item : Item) → type_at t a ≡ Some item → item.kind ≡ kind → names_itself a kind ≡ false → ⊥
none_equal t kind none apart a item live is apart_a =
    let latest : latest_id (merges kind) t ≡ None = ap (λ (b : Bool). if b then None else latest_id (merges kind) t) (sym apart) ∙ none in
    let fails = MatchOption-at_none ((id : ℕ) (x : Item) → type_at t id ≡ Some x → merges kind (id, x) ≡ false) (IsLatest (merges kind) t) latest (latest-law t (merges kind)) in
    let passes : merges kind (a, item) ≡ true =
    and_from (same_kind item.kind kind) (not (names_itself a item.kind)) ((same-kind-law item.kind kind).1 is) (ap not (ap (λ (k : Kind). names_itself a k) is ∙ apart_a)) in
    false≢true (sym (fails a item live) ∙ passes)

-- what is found lives
found_lives : (t : Table) (kind : Kind) (found : ℕ) → equal_type kind t ≡ Some found → found < next_id t
found_lives t kind found is = elim (cases_Bool (names_itself (next_id t) kind)) as (λ _. found < next_id t) [
  | inl itself ↦ absurd (none-some found (ap (λ (b : Bool). if b then None else latest_id (merges kind) t) (sym itself) ∙ is))
  | inr apart ↦
      let latest : latest_id (merges kind) t ≡ Some found = ap (λ (b : Bool). if b then None else latest_id (merges kind) t) (sym apart) ∙ is in
      let l = MatchOption-at_some ((id : ℕ) (x : Item) → type_at t id ≡ Some x → merges kind (id, x) ≡ false) (IsLatest (merges kind) t) found latest (latest-law t (merges kind)) in
      live-within t.types found l.item l.live
]

-- a group whose types are added
grown : (done : List TypeGroup) (g : TypeGroup) (s : Parsed) (ks : List Kind) (explicit : Bool) (shape : Shape done s) → length ks ≡ length g.kinds → PlainKinds ks → is_explicit g ≡ explicit
    → (is_explicit g ≡ false → length ks ≡ 1 → (a : ℕ) (k : Kind) → slice_get shape.kinds a ≡ Some k → slice_get ks 0 ≡ Some k → names_itself a k ≡ false → names_itself (length shape.kinds) k ≡ false → ⊥)
    → Shape (done ++ g ∷ []) (record { ids = s.ids ++ range_with_len (next_id s.table) (length ks); table = with_group explicit ks s.table })
grown done g s ks explicit shape count plain is alone =
    subst (λ (b : Bool). Shape (done ++ g ∷ []) (record { ids = s.ids ++ range_with_len (next_id s.table) (length ks); table = with_group b ks s.table })) is
    (shape_more done g s ks shape count plain alone)

-- a group that is explicit merges with nothing
grown_marked : (done : List TypeGroup) (g : TypeGroup) (s : Parsed) (ks : List Kind) → Shape done s → length ks ≡ length g.kinds → PlainKinds ks → is_explicit g ≡ true
    → Shape (done ++ g ∷ []) (record { ids = s.ids ++ range_with_len (next_id s.table) (length ks); table = with_group true ks s.table })
grown_marked done g s ks shape count plain is = grown done g s ks true shape count plain is (λ unmarked one a k at_a at_0 apart_a apart_n. false≢true (sym unmarked ∙ is))

-- so is one of other than one type
several_explicit : (g : TypeGroup) → (length g.kinds ≡ 1 → ⊥) → is_explicit g ≡ true
several_explicit g other = ap (λ (b : Bool). not (not g.marked && b)) (ne_eqb (length g.kinds) 1 other) ∙ none (not g.marked)
  where
    none : (b : Bool) → not (b && false) ≡ true
    none true = refl
    none false = refl

-- one type without a mark
one_single : (g : TypeGroup) → 1 ≡ length g.kinds → g.marked ≡ false → is_single g ≡ true
one_single g count unmarked = and_from (not g.marked) (length g.kinds == 1) (ap not unmarked) (eq-eqb (length g.kinds) 1 (sym count))

single_shape : (done : List TypeGroup) (g : TypeGroup) (s : Parsed) (k : Kind) (found : Option ℕ) (shape : Shape done s) → 1 ≡ length g.kinds → PlainKinds (k ∷ []) → g.marked ≡ false → equal_type k s.table ≡ found
    → Shape (done ++ g ∷ []) (merged found k s)
single_shape done g s k None shape count plain unmarked is =
    let t : Table = s.table in
    grown done g s (k ∷ []) false shape count plain (ap not (one_single g count unmarked)) (λ um one a x at_a at_0 apart_a apart_n.
    let same : k ≡ x = same_Some k x at_0 in
    none_equal t k is (ap (λ (n : ℕ). names_itself n k) (dense_length shape.kinds shape.gs t shape.dense) ∙ ap (λ (y : Kind). names_itself (length shape.kinds) y) same ∙ apart_n)
    a (record { id = a; kind = x; name = None }) (dense_type shape.kinds shape.gs t shape.dense a x at_a) (sym same) (ap (λ (y : Kind). names_itself a y) same ∙ apart_a))
single_shape done g s k (Some found) shape count plain unmarked is =
    shape_merged done g s found shape (one_single g count unmarked) (sym count) (found_lives s.table k found is)

shape_added : (done : List TypeGroup) (g : TypeGroup) (s : Parsed) (marked : Bool) (ks : List Kind) (shape : Shape done s) → length ks ≡ length g.kinds → PlainKinds ks → g.marked ≡ marked → Shape (done ++ g ∷ []) (added marked ks s)
shape_added done g s true ks shape count plain is = grown_marked done g s ks shape count plain (ap (λ (b : Bool). not (not b && length g.kinds == 1)) is)
shape_added done g s false [] shape count plain is = grown_marked done g s [] shape count plain (several_explicit g (λ e. omega (arith, e, count)))
shape_added done g s false (k ∷ []) shape count plain is = single_shape done g s k (equal_type k s.table) shape count plain is refl
shape_added done g s false (k ∷ l ∷ ks) shape count plain is = grown_marked done g s (k ∷ l ∷ ks) shape count plain (several_explicit g (λ e. omega (arith, e, count)))

shape_group : (done : List TypeGroup) (g : TypeGroup) (s : Parsed) → Shape done s → PlainKinds g.kinds → Shape (done ++ g ∷ []) (parsed_group g s)
shape_group done g s shape plain =
    let r : ℕ → ℕ = at (known_ids g s) in
    shape_added done g s g.marked (map (renamed_kind r) g.kinds) shape (length-map g.kinds (renamed_kind r))
    (λ i k is. let m = map_at (renamed_kind r) g.kinds i k is in ap (λ (x : Kind). x.entry) (sym m.2) ∙ plain i m.0 m.1) refl

shape_run : (done rest : List TypeGroup) (s : Parsed) → Shape done s → PlainGroups rest → Shape (done ++ rest) (parsed rest s)
shape_run done [] s shape plain = subst (λ (hs : List TypeGroup). Shape hs s) (sym (append-nil done)) shape
shape_run done (g ∷ rest) s shape plain =
    subst (λ (hs : List TypeGroup). Shape hs (parsed rest (parsed_group g s))) (append_assoc done (g ∷ []) rest)
    (shape_run (done ++ g ∷ []) rest (parsed_group g s) (shape_group done g s shape (λ i k is. plain 0 i g k refl is)) (λ p i h k at_p at_i. plain (suc p) i h k at_p at_i))

pub shape_read : (groups : List TypeGroup) → PlainGroups groups → Shape groups (read groups)
shape_read groups plain = shape_run [] groups (unparsed empty_table) (record {
  kinds = [];
  gs = [];
  dense = record { types = refl; groups = refl; plain = λ i k is. absurd (none-some k is); listed = refl; filled = λ p g is. absurd (none-some g is) };
  sized = refl;
  reached = λ v less. absurd (omega (arith, less));
  stood = λ p g is some. absurd (none-some g is);
  twins = λ p a b k is less at_a at_b apart_a apart_b. none-some (record { explicit = false; types = b ∷ [] }) is;
  single = λ p g is unmarked. absurd (none-some g is);
}) plain
