-- What a section is parsed to, into a new table: each id has its type, and the groups list the ids in order.
use Rattle.std.proofs.Common.{◌≡◌, ◌∙◌, ℕ, zero, suc, ◌+◌, ◌-◌, ◌<◌, inl, inr, Bool, true, false, cond, All, List, [], ◌∷◌, ◌++◌, length, map, Option, Some, None, slice_index_or, refl, sym, ap, subst, arith, length-append, append-nil}
use Rattle.std.specs.List.{range_with_len, slice_get, flat_map}
use Rattle.std.specs.Option.{MatchOption}
use Rattle.std.proofs.lemmas.Bool.{cases_lt}
use Rattle.std.proofs.lemmas.Option.{slice_get_within, slice_get-map, get_or_from_slice_get}
use Rattle.std.proofs.lemmas.List.{get_or_append_left, get_or-append-add, length-map, map-append}
use Rattle.std.proofs.lemmas.List.Concat.{flat_map-append}
use Rattle.std.proofs.lemmas.List.Elements.{All-head, All-tail}
use Rattle.std.proofs.lemmas.List.FromFn.{length-range_with_len}
use Rattle.walrus_arena.specs.Arena.{entries_from}
use Rattle.walrus_arena.proofs.ArenaLemmas.{live-within}
use Rattle.walrus_forms.specs.Kinds.{Kind, kind_names}
use Rattle.walrus_forms.specs.Records.{TypeGroup}
use Rattle.walrus_forms.specs.Renaming.{KindBelow, at, renamed_kind}
use Rattle.walrus_forms.proofs.RenamingLemmas.{In, of-mapped, kinds-names, kinds-below}
use Rattle.walrus_types.specs.Items.{Item, Group}
use Rattle.walrus_types.specs.Groups.{new_items, group_slot}
use Rattle.walrus_types.specs.Table.{Table, next_id, type_at, names_itself, merges, latest_id, equal_type}
use Rattle.walrus_types.specs.TypeLaws.{IsLatest}
use Rattle.walrus_types.specs.Parsing.{Parsed, with_group, merged, added, known_ids, parsed_group, parsed, unparsed, AreBelow}
use Rattle.walrus_types.proofs.GroupLemmas.{length-new_items, entries_from-append}
use Rattle.walrus_types.proofs.LawLemmas.{latest-law}
use Rattle.walrus_types.proofs.ParseLemmas.{group-sized}
use Rattle.walrus_type_laws.specs.Rounds.{empty_table}
use Rattle.walrus_type_laws.specs.Swap.{HaveNoEntries}
use Rattle.walrus_type_laws.proofs.Follows.{grown, at-left, at-right, at-range, option-from}

-- the live groups
abbrev pub live : Table → List Group
live t = map (λ (e : ℕ × Group). e.1) (entries_from 0 t.groups)

-- the members of groups, one group after the other
abbrev pub listed : List Group → List ℕ
listed groups = flat_map (λ (g : Group). g.types) groups

-- the id has a type that is written, and that names types below the bound
pub record HasType (t : Table) (id bound : ℕ) : Type 0 where
  pub item : Item
  pub found : type_at t id ≡ Some item
  pub own : item.id ≡ id
  pub shown : item.kind.entry ≡ false
  pub below : (m : ℕ) → In m (kind_names item.kind) → m < bound

pub record Filled (s : Parsed) : Type 0 where
  pub given : (i : ℕ) → i < length s.ids → at s.ids i < next_id s.table
  pub types : (id : ℕ) → id < next_id s.table → HasType s.table id (next_id s.table)
  pub groups : listed (live s.table) ≡ range_with_len 0 (next_id s.table)

-- a new type
new-type : (id : ℕ) (kinds : List Kind) (i : ℕ) → i < length kinds
    → (kind : Kind) × (slice_get kinds i ≡ Some kind) × (slice_index_or (new_items id kinds) i None ≡ Some (let t : Item = record { id = id + i; kind = kind; name = None } in t))
new-type id [] i less = absurd (omega arith)
new-type id (k ∷ ks) zero less =
    let e : id ≡ id + 0 = omega arith in
    (k, refl, ap (λ (n : ℕ). let t : Option Item = Some (record { id = n; kind = k; name = None }) in t) e)
new-type id (k ∷ ks) (suc i) less =
    let e : id + 1 + i ≡ id + suc i = omega arith in
    let rest = new-type (id + 1) ks i (omega (arith, less)) in
    (rest.0, rest.1, rest.2 ∙ ap (λ (n : ℕ). let t : Option Item = Some (record { id = n; kind = rest.0; name = None }) in t) e)

-- the group of these members, none where there are none
abbrev pub new_group : Bool → List ℕ → List Group
new_group marked [] = []
new_group marked (id ∷ ids) = record { explicit = marked; types = id ∷ ids } ∷ []

slot-live : (marked : Bool) (n : ℕ) (ids : List ℕ) → map (λ (e : ℕ × Group). e.1) (entries_from n (group_slot marked ids)) ≡ new_group marked ids
slot-live marked n [] = refl
slot-live marked n (id ∷ ids) = refl

pub live-more : (marked : Bool) (kinds : List Kind) (t : Table) → live (with_group marked kinds t) ≡ live t ++ new_group marked (range_with_len (next_id t) (length kinds))
live-more marked kinds t =
    let ids : List ℕ = range_with_len (next_id t) (length kinds) in
    let n : ℕ = length t.groups in
    ap (λ (es : List (ℕ × Group)). map (λ (e : ℕ × Group). e.1) es) (entries_from-append 0 t.groups (group_slot marked ids) n (omega arith))
    ∙ map-append (λ (e : ℕ × Group). e.1) (entries_from 0 t.groups) (entries_from n (group_slot marked ids))
    ∙ ap (λ (gs : List Group). live t ++ gs) (slot-live marked n ids)

new-listed : (marked : Bool) (ids : List ℕ) → listed (new_group marked ids) ≡ ids
new-listed marked [] = refl
new-listed marked (id ∷ ids) = append-nil (id ∷ ids)

range-join : (k : ℕ) (a b c : ℕ) → a + k ≡ b → range_with_len a k ++ range_with_len b c ≡ range_with_len a (k + c)
range-join zero a b c is =
    let e : b ≡ a = omega (arith, is) in
    let d : c ≡ 0 + c = omega arith in
    ap (λ (x : ℕ). range_with_len x c) e ∙ ap (λ (x : ℕ). range_with_len a x) d
range-join (suc k) a b c is =
    let d : suc (k + c) ≡ suc k + c = omega arith in
    ap (λ (xs : List ℕ). a ∷ xs) (range-join k (a + 1) b c (omega (arith, is))) ∙ ap (λ (x : ℕ). range_with_len a x) d

pub next-more : (marked : Bool) (kinds : List Kind) (t : Table) → next_id (with_group marked kinds t) ≡ next_id t + length kinds
next-more marked kinds t = omega (arith, length-append t.types (new_items (next_id t) kinds), length-new_items (next_id t) kinds)

-- one group more, whose types name types up to its end
grown-filled : (s : Parsed) (marked : Bool) (kinds : List Kind) → Filled s
    → ((i : ℕ) (kind : Kind) → slice_get kinds i ≡ Some kind → (kind.entry ≡ false) × ((m : ℕ) → In m (kind_names kind) → m < next_id s.table + length kinds))
    → Filled (grown marked kinds s)
grown-filled s marked kinds f each =
    let n : ℕ = length s.ids in
    let c : ℕ = length kinds in
    let k : ℕ = next_id s.table in
    let news : List (Option Item) = new_items k kinds in
    let total : length (s.ids ++ range_with_len k c) ≡ n + c = omega (arith, length-append s.ids (range_with_len k c), length-range_with_len k c) in
    let after : length (s.table.types ++ news) ≡ k + c = next-more marked kinds s.table in
    record {
      given = λ i less.
          elim (cases_lt i n) as (λ _. at (s.ids ++ range_with_len k c) i < length (s.table.types ++ news)) [
            | inl low ↦ let h = f.given i low in omega (arith, at-left s.ids (range_with_len k c) i low, h, after)
            | inr high ↦
                let j : ℕ = i - n in
                let is : n + j ≡ i = omega (arith, high) in
                let inside : j < c = omega (arith, less, total, is) in
                omega (arith, at-range s.ids n k c j i refl inside is, inside, after)
          ];
      types = λ id less.
          elim (cases_lt id k) as (λ _. HasType (with_group marked kinds s.table) id (length (s.table.types ++ news))) [
            | inl low ↦
                let old = f.types id low in
                record {
                  item = old.item;
                  found = get_or_append_left s.table.types news None id low ∙ old.found;
                  own = old.own;
                  shown = old.shown;
                  below = λ m x. let h = old.below m x in omega (arith, h, after);
                }
            | inr high ↦
                let j : ℕ = id - k in
                let is : k + j ≡ id = omega (arith, high) in
                let new = new-type k kinds j (omega (arith, less, after, is)) in
                let says = each j new.0 new.1 in
                record {
                  item = record { id = k + j; kind = new.0; name = None };
                  found = ap (λ (x : ℕ). slice_index_or (s.table.types ++ news) x None) (sym is) ∙ get_or-append-add s.table.types news j None ∙ new.2;
                  own = is;
                  shown = says.0;
                  below = λ m x. let h = says.1 m x in omega (arith, h, after);
                }
          ];
      groups =
          ap (λ (gs : List Group). listed gs) (live-more marked kinds s.table)
          ∙ flat_map-append (λ (g : Group). g.types) (live s.table) (new_group marked (range_with_len k c))
          ∙ ap (λ (xs : List ℕ). xs ++ listed (new_group marked (range_with_len k c))) f.groups
          ∙ ap (λ (xs : List ℕ). range_with_len 0 k ++ xs) (new-listed marked (range_with_len k c))
          ∙ range-join k 0 k c (omega arith)
          ∙ ap (λ (x : ℕ). range_with_len 0 x) (sym after);
    }

joined-filled : (s : Parsed) (v : ℕ) → Filled s → v < next_id s.table → Filled (record { ids = s.ids ++ v ∷ []; table = s.table })
joined-filled s v f less = record {
  given = λ i small.
      elim (cases_lt i (length s.ids)) as (λ _. at (s.ids ++ v ∷ []) i < next_id s.table) [
        | inl low ↦ let h = f.given i low in omega (arith, at-left s.ids (v ∷ []) i low, h)
        | inr high ↦
            let is : length s.ids + 0 ≡ i = omega (arith, high, small, length-append s.ids (v ∷ [])) in
            let e : at (s.ids ++ v ∷ []) i ≡ v = at-right s.ids (v ∷ []) (length s.ids) 0 i refl is in
            omega (arith, e, less)
      ];
  types = f.types;
  groups = f.groups;
}

-- what is found was given out
found-within : (t : Table) (kind : Kind) (v : ℕ) → latest_id (merges kind) t ≡ Some v → v < next_id t
found-within t kind v is =
    let m : IsLatest (merges kind) t v = subst (λ (o : Option ℕ). MatchOption o ((id : ℕ) (item : Item) → type_at t id ≡ Some item → merges kind (id, item) ≡ false) (IsLatest (merges kind) t)) is (latest-law t (merges kind)) in
    live-within t.types v m.item m.live

cond-some : (b : Bool) (o : Option ℕ) (v : ℕ) → cond b None o ≡ Some v → o ≡ Some v
cond-some true o v is = absurd cc
cond-some false o v is = is

equal-within : (t : Table) (kind : Kind) (v : ℕ) → equal_type kind t ≡ Some v → v < next_id t
equal-within t kind v is = found-within t kind v (cond-some (names_itself (next_id t) kind) (latest_id (merges kind) t) v is)

merged-filled : (s : Parsed) (kind : Kind) (o : Option ℕ) → Filled s → ((v : ℕ) → o ≡ Some v → v < next_id s.table)
    → ((i : ℕ) (k : Kind) → slice_get (kind ∷ []) i ≡ Some k → (k.entry ≡ false) × ((m : ℕ) → In m (kind_names k) → m < next_id s.table + 1))
    → Filled (merged o kind s)
merged-filled s kind None f found each = grown-filled s false (kind ∷ []) f each
merged-filled s kind (Some v) f found each = joined-filled s v f (found v refl)

added-filled : (s : Parsed) (marked : Bool) (kinds : List Kind) → Filled s
    → ((i : ℕ) (kind : Kind) → slice_get kinds i ≡ Some kind → (kind.entry ≡ false) × ((m : ℕ) → In m (kind_names kind) → m < next_id s.table + length kinds))
    → Filled (added marked kinds s)
added-filled s true kinds f each = grown-filled s true kinds f each
added-filled s false [] f each = grown-filled s true [] f each
added-filled s false (kind ∷ []) f each = merged-filled s kind (equal_type kind s.table) f (equal-within s.table kind) each
added-filled s false (kind ∷ second ∷ rest) f each = grown-filled s true (kind ∷ second ∷ rest) f each

group-filled : (s : Parsed) (g : TypeGroup) → Filled s → All (KindBelow (length s.ids + length g.kinds)) g.kinds → All (λ (kind : Kind). kind.entry ≡ false) g.kinds
    → Filled (parsed_group g s)
group-filled s g f below plain =
    let n : ℕ = length s.ids in
    let c : ℕ = length g.kinds in
    let k : ℕ = next_id s.table in
    let known : List ℕ = known_ids g s in
    let kinds : List Kind = map (renamed_kind (at known)) g.kinds in
    let counts : length kinds ≡ c = length-map g.kinds (renamed_kind (at known)) in
    let known-below : (m : ℕ) → m < n + c → at known m < k + c =
    λ m less.
    elim (cases_lt m n) as (λ _. at known m < k + c) [
      | inl low ↦ let h = f.given m low in omega (arith, at-left s.ids (range_with_len k c) m low, h)
      | inr high ↦
          let j : ℕ = m - n in
          let is : n + j ≡ m = omega (arith, high) in
          let inside : j < c = omega (arith, less, is) in
          omega (arith, at-range s.ids n k c j m refl inside is, inside)
    ] in
    added-filled s g.marked kinds f (λ i kind get.
    let from = option-from (renamed_kind (at known)) (slice_get g.kinds i) kind (sym (slice_get-map (renamed_kind (at known)) g.kinds i) ∙ get) in
    let old : Kind = from.0 in
    let less : i < c = slice_get_within g.kinds i old from.1 in
    let old-below : KindBelow (n + c) old = subst (KindBelow (n + c)) (get_or_from_slice_get g.kinds i old old from.1) (below i old less) in
    let old-plain : old.entry ≡ false = subst (λ (x : Kind). x.entry ≡ false) (get_or_from_slice_get g.kinds i old old from.1) (plain i old less) in (
      ap (λ (x : Kind). x.entry) from.2 ∙ old-plain,
      λ m x.
          let y : In m (map (at known) (kind_names old)) = subst (λ (ns : List ℕ). In m ns) (kinds-names (at known) old) (subst (λ (z : Kind). In m (kind_names z)) from.2 x) in
          let back = of-mapped (at known) (kind_names old) m y in
          let h = known-below back.0 (kinds-below old (n + c) old-below back.0 back.1) in
          omega (arith, h, back.2, counts),
    ))

pub section-filled : (gs : List TypeGroup) (s : Parsed) → Filled s → AreBelow (length s.ids) gs → HaveNoEntries gs → Filled (parsed gs s)
section-filled [] s f below plain = f
section-filled (g ∷ gs) s f below plain =
    let P : TypeGroup → Type 0 = λ group. All (λ (kind : Kind). kind.entry ≡ false) group.kinds in
    section-filled gs (parsed_group g s) (group-filled s g f below.0 (All-head P g gs plain))
    (subst (λ (n : ℕ). AreBelow n gs) (sym (group-sized g s)) below.1) (All-tail P g gs plain)

pub nothing-filled : Filled (unparsed empty_table)
nothing-filled = record {
  given = λ i less. absurd (omega (arith, less));
  types = λ id less. absurd (omega (arith, less));
  groups = refl;
}
