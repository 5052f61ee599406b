-- Adding the groups of a type section, step by step.
use Rattle.std.proofs.Common.{◌≡◌, ◌∙◌, ℕ, ◌+◌, ◌<◌, Result, Ok, Err, OnErr, Bool, true, false, not, ◌&&◌, ◌==◌, All, List, [], ◌∷◌, ◌++◌, length, map, take, drop, Option, Some, None, slice_index_or, refl, sym, ap, arith, subst, length-append}
use Rattle.std.specs.List.{range_with_len}
use Rattle.std.specs.Option.{MatchOption}
use Rattle.std.proofs.lemmas.Bool.{eqb-true}
use Rattle.std.proofs.lemmas.List.{append_assoc, drop_more, length-map, map-append, map_more, take-append-drop}
use Rattle.std.proofs.lemmas.List.FromFn.{length-range_with_len}
use Rattle.walrus_type_arenas.specs.walrus_type_index.walrus_items.walrus_forms.Kinds.{Kind}
use Rattle.walrus_type_arenas.specs.walrus_type_index.walrus_items.walrus_forms.declared.record.TypeRecord.{TypeRecord}
use Rattle.walrus_type_arenas.specs.walrus_type_index.walrus_items.walrus_forms.declared.record.GroupRecord.{GroupRecord}
use Rattle.walrus_type_arenas.specs.walrus_type_index.walrus_items.walrus_forms.Records.{TypeGroup, record_kind, type_group}
use Rattle.walrus_type_arenas.specs.walrus_type_index.walrus_items.walrus_forms.Renaming.{KindBelow, at, renamed_kind}
use Rattle.walrus_type_arenas.specs.Groups.{AddsGroup}
use Rattle.walrus_type_arenas.specs.Table.{Table, next_id, Adds, equal_type}
use Rattle.walrus_types.specs.Parsing.{Parsed, with_group, merged, added, known_ids, parsed_group, parsed, unparsed, AreBelow, IsPartOf}

tables-same : (t u : Table) → t.types ≡ u.types → t.groups ≡ u.groups → t ≡ u
tables-same t u types groups =
    ap (λ xs. let v : Table = record { types = xs; groups = t.groups } in v) types ∙ ap (λ xs. let v : Table = record { types = u.types; groups = xs } in v) groups

-- the table with a new group is the one that it is said to be
pub group-added : (explicit : Bool) (kinds : List Kind) (old new : Table) → AddsGroup explicit kinds old new → new ≡ with_group explicit kinds old
group-added explicit kinds old new adds = tables-same new (with_group explicit kinds old) adds.types adds.groups

-- a type was found, or added
pub type-merged : (found : Option ℕ) (kind : Kind) (s : Parsed) (id : ℕ) (new : Table)
    → MatchOption found (Adds kind id s.table new) (λ other. (id ≡ other) × (new ≡ s.table))
    → (let p : Parsed = record { ids = s.ids ++ id ∷ []; table = new } in p) ≡ merged found kind s
type-merged (Some other) kind s id new m =
    ap (λ (i : ℕ). let p : Parsed = record { ids = s.ids ++ i ∷ []; table = new } in p) m.0
    ∙ ap (λ (t : Table). let p : Parsed = record { ids = s.ids ++ other ∷ []; table = t } in p) m.1
type-merged None kind s id new a =
    let e : id ≡ next_id s.table = a.given in
    let groups : new.groups ≡ (with_group false (kind ∷ []) s.table).groups =
    a.groups ∙ ap (λ (i : ℕ). s.table.groups ++ Some (record { explicit = false; types = i ∷ [] }) ∷ []) e in
    let types : new.types ≡ (with_group false (kind ∷ []) s.table).types =
    a.types ∙ ap (λ (i : ℕ). s.table.types ++ Some (record { id = i; kind = kind; name = None }) ∷ []) e in
    ap (λ (i : ℕ). let p : Parsed = record { ids = s.ids ++ i ∷ []; table = new } in p) e
    ∙ ap (λ (t : Table). let p : Parsed = record { ids = s.ids ++ next_id s.table ∷ []; table = t } in p) (tables-same new (with_group false (kind ∷ []) s.table) types groups)

-- a single type's group
single-kinds : (marked : Bool) (types : List TypeRecord) (ty : TypeRecord) → (not marked && length types == 1) ≡ true → ty ≡ slice_index_or types 0 ty
    → (let g : TypeGroup = record { marked = marked; kinds = map record_kind types } in g) ≡ record { marked = false; kinds = record_kind ty ∷ [] }
single-kinds true types ty single is = absurd cc
single-kinds false [] ty single is = absurd cc
single-kinds false (x ∷ []) ty single is = ap (λ (t : TypeRecord). let g : TypeGroup = record { marked = false; kinds = record_kind t ∷ [] } in g) (sym is)
single-kinds false (x ∷ y ∷ rest) ty single is = let one = eqb-true (length (x ∷ y ∷ rest)) 1 single in absurd (omega arith)

pub single-group : (group : GroupRecord) (ty : TypeRecord) → (not group.marked && length group.types.items == 1) ≡ true → ty ≡ slice_index_or group.types.items 0 ty
    → type_group group ≡ record { marked = false; kinds = record_kind ty ∷ [] }
single-group group ty single is = single-kinds group.marked group.types.items ty single is

-- types that aren't one single type
others-added : (marked : Bool) (kinds : List Kind) (s : Parsed) → (not marked && length kinds == 1) ≡ false
    → added marked kinds s ≡ record { ids = s.ids ++ range_with_len (next_id s.table) (length kinds); table = with_group true kinds s.table }
others-added true kinds s other = refl
others-added false [] s other = refl
others-added false (kind ∷ []) s other = absurd cc
others-added false (kind ∷ second ∷ rest) s other = refl

pub group-parsed : (marked : Bool) (kinds resolved : List Kind) (s : Parsed) (known : List ℕ) (new : Table) → (not marked && length kinds == 1) ≡ false
    → known ≡ s.ids ++ range_with_len (next_id s.table) (length kinds) → resolved ≡ map (renamed_kind (at known)) kinds → AddsGroup true resolved s.table new
    → (let p : Parsed = record { ids = known; table = new } in p) ≡ parsed_group (record { marked = marked; kinds = kinds }) s
group-parsed marked kinds resolved s known new other knows resolves adds =
    let g : TypeGroup = record { marked = marked; kinds = kinds } in
    let here : List Kind = map (renamed_kind (at (known_ids g s))) kinds in
    let same : resolved ≡ here = resolves ∙ ap (λ (xs : List ℕ). map (renamed_kind (at xs)) kinds) knows in
    let sized : length here ≡ length kinds = length-map kinds (renamed_kind (at (known_ids g s))) in
    ap (λ (t : Table). let p : Parsed = record { ids = known; table = t } in p) (group-added true resolved s.table new adds ∙ ap (λ (ks : List Kind). with_group true ks s.table) same)
    ∙ ap (λ (xs : List ℕ). let p : Parsed = record { ids = xs; table = with_group true here s.table } in p) (knows ∙ ap (λ (n : ℕ). s.ids ++ range_with_len (next_id s.table) n) (sym sized))
    ∙ sym (others-added marked here s (ap (λ (n : ℕ). not marked && n == 1) sized ∙ other))

-- as many ids as types
merged-sized : (found : Option ℕ) (kind : Kind) (s : Parsed) → length (merged found kind s).ids ≡ length s.ids + 1
merged-sized (Some other) kind s = length-append s.ids (other ∷ [])
merged-sized None kind s = length-append s.ids (next_id s.table ∷ [])

added-sized : (marked : Bool) (kinds : List Kind) (s : Parsed) → length (added marked kinds s).ids ≡ length s.ids + length kinds
added-sized true kinds s = omega (arith, length-append s.ids (range_with_len (next_id s.table) (length kinds)), length-range_with_len (next_id s.table) (length kinds))
added-sized false [] s = omega (arith, length-append s.ids [])
added-sized false (kind ∷ []) s = merged-sized (equal_type kind s.table) kind s
added-sized false (kind ∷ second ∷ rest) s =
    omega (arith, length-append s.ids (range_with_len (next_id s.table) (length (kind ∷ second ∷ rest))), length-range_with_len (next_id s.table) (length (kind ∷ second ∷ rest)))

pub group-sized : (g : TypeGroup) (s : Parsed) → length (parsed_group g s).ids ≡ length s.ids + length g.kinds
group-sized g s =
    added-sized g.marked (map (renamed_kind (at (known_ids g s))) g.kinds) s ∙ ap (λ (n : ℕ). length s.ids + n) (length-map g.kinds (renamed_kind (at (known_ids g s))))

pub parsed-append : (xs ys : List TypeGroup) (s : Parsed) → parsed (xs ++ ys) s ≡ parsed ys (parsed xs s)
parsed-append [] ys s = refl
parsed-append (x ∷ xs) ys s = parsed-append xs ys (parsed_group x s)

-- one more group, as at a step of the loop
pub parsed-more : (groups : List GroupRecord) (i : ℕ) (group : GroupRecord) (s : Parsed) → i < length groups → group ≡ slice_index_or groups i group
    → parsed (map type_group (take (i + 1) groups)) s ≡ parsed_group (type_group group) (parsed (map type_group (take i groups)) s)
parsed-more groups i group s less is =
    ap (λ (gs : List TypeGroup). parsed gs s) (map_more type_group groups i group less ∙ ap (λ (g : GroupRecord). map type_group (take i groups) ++ type_group g ∷ []) (sym is))
    ∙ parsed-append (map type_group (take i groups)) (type_group group ∷ []) s

-- the groups that are left
pub rest-is : (groups : List GroupRecord) (i : ℕ) (group : GroupRecord) → i < length groups → group ≡ slice_index_or groups i group
    → map type_group (drop i groups) ≡ type_group group ∷ map type_group (drop (i + 1) groups)
rest-is groups i group less is =
    ap (λ (gs : List GroupRecord). map type_group gs) (drop_more groups i group less)
    ∙ ap (λ (g : GroupRecord). type_group g ∷ map type_group (drop (i + 1) groups)) (sym is)

-- the next group, and those after it, name types below their ends
pub next-below : (groups : List GroupRecord) (i : ℕ) (group : GroupRecord) (n : ℕ) → i < length groups → group ≡ slice_index_or groups i group
    → AreBelow n (map type_group (drop i groups))
    → All (KindBelow (n + length (type_group group).kinds)) (type_group group).kinds × AreBelow (n + length (type_group group).kinds) (map type_group (drop (i + 1) groups))
next-below groups i group n less is below = subst (AreBelow n) (rest-is groups i group less is) below

-- a refusal leaves the groups before
pub part-of : (groups : List GroupRecord) (i : ℕ) (group : GroupRecord) (old new : Table) → i < length groups → group ≡ slice_index_or groups i group
    → new ≡ (parsed (map type_group (take i groups)) (unparsed old)).table
    → IsPartOf (map type_group groups) old new
part-of groups i group old new less is table = record {
  before = map type_group (take i groups);
  refused = type_group group;
  after = map type_group (drop (i + 1) groups);
  split = ap (λ (gs : List GroupRecord). map type_group gs) (sym (take-append-drop i groups)) ∙ map-append type_group (take i groups) (drop i groups)
      ∙ ap (λ (gs : List TypeGroup). map type_group (take i groups) ++ gs) (rest-is groups i group less is);
  table = table;
}

-- of these groups the last ones are left, and the others were added to the table, with these ids
pub record IsParsedTo (groups left : List TypeGroup) (old : Table) (here : Parsed) : Type 0 where
  pub before : List TypeGroup
  pub split : groups ≡ before ++ left
  pub state : here ≡ parsed before (unparsed old)

pub parsed-one : (groups left : List TypeGroup) (group : TypeGroup) (old : Table) (here next : Parsed) → IsParsedTo groups (group ∷ left) old here → next ≡ parsed_group group here
    → IsParsedTo groups left old next
parsed-one groups left group old here next p is = record {
  before = p.before ++ group ∷ [];
  split = p.split ∙ sym (append_assoc p.before (group ∷ []) left);
  state = is ∙ ap (λ (s : Parsed). parsed_group group s) p.state ∙ sym (parsed-append p.before (group ∷ []) (unparsed old));
}

pub parsed-part : (groups left : List TypeGroup) (group : TypeGroup) (old : Table) (here : Parsed) → IsParsedTo groups (group ∷ left) old here → IsPartOf groups old here.table
parsed-part groups left group old here p = record { before = p.before; refused = group; after = left; split = p.split; table = ap (λ (s : Parsed). s.table) p.state }

pub states-same : (s t : Parsed) → s.ids ≡ t.ids → s.table ≡ t.table → s ≡ t
states-same s t ids table =
    ap (λ xs. let p : Parsed = record { ids = xs; table = s.table } in p) ids ∙ ap (λ u. let p : Parsed = record { ids = t.ids; table = u } in p) table

pub on_err : {T E P : Type 0} (r : Result T E) → P → OnErr r P
on_err (Ok x) p = tt
on_err (Err e) p = p
