-- Lemmas: the types of a file name none past their own groups in the table that they are put into.
use Rattle.std.specs.Prelude.{ℕ, zero, suc, ◌≡◌, ◌+◌, ◌<◌, ◌≤◌, Bool, true, false, List, [], ◌∷◌, ◌++◌, length, map, Option, Some, None, MatchOption, if◌then◌else◌, refl}
use Rattle.std.specs.List.{range_with_len}
use Rattle.std.proofs.Common.{ap, sym, ◌∙◌, subst, arith}
use Rattle.std.proofs.lemmas.List.{length-append, length-map}
use Rattle.walrus_forms.specs.Kinds.{Kind, kind_names}
use Rattle.walrus_forms.specs.Records.{TypeGroup}
use Rattle.walrus_forms.specs.Renaming.{at, renamed_kind}
use Rattle.walrus_forms.proofs.RenamingLemmas.{kinds-names}
use Rattle.walrus_parse_laws.proofs.ListLemmas.{AllOf, all_join}
use Rattle.walrus_parse_laws.specs.walrus_types_into.Into.{no_types}
use Rattle.walrus_pass_laws.specs.walrus_refusals.Written.{MayName}
use Rattle.walrus_types.proofs.LawLemmas.{latest-law}
use Rattle.walrus_types.specs.Groups.{new_items}
use Rattle.walrus_types.specs.Items.{Item}
use Rattle.walrus_types.specs.Parsing.{Parsed, added, known_ids, merged, parsed, parsed_group, unparsed, with_group}
use Rattle.walrus_types.specs.Table.{Table, equal_type, latest_id, merges, names_itself, next_id, type_at}
use Rattle.walrus_types.specs.TypeLaws.{IsLatest}
use Rattle.walrus_parse_gc_laws.proofs.ServedNameLemmas.{Named, NamesSo, all_up, group_named}

-- ids of types of a table, whose types name types of it, none past their own groups
pub record Stays (s : Parsed) : Type 0 where
  pub ids : AllOf (λ id. id < next_id s.table) s.ids
  pub names : Named (λ id name. (name < next_id s.table) × MayName s.table id name) s.table

-- ---- names of a group that is renamed

-- what no list has is 0
at_low : (end : ℕ) (ids : List ℕ) → 0 < end → AllOf (λ id. id < end) ids → (n : ℕ) → at ids n < end
at_low end [] some h n = some
at_low end (id ∷ ids) some h zero = h.0
at_low end (id ∷ ids) some h (suc n) = at_low end ids some h.1 n

pub renamed_all : (P : ℕ → Type 0) (r : ℕ → ℕ) → ((n : ℕ) → P (r n)) → (ns : List ℕ) → AllOf P (map r ns)
renamed_all P r h [] = tt
renamed_all P r h (n ∷ ns) = (h n, renamed_all P r h ns)

pub renamed_so : (P : ℕ → Type 0) (r : ℕ → ℕ) → ((n : ℕ) → P (r n)) → (kind : Kind) → NamesSo P (renamed_kind r kind)
renamed_so P r h kind = subst (AllOf P) (sym (kinds-names r kind)) (renamed_all P r h (kind_names kind))

all_so : (P : ℕ → Type 0) (r : ℕ → ℕ) → ((n : ℕ) → P (r n)) → (kinds : List Kind) → AllOf (NamesSo P) (map (renamed_kind r) kinds)
all_so P r h [] = tt
all_so P r h (kind ∷ kinds) = (renamed_so P r h kind, all_so P r h kinds)

range_low : (first count end : ℕ) → first + count ≤ end → AllOf (λ (id : ℕ). id < end) (range_with_len first count)
range_low first zero end le = tt
range_low first (suc count) end le = (omega (arith, le), range_low (first + 1) count end (omega (arith, le)))

ids_low : (next count : ℕ) (ids : List ℕ) → AllOf (λ id. id < next) ids → AllOf (λ id. id < next + count) (ids ++ range_with_len next count)
ids_low next count ids h =
    all_join (λ id. id < next + count) ids (range_with_len next count) (all_up (λ id. id < next) (λ id. id < next + count) (λ id lt. omega (arith, lt)) ids h) (range_low next count (next + count) (omega arith))

kinds_low : (next : ℕ) (ids : List ℕ) (kinds : List Kind) → AllOf (λ id. id < next) ids
    → AllOf (NamesSo (λ name. name < next + length kinds)) (map (renamed_kind (at (ids ++ range_with_len next (length kinds)))) kinds)
kinds_low next ids [] h = tt
kinds_low next ids (kind ∷ kinds) h =
    let all : List ℕ = ids ++ range_with_len next (length (kind ∷ kinds)) in
    all_so (λ name. name < next + length (kind ∷ kinds)) (at all) (at_low (next + length (kind ∷ kinds)) all (omega arith) (ids_low next (length (kind ∷ kinds)) ids h)) (kind ∷ kinds)

-- ---- groups, one by one

items_length : (id : ℕ) (kinds : List Kind) → length (new_items id kinds) ≡ length kinds
items_length id [] = refl
items_length id (k ∷ kinds) = let e = items_length (id + 1) kinds in omega (arith, e)

next_is : (explicit : Bool) (kinds : List Kind) (t : Table) → next_id (with_group explicit kinds t) ≡ next_id t + length kinds
next_is explicit kinds t = length-append t.types (new_items (next_id t) kinds) ∙ ap (λ (n : ℕ). next_id t + n) (items_length (next_id t) kinds)

module _ (kinds : List Kind) (s : Parsed) (h : Stays s) (below : AllOf (NamesSo (λ name. name < next_id s.table + length kinds)) kinds) where
  grouped_names : (explicit : Bool) → let u = with_group explicit kinds s.table in Named (λ id name. (name < next_id u) × MayName u id name) u
  grouped_names explicit =
      let u = with_group explicit kinds s.table in
      subst (λ (n : ℕ). Named (λ id name. (name < n) × MayName u id name) u) (sym (next_is explicit kinds s.table)) (group_named explicit kinds s.table (λ name lt. omega (arith, lt)) below h.names)

  grouped_stays : (explicit : Bool) → Stays (record { ids = s.ids ++ range_with_len (next_id s.table) (length kinds); table = with_group explicit kinds s.table })
  grouped_stays explicit = record {
    ids = subst (λ (n : ℕ). AllOf (λ id. id < n) (s.ids ++ range_with_len (next_id s.table) (length kinds))) (sym (next_is explicit kinds s.table)) (ids_low (next_id s.table) (length kinds) s.ids h.ids);
    names = grouped_names explicit;
  }

within : (xs : List (Option Item)) (id : ℕ) (x : Item) → type_at (record { types = xs; groups = [] }) id ≡ Some x → id < length xs
within [] id x e = absurd cc
within (y ∷ ys) zero x e = omega arith
within (y ∷ ys) (suc id) x e = let lt = within ys id x e in omega (arith, lt)

-- the equal type that stands for another is one of the table
equal_low : (kind : Kind) (t : Table) (id : ℕ) → equal_type kind t ≡ Some id → id < next_id t
equal_low kind t id e = go (names_itself (next_id t) kind) e
  where
    go : (own : Bool) → (if own then None else latest_id (merges kind) t) ≡ Some id → id < next_id t
    go true e = absurd cc
    go false e =
        let last : IsLatest (merges kind) t id = subst (λ (o : Option ℕ). MatchOption o ((other : ℕ) (x : Item) → type_at t other ≡ Some x → merges kind (other, x) ≡ false) (IsLatest (merges kind) t)) e (latest-law t (merges kind)) in
        within t.types id last.item last.live

merged_stays : (found : Option ℕ) (kind : Kind) (s : Parsed) → equal_type kind s.table ≡ found → Stays s → NamesSo (λ name. name < next_id s.table + 1) kind → Stays (merged found kind s)
merged_stays (Some id) kind s e h below = record { ids = all_join (λ x. x < next_id s.table) s.ids (id ∷ []) h.ids (equal_low kind s.table id e, tt); names = h.names }
merged_stays None kind s e h below = grouped_stays (kind ∷ []) s h (below, tt) false

added_stays : (explicit : Bool) (kinds : List Kind) (s : Parsed) → Stays s → AllOf (NamesSo (λ name. name < next_id s.table + length kinds)) kinds → Stays (added explicit kinds s)
added_stays true kinds s h below = grouped_stays kinds s h below true
added_stays false [] s h below = grouped_stays [] s h below true
added_stays false (kind ∷ []) s h below = merged_stays (equal_type kind s.table) kind s refl h below.0
added_stays false (a ∷ b ∷ kinds) s h below = grouped_stays (a ∷ b ∷ kinds) s h below true

all_stay : (groups : List TypeGroup) (s : Parsed) → Stays s → Stays (parsed groups s)
all_stay [] s h = h
all_stay (g ∷ groups) s h =
    let r = at (known_ids g s) in
    all_stay groups (parsed_group g s) (added_stays g.marked (map (renamed_kind r) g.kinds) s h
    (subst (λ (n : ℕ). AllOf (NamesSo (λ name. name < next_id s.table + n)) (map (renamed_kind r) g.kinds)) (sym (length-map g.kinds (renamed_kind r))) (kinds_low (next_id s.table) s.ids g.kinds h.ids)))

pub file_stays : (groups : List TypeGroup) → Stays (parsed groups (unparsed no_types))
file_stays groups = all_stay groups (unparsed no_types) (record { ids = tt; names = λ id x there. absurd cc })
