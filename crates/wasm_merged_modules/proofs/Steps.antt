-- Lemmas: what a group adds to a table, and which ids its types get.
use Rattle.std.specs.Prelude.{ℕ, ◌≡◌, ◌<◌, ◌≤◌, ◌+◌, ◌⊎◌, ◌==◌, ◌&&◌, Bool, true, false, not, List, [], ◌∷◌, ◌++◌, length, map, Option, Some, None, refl, if◌then◌else◌}
use Rattle.std.specs.List.{AllByRecursion, range_with_len}
use Rattle.std.proofs.Common.{ap, sym, ◌∙◌, subst, arith, inl, inr}
use Rattle.std.proofs.lemmas.Bool.{ne_eqb}
use Rattle.std.proofs.lemmas.List.{append_assoc, append-nil, length-append, length-map}
use Rattle.std.proofs.lemmas.List.FromFn.{length-range_with_len}
use Rattle.walrus_forms.specs.Kinds.{Kind}
use Rattle.walrus_forms.specs.Records.{TypeGroup}
use Rattle.walrus_forms.specs.Renaming.{at, renamed_kind}
use Rattle.walrus_types.specs.walrus_items.Items.{Item}
use Rattle.walrus_types.specs.walrus_items.walrus_arena.Arena.{entries_from}
use Rattle.walrus_types.specs.Groups.{new_items}
use Rattle.walrus_types.specs.Parsing.{Parsed, added, known_ids, merged, parsed, parsed_group, with_group}
use Rattle.walrus_types.specs.Table.{Table, equal_type, latest_in, merges, names_itself, next_id}
use Rattle.wasm_merged_modules.proofs.Orders.{AreOrderly, many_more, one_more}

-- ---- the type that is found is there

module _ (test : ℕ × Item → Bool) (n : ℕ) where
  some_is : (a b : ℕ) → (let some : ℕ → Option ℕ = λ k. Some k in some a ≡ some b) → a ≡ b
  some_is a b e = cc

  latest_below : (es : List (ℕ × Item)) (found : Option ℕ) (id : ℕ) → AllByRecursion (λ (e : ℕ × Item). e.0 < n) es → ((k : ℕ) → found ≡ Some k → k < n) → latest_in test found es ≡ Some id → id < n
  latest_below [] found id all h e = h id e
  latest_below (x ∷ es) found id all h e = latest_below es (if test x then Some x.0 else found) id all.1 (λ k. go (test x) k) e
    where
      go : (b : Bool) (k : ℕ) → (if b then Some x.0 else found) ≡ Some k → k < n
      go true k e = subst (λ (m : ℕ). m < n) (some_is x.0 k e) all.0
      go false k e = h k e

entries_below : (id : ℕ) (slots : List (Option Item)) (n : ℕ) → id + length slots ≤ n → AllByRecursion (λ (e : ℕ × Item). e.0 < n) (entries_from id slots)
entries_below id [] n le = tt
entries_below id (None ∷ slots) n le = entries_below (id + 1) slots n (omega (arith, le))
entries_below id (Some x ∷ slots) n le = (omega (arith, le), entries_below (id + 1) slots n (omega (arith, le)))

equal_below : (kind : Kind) (t : Table) (id : ℕ) → equal_type kind t ≡ Some id → id < next_id t
equal_below kind t id e = go (names_itself (next_id t) kind) e
  where
    none : (k : ℕ) → (let o : Option ℕ = None in o ≡ Some k) → k < next_id t
    none k e = absurd cc

    go : (b : Bool) → (if b then None else latest_in (merges kind) None (entries_from 0 t.types)) ≡ Some id → id < next_id t
    go true e = none id e
    go false e = latest_below (merges kind) (next_id t) (entries_from 0 t.types) None id (entries_below 0 t.types (next_id t) (omega arith)) none e

-- ---- types of these kinds

-- with them, under the next ids
abbrev pub with_new : Bool → List Kind → Parsed → Parsed
with_new explicit kinds s = record { ids = s.ids ++ range_with_len (next_id s.table) (length kinds); table = with_group explicit kinds s.table }

-- a single one for which an earlier one stands
abbrev pub IsMerged : Bool → List Kind → Parsed → Type 0
IsMerged marked kinds s = (id : ℕ) × (id < next_id s.table) × (added marked kinds s ≡ record { ids = s.ids ++ id ∷ []; table = s.table }) × (length kinds ≡ 1)

-- they are added, wherever the table is this one
abbrev pub IsAdded : Bool → List Kind → Parsed → Type 0
IsAdded marked kinds s = (explicit : Bool) × ((t : Parsed) → t.table ≡ s.table → added marked kinds t ≡ with_new explicit kinds t)

single_cases : (kind : Kind) (s : Parsed) (found : Option ℕ) → equal_type kind s.table ≡ found → IsMerged false (kind ∷ []) s ⊎ IsAdded false (kind ∷ []) s
single_cases kind s None e = inr (false, λ t same. ap (λ (o : Option ℕ). merged o kind t) (ap (equal_type kind) same ∙ e))
single_cases kind s (Some id) e = inl (id, equal_below kind s.table id e, ap (λ (o : Option ℕ). merged o kind s) e, refl)

pub added_cases : (marked : Bool) (kinds : List Kind) (s : Parsed) → IsMerged marked kinds s ⊎ IsAdded marked kinds s
added_cases true kinds s = inr (true, λ t same. refl)
added_cases false [] s = inr (true, λ t same. refl)
added_cases false (kind ∷ []) s = single_cases kind s (equal_type kind s.table) refl
added_cases false (a ∷ (b ∷ kinds)) s = inr (true, λ t same. refl)

-- marked but where it is of one type without a mark, a group adds the same
pub added_marked : (marked : Bool) (kinds : List Kind) (t : Parsed) → added (not (not marked && length kinds == 1)) kinds t ≡ added marked kinds t
added_marked true kinds t = refl
added_marked false [] t = refl
added_marked false (kind ∷ []) t = refl
added_marked false (a ∷ (b ∷ kinds)) t = ap (λ (one : Bool). added (not one) (a ∷ (b ∷ kinds)) t) (ne_eqb (length (a ∷ (b ∷ kinds))) 1 (λ e. omega (arith, e)))

items_length : (id : ℕ) (kinds : List Kind) → length (new_items id kinds) ≡ length kinds
items_length id [] = refl
items_length id (k ∷ kinds) = let e = items_length (id + 1) kinds in omega (arith, e)

pub next_more : (marked : Bool) (kinds : List Kind) (t : Table) → next_id (with_group marked kinds t) ≡ next_id t + length kinds
next_more marked kinds t = length-append t.types (new_items (next_id t) kinds) ∙ ap (λ (n : ℕ). next_id t + n) (items_length (next_id t) kinds)

abbrev pub IsOrderly : Parsed → Type 0
IsOrderly s = AreOrderly s.ids (next_id s.table)

added_orderly : (marked : Bool) (kinds : List Kind) (s : Parsed) → IsOrderly s → IsMerged marked kinds s ⊎ IsAdded marked kinds s → IsOrderly (added marked kinds s)
added_orderly marked kinds s h (inl m) = subst IsOrderly (sym m.2) (one_more s.ids (next_id s.table) h m.0 m.1)
added_orderly marked kinds s h (inr a) =
    subst IsOrderly (sym (a.1 s refl)) (subst (AreOrderly (s.ids ++ range_with_len (next_id s.table) (length kinds))) (sym (next_more a.0 kinds s.table)) (many_more s.ids (next_id s.table) h (length kinds)))

abbrev pub given_kinds : TypeGroup → Parsed → List Kind
given_kinds g s = map (renamed_kind (at (known_ids g s))) g.kinds

pub group_orderly : (g : TypeGroup) (s : Parsed) → IsOrderly s → IsOrderly (parsed_group g s)
group_orderly g s h = added_orderly g.marked (given_kinds g s) s h (added_cases g.marked (given_kinds g s) s)

pub all_orderly : (groups : List TypeGroup) (s : Parsed) → IsOrderly s → IsOrderly (parsed groups s)
all_orderly [] s h = h
all_orderly (g ∷ groups) s h = all_orderly groups (parsed_group g s) (group_orderly g s h)

-- ---- ids behind those before

ids_added : (marked : Bool) (kinds : List Kind) (s : Parsed) → IsMerged marked kinds s ⊎ IsAdded marked kinds s → (own : List ℕ) × ((added marked kinds s).ids ≡ s.ids ++ own) × (length own ≡ length kinds)
ids_added marked kinds s (inl m) = (m.0 ∷ [], ap (λ (t : Parsed). t.ids) m.2, sym m.3)
ids_added marked kinds s (inr a) = (range_with_len (next_id s.table) (length kinds), ap (λ (t : Parsed). t.ids) (a.1 s refl), length-range_with_len (next_id s.table) (length kinds))

pub group_ids : (g : TypeGroup) (s : Parsed) → (own : List ℕ) × ((parsed_group g s).ids ≡ s.ids ++ own) × (length own ≡ length g.kinds)
group_ids g s =
    let one = ids_added g.marked (given_kinds g s) s (added_cases g.marked (given_kinds g s) s) in (one.0, one.1, one.2 ∙ length-map g.kinds (renamed_kind (at (known_ids g s))))

pub all_ids : (groups : List TypeGroup) (s : Parsed) → (own : List ℕ) × ((parsed groups s).ids ≡ s.ids ++ own)
all_ids [] s = ([], sym (append-nil s.ids))
all_ids (g ∷ groups) s =
    let one = group_ids g s in
    let more = all_ids groups (parsed_group g s) in
    (one.0 ++ more.0, more.1 ∙ ap (λ (l : List ℕ). l ++ more.0) one.1 ∙ append_assoc s.ids one.0 more.0)
