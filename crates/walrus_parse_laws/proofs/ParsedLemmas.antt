-- Lemmas: what a group adds to a table, and which ids its types get.
use Rattle.std.proofs.Common.{◌≡◌, ◌∙◌, ◌+◌, ◌<◌, ◌≤◌, ◌⊎◌, ◌==◌, ◌&&◌, ◌||◌, ℕ, zero, suc, Bool, true, false, not, List, [], ◌∷◌, ◌++◌, length, map, Option, Some, None, refl, sym, ap, subst, arith, inl, inr}
use Rattle.std.specs.Prelude.{if◌then◌else◌}
use Rattle.std.specs.List.{AllByRecursion, range_with_len}
use Rattle.std.proofs.lemmas.Bool.{cases_lt, eq-eqb, ne_eqb}
use Rattle.std.proofs.lemmas.List.{length-append, length-map, append_assoc, append-nil}
use Rattle.std.proofs.lemmas.List.FromFn.{length-range_with_len}
use Rattle.walrus_arena.specs.Arena.{entries_from}
use Rattle.walrus_named_bodies.specs.walrus_file_bodies.walrus_items_into.walrus_module_bodies.walrus_body_trees.walrus_meaning.walrus_local_function.walrus_body_locals.wasm_grammar.walrus_forms.Kinds.{Kind}
use Rattle.walrus_named_bodies.specs.walrus_file_bodies.walrus_items_into.walrus_module_bodies.walrus_body_trees.walrus_meaning.walrus_local_function.walrus_body_locals.wasm_grammar.walrus_forms.Records.{TypeGroup}
use Rattle.walrus_named_bodies.specs.walrus_file_bodies.walrus_items_into.walrus_module_bodies.walrus_body_trees.walrus_meaning.walrus_local_function.walrus_body_locals.wasm_grammar.walrus_forms.Renaming.{at, renamed_kind}
use Rattle.walrus_named_bodies.specs.walrus_file_bodies.walrus_items_into.walrus_module_bodies.walrus_body_trees.walrus_meaning.Bodies.{has_number}
use Rattle.walrus_named_bodies.specs.walrus_file_bodies.walrus_items_into.walrus_module_bodies.walrus_body_trees.walrus_meaning.walrus_module.walrus_types.Items.{Item}
use Rattle.walrus_named_bodies.specs.walrus_file_bodies.walrus_items_into.walrus_module_bodies.walrus_body_trees.walrus_meaning.walrus_module.walrus_types.Groups.{new_items, group_slot}
use Rattle.walrus_named_bodies.specs.walrus_file_bodies.walrus_items_into.walrus_module_bodies.walrus_body_trees.walrus_meaning.walrus_module.walrus_types.Table.{Table, next_id, latest_in, merges, equal_type, names_itself}
use Rattle.walrus_named_bodies.specs.walrus_file_bodies.walrus_items_into.walrus_module_bodies.walrus_body_trees.walrus_meaning.walrus_module.walrus_types.Parsing.{Parsed, with_group, merged, added, known_ids, parsed_group, parsed}

-- ---- ids that are there

module _ (n : ℕ) where
  number_left : (xs ys : List ℕ) → has_number xs n ≡ true → has_number (xs ++ ys) n ≡ true
  number_left [] ys e = absurd cc
  number_left (x ∷ xs) ys e = go (x == n) e (λ e. number_left xs ys e)
    where
      go : (b : Bool) → (b || has_number xs n) ≡ true → (has_number xs n ≡ true → has_number (xs ++ ys) n ≡ true) → (b || has_number (xs ++ ys) n) ≡ true
      go true e later = refl
      go false e later = later e

  number_right : (xs ys : List ℕ) → has_number ys n ≡ true → has_number (xs ++ ys) n ≡ true
  number_right [] ys e = e
  number_right (x ∷ xs) ys e = go (x == n) (number_right xs ys e)
    where
      go : (b : Bool) → has_number (xs ++ ys) n ≡ true → (b || has_number (xs ++ ys) n) ≡ true
      go true e = refl
      go false e = e

  number_in : (first count : ℕ) → first ≤ n → n < first + count → has_number (range_with_len first count) n ≡ true
  number_in first zero le lt = absurd (omega (arith, le, lt))
  number_in first (suc count) le lt = elim (cases_lt first n) [
    | inl less ↦ number_right (first ∷ []) (range_with_len (first + 1) count) (number_in (first + 1) count (omega (arith, less)) (omega (arith, lt)))
    | inr ge ↦ ap (λ (b : Bool). b || has_number (range_with_len (first + 1) count) n) (eq-eqb first n (omega (arith, le, ge)))
  ]

  not_there : (xs : List ℕ) → AllByRecursion (λ x. x < n) xs → has_number xs n ≡ false
  not_there [] h = refl
  not_there (x ∷ xs) h = let lt : x < n = h.0 in ap (λ (b : Bool). b || has_number xs n) (ne_eqb x n (λ e. omega (arith, e, lt))) ∙ not_there xs h.1

  all_later : (more : ℕ) (xs : List ℕ) → n ≤ more → AllByRecursion (λ x. x < n) xs → AllByRecursion (λ x. x < more) xs
  all_later more [] le h = tt
  all_later more (x ∷ xs) le h = let lt : x < n = h.0 in (omega (arith, le, lt), all_later more xs le h.1)

all_both : (P : ℕ → Type 0) (xs ys : List ℕ) → AllByRecursion P xs → AllByRecursion P ys → AllByRecursion P (xs ++ ys)
all_both P [] ys h k = k
all_both P (x ∷ xs) ys h k = (h.0, all_both P xs ys h.1 k)

range_below : (first count most : ℕ) → first + count ≤ most → AllByRecursion (λ x. x < most) (range_with_len first count)
range_below first zero most le = tt
range_below first (suc count) most le = (omega (arith, le), range_below (first + 1) count most (omega (arith, le)))

items_length : (id : ℕ) (kinds : List Kind) → length (new_items id kinds) ≡ length kinds
items_length id [] = refl
items_length id (k ∷ kinds) = let e = items_length (id + 1) kinds in omega (arith, e)

-- ---- the type that is found is there

module _ (test : ℕ × Item → Bool) (n : ℕ) where
  latest_below : (es : List (ℕ × Item)) (found : Option ℕ) (id : ℕ) → AllByRecursion (λ (e : ℕ × Item). e.0 < n) es → ((k : ℕ) → found ≡ Some k → k < n) → latest_in test found es ≡ Some id → id < n
  latest_below [] found id all h e = h id e
  latest_below (x ∷ es) found id all h e = latest_below es (if test x then Some x.0 else found) id all.1 (λ k. go (test x) k) e
    where
      some_is : (a b : ℕ) → Some a ≡ Some b → a ≡ b
      some_is a b e = cc

      go : (b : Bool) (k : ℕ) → (if b then Some x.0 else found) ≡ Some k → k < n
      go true k e = subst (λ (m : ℕ). m < n) (some_is x.0 k e) all.0
      go false k e = h k e

entries_below : (id : ℕ) (slots : List (Option Item)) (n : ℕ) → id + length slots ≤ n → AllByRecursion (λ (e : ℕ × Item). e.0 < n) (entries_from id slots)
entries_below id [] n le = tt
entries_below id (None ∷ slots) n le = entries_below (id + 1) slots n (omega (arith, le))
entries_below id (Some x ∷ slots) n le = (omega (arith, le), entries_below (id + 1) slots n (omega (arith, le)))

equal_below : (kind : Kind) (t : Table) (id : ℕ) → equal_type kind t ≡ Some id → id < next_id t
equal_below kind t id e = go (names_itself (next_id t) kind) e
  where
    none : (k : ℕ) → (let o : Option ℕ = None in o ≡ Some k) → k < next_id t
    none k e = absurd cc

    go : (b : Bool) → (if b then None else latest_in (merges kind) None (entries_from 0 t.types)) ≡ Some id → id < next_id t
    go true e = none id e
    go false e = latest_below (merges kind) (next_id t) (entries_from 0 t.types) None id (entries_below 0 t.types (next_id t) (omega arith)) none e

-- ---- one more group

-- the ids so far are those that were given
pub record AllGiven (s : Parsed) : Type 0 where
  pub below : AllByRecursion (λ (id : ℕ). id < next_id s.table) s.ids
  pub all : (id : ℕ) → id < next_id s.table → has_number s.ids id ≡ true

-- an earlier type stands for it
abbrev pub IsMerged : List ℕ → Parsed → Parsed → Type 0
IsMerged own s t = (id : ℕ) × (own ≡ id ∷ []) × (has_number s.ids id ≡ true) × (t.table.groups ≡ s.table.groups)

-- it is explicit but where it is of one type without a mark
abbrev pub is_explicit : Bool → ℕ → Bool
is_explicit marked count = not (not marked && count == 1)

abbrev pub IsFresh : Parsed → List ℕ → Type 0
IsFresh s [] = Unit {0}
IsFresh s (id ∷ ids) = has_number s.ids id ≡ false

-- it stands there
abbrev pub IsAdded : Bool → List ℕ → Parsed → Parsed → Type 0
IsAdded explicit own s t = IsFresh s own × (t.table.groups ≡ s.table.groups ++ group_slot explicit own)

pub record Step (explicit : Bool) (count : ℕ) (s t : Parsed) : Type 0 where
  pub own : List ℕ
  pub sized : length own ≡ count
  pub ids : t.ids ≡ s.ids ++ own
  pub given : AllGiven t
  pub groups : IsMerged own s t ⊎ IsAdded explicit own s t

fresh : (s : Parsed) (count : ℕ) → AllGiven s → IsFresh s (range_with_len (next_id s.table) count)
fresh s zero h = tt
fresh s (suc count) h = not_there (next_id s.table) s.ids h.below

plain_step : (explicit : Bool) (kinds : List Kind) (s : Parsed) → AllGiven s
    → Step explicit (length kinds) s (record { ids = s.ids ++ range_with_len (next_id s.table) (length kinds); table = with_group explicit kinds s.table })
plain_step explicit kinds s h =
    let first = next_id s.table in
    let t = with_group explicit kinds s.table in
    let own = range_with_len first (length kinds) in
    let next : next_id t ≡ first + length kinds = length-append s.table.types (new_items first kinds) ∙ ap (λ (n : ℕ). first + n) (items_length first kinds) in record {
      own = own;
      sized = length-range_with_len first (length kinds);
      ids = refl;
      given = record {
        below = all_both (λ (id : ℕ). id < next_id t) s.ids own (all_later first (next_id t) s.ids (omega (arith, next)) h.below) (range_below first (length kinds) (next_id t) (omega (arith, next)));
        all = λ id lt. elim (cases_lt id first) [
          | inl less ↦ number_left id s.ids own (h.all id less)
          | inr ge ↦ number_right id s.ids own (number_in id first (length kinds) ge (omega (arith, lt, next)))
        ];
      };
      groups = inr (fresh s (length kinds) h, refl);
    }

merged_step : (found : Option ℕ) (kind : Kind) (s : Parsed) → equal_type kind s.table ≡ found → AllGiven s → Step false 1 s (merged found kind s)
merged_step None kind s e h = plain_step false (kind ∷ []) s h
merged_step (Some id) kind s e h =
    let lt = equal_below kind s.table id e in record {
      own = id ∷ [];
      sized = refl;
      ids = refl;
      given = record {
        below = all_both (λ (id : ℕ). id < next_id s.table) s.ids (id ∷ []) h.below (lt, tt);
        all = λ other less. number_left other s.ids (id ∷ []) (h.all other less);
      };
      groups = inl (id, refl, h.all id lt, refl);
    }

added_step : (marked : Bool) (kinds : List Kind) (s : Parsed) → AllGiven s → Step (is_explicit marked (length kinds)) (length kinds) s (added marked kinds s)
added_step true kinds s h = plain_step true kinds s h
added_step false [] s h = plain_step true [] s h
added_step false (kind ∷ []) s h = merged_step (equal_type kind s.table) kind s refl h
added_step false (a ∷ b ∷ kinds) s h =
    let all = a ∷ b ∷ kinds in
    subst (λ (one : Bool). Step (not one) (length all) s (added false all s)) (sym (ne_eqb (length all) 1 (λ e. omega (arith, e)))) (plain_step true all s h)

pub step : (g : TypeGroup) (s : Parsed) → AllGiven s → Step (is_explicit g.marked (length g.kinds)) (length g.kinds) s (parsed_group g s)
step g s h =
    let f = renamed_kind (at (known_ids g s)) in
    subst (λ (n : ℕ). Step (is_explicit g.marked n) n s (parsed_group g s)) (length-map g.kinds f) (added_step g.marked (map f g.kinds) s h)

-- the ids of the types of several
abbrev pub later_ids : (groups : List TypeGroup) (s : Parsed) → AllGiven s → List ℕ
later_ids [] s h = []
later_ids (g ∷ groups) s h = (step g s h).own ++ later_ids groups (parsed_group g s) (step g s h).given

pub ids_are : (groups : List TypeGroup) (s : Parsed) (h : AllGiven s) → (parsed groups s).ids ≡ s.ids ++ later_ids groups s h
ids_are [] s h = sym (append-nil s.ids)
ids_are (g ∷ groups) s h =
    let t = parsed_group g s in
    let one = step g s h in
    let more = later_ids groups t one.given in
    ids_are groups t one.given ∙ ap (λ (l : List ℕ). l ++ more) one.ids ∙ append_assoc s.ids one.own more
