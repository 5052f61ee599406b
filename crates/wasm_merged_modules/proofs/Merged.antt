-- Lemmas: the types of a file stand among its merged types, in their order.
use Rattle.std.specs.Prelude.{ℕ, zero, suc, ◌≡◌, ◌<◌, ◌≤◌, ◌+◌, ◌-◌, ◌==◌, ◌||◌, ◌⊎◌, Bool, true, false, not, List, [], ◌∷◌, ◌++◌, length, map, All, Option, Some, None, slice_get, slice_index_or, refl}
use Rattle.std.specs.List.{list_any, range_with_len}
use Rattle.std.specs.Option.{is_some, option_map}
use Rattle.std.proofs.Common.{ap, sym, ◌∙◌, subst, arith, inl, inr}
use Rattle.std.proofs.lemmas.Bool.{eq-eqb, ne_eqb, cases_lt}
use Rattle.std.proofs.lemmas.List.{append-nil, length-append, length-map, map-append}
use Rattle.std.proofs.lemmas.List.Concat.{flat_map-append}
use Rattle.std.proofs.lemmas.List.Elements.{All-cons, All-nil}
use Rattle.walrus_forms.specs.Kinds.{Kind}
use Rattle.walrus_forms.specs.Records.{TypeGroup}
use Rattle.walrus_forms.specs.Renaming.{KindBelow, at, renamed_kind, renamed_value}
use Rattle.walrus_forms.specs.declared.value.ValType.{ValType}
use Rattle.walrus_types.specs.walrus_items.Items.{Item}
use Rattle.walrus_types.specs.Mergers.{Entry, ParsingCarriesSame, entries_of, is_single}
use Rattle.walrus_types.specs.Parsing.{AreBelow as WalrusBelow, Parsed, parsed, parsed_group, unparsed}
use Rattle.walrus_types.specs.Table.{next_id}
use Rattle.wasm_normal_modules.proofs.Slots.{get_some, slot_sent}
use Rattle.wasm_normal_modules.specs.Modules.{BlockTypesAreTheirPicks, NormalModulesAreRuled}
use Rattle.wasm_normal_modules.specs.wasm_ruled_renamed.Types.{Retypes, RetypesInOrder}
use Rattle.wasm_normal_modules.specs.wasm_ruled_renamed.wasm_ruled_normal.wasm_ruled_modules.Rules.{AreBelow, GroupsBelow, around_bodies}
use Rattle.wasm_normal_modules.specs.wasm_ruled_renamed.wasm_ruled_normal.wasm_ruled_modules.wasm_module_rules.wasm_modules.wasm_body_grammar.Rules.{Around, found_in, leads, serves}
use Rattle.wasm_normal_modules.specs.wasm_ruled_renamed.wasm_ruled_normal.wasm_ruled_modules.wasm_module_rules.wasm_modules.wasm_body_grammar.wasm_formats.wasm_features.declared.WasmFeatures.{WasmFeatures}
use Rattle.wasm_normal_modules.specs.wasm_ruled_renamed.wasm_ruled_normal.wasm_ruled_modules.wasm_module_rules.wasm_modules.wasm_body_grammar.wasm_grammar.Modules.{Module}
use Rattle.wasm_normal_modules.specs.wasm_ruled_renamed.wasm_ruled_normal.wasm_ruled_modules.wasm_module_rules.wasm_modules.wasm_body_grammar.wasm_grammar.States.{types_of}
use Rattle.wasm_merged_modules.proofs.Groups.{AreKept, all_kept, somes}
use Rattle.wasm_merged_modules.proofs.Orders.{AreOrderly, above_all, at_range, first_with, none_orderly}
use Rattle.wasm_merged_modules.proofs.Steps.{all_orderly, group_ids}
use Rattle.wasm_merged_modules.specs.Merged.{MergedModulesAreRuled, NoneStandBehind, StandBehind, TypesAreMerged, ids_of, kept_of, kinds_of, merged_module, merged_types, new_table}

-- ---- lists of kinds

pub somes_at : (kinds : List Kind) (n : ℕ) → slice_index_or (somes kinds) n None ≡ slice_get kinds n
somes_at [] n = refl
somes_at (k ∷ kinds) zero = refl
somes_at (k ∷ kinds) (suc n) = somes_at kinds n

pub get_left : (xs ys : List Kind) (n : ℕ) (k : Kind) → slice_get xs n ≡ Some k → slice_get (xs ++ ys) n ≡ Some k
get_left [] ys n k e = absurd cc
get_left (x ∷ xs) ys zero k e = e
get_left (x ∷ xs) ys (suc n) k e = get_left xs ys n k e

get_right : (xs ys : List Kind) (n : ℕ) → length xs ≤ n → slice_get (xs ++ ys) n ≡ slice_get ys (n - length xs)
get_right [] ys n le = ap (slice_get ys) (let e : n ≡ n - 0 = omega arith in e)
get_right (x ∷ xs) ys zero le = absurd (omega (arith, le))
get_right (x ∷ xs) ys (suc n) le = get_right xs ys n (omega (arith, le)) ∙ ap (slice_get ys) (let e : n - length xs ≡ suc n - suc (length xs) = omega arith in e)

pub kinds_joined : (xs ys : List TypeGroup) → kinds_of (xs ++ ys) ≡ kinds_of xs ++ kinds_of ys
kinds_joined xs ys = flat_map-append (λ (g : TypeGroup). g.kinds) xs ys

groups_joined : (xs ys : List TypeGroup) (n : ℕ) → GroupsBelow n xs → GroupsBelow (n + length (kinds_of xs)) ys → GroupsBelow n (xs ++ ys)
groups_joined [] ys n h k = subst (λ (m : ℕ). GroupsBelow m ys) (let e : n + 0 ≡ n = omega arith in e) k
groups_joined (g ∷ xs) ys n h k = (
  h.0,
  groups_joined xs ys (n + length g.kinds) h.1
      (subst (λ (m : ℕ). GroupsBelow m ys) (let many = length-append g.kinds (kinds_of xs) in let e : n + length (kinds_of (g ∷ xs)) ≡ (n + length g.kinds) + length (kinds_of xs) = omega (arith, many) in e) k),
)

-- ---- which types lead

or_true : (b : Bool) → (b || true) ≡ true
or_true true = refl
or_true false = refl

any_in : (p : ℕ → Bool) (first count k : ℕ) → first ≤ k → k < first + count → p k ≡ true → list_any p (range_with_len first count) ≡ true
any_in p first zero k le lt e = absurd (omega (arith, le, lt))
any_in p first (suc count) k le lt e = elim (cases_lt first k) as (λ _. (p first || list_any p (range_with_len (first + 1) count)) ≡ true) [
  | inl less ↦ ap (λ (b : Bool). p first || b) (any_in p (first + 1) count k (omega (arith, less)) (omega (arith, lt)) e) ∙ or_true (p first)
  | inr ge ↦ ap (λ (b : Bool). b || list_any p (range_with_len (first + 1) count)) (ap p (let same : first ≡ k = omega (arith, le, ge) in same) ∙ e)
]

none_in : (p : ℕ → Bool) (first count : ℕ) → ((k : ℕ) → first ≤ k → k < first + count → p k ≡ false) → list_any p (range_with_len first count) ≡ false
none_in p first zero h = refl
none_in p first (suc count) h =
    ap (λ (b : Bool). b || list_any p (range_with_len (first + 1) count)) (h first (omega arith) (omega arith)) ∙ none_in p (first + 1) count (λ k le lt. h k (omega (arith, le)) (omega (arith, lt)))

pub leads_alone : (same : ℕ → ℕ) (n : ℕ) → leads same n ≡ true → (m : ℕ) → m < n → same m ≡ same n → ⊥
leads_alone same n e m lt is =
    let any : list_any (λ (k : ℕ). same k == same n) (range_with_len 0 n) ≡ true = any_in (λ (k : ℕ). same k == same n) 0 n m (omega arith) (omega (arith, lt)) (eq-eqb (same m) (same n) is) in
    let wrong : false ≡ true = sym (ap not any) ∙ e in absurd cc

pub alone_leads : (same : ℕ → ℕ) (n : ℕ) → ((m : ℕ) → m < n → same m ≡ same n → ⊥) → leads same n ≡ true
alone_leads same n h = ap not (none_in (λ (k : ℕ). same k == same n) 0 n (λ k le lt. ne_eqb (same k) (same n) (h k (omega (arith, lt)))))

-- ---- the words of the table

walrus_kinds : (end : ℕ) (kinds : List Kind) → AreBelow end kinds → All (KindBelow end) kinds
walrus_kinds end [] h = All-nil (KindBelow end)
walrus_kinds end (k ∷ kinds) h = All-cons (KindBelow end) k kinds h.0 (walrus_kinds end kinds h.1)

walrus_groups : (types : ℕ) (groups : List TypeGroup) → GroupsBelow types groups → WalrusBelow types groups
walrus_groups types [] h = tt
walrus_groups types (g ∷ groups) h = (walrus_kinds (types + length g.kinds) g.kinds h.0, walrus_groups (types + length g.kinds) groups h.1)

own_kinds : (single : Bool) (kinds : List Kind) → map (λ (e : Entry). e.kind) (map (λ (kind : Kind). (let e : Entry = record { single = single; kind = kind } in e)) kinds) ≡ kinds
own_kinds single [] = refl
own_kinds single (k ∷ kinds) = ap (λ (l : List Kind). k ∷ l) (own_kinds single kinds)

entry_kinds : (groups : List TypeGroup) → map (λ (e : Entry). e.kind) (entries_of groups) ≡ kinds_of groups
entry_kinds [] = refl
entry_kinds (g ∷ groups) =
    map-append (λ (e : Entry). e.kind) (map (λ (kind : Kind). (let e : Entry = record { single = is_single g; kind = kind } in e)) g.kinds) (entries_of groups)
    ∙ ap (λ (l : List Kind). l ++ map (λ (e : Entry). e.kind) (entries_of groups)) (own_kinds (is_single g) g.kinds) ∙ ap (λ (l : List Kind). g.kinds ++ l) (entry_kinds groups)

entry_at : (entries : List Entry) (n : ℕ) (kind : Kind) → slice_get (map (λ (e : Entry). e.kind) entries) n ≡ Some kind → (e : Entry) × (slice_get entries n ≡ Some e) × (e.kind ≡ kind)
entry_at [] n kind e = absurd cc
entry_at (x ∷ entries) zero kind e = (x, refl, some_is x.kind kind e)
  where
    some_is : (a b : Kind) → (let some : Kind → Option Kind = λ k. Some k in some a ≡ some b) → a ≡ b
    some_is a b e = cc
entry_at (x ∷ entries) (suc n) kind e = entry_at entries n kind e

ids_many : (groups : List TypeGroup) (s : Parsed) → length (parsed groups s).ids ≡ length s.ids + length (kinds_of groups)
ids_many [] s = omega arith
ids_many (g ∷ groups) s =
    let one = group_ids g s in
    let here = ap length one.1 ∙ length-append s.ids one.0 in
    let size = one.2 in
    let later = ids_many groups (parsed_group g s) in
    omega (arith, here, size, later, length-append g.kinds (kinds_of groups))

-- ---- the file's types

module _ (carries : ParsingCarriesSame) (groups : List TypeGroup) (below : GroupsBelow 0 groups) where
  abbrev ids : List ℕ
  ids = ids_of groups

  abbrev p : Parsed
  p = merged_types groups

  pub orderly : AreOrderly ids (next_id p.table)
  orderly = all_orderly groups (unparsed new_table) none_orderly

  pub kept_are : AreKept groups (unparsed new_table) ids
  kept_are = all_kept groups (unparsed new_table) none_orderly below ids refl

  pub many : length ids ≡ length (kinds_of groups)
  many = ids_many groups (unparsed new_table) ∙ (let e : 0 + length (kinds_of groups) ≡ length (kinds_of groups) = omega arith in e)

  pub kept_many : next_id p.table ≡ length (kinds_of (kept_of groups))
  kept_many = sym (length-map p.table.types (option_map (λ (i : Item). i.kind))) ∙ ap length kept_are.seen_are ∙ length-map (kinds_of (kept_of groups)) (λ (k : Kind). Some k)

  pub kind_there : (n : ℕ) (kind : Kind) → slice_get (kinds_of groups) n ≡ Some kind → slice_get (kinds_of (kept_of groups)) (at ids n) ≡ Some (renamed_kind (at ids) kind)
  kind_there n kind e =
      let c = carries groups (walrus_groups 0 groups below) in
      let entry = entry_at (entries_of groups) n kind (ap (λ (l : List Kind). slice_get l n) (entry_kinds groups) ∙ e) in
      sym (somes_at (kinds_of (kept_of groups)) (at ids n)) ∙ ap (λ (l : List (Option Kind)). slice_index_or l (at ids n) None) (sym kept_are.seen_are)
      ∙ slot_sent (λ (i : Item). i.kind) p.table.types (at ids n) ∙ ap (option_map (λ (i : Item). i.kind)) (c.kinds n entry.0 entry.1) ∙ ap (λ (k : Kind). Some (renamed_kind (at ids) k)) entry.2

  pub own_again : (k : ℕ) → k < length (kinds_of (kept_of groups ++ [])) → at (ids_of (kept_of groups ++ [])) k ≡ k
  own_again k lt =
      ap (λ (l : List TypeGroup). at (ids_of l) k) (append-nil (kept_of groups)) ∙ ap (λ (t : Parsed). at t.ids k) (kept_are.again (unparsed new_table) refl refl)
      ∙ at_range 0 (next_id p.table) k (let e = ap (λ (l : List TypeGroup). length (kinds_of l)) (append-nil (kept_of groups)) in omega (arith, lt, kept_many, e)) ∙ (let e : 0 + k ≡ k = omega arith in e)

-- ---- in their order

module _ (carries : ParsingCarriesSame) (place : Option ℕ → ℕ) (features : WasmFeatures) (counted : Bool) (more : List TypeGroup) (m : Module) (below : GroupsBelow 0 m.groups) (behind : StandBehind (around_bodies features counted m) more) where
  abbrev a : Around
  a = around_bodies features counted m

  abbrev n : Module
  n = merged_module place features counted more m

  abbrev b : Around
  b = around_bodies features counted n

  abbrev own_ids : List ℕ
  own_ids = ids_of m.groups

  abbrev front : List Kind
  front = kinds_of (kept_of m.groups)

  size : length own_ids ≡ length (kinds_of m.groups)
  size = many carries m.groups below

  small : (k : ℕ) → k < length (kinds_of m.groups) → at own_ids k < length front
  small k lt = let here = (orderly carries m.groups below).below k (omega (arith, lt, size)) in let end = kept_many carries m.groups below in omega (arith, here, end)

  all_many : length (kinds_of (kept_of m.groups ++ more)) ≡ length front + length (kinds_of more)
  all_many = ap length (kinds_joined (kept_of m.groups) more) ∙ length-append front (kinds_of more)

  same_there : (k : ℕ) → k < length front → b.same k ≡ k
  same_there k lt = behind.own k (omega (arith, lt, all_many))

  stands : (k : ℕ) → k < length (kinds_of m.groups) → slice_get (kinds_of n.groups) (at own_ids k) ≡ option_map (renamed_kind (at own_ids)) (slice_get (kinds_of m.groups) k)
  stands k lt =
      let kind = get_some (kinds_of m.groups) k lt in
      ap (λ (l : List Kind). slice_get l (at own_ids k)) (kinds_joined (kept_of m.groups) more)
      ∙ get_left front (kinds_of more) (at own_ids k) (renamed_kind (at own_ids) kind.0) (kind_there carries m.groups below k kind.0 kind.1) ∙ sym (ap (option_map (renamed_kind (at own_ids))) kind.1)

  abbrev types : Retypes (at own_ids) a b
  types = record {
    stands = stands;
    over = λ k. k;
    alike = λ k lt. same_there (at own_ids k) (small k lt);
    first = λ k lt _. alone_leads b.same (at own_ids k) (λ j less e. (let s = small k lt in
        let mine = same_there (at own_ids k) s in
        let other = same_there j (omega (arith, less, s)) in omega (arith, less, e, mine, other)));
  }

  rising : (k j : ℕ) → k < j → j < length (kinds_of m.groups) → leads a.same k ≡ true → leads a.same j ≡ true → at own_ids k < at own_ids j
  rising k j less lt _ leading = above_all own_ids _ (orderly carries m.groups below) j (omega (arith, lt, size)) (leads_alone a.same j leading) k less

  -- a type that is there is the first one's of those with its id, or stands behind
  others : (k : ℕ) (kind : Kind) → slice_get (kinds_of n.groups) k ≡ Some kind → k < length front
      → (j : ℕ) × (j < length (kinds_of m.groups)) × (leads a.same j ≡ true) × (at own_ids j ≡ k)
  others k kind e lt =
      let end = kept_many carries m.groups below in
      let some = (orderly carries m.groups below).onto k (omega (arith, lt, end)) in
      let least = first_with own_ids _ (orderly carries m.groups below) (suc some.0) some.0 (omega arith) some.1 in
      let bound = least.1 in
      (least.0, (let inside : least.0 < length (kinds_of m.groups) = omega (arith, bound, size) in inside), alone_leads a.same least.0 least.3, least.2 ∙ some.2)

  in_order : RetypesInOrder (at own_ids) a b
  in_order = record {
    retypes = types;
    back = λ k. k;
    apart = λ k lt. refl;
    rising = rising;
    others = λ k kind e _. elim (cases_lt k (length front)) as (λ _. ((j : ℕ) × (j < length (kinds_of m.groups)) × (leads a.same j ≡ true) × (at own_ids j ≡ k))
        ⊎ ((params results : List ValType) → is_some (found_in a.same params results (types_of a.filled)) ≡ true → serves b.same (map (renamed_value (at own_ids)) params) (map (renamed_value (at own_ids)) results) kind ≡ true → ⊥)) [
          | inl lt ↦ inl (others k kind e lt)
          | inr ge ↦ inr (behind.others (k - length front) kind (sym (get_right front (kinds_of more) k ge) ∙ ap (λ (l : List Kind). slice_get l k) (sym (kinds_joined (kept_of m.groups) more)) ∙ e))
        ];
  }

  groups_there : GroupsBelow 0 (kept_of m.groups ++ more)
  groups_there = groups_joined (kept_of m.groups) more 0 (kept_are carries m.groups below).below (subst (λ (k : ℕ). GroupsBelow k more) (let e : length front ≡ 0 + length front = omega arith in e) behind.below)

pub none_behind : ParsingCarriesSame → NoneStandBehind
none_behind carries features counted m below = record { below = tt; own = own_again carries m.groups below; others = λ k kind e. absurd cc }

pub types_merged : ParsingCarriesSame → TypesAreMerged
types_merged carries place features counted more m below behind = (in_order carries place features counted more m below behind, groups_there carries place features counted more m below behind)

pub modules_merged : TypesAreMerged → NormalModulesAreRuled → BlockTypesAreTheirPicks → MergedModulesAreRuled
modules_merged merged normal picked place features counted more m plain h behind =
    let types = merged place features counted more m h.groups behind in
    let order = types.0 in
    (normal place features counted (at (ids_of m.groups)) (kept_of m.groups ++ more) m order.retypes types.1 plain h, picked place features counted (at (ids_of m.groups)) (kept_of m.groups ++ more) m order h)
