-- Lemmas: single types of new kinds stand behind merged types.
use Rattle.std.specs.Prelude.{ℕ, zero, suc, ◌≡◌, ◌<◌, ◌+◌, ◌&&◌, Bool, true, false, List, [], ◌∷◌, ◌++◌, length, map, Option, Some, None, slice_get, slice_index_or, refl, if◌then◌else◌}
use Rattle.std.specs.List.{range_with_len}
use Rattle.std.specs.Option.{is_some, option_map}
use Rattle.std.proofs.Common.{ap, sym, ◌∙◌, subst, arith}
use Rattle.std.proofs.lemmas.Bool.{and_parts}
use Rattle.std.proofs.lemmas.List.{append-nil, append_assoc, length-append}
use Rattle.walrus_forms.proofs.RenamingLemmas.{In, kinds-agree, kinds-below, kinds-names, of-mapped}
use Rattle.walrus_forms.specs.Kinds.{Kind, function_kind, kind_names}
use Rattle.walrus_forms.specs.Records.{TypeGroup}
use Rattle.walrus_forms.specs.Renaming.{KindBelow, at, renamed_kind, renamed_value}
use Rattle.walrus_forms.specs.Same.{SameKindIsEquality, same_kind}
use Rattle.walrus_forms.specs.declared.value.ValType.{ValType}
use Rattle.walrus_types.proofs.ParseLemmas.{parsed-append}
use Rattle.walrus_types.specs.Mergers.{ParsingCarriesSame}
use Rattle.walrus_types.specs.Parsing.{Parsed, known_ids, merged, parsed, parsed_group, unparsed, with_group}
use Rattle.walrus_types.specs.Table.{Table, equal_type, latest_in, merges, names_itself, next_id}
use Rattle.walrus_types.specs.walrus_items.Items.{Item}
use Rattle.walrus_types.specs.walrus_items.walrus_arena.Arena.{entries_from}
use Rattle.wasm_normal_modules.proofs.Reading.{kind_own}
use Rattle.wasm_normal_modules.proofs.Slots.{slot_sent}
use Rattle.wasm_normal_modules.specs.wasm_ruled_renamed.wasm_ruled_normal.wasm_ruled_modules.Rules.{AreBelow, GroupsBelow, around_bodies}
use Rattle.wasm_normal_modules.specs.wasm_ruled_renamed.wasm_ruled_normal.wasm_ruled_modules.wasm_module_rules.wasm_modules.wasm_body_grammar.Rules.{Around, found_in, leads, serves}
use Rattle.wasm_normal_modules.specs.wasm_ruled_renamed.wasm_ruled_normal.wasm_ruled_modules.wasm_module_rules.wasm_modules.wasm_body_grammar.wasm_formats.wasm_features.declared.WasmFeatures.{WasmFeatures}
use Rattle.wasm_normal_modules.specs.wasm_ruled_renamed.wasm_ruled_normal.wasm_ruled_modules.wasm_module_rules.wasm_modules.wasm_body_grammar.wasm_grammar.Modules.{Module}
use Rattle.wasm_normal_modules.specs.wasm_ruled_renamed.wasm_ruled_normal.wasm_ruled_modules.wasm_module_rules.wasm_modules.wasm_body_grammar.wasm_grammar.States.{types_of}
use Rattle.wasm_normal_modules.proofs.wasm_ruled_renamed.wasm_ruled_normal.Picks.{all_at, latest_has, types_below}
use Rattle.wasm_merged_modules.proofs.Groups.{group_seen, seen, somes}
use Rattle.wasm_merged_modules.proofs.Merged.{get_left, kept_are, kept_many, kind_there, kinds_joined, many, orderly, somes_at}
use Rattle.wasm_merged_modules.proofs.Orders.{at_range, range_joined}
use Rattle.wasm_merged_modules.proofs.SentKinds.{kinds_sent}
use Rattle.wasm_merged_modules.specs.Merged.{AreNew, NewKindsStandBehind, StandBehind, ids_of, kept_of, kinds_of, merged_types, new_table, single}

some_is : (a b : Kind) → (let some : Kind → Option Kind = λ k. Some k in some a ≡ some b) → a ≡ b
some_is a b e = cc

somes_joined : (xs ys : List Kind) → somes (xs ++ ys) ≡ somes xs ++ somes ys
somes_joined [] ys = refl
somes_joined (x ∷ xs) ys = ap (λ (l : List (Option Kind)). Some x ∷ l) (somes_joined xs ys)

-- ---- a new kind is found nowhere

not_same : (is : SameKindIsEquality) (k : Kind) (x : Item) (b : Bool) → (x.kind ≡ k → ⊥) → (same_kind x.kind k && b) ≡ false
not_same is k x b other = go (same_kind x.kind k) refl
  where
    go : (c : Bool) → same_kind x.kind k ≡ c → (c && b) ≡ false
    go true e = absurd (other ((is x.kind k).0 e))
    go false e = refl

none_equal : (is : SameKindIsEquality) (k : Kind) (slots : List (Option Item)) (id : ℕ) → ((n : ℕ) (x : Item) → slice_index_or slots n None ≡ Some x → x.kind ≡ k → ⊥) → latest_in (merges k) None (entries_from id slots) ≡ None
none_equal is k [] id h = refl
none_equal is k (None ∷ slots) id h = none_equal is k slots (id + 1) (λ n x e. h (suc n) x e)
none_equal is k (Some x ∷ slots) id h =
    ap (λ (b : Bool). latest_in (merges k) (if b then Some id else None) (entries_from (id + 1) slots)) (not_same is k x _ (h 0 x refl)) ∙ none_equal is k slots (id + 1) (λ n y e. h (suc n) y e)

none_found : (is : SameKindIsEquality) (k : Kind) (t : Table) → ((n : ℕ) (x : Item) → slice_index_or t.types n None ≡ Some x → x.kind ≡ k → ⊥) → equal_type k t ≡ None
none_found is k t h = go (names_itself (next_id t) k)
  where
    go : (b : Bool) → (if b then None else latest_in (merges k) None (entries_from 0 t.types)) ≡ None
    go true = refl
    go false = none_equal is k t.types 0 h

-- ---- one after another

-- a state in which each type has its own id, and these kinds
pub record AreOwn (there : List Kind) (s : Parsed) : Type 0 where
  pub ids_are : s.ids ≡ range_with_len 0 (length there)
  pub next_is : next_id s.table ≡ length there
  pub seen_is : seen s.table ≡ somes there

module _ (is : SameKindIsEquality) (there : List Kind) (s : Parsed) (h : AreOwn there s) (k : Kind) (below : KindBelow (length there) k) (new : (n : ℕ) → slice_get there n ≡ Some k → ⊥) where
  known : known_ids (single k) s ≡ range_with_len 0 (length there + 1)
  known =
      ap (λ (l : List ℕ). l ++ range_with_len (next_id s.table) 1) h.ids_are
      ∙ ap (λ (n : ℕ). range_with_len 0 (length there) ++ range_with_len n 1) (h.next_is ∙ (let e : length there ≡ 0 + length there = omega arith in e)) ∙ range_joined 0 (length there) 1

  stays : renamed_kind (at (known_ids (single k) s)) k ≡ k
  stays =
      kinds-agree (at (known_ids (single k) s)) (λ n. n) k
      (λ n i. (let lt = kinds-below k (length there) below n i in ap (λ (l : List ℕ). at l n) known ∙ at_range 0 (length there + 1) n (omega (arith, lt)) ∙ (let e : 0 + n ≡ n = omega arith in e))) ∙ kind_own k

  kind_at : (n : ℕ) (x : Item) → slice_index_or s.table.types n None ≡ Some x → slice_get there n ≡ Some x.kind
  kind_at n x e =
      sym (somes_at there n) ∙ ap (λ (l : List (Option Kind)). slice_index_or l n None) (sym h.seen_is) ∙ slot_sent (λ (i : Item). i.kind) s.table.types n ∙ ap (option_map (λ (i : Item). i.kind)) e

  unfound : equal_type k s.table ≡ None
  unfound = none_found is k s.table (λ n x e same. new n (kind_at n x e ∙ ap (λ (j : Kind). Some j) same))

  put : parsed_group (single k) s ≡ record { ids = s.ids ++ next_id s.table ∷ []; table = with_group false (k ∷ []) s.table }
  put = ap (λ (j : Kind). merged (equal_type j s.table) j s) stays ∙ ap (λ (o : Option ℕ). merged o k s) unfound

  many_there : length (there ++ k ∷ []) ≡ length there + 1
  many_there = length-append there (k ∷ [])

  pub own_more : AreOwn (there ++ k ∷ []) (parsed_group (single k) s)
  own_more = record {
    ids_are =
        ap (λ (t : Parsed). t.ids) put ∙ ap (λ (l : List ℕ). l ++ next_id s.table ∷ []) h.ids_are
        ∙ ap (λ (n : ℕ). range_with_len 0 (length there) ++ range_with_len n 1) (h.next_is ∙ (let e : length there ≡ 0 + length there = omega arith in e)) ∙ range_joined 0 (length there) 1
        ∙ sym (ap (range_with_len 0) many_there);
    next_is = ap (λ (t : Parsed). next_id t.table) put ∙ length-append s.table.types _ ∙ ap (λ (n : ℕ). n + 1) h.next_is ∙ sym many_there;
    seen_is =
        ap (λ (t : Parsed). seen t.table) put ∙ group_seen false (k ∷ []) s.table ∙ ap (λ (l : List (Option Kind)). l ++ Some k ∷ []) h.seen_is ∙ sym (somes_joined there (k ∷ []));
  }

all_own : (is : SameKindIsEquality) (kinds there : List Kind) (s : Parsed) → AreOwn there s → AreNew there kinds → AreOwn (there ++ kinds) (parsed (map single kinds) s)
all_own is [] there s h new = subst (λ (l : List Kind). AreOwn l s) (sym (append-nil there)) h
all_own is (k ∷ kinds) there s h new =
    subst (λ (l : List Kind). AreOwn l (parsed (map single kinds) (parsed_group (single k) s))) (append_assoc there (k ∷ []) kinds)
    (all_own is kinds (there ++ k ∷ []) (parsed_group (single k) s) (own_more is there s h k new.0 new.1) new.2)

-- ---- what is new

singles : (kinds : List Kind) → kinds_of (map single kinds) ≡ kinds
singles [] = refl
singles (k ∷ kinds) = ap (λ (l : List Kind). k ∷ l) (singles kinds)

new_apart : (kinds there : List Kind) → AreNew there kinds → (j : ℕ) (kind : Kind) → slice_get kinds j ≡ Some kind → (n : ℕ) → slice_get there n ≡ Some kind → ⊥
new_apart [] there new j kind e n at_n = absurd cc
new_apart (k ∷ kinds) there new zero kind e n at_n = new.1 n (at_n ∙ sym e)
new_apart (k ∷ kinds) there new (suc j) kind e n at_n = new_apart kinds (there ++ k ∷ []) new.2 j kind e n (get_left there (k ∷ []) n kind at_n)

pub wider : (k : Kind) (n : ℕ) → KindBelow n k → AreBelow (n + 1) (k ∷ [])
wider k n h = subst (λ (l : List Kind). AreBelow (n + 1) l) (ap (λ (j : Kind). j ∷ []) (kind_own k)) (kinds_sent (λ m. m) n (n + 1) (λ m lt. omega (arith, lt)) (k ∷ []) (h, tt))

new_below : (kinds there : List Kind) → AreNew there kinds → GroupsBelow (length there) (map single kinds)
new_below [] there new = tt
new_below (k ∷ kinds) there new =
    (wider k (length there) new.0, subst (λ (n : ℕ). GroupsBelow n (map single kinds)) (length-append there (k ∷ [])) (new_below kinds (there ++ k ∷ []) new.2))

new_names : (kinds there : List Kind) → AreNew there kinds → (j : ℕ) (kind : Kind) → slice_get kinds j ≡ Some kind → (n : ℕ) → In n (kind_names kind) → n < length there + length kinds
new_names [] there new j kind e n i = absurd cc
new_names (k ∷ kinds) there new zero kind e n i =
    let same : kind ≡ k = some_is kind k (sym e) in
    let lt = kinds-below k (length there) new.0 n (subst (λ (x : Kind). In n (kind_names x)) same i) in omega (arith, lt)
new_names (k ∷ kinds) there new (suc j) kind e n i =
    let lt = new_names kinds (there ++ k ∷ []) new.2 j kind e n i in let size = length-append there (k ∷ []) in omega (arith, lt, size)

-- ---- they stand behind

module _ (carries : ParsingCarriesSame) (is : SameKindIsEquality) (features : WasmFeatures) (counted : Bool) (m : Module) (kinds : List Kind) (below : GroupsBelow 0 m.groups) (new : AreNew (kinds_of (kept_of m.groups)) kinds) where
  abbrev a : Around
  a = around_bodies features counted m

  abbrev front : List Kind
  front = kinds_of (kept_of m.groups)

  abbrev sent : ℕ → ℕ
  sent = at (ids_of m.groups)

  abbrev all : List TypeGroup
  all = kept_of m.groups ++ map single kinds

  abbrev there : ℕ → ℕ
  there = at (ids_of all)

  abbrev table_there : Table
  table_there = (merged_types m.groups).table

  first : AreOwn front (parsed (kept_of m.groups) (unparsed new_table))
  first =
      let kept = kept_are carries m.groups below in
      let again = kept.again (unparsed new_table) refl refl in
      let size = kept_many carries m.groups below in record {
        ids_are = ap (λ (t : Parsed). t.ids) again ∙ ap (range_with_len 0) size;
        next_is = ap (λ (t : Parsed). next_id t.table) again ∙ size;
        seen_is = ap (λ (t : Parsed). seen t.table) again ∙ kept.seen_are;
      }

  last : AreOwn (front ++ kinds) (parsed all (unparsed new_table))
  last = subst (AreOwn (front ++ kinds)) (sym (parsed-append (kept_of m.groups) (map single kinds) (unparsed new_table))) (all_own is kinds front (parsed (kept_of m.groups) (unparsed new_table)) first new)

  all_kinds : kinds_of all ≡ front ++ kinds
  all_kinds = kinds_joined (kept_of m.groups) (map single kinds) ∙ ap (λ (l : List Kind). front ++ l) (singles kinds)

  own_there : (k : ℕ) → k < length (front ++ kinds) → there k ≡ k
  own_there k lt = ap (λ (l : List ℕ). at l k) last.ids_are ∙ at_range 0 (length (front ++ kinds)) k lt ∙ (let e : 0 + k ≡ k = omega arith in e)

  both_many : length (front ++ kinds) ≡ length front + length kinds
  both_many = length-append front kinds

  -- what names types that are there is as it was
  kind_stays : (kind : Kind) → ((n : ℕ) → In n (kind_names kind) → n < length (front ++ kinds)) → renamed_kind there kind ≡ kind
  kind_stays kind names = kinds-agree there (λ n. n) kind (λ n i. own_there n (names n i)) ∙ kind_own kind

  sent_names : (n : ℕ) (kind : Kind) → slice_get (types_of a.filled) n ≡ Some kind → (k : ℕ) → In k (kind_names (renamed_kind sent kind)) → k < length (front ++ kinds)
  sent_names n kind at_n k i =
      let own = all_at (λ (x : Kind). (j : ℕ) → In j (kind_names x) → j < length (types_of a.filled)) (types_of a.filled) n kind (types_below a below) at_n in
      let named = of-mapped sent (kind_names kind) k (subst (In k) (kinds-names sent kind) i) in
      let lt = own named.0 named.1 in
      let here = (orderly carries m.groups below).below named.0 (omega (arith, lt, many carries m.groups below)) in
      let end = kept_many carries m.groups below in
      let same = named.2 in omega (arith, here, end, same, both_many)

  -- none of them serves what a type of the file does
  clash : (j : ℕ) (kind : Kind) → slice_get kinds j ≡ Some kind → (params results : List ValType) → (n : ℕ) (own : Kind) → slice_get (types_of a.filled) n ≡ Some own → serves a.same params results own ≡ true
      → serves there (map (renamed_value sent) params) (map (renamed_value sent) results) kind ≡ true → ⊥
  clash j kind at_j params results n own at_n here e =
      let own_is : renamed_kind sent own ≡ function_kind (map (renamed_value sent) params) (map (renamed_value sent) results) = (is (renamed_kind sent own) (renamed_kind sent (function_kind params results))).0 here in
      let kind_is : renamed_kind there kind ≡ renamed_kind there (function_kind (map (renamed_value sent) params) (map (renamed_value sent) results)) =
      (is (renamed_kind there kind) (renamed_kind there (function_kind (map (renamed_value sent) params) (map (renamed_value sent) results)))).0 e in
      let same : kind ≡ renamed_kind sent own =
      sym (kind_stays kind (λ k i. (let lt = new_names kinds front new j kind at_j k i in omega (arith, lt, both_many)))) ∙ kind_is ∙ sym (ap (renamed_kind there) own_is) ∙ kind_stays (renamed_kind sent own) (sent_names n own at_n) in
      new_apart kinds front new j kind at_j (sent n) (kind_there carries m.groups below n own at_n ∙ ap (λ (x : Kind). Some x) (sym same))

  none_serves : (j : ℕ) (kind : Kind) → slice_get kinds j ≡ Some kind → (params results : List ValType) → is_some (found_in a.same params results (types_of a.filled)) ≡ true
      → serves there (map (renamed_value sent) params) (map (renamed_value sent) results) kind ≡ true → ⊥
  none_serves j kind at_j params results found e =
      latest_has (λ n kind. leads a.same n && serves a.same params results kind) (types_of a.filled) (λ o. is_some o ≡ true → ⊥)
      (λ n own at_n passes _. clash j kind at_j params results n own at_n (and_parts (leads a.same n) (serves a.same params results own) passes).1 e) (types_of a.filled) 0 None
      (λ k. ap (slice_get (types_of a.filled)) (let e : k ≡ k + 0 = omega arith in e)) (λ none. absurd cc) found

  stand : StandBehind a (map single kinds)
  stand = record {
    below = new_below kinds front new;
    own = λ k lt. own_there k (subst (λ (l : List Kind). k < length l) all_kinds lt);
    others = λ j kind e params results found serving. none_serves j kind (ap (λ (l : List Kind). slice_get l j) (sym (singles kinds)) ∙ e) params results found serving;
  }

pub new_behind : ParsingCarriesSame → SameKindIsEquality → NewKindsStandBehind
new_behind carries is features counted m kinds below new = stand carries is features counted m kinds below new
