-- Lemmas: among the types of a file, a table finds the one that the grammar picks.
use Rattle.std.proofs.Common.{◌≡◌, ◌∙◌, ◌<◌, ◌≤◌, ℕ, zero, suc, ◌+◌, Bool, true, false, ◌⊎◌, inl, inr, List, [], ◌∷◌, length, map, refl, sym, ap, subst, arith, if◌then◌else◌}
use Rattle.std.proofs.lemmas.Bool.{cases_lt, lt-ltb, le-ltb, eqb-true, eq-eqb, and_parts, and_from}
use Rattle.std.proofs.lemmas.List.Folds.{Any-from_list_any, list_any_at}
use Rattle.std.proofs.lemmas.List.FromFn.{length-range_with_len, get_or-range_with_len}
use Rattle.std.proofs.lemmas.Option.{slice_get_within}
use Rattle.std.specs.Prelude.{Option, Some, None, MatchOption, slice_get, slice_index_or, not, ◌&&◌, ◌==◌}
use Rattle.std.specs.List.{Any, list_any, range_with_len}
use Rattle.std.specs.Option.{option_map}
use Rattle.walrus_forms.specs.declared.value.ValType.{ValType}
use Rattle.walrus_forms.specs.Kinds.{Kind, function_kind}
use Rattle.walrus_forms.specs.Renaming.{at, renamed_value, renamed_kind}
use Rattle.walrus_forms.specs.Same.{same_kind}
use Rattle.walrus_forms.proofs.EqLemmas.{same-kind-law}
use Rattle.walrus_types.specs.Items.{Item}
use Rattle.walrus_types.specs.Table.{Table, type_at, latest_id}
use Rattle.walrus_types.specs.TypeLaws.{IsLatest, FindsLatest}
use Rattle.walrus_body_env.specs.walrus_instr.declared.seq.InstrSeqType.TheVariants.{MultiValue}
use Rattle.walrus_functions_into.specs.walrus_collections.walrus_local_function.walrus_body_locals.wasm_body_grammar.Rules.{serves, leads, latest_from, found_in}
use Rattle.walrus_module_env.specs.Env.{if_own, own_found}
use Rattle.walrus_module_env.specs.Filled.{IsTypeAt, AreFiled}

pub some_is : {X : Type 0} (x y : X) → Some x ≡ Some y → x ≡ y
some_is x y e = cc

pub none_some : {X P : Type 0} (y : X) → (let none : Option X = None in none ≡ Some y) → P
none_some y e = absurd cc

true_false : {P : Type 0} (b : Bool) → b ≡ true → b ≡ false → P
true_false b t f = absurd cc

pub item_in : {X : Type 0} (xs : List X) (i : ℕ) → i < length xs → (x : X) × (slice_get xs i ≡ Some x)
item_in [] i lt = absurd (omega (arith, lt))
item_in (x ∷ xs) zero lt = (x, refl)
item_in (x ∷ xs) (suc i) lt = item_in xs i (omega (arith, lt))

pub at_index : (ids : List ℕ) (i : ℕ) → i < length ids → slice_get ids i ≡ Some (at ids i)
at_index [] i lt = absurd (omega (arith, lt))
at_index (id ∷ ids) zero lt = refl
at_index (id ∷ ids) (suc i) lt = at_index ids i (omega (arith, lt))

-- ---- the first type of those that stand for one leads

module _ (same : ℕ → ℕ) where
  abbrev earlier : ℕ → ℕ → Bool
  earlier n m = same m == same n

  leads_alone : (n m : ℕ) → leads same n ≡ true → m < n → same m ≡ same n → ⊥
  leads_alone n m leading lt alike = go (list_any (earlier n) (range_with_len 0 n)) (list_any_at (earlier n) (range_with_len 0 n) m m size (ap (earlier n) is ∙ eq-eqb (same m) (same n) alike)) leading
    where
      size : m < length (range_with_len 0 n)
      size = let l = length-range_with_len 0 n in omega (arith, lt, l)

      is : slice_index_or (range_with_len 0 n) m m ≡ m
      is = let e = get_or-range_with_len 0 n m m lt in omega (arith, e)

      go : (b : Bool) → b ≡ true → not b ≡ true → ⊥
      go true e f = absurd cc
      go false e f = absurd cc

  -- one that leads stands for what this one stands for
  record Leader (m : ℕ) : Type 0 where
    first : ℕ
    before : first ≤ m
    alike : same first ≡ same m
    leading : leads same first ≡ true

  leader : (b m : ℕ) → m < b → Leader m
  leader zero m lt = absurd (omega (arith, lt))
  leader (suc b) m lt = go (λ x less. leader b x less) (list_any (earlier m) (range_with_len 0 m)) refl
    where
      go : ((x : ℕ) → x < b → Leader x) → (any : Bool) → list_any (earlier m) (range_with_len 0 m) ≡ any → Leader m
      go below false e = record { first = m; before = omega arith; alike = refl; leading = ap not e }
      go below true e =
          let (k, x, within, is, passes) : Any (λ x. earlier m x ≡ true) (range_with_len 0 m) = Any-from_list_any (earlier m) (range_with_len 0 m) e in
          let size = length-range_with_len 0 m in
          let value = get_or-range_with_len 0 m k x (omega (arith, within, size)) in
          let less : x < m = omega (arith, within, size, is, value) in
          let l = below x (omega (arith, less, lt)) in
          let low = l.before in
          record { first = l.first; before = omega (arith, low, less); alike = l.alike ∙ eqb-true (same x) (same m) passes; leading = l.leading }

-- ---- the latest type that passes a test

module _ (test : ℕ → Kind → Bool) (whole : List Kind) where
  abbrev Passes : ℕ → Type 0
  Passes index = (kind : Kind) × (slice_get whole index ≡ Some kind) × (test index kind ≡ true)

  -- none of these passes
  abbrev Fail : ℕ → ℕ → Type 0
  Fail low high = (i : ℕ) (kind : Kind) → low ≤ i → i < high → slice_get whole i ≡ Some kind → test i kind ≡ false

  -- the last of so many that passes
  abbrev IsLast : ℕ → Option ℕ → Type 0
  IsLast n None = Fail 0 n
  IsLast n (Some index) = Passes index × Fail (index + 1) n

  fail_more : (low n : ℕ) (kind : Kind) → slice_get whole n ≡ Some kind → test n kind ≡ false → Fail low n → Fail low (n + 1)
  fail_more low n kind there fails h i other le lt at = go (cases_lt i n)
    where
      go : (i < n) ⊎ (n ≤ i) → test i other ≡ false
      go (inl less) = h i other le less at
      go (inr more) =
          let e : n ≡ i = omega (arith, more, lt) in
          subst (λ (k : ℕ). slice_get whole k ≡ Some other → test k other ≡ false) e (λ f. ap (test n) (some_is other kind (sym f ∙ there)) ∙ fails) at

  last_more : (n : ℕ) (kind : Kind) (found : Option ℕ) → slice_get whole n ≡ Some kind → IsLast n found → (b : Bool) → test n kind ≡ b → IsLast (n + 1) (if b then Some n else found)
  last_more n kind found there h true e = ((kind, there, e), λ i other le lt at. absurd (omega (arith, le, lt)))
  last_more n kind None there h false e = fail_more 0 n kind there e h
  last_more n kind (Some index) there h false e = (h.0, fail_more (index + 1) n kind there e h.1)

  last_from : (rest : List Kind) (n : ℕ) (found : Option ℕ) → ((k : ℕ) → slice_get rest k ≡ slice_get whole (k + n)) → IsLast n found → IsLast (n + length rest) (latest_from test n found rest)
  last_from [] n found same h = subst (λ (m : ℕ). IsLast m found) (let e : n ≡ n + 0 = omega arith in e) h
  last_from (kind ∷ rest) n found same h =
      subst (λ (m : ℕ). IsLast m (latest_from test n found (kind ∷ rest))) (let e : n + 1 + length rest ≡ n + suc (length rest) = omega arith in e)
      (last_from rest (n + 1) (if test n kind then Some n else found) (λ k. same (suc k) ∙ ap (slice_get whole) (let e : suc k + n ≡ k + (n + 1) = omega arith in e))
      (last_more n kind found (sym (same 0 ∙ ap (slice_get whole) (let e : 0 + n ≡ n = omega arith in e))) h (test n kind) refl))

  is_last : IsLast (0 + length whole) (latest_from test 0 None whole)
  is_last = last_from whole 0 None (λ k. ap (slice_get whole) (let e : k ≡ k + 0 = omega arith in e)) (λ i kind le lt at. absurd (omega (arith, lt)))

-- ---- among the types of a file, and in the table

module _ (kinds : List Kind) (ids : List ℕ) (own : ℕ) (t : Table) (h : AreFiled kinds ids own t) (params results : List ValType) where
  abbrev wanted : Kind
  wanted = renamed_kind (at ids) (function_kind params results)

  abbrev test : ℕ × Item → Bool
  test e = same_kind e.1.kind wanted

  abbrev serving : Kind → Bool
  serving kind = serves (at ids) params results kind

  abbrev leading : ℕ → Kind → Bool
  leading n kind = leads (at ids) n && serving kind

  -- a type that serves
  serves_so : (index : ℕ) (kind : Kind) → slice_get kinds index ≡ Some kind → serving kind ≡ true → (s : IsTypeAt ids own t index kind) × (s.item.kind ≡ wanted)
  serves_so index kind there passes = let s = h.stand index kind there in (s, s.kind_is ∙ (same-kind-law (renamed_kind (at ids) kind) wanted).0 passes)

  id_is : (index id : ℕ) → slice_get ids index ≡ Some id → at ids index ≡ id
  id_is index id named = some_is (at ids index) id (sym (at_index ids index (slice_get_within ids index id named)) ∙ named)

  -- a type of the file of this kind serves, by the first of its indices
  record First (id : ℕ) : Type 0 where
    index : ℕ
    kind : Kind
    there : slice_get kinds index ≡ Some kind
    named : slice_get ids index ≡ Some id
    passes : leading index kind ≡ true

  first_so : (id : ℕ) (item : Item) → type_at t id ≡ Some item → item.kind ≡ wanted → (index : ℕ) (kind : Kind) → slice_get kinds index ≡ Some kind → IsTypeAt ids own t index kind
      → at ids index ≡ id → leads (at ids) index ≡ true → First id
  first_so id item live is index kind there s alike leads =
      let one : s.id ≡ id = sym (id_is index s.id s.named) ∙ alike in
      let same : s.item ≡ item = some_is s.item item (sym s.live ∙ ap (type_at t) one ∙ live) in
      record {
        index = index;
        kind = kind;
        there = there;
        named = s.named ∙ ap (λ (n : ℕ). Some n) one;
        passes = and_from _ (serving kind) leads ((same-kind-law (renamed_kind (at ids) kind) wanted).1 (sym s.kind_is ∙ ap (λ (x : Item). x.kind) same ∙ is));
      }

  first_of : (id : ℕ) (item : Item) → id < own → type_at t id ≡ Some item → item.kind ≡ wanted → First id
  first_of id item lt live is = go (h.only id item lt live)
    where
      of_kind : (index : ℕ) → at ids index ≡ id → leads (at ids) index ≡ true → (x : Kind) × (slice_get kinds index ≡ Some x) → First id
      of_kind index alike leads (kind, there) = first_so id item live is index kind there (h.stand index kind there) alike leads

      led : (n : ℕ) → slice_get ids n ≡ Some id → Leader (at ids) n → First id
      led n named l =
          let within = slice_get_within ids n id named in
          let size = h.sized in
          let low = l.before in
          of_kind l.first (l.alike ∙ id_is n id named) l.leading (item_in kinds l.first (omega (arith, within, size, low)))

      go : (n : ℕ) × (slice_get ids n ≡ Some id) → First id
      go (n, named) = led n named (leader (at ids) (n + 1) n (omega arith))

  abbrev Found : Option ℕ → Type 0
  Found o = MatchOption o ((id : ℕ) (item : Item) → type_at t id ≡ Some item → test (id, item) ≡ false) (IsLatest test t)

  -- what leads and serves has an id of the file's own that passes
  served : (index : ℕ) → Passes leading kinds index → (kind : Kind) × (s : IsTypeAt ids own t index kind) × (s.item.kind ≡ wanted) × (leads (at ids) index ≡ true)
  served index (kind, there, passes) =
      let parts = and_parts (leads (at ids) index) (serving kind) passes in
      let s = serves_so index kind there parts.1 in
      (kind, s.0, s.1, parts.0)

  abbrev Agree : Option ℕ → Option ℕ → Type 0
  Agree o l = if_own own (option_map MultiValue o) ≡ option_map (λ n. MultiValue (at ids n)) l

  -- of two types that serve and lead the one of the later id has the later index
  latest_is : (id : ℕ) (last : IsLatest test t id) → First id → (index : ℕ) → IsLast leading kinds (0 + length kinds) (Some index) → at ids index ≡ id
  latest_is id last f index (passes, fail) = go (cases_lt x id) (cases_lt index f.index)
    where
      v : (kind : Kind) × (s : IsTypeAt ids own t index kind) × (s.item.kind ≡ wanted) × (leads (at ids) index ≡ true)
      v = served index passes

      x : ℕ
      x = v.1.id

      here : at ids index ≡ x
      here = id_is index x v.1.named

      no_later : id < x → ⊥
      no_later lt = true_false (test (x, v.1.item)) ((same-kind-law v.1.item.kind wanted).1 v.2) (last.latest x v.1.item lt v.1.live)

      apart : f.index < index → (id < x) ⊎ ((k : ℕ) × (k < index) × (slice_get ids k ≡ Some x)) → at ids index ≡ id
      apart less (inl later) = absurd (no_later later)
      apart less (inr (k, before, named)) = absurd (leads_alone (at ids) index k v.3 before (id_is k x named ∙ sym here))

      lower : f.index ≤ index → (f.index < index) ⊎ (index ≤ f.index) → at ids index ≡ id
      lower low (inl less) = apart less (h.rising f.index index id x less f.named v.1.named)
      lower low (inr le) = let e : index ≡ f.index = omega (arith, le, low) in ap (at ids) e ∙ id_is f.index id f.named

      go : (x < id) ⊎ (id ≤ x) → (index < f.index) ⊎ (f.index ≤ index) → at ids index ≡ id
      go (inr le) later = here ∙ eq (cases_lt id x)
        where
          eq : (id < x) ⊎ (x ≤ id) → x ≡ id
          eq (inl lt) = absurd (no_later lt)
          eq (inr more) = omega (arith, le, more)
      go (inl lt) (inl later) = let within = slice_get_within kinds f.index f.kind f.there in true_false (leading f.index f.kind) f.passes (fail f.index f.kind (omega (arith, later)) (omega (arith, within)) f.there)
      go (inl lt) (inr le) = lower le (cases_lt f.index index)

  agree : (o : Option ℕ) → Found o → (l : Option ℕ) → IsLast leading kinds (0 + length kinds) l → Agree o l
  agree None none None e = refl
  agree None none (Some index) e =
      let v = served index e.0 in
      true_false (test (v.1.id, v.1.item)) ((same-kind-law v.1.item.kind wanted).1 v.2) (none v.1.id v.1.item v.1.live)
  agree (Some id) last l e = go (cases_lt id own)
    where
      is : last.item.kind ≡ wanted
      is = (same-kind-law last.item.kind wanted).0 last.passes

      among : First id → (l : Option ℕ) → IsLast leading kinds (0 + length kinds) l → Some (MultiValue id) ≡ option_map (λ n. MultiValue (at ids n)) l
      among f None e = let within = slice_get_within kinds f.index f.kind f.there in true_false (leading f.index f.kind) f.passes (e f.index f.kind (omega arith) (omega (arith, within)) f.there)
      among f (Some index) e = ap (λ (n : ℕ). Some (MultiValue n)) (sym (latest_is id last f index e))

      behind : own ≤ id → (l : Option ℕ) → IsLast leading kinds (0 + length kinds) l → None ≡ option_map (λ n. MultiValue (at ids n)) l
      behind le None e = refl
      behind le (Some index) e =
          let v = served index e.0 in
          absurd (h.apart v.1.id id v.1.item last.item v.1.owned le v.1.live last.live (v.2 ∙ sym is))

      go : (id < own) ⊎ (own ≤ id) → Agree (Some id) l
      go (inl lt) = rw (lt-ltb id own lt) (among (first_of id last.item lt last.live is) l e)
      go (inr le) = rw (le-ltb id own le) (behind le l e)

  -- what the table finds among the file's own types is the id of the type that is found in the file
  pub finds_own : FindsLatest test t → own_found own t (map (renamed_value (at ids)) params) (map (renamed_value (at ids)) results) ≡ option_map (λ n. MultiValue (at ids n)) (found_in (at ids) params results kinds)
  finds_own finds = agree (latest_id test t) finds (found_in (at ids) params results kinds) (is_last leading kinds)

  -- what is found has the parameters and results that were looked for
  pub found_serves : (P : Option ℕ → Type 0) → P None → ((index : ℕ) (kind : Kind) → slice_get kinds index ≡ Some kind → renamed_kind (at ids) kind ≡ wanted → P (Some index)) → P (found_in (at ids) params results kinds)
  found_serves P none some = go (found_in (at ids) params results kinds) (is_last leading kinds)
    where
      go : (l : Option ℕ) → IsLast leading kinds (0 + length kinds) l → P l
      go None p = none
      go (Some index) ((kind, there, passes), fail) = some index kind there ((same-kind-law (renamed_kind (at ids) kind) wanted).0 (and_parts (leads (at ids) index) (serving kind) passes).1)
