-- Lemmas: of the locals that are declared some are kept, and numbered by their places among these.
use Rattle.std.specs.Prelude.{ℕ, zero, suc, ◌≡◌, ◌⊎◌, ◌<◌, ◌≤◌, ◌+◌, ◌-◌, ◌==◌, ◌||◌, Bool, true, false, List, [], ◌∷◌, ◌++◌, length, map, nat_lt, replicate, Some, slice_get, slice_index_or, refl, if◌then◌else◌}
use Rattle.std.specs.List.{flat_map, range_with_len}
use Rattle.std.specs.Cmp.{nat_cmp_is}
use Rattle.std.specs.Ordering.{nat_cmp, ordering_then}
use Rattle.std.specs.declared.cmp.Ordering.{Ordering}
use Rattle.std.specs.declared.cmp.Ordering.TheVariants.{Less, Equal, Greater}
use Rattle.std.proofs.Common.{ap, sym, ◌∙◌, subst, arith, inl, inr}
use Rattle.std.proofs.lemmas.Bool.{cases_lt, cases_order, eq-eqb, eqb-true, le-ltb, lt-ltb, ne_eqb}
use Rattle.std.proofs.lemmas.List.{map-append}
use Rattle.walrus_named_bodies.specs.walrus_file_bodies.walrus_body_trees.walrus_body_nesting.wasm_body_grammar.wasm_grammar.Modules as grammar
use Rattle.walrus_named_bodies.specs.walrus_file_bodies.walrus_body_trees.walrus_body_nesting.wasm_body_grammar.wasm_grammar.walrus_forms.declared.value.ValType.{ValType}
use Rattle.walrus_named_bodies.specs.walrus_file_bodies.walrus_body_trees.walrus_body_nesting.wasm_body_grammar.wasm_grammar.walrus_forms.ValueOrder.{value_cmp}
use Rattle.walrus_named_bodies.specs.walrus_file_bodies.walrus_body_trees.walrus_body_nesting.wasm_body_grammar.wasm_operators.Operators.{Seen}
use Rattle.walrus_named_bodies.specs.walrus_file_bodies.walrus_items_into.walrus_module_bodies.walrus_body_trees.walrus_meaning.walrus_local_function.walrus_body_locals.wasm_normal_form.Bodies.{local_in}
use Rattle.walrus_named_bodies.specs.walrus_file_bodies.walrus_items_into.walrus_module_bodies.walrus_body_trees.walrus_meaning.walrus_local_function.walrus_body_locals.wasm_normal_form.Roles.{Placed, placed}
use Rattle.walrus_named_bodies.specs.walrus_file_bodies.walrus_items_into.walrus_module_bodies.walrus_body_trees.walrus_meaning.walrus_local_function.walrus_body_locals.wasm_normal_form.Locals.{Key, in_order, insert_key, is_less, key_cmp, numbered}
use Rattle.walrus_named_bodies.specs.walrus_file_bodies.walrus_items_into.walrus_module_bodies.walrus_body_trees.walrus_meaning.walrus_local_function.walrus_body_locals.Locals.{kept_ids}
use Rattle.walrus_named_bodies.specs.walrus_file_bodies.walrus_items_into.walrus_module_bodies.walrus_body_trees.walrus_meaning.walrus_local_function.walrus_body_locals.Named.{kept_by, kept_of, locals_of, names_local}
use Rattle.walrus_parse_laws.proofs.KeyLemmas.{has, moved, numbers, passing}
use Rattle.walrus_parse_laws.proofs.BodiesNormalLemmas.{all_split}
use Rattle.walrus_parse_laws.proofs.ListLemmas.{AllOf, all_join}
use Rattle.walrus_parse_laws.proofs.LocalsNameLemmas.{Below}

-- ---- how many of those in front of a place are kept

abbrev one : Bool → ℕ
one true = 1
one false = 0

abbrev pub rank : ℕ → List Bool → ℕ
rank zero ks = 0
rank (suc n) [] = 0
rank (suc n) (k ∷ ks) = one k + rank n ks

abbrev pub flag : List Bool → ℕ → Bool
flag ks n = slice_index_or ks n false

no_flag : (n : ℕ) → flag [] n ≡ true → 1 ≤ 0
no_flag zero e = absurd cc
no_flag (suc n) e = absurd cc

pub rank_rises : (ks : List Bool) (m n : ℕ) → m < n → flag ks m ≡ true → rank m ks < rank n ks
rank_rises [] m n lt e = let no = no_flag m e in absurd (omega (arith, no))
rank_rises (k ∷ ks) zero zero lt e = absurd (omega (arith, lt))
rank_rises (k ∷ ks) (suc m) zero lt e = absurd (omega (arith, lt))
rank_rises (k ∷ ks) zero (suc n) lt e = let first : one k ≡ 1 = ap one e in omega (arith, first)
rank_rises (k ∷ ks) (suc m) (suc n) lt e = let h = rank_rises ks m n (omega (arith, lt)) e in omega (arith, h)

-- of two that are kept each has a rank of its own
pub rank_same : (ks : List Bool) (m n : ℕ) → flag ks m ≡ true → flag ks n ≡ true → rank m ks ≡ rank n ks → m ≡ n
rank_same ks m n d e same = elim (cases_order m n) as (λ _. m ≡ n) [
  | inl h ↦ h
  | inr h ↦ elim h as (λ _. m ≡ n) [
    | inl lt ↦ let less = rank_rises ks m n lt d in absurd (omega (arith, same, less))
    | inr gt ↦ let more = rank_rises ks n m gt e in absurd (omega (arith, same, more))
  ]
]

pub flag_below : (ks : List Bool) (n : ℕ) → flag ks n ≡ true → n < length ks
flag_below [] n e = let no = no_flag n e in absurd (omega (arith, no))
flag_below (k ∷ ks) zero e = omega arith
flag_below (k ∷ ks) (suc n) e = let h = flag_below ks n e in omega (arith, h)

pub rank_all : {A : Type 0} (ks : List Bool) (xs : List A) → length ks ≡ length xs → rank (length ks) ks ≡ length (kept_of ks xs)
rank_all [] xs e = refl
rank_all (k ∷ ks) [] e = absurd (omega (arith, e))
rank_all (true ∷ ks) (x ∷ xs) e = let h = rank_all ks xs (omega (arith, e)) in omega (arith, h)
rank_all (false ∷ ks) (x ∷ xs) e = let h = rank_all ks xs (omega (arith, e)) in omega (arith, h)

-- one that is kept has the id of its rank
pub get_kept : (first : ℕ) (ks : List Bool) (n : ℕ) → flag ks n ≡ true → slice_get (kept_ids first ks) n ≡ Some (first + rank n ks)
get_kept first [] n e = let no = no_flag n e in absurd (omega (arith, no))
get_kept first (true ∷ ks) zero e = ap (λ (m : ℕ). Some m) (omega arith)
get_kept first (false ∷ ks) zero e = absurd cc
get_kept first (true ∷ ks) (suc n) e = get_kept (suc first) ks n e ∙ ap (λ (m : ℕ). Some m) (omega arith)
get_kept first (false ∷ ks) (suc n) e = get_kept first ks n e ∙ ap (λ (m : ℕ). Some m) (omega arith)

-- ---- numbers of parameters, and of those that are kept behind them

abbrev pub ranked : ℕ → List Bool → ℕ → ℕ
ranked params ks n = if nat_lt n params then n else params + rank (n - params) ks

abbrev pub IsKept : ℕ → List Bool → ℕ → Type 0
IsKept params ks n = (n < params) ⊎ (flag ks (n - params) ≡ true)

module _ (params : ℕ) (ks : List Bool) where
  abbrev r : ℕ → ℕ
  r = ranked params ks

  pub ranked_param : (n : ℕ) → n < params → r n ≡ n
  ranked_param n lt = ap (λ (b : Bool). if b then n else params + rank (n - params) ks) (lt-ltb n params lt)

  pub ranked_own : (n : ℕ) → params ≤ n → r n ≡ params + rank (n - params) ks
  ranked_own n le = ap (λ (b : Bool). if b then n else params + rank (n - params) ks) (le-ltb n params le)

  pub own_flag : (n : ℕ) → params ≤ n → IsKept params ks n → flag ks (n - params) ≡ true
  own_flag n le (inl lt) = absurd (omega (arith, le, lt))
  own_flag n le (inr e) = e

  kept_less : (m n : ℕ) → IsKept params ks m → m < n → r m < r n
  kept_less m n kept lt = elim (cases_lt m params) as (λ _. r m < r n) [
    | inl front ↦ let a = ranked_param m front in elim (cases_lt n params) as (λ _. r m < r n) [
      | inl both ↦ let b = ranked_param n both in omega (arith, lt, a, b)
      | inr behind ↦ let b = ranked_own n behind in omega (arith, front, a, b)
    ]
    | inr own ↦
        let a = ranked_own m own in
        let b = ranked_own n (omega (arith, own, lt)) in
        let h = rank_rises ks (m - params) (n - params) (omega (arith, own, lt)) (own_flag m own kept) in
        omega (arith, a, b, h)
  ]

  cmp_kept : (m n : ℕ) → IsKept params ks m → IsKept params ks n → nat_cmp (r m) (r n) ≡ nat_cmp m n
  cmp_kept m n km kn = elim (cases_order m n) as (λ _. nat_cmp (r m) (r n) ≡ nat_cmp m n) [
    | inl e ↦ sym (nat_cmp_is (r m) (r n) Equal (ap r e)) ∙ nat_cmp_is m n Equal e
    | inr h ↦ elim h as (λ _. nat_cmp (r m) (r n) ≡ nat_cmp m n) [
      | inl lt ↦ sym (nat_cmp_is (r m) (r n) Less (kept_less m n km lt)) ∙ nat_cmp_is m n Less lt
      | inr gt ↦ sym (nat_cmp_is (r m) (r n) Greater (kept_less n m kn gt)) ∙ nat_cmp_is m n Greater gt
    ]
  ]

  eqb_kept : (m n : ℕ) → IsKept params ks m → IsKept params ks n → (r m == r n) ≡ (m == n)
  eqb_kept m n km kn = elim (cases_order m n) as (λ _. (r m == r n) ≡ (m == n)) [
    | inl e ↦ eq-eqb (r m) (r n) (ap r e) ∙ sym (eq-eqb m n e)
    | inr h ↦ elim h as (λ _. (r m == r n) ≡ (m == n)) [
      | inl lt ↦ let less = kept_less m n km lt in ne_eqb (r m) (r n) (λ e. omega (arith, e, less)) ∙ sym (ne_eqb m n (λ e. omega (arith, e, lt)))
      | inr gt ↦ let more = kept_less n m kn gt in ne_eqb (r m) (r n) (λ e. omega (arith, e, more)) ∙ sym (ne_eqb m n (λ e. omega (arith, e, gt)))
    ]
  ]

  -- ---- names

  has_ranked : (ns : List ℕ) (n : ℕ) → AllOf (IsKept params ks) ns → IsKept params ks n → has (map r ns) (r n) ≡ has ns n
  has_ranked [] n all kept = refl
  has_ranked (m ∷ ns) n all kept = ap (λ (b : Bool). b || has (map r ns) (r n)) (eqb_kept m n all.0 kept) ∙ ap (λ (b : Bool). (m == n) || b) (has_ranked ns n all.1 kept)

  has_kept : (ns : List ℕ) (n : ℕ) → AllOf (IsKept params ks) ns → has ns n ≡ true → IsKept params ks n
  has_kept [] n all e = absurd cc
  has_kept (m ∷ ns) n all e = go (m == n) refl e (has_kept ns n all.1)
    where
      go : (b : Bool) → (m == n) ≡ b → (b || has ns n) ≡ true → (has ns n ≡ true → IsKept params ks n) → IsKept params ks n
      go true same e later = subst (IsKept params ks) (eqb-true m n same) all.0
      go false same e later = later e

  -- ---- keys

  abbrev pub ranked_key : Key → Key
  ranked_key k = (k.0, r k.1)

  abbrev AllKept : List Key → Type 0
  AllKept keys = AllOf (IsKept params ks) (numbers keys)

  insert_kept : (k : Key) (js : List Key) → IsKept params ks k.1 → AllKept js → AllKept (insert_key k js)
  insert_kept k [] kept all = (kept, tt)
  insert_kept k (j ∷ js) kept all = go (is_less (key_cmp j k)) (insert_kept k js kept all.1)
    where
      go : (b : Bool) → AllKept (insert_key k js) → AllKept (if b then j ∷ insert_key k js else k ∷ (j ∷ js))
      go true later = (all.0, later)
      go false later = (kept, all)

  pub order_kept : (js : List Key) → AllKept js → AllKept (in_order js)
  order_kept [] all = tt
  order_kept (j ∷ js) all = insert_kept j (in_order js) all.0 (order_kept js all.1)

  insert_ranked : (k : Key) (js : List Key) → IsKept params ks k.1 → AllKept js → insert_key (ranked_key k) (map ranked_key js) ≡ map ranked_key (insert_key k js)
  insert_ranked k [] kept all = refl
  insert_ranked k (j ∷ js) kept all =
      ap (λ (o : Ordering). if is_less (ordering_then (value_cmp j.0 k.0) o) then ranked_key j ∷ insert_key (ranked_key k) (map ranked_key js) else ranked_key k ∷ (ranked_key j ∷ map ranked_key js))
      (cmp_kept j.1 k.1 all.0 kept)
      ∙ go (is_less (key_cmp j k)) (insert_ranked k js kept all.1)
    where
      go : (b : Bool) → insert_key (ranked_key k) (map ranked_key js) ≡ map ranked_key (insert_key k js)
          → (if b then ranked_key j ∷ insert_key (ranked_key k) (map ranked_key js) else ranked_key k ∷ (ranked_key j ∷ map ranked_key js)) ≡ map ranked_key (if b then j ∷ insert_key k js else k ∷ (j ∷ js))
      go true later = ap (λ (l : List Key). ranked_key j ∷ l) later
      go false later = refl

  order_ranked : (js : List Key) → AllKept js → in_order (map ranked_key js) ≡ map ranked_key (in_order js)
  order_ranked [] all = refl
  order_ranked (j ∷ js) all = ap (insert_key (ranked_key j)) (order_ranked js all.1) ∙ insert_ranked j (in_order js) all.0 (order_kept js all.1)

  pub types_ranked : (js : List Key) → map (λ (k : Key). k.0) (map ranked_key js) ≡ map (λ (k : Key). k.0) js
  types_ranked [] = refl
  types_ranked (j ∷ js) = ap (λ (l : List ValType). j.0 ∷ l) (types_ranked js)

  -- those that are named are kept
  pass_kept : (ns : List ℕ) → AllOf (IsKept params ks) ns → (js : List Key) → AllKept (passing (has ns) js)
  pass_kept ns all [] = tt
  pass_kept ns all (j ∷ js) = go (has ns j.1) refl (pass_kept ns all js)
    where
      go : (b : Bool) → has ns j.1 ≡ b → AllKept (passing (has ns) js) → AllKept (if b then j ∷ passing (has ns) js else passing (has ns) js)
      go true e later = (has_kept ns j.1 all e, later)
      go false e later = later

  pub used_kept : (ns : List ℕ) → AllOf (IsKept params ks) ns → (js : List Key) → AllKept (in_order (passing (has ns) js))
  used_kept ns all js = order_kept (passing (has ns) js) (pass_kept ns all js)

-- ---- which of those that are declared pass, and which of those that are kept

module _ (r : ℕ → ℕ) (new old : ℕ → Bool) where
  abbrev by : Key → Key
  by k = (k.0, r k.1)

  pass_ranked : (ks : List Bool) (tys : List ValType) (from at : ℕ) → length ks ≡ length tys
      → ((i : ℕ) → i < length tys → flag ks i ≡ true → (r (from + i) ≡ at + rank i ks) × (new (r (from + i)) ≡ old (from + i)))
      → ((i : ℕ) → i < length tys → flag ks i ≡ false → old (from + i) ≡ false)
      → passing new (numbered at (kept_of ks tys)) ≡ map by (passing old (numbered from tys))
  pass_ranked [] [] from at e kept others = refl
  pass_ranked [] (ty ∷ tys) from at e kept others = absurd (omega (arith, e))
  pass_ranked (k ∷ ks) [] from at e kept others = absurd (omega (arith, e))
  pass_ranked (true ∷ ks) (ty ∷ tys) from at e kept others =
      let here : from + 0 ≡ from = omega arith in
      let first = kept 0 (omega arith) refl in
      let is : r from ≡ at = ap r (sym here) ∙ first.0 ∙ (let z : at + 0 ≡ at = omega arith in z) in
      let both : new at ≡ old from = ap new (sym is) ∙ ap (λ (n : ℕ). new (r n)) (sym here) ∙ first.1 ∙ ap old here in
      let later = pass_ranked ks tys (suc from) (suc at) (omega (arith, e))
      (λ i lt f.
      let next : suc from + i ≡ from + suc i = omega arith in
      let h = kept (suc i) (omega (arith, lt)) f in (
        ap r next ∙ h.0 ∙ (let z : at + (1 + rank i ks) ≡ suc at + rank i ks = omega arith in z),
        ap (λ (n : ℕ). new (r n)) next ∙ h.1 ∙ ap old (sym next),
      ))
      (λ i lt f. let next : suc from + i ≡ from + suc i = omega arith in ap old next ∙ others (suc i) (omega (arith, lt)) f) in
      ap (λ (b : Bool). if b then (ty, at) ∷ passing new (numbered (suc at) (kept_of ks tys)) else passing new (numbered (suc at) (kept_of ks tys))) both
      ∙ go (old from) is later
    where
      go : (b : Bool) → r from ≡ at → passing new (numbered (suc at) (kept_of ks tys)) ≡ map by (passing old (numbered (suc from) tys))
          → (if b then (ty, at) ∷ passing new (numbered (suc at) (kept_of ks tys)) else passing new (numbered (suc at) (kept_of ks tys))) ≡ map by (if b then (ty, from) ∷ passing old (numbered (suc from) tys) else passing old (numbered (suc from) tys))
      go true is later = ap (λ (m : ℕ). (ty, m) ∷ passing new (numbered (suc at) (kept_of ks tys))) (sym is) ∙ ap (λ (l : List Key). (ty, r from) ∷ l) later
      go false is later = later
  pass_ranked (false ∷ ks) (ty ∷ tys) from at e kept others =
      let here : from + 0 ≡ from = omega arith in
      let out : old from ≡ false = ap old (sym here) ∙ others 0 (omega arith) refl in
      let later = pass_ranked ks tys (suc from) at (omega (arith, e))
      (λ i lt f.
      let next : suc from + i ≡ from + suc i = omega arith in
      let h = kept (suc i) (omega (arith, lt)) f in (
        ap r next ∙ h.0 ∙ (let z : at + (0 + rank i ks) ≡ at + rank i ks = omega arith in z),
        ap (λ (n : ℕ). new (r n)) next ∙ h.1 ∙ ap old (sym next),
      ))
      (λ i lt f. let next : suc from + i ≡ from + suc i = omega arith in ap old next ∙ others (suc i) (omega (arith, lt)) f) in
      later ∙ sym (ap (λ (b : Bool). map by (if b then (ty, from) ∷ passing old (numbered (suc from) tys) else passing old (numbered (suc from) tys))) out)

-- ---- the used ones

module _ (params : ℕ) (ks : List Bool) (tys : List ValType) (many : length ks ≡ length tys) (names : List ℕ) (kept : AllOf (IsKept params ks) names) where
  -- with the names of those that are kept, in place of all that are declared
  pub used_ranked : in_order (passing (has (map (ranked params ks) names)) (numbered params (kept_of ks tys))) ≡ map (ranked_key params ks) (in_order (passing (has names) (numbered params tys)))
  used_ranked =
      ap in_order (pass_ranked (ranked params ks) (has (map (ranked params ks) names)) (has names) ks tys params params many
      (λ i lt f.
      let back : params + i - params ≡ i = omega arith in
      let is_kept : IsKept params ks (params + i) = inr (ap (flag ks) back ∙ f) in (
        ranked_own params ks (params + i) (omega arith) ∙ ap (λ (n : ℕ). params + rank n ks) back,
        has_ranked params ks names (params + i) kept is_kept,
      ))
      (λ i lt f. none i f (has names (params + i)) refl))
      ∙ order_ranked params ks (passing (has names) (numbered params tys)) (pass_kept params ks names kept (numbered params tys))
    where
      none : (i : ℕ) → flag ks i ≡ false → (b : Bool) → has names (params + i) ≡ b → has names (params + i) ≡ false
      none i f false e = e
      none i f true e =
          let back : params + i - params ≡ i = omega arith in
          let on : flag ks i ≡ true = ap (flag ks) (sym back) ∙ own_flag params ks (params + i) (omega arith) (has_kept params ks names (params + i) kept e) in
          let both : true ≡ false = sym on ∙ f in
          absurd cc

  -- their numbers are below that of those that are kept
  pub names_below : (ns : List ℕ) → AllOf (IsKept params ks) ns → AllOf (Below (params + length (kept_of ks tys))) (map (ranked params ks) ns)
  names_below [] all = tt
  names_below (n ∷ ns) all = (below n all.0, names_below ns all.1)
    where
      below : (n : ℕ) → IsKept params ks n → ranked params ks n < params + length (kept_of ks tys)
      below n k = elim (cases_lt n params) as (λ _. ranked params ks n < params + length (kept_of ks tys)) [
        | inl front ↦ let a = ranked_param params ks n front in omega (arith, front, a)
        | inr own ↦
            let a = ranked_own params ks n own in
            let f = own_flag params ks n own k in
            let lt = flag_below ks (n - params) f in
            let h = rank_rises ks (n - params) (length ks) lt f in
            let all = rank_all ks tys many in
            omega (arith, a, h, all)
      ]

-- ---- ids

module _ (r : ℕ → ℕ) (first params : ℕ) (ks : List Bool) (named : (n : ℕ) → IsKept params ks n → r n ≡ first + ranked params ks n) where
  pub map_ranked : (ns : List ℕ) → AllOf (IsKept params ks) ns → map r ns ≡ map (λ (n : ℕ). first + n) (map (ranked params ks) ns)
  map_ranked [] all = refl
  map_ranked (n ∷ ns) all = ap (λ (m : ℕ). m ∷ map r ns) (named n all.0) ∙ ap (λ (l : List ℕ). (first + ranked params ks n) ∷ l) (map_ranked ns all.1)

  numbers_ranked : (js : List Key) → AllOf (IsKept params ks) (numbers js) → numbers (map (moved first) (map (ranked_key params ks) js)) ≡ map r (numbers js)
  numbers_ranked [] all = refl
  numbers_ranked (j ∷ js) all = ap (λ (m : ℕ). m ∷ numbers (map (moved first) (map (ranked_key params ks) js))) (sym (named j.1 all.0)) ∙ ap (λ (l : List ℕ). r j.1 ∷ l) (numbers_ranked js all.1)

  pub ids_ranked : (args : List ℕ) → args ≡ map r (range_with_len 0 params) → (keys : List Key) → AllOf (IsKept params ks) (numbers keys)
      → args ++ numbers (map (moved first) (map (ranked_key params ks) keys)) ≡ map r (range_with_len 0 params ++ numbers keys)
  ids_ranked args given keys all =
      ap (λ (l : List ℕ). l ++ numbers (map (moved first) (map (ranked_key params ks) keys))) given
      ∙ ap (λ (l : List ℕ). map r (range_with_len 0 params) ++ l) (numbers_ranked keys all)
      ∙ sym (map-append r (range_with_len 0 params) (numbers keys))

-- ---- what operators name is kept

flag_all : (count i : ℕ) → i < count → flag (replicate count true) i ≡ true
flag_all zero i lt = absurd (omega (arith, lt))
flag_all (suc count) zero lt = refl
flag_all (suc count) (suc i) lt = flag_all count i (omega (arith, lt))

flag_map : (test : ℕ → Bool) (count from i : ℕ) → i < count → flag (map test (range_with_len from count)) i ≡ test (from + i)
flag_map test zero from i lt = absurd (omega (arith, lt))
flag_map test (suc count) from zero lt = ap test (omega arith)
flag_map test (suc count) from (suc i) lt = flag_map test count (from + 1) i (omega (arith, lt)) ∙ ap test (omega arith)

pub named_kept : (all : Bool) (params count : ℕ) (ops : List Seen) (n : ℕ) → n < params + count → names_local ops n ≡ true → IsKept params (kept_by all params count ops) n
named_kept all params count ops n lt e = elim (cases_lt n params) as (λ _. IsKept params (kept_by all params count ops) n) [
  | inl front ↦ inl front
  | inr le ↦ inr (go all (omega (arith, le, lt)) (let z : params + (n - params) ≡ n = omega (arith, le) in z))
]
  where
    go : (all : Bool) → n - params < count → params + (n - params) ≡ n → flag (kept_by all params count ops) (n - params) ≡ true
    go true inside back = flag_all count (n - params) inside
    go false inside back = flag_map (names_local ops) count params (n - params) inside ∙ ap (names_local ops) back ∙ e

pub all_named : (P Q : ℕ → Type 0) (ns : List ℕ) → AllOf Q ns → ((n : ℕ) → has ns n ≡ true → Q n → P n) → AllOf P ns
all_named P Q [] h f = tt
all_named P Q (n ∷ ns) h f = (f n (ap (λ (b : Bool). b || has ns n) (eq-eqb n n refl)) h.0, all_named P Q ns h.1 (λ m e q. f m (ap (λ (b : Bool). (n == m) || b) e ∙ or_true (n == m)) q))
  where
    or_true : (b : Bool) → (b || true) ≡ true
    or_true true = refl
    or_true false = refl

-- of a text, and of its operators
pub text_names : (P : ℕ → Type 0) (ops : List grammar.Placed) → AllOf (λ (o : Placed). AllOf P (flat_map local_in o.op.items)) (map (λ (o : grammar.Placed). placed o.op (Some o.place)) ops)
    → AllOf P (flat_map locals_of (map (λ (o : grammar.Placed). o.op) ops))
text_names P [] h = tt
text_names P (o ∷ ops) h = all_join P (flat_map local_in o.op.items) (flat_map locals_of (map (λ (o : grammar.Placed). o.op) ops)) h.0 (text_names P ops h.1)

pub text_back : (P : ℕ → Type 0) (ops : List grammar.Placed) → AllOf P (flat_map locals_of (map (λ (o : grammar.Placed). o.op) ops))
    → AllOf (λ (o : Placed). AllOf P (flat_map local_in o.op.items)) (map (λ (o : grammar.Placed). placed o.op (Some o.place)) ops)
text_back P [] h = tt
text_back P (o ∷ ops) h =
    let both = all_split P (flat_map local_in o.op.items) (flat_map locals_of (map (λ (o : grammar.Placed). o.op) ops)) h in
    (both.0, text_back P ops both.1)
