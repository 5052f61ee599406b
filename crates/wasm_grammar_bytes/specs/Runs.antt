-- Maximal runs of locals are the shortest.
use Rattle.std.specs.Prelude.{ℕ, zero, suc, ◌+◌, ◌-◌, ◌*◌, ◌/◌, ◌<◌, ◌≤◌, ◌≡◌, List, [], ◌∷◌, ◌++◌, length, refl}
use Rattle.std.specs.List.{repeat}
use Rattle.std.proofs.Common.{ap, sym, ◌∙◌, subst, arith, inl, inr}
use Rattle.std.proofs.lemmas.Bool.{cases_lt, lt-ltb, le-ltb}
use Rattle.std.proofs.lemmas.List.{append_assoc, length-append}
use Rattle.wasm_reader.specs.Shortest.{shortest_unsigned}
use Rattle.walrus_forms.specs.declared.value.ValType.{ValType}
use Rattle.wasm_operators.specs.Bytes.{unsigned_bytes, value_bytes}
use Rattle.wasm_operators.specs.Numbers.{shorter}
use Rattle.wasm_format_bytes.specs.Lists.{entries_bytes}
use Rattle.wasm_grammar.specs.TypeWords.{value_from}
use Rattle.wasm_body_grammar.specs.Rules.{Around}
use Rattle.wasm_body_grammar.specs.Bodies.{Run, run, next_total, declared}
use Rattle.wasm_grammar_bytes.specs.Bodies.{run_writer, runs_bytes}

-- the first of the runs, if any, is of another type
abbrev pub BeginsApart : ValType → List Run → Type 0
BeginsApart ty [] = Unit {0}
BeginsApart ty (r ∷ list) = ty ≡ r.1 → ⊥

-- no run is empty, and no run follows one of its type
abbrev pub AreMaximal : List Run → Type 0
AreMaximal [] = Unit {0}
AreMaximal (r ∷ list) = (0 < r.0) × BeginsApart r.1 list × AreMaximal list

-- no runs that declare the same locals are shorter
abbrev pub MaximalRunsAreShortest : Type 0
MaximalRunsAreShortest = (a : Around) (params : ℕ) (list others : List Run) → AreMaximal list → declared list ≡ declared others
    → length (runs_bytes a params list) ≤ length (runs_bytes a params others)

-- ---- numbers

some_byte : (n : ℕ) → 0 < length (unsigned_bytes n)
unfolding shortest_unsigned
some_byte n = elim (cases_lt n 128) as (λ _. 0 < length (unsigned_bytes n)) [
  | inl small ↦ rw (lt-ltb n 128 small) (omega arith)
  | inr great ↦ rw (le-ltb n 128 great) (omega arith)
]

one_byte : (count n : ℕ) → n < 128 → length (shortest_unsigned count n) ≤ 1
unfolding shortest_unsigned
one_byte zero n h = omega arith
one_byte (suc count) n h = rw (lt-ltb n 128 h) (omega arith)

-- twice a number takes a byte more at most
doubled : (count x z : ℕ) → z ≤ 2 * x + 1 → length (shortest_unsigned count z) ≤ length (shortest_unsigned count x) + 1
unfolding shortest_unsigned
doubled zero x z h = omega arith
doubled (suc count) x z h = elim (cases_lt z 128) as (λ _. length (shortest_unsigned (suc count) z) ≤ length (shortest_unsigned (suc count) x) + 1) [
  | inl small ↦ rw (lt-ltb z 128 small) (omega arith)
  | inr great ↦ elim (cases_lt x 128) as (λ _. length (shortest_unsigned (suc count) z) ≤ length (shortest_unsigned (suc count) x) + 1) [
    | inl small ↦ let rest = one_byte count (z / 128) (omega (arith, h, small)) in rw (le-ltb z 128 great, lt-ltb x 128 small) (omega (arith, rest))
    | inr also ↦ let rest = doubled count (x / 128) (z / 128) (omega (arith, h)) in rw (le-ltb z 128 great, le-ltb x 128 also) (omega (arith, rest))
  ]
]

-- a sum takes no more bytes than its two parts
added : (m k : ℕ) → length (unsigned_bytes (m + k)) ≤ length (unsigned_bytes m) + length (unsigned_bytes k)
added m k = elim (cases_lt m k) [
  | inl lt ↦ let twice = doubled 10 k (m + k) (omega (arith, lt)) in omega (arith, twice, some_byte m)
  | inr le ↦ let twice = doubled 10 m (m + k) (omega (arith, le)) in omega (arith, twice, some_byte k)
]

-- ---- locals of one type

abbrev many : ℕ → ValType → List ValType
many n ty = repeat n (ty ∷ [])

many_added : (m k : ℕ) (ty : ValType) → many (m + k) ty ≡ many m ty ++ many k ty
many_added zero k ty = ap (λ (n : ℕ). many n ty) (omega arith)
many_added (suc m) k ty =
    let sum : suc m + k ≡ suc (m + k) = omega arith in
    ap (λ (n : ℕ). many n ty) sum ∙ ap (λ (l : List ValType). ty ∷ l) (many_added m k ty)

tail_is : (x y : ValType) (xs ys : List ValType) → x ∷ xs ≡ y ∷ ys → xs ≡ ys
tail_is x y xs ys e = cc

head_is : (x y : ValType) (xs ys : List ValType) → x ∷ xs ≡ y ∷ ys → x ≡ y
head_is x y xs ys e = cc

pub nil_cons : {P : Type 0} (x : ValType) (xs : List ValType) → [] ≡ x ∷ xs → P
nil_cons x xs e = absurd cc

cancelled : (n : ℕ) (ty : ValType) (xs ys : List ValType) → many n ty ++ xs ≡ many n ty ++ ys → xs ≡ ys
cancelled zero ty xs ys e = e
cancelled (suc n) ty xs ys e = cancelled n ty xs ys (tail_is ty ty (many n ty ++ xs) (many n ty ++ ys) e)

-- maximal runs begin with their first type
begins : (n : ℕ) (ty : ValType) (list : List Run) (xs : List ValType) → 0 < n → AreMaximal list → BeginsApart ty list → declared list ≡ many n ty ++ xs → ⊥
begins zero ty list xs some h apart e = omega (arith, some)
begins (suc n) ty [] xs some h apart e = nil_cons ty (many n ty ++ xs) e
begins (suc n) ty ((zero, u) ∷ list) xs some h apart e = omega (arith, h.0)
begins (suc n) ty ((suc m, u) ∷ list) xs some h apart e = apart (sym (head_is u ty (many m u ++ declared list) (many n ty ++ xs) e))

-- ---- runs

abbrev weight : List Run → ℕ
weight [] = 0
weight (r ∷ list) = length (unsigned_bytes r.0) + length (value_bytes (value_from r.1)) + weight list

-- what is left of a longer run behind a shorter one
behind : (m k : ℕ) (ty : ValType) (xs ys : List ValType) → many (m + k) ty ++ xs ≡ many m ty ++ ys → many k ty ++ xs ≡ ys
behind m k ty xs ys e =
    cancelled m ty (many k ty ++ xs) ys (sym (append_assoc (many m ty) (many k ty) xs) ∙ ap (λ (l : List ValType). l ++ xs) (sym (many_added m k ty)) ∙ e)

-- the first runs have one type, and the rest of the locals behind their first ones are the same
tails : (m n : ℕ) (t u : ValType) (xs ys : List ValType) → many (suc n) t ++ xs ≡ many (suc m) u ++ ys → (t ≡ u) × (many n t ++ xs ≡ many m t ++ ys)
tails m n t u xs ys e =
    let same = head_is t u (many n t ++ xs) (many m u ++ ys) e in
    (same, subst (λ (w : ValType). many n t ++ xs ≡ many m w ++ ys) (sym same) (tail_is t u (many n t ++ xs) (many m u ++ ys) e))

lighter : (others list : List Run) → AreMaximal list → declared list ≡ declared others → (weight list ≤ weight others) × (length list ≤ length others)
lighter [] [] h e = (omega arith, omega arith)
lighter [] ((zero, t) ∷ list) h e = absurd (omega (arith, h.0))
lighter [] ((suc n, t) ∷ list) h e = nil_cons t (many n t ++ declared list) (sym e)
lighter ((zero, u) ∷ others) list h e = let later = lighter others list h e in (omega (arith, later.0), omega (arith, later.1))
lighter ((suc m, u) ∷ others) [] h e = nil_cons u (many m u ++ declared others) e
lighter ((suc m, u) ∷ others) ((zero, t) ∷ list) h e = absurd (omega (arith, h.0))
lighter ((suc m, u) ∷ others) ((suc n, t) ∷ list) h e =
    let s = tails m n t u (declared list) (declared others) e in
    elim (cases_lt m n) as (λ _. (weight ((suc n, t) ∷ list) ≤ weight ((suc m, u) ∷ others)) × (length ((suc n, t) ∷ list) ≤ length ((suc m, u) ∷ others))) [
      | inl lt ↦
          let sum : n ≡ m + (n - m) = omega (arith, lt) in
          let rest = behind m (n - m) t (declared list) (declared others) (subst (λ (k : ℕ). many k t ++ declared list ≡ many m t ++ declared others) sum s.1) in
          let later = lighter others ((n - m, t) ∷ list) (omega (arith, lt), h.1, h.2) rest in
          let whole : suc n ≡ suc m + (n - m) = omega (arith, lt) in
          let parts : length (unsigned_bytes (suc n)) ≤ length (unsigned_bytes (suc m)) + length (unsigned_bytes (n - m)) =
          subst (λ (k : ℕ). length (unsigned_bytes k) ≤ length (unsigned_bytes (suc m)) + length (unsigned_bytes (n - m))) (sym whole) (added (suc m) (n - m)) in
          (omega (arith, later.0, parts), omega (arith, later.1))
      | inr le ↦ elim (cases_lt n m) as (λ _. (weight ((suc n, t) ∷ list) ≤ weight ((suc m, u) ∷ others)) × (length ((suc n, t) ∷ list) ≤ length ((suc m, u) ∷ others))) [
        | inl lt ↦
            let sum : m ≡ n + (m - n) = omega (arith, lt) in
            let rest = behind n (m - n) t (declared others) (declared list) (subst (λ (k : ℕ). many k t ++ declared others ≡ many n t ++ declared list) sum (sym s.1)) in
            absurd (begins (m - n) t list (declared others) (omega (arith, lt)) h.2 h.1 (sym rest))
        | inr also ↦
            let even : n ≡ m = omega (arith, le, also) in
            let rest = cancelled m t (declared list) (declared others) (subst (λ (k : ℕ). many k t ++ declared list ≡ many m t ++ declared others) even s.1) in
            let later = lighter others list h.2 rest in
            let count : length (unsigned_bytes (suc n)) ≡ length (unsigned_bytes (suc m)) = ap (λ (k : ℕ). length (unsigned_bytes (suc k))) even in
            let kind : length (value_bytes (value_from t)) ≡ length (value_bytes (value_from u)) = ap (λ (w : ValType). length (value_bytes (value_from w))) s.0 in
            (omega (arith, later.0, count, kind), omega (arith, later.1))
      ]
    ]

-- the bytes of runs weigh so
weighed : (a : Around) (total : ℕ) (list : List Run) → length (entries_bytes next_total (run a) (run_writer a) total list) ≡ weight list
weighed a total [] = refl
weighed a total (r ∷ list) =
    let later = weighed a (next_total total r) list in
    omega (
      arith,
      later,
      length-append (unsigned_bytes r.0 ++ value_bytes (value_from r.1)) (entries_bytes next_total (run a) (run_writer a) (next_total total r) list),
      length-append (unsigned_bytes r.0) (value_bytes (value_from r.1)),
    )

pub maximal_runs_are_shortest : MaximalRunsAreShortest
maximal_runs_are_shortest a params list others h e =
    let light = lighter others list h e in
    let count = shorter 10 (length list) (length others) light.1 in
    omega (
      arith,
      light.0,
      count,
      weighed a params list,
      weighed a params others,
      length-append (unsigned_bytes (length list)) (entries_bytes next_total (run a) (run_writer a) params list),
      length-append (unsigned_bytes (length others)) (entries_bytes next_total (run a) (run_writer a) params others),
    )
