-- Lemmas: what a code is read as has that code.
use Rattle.std.specs.Prelude.{ℕ, ◌≡◌, ◌==◌, ◌&&◌, nat_lt, not, Bool, true, false, List, [], ◌∷◌, Option, Some, None, if◌then◌else◌, refl}
use Rattle.std.specs.Option.{is_some}
use Rattle.std.proofs.Common.{inl, inr}
use Rattle.std.proofs.lemmas.Bool.{cases_Bool, and_parts, not-true, eqb-true}
use Rattle.wasm_operators.specs.declared.op_code.OpCode.{OpCode}
use Rattle.wasm_operators.specs.Operators.{op_code}
use Rattle.walrus_instr.specs.declared.operators.UnaryOp.{UnaryOp}
use Rattle.walrus_instr.specs.declared.operators.BinaryOp.{BinaryOp}
use Rattle.walrus_instr.specs.declared.operators.TernaryOp.{TernaryOp}
use Rattle.walrus_instr.specs.declared.memory.LoadKind.{LoadKind}
use Rattle.walrus_instr.specs.declared.memory.LoadKind.TheVariants as loads
use Rattle.walrus_instr.specs.declared.memory.StoreKind.{StoreKind}
use Rattle.walrus_instr.specs.declared.memory.StoreKind.TheVariants as stores
use Rattle.walrus_instr.specs.declared.memory.LoadSimdKind.{LoadSimdKind}
use Rattle.walrus_instr.specs.declared.memory.AtomicOp.{AtomicOp}
use Rattle.walrus_instr.specs.declared.memory.AtomicWidth.{AtomicWidth}
use Rattle.walrus_codes.specs.Runs.{Run, run, in_runs}
use Rattle.walrus_codes.specs.Unary.{unary_bytes, unary_bulks, low_unary_vectors, high_unary_vectors, unary_lanes, unary_at, unary_code, unary_lane}
use Rattle.walrus_codes.specs.Binary.{binary_bytes, binary_bulks, low_binary_vectors, high_binary_vectors, binary_lanes, binary_at, binary_code, binary_lane}
use Rattle.walrus_codes.specs.Ternary.{ternary_vectors, ternary_at, ternary_code}
use Rattle.walrus_codes.specs.Access.{byte_loads, atomic_loads, load_at, load_code, byte_stores, atomic_stores, store_at, store_code, vector_accesses, lane_accesses, simd_at, simd_code, simd_lane, widths_in_order, atomic_changes, rmw_at, rmw_code, cmpxchg_at, cmpxchg_code}
use Rattle.walrus_pairing.proofs.RowsFound.{AllFit, all_pass, prefix_found, prefix_passed}

abbrev same_code : OpCode → OpCode → Bool
same_code a b = a.prefix == b.prefix && a.number == b.number

is_code : (a b : OpCode) → same_code a b ≡ true → a ≡ b
is_code a b e =
    let parts = and_parts (a.prefix == b.prefix) (a.number == b.number) e in
    let prefix : a.prefix ≡ b.prefix = eqb-true a.prefix b.prefix parts.0 in
    let number : a.number ≡ b.number = eqb-true a.number b.number parts.1 in
    λ i. record { prefix = prefix i; number = number i }

-- in rows behind a prefix each has its code
module _ {A : Type 0} (code_of : A → OpCode) where
  abbrev HasCodes : ℕ → List (Run A) → Type 0
  HasCodes p rows = all_pass (λ n x. same_code (code_of x) (op_code p n)) rows ≡ true

  coded : (p : ℕ) (rows : List (Run A)) → HasCodes p rows → (code : OpCode) (x : A) → (code.prefix == p) ≡ true → in_runs rows code.number ≡ Some x → code_of x ≡ code
  coded p rows h code x is e = is_code (code_of x) code (prefix_passed (λ c y. same_code (code_of y) c) p rows h code x is e)

-- and no lane
module _ {A : Type 0} (code_of : A → OpCode) (lane_of : A → Option ℕ) where
  -- this code, and this lane or none
  abbrev pub Has : Option ℕ → OpCode → A → Type 0
  Has lane code x = (code_of x ≡ code) × (lane_of x ≡ lane)

  abbrev bare_code : OpCode → A → Bool
  bare_code c x = same_code (code_of x) c && not (is_some (lane_of x))

  abbrev HasBareCodes : ℕ → List (Run A) → Type 0
  HasBareCodes p rows = all_pass (λ n x. bare_code (op_code p n) x) rows ≡ true

  no_lane : (o : Option ℕ) → is_some o ≡ false → o ≡ None
  no_lane None e = refl
  no_lane (Some x) e = absurd cc

  bare : (p : ℕ) (rows : List (Run A)) → HasBareCodes p rows → (code : OpCode) (x : A) → (code.prefix == p) ≡ true → in_runs rows code.number ≡ Some x → Has None code x
  bare p rows h code x is e =
      let parts = and_parts (same_code (code_of x) code) (not (is_some (lane_of x))) (prefix_passed bare_code p rows h code x is e) in
      (is_code (code_of x) code parts.0, no_lane (lane_of x) (not-true (is_some (lane_of x)) parts.1))

-- ---- numeric operators

unary_bytes_bare : HasBareCodes unary_code unary_lane 0 unary_bytes
unfolding unary_bytes
unary_bytes_bare = refl

unary_bulks_bare : HasBareCodes unary_code unary_lane 0xfc unary_bulks
unfolding unary_bulks
unary_bulks_bare = refl

unary_low_bare : HasBareCodes unary_code unary_lane 0xfd low_unary_vectors
unfolding low_unary_vectors
unary_low_bare = refl

unary_high_bare : HasBareCodes unary_code unary_lane 0xfd high_unary_vectors
unfolding high_unary_vectors
unary_high_bare = refl

binary_bytes_bare : HasBareCodes binary_code binary_lane 0 binary_bytes
unfolding binary_bytes
binary_bytes_bare = refl

binary_bulks_bare : HasBareCodes binary_code binary_lane 0xfc binary_bulks
unfolding binary_bulks
binary_bulks_bare = refl

binary_low_bare : HasBareCodes binary_code binary_lane 0xfd low_binary_vectors
unfolding low_binary_vectors
binary_low_bare = refl

binary_high_bare : HasBareCodes binary_code binary_lane 0xfd high_binary_vectors
unfolding high_binary_vectors
binary_high_bare = refl

-- the choice by prefix that both make
module _ {A : Type 0} (code_of : A → OpCode) (lane_of : A → Option ℕ) (bytes bulks low high : List (Run A))
    (h0 : HasBareCodes code_of lane_of 0 bytes) (h1 : HasBareCodes code_of lane_of 0xfc bulks) (h2 : HasBareCodes code_of lane_of 0xfd low) (h3 : HasBareCodes code_of lane_of 0xfd high)
    (code : OpCode) (x : A) where
  in_vectors : (code.prefix == 0xfd) ≡ true → (if nat_lt code.number 128 then in_runs low code.number else in_runs high code.number) ≡ Some x → Has code_of lane_of None code x
  in_vectors is e = elim (cases_Bool (nat_lt code.number 128)) [
    | inl below ↦ bare code_of lane_of 0xfd low h2 code x is (rw below at e)
    | inr above ↦ bare code_of lane_of 0xfd high h3 code x is (rw above at e)
  ]

  abbrev vector_part : Option A
  vector_part = if code.prefix == 0xfd then (if nat_lt code.number 128 then in_runs low code.number else in_runs high code.number) else None

  by_vector : vector_part ≡ Some x → Has code_of lane_of None code x
  by_vector e = elim (cases_Bool (code.prefix == 0xfd)) [
    | inl is ↦ in_vectors is (rw is at e)
    | inr out ↦ absurd (let w = (rw out at e) in cc)
  ]

  abbrev bulk_part : Option A
  bulk_part = if code.prefix == 0xfc then in_runs bulks code.number else vector_part

  by_bulk : bulk_part ≡ Some x → Has code_of lane_of None code x
  by_bulk e = elim (cases_Bool (code.prefix == 0xfc)) [
    | inl is ↦ bare code_of lane_of 0xfc bulks h1 code x is (rw is at e)
    | inr out ↦ by_vector (rw out at e)
  ]

  by_prefix : (if code.prefix == 0 then in_runs bytes code.number else bulk_part) ≡ Some x → Has code_of lane_of None code x
  by_prefix e = elim (cases_Bool (code.prefix == 0)) [
    | inl is ↦ bare code_of lane_of 0 bytes h0 code x is (rw is at e)
    | inr out ↦ by_bulk (rw out at e)
  ]

-- behind fd alone
module _ {A : Type 0} (P : OpCode → A → Type 0) (p : ℕ) (rows : List (Run A)) (fit : AllFit (λ n x. P (op_code p n) x) rows) (code : OpCode) (x : A) where
  pub by_rows : (if code.prefix == p then in_runs rows code.number else None) ≡ Some x → P code x
  by_rows e = elim (cases_Bool (code.prefix == p)) [
    | inl is ↦ prefix_found P p rows fit code x is (rw is at e)
    | inr out ↦ absurd (let w = (rw out at e) in cc)
  ]

pub unary_found : (lane : Option ℕ) (code : OpCode) (o : UnaryOp) → unary_at code lane ≡ Some o → Has unary_code unary_lane lane code o
unfolding unary_lanes
unary_found None code o e = by_prefix unary_code unary_lane unary_bytes unary_bulks low_unary_vectors high_unary_vectors unary_bytes_bare unary_bulks_bare unary_low_bare unary_high_bare code o e
unary_found (Some lane) code o e = by_rows (Has unary_code unary_lane (Some lane)) 0xfd (unary_lanes lane)
    (((refl, refl), ((refl, refl), tt)), (((refl, refl), ((refl, refl), tt)), (((refl, refl), tt), (((refl, refl), tt), (((refl, refl), tt), (((refl, refl), tt), tt)))))) code o e

pub binary_found : (lane : Option ℕ) (code : OpCode) (o : BinaryOp) → binary_at code lane ≡ Some o → Has binary_code binary_lane lane code o
unfolding binary_lanes
binary_found None code o e = by_prefix binary_code binary_lane binary_bytes binary_bulks low_binary_vectors high_binary_vectors binary_bytes_bare binary_bulks_bare binary_low_bare binary_high_bare code o e
binary_found (Some lane) code o e = by_rows (Has binary_code binary_lane (Some lane)) 0xfd (binary_lanes lane)
    (((refl, refl), tt), (((refl, refl), tt), (((refl, refl), tt), (((refl, refl), tt), (((refl, refl), tt), (((refl, refl), tt), tt)))))) code o e

pub ternary_found : (code : OpCode) (o : TernaryOp) → ternary_at code ≡ Some o → ternary_code o ≡ code
unfolding ternary_vectors
ternary_found code o e = elim (cases_Bool (code.prefix == 0xfd)) [
  | inl is ↦ coded ternary_code 0xfd ternary_vectors refl code o is (rw is at e)
  | inr out ↦ absurd (let w = (rw out at e) in cc)
]

-- ---- accesses

-- the choice by prefix of loads and stores
module _ {A : Type 0} (code_of : A → OpCode) (bytes vectors atomics : List (Run A)) (h0 : HasCodes code_of 0 bytes) (h1 : HasCodes code_of 0xfd vectors) (h2 : HasCodes code_of 0xfe atomics)
    (code : OpCode) (x : A) where
  abbrev atomic_part : Option A
  atomic_part = if code.prefix == 0xfe then in_runs atomics code.number else None

  by_atomic : atomic_part ≡ Some x → code_of x ≡ code
  by_atomic e = elim (cases_Bool (code.prefix == 0xfe)) [
    | inl is ↦ coded code_of 0xfe atomics h2 code x is (rw is at e)
    | inr out ↦ absurd (let w = (rw out at e) in cc)
  ]

  abbrev vectors_part : Option A
  vectors_part = if code.prefix == 0xfd then in_runs vectors code.number else atomic_part

  by_vectors : vectors_part ≡ Some x → code_of x ≡ code
  by_vectors e = elim (cases_Bool (code.prefix == 0xfd)) [
    | inl is ↦ coded code_of 0xfd vectors h1 code x is (rw is at e)
    | inr out ↦ by_atomic (rw out at e)
  ]

  by_access : (if code.prefix == 0 then in_runs bytes code.number else vectors_part) ≡ Some x → code_of x ≡ code
  by_access e = elim (cases_Bool (code.prefix == 0)) [
    | inl is ↦ coded code_of 0 bytes h0 code x is (rw is at e)
    | inr out ↦ by_vectors (rw out at e)
  ]

pub load_found : (code : OpCode) (kind : LoadKind) → load_at code ≡ Some kind → load_code kind ≡ code
unfolding byte_loads atomic_loads
load_found code kind e = by_access load_code byte_loads (run 0 (loads.V128 ∷ []) ∷ []) atomic_loads refl refl refl code kind e

pub store_found : (code : OpCode) (kind : StoreKind) → store_at code ≡ Some kind → store_code kind ≡ code
unfolding byte_stores atomic_stores
store_found code kind e = by_access store_code byte_stores (run 11 (stores.V128 ∷ []) ∷ []) atomic_stores refl refl refl code kind e

pub simd_found : (lane : Option ℕ) (code : OpCode) (kind : LoadSimdKind) → simd_at code lane ≡ Some kind → Has simd_code simd_lane lane code kind
unfolding vector_accesses lane_accesses
simd_found None code kind e = elim (cases_Bool (code.prefix == 0xfd)) [
  | inl is ↦ bare simd_code simd_lane 0xfd vector_accesses refl code kind is (rw is at e)
  | inr out ↦ absurd (let w = (rw out at e) in cc)
]
simd_found (Some lane) code kind e = by_rows (Has simd_code simd_lane (Some lane)) 0xfd (lane_accesses lane)
    (((refl, refl), ((refl, refl), ((refl, refl), ((refl, refl), ((refl, refl), ((refl, refl), ((refl, refl), ((refl, refl), tt)))))))), tt) code kind e

pub rmw_found : (code : OpCode) (change : AtomicOp × AtomicWidth) → rmw_at code ≡ Some change → rmw_code change.0 change.1 ≡ code
unfolding atomic_changes
rmw_found code change e = elim (cases_Bool (code.prefix == 0xfe)) [
  | inl is ↦ coded (λ (c : AtomicOp × AtomicWidth). rmw_code c.0 c.1) 0xfe atomic_changes refl code change is (rw is at e)
  | inr out ↦ absurd (let w = (rw out at e) in cc)
]

pub cmpxchg_found : (code : OpCode) (width : AtomicWidth) → cmpxchg_at code ≡ Some width → cmpxchg_code width ≡ code
cmpxchg_found code width e = elim (cases_Bool (code.prefix == 0xfe)) [
  | inl is ↦ coded cmpxchg_code 0xfe (run 72 widths_in_order ∷ []) refl code width is (rw is at e)
  | inr out ↦ absurd (let w = (rw out at e) in cc)
]
