-- Lemmas: accesses come back.
use Rattle.std.specs.Prelude.{ℕ, zero, suc, ◌<◌, ◌^◌, ◌≡◌, ◌==◌, ◌&&◌, nat_lt, Bool, true, false, [], ◌∷◌, Option, Some, None, Ok, refl}
use Rattle.std.specs.Option.{option_map}
use Rattle.std.proofs.Common.{ap, sym, subst, ◌∙◌, arith, inl, inr}
use Rattle.std.proofs.lemmas.Bool.{cases_Bool, and_parts, ltb-true, eqb-true}
use Rattle.wasm_operators.specs.declared.memory_access.MemoryAccess.{MemoryAccess}
use Rattle.wasm_operators.specs.Items.{Memories, Access}
use Rattle.wasm_operators.specs.declared.op_code.OpCode.{OpCode}
use Rattle.walrus_instr.specs.declared.instr.Instr.{Instr}
use Rattle.walrus_instr.specs.declared.instr.Instr.TheVariants as instrs
use Rattle.walrus_instr.specs.declared.memory.MemArg.{MemArg}
use Rattle.walrus_instr.specs.declared.memory.AtomicOp.{AtomicOp}
use Rattle.walrus_instr.specs.declared.memory.AtomicWidth.{AtomicWidth}
use Rattle.walrus_codes.specs.Access.{load_at, store_at, simd_at, simd_lane, rmw_at, cmpxchg_at}
use Rattle.walrus_pairing.specs.Looks.{Look}
use Rattle.walrus_pairing.specs.Write.{op, operator_at, lane_items, log_of, access_of}
use Rattle.walrus_pairing.specs.Read.{at, first, arg_of, wait_at, simd_access, access_at}
use Rattle.walrus_pairing.proofs.Codes.{by_rows, load_found, store_found, simd_found, rmw_found, cmpxchg_found}
use Rattle.std.proofs.lemmas.Bool.{eqb-false}
use Rattle.walrus_pairing.proofs.Facts.{first_is, made_of, ok_is}

-- ---- the logarithm of a power of two

abbrev logs_to : ℕ → Bool
logs_to zero = true
logs_to (suc k) = (log_of (2 ^ k) == k) && logs_to k

log_at : (count : ℕ) → logs_to count ≡ true → (k : ℕ) → k < count → log_of (2 ^ k) ≡ k
log_at zero e k below = absurd (omega arith)
log_at (suc n) e k below = elim (cases_Bool (k == n)) [
  | inl is ↦
      let same : k ≡ n = eqb-true k n is in
      subst (λ m. log_of (2 ^ m) ≡ m) (sym same) (eqb-true (log_of (2 ^ n)) n (and_parts (log_of (2 ^ n) == n) (logs_to n) e).0)
  | inr out ↦ log_at n (and_parts (log_of (2 ^ n) == n) (logs_to n) e).1 k (omega (arith, below, eqb-false k n out))
]

log_again : (k : ℕ) → k < 32 → log_of (2 ^ k) ≡ k
unfolding lib.Count.count_trailing_zeros
log_again k below = log_at 32 refl k below

-- the alignment and the offset come back
pub arg_again : (memory : ℕ) (a : MemoryAccess) (arg : MemArg) → arg_of a ≡ Ok arg → access_of memory arg ≡ record a { memory = memory }
arg_again memory a arg e = elim (cases_Bool (nat_lt a.align 32)) [
  | inl is ↦
      let given : record { align = 2 ^ a.align; offset = a.offset } ≡ arg = ok_is {A = MemArg} (record { align = 2 ^ a.align; offset = a.offset }) arg (rw is at e) in
      let log : log_of (2 ^ a.align) ≡ a.align = log_again a.align (ltb-true a.align 32 is) in
      subst (λ (x : MemArg). access_of memory x ≡ record a { memory = memory }) given (ap (λ (n : ℕ). record a { align = n; memory = memory }) log)
  | inr out ↦ absurd (let w = (rw out at e) in cc)
]

-- ---- the operator of an access

module _ (back : Look) (memory m : ℕ) (h : back Memories memory ≡ Some m) (arg : MemArg) where
  -- the operator of the instruction has this code, this access and this lane
  abbrev pub Accessed : Option ℕ → OpCode → Instr → Type 0
  Accessed lane code i = operator_at back i ≡ op code (Access (access_of m arg) ∷ lane_items lane)

  abbrev Plain : OpCode → Instr → Type 0
  Plain code i = Accessed None code i

  load_back : (code : OpCode) (i : Instr) → option_map (λ kind. instrs.Load memory kind arg) (load_at code) ≡ Some i → Plain code i
  unfolding operator_at
  load_back code i e =
      let got = made_of (λ kind. instrs.Load memory kind arg) (load_at code) i e in
      subst (Plain code) got.2 (rw h (ap (λ (c : OpCode). op c (Access (access_of m arg) ∷ [])) (load_found code got.0 got.1)))

  store_back : (code : OpCode) (i : Instr) → option_map (λ kind. instrs.Store memory kind arg) (store_at code) ≡ Some i → Plain code i
  unfolding operator_at
  store_back code i e =
      let got = made_of (λ kind. instrs.Store memory kind arg) (store_at code) i e in
      subst (Plain code) got.2 (rw h (ap (λ (c : OpCode). op c (Access (access_of m arg) ∷ [])) (store_found code got.0 got.1)))

  pub simd_back : (lane : Option ℕ) (code : OpCode) (i : Instr) → option_map (simd_access memory arg) (simd_at code lane) ≡ Some i → Accessed lane code i
  unfolding operator_at
  simd_back lane code i e =
      let got = made_of (simd_access memory arg) (simd_at code lane) i e in
      let has = simd_found lane code got.0 got.1 in
      subst (Accessed lane code) got.2 (rw h (ap (λ (c : OpCode). op c (Access (access_of m arg) ∷ lane_items (simd_lane got.0))) has.0 ∙ ap (λ (l : Option ℕ). op code (Access (access_of m arg) ∷ lane_items l)) has.1))

  abbrev change_of : AtomicOp × AtomicWidth → Instr
  change_of change = instrs.AtomicRmw memory change.0 change.1 arg

  rmw_back : (code : OpCode) (i : Instr) → option_map change_of (rmw_at code) ≡ Some i → Plain code i
  unfolding operator_at
  rmw_back code i e =
      let got = made_of change_of (rmw_at code) i e in
      subst (Plain code) got.2 (rw h (ap (λ (c : OpCode). op c (Access (access_of m arg) ∷ [])) (rmw_found code got.0 got.1)))

  abbrev exchange_of : AtomicWidth → Instr
  exchange_of width = instrs.Cmpxchg memory width arg

  cmpxchg_back : (code : OpCode) (i : Instr) → option_map exchange_of (cmpxchg_at code) ≡ Some i → Plain code i
  unfolding operator_at
  cmpxchg_back code i e =
      let got = made_of exchange_of (cmpxchg_at code) i e in
      subst (Plain code) got.2 (rw h (ap (λ (c : OpCode). op c (Access (access_of m arg) ∷ [])) (cmpxchg_found code got.0 got.1)))

  wait_back : (code : OpCode) (i : Instr) → wait_at code memory arg ≡ Some i → Plain code i
  unfolding operator_at
  wait_back code i e = by_rows Plain 0xfe (at 0 (instrs.AtomicNotify memory arg) ∷ at 1 (instrs.AtomicWait memory arg false) ∷ at 2 (instrs.AtomicWait memory arg true) ∷ [])
      ((rw h refl, tt), ((rw h refl, tt), ((rw h refl, tt), tt))) code i e

  abbrev after_rmw : OpCode → Option Instr
  after_rmw code = first (option_map exchange_of (cmpxchg_at code)) (wait_at code memory arg)

  abbrev after_simd : OpCode → Option Instr
  after_simd code = first (option_map change_of (rmw_at code)) (after_rmw code)

  abbrev after_store : OpCode → Option Instr
  after_store code = first (option_map (simd_access memory arg) (simd_at code None)) (after_simd code)

  abbrev after_load : OpCode → Option Instr
  after_load code = first (option_map (λ kind. instrs.Store memory kind arg) (store_at code)) (after_store code)

  pub access_back : (code : OpCode) (i : Instr) → access_at code memory arg ≡ Some i → Plain code i
  access_back code i e = elim (first_is (option_map (λ kind. instrs.Load memory kind arg) (load_at code)) (after_load code) i e) [
    | inl f ↦ load_back code i f
    | inr e1 ↦ elim (first_is (option_map (λ kind. instrs.Store memory kind arg) (store_at code)) (after_store code) i e1) [
      | inl f ↦ store_back code i f
      | inr e2 ↦ elim (first_is (option_map (simd_access memory arg) (simd_at code None)) (after_simd code) i e2) [
        | inl f ↦ simd_back None code i f
        | inr e3 ↦ elim (first_is (option_map change_of (rmw_at code)) (after_rmw code) i e3) [
          | inl f ↦ rmw_back code i f
          | inr e4 ↦ elim (first_is (option_map exchange_of (cmpxchg_at code)) (wait_at code memory arg) i e4) [
            | inl f ↦ cmpxchg_back code i f
            | inr f ↦ wait_back code i f
          ]
        ]
      ]
    ]
  ]
