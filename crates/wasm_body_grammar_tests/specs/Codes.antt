-- The table of operators, over all numbers: which none has, and which a feature gates.
use Rattle.std.specs.Prelude.{ℕ, zero, suc, ◌≤◌, ◌≡◌, Bool, true, false, not, List, [], ◌∷◌, ◌++◌, filter, Option, Some, None}
use Rattle.std.specs.Option.{is_some}
use Rattle.wasm_operators.specs.declared.entry.Gate.{Gate}
use Rattle.wasm_operators.specs.declared.entry.Gate.TheVariants as gates
use Rattle.wasm_operators.specs.declared.entry.Entry.{Entry}
use Rattle.wasm_operators.specs.Table.{find_code}

abbrev pub below : ℕ → List ℕ
below zero = []
below (suc n) = below n ++ n ∷ []

-- the numbers below a bound, behind a prefix or without one, that are no operator's
abbrev pub missing : ℕ → ℕ → List ℕ
missing prefix bound = filter (λ n. not (is_some (find_code prefix n))) (below bound)

abbrev pub is_legacy : Option Entry → Bool
is_legacy None = false
is_legacy (Some e) = for_exceptions e.gate
  where
    for_exceptions : Gate → Bool
    for_exceptions gates.LegacyExceptions = true
    for_exceptions _ = false

abbrev pub is_wide : Option Entry → Bool
is_wide None = false
is_wide (Some e) = for_arithmetic e.gate
  where
    for_arithmetic : Gate → Bool
    for_arithmetic gates.WideArithmetic = true
    for_arithmetic _ = false

abbrev pub gated : (Option Entry → Bool) → ℕ → ℕ → List ℕ
gated is prefix bound = filter (λ n. is (find_code prefix n)) (below bound)

-- no number from a bound on
abbrev pub NoneFrom : ℕ → ℕ → Type 0
NoneFrom prefix bound = (n : ℕ) → bound ≤ n → find_code prefix n ≡ None

pub record CodesHold : Type 0 where
  pub bytes : missing 0 0xd7
      ≡ 0x16 ∷ 0x17 ∷ 0x1d ∷ 0x1e ∷ 0x27 ∷ 0xc5 ∷ 0xc6 ∷ 0xc7 ∷ 0xc8 ∷ 0xc9 ∷ 0xca ∷ 0xcb ∷ 0xcc ∷ 0xcd ∷ 0xce ∷ 0xcf ∷ []
  pub objects : missing 0xfb 31 ≡ []
  pub bulk : missing 0xfc 23 ≡ 18 ∷ []
  pub vectors : missing 0xfd 276
      ≡ 154 ∷ 162 ∷ 165 ∷ 166 ∷ 175 ∷ 176 ∷ 178 ∷ 179 ∷ 180 ∷ 187 ∷ 194 ∷ 197 ∷ 198 ∷ 207 ∷ 208 ∷ 210 ∷ 211 ∷ 212 ∷ 226 ∷ 238 ∷ []
  pub atomics : missing 0xfe 79 ≡ 4 ∷ 5 ∷ 6 ∷ 7 ∷ 8 ∷ 9 ∷ 10 ∷ 11 ∷ 12 ∷ 13 ∷ 14 ∷ 15 ∷ []
  -- none behind these, so no number is an alias of a small one
  pub bytes_end : NoneFrom 0 0xd7
  pub objects_end : NoneFrom 0xfb 31
  pub bulk_end : NoneFrom 0xfc 23
  pub vectors_end : NoneFrom 0xfd 276
  pub atomics_end : NoneFrom 0xfe 79
  pub legacy : gated is_legacy 0 0xd7 ≡ 0x06 ∷ 0x07 ∷ 0x09 ∷ 0x18 ∷ 0x19 ∷ []
  pub wide : gated is_wide 0xfc 23 ≡ 19 ∷ 20 ∷ 21 ∷ 22 ∷ []
  -- all others are always on
  pub legacy_behind : gated is_legacy 0xfb 31 ++ gated is_legacy 0xfc 23 ++ gated is_legacy 0xfd 276 ++ gated is_legacy 0xfe 79 ≡ []
  pub wide_elsewhere : gated is_wide 0 0xd7 ++ gated is_wide 0xfb 31 ++ gated is_wide 0xfd 276 ++ gated is_wide 0xfe 79 ≡ []
