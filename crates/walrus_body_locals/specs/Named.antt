-- The locals that operators name.
use Rattle.std.specs.Prelude.{ℕ, suc, All, ◌≡◌, ◌+◌, ◌<◌, ◌≤◌, ◌==◌, ◌||◌, Bool, true, false, List, [], ◌∷◌, ◌++◌, drop, length, map, nat_lt, slice_get, Option, Some, None, Ok, replicate, if◌then◌else◌}
use Rattle.std.specs.Option.{option_and_then}
use Rattle.std.specs.List.{flat_map, list_any, range_with_len}
use Rattle.wasm_features.specs.declared.WasmFeatures.{WasmFeatures}
use Rattle.wasm_reader.specs.Cursor.{Cursor, Forward, rest}
use Rattle.walrus_pairing.specs.wasm_operators.Operators.{Seen, operator_at}
use Rattle.walrus_body_nesting.specs.wasm_normal_form.Bodies.{local_in}

-- these operators stand one behind another, up to the end of the bytes
abbrev pub AreOperators : WasmFeatures → List ℕ → List Seen → Type 0
AreOperators features bytes [] = bytes ≡ []
AreOperators features bytes (op ∷ ops) = (later : List ℕ) × (operator_at features bytes ≡ Ok (Some op, later)) × AreOperators features later ops

-- the numbers of the locals that an operator names
abbrev pub locals_of : Seen → List ℕ
locals_of op = flat_map local_in op.items

-- whether one of the operators names the local of this number
abbrev pub names_local : List Seen → ℕ → Bool
names_local ops n = list_any (λ m. m == n) (flat_map locals_of ops)

-- which of so many locals, behind so many parameters, the operators name
abbrev pub named_of : ℕ → ℕ → List Seen → List Bool
named_of params count ops = map (λ n. names_local ops n) (range_with_len params count)

-- those that are kept, by their numbers from this one on
abbrev pub kept_numbers : ℕ → List Bool → List ℕ
kept_numbers n [] = []
kept_numbers n (true ∷ ks) = n ∷ kept_numbers (suc n) ks
kept_numbers n (false ∷ ks) = kept_numbers (suc n) ks

-- how many of them are kept
abbrev pub kept_count : List Bool → ℕ
kept_count [] = 0
kept_count (true ∷ ks) = suc (kept_count ks)
kept_count (false ∷ ks) = kept_count ks

-- of these, those that are kept
abbrev pub kept_of : {A : Type 0} → List Bool → List A → List A
kept_of [] xs = []
kept_of (k ∷ ks) [] = []
kept_of (true ∷ ks) (x ∷ xs) = x ∷ kept_of ks xs
kept_of (false ∷ ks) (x ∷ xs) = kept_of ks xs

-- which of so many locals that a body declares behind so many parameters are kept: all, where all are wanted; else those that its operators name
abbrev pub kept_by : Bool → ℕ → ℕ → List Seen → List Bool
kept_by true params count ops = replicate count true
kept_by false params count ops = named_of params count ops

-- so it is, where operators stand behind the declarations, up to the end of the bytes
abbrev pub AreKept : WasmFeatures → Bool → ℕ → ℕ → List ℕ → List Bool → Type 0
AreKept features all params count bytes kept = (ops : List Seen) → AreOperators features bytes ops → kept ≡ kept_by all params count ops

-- ---- as they are looked for

-- the one, or none
abbrev pub one_of : Option ℕ → List ℕ
one_of None = []
one_of (Some n) = n ∷ []

-- whether a number is among these
abbrev pub is_among : List ℕ → ℕ → Bool
is_among ns n = list_any (λ m. m == n) ns

-- of so many, those whose numbers are among these
abbrev pub among : ℕ → List ℕ → List Bool
among count ns = map (is_among ns) (range_with_len 0 count)

-- of so many locals behind so many parameters some were noted, by their numbers behind these, and then those of these numbers
pub record Notes (params count : ℕ) (numbers old new : List ℕ) : Type 0 where
  pub below : All (λ n. n < count) old → All (λ n. n < count) new
  pub are : (n : ℕ) → n < count → is_among new n ≡ (is_among old n || is_among numbers (params + n))

-- the next operator was read, and the local noted that it names; or there is none
abbrev pub Steps : ℕ → ℕ → Cursor → Cursor → List ℕ → List ℕ → Bool → Type 0
Steps params count old new ns ms true =
    (op : Seen) × (operator_at old.window.features (rest old) ≡ Ok (Some op, rest new)) × Notes params count (locals_of op) ns ms × Forward old new × (length (rest new) < length (rest old))
Steps params count old new ns ms false = ((op : Seen) (later : List ℕ) → operator_at old.window.features (rest old) ≡ Ok (Some op, later) → ⊥) × (ms ≡ ns)

-- ---- as they are declared

-- the number at this place, if it is below that one
abbrev pub next_below : List ℕ → ℕ → ℕ → Option ℕ
next_below numbers place end = option_and_then (λ n. if nat_lt n end then Some n else None) (slice_get numbers place)

-- the numbers from this place on are those of the ones that are kept, of these from this number on and of more behind them
pub record AreNumbers (numbers : List ℕ) (place from end : ℕ) (kept more : List Bool) : Type 0 where
  pub many : from + length kept ≡ end
  pub follow : drop place numbers ≡ kept_numbers from (kept ++ more)

-- the numbers are those of the ones that are kept
pub record AreAll (numbers : List ℕ) (count : ℕ) (kept : List Bool) : Type 0 where
  pub many : length kept ≡ count
  pub are : numbers ≡ kept_numbers 0 kept
