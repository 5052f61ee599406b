-- Values that are put into a state as they are parsed: what readers do, in words of the formats.
use Rattle.std.specs.Prelude.{ℕ, zero, suc, ◌-◌, ◌<◌, ◌≡◌, ◌==◌, nat_lt, Bool, true, false, List, [], ◌∷◌, length, take, drop, fold, Result, Ok, Err, if◌then◌else◌, refl}
use Rattle.std.proofs.Common.{ap, sym, ◌∙◌}
use Rattle.wasm_formats.specs.Stops.{Count, SectionSize, Stop, stop, Parsing, ◌>>=◌, before}
use Rattle.wasm_formats.specs.Formats.{Format, Whole}
use Rattle.wasm_formats.specs.Joined.{built}
use Rattle.wasm_formats.specs.Wholes.{u32, filled, whole, sized, window}
use Rattle.wasm_formats.specs.Lists.{vec, parse_entries}
use Rattle.wasm_formats.specs.Files.{parse_all}

abbrev pub put_in : {A S : Type 0} → (A → S) → A × List ℕ → Parsing S
put_in put x = Ok (put x.0, x.1)

abbrev pub put_all : {A S : Type 0} → (A → S) → A → Result S Stop
put_all put x = Ok (put x)

-- a value is parsed and put into the state
abbrev pub stepped : {A S : Type 0} → Format A → (A → S) → List ℕ → Parsing S
stepped f put bytes = f.parse bytes >>= put_in put

abbrev pub stepped_whole : {A S : Type 0} → Whole A → (A → S) → List ℕ → Result S Stop
stepped_whole f put bytes = f.parse bytes >>= put_all put

put_twice : {A B S : Type 0} (into : A → B) (put : B → S) (r : Parsing A) → ((r >>= put_in into) >>= put_in put) ≡ (r >>= put_in (λ x. put (into x)))
put_twice into put (Ok x) = refl
put_twice into put (Err e) = refl

-- what was built is put as what it was built of
pub stepped_built : {A B S : Type 0} (f : Format A) (into : A → B) (injective : (x y : A) → into x ≡ into y → x ≡ y) (put : B → S) (bytes : List ℕ)
    → stepped (built f into injective) put bytes ≡ stepped f (λ x. put (into x)) bytes
stepped_built f into injective put bytes = put_twice into put (f.parse bytes)

module _ {S : Type 0} (step : S → List ℕ → Parsing S) where
  -- so many steps
  unfoldable pub entries_by : ℕ → S → List ℕ → Parsing S
  entries_by zero s bytes = Ok (s, bytes)
  entries_by (suc count) s bytes = step s bytes >>= λ x. entries_by count x.0 x.1

  -- a count, and so many steps
  abbrev pub vec_by : S → List ℕ → Parsing S
  vec_by s bytes = u32.parse bytes >>= λ n. entries_by n.0 s n.1

  -- steps to the end
  unfoldable pub all_by : ℕ → S → List ℕ → Result S Stop
  all_by fuel s [] = Ok s
  all_by zero s (b ∷ bytes) = Err (stop Count 0)
  all_by (suc fuel) s (b ∷ bytes) = step s (b ∷ bytes) >>= λ x. all_by fuel x.0 x.1

-- bytes that are parsed to their end
abbrev pub whole_by : {S : Type 0} → (List ℕ → Parsing S) → List ℕ → Result S Stop
whole_by parse bytes = parse bytes >>= λ x. filled x

-- the contents, where there are so many bytes; and the bytes behind them
abbrev pub window_by : {S : Type 0} → (List ℕ → Result S Stop) → ℕ → ℕ × List ℕ → Parsing S
window_by parse left n =
    if nat_lt (length n.1) n.0 then Err (stop SectionSize left)
    else (before (length n.1 - n.0) (parse (take n.0 n.1)) >>= λ x. Ok (x, drop n.0 n.1))

-- a size, and so many bytes that are parsed to their end
abbrev pub sized_by : {S : Type 0} → (List ℕ → Result S Stop) → List ℕ → Parsing S
sized_by parse bytes = u32.parse bytes >>= window_by parse (length bytes)

filled_put : {A S : Type 0} (put : A → S) (x : A × List ℕ) → (filled x >>= put_all put) ≡ filled (put x.0, x.1)
filled_put {A} {S} put x =
    let left : Bool → Result A Stop = λ b. if b then Ok x.0 else Err (stop SectionSize (length x.1)) in
    let right : Bool → Result S Stop = λ b. if b then Ok (put x.0) else Err (stop SectionSize (length x.1)) in
    elim (length x.1 == 0) as (λ b. (left b >>= put_all put) ≡ right b) [
      | true ↦ refl
      | false ↦ refl
    ]

whole_go : {A S : Type 0} (put : A → S) (r : Parsing A) → ((r >>= λ x. filled x) >>= put_all put) ≡ ((r >>= put_in put) >>= λ x. filled x)
whole_go put (Ok x) = filled_put put x
whole_go put (Err e) = refl

pub whole_steps : {A S : Type 0} (f : Format A) (put : A → S) (bytes : List ℕ) → stepped_whole (whole f) put bytes ≡ whole_by (stepped f put) bytes
whole_steps f put bytes = whole_go put (f.parse bytes)

window_go : {A S : Type 0} (put : A → S) (k : ℕ) (later : List ℕ) (r : Result A Stop)
    → ((before k r >>= λ x. Ok (x, later)) >>= put_in put) ≡ (before k (r >>= put_all put) >>= λ x. Ok (x, later))
window_go put k later (Ok x) = refl
window_go put k later (Err e) = refl

window_put : {A S : Type 0} (w : Whole A) (put : A → S) (left : ℕ) (n : ℕ × List ℕ) → (window w left n >>= put_in put) ≡ window_by (stepped_whole w put) left n
window_put {A} {S} w put left n =
    let one : Bool → Parsing A = λ b. if b then Err (stop SectionSize left) else (before (length n.1 - n.0) (w.parse (take n.0 n.1)) >>= λ x. Ok (x, drop n.0 n.1)) in
    let two : Bool → Parsing S = λ b. if b then Err (stop SectionSize left) else (before (length n.1 - n.0) (stepped_whole w put (take n.0 n.1)) >>= λ x. Ok (x, drop n.0 n.1)) in
    elim (nat_lt (length n.1) n.0) as (λ b. (one b >>= put_in put) ≡ two b) [
      | true ↦ refl
      | false ↦ window_go put (length n.1 - n.0) (drop n.0 n.1) (w.parse (take n.0 n.1))
    ]

sized_go : {A S : Type 0} (w : Whole A) (put : A → S) (left : ℕ) (r : Parsing ℕ) → ((r >>= window w left) >>= put_in put) ≡ (r >>= window_by (stepped_whole w put) left)
sized_go w put left (Ok n) = window_put w put left n
sized_go w put left (Err e) = refl

pub sized_steps : {A S : Type 0} (w : Whole A) (put : A → S) (bytes : List ℕ) → stepped (sized w) put bytes ≡ sized_by (stepped_whole w put) bytes
sized_steps w put bytes = sized_go w put (length bytes) (u32.parse bytes)

module _ {A S : Type 0} (next : S → A → S) (entry : S → Format A) where
  -- each entry is put into the state at once
  abbrev pub step_of : S → List ℕ → Parsing S
  step_of s bytes = stepped (entry s) (next s) bytes

  steps_behind : (s : S) (x : A) (r : Parsing (List A)) → (r >>= put_in (λ xs. fold next (next s x) xs)) ≡ ((r >>= put_in (λ xs. x ∷ xs)) >>= put_in (λ xs. fold next s xs))
  steps_behind s x (Ok xs) = refl
  steps_behind s x (Err e) = refl

  steps_go : (count : ℕ) (s : S) (r : Parsing A) → ((t : S) (b : List ℕ) → entries_by step_of count t b ≡ (parse_entries next entry count t b >>= put_in (λ xs. fold next t xs)))
      → ((r >>= put_in (λ x. next s x)) >>= λ x. entries_by step_of count x.0 x.1) ≡ ((r >>= λ x. parse_entries next entry count (next s x.0) x.1 >>= put_in (λ xs. x.0 ∷ xs)) >>= put_in (λ xs. fold next s xs))
  steps_go count s (Ok x) more = more (next s x.0) x.1 ∙ steps_behind s x.0 (parse_entries next entry count (next s x.0) x.1)
  steps_go count s (Err e) more = refl

  pub steps_are : (count : ℕ) (s : S) (bytes : List ℕ) → entries_by step_of count s bytes ≡ (parse_entries next entry count s bytes >>= put_in (λ xs. fold next s xs))
  unfolding entries_by
  steps_are zero s bytes = refl
  steps_are (suc count) s bytes = steps_go count s ((entry s).parse bytes) (λ t b. steps_are count t b)

  vec_go : (s : S) (r : Parsing ℕ) → (r >>= λ n. entries_by step_of n.0 s n.1) ≡ ((r >>= λ n. parse_entries next entry n.0 s n.1) >>= put_in (λ xs. fold next s xs))
  vec_go s (Ok n) = steps_are n.0 s n.1
  vec_go s (Err e) = refl

  pub vec_steps_are : (s : S) (bytes : List ℕ) → vec_by step_of s bytes ≡ stepped (vec next entry s) (λ xs. fold next s xs) bytes
  vec_steps_are s bytes = vec_go s (u32.parse bytes)

  all_behind : (s : S) (x : A) (r : Result (List A) Stop) → (r >>= put_all (λ xs. fold next (next s x) xs)) ≡ ((r >>= put_all (λ xs. x ∷ xs)) >>= put_all (λ xs. fold next s xs))
  all_behind s x (Ok xs) = refl
  all_behind s x (Err e) = refl

  module _ (takes : (s : S) (bytes : List ℕ) (x : A) → (entry s).spells bytes x → 0 < length bytes) where
    all_go : (fuel : ℕ) (s : S) (r : Parsing A) → ((t : S) (b : List ℕ) → all_by step_of fuel t b ≡ (parse_all next entry takes fuel t b >>= put_all (λ xs. fold next t xs)))
        → ((r >>= put_in (λ x. next s x)) >>= λ x. all_by step_of fuel x.0 x.1) ≡ ((r >>= λ x. parse_all next entry takes fuel (next s x.0) x.1 >>= put_all (λ xs. x.0 ∷ xs)) >>= put_all (λ xs. fold next s xs))
    all_go fuel s (Ok x) more = more (next s x.0) x.1 ∙ all_behind s x.0 (parse_all next entry takes fuel (next s x.0) x.1)
    all_go fuel s (Err e) more = refl

    pub all_steps_are : (fuel : ℕ) (s : S) (bytes : List ℕ) → all_by step_of fuel s bytes ≡ (parse_all next entry takes fuel s bytes >>= put_all (λ xs. fold next s xs))
    unfolding all_by
    all_steps_are fuel s [] = refl
    all_steps_are zero s (b ∷ bytes) = refl
    all_steps_are (suc fuel) s (b ∷ bytes) = all_go fuel s ((entry s).parse (b ∷ bytes)) (λ t l. all_steps_are fuel t l)
