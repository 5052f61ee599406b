-- The values of a field of `producers`.
use Rattle.std.specs.Prelude.{ℕ, suc, ◌+◌, ◌-◌, ◌≤◌, ◌<◌, ◌≡◌, List, [], ◌∷◌, ◌++◌, map, Option, Some, None, Ok, Err, refl}
use Rattle.std.specs.Borrow.{Bor}
use Rattle.std.specs.Global.{Vec}
use Rattle.std.proofs.Common.{ap, sym, ◌∙◌, arith}
use Rattle.std.proofs.lemmas.List.{append_assoc, append-nil, map-append}
use Rattle.wasm_reader.specs.Cursor.{Cursor, rest}
use Rattle.wasm_formats.specs.Stops.{Parsing, ◌>>=◌}
use Rattle.wasm_formats.specs.Formats.{Format}
use Rattle.wasm_formats.specs.Lists.{vec, parse_entries}
use Rattle.wasm_name_payloads.specs.Producers.{value}
use Rattle.wasm_producers.specs.Entries.{Value}
use Rattle.walrus_customs.specs.declared.producers.ProducerValue.{ProducerValue}
use Rattle.walrus_customs.specs.Producers.{value_of}
use Rattle.walrus_payload_readers.specs.Gives.{unless_refused}

-- a value by its name and its version
abbrev pub pair_of : Bor (List ℕ) × Bor (List ℕ) → Value
pair_of p = record { name = p.0.now; version = p.1.now }

-- so many values
abbrev pub values_in : ℕ → List ℕ → Parsing (List Value)
values_in count bytes = parse_entries (λ (s : Unit {0}) _. s) (λ _. value) count tt bytes

abbrev pub values : Format (List Value)
values = vec (λ (s : Unit {0}) _. s) (λ _. value) tt

abbrev pub values_seen : Vec ProducerValue → List Value
values_seen v = map value_of v.items

-- ---- Lemmas: values that are collected

abbrev pub behind_these : List Value → Option (List Value × List ℕ) → Option (List Value × List ℕ)
behind_these items (Some x) = Some (items ++ x.0, x.1)
behind_these items None = None

-- after `i` of `count` values: behind those that were read, what is left gives what all give
abbrev pub Collects : List ProducerValue → Cursor → Cursor → ℕ → ℕ → Type 0
Collects now start here count i = behind_these (map value_of now) (unless_refused (values_in (count - i) (rest here))) ≡ unless_refused (values_in count (rest start))

none_before : (r : Option (List Value × List ℕ)) → behind_these [] r ≡ r
none_before (Some x) = refl
none_before None = refl

pub collects_none : (start : Cursor) (count : ℕ) → Collects [] start start count 0
collects_none start count = let all : count - 0 ≡ count = omega arith in rw all (none_before (unless_refused (values_in count (rest start))))

abbrev more_of : ℕ → Parsing Value → Parsing (List Value)
more_of n r = r >>= λ x. values_in n x.1 >>= λ xs. Ok (x.0 ∷ xs.0, xs.1)

front_one : (items : List Value) (v : Value) (r : Parsing (List Value)) → behind_these (items ++ v ∷ []) (unless_refused r) ≡ behind_these items (unless_refused (r >>= λ xs. Ok (v ∷ xs.0, xs.1)))
front_one items v (Ok xs) = rw (append_assoc items (v ∷ []) xs.0) refl
front_one items v (Err s) = refl

value_on : (items : List Value) (n : ℕ) (v : Value) (new : Cursor) (r : Parsing Value) → unless_refused r ≡ Some (v, rest new)
    → behind_these (items ++ v ∷ []) (unless_refused (values_in n (rest new))) ≡ behind_these items (unless_refused (more_of n r))
value_on items n v new (Ok x) e = let same : x ≡ (v, rest new) = cc in rw same (front_one items v (values_in n (rest new)))
value_on items n v new (Err s) e = absurd cc

value_not : (items : List Value) (n : ℕ) (r : Parsing Value) → unless_refused r ≡ None → behind_these items (unless_refused (more_of n r)) ≡ None
value_not items n (Ok x) e = absurd cc
value_not items n (Err s) e = refl

pub collects : (now more : List ProducerValue) (start here new : Cursor) (count i : ℕ) (v : Value) (x : ProducerValue) → Collects now start here count i → i < count
    → unless_refused (value.parse (rest here)) ≡ Some (v, rest new) → more ≡ now ++ x ∷ [] → value_of x ≡ v → Collects more start new count (i + 1)
collects now more start here new count i v x so below h same is =
    let n : count - i ≡ suc (count - (i + 1)) = omega arith in
    let all : map value_of more ≡ map value_of now ++ v ∷ [] = ap (map value_of) same ∙ map-append value_of now (x ∷ []) ∙ ap (λ (w : Value). map value_of now ++ w ∷ []) is in
    ap (λ (l : List Value). behind_these l (unless_refused (values_in (count - (i + 1)) (rest new)))) all
    ∙ value_on (map value_of now) (count - (i + 1)) v new (value.parse (rest here)) h ∙ sym (rw n refl) ∙ so

pub collects_not : (now : List ProducerValue) (start here : Cursor) (count i : ℕ) → Collects now start here count i → i < count → unless_refused (value.parse (rest here)) ≡ None
    → unless_refused (values_in count (rest start)) ≡ None
collects_not now start here count i so below h =
    let n : count - i ≡ suc (count - (i + 1)) = omega arith in
    sym so ∙ rw n (value_not (map value_of now) (count - (i + 1)) (value.parse (rest here)) h)

pub collected : (now : List ProducerValue) (start here : Cursor) (count i : ℕ) → Collects now start here count i → count ≤ i → unless_refused (values_in count (rest start)) ≡ Some (map value_of now, rest here)
collected now start here count i so above =
    let n : count - i ≡ 0 = omega arith in
    sym so ∙ rw n (ap (λ (l : List Value). Some (l, rest here)) (append-nil (map value_of now)))
