-- Formats: a grammar, the rules on its values, the parsing from left to right that tests each rule as soon as it is due, and where that stops;
-- with the laws that tie them.
use Rattle.std.specs.Prelude.{ℕ, ◌+◌, ◌<◌, ◌≤◌, ◌≡◌, false, List, ◌++◌, length, All, Result, Ok, Err, refl}
use Rattle.std.proofs.Common.{ap, sym, subst, arith}
use Rattle.std.proofs.lemmas.List.{append_assoc, length-append, get_or_append_left}
use Rattle.wasm_reader.specs.declared.error.ErrorKind.{ErrorKind}
use Rattle.wasm_reader.specs.declared.error.ErrorKind.TheVariants as kinds
use Rattle.wasm_reader.specs.Reading.{Reading, Fault, fault}
use Rattle.wasm_reader.specs.Laws.{TakesSpelled, StaysWithin, IsFinal, Grows, GrowsFault}
use Rattle.wasm_reader.specs.Vecs.{later_bytes}
use Rattle.wasm_formats.specs.Stops.{Read, Stop, stop, moved, can_end, Parsing, ◌>>=◌, value_at}

-- numbers that are bytes
abbrev pub Small : List ℕ → Type 0
Small bytes = All (λ b. b < 256) bytes

-- a value stands at the front of the bytes, and meets the rules
abbrev pub Stands : {A : Type 0} → (List ℕ → A → Type 0) → (A → Type 0) → List ℕ → List ℕ → A → Type 0
Stands spells rules bytes later x = (front : List ℕ) × (bytes ≡ front ++ later) × spells front x × rules x

-- what is left, or the place where parsing stops, lies in so many bytes
abbrev pub Inside : {A : Type 0} → ℕ → Parsing A → Type 0
Inside n (Ok x) = length x.1 ≤ n
Inside n (Err s) = s.left ≤ n

abbrev pub InsideAll : {A : Type 0} → ℕ → Result A Stop → Type 0
InsideAll n (Ok x) = Unit {0}
InsideAll n (Err s) = s.left ≤ n

-- a value at the front of bytes
pub record Format (A : Type 0) : Type 1 where
  -- the grammar
  pub spells : List ℕ → A → Type 0
  -- what is asked of the value beyond it
  pub rules : A → Type 0
  -- what is refused, and where: in words of the grammar and the rules
  pub stops : List ℕ → Stop → Type 0
  -- from left to right
  pub parse : List ℕ → Parsing A
  -- what is parsed is spelled and meets the rules
  pub found : (bytes later : List ℕ) (x : A) → Small bytes → parse bytes ≡ Ok (x, later) → Stands spells rules bytes later x
  -- what is spelled and meets the rules is parsed, whatever follows
  pub again : (bytes more : List ℕ) (x : A) → spells bytes x → rules x → parse (bytes ++ more) ≡ Ok (x, more)
  -- where parsing stops, the refusal holds, and the other way round
  pub told : (bytes : List ℕ) (s : Stop) → Small bytes → parse bytes ≡ Err s → stops bytes s
  pub tells : (bytes : List ℕ) (s : Stop) → stops bytes s → parse bytes ≡ Err s
  -- places lie inside the bytes
  pub within : (bytes : List ℕ) → Inside (length bytes) (parse bytes)
  -- bytes behind a refusal don't change it, the end of the bytes aside
  pub final : (bytes more : List ℕ) (s : Stop) → Small bytes → parse bytes ≡ Err s → can_end s.trouble ≡ false → parse (bytes ++ more) ≡ Err (moved (length more) s)

-- a value that is all of the bytes
pub record Whole (A : Type 0) : Type 1 where
  pub spells : List ℕ → A → Type 0
  pub rules : A → Type 0
  pub stops : List ℕ → Stop → Type 0
  pub parse : List ℕ → Result A Stop
  pub found : (bytes : List ℕ) (x : A) → Small bytes → parse bytes ≡ Ok x → spells bytes x × rules x
  pub again : (bytes : List ℕ) (x : A) → spells bytes x → rules x → parse bytes ≡ Ok x
  pub told : (bytes : List ℕ) (s : Stop) → Small bytes → parse bytes ≡ Err s → stops bytes s
  pub tells : (bytes : List ℕ) (s : Stop) → stops bytes s → parse bytes ≡ Err s
  pub within : (bytes : List ℕ) → InsideAll (length bytes) (parse bytes)
  pub final : (bytes more : List ℕ) (s : Stop) → Small bytes → parse bytes ≡ Err s → can_end s.trouble ≡ false → parse (bytes ++ more) ≡ Err (moved (length more) s)

-- ---- steps

abbrev pub done : {A : Type 0} → A → Result A Stop
done x = Ok x

pub done_is : {A : Type 0} (x y : A) → done x ≡ done y → x ≡ y
done_is x y e = cc

abbrev pub refused : {A : Type 0} → Stop → Result A Stop
refused s = Err s

pub refused_is : {A : Type 0} (s t : Stop) → refused {A = A} s ≡ refused t → s ≡ t
refused_is s t e = cc

-- what is done isn't refused
pub done_refused : {A P : Type 0} (x : A) (s : Stop) → done x ≡ refused s → P
done_refused x s e = absurd cc

-- a step that succeeds, and then another
pub step_ok : {A B : Type 0} {P : Type 0} (r : Result A Stop) (f : A → Result B Stop) (y : B) → (r >>= f) ≡ Ok y → ((x : A) → r ≡ Ok x → f x ≡ Ok y → P) → P
step_ok (Ok x) f y e prove = prove x refl e
step_ok (Err d) f y e prove = absurd cc

-- a step that is refused, or another behind it
pub step_err : {A B : Type 0} {P : Type 0} (r : Result A Stop) (f : A → Result B Stop) (s : Stop) → (r >>= f) ≡ Err s → (r ≡ Err s → P) → ((x : A) → r ≡ Ok x → f x ≡ Err s → P) → P
step_err (Ok x) f s e first second = second x refl e
step_err {A} {B} (Err d) f s e first second = first (ap refused (refused_is {A = B} d s e))

pub value_ok : {A : Type 0} (r : Reading A) (x : A × List ℕ) → value_at r ≡ Ok x → r ≡ Ok x
value_ok (Ok x) y e = cc
value_ok (Err d) y e = absurd cc

pub inside_value : {A : Type 0} (n : ℕ) (r : Reading A) → StaysWithin n r → Inside n (value_at r)
inside_value n (Ok x) h = h
inside_value n (Err d) h = h

pub inside_later : {A : Type 0} (n m : ℕ) (r : Parsing A) → n ≤ m → Inside n r → Inside m r
inside_later n m (Ok x) le h = omega (arith, le, h)
inside_later n m (Err s) le h = omega (arith, le, h)

pub inside_step : {A B : Type 0} (n : ℕ) (r : Parsing A) (f : A × List ℕ → Parsing B) → Inside n r → ((x : A × List ℕ) → Inside (length x.1) (f x)) → Inside n (r >>= f)
inside_step n (Ok x) f h k = inside_later (length x.1) n (f x) h (k x)
inside_step n (Err s) f h k = h

-- a step whose continuation is inside the whole
pub inside_wide : {A B : Type 0} (n : ℕ) (r : Parsing A) (f : A × List ℕ → Parsing B) → Inside n r → ((x : A × List ℕ) → length x.1 ≤ n → Inside n (f x)) → Inside n (r >>= f)
inside_wide n (Ok x) f h k = k x h
inside_wide n (Err s) f h k = h

pub front_small : (front later : List ℕ) → Small (front ++ later) → Small front
front_small front later small i d lt = rw (← get_or_append_left front later d i lt) (small i d (omega (arith, length-append front later)))

-- the bytes behind a value are bytes
pub behind_small : {A : Type 0} (f : Format A) (bytes later : List ℕ) (x : A) → Small bytes → f.parse bytes ≡ Ok (x, later) → Small later
behind_small f bytes later x small e = let s = f.found bytes later x small e in later_bytes s.0 later (subst Small s.1 small)

-- what is parsed stays, whatever follows
pub parsed_final : {A : Type 0} (f : Format A) (bytes later more : List ℕ) (x : A) → Small bytes → f.parse bytes ≡ Ok (x, later) → f.parse (bytes ++ more) ≡ Ok (x, later ++ more)
parsed_final f bytes later more x small e =
    let s = f.found bytes later x small e in
    rw (s.1, append_assoc s.0 later more) (f.again s.0 (later ++ more) x s.2 s.3)

-- ---- what the reader below reads

-- a fault of the reader, as a refusal
abbrev pub StopsReading : {A : Type 0} → (List ℕ → Reading A) → List ℕ → Stop → Type 0
StopsReading reading bytes s = (e : Fault) × (reading bytes ≡ Err e) × (s ≡ stop (Read e.kind) e.left)

pub reading_told : {A : Type 0} (r : Reading A) (s : Stop) → value_at r ≡ Err s → (e : Fault) × (r ≡ Err e) × (s ≡ stop (Read e.kind) e.left)
reading_told (Ok x) s e = absurd cc
reading_told {A} (Err d) s e = (d, refl, sym (refused_is {A = A × List ℕ} (stop (Read d.kind) d.left) s e))

-- a fault that isn't the end stays
pub fault_stays : {A : Type 0} (kind : ErrorKind) (left : ℕ) (more : List ℕ) (after : Reading A) → GrowsFault kind left more after → can_end (Read kind) ≡ false → after ≡ Err (fault kind (left + length more))
fault_stays (kinds.EndOfFile missing) left more after h e = absurd cc
fault_stays kinds.TooLong left more after h e = h
fault_stays kinds.TooLarge left more after h e = h
fault_stays kinds.Utf8 left more after h e = h
fault_stays kinds.BadByte left more after h e = h
fault_stays kinds.Limit left more after h e = h
fault_stays (kinds.Feature feature) left more after h e = h
fault_stays kinds.Trailing left more after h e = h
fault_stays kinds.Memory left more after h e = h

pub reading_final : {A : Type 0} (more : List ℕ) (r after : Reading A) (s : Stop) → Grows more r after → value_at r ≡ Err s → can_end s.trouble ≡ false → value_at after ≡ Err (moved (length more) s)
reading_final more (Ok x) after s h e k = absurd cc
reading_final {A} more (Err d) after s h e k =
    let same = refused_is {A = A × List ℕ} (stop (Read d.kind) d.left) s e in
    subst (λ (s : Stop). value_at after ≡ Err (moved (length more) s)) same
    (ap (λ (r : Reading A). value_at r) (fault_stays d.kind d.left more after h (subst (λ (s : Stop). can_end s.trouble ≡ false) (sym same) k)))

abbrev pub leaf : {A : Type 0} (reading : List ℕ → Reading A) (spells : List ℕ → A → Type 0) → TakesSpelled reading spells → IsFinal reading → Format A
leaf reading spells taken final = record {
  spells = spells;
  rules = λ _. Unit {0};
  stops = StopsReading reading;
  parse = λ bytes. value_at (reading bytes);
  found = λ bytes later x small e. let f = taken.found bytes later x small (value_ok (reading bytes) (x, later) e) in (f.0, f.2, f.1, tt);
  again = λ bytes more x h r. ap (λ z. value_at z) (taken.again bytes more x h);
  told = λ bytes s small e. reading_told (reading bytes) s e;
  tells = λ bytes s h. rw (h.1, h.2) refl;
  within = λ bytes. inside_value (length bytes) (reading bytes) (final.within bytes);
  final = λ bytes more s small e k. reading_final more (reading bytes) (reading (bytes ++ more)) s (final.grows bytes more) e k;
}
