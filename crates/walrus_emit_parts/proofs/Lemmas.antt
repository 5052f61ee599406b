-- What is due is written part by part.
use Rattle.std.specs.Prelude.{ℕ, zero, suc, ◌+◌, ◌-◌, ◌<◌, ◌≤◌, ◌≡◌, ◌⊎◌, List, [], ◌∷◌, ◌++◌, length, take, drop, map, slice_index_or, Result, Ok, Err, MatchResult, refl}
use Rattle.std.specs.List.{flat_map}
use Rattle.std.proofs.Common.{ap, sym, ◌∙◌, subst, arith, inl, inr, lt-ltb, le-ltb}
use Rattle.std.proofs.lemmas.List.{append_assoc, append-nil, length-append, length-map, map-append, take_at, drop_at, take-map, drop-map, take-append-le, drop-append-le, take-append-drop, length-drop}
use Rattle.std.specs.declared.alloc.AllocError.{AllocError}
use Rattle.wasm_operators.specs.Bytes.{unsigned_bytes}
use Rattle.walrus_operators.specs.Appended.{Keeps, Appends}
use Rattle.wasm_operators.proofs.Keeps.{keeps_all, keeps_on}
use Rattle.wasm_formats.specs.declared.fault.Limited.{Limited}
use Rattle.walrus_errors.specs.declared.error.ModuleError.{ModuleError}
use Rattle.walrus_errors.specs.declared.error.ModuleError.TheVariants.{Memory, OutputLimit}
use Rattle.walrus_emit_parts.specs.Due.{Due, written, lacking, Lacks, IsTooMany, Refused, Writes, or_memory, number, sized, vec, limited}

-- ---- refusals

wider : (n m : ℕ) (e : ModuleError) → n ≤ m → IsTooMany n e → IsTooMany m e
wider n m e le h = (h.0, omega (arith, le, h.1))

lacks_front : (a b : Due) (e : ModuleError) → Lacks a e → Lacks (a ++ b) e
lacks_front a b e h = record { front = h.front; back = h.back ++ b; parts = ap (λ (l : Due). l ++ b) h.parts ∙ append_assoc h.front (Err e ∷ h.back) b }

lacks_back : (a b : Due) (e : ModuleError) → Lacks b e → Lacks (a ++ b) e
lacks_back a b e h = record { front = a ++ h.front; back = h.back; parts = ap (λ (l : Due). a ++ l) h.parts ∙ sym (append_assoc a h.front (Err e ∷ h.back)) }

cause_front : (a b : Due) (e : ModuleError) → (e ≡ Memory) ⊎ (Lacks a e ⊎ IsTooMany (length a) e) → (e ≡ Memory) ⊎ (Lacks (a ++ b) e ⊎ IsTooMany (length (a ++ b)) e)
cause_front a b e (inl h) = inl h
cause_front a b e (inr (inl h)) = inr (inl (lacks_front a b e h))
cause_front a b e (inr (inr h)) = inr (inr (wider (length a) (length (a ++ b)) e (omega (arith, length-append a b)) h))

cause_back : (a b : Due) (e : ModuleError) → (e ≡ Memory) ⊎ (Lacks b e ⊎ IsTooMany (length b) e) → (e ≡ Memory) ⊎ (Lacks (a ++ b) e ⊎ IsTooMany (length (a ++ b)) e)
cause_back a b e (inl h) = inl h
cause_back a b e (inr (inl h)) = inr (inl (lacks_back a b e h))
cause_back a b e (inr (inr h)) = inr (inr (wider (length b) (length (a ++ b)) e (omega (arith, length-append a b)) h))

-- the first of two is refused
pub refused_front : (a b : Due) (old new : List ℕ) (e : ModuleError) → Refused a old new e → Refused (a ++ b) old new e
refused_front a b old new e h = record { keeps = h.keeps; cause = cause_front a b e h.cause }

pub refused_memory : (due : Due) (old new : List ℕ) → Keeps old new → Refused due old new Memory
refused_memory due old new h = record { keeps = h; cause = inl refl }

-- it is all that is due
pub lacks_it : (e : ModuleError) (old new : List ℕ) → new ≡ old → Refused (lacking e) old new e
lacks_it e old new same = record { keeps = keeps_all old new same; cause = inr (inl (record { front = []; back = []; parts = refl })) }

-- a limit is passed, or it isn't
pub limit_passed : (most n : ℕ) (of : Limited) (due : Due) (old new : List ℕ) → most < n → new ≡ old → Refused (limited most n of due) old new (OutputLimit of)
limit_passed most n of due old new lt same = rw (lt-ltb most n lt) (lacks_it (OutputLimit of) old new same)

pub within : (most n : ℕ) (of : Limited) (due : Due) (old new : List ℕ) (result : Result (Unit {0}) ModuleError) → n ≤ most → Writes due old new result
    → Writes (limited most n of due) old new result
within most n of due old new result le h = rw (le-ltb most n le) h

-- ---- bytes and what is due

abbrev pub ok_of : Result ℕ ModuleError → ℕ
ok_of (Ok b) = b
ok_of (Err e) = 0

unwritten : (bytes : List ℕ) → map ok_of (written bytes) ≡ bytes
unwritten [] = refl
unwritten (b ∷ bytes) = ap (λ (l : List ℕ). b ∷ l) (unwritten bytes)

pub written_once : (xs ys : List ℕ) → written xs ≡ written ys → xs ≡ ys
written_once xs ys e = sym (unwritten xs) ∙ ap (λ (l : Due). map ok_of l) e ∙ unwritten ys

pub written_both : (xs ys : List ℕ) → written (xs ++ ys) ≡ written xs ++ written ys
written_both xs ys = map-append (λ (b : ℕ). Ok b) xs ys

pub written_size : (bytes : List ℕ) → length (written bytes) ≡ length bytes
written_size bytes = length-map bytes (λ (b : ℕ). Ok b)

-- what was written stands behind what was there
pub behind_it : (old new : List ℕ) (due : Due) → written new ≡ written old ++ due → new ≡ old ++ map ok_of due
behind_it old new due h =
    sym (unwritten new) ∙ ap (λ (l : Due). map ok_of l) h ∙ map-append ok_of (written old) due ∙ ap (λ (l : List ℕ). l ++ map ok_of due) (unwritten old)

pub keeps_written : (old new : List ℕ) (due : Due) → written new ≡ written old ++ due → Keeps old new
keeps_written old new due h = record { more = map ok_of due; behind = behind_it old new due h }

pub puts : (old new bytes : List ℕ) → new ≡ old ++ bytes → written new ≡ written old ++ written bytes
puts old new bytes h = ap (λ (l : List ℕ). written l) h ∙ written_both old bytes

-- ---- one part behind another

refused_on : (a b : Due) (old mid new : List ℕ) (e : ModuleError) → written mid ≡ written old ++ a → Refused b mid new e → Refused (a ++ b) old new e
refused_on a b old mid new e same h = record { keeps = keeps_on old mid new (map ok_of a) (behind_it old mid a same) h.keeps; cause = cause_back a b e h.cause }

pub writes_on : (old mid new : List ℕ) (a b : Due) (result : Result (Unit {0}) ModuleError) → written mid ≡ written old ++ a → Writes b mid new result → Writes (a ++ b) old new result
writes_on old mid new a b (Ok x) e h = h ∙ ap (λ (l : Due). l ++ b) e ∙ append_assoc (written old) a b
writes_on old mid new a b (Err x) e h = refused_on a b old mid new x e h

-- memory is all that a call wants that has no other cause
pub appended : (bytes old new : List ℕ) (r : Result (Unit {0}) AllocError) (s : Result (Unit {0}) ModuleError) → s ≡ or_memory r → Appends bytes old new r → Writes (written bytes) old new s
appended bytes old new (Ok x) s e h = subst (λ (s : Result (Unit {0}) ModuleError). Writes (written bytes) old new s) (sym e) (puts old new bytes h)
appended bytes old new (Err x) s e h = subst (λ (s : Result (Unit {0}) ModuleError). Writes (written bytes) old new s) (sym e) (refused_memory (written bytes) old new h)

-- ---- sizes

-- a part is refused behind a number that would have stood before it
pub refused_behind : (a b : Due) (old new : List ℕ) (e : ModuleError) → Refused b old new e → Refused (a ++ b) old new e
refused_behind a b old new e h = record { keeps = h.keeps; cause = cause_back a b e h.cause }

take_written : (n : ℕ) (bytes : List ℕ) → written (take n bytes) ≡ take n (written bytes)
take_written n bytes = sym (take-map (λ (b : ℕ). Ok b) n bytes)

-- what stands in front of a part that was put behind what was there, and the part
front_is : (old mid : List ℕ) (due : Due) (start : ℕ) → start ≡ length old → written mid ≡ written old ++ due → take start mid ≡ old
front_is old mid due start e h = ap (λ (l : List ℕ). take start l) (behind_it old mid due h) ∙ take_at old (map ok_of due) start (sym e)

back_is : (old mid : List ℕ) (due : Due) (start : ℕ) → start ≡ length old → written mid ≡ written old ++ due → drop start mid ≡ map ok_of due
back_is old mid due start e h = ap (λ (l : List ℕ). drop start l) (behind_it old mid due h) ∙ drop_at old (map ok_of due) start (sym e)

part_is : (old mid : List ℕ) (due : Due) (start : ℕ) → start ≡ length old → written mid ≡ written old ++ due → written (drop start mid) ≡ due
part_is old mid due start e h =
    let size : length (written old) ≡ start = written_size old ∙ sym e in
    sym (drop-map (λ (b : ℕ). Ok b) start mid) ∙ ap (λ (l : Due). drop start l) h ∙ drop_at (written old) due start size

pub size_is : (old mid : List ℕ) (due : Due) → written mid ≡ written old ++ due → length mid ≡ length old + length due
size_is old mid due h = let e : length (written mid) ≡ length (written old ++ due) = ap length h in omega (arith, e, written_size mid, written_size old, length-append (written old) due)

pub grows : (old mid : List ℕ) (due : Due) → written mid ≡ written old ++ due → length old ≤ length mid
grows old mid due h = omega (arith, size_is old mid due h)

-- the last bytes were put in front of those from a place on
pub turned_is : (mid head tail s turned : List ℕ) (start digits len : ℕ) → s ≡ mid ++ head → start ≤ length mid → digits ≡ length head → len ≡ length s
    → turned ≡ take start s ++ (drop (length s - start - digits) (drop start s) ++ take (length s - start - digits) (drop start s))
    → take len (turned ++ tail) ≡ take start mid ++ (head ++ drop start mid)
turned_is mid head tail s turned start digits len e le size all h =
    let back = drop start mid in
    let front = take start mid in
    let m : length back ≡ length mid - start = length-drop start mid in
    let total : length s ≡ length mid + length head = ap length e ∙ length-append mid head in
    let count : length s - start - digits ≡ length back = omega (arith, total, size, m, le) in
    let fronts : take start s ≡ front = ap (λ (l : List ℕ). take start l) e ∙ take-append-le start mid head le in
    let backs : drop start s ≡ back ++ head = ap (λ (l : List ℕ). drop start l) e ∙ drop-append-le start mid head le in
    let one : drop (length s - start - digits) (drop start s) ≡ head = ap (λ (l : List ℕ). drop (length s - start - digits) l) backs ∙ drop_at back head (length s - start - digits) (sym count) in
    let two : take (length s - start - digits) (drop start s) ≡ back = ap (λ (l : List ℕ). take (length s - start - digits) l) backs ∙ take_at back head (length s - start - digits) (sym count) in
    let is : turned ≡ front ++ (head ++ back) =
    h ∙ ap (λ (l : List ℕ). l ++ (drop (length s - start - digits) (drop start s) ++ take (length s - start - digits) (drop start s))) fronts
    ∙ ap (λ (l : List ℕ). front ++ (l ++ take (length s - start - digits) (drop start s))) one ∙ ap (λ (l : List ℕ). front ++ (head ++ l)) two in
    let sizes : length turned ≡ len =
    omega (arith, ap length is, length-append front (head ++ back), length-append head back, m, total, all, le, ap length (take-append-drop start mid), length-append front back) in
    take_at turned tail len sizes ∙ is

-- a number was put in front of a part
pub put_before : (old mid new : List ℕ) (due : Due) (start n : ℕ) → start ≡ length old → written mid ≡ written old ++ due → new ≡ take start mid ++ (unsigned_bytes n ++ drop start mid)
    → written new ≡ written old ++ (number n ++ due)
put_before old mid new due start n e h is =
    ap (λ (l : List ℕ). written l) is
    ∙ written_both (take start mid) (unsigned_bytes n ++ drop start mid)
    ∙ ap (λ (l : List ℕ). written l ++ written (unsigned_bytes n ++ drop start mid)) (front_is old mid due start e h)
    ∙ ap (λ (l : Due). written old ++ l) (written_both (unsigned_bytes n) (drop start mid) ∙ ap (λ (l : Due). number n ++ l) (part_is old mid due start e h))

pub sized_is : (old mid new : List ℕ) (due : Due) (start n : ℕ) (result : Result (Unit {0}) ModuleError) → start ≡ length old → written mid ≡ written old ++ due → n ≡ length mid - start
    → MatchResult result (λ _. new ≡ take start mid ++ (unsigned_bytes n ++ drop start mid)) (λ e. (e ≡ Memory) × Keeps mid new) → Writes (sized due) old new result
sized_is old mid new due start n (Ok x) e h size is =
    let count : n ≡ length due = omega (arith, size, e, size_is old mid due h) in
    put_before old mid new due start n e h is ∙ ap (λ (m : ℕ). written old ++ (number m ++ due)) count
sized_is old mid new due start n (Err x) e h size is = record { keeps = keeps_on old mid new (map ok_of due) (behind_it old mid due h) is.1; cause = inl is.0 }

-- ---- lists

module _ {T A : Type 0} (see : T → A) (due : A → Due) where
  abbrev pub all_due : List T → Due
  all_due xs = flat_map due (map see xs)

  around : (xs : List T) (i : ℕ) (other : T) → i < length xs → all_due xs ≡ all_due (take i xs) ++ (due (see (slice_index_or xs i other)) ++ all_due (drop (suc i) xs))
  around [] i other lt = absurd (omega (arith, lt))
  around (x ∷ xs) zero other lt = refl
  around (x ∷ xs) (suc i) other lt =
      ap (λ (l : Due). due (see x) ++ l) (around xs i other (omega (arith, lt)))
      ∙ sym (append_assoc (due (see x)) (all_due (take i xs)) (due (see (slice_index_or xs i other)) ++ all_due (drop (suc i) xs)))

  one_more : (xs : List T) (i : ℕ) (other : T) → i < length xs → all_due (take (suc i) xs) ≡ all_due (take i xs) ++ due (see (slice_index_or xs i other))
  one_more [] i other lt = absurd (omega (arith, lt))
  one_more (x ∷ xs) zero other lt = append-nil (due (see x))
  one_more (x ∷ xs) (suc i) other lt =
      ap (λ (l : Due). due (see x) ++ l) (one_more xs i other (omega (arith, lt))) ∙ sym (append_assoc (due (see x)) (all_due (take i xs)) (due (see (slice_index_or xs i other))))

  -- an item is refused behind those before it
  pub item_refused : (xs : List T) (i : ℕ) (other now : T) (old mid new : List ℕ) (e : ModuleError) → now ≡ slice_index_or xs i other → i < length xs
      → written mid ≡ written old ++ all_due (take i xs) → Refused (due (see now)) mid new e → Refused (all_due xs) old new e
  item_refused xs i other now old mid new e is lt same h =
      let here = due (see (slice_index_or xs i other)) in
      let later = all_due (drop (suc i) xs) in
      subst (λ (l : Due). Refused l old new e) (sym (around xs i other lt))
      (refused_on (all_due (take i xs)) (here ++ later) old mid new e same (refused_front here later mid new e (subst (λ (x : T). Refused (due (see x)) mid new e) is h)))

  pub list_goes_on : (old mid new : List ℕ) (xs : List T) (i : ℕ) (other now : T) → now ≡ slice_index_or xs i other → i < length xs
      → written mid ≡ written old ++ all_due (take i xs) → written new ≡ written mid ++ due (see now) → written new ≡ written old ++ all_due (take (i + 1) xs)
  list_goes_on old mid new xs i other now is lt same h =
      let one : i + 1 ≡ suc i = omega arith in
      let front = all_due (take i xs) in
      let here = due (see (slice_index_or xs i other)) in
      rw one (h ∙ ap (λ (x : T). written mid ++ due (see x)) is ∙ ap (λ (l : Due). l ++ here) same ∙ append_assoc (written old) front here
      ∙ ap (λ (l : Due). written old ++ l) (sym (one_more xs i other lt)))

-- nothing is written
pub nothing : (old : List ℕ) → written old ≡ written old ++ []
nothing old = sym (append-nil (written old))

-- a count that is that of the items
pub counted : {T A : Type 0} (see : T → A) (due : A → Due) (xs : List T) (n : ℕ) → n ≡ length xs → number n ++ flat_map due (map see xs) ≡ vec due (map see xs)
counted see due xs n e = ap (λ (m : ℕ). number m ++ flat_map due (map see xs)) (e ∙ sym (length-map xs see))

pub vec_is : {T A : Type 0} (see : T → A) (due : A → Due) (xs : List T) (n : ℕ) (old mid new : List ℕ) (result : Result (Unit {0}) ModuleError) → n ≡ length xs → written mid ≡ written old ++ number n
    → Writes (flat_map due (map see xs)) mid new result → Writes (vec due (map see xs)) old new result
vec_is see due xs n old mid new result e h is =
    subst (λ (l : Due). Writes l old new result) (counted see due xs n e) (writes_on old mid new (number n) (flat_map due (map see xs)) result h is)

pub count_refused : {T A : Type 0} (see : T → A) (due : A → Due) (xs : List T) (n : ℕ) (old new : List ℕ) (e : ModuleError) → n ≡ length xs → Refused (number n) old new e
    → Refused (vec due (map see xs)) old new e
count_refused see due xs n old new e same h = subst (λ (l : Due). Refused l old new e) (counted see due xs n same) (refused_front (number n) (flat_map due (map see xs)) old new e h)
