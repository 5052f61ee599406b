-- Formats whose limits are final: what is refused in them stays refused, whatever follows, but where the bytes are cut.
use Rattle.std.specs.Prelude.{ℕ, zero, suc, ◌+◌, ◌-◌, ◌<◌, ◌≤◌, ◌≡◌, Bool, true, false, List, [], ◌∷◌, ◌++◌, length, Option, Some, Ok, Err, if◌then◌else◌, refl}
use Rattle.std.proofs.Common.{sym, ◌∙◌, subst, arith}
use Rattle.std.proofs.lemmas.List.{length-append}
use Rattle.wasm_formats.specs.wasm_reader.declared.error.ErrorKind.TheVariants as kinds
use Rattle.wasm_formats.specs.wasm_reader.Laws.{TakesSpelled, IsFinal}
use Rattle.wasm_formats.specs.wasm_reader.Reading.{Reading}
use Rattle.wasm_formats.specs.Stops.{Trouble, Read, Header, SectionSize, Count, Limit, Stop, stop, moved, Parsing, can_end, ◌>>=◌}
use Rattle.wasm_formats.specs.Formats.{Format, Whole, Small, done_refused, refused_is, step_err, behind_small, parsed_final, leaf}
use Rattle.wasm_formats.specs.Bytes.{never}
use Rattle.wasm_formats.specs.Joined.{tested, tested_err, fails_final, checked, after, ends_at}
use Rattle.wasm_formats.specs.Parts.{told_as, told_err, seen}
use Rattle.wasm_formats.specs.Wholes.{u32, followed}
use Rattle.wasm_formats.specs.Lists.{parse_entries, vec}
use Rattle.wasm_formats.specs.Files.{parse_all, entries, ended_by, ended_at, ended_err}

-- trouble that comes of where the bytes end
abbrev pub is_cut : Trouble → Bool
is_cut (Read (kinds.EndOfFile missing)) = true
is_cut Header = true
is_cut SectionSize = true
is_cut Count = true
is_cut _ = false

abbrev pub is_limit : Trouble → Bool
is_limit (Limit of) = true
is_limit _ = false

-- bytes behind a refusal don't change it, but where the bytes are cut
abbrev pub IsClosed : {A : Type 0} → Format A → Type 0
IsClosed f = (bytes more : List ℕ) (s : Stop) → Small bytes → f.parse bytes ≡ Err s → is_cut s.trouble ≡ false → f.parse (bytes ++ more) ≡ Err (moved (length more) s)

abbrev pub IsClosedWhole : {A : Type 0} → Whole A → Type 0
IsClosedWhole f = (bytes more : List ℕ) (s : Stop) → Small bytes → f.parse bytes ≡ Err s → is_cut s.trouble ≡ false → f.parse (bytes ++ more) ≡ Err (moved (length more) s)

no_end : (t : Trouble) → is_cut t ≡ false → is_limit t ≡ false → can_end t ≡ false
no_end (Read (kinds.EndOfFile missing)) h k = absurd cc
no_end (Read kinds.TooLong) h k = refl
no_end (Read kinds.TooLarge) h k = refl
no_end (Read kinds.Utf8) h k = refl
no_end (Read kinds.BadByte) h k = refl
no_end (Read kinds.Limit) h k = refl
no_end (Read (kinds.Feature feature)) h k = refl
no_end (Read kinds.Trailing) h k = refl
no_end (Read kinds.Memory) h k = refl
no_end Header h k = absurd cc
no_end SectionSize h k = absurd cc
no_end Count h k = absurd cc
no_end (Limit of) h k = absurd cc
no_end _ h k = refl

-- a format that no limit refuses
pub closed_unlimited : {A : Type 0} (f : Format A) → ((bytes : List ℕ) (s : Stop) → f.parse bytes ≡ Err s → is_limit s.trouble ≡ false) → IsClosed f
closed_unlimited f free bytes more s small e k = f.final bytes more s small e (no_end s.trouble k (free bytes s e))

pub cut_is : {P : Type 0} (t : Trouble) (left : ℕ) (s : Stop) → is_cut t ≡ true → s ≡ stop t left → is_cut s.trouble ≡ false → P
cut_is t left s cut e k = let k : is_cut t ≡ false = subst (λ (s : Stop). is_cut s.trouble ≡ false) e k in let clash : true ≡ false = sym cut ∙ k in absurd cc

-- ---- what the reader reads

pub closed_leaf : {A : Type 0} (reading : List ℕ → Reading A) (spells : List ℕ → A → Type 0) (taken : TakesSpelled reading spells) (final : IsFinal reading) → IsClosed (leaf reading spells taken final)
closed_leaf reading spells taken final bytes more s small e k =
    let f = leaf reading spells taken final in
    let t = f.told bytes s small e in
    f.final bytes more s small e (no_end s.trouble k (subst (λ (s : Stop). is_limit s.trouble ≡ false) (sym t.2) refl))

-- ---- formats made of others

pub closed_checked : {A : Type 0} (f : Format A) (test : A → Option Trouble) → IsClosed f → IsClosed (checked f test)
closed_checked f test one bytes more s small e k = step_err (f.parse bytes) (λ x. tested (test x.0) (length bytes) x) s e (λ p. rw (one bytes more s small p k) refl)
    (λ x p q. rw (parsed_final f bytes x.1 more x.0 small p, length-append bytes more)
    (fails_final (test x.0) (length bytes) (length more) (x.0, x.1 ++ more) s (tested_err (test x.0) (length bytes) x s q)))

-- a value in other words is refused for want of words at its first byte, whatever follows
pub closed_seen : {A B : Type 0} (f : Format A) (into : A → Option B) (trouble : Trouble) (once : (x y : A) (z : B) → into x ≡ Some z → into y ≡ Some z → x ≡ y) → is_limit trouble ≡ false
    → IsClosed f → IsClosed (seen f into trouble once)
closed_seen f into trouble once free one bytes more s small e k =
    step_err (f.parse bytes) (λ x. told_as into trouble (length bytes) x (into x.0)) s e (λ p. rw (one bytes more s small p k) refl)
    (λ x p q. let t = told_err into trouble (length bytes) x (into x.0) s q in
    (seen f into trouble once).final bytes more s small e (no_end s.trouble k (subst (λ (s : Stop). is_limit s.trouble ≡ false) (sym t.1) free)))

pub closed_after : {A B : Type 0} (f : Format A) (g : A → Format B) → IsClosed f → ((x : A) → IsClosed (g x)) → IsClosed (after f g)
closed_after f g one two bytes more s small e k = step_err (f.parse bytes) (λ x. (g x.0).parse x.1 >>= λ y. Ok ((x.0, y.0), y.1)) s e (λ p. rw (one bytes more s small p k) refl)
    (λ x p q. step_err ((g x.0).parse x.1) (λ y. Ok ((x.0, y.0), y.1)) s q
    (λ r. rw (parsed_final f bytes x.1 more x.0 small p, two x.0 x.1 more s (behind_small f bytes x.1 x.0 small p) r k) refl)
    (λ y _ n. done_refused ((x.0, y.0), y.1) s n))

-- of two ways to parse
abbrev pub IsClosedBy : {A : Type 0} → (List ℕ → Parsing A) → Type 0
IsClosedBy parse = (bytes more : List ℕ) (s : Stop) → Small bytes → parse bytes ≡ Err s → is_cut s.trouble ≡ false → parse (bytes ++ more) ≡ Err (moved (length more) s)

pub closed_if : {A : Type 0} {p q : List ℕ → Parsing A} (c : Bool) → IsClosedBy p → IsClosedBy q → IsClosedBy (λ bytes. if c then p bytes else q bytes)
closed_if true one two = one
closed_if false one two = two

pub closed_never : {A : Type 0} (t : Trouble) → is_limit t ≡ false → IsClosed (never {A = A} t)
closed_never {A} t free = closed_unlimited (never {A = A} t)
    (λ bytes s e. subst (λ (s : Stop). is_limit s.trouble ≡ false) (refused_is {A = A × List ℕ} (stop t (length bytes)) s e) free)

pub closed_ends_at : {A : Type 0} (start : ℕ) (f : Format A) → IsClosed f → IsClosed (ends_at start f)
closed_ends_at start f one bytes more s small e k = step_err (f.parse bytes) (λ x. Ok ((start + (length bytes - length x.1), x.0), x.1)) s e
    (λ p. rw (one bytes more s small p k) refl) (λ x p n. done_refused ((start + (length bytes - length x.1), x.0), x.1) s n)

pub closed_followed : {A B : Type 0} (f : Format A) (g : A → Whole B) → IsClosed f → ((x : A) → IsClosedWhole (g x)) → IsClosedWhole (followed f g)
closed_followed f g one two bytes more s small e k = step_err (f.parse bytes) (λ x. (g x.0).parse x.1 >>= λ y. Ok (x.0, y)) s e (λ p. rw (one bytes more s small p k) refl)
    (λ x p q. step_err ((g x.0).parse x.1) (λ y. Ok (x.0, y)) s q
    (λ r. rw (parsed_final f bytes x.1 more x.0 small p, two x.0 x.1 more s (behind_small f bytes x.1 x.0 small p) r k) refl)
    (λ y _ n. done_refused (x.0, y) s n))

module _ {A S : Type 0} (next : S → A → S) (entry : S → Format A) (takes : (s : S) (bytes : List ℕ) (x : A) → (entry s).spells bytes x → 0 < length bytes)
    (one : (s : S) → IsClosed (entry s)) where
  all_closed : (fuel wide : ℕ) (s : S) (bytes more : List ℕ) (e : Stop) → fuel ≤ wide → Small bytes → parse_all next entry takes fuel s bytes ≡ Err e → is_cut e.trouble ≡ false
      → parse_all next entry takes wide s (bytes ++ more) ≡ Err (moved (length more) e)
  all_closed fuel wide s [] more e le small h k = done_refused [] e h
  all_closed zero wide s (b ∷ bytes) more e le small h k = cut_is Count 0 e refl (sym (refused_is {A = List A} (stop Count 0) e h)) k
  all_closed (suc fuel) zero s (b ∷ bytes) more e le small h k = absurd (omega (arith, le))
  all_closed (suc fuel) (suc wide) s (b ∷ bytes) more e le small h k = step_err ((entry s).parse (b ∷ bytes)) _ e h
      (λ p. let first : (entry s).parse (b ∷ (bytes ++ more)) ≡ Err (moved (length more) e) = one s (b ∷ bytes) more e small p k in rw first refl)
      (λ x p q. step_err (parse_all next entry takes fuel (next s x.0) x.1) (λ xs. Ok (x.0 ∷ xs)) e q
      (λ r. let first : (entry s).parse (b ∷ (bytes ++ more)) ≡ Ok (x.0, x.1 ++ more) = parsed_final (entry s) (b ∷ bytes) x.1 more x.0 small p in
      rw (first, all_closed fuel wide (next s x.0) x.1 more e (omega (arith, le)) (behind_small (entry s) (b ∷ bytes) x.1 x.0 small p) r k) refl)
      (λ xs _ n. done_refused (x.0 ∷ xs) e n))

  pub closed_entries : (s : S) → IsClosedWhole (entries next entry takes s)
  closed_entries s bytes more e small h k = all_closed (length bytes) (length (bytes ++ more)) s bytes more e (omega (arith, length-append bytes more)) small h k

-- so many entries
module _ {A S : Type 0} (next : S → A → S) (entry : S → Format A) (one : (s : S) → IsClosed (entry s)) where
  listed_closed : (count : ℕ) (s : S) (bytes more : List ℕ) (e : Stop) → Small bytes → parse_entries next entry count s bytes ≡ Err e → is_cut e.trouble ≡ false
      → parse_entries next entry count s (bytes ++ more) ≡ Err (moved (length more) e)
  listed_closed zero s bytes more e small h k = done_refused ([], bytes) e h
  listed_closed (suc count) s bytes more e small h k = step_err ((entry s).parse bytes) _ e h (λ p. rw (one s bytes more e small p k) refl)
      (λ x p q. step_err (parse_entries next entry count (next s x.0) x.1) (λ xs. Ok (x.0 ∷ xs.0, xs.1)) e q
      (λ r. rw (parsed_final (entry s) bytes x.1 more x.0 small p, listed_closed count (next s x.0) x.1 more e (behind_small (entry s) bytes x.1 x.0 small p) r k) refl)
      (λ xs _ n. done_refused (x.0 ∷ xs.0, xs.1) e n))

  pub closed_vec : (s : S) → IsClosed u32 → IsClosed (vec next entry s)
  closed_vec s number bytes more e small h k = step_err (u32.parse bytes) (λ n. parse_entries next entry n.0 s n.1) e h (λ p. rw (number bytes more e small p k) refl)
      (λ n p q. rw (parsed_final u32 bytes n.1 more n.0 small p) (listed_closed n.0 s n.1 more e (behind_small u32 bytes n.1 n.0 small p) q k))

-- what is wrong at the end of the bytes is a cut
pub closed_ended : {A : Type 0} (trouble : Trouble) (ends : can_end trouble ≡ true) (f : Whole A) (test : A → Bool) → is_cut trouble ≡ true → IsClosedWhole f → IsClosedWhole (ended_by trouble ends f test)
closed_ended trouble ends f test cut one bytes more s small e k = step_err (f.parse bytes) (λ x. ended_at trouble (test x) x) s e (λ p. rw (one bytes more s small p k) refl)
    (λ x p q. cut_is trouble 0 s cut (ended_err trouble (test x) x s q).1 k)
