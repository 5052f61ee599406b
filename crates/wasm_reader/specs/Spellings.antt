-- Lemmas: what is read is what is spelled.
use Rattle.std.specs.Prelude.{ℕ, ◌<◌, ◌≤◌, ◌≡◌, Bool, true, false, List, [], ◌∷◌, ◌++◌, length, take, drop, Ok, Err, All, nat_le, if◌then◌else◌, refl}
use Rattle.std.proofs.Common.{sym, ap, ◌∙◌, subst, arith, rules, inl, inr}
use Rattle.std.proofs.lemmas.Bool.{cases_lt, le-leb, lt-leb, leb-true}
use Rattle.std.proofs.lemmas.List.{length-append, length-take-le, take-append-drop, append_cancel_right, append_assoc}
use Rattle.std.proofs.Math.Seq.{take-append_seam, drop-append_seam}
use Rattle.wasm_reader.specs.declared.error.ErrorKind.{ErrorKind}
use Rattle.wasm_reader.specs.declared.error.ErrorKind.TheVariants as kinds
use Rattle.wasm_reader.specs.Reading.{Reading, Fault, fault, ◌>>=◌, next_at, bytes_at, little, little_at, SpellsRun, SpellsLittle}
use Rattle.wasm_reader.specs.Text.{size_at, text_at, string_at, sized_bytes_at, unlimited_string_at, SpellsSized, SpellsText, SpellsName}
use Rattle.std.specs.Str.{is_utf8}
use Rattle.wasm_reader.specs.Numbers.{Style, Spells, number_at, unsigned, unsigned_at}
use Rattle.wasm_reader.specs.Spelled.{number_at-spelled, number_at-found}
use Rattle.wasm_reader.specs.Laws.{GrowsFault, Grows, GrowsNext, EndsEarly, IsFinal, TakesSpelled, IsPrefixFree}

pub next_grows : (bytes more : List ℕ) → GrowsNext more (next_at bytes) (next_at (bytes ++ more))
next_grows [] [] = (refl, λ h. absurd (omega arith))
next_grows [] (b ∷ more) = (refl, λ h. search rules)
next_grows (b ∷ bytes) more = refl

pub number_taken : {A : Type 0} (s : Style A) (wrong : ErrorKind) (width : ℕ) → TakesSpelled (number_at s wrong width) (Spells s width)
number_taken s wrong width = record {
  again = λ bytes more n h. number_at-spelled s wrong width bytes more n h;
  found = λ bytes later n small e. number_at-found s wrong width bytes later n small e;
}

pub ok_is : {A : Type 0} (x y : A × List ℕ) → (let done : A × List ℕ → Reading A = λ v. Ok v in done x ≡ done y) → x ≡ y
ok_is x y e = cc

-- spellings that a reading takes whatever follows are prefix-free
pub taken_free : {A : Type 0} (reading : List ℕ → Reading A) (spells : List ℕ → A → Type 0) → TakesSpelled reading spells → IsPrefixFree spells
taken_free reading spells taken a b x y m n p q e =
    let same = ok_is (m, x) (n, y) (sym (taken.again a x m p) ∙ ap reading e ∙ taken.again b y n q) in
    let later : x ≡ y = ap (λ p. p.1) same in
    (append_cancel_right a b x (e ∙ ap (λ (l : List ℕ). b ++ l) (sym later)), ap (λ p. p.0) same)

ends_early : {A : Type 0} (reading : List ℕ → Reading A) (front more : List ℕ) (value : A) (before : Reading A) → reading (front ++ more) ≡ Ok (value, []) → 0 < length more
    → Grows more before (reading (front ++ more)) → (missing left : ℕ) × (missing ≤ length more) × (before ≡ Err (fault (kinds.EndOfFile missing) left))
ends_early {A} reading front more value (Ok x) e some grows =
    let later : x.1 ++ more ≡ [] = ap (λ p. p.1) (ok_is (x.0, x.1 ++ more) (value, []) (sym grows ∙ e)) in
    absurd (omega (arith, ap length later, length-append x.1 more))
ends_early {A} reading front more value (Err f) e some grows = at f.kind f.left refl refl grows
  where
    none : (g : Fault) → reading (front ++ more) ≡ Err g → ⊥
    none g p = let q = sym p ∙ e in cc

    at : (kind : ErrorKind) (left : ℕ) → f.kind ≡ kind → f.left ≡ left → GrowsFault kind left more (reading (front ++ more))
        → (missing left : ℕ) × (missing ≤ length more) × (◌≡◌ {A = Reading A} (Err f) (Err (fault (kinds.EndOfFile missing) left)))
    at (kinds.EndOfFile missing) left k l h = (missing, left, elim (cases_lt (length more) missing) [ inl few ↦ absurd (none _ (h.keeps few)) | inr there ↦ there ], ap (λ (w : ErrorKind). Err (fault w f.left)) k ∙ ap (λ (n : ℕ). Err (fault (kinds.EndOfFile missing) n)) l)
    at kinds.TooLong left k l h = absurd (none _ h)
    at kinds.TooLarge left k l h = absurd (none _ h)
    at kinds.Utf8 left k l h = absurd (none _ h)
    at kinds.BadByte left k l h = absurd (none _ h)
    at kinds.Limit left k l h = absurd (none _ h)
    at (kinds.Feature missing) left k l h = absurd (none _ h)
    at kinds.Trailing left k l h = absurd (none _ h)
    at kinds.Memory left k l h = absurd (none _ h)

-- ---- names

-- a reading on which another follows succeeded
pub then_was : {A B : Type 0} (r : Reading A) (f : A × List ℕ → Reading B) (y : B × List ℕ) → (r >>= f) ≡ Ok y → (x : A × List ℕ) × (r ≡ Ok x) × (f x ≡ Ok y)
then_was (Ok x) f y e = (x, refl, e)
then_was (Err g) f y e = cc

-- a test passed
pub if_was : {A : Type 0} (b : Bool) (x y : A × List ℕ) (f : Fault) → (let none : Reading A = Err f in let done : Reading A = Ok x in (if b then done else none) ≡ Ok y) → (b ≡ true) × (x ≡ y)
if_was true x y f e = (refl, ok_is x y e)
if_was false x y f e = cc

run_again : (text more : List ℕ) → bytes_at (length text) (text ++ more) ≡ Ok (text, more)
run_again text more =
    let there : length text ≤ length (text ++ more) = omega (arith, length-append text more) in
    rw (le-leb (length text) (length (text ++ more)) there)
    (ap (λ (l : List ℕ). Ok (l, drop (length text) (text ++ more))) (take-append_seam text more) ∙ ap (λ (l : List ℕ). Ok (text, l)) (drop-append_seam text more))

run_was : (size : ℕ) (bytes run later : List ℕ) → bytes_at size bytes ≡ Ok (run, later) → (length run ≡ size) × (bytes ≡ run ++ later)
run_was size bytes run later e = elim (cases_lt (length bytes) size) [
  | inl short ↦ let h = (rw (lt-leb size (length bytes) short) at e) in cc
  | inr there ↦
      let same = ok_is (take size bytes, drop size bytes) (run, later) (rw (le-leb size (length bytes) there) at e) in
      let front : take size bytes ≡ run = ap (λ p. p.0) same in
      let back : drop size bytes ≡ later = ap (λ p. p.1) same in
      (ap length (sym front) ∙ length-take-le size bytes there, sym (take-append-drop size bytes) ∙ ap (λ (l : List ℕ). l ++ drop size bytes) front ∙ ap (λ (l : List ℕ). run ++ l) back)
]

pub run_taken : (size : ℕ) → TakesSpelled (bytes_at size) (SpellsRun size)
run_taken size = record {
  again = λ bytes more run h. rw (sym h.0, h.1) (run_again bytes more);
  found = λ bytes later run small e. let was = run_was size bytes run later e in (run, (was.0, refl), was.1);
}

pub little_taken : (size : ℕ) → TakesSpelled (little_at size) (SpellsLittle size)
unfolding little_at
little_taken size = record {
  again = λ bytes more n h. rw (sym h.0, run_again bytes more, h.1) refl;
  found = λ bytes later n small e.
      let was = then_was (bytes_at size bytes) (λ run. Ok (little run.0, run.1)) (n, later) e in
      let same = ok_is (little was.0.0, was.0.1) (n, later) was.2 in
      let there : was.0.1 ≡ later = ap (λ p. p.1) same in
      let run = run_was size bytes was.0.0 was.0.1 was.1 in
      (was.0.0, (run.0, sym (ap (λ p. p.0) same)), run.1 ∙ ap (λ (l : List ℕ). was.0.0 ++ l) there);
}

pub sized_bytes_taken : TakesSpelled sized_bytes_at SpellsSized
unfolding sized_bytes_at
sized_bytes_taken = record {
  again = λ bytes more run h.
      rw (h.joined, append_assoc h.size run more, number_at-spelled unsigned kinds.TooLarge 32 h.size (run ++ more) (length run) h.spells)
      (run_again run more);
  found = λ bytes later run small e.
      let was = then_was (unsigned_at 32 bytes) (λ x. bytes_at x.0 x.1) (run, later) e in
      let size = number_at-found unsigned kinds.TooLarge 32 bytes was.0.1 was.0.0 small was.1 in
      let body = run_was was.0.0 was.0.1 run later was.2 in (
        size.0 ++ run,
        record { size = size.0; spells = subst (λ (n : ℕ). Spells unsigned 32 size.0 n) (sym body.0) size.1; joined = refl },
        size.2 ∙ ap (λ (l : List ℕ). size.0 ++ l) body.1 ∙ sym (append_assoc size.0 run later),
      );
}

text_again : (text more : List ℕ) → is_utf8 text ≡ true → text_at (length text) (text ++ more) ≡ Ok (text, more)
unfolding text_at
text_again text more h = rw (run_again text more, h) refl

text_was : (size : ℕ) (bytes text later : List ℕ) → text_at size bytes ≡ Ok (text, later) → (length text ≡ size) × (is_utf8 text ≡ true) × (bytes ≡ text ++ later)
unfolding text_at
text_was size bytes text later e =
    let was = then_was (bytes_at size bytes) (λ x. if is_utf8 x.0 then Ok x else Err (fault kinds.Utf8 (length bytes))) (text, later) e in
    let tested = if_was (is_utf8 was.0.0) was.0 (text, later) (fault kinds.Utf8 (length bytes)) was.2 in
    let run = run_was size bytes text later (was.1 ∙ ap (λ x. Ok x) tested.1) in
    let same : was.0.0 ≡ text = ap (λ p. p.0) tested.1 in
    (run.0, ap is_utf8 (sym same) ∙ tested.0, run.1)

pub size_again : (limit : ℕ) (front more : List ℕ) (n : ℕ) → Spells unsigned 32 front n → n ≤ limit → size_at limit (front ++ more) ≡ Ok (n, more)
unfolding size_at
size_again limit front more n h below = rw (number_at-spelled unsigned kinds.TooLarge 32 front more n h, le-leb n limit below) refl

pub size_was : (limit : ℕ) (bytes later : List ℕ) (n : ℕ) → All (λ b. b < 256) bytes → size_at limit bytes ≡ Ok (n, later) → (front : List ℕ) × Spells unsigned 32 front n × (bytes ≡ front ++ later) × (n ≤ limit)
unfolding size_at
size_was limit bytes later n small e =
    let was = then_was (unsigned_at 32 bytes) (λ x. if nat_le x.0 limit then Ok x else Err (fault kinds.Limit (length bytes))) (n, later) e in
    let tested = if_was (nat_le was.0.0 limit) was.0 (n, later) (fault kinds.Limit (length bytes)) was.2 in
    let found = number_at-found unsigned kinds.TooLarge 32 bytes later n small (was.1 ∙ ap (λ x. Ok x) tested.1) in
    let same : was.0.0 ≡ n = ap (λ p. p.0) tested.1 in
    let below = leb-true was.0.0 limit tested.0 in
    (found.0, found.1, found.2, omega arith)

pub string_taken : TakesSpelled string_at SpellsName
unfolding string_at
string_taken = record {
  again = λ bytes more text h.
      rw (h.0.joined, append_assoc h.0.size text more, size_again 100000 h.0.size (text ++ more) (length text) h.0.spells h.1)
      (text_again text more h.0.utf8);
  found = λ bytes later text small e.
      let was = then_was (size_at 100000 bytes) (λ x. text_at x.0 x.1) (text, later) e in
      let size = size_was 100000 bytes was.0.1 was.0.0 small was.1 in
      let body = text_was was.0.0 was.0.1 text later was.2 in (
        size.0 ++ text,
        (record { size = size.0; spells = subst (λ (n : ℕ). Spells unsigned 32 size.0 n) (sym body.0) size.1; utf8 = body.1; joined = refl }, let n = body.0 in let below = size.3 in omega arith),
        size.2 ∙ ap (λ (l : List ℕ). size.0 ++ l) body.2 ∙ sym (append_assoc size.0 text later),
      );
}

pub unlimited_string_taken : TakesSpelled unlimited_string_at SpellsText
unfolding unlimited_string_at
unlimited_string_taken = record {
  again = λ bytes more text h.
      rw (h.joined, append_assoc h.size text more, number_at-spelled unsigned kinds.TooLarge 32 h.size (text ++ more) (length text) h.spells)
      (text_again text more h.utf8);
  found = λ bytes later text small e.
      let was = then_was (unsigned_at 32 bytes) (λ x. text_at x.0 x.1) (text, later) e in
      let size = number_at-found unsigned kinds.TooLarge 32 bytes was.0.1 was.0.0 small was.1 in
      let body = text_was was.0.0 was.0.1 text later was.2 in (
        size.0 ++ text,
        record { size = size.0; spells = subst (λ (n : ℕ). Spells unsigned 32 size.0 n) (sym body.0) size.1; utf8 = body.1; joined = refl },
        size.2 ∙ ap (λ (l : List ℕ). size.0 ++ l) body.2 ∙ sym (append_assoc size.0 text later),
      );
}

-- a proper front of the bytes that a final reading takes ends early
pub final_early : {A : Type 0} (reading : List ℕ → Reading A) → IsFinal reading → EndsEarly reading
final_early reading final front more value e some = ends_early reading front more value (reading front) e some (final.grows front more)
