-- A byte, a number of seven bits, a length and a name that is skipped are read exactly from their spellings.
use Rattle.std.specs.Prelude.{ℕ, ◌≡◌, List, [], ◌∷◌, ◌++◌, length, Ok, Err, nat_lt, if◌then◌else◌, refl}
use Rattle.std.proofs.Common.{ap, ◌∙◌, subst, arith}
use Rattle.std.proofs.lemmas.Bool.{lt-ltb, ltb-true}
use Rattle.wasm_reader.specs.declared.error.ErrorKind.TheVariants as kinds
use Rattle.wasm_reader.specs.Reading.{fault, byte_at, u7_at}
use Rattle.wasm_reader.specs.Text.{size_at, string_at, skipped_string_at}
use Rattle.wasm_reader.specs.SmallSpellings.{SpellsByte, SpellsU7, SpellsSize, SpellsSkipped}
use Rattle.wasm_reader.specs.Laws.{TakesSpelled}
use Rattle.wasm_reader.specs.Spellings.{ok_is, then_was, if_was, size_again, size_was, string_taken}

byte_was : (bytes later : List ℕ) (b : ℕ) → byte_at bytes ≡ Ok (b, later) → (front : List ℕ) × SpellsByte front b × (bytes ≡ front ++ later)
byte_was [] later b e = cc
byte_was (c ∷ bytes) later b e = (b ∷ [], refl, ap (λ (p : ℕ × List ℕ). p.0 ∷ p.1) (ok_is (c, bytes) (b, later) e))

pub byte_taken : TakesSpelled byte_at SpellsByte
byte_taken = record {
  again = λ bytes more b h. rw h refl;
  found = λ bytes later b small e. byte_was bytes later b e;
}

pub u7_taken : TakesSpelled u7_at SpellsU7
unfolding u7_at
u7_taken = record {
  again = λ bytes more b h. rw (h.0, lt-ltb b 128 h.1) refl;
  found = λ bytes later b small e.
      let was = then_was (byte_at bytes) (λ x. if nat_lt x.0 128 then Ok x else Err (fault kinds.BadByte (length bytes))) (b, later) e in
      let tested = if_was (nat_lt was.0.0 128) was.0 (b, later) (fault kinds.BadByte (length bytes)) was.2 in
      let front = byte_was bytes later b (was.1 ∙ ap (λ x. Ok x) tested.1) in
      let same : was.0.0 ≡ b = ap (λ p. p.0) tested.1 in
      let below = ltb-true was.0.0 128 tested.0 in
      (front.0, (front.1, omega arith), front.2);
}

pub size_taken : (limit : ℕ) → TakesSpelled (size_at limit) (SpellsSize limit)
size_taken limit = record {
  again = λ bytes more n h. size_again limit bytes more n h.0 h.1;
  found = λ bytes later n small e. let was = size_was limit bytes later n small e in (was.0, (was.1, was.3), was.2);
}

pub skipped_taken : TakesSpelled skipped_string_at SpellsSkipped
unfolding skipped_string_at
skipped_taken = record {
  again = λ bytes more nothing h. rw (string_taken.again bytes more h.0 h.1) refl;
  found = λ bytes later nothing small e.
      let was = then_was (string_at bytes) (λ text. Ok (tt, text.1)) (nothing, later) e in
      let there : was.0.1 ≡ later = ap (λ (p : Unit {0} × List ℕ). p.1) (ok_is (tt, was.0.1) (nothing, later) was.2) in
      let front = string_taken.found bytes was.0.1 was.0.0 small was.1 in
      (front.0, (was.0.0, front.1), subst (λ (l : List ℕ). bytes ≡ front.0 ++ l) there front.2);
}
