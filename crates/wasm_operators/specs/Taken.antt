-- Lemmas: operators are read from the bytes that spell them, and from no others.
use Rattle.std.specs.Prelude.{ℕ, ◌<◌, ◌≡◌, ◌⊎◌, Bool, true, false, List, [], ◌∷◌, ◌++◌, length, Option, Some, None, Ok, Err, All, if◌then◌else◌, refl}
use Rattle.std.proofs.Common.{ap, sym, ◌∙◌, subst, inl, inr}
use Rattle.std.proofs.lemmas.Bool.{cases_Bool}
use Rattle.std.proofs.lemmas.List.{append_assoc}
use Rattle.std.proofs.lemmas.List.Elements.{All-tail}
use Rattle.wasm_composite_types.specs.wasm_features.declared.WasmFeatures.{WasmFeatures}
use Rattle.wasm_composite_types.specs.wasm_reader.declared.error.ErrorKind.TheVariants as faults
use Rattle.wasm_composite_types.specs.wasm_reader.Reading.{Reading, ◌>>=◌}
use Rattle.wasm_composite_types.specs.wasm_reader.Numbers.{unsigned_at}
use Rattle.wasm_composite_types.specs.wasm_reader.Laws.{TakesSpelled}
use Rattle.wasm_composite_types.specs.wasm_reader.Spellings.{ok_is, then_was}
use Rattle.wasm_composite_types.specs.wasm_reader.Vecs.{later_bytes}
use Rattle.wasm_composite_types.specs.Taken.{Small, Fronts}
use Rattle.wasm_operators.specs.Readings.{items_at}
use Rattle.wasm_operators.specs.LeavesTaken.{u32_taken}
use Rattle.wasm_operators.specs.ItemsTaken.{forms_taken}
use Rattle.wasm_operators.specs.declared.entry.Kind.{Kind}
use Rattle.wasm_operators.specs.declared.op_code.OpCode.{OpCode}
use Rattle.wasm_operators.specs.Kinds.{forms}
use Rattle.wasm_operators.specs.Operators.{is_prefix, op_code, code_at, kind_of, Seen, seen_as, after_code, operator_at}
use Rattle.wasm_operators.specs.Spellings.{SpellsCode, SpellsOperator, SpellsEither}

code_again : (bytes more : List ℕ) (code : OpCode) → SpellsCode bytes code → code_at (bytes ++ more) ≡ Ok (code, more)
unfolding code_at
code_again bytes more code (inl h) = rw (h.2, h.0) (ap (λ (p : ℕ). Ok (op_code p code.number, more)) (sym h.1))
code_again bytes more code (inr h) = rw (h.2, h.0, u32_taken.again h.1 more code.number h.3) refl

code_found : (bytes later : List ℕ) (code : OpCode) → Small bytes → code_at bytes ≡ Ok (code, later) → Fronts SpellsCode bytes later code
unfolding code_at
code_found [] later code small e = absurd cc
code_found (b ∷ bytes) later code small e = elim (cases_Bool (is_prefix b)) [
  | inl is ↦
      let was = then_was (unsigned_at 32 bytes) (λ n. Ok (op_code b n.0, n.1)) (code, later) (rw is at e) in
      let same = ok_is (op_code b was.0.0, was.0.1) (code, later) was.2 in
      let found = u32_taken.found bytes was.0.1 was.0.0 (All-tail (λ b. b < 256) b bytes small) was.1 in
      (b ∷ found.0, subst (SpellsCode (b ∷ found.0)) (ap (λ p. p.0) same) (inr (is, found.0, refl, found.1)), ap (λ (l : List ℕ). b ∷ l) (found.2 ∙ ap (λ p. found.0 ++ p.1) same))
  | inr not ↦
      let same = ok_is (op_code 0 b, bytes) (code, later) (rw not at e) in
      (b ∷ [], subst (SpellsCode (b ∷ [])) (ap (λ p. p.0) same) (inl (not, refl, refl)), ap (λ p. b ∷ p.1) same)
]

pub code_taken : TakesSpelled code_at SpellsCode
code_taken = record { again = code_again; found = code_found }

module _ (features : WasmFeatures) where
  either_again : (bytes more : List ℕ) (op : Option Seen) → SpellsEither features bytes op → operator_at features (bytes ++ more) ≡ Ok (op, more)
  unfolding operator_at
  either_again bytes more (Some op) h =
      rw (h.joined, append_assoc h.first h.later more, code_again h.first (h.later ++ more) op.code h.code, h.listed, (forms_taken features (forms h.kind)).again h.later more op.items h.items) refl
  either_again bytes more None h = rw (code_again bytes more h.0 h.1, h.2) refl

  -- by the kind of the code that was read
  kind_found : (bytes mid later : List ℕ) (code : OpCode) (op : Option Seen) (kind : Option Kind) → Small bytes → Fronts SpellsCode bytes mid code
      → kind_of features code ≡ kind → after_code features code kind mid ≡ Ok (op, later) → Fronts (SpellsEither features) bytes later op
  kind_found bytes mid later code op None small first listed e =
      let same = ok_is (None, mid) (op, later) e in
      (first.0, subst (SpellsEither features first.0) (ap (λ p. p.0) same) (code, first.1, listed), first.2 ∙ ap (λ p. first.0 ++ p.1) same)
  kind_found bytes mid later code op (Some kind) small first listed e =
      let was = then_was (items_at features (forms kind) mid) (λ x. Ok (seen_as code x.0, x.1)) (op, later) e in
      let same = ok_is (seen_as code was.0.0, was.0.1) (op, later) was.2 in
      let found = (forms_taken features (forms kind)).found mid was.0.1 was.0.0 (later_bytes first.0 mid (subst Small first.2 small)) was.1 in (
        first.0 ++ found.0,
        subst (SpellsEither features (first.0 ++ found.0)) (ap (λ p. p.0) same) (record {
          kind = kind;
          first = first.0;
          later = found.0;
          joined = refl;
          code = first.1;
          listed = listed;
          items = found.1;
        }),
        first.2 ∙ ap (λ (l : List ℕ). first.0 ++ l) found.2 ∙ sym (append_assoc first.0 found.0 was.0.1) ∙ ap (λ p. (first.0 ++ found.0) ++ p.1) same,
      )

  either_found : (bytes later : List ℕ) (op : Option Seen) → Small bytes → operator_at features bytes ≡ Ok (op, later) → Fronts (SpellsEither features) bytes later op
  unfolding operator_at
  either_found bytes later op small e =
      let was = then_was (code_at bytes) (λ code. after_code features code.0 (kind_of features code.0) code.1) (op, later) e in
      kind_found bytes was.0.1 later was.0.0 op (kind_of features was.0.0) small (code_found bytes was.0.1 was.0.0 small was.1) refl was.2

  pub either_taken : TakesSpelled (operator_at features) (SpellsEither features)
  either_taken = record { again = either_again; found = either_found }
