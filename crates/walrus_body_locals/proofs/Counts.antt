-- Lemmas: a count, and a run.
use Rattle.std.proofs.Common.{ℕ, ◌≡◌, ◌+◌, ◌-◌, ◌<◌, ◌≤◌, List, length, Option, Some, Result, Ok, Err, refl, ap, sym, subst, inr, ◌∙◌, arith}
use Rattle.std.proofs.lemmas.Bool.{le-leb, lt-leb}
use Rattle.wasm_features.specs.declared.WasmFeatures.{WasmFeatures}
use Rattle.wasm_reader.specs.Numbers.{unsigned_at}
use Rattle.wasm_reader.specs.Cursor.{Window, Cursor, rest, end_of, Forward}
use Rattle.wasm_ref_types.specs.declared.value.ValType.{ValType as Written}
use Rattle.walrus_forms.specs.declared.value.ValType.{ValType}
use Rattle.walrus_forms.specs.Renaming.{at, renamed_value}
use Rattle.wasm_formats.specs.declared.fault.Limited.TheVariants as limits
use Rattle.wasm_formats.specs.Stops.{Limit, stop, Parsing}
use Rattle.walrus_body_nesting.specs.wasm_grammar.TypeWords.{value_from}
use Rattle.walrus_body_nesting.specs.wasm_grammar.Values.{value_type}
use Rattle.walrus_body_nesting.specs.wasm_body_grammar.Bodies.{Run}
use Rattle.walrus_body_nesting.specs.walrus_body_env.declared.error.BodyError.{BodyError}
use Rattle.walrus_body_nesting.specs.walrus_body_env.declared.error.BodyError.TheVariants as faults
use Rattle.walrus_body_nesting.specs.walrus_body_env.Faults.{fault_of_kind, read_fault}
use Rattle.walrus_body_nesting.specs.walrus_body_env.Faults as env
use Rattle.walrus_body_locals.specs.Calls.{Parses}
use Rattle.walrus_body_locals.specs.Told.{Tells}
use Rattle.walrus_body_locals.proofs.Answering.{end_stays, accepted, barred}
use Rattle.walrus_body_locals.specs.Locals.{IsTypeOf, IsRunOf, count_in, run_in, run_told}

pub count_read : (total : ℕ) (old new : Cursor) (n : ℕ) → unsigned_at 32 (rest old) ≡ Ok (n, rest new) → total + n ≤ 50000 → Forward old new
    → Parses (count_in total).parse (λ n m. n ≡ m) old new (Ok n)
count_read total old new n e few moves = record { value = (n, rw (e, le-leb (total + n) 50000 few) refl, refl); moves = moves }

pub count_limited : (total : ℕ) (old new : Cursor) (n offset : ℕ) → unsigned_at 32 (rest old) ≡ Ok (n, rest new) → 50000 < total + n → offset + length (rest old) ≡ end_of old → Forward old new
    → Parses (count_in total).parse (λ (n m : ℕ). n ≡ m) old new (Err (faults.Limit limits.Locals (Some offset)))
count_limited total old new n offset e many at moves =
    let left = length (rest old) in
    let there : end_of new - left ≡ offset = omega (arith, at, end_stays old new moves) in
    record { value = inr (stop (Limit limits.Locals) left, rw (e, lt-leb (total + n) 50000 many) refl, ap (λ (k : ℕ). Some (faults.Limit limits.Locals (Some k))) there); moves = moves }

-- ---- a run

module _ {V : Type 0} (step : V → ℕ → ℕ → Written → Option BodyError × V) (types : List ℕ) (total : ℕ) (old mid new : Cursor) (v w : V) (count : ℕ) (written : Written) (ty : ValType) (offset : ℕ) where
  abbrev reads : List ℕ → Parsing Run
  reads = (run_in old.window.features (length types) total).parse

  abbrev RunTold : Result (ℕ × ValType) BodyError → Type 0
  RunTold = Tells reads (run_told step) (IsRunOf types) old new v w

  -- the count and the type were read
  run_there : (c : Parses (count_in total).parse (λ (n m : ℕ). n ≡ m) old mid (Ok count)) → Parses (value_type mid.window.features (length types)).parse (IsTypeOf types) mid new (Ok (written, ty))
      → (z : ValType) × (reads (rest old) ≡ Ok ((count, z), rest new)) × (written ≡ value_from z) × (ty ≡ renamed_value (at types) z) × Forward old new
  run_there c t =
      let F : WasmFeatures → Type 0 = λ f. (value_type f (length types)).parse (rest mid) ≡ Ok (t.value.0, rest new) in
      let second : (value_type old.window.features (length types)).parse (rest mid) ≡ Ok (t.value.0, rest new) = subst F (ap (λ (w : Window). w.features) c.moves.window) t.value.1 in
      let first : (count_in total).parse (rest old) ≡ Ok (count, rest mid) = c.value.1 ∙ ap (λ (n : ℕ). Ok (n, rest mid)) (sym c.value.2) in (
        t.value.0,
        rw (first, second) refl,
        t.value.2.0,
        t.value.2.1,
        record {
          window = t.moves.window ∙ c.moves.window;
          forward = let a = c.moves.forward in let b = t.moves.forward in omega (arith, a, b);
          within = λ h. t.moves.within (c.moves.within h);
        },
      )

  -- where the validator is told of it
  told_there : (z : ValType) → written ≡ value_from z → offset + length (rest old) ≡ end_of old → step v offset count written ≡ run_told step v (end_of old - length (rest old)) (count, z)
  told_there z e at =
      let here : offset ≡ end_of old - length (rest old) = omega (arith, at) in
      ap (λ (k : ℕ). step v k count written) here ∙ ap (λ (x : Written). step v (end_of old - length (rest old)) count x) e

  pub run_read : (c : Parses (count_in total).parse (λ (n m : ℕ). n ≡ m) old mid (Ok count)) → Parses (value_type mid.window.features (length types)).parse (IsTypeOf types) mid new (Ok (written, ty))
      → offset + length (rest old) ≡ end_of old → env.Answers (step v offset count written) (Ok tt) w → RunTold (Ok (count, ty))
  run_read c t at h =
      let r = run_there c t in
      record { value = ((count, r.0), r.1, sym (told_there r.0 r.2 at) ∙ accepted (step v offset count written) w h, (refl, r.3)); moves = r.4 }

  pub run_barred : (e : BodyError) → (c : Parses (count_in total).parse (λ (n m : ℕ). n ≡ m) old mid (Ok count)) → Parses (value_type mid.window.features (length types)).parse (IsTypeOf types) mid new (Ok (written, ty))
      → offset + length (rest old) ≡ end_of old → env.Answers (step v offset count written) (Err e) w → RunTold (Err e)
  run_barred e c t at h =
      let r = run_there c t in
      record { value = inr (inr ((count, r.0), rest new, r.1, sym (told_there r.0 r.2 at) ∙ barred (step v offset count written) w e h)); moves = r.4 }
