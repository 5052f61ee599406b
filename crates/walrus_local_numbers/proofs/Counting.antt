-- Runs of locals, and their declarations.
use Rattle.std.proofs.Common.{ℕ, suc, ◌+◌, ◌<◌, ◌≡◌, inr, Bool, true, false, List, [], ◌∷◌, ◌++◌, drop, get_or, length, map, take, Option, refl, sym, ap, subst, ◌∙◌}
use Rattle.std.specs.Prelude.{Result, Ok, Err, OnOk, is_ok, if◌then◌else◌}
use Rattle.walrus_forms.specs.declared.value.ValType.{ValType}
use Rattle.walrus_forms.specs.ValueOrder.{value_cmp}
use Rattle.wasm_normal_form.specs.Locals.{Key, is_equal, runs_of, with_first}
use Rattle.std.proofs.lemmas.List.{append_assoc, drop_more, map-append, take_more}
use Rattle.wasm_ref_types.specs.declared.value.ValType.{ValType as WrittenValue}
use Rattle.walrus_body_writer.specs.walrus_pairing.Looks.{Or, ◌>>=◌}
use Rattle.walrus_body_writer.specs.walrus_pairing.Types.{written_value}
use Rattle.walrus_body_writer.specs.walrus_pairing.declared.error.PairError.{PairError}
use Rattle.walrus_local_numbers.specs.Declared.{add_last}
use Rattle.walrus_local_numbers.specs.Written.{RefusesRun, WrittenRun, written_runs}
use Rattle.walrus_local_numbers.proofs.Orders.{equal_from, equal_is, types_tie}

abbrev Runs : Type 0
Runs = List (ℕ × ValType)

same_type : (a b : ValType) → is_equal (value_cmp a b) ≡ true → a ≡ b
same_type a b e = types_tie a b (equal_from (value_cmp a b) (sym (equal_is (value_cmp a b)) ∙ e))

-- a local in front and one behind, put there in either order
two : (a b : ValType) → with_first a (add_last b []) ≡ add_last b (with_first a [])
two a b = by (is_equal (value_cmp a b)) refl
  where
    by : (e : Bool) → is_equal (value_cmp a b) ≡ e → with_first a (add_last b []) ≡ add_last b (with_first a [])
    by true e = rw e (ap (λ (t : ValType). let run : ℕ × ValType = (2, t) in run ∷ []) (sym (same_type a b e)))
    by false e = rw e refl

commutes : (a b : ValType) (runs : Runs) → with_first a (add_last b runs) ≡ add_last b (with_first a runs)
commutes a b [] = two a b
commutes a b (run ∷ []) = by (is_equal (value_cmp a run.1)) (is_equal (value_cmp run.1 b)) refl refl
  where
    by : (d e : Bool) → is_equal (value_cmp a run.1) ≡ d → is_equal (value_cmp run.1 b) ≡ e → with_first a (add_last b (run ∷ [])) ≡ add_last b (with_first a (run ∷ []))
    by true true d e = rw e (rw d (rw e refl))
    by true false d e = rw e (rw d (rw e refl))
    by false true d e = rw e (rw d (rw e refl))
    by false false d e = rw e (rw d (rw e refl))
commutes a b (run ∷ (next ∷ runs)) = by (is_equal (value_cmp a run.1)) refl
  where
    by : (d : Bool) → is_equal (value_cmp a run.1) ≡ d → with_first a (add_last b (run ∷ (next ∷ runs))) ≡ add_last b (with_first a (run ∷ (next ∷ runs)))
    by true d = rw d refl
    by false d = rw d refl

pub runs_push : (tys : List ValType) (ty : ValType) → runs_of (tys ++ ty ∷ []) ≡ add_last ty (runs_of tys)
runs_push [] ty = refl
runs_push (t ∷ tys) ty = ap (with_first t) (runs_push tys ty) ∙ commutes t ty (runs_of tys)

-- the last run grows, or one more begins
pub adds : (ty : ValType) (runs : Runs) (run : ℕ × ValType) → add_last ty (runs ++ run ∷ []) ≡ runs ++ add_last ty (run ∷ [])
adds ty [] run = refl
adds ty (r ∷ []) run = refl
adds ty (r ∷ (s ∷ runs)) run = ap (λ (z : Runs). r ∷ z) (adds ty (s ∷ runs) run)

pub grows : (ty : ValType) (items runs : Runs) (run : ℕ × ValType) → items ≡ runs ++ run ∷ [] → is_equal (value_cmp run.1 ty) ≡ true → runs ++ (suc run.0, run.1) ∷ [] ≡ add_last ty items
grows ty items runs run is e = subst (λ (z : Runs). runs ++ (suc run.0, run.1) ∷ [] ≡ add_last ty z) (sym is) (rw (adds ty runs run) (rw e refl))

pub begins : (ty : ValType) (items runs : Runs) (run : ℕ × ValType) → items ≡ runs ++ run ∷ [] → is_equal (value_cmp run.1 ty) ≡ false → runs ++ run ∷ (1, ty) ∷ [] ≡ add_last ty items
begins ty items runs run is e = subst (λ (z : Runs). runs ++ run ∷ (1, ty) ∷ [] ≡ add_last ty z) (sym is) (rw (adds ty runs run) (rw e refl))

-- ---- types that are written

-- runs before those that are written
abbrev pub put_before : List WrittenRun → Or (List WrittenRun) → Or (List WrittenRun)
put_before done (Ok rest) = Ok (done ++ rest)
put_before done (Err e) = Err e

-- of the runs these were written, and those are left
pub record GoesOn (types : ℕ → Option ℕ) (all : Runs) (done : List WrittenRun) (left : Runs) : Type 0 where
  pub written : put_before done (written_runs types left) ≡ written_runs types all
  pub refused : (e : PairError) → RefusesRun types left e → RefusesRun types all e

pub goes_on : (types : ℕ → Option ℕ) (all : Runs) (i : ℕ) (run : ℕ × ValType) (ty : WrittenValue) (done : List WrittenRun) → i < length all → run ≡ get_or all i run → Ok ty ≡ written_value types run.1
    → GoesOn types all done (drop i all) → GoesOn types all (done ++ (run.0, ty) ∷ []) (drop (i + 1) all)
goes_on types all i run ty done inside at is g = record {
  written = behind (written_runs types (drop (i + 1) all)) refl ∙ sym (ap (put_before done) first) ∙ ap (λ (z : Runs). put_before done (written_runs types z)) (sym left) ∙ g.written;
  refused = λ e h. g.refused e (subst (λ (z : Runs). RefusesRun types z e) (sym left) (inr (ty, sym is, h)));
}
  where
    left : drop i all ≡ run ∷ drop (i + 1) all
    left = drop_more all i run inside ∙ ap (λ (z : ℕ × ValType). z ∷ drop (i + 1) all) (sym at)

    with_run : Or (List WrittenRun) → Or (List WrittenRun)
    with_run o = o >>= λ more. Ok ((run.0, ty) ∷ more)

    first : written_runs types (run ∷ drop (i + 1) all) ≡ with_run (written_runs types (drop (i + 1) all))
    first = ap (λ (v : Or WrittenValue). v >>= λ t. written_runs types (drop (i + 1) all) >>= λ more. Ok ((run.0, t) ∷ more)) (sym is)

    behind : (o : Or (List WrittenRun)) → written_runs types (drop (i + 1) all) ≡ o → put_before (done ++ (run.0, ty) ∷ []) (written_runs types (drop (i + 1) all)) ≡ put_before done (with_run (written_runs types (drop (i + 1) all)))
    behind (Ok more) e = rw e (ap Ok (append_assoc done ((run.0, ty) ∷ []) more))
    behind (Err x) e = rw e refl

pub one_more : (keys : List Key) (i : ℕ) (key : Key) (old new : Runs) → i < length keys → key ≡ get_or keys i key → old ≡ runs_of (map (λ (k : Key). k.0) (take i keys)) → new ≡ add_last key.0 old
    → new ≡ runs_of (map (λ (k : Key). k.0) (take (i + 1) keys))
one_more keys i key old new inside at was is =
    let more : take (i + 1) keys ≡ take i keys ++ key ∷ [] = take_more keys i key inside ∙ ap (λ (k : Key). take i keys ++ k ∷ []) (sym at) in
    is ∙ ap (add_last key.0) was ∙ sym (runs_push (map (λ (k : Key). k.0) (take i keys)) key.0)
    ∙ ap runs_of (sym (map-append (λ (k : Key). k.0) (take i keys) (key ∷ []))) ∙ ap (λ (z : List Key). runs_of (map (λ (k : Key). k.0) z)) (sym more)

pub when_ok : {A B : Type 0} (r : Result A B) (new front other all : Runs) → new ≡ (if is_ok r then front ++ other else front) → front ++ other ≡ all → OnOk r (new ≡ all)
when_ok (Ok x) new front other all is e = is ∙ e
when_ok (Err x) new front other all is e = tt

pub grows_by : (ty : ValType) (items runs : Runs) (count more : ℕ) (last : ValType) → items ≡ runs ++ (count, last) ∷ [] → is_equal (value_cmp last ty) ≡ true → more ≡ suc count → runs ++ (more, last) ∷ [] ≡ add_last ty items
grows_by ty items runs count more last is e m = ap (λ (n : ℕ). let run : ℕ × ValType = (n, last) in runs ++ run ∷ []) m ∙ grows ty items runs (count, last) is e
