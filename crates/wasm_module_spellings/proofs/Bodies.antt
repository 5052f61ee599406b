-- Lemmas: bodies that are spelled and meet the rules read.
use Rattle.std.specs.Prelude.{ℕ, zero, suc, ◌+◌, ◌≤◌, ◌≡◌, ◌⊎◌, nat_le, Bool, true, false, List, [], ◌∷◌, ◌++◌, length, fold, drop, Option, Some, None, refl}
use Rattle.std.specs.List.{filter_map, repeat}
use Rattle.std.proofs.Common.{sym, subst, arith, inl, inr}
use Rattle.std.proofs.lemmas.Bool.{le-leb}
use Rattle.std.proofs.lemmas.List.{length-append}
use Rattle.walrus_forms.specs.declared.value.ValType.{ValType}
use Rattle.wasm_operators.specs.Operators.{Seen}
use Rattle.wasm_formats.specs.Bytes.{either_type}
use Rattle.wasm_formats.specs.Lists.{EntryRules}
use Rattle.wasm_grammar.specs.Modules.{Imported, Own, Origin, Body, Function, Module}
use Rattle.wasm_grammar.specs.States.{Chunk, types_of}
use Rattle.wasm_body_grammar.specs.Frames.{Plain}
use Rattle.wasm_body_grammar.specs.Rules.{Around, operator_test}
use Rattle.wasm_body_grammar.specs.Bodies.{Run, most_locals, next_total, run, operator, Point, is_closed, operator_in, next_point, opened, declared, placed, body_of}
use Rattle.wasm_body_grammar.specs.Laws.{ReadsBody}
use Rattle.wasm_body_grammar.specs.Codes.{param_count, own_type, coded, ReadsCodes, filled_with, with_bodies}
use Rattle.wasm_module_rules.specs.Linked.{Each}
use Rattle.wasm_ruled_modules.specs.Rules.{AreOperators, LocalsBelow, IsBody, OriginRuled}
use Rattle.wasm_module_spellings.specs.Spelled.{RunsFormed, SpellsBody, SpellsCodes}
use Rattle.wasm_module_spellings.proofs.Values.{must_pass, value_ruled}

-- ---- locals

repeat_length : (n : ℕ) (ty : ValType) → length (repeat n (ty ∷ [])) ≡ n
repeat_length zero ty = refl
repeat_length (suc n) ty = let later = repeat_length n ty in omega (arith, later)

total_is : (total : ℕ) (list : List Run) → fold next_total total list ≡ total + length (declared list)
total_is total [] = omega arith
total_is total (r ∷ list) =
    let later = total_is (total + r.0) list in
    omega (arith, later, repeat_length r.0 r.1, length-append (repeat r.0 (r.1 ∷ [])) (declared list))

behind_below : (types n : ℕ) (ty : ValType) (tys : List ValType) → LocalsBelow types (repeat n (ty ∷ []) ++ tys) → LocalsBelow types tys
behind_below types zero ty tys h = h
behind_below types (suc n) ty tys h = behind_below types n ty tys h.1

-- a run that isn't empty shows in the body: so many locals are within the limit
run_ruled : (a : Around) (total : ℕ) (n : ℕ) (ty : ValType) (later : List ValType) → (n ≡ 0 → (run a total).rules (n, ty)) → LocalsBelow (length (types_of a.filled)) (repeat n (ty ∷ []) ++ later)
    → ((length later + n ≡ 0) ⊎ (total + n + length later ≤ most_locals)) → (run a total).rules (n, ty)
run_ruled a total zero ty later formed below counted = formed refl
run_ruled a total (suc n) ty later formed below (inl none) = absurd (omega (arith, none))
run_ruled a total (suc n) ty later formed below (inr le) =
    ((tt, must_pass (nat_le (total + suc n) most_locals) _ (le-leb (total + suc n) most_locals (omega (arith, le)))), value_ruled a.features (length (types_of a.filled)) ty below.0)

runs_ruled : (a : Around) (total : ℕ) (list : List Run) → RunsFormed a total list → LocalsBelow (length (types_of a.filled)) (declared list) → ((length (declared list) ≡ 0) ⊎ (total + length (declared list) ≤ most_locals))
    → EntryRules next_total (run a) total list
runs_ruled a total [] formed below counted = tt
runs_ruled a total (r ∷ list) formed below counted =
    let sum : length (declared (r ∷ list)) ≡ r.0 + length (declared list) = omega (arith, repeat_length r.0 r.1, length-append (repeat r.0 (r.1 ∷ [])) (declared list)) in (
      run_ruled a total r.0 r.1 (declared list) formed.0 below (one sum counted),
      runs_ruled a (total + r.0) list formed.1 (behind_below (length (types_of a.filled)) r.0 r.1 (declared list) below) (rest sum counted),
    )
  where
    one : length (declared (r ∷ list)) ≡ r.0 + length (declared list) → ((length (declared (r ∷ list)) ≡ 0) ⊎ (total + length (declared (r ∷ list)) ≤ most_locals))
        → ((length (declared list) + r.0 ≡ 0) ⊎ (total + r.0 + length (declared list) ≤ most_locals))
    one sum (inl none) = inl (omega (arith, sum, none))
    one sum (inr le) = inr (omega (arith, sum, le))

    rest : length (declared (r ∷ list)) ≡ r.0 + length (declared list) → ((length (declared (r ∷ list)) ≡ 0) ⊎ (total + length (declared (r ∷ list)) ≤ most_locals))
        → ((length (declared list) ≡ 0) ⊎ (total + r.0 + length (declared list) ≤ most_locals))
    rest sum (inl none) = inl (omega (arith, sum, none))
    rest sum (inr le) = inr (omega (arith, sum, le))

-- ---- operators

operators_ruled : (a : Around) (locals : ℕ) (ops : List (ℕ × Seen)) (s : Point) (place : ℕ) → AreOperators a locals s.frames (placed place ops)
    → EntryRules next_point (operator_in a locals) s ops × (is_closed (fold next_point s ops).frames ≡ true)
operators_ruled a locals [] s place h = (tt, h)
operators_ruled a locals (x ∷ ops) s place h =
    let rest = operators_ruled a locals ops (next_point s x) x.0 h.2 in
    ((go (is_closed s.frames) h.0, rest.0), rest.1)
  where
    go : (closed : Bool) → closed ≡ false → either_type closed (Unit {0}) ((operator a.features).rules x.1 × (operator_test a locals s.frames x.1 ≡ None))
    go true e = tt
    go false e = ((λ y e. tt), h.1)

pub body_reads : (a : Around) (params place : ℕ) (bytes : List ℕ) (x : Body) → SpellsBody a params place bytes x → IsBody a params x → ReadsBody a params place bytes x
body_reads a params place bytes x spelled ruled =
    let parts = spelled.0 in
    let runs = parts.0.1 in
    let is : IsBody a params (body_of parts) = subst (IsBody a params) (sym spelled.3) ruled in
    let all = operators_ruled a (fold next_total params runs) parts.1 (opened parts.0.0) parts.0.0
    (subst (λ (n : ℕ). AreOperators a n (Plain ∷ []) (placed parts.0.0 parts.1)) (sym (total_is params runs)) is.operators) in
    (parts, (spelled.1, (runs_ruled a params runs spelled.2 is.named is.counted, all)), spelled.3)

-- ---- functions with their bodies

pub codes_read : (a : Around) (m : Module) (fs : List (Option Function)) (chunks : List Chunk) (xs : List Body) → length chunks ≡ length (filter_map own_type fs)
    → SpellsCodes a (coded m (filter_map own_type fs) chunks) xs → Each (λ (f : Function). OriginRuled a (param_count m f.ty) f.origin) (with_bodies fs xs)
    → ReadsCodes a (coded m (filter_map own_type fs) chunks) xs
codes_read a m [] chunks [] n h r = tt
codes_read a m [] chunks (x ∷ xs) n h r = absurd h
codes_read a m (None ∷ fs) chunks xs n h r = codes_read a m fs chunks xs n h r
codes_read a m (Some f ∷ fs) chunks xs n h r = go (λ chunks xs n h r. codes_read a m fs chunks xs n h r) f.origin refl
  where
    read_one : ((chunks : List Chunk) (xs : List Body) → length chunks ≡ length (filter_map own_type fs) → SpellsCodes a (coded m (filter_map own_type fs) chunks) xs
        → Each (λ (f : Function). OriginRuled a (param_count m f.ty) f.origin) (with_bodies fs xs) → ReadsCodes a (coded m (filter_map own_type fs) chunks) xs)
        → (body : Body) (chunks : List Chunk) (xs : List Body) → length chunks ≡ suc (length (filter_map own_type fs)) → SpellsCodes a (coded m (f.ty ∷ filter_map own_type fs) chunks) xs
        → Each (λ (f : Function). OriginRuled a (param_count m f.ty) f.origin) (filled_with (Some (record { ty = f.ty; origin = Own body })) xs ∷ with_bodies fs (drop 1 xs))
        → ReadsCodes a (coded m (f.ty ∷ filter_map own_type fs) chunks) xs
    read_one later body [] xs n h r = absurd (omega (arith, n))
    read_one later body (c ∷ chunks) [] n h r = absurd h
    read_one later body (c ∷ chunks) (x ∷ xs) n h r = (body_reads a (param_count m f.ty) c.place c.bytes x h.0 r.0, later chunks xs (omega (arith, n)) h.1 r.1)

    go : ((chunks : List Chunk) (xs : List Body) → length chunks ≡ length (filter_map own_type fs) → SpellsCodes a (coded m (filter_map own_type fs) chunks) xs
        → Each (λ (f : Function). OriginRuled a (param_count m f.ty) f.origin) (with_bodies fs xs) → ReadsCodes a (coded m (filter_map own_type fs) chunks) xs)
        → (o : Origin Body) → f.origin ≡ o → ReadsCodes a (coded m (filter_map own_type (Some f ∷ fs)) chunks) xs
    go later (Imported k) p =
        let n = (rw p at n) in
        let h = (rw p at h) in
        let r = (rw p at r) in
        rw p (later chunks xs n h r.1)
    go later (Own body) p = let n = (rw p at n) in let h = (rw p at h) in let r = (rw p at r) in rw p (read_one later body chunks xs n h r)
