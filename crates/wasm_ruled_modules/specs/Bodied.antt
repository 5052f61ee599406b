-- Lemmas: the bodies of a module that is read meet their rules.
use Rattle.std.specs.Prelude.{ℕ, zero, suc, ◌+◌, ◌≤◌, ◌≡◌, ◌⊎◌, nat_le, Bool, true, false, List, [], ◌∷◌, ◌++◌, length, map, fold, drop, Option, Some, None, refl}
use Rattle.std.specs.List.{filter_map, repeat}
use Rattle.std.proofs.Common.{ap, ◌∙◌, subst, arith, inl, inr}
use Rattle.std.proofs.lemmas.Bool.{leb-true}
use Rattle.std.proofs.lemmas.List.{length-append}
use Rattle.walrus_forms.specs.declared.value.ValType.{ValType}
use Rattle.walrus_forms.specs.Renaming.{ValueBelow}
use Rattle.wasm_operators.specs.Operators.{Seen}
use Rattle.wasm_formats.specs.declared.fault.Limited.TheVariants as limits
use Rattle.wasm_formats.specs.Stops.{Limit}
use Rattle.wasm_formats.specs.Bytes.{either_type}
use Rattle.wasm_formats.specs.Lists.{SpellsEntries, EntryRules}
use Rattle.wasm_module_rules.specs.wasm_modules.wasm_body_grammar.wasm_grammar.Modules.{Imported, Own, Origin, Body, Function, Module}
use Rattle.wasm_module_rules.specs.wasm_modules.wasm_body_grammar.wasm_grammar.States.{Chunk, types_of}
use Rattle.wasm_module_rules.specs.wasm_modules.wasm_sections.Entities.{no_body}
use Rattle.wasm_module_rules.specs.wasm_modules.wasm_body_grammar.Frames.{Plain}
use Rattle.wasm_module_rules.specs.wasm_modules.wasm_body_grammar.Rules.{Around, operator_test}
use Rattle.wasm_module_rules.specs.wasm_modules.wasm_body_grammar.Bodies.{Run, most_locals, next_total, run, operator, Point, is_closed, operator_in, next_point, opened, declared, placed}
use Rattle.wasm_module_rules.specs.wasm_modules.wasm_body_grammar.Laws.{ReadsBody}
use Rattle.wasm_module_rules.specs.wasm_modules.wasm_body_grammar.Codes.{param_count, own_type, coded, ReadsCodes, filled_with, with_bodies}
use Rattle.wasm_module_rules.specs.Linked.{Each}
use Rattle.wasm_module_rules.specs.Keeps.{must_holds}
use Rattle.wasm_ruled_modules.specs.Rules.{AreOperators, LocalsBelow, IsBody, bare_slot, OriginRuled}
use Rattle.wasm_ruled_modules.specs.Named.{value_named}

-- ---- locals

many_length : (n : ℕ) (ty : ValType) → length (repeat n (ty ∷ [])) ≡ n
many_length zero ty = refl
many_length (suc n) ty = let later = many_length n ty in omega (arith, later)

total_is : (total : ℕ) (list : List Run) → fold next_total total list ≡ total + length (declared list)
total_is total [] = omega arith
total_is total (r ∷ list) =
    let later = total_is (total + r.0) list in
    omega (arith, later, many_length r.0 r.1, length-append (repeat r.0 (r.1 ∷ [])) (declared list))

within_limit : (a : Around) (total : ℕ) (r : Run) (list : List Run) → EntryRules next_total (run a) total (r ∷ list) → fold next_total total (r ∷ list) ≤ most_locals
within_limit a total r [] h = leb-true (total + r.0) most_locals (must_holds (nat_le (total + r.0) most_locals) (Limit limits.Locals) h.0.0.1)
within_limit a total r (s ∷ list) h = within_limit a (total + r.0) s list h.1

locals_counted : (a : Around) (params : ℕ) (list : List Run) → EntryRules next_total (run a) params list → (length (declared list) ≡ 0) ⊎ (params + length (declared list) ≤ most_locals)
locals_counted a params [] h = inl refl
locals_counted a params (r ∷ list) h = inr (subst (λ (n : ℕ). n ≤ most_locals) (total_is params (r ∷ list)) (within_limit a params r list h))

many_below : (types n : ℕ) (ty : ValType) (tys : List ValType) → ValueBelow types ty → LocalsBelow types tys → LocalsBelow types (repeat n (ty ∷ []) ++ tys)
many_below types zero ty tys h k = k
many_below types (suc n) ty tys h k = (h, many_below types n ty tys h k)

locals_below : (a : Around) (total : ℕ) (list : List Run) → EntryRules next_total (run a) total list → LocalsBelow (length (types_of a.filled)) (declared list)
locals_below a total [] h = tt
locals_below a total (r ∷ list) h =
    let one = h.0 in
    many_below (length (types_of a.filled)) r.0 r.1 (declared list) (value_named a.features (length (types_of a.filled)) r.1 one.1) (locals_below a (total + r.0) list h.1)

-- ---- operators

operators_are : (a : Around) (locals : ℕ) (ops : List (ℕ × Seen)) (s : Point) (place : ℕ) (bytes : List ℕ) → SpellsEntries next_point (operator_in a locals) s bytes ops → EntryRules next_point (operator_in a locals) s ops
    → is_closed (fold next_point s ops).frames ≡ true → AreOperators a locals s.frames (placed place ops)
operators_are a locals [] s place bytes h r e = e
operators_are a locals (x ∷ ops) s place bytes h r e =
    let spelled = h.3 in
    let one = go (is_closed s.frames) refl spelled.0 r.0 in
    (one.0, one.1, operators_are a locals ops (next_point s x) x.0 h.1 h.4 r.1 e)
  where
    go : (closed : Bool) → is_closed s.frames ≡ closed → either_type closed ⊥ ((operator a.features).spells h.0 x.1) → either_type closed (Unit {0}) ((operator a.features).rules x.1 × (operator_test a locals s.frames x.1 ≡ None))
        → (is_closed s.frames ≡ false) × (operator_test a locals s.frames x.1 ≡ None)
    go true p spelled rules = absurd spelled
    go false p spelled rules = (p, rules.1)

pub body_is : (a : Around) (params place : ℕ) (bytes : List ℕ) (x : Body) → ReadsBody a params place bytes x → IsBody a params x
body_is a params place bytes x h =
    let parts = h.0 in
    let spelled = h.1.0 in
    let rules = h.1.1 in
    let operators = rules.1 in
    let runs = parts.0.1 in
    let all = operators_are a (fold next_total params runs) parts.1 (opened parts.0.0) parts.0.0 spelled.1 spelled.4 operators.0 operators.1 in
    subst (IsBody a params) h.2 (record {
      counted = locals_counted a params runs rules.0;
      named = locals_below a params runs rules.0;
      operators = subst (λ (n : ℕ). AreOperators a n (Plain ∷ []) (placed parts.0.0 parts.1)) (total_is params runs) all;
    })

-- ---- functions with their bodies

-- as many bodies as the module has own functions
pub bodies_are : (a : Around) (m : Module) (fs : List (Option Function)) (chunks : List Chunk) (xs : List Body) → length chunks ≡ length (filter_map own_type fs)
    → ReadsCodes a (coded m (filter_map own_type fs) chunks) xs → Each (λ (f : Function). OriginRuled a (param_count m f.ty) f.origin) (with_bodies fs xs)
bodies_are a m [] chunks xs n h = tt
bodies_are a m (None ∷ fs) chunks xs n h = bodies_are a m fs chunks xs n h
bodies_are a m (Some f ∷ fs) chunks xs n h = go (λ chunks xs n h. bodies_are a m fs chunks xs n h) f.origin refl
  where
    read_one : ((chunks : List Chunk) (xs : List Body) → length chunks ≡ length (filter_map own_type fs) → ReadsCodes a (coded m (filter_map own_type fs) chunks) xs
        → Each (λ (f : Function). OriginRuled a (param_count m f.ty) f.origin) (with_bodies fs xs))
        → (body : Body) (chunks : List Chunk) (xs : List Body) → length chunks ≡ suc (length (filter_map own_type fs)) → ReadsCodes a (coded m (f.ty ∷ filter_map own_type fs) chunks) xs
        → Each (λ (f : Function). OriginRuled a (param_count m f.ty) f.origin) (filled_with (Some (record { ty = f.ty; origin = Own body })) xs ∷ with_bodies fs (drop 1 xs))
    read_one later body [] xs n h = absurd (omega (arith, n))
    read_one later body (c ∷ chunks) [] n h = absurd h
    read_one later body (c ∷ chunks) (x ∷ xs) n h = (body_is a (param_count m f.ty) c.place c.bytes x h.0, later chunks xs (omega (arith, n)) h.1)

    go : ((chunks : List Chunk) (xs : List Body) → length chunks ≡ length (filter_map own_type fs) → ReadsCodes a (coded m (filter_map own_type fs) chunks) xs
        → Each (λ (f : Function). OriginRuled a (param_count m f.ty) f.origin) (with_bodies fs xs))
        → (o : Origin Body) → f.origin ≡ o → Each (λ (f : Function). OriginRuled a (param_count m f.ty) f.origin) (with_bodies (Some f ∷ fs) xs)
    go later (Imported k) p =
        let n = (rw p at n) in
        let h = (rw p at h) in
        rw p (tt, later chunks xs n h)
    go later (Own body) p = let n = (rw p at n) in let h = (rw p at h) in rw p (read_one later body chunks xs n h)

-- ---- what is around them

pub bare_same : (fs : List (Option Function)) (xs : List Body) → map bare_slot (with_bodies fs xs) ≡ map bare_slot fs
bare_same [] xs = refl
bare_same (None ∷ fs) xs = ap (λ (l : List (Option Function)). None ∷ l) (bare_same fs xs)
bare_same (Some f ∷ fs) xs = go (λ xs. bare_same fs xs) f.origin refl
  where
    filled : (body : Body) (xs : List Body) → bare_slot (filled_with (Some (record { ty = f.ty; origin = Own body })) xs) ≡ Some (record { ty = f.ty; origin = Own no_body })
    filled body [] = refl
    filled body (x ∷ xs) = refl

    go : ((xs : List Body) → map bare_slot (with_bodies fs xs) ≡ map bare_slot fs) → (o : Origin Body) → f.origin ≡ o → map bare_slot (with_bodies (Some f ∷ fs) xs) ≡ map bare_slot (Some f ∷ fs)
    go later (Imported k) p = rw p (ap (λ (l : List (Option Function)). Some (record { ty = f.ty; origin = Imported k }) ∷ l) (later xs))
    go later (Own body) p =
        rw p (ap (λ (l : List (Option Function)). bare_slot (filled_with (Some (record { ty = f.ty; origin = Own body })) xs) ∷ l) (later (drop 1 xs)) ∙ ap (λ (o : Option Function). o ∷ map bare_slot fs) (filled body xs))
