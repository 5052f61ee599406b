-- The normal form of a body in normal form.
use Rattle.std.proofs.Common.{ℕ, ◌+◌, ◌≤◌, ◌≡◌, Bool, true, false, List, map, length, refl, sym, ap, subst, ◌∙◌}
use Rattle.std.specs.Prelude.{nat_lt, if◌then◌else◌}
use Rattle.std.specs.List.{filter}
use Rattle.std.proofs.lemmas.Bool.{le-ltb}
use Rattle.std.proofs.lemmas.List.{length-map}
use Rattle.walrus_forms.specs.declared.value.ValType.{ValType}
use Rattle.wasm_normal_form.specs.Roles.{Placed}
use Rattle.wasm_normal_form.specs.Normal.{normal_ops}
use Rattle.wasm_normal_form.specs.Locals.{Key, in_order, numbered, position}
use Rattle.wasm_normal_form.specs.Bodies.{is_used, new_number, renumbered, used_keys, with_locals}
use Rattle.wasm_normal_form.specs.Laws.{RenamedAgain}
use Rattle.wasm_normal_laws.specs.Laws.{NormalBodiesAreNormal}
use Rattle.wasm_normal_laws.proofs.Orders.{types, numbered_ordered, order_ordered, order_same}
use Rattle.wasm_normal_laws.proofs.Numbers.{In, all_pass, distinct_filter, distinct_numbered, distinct_order, in_filter, in_numbered, not_below, of_order, position_at, position_small, types_numbered}
use Rattle.wasm_normal_laws.proofs.Names.{ops_settled, used_renamed}

module _ (params : ℕ) (locals : List ValType) (ops : List Placed) where
  abbrev keys : List Key
  keys = used_keys params locals ops

  abbrev again : List Key
  again = numbered params (types keys)

  abbrev number : ℕ → ℕ
  number = new_number params keys

  abbrev written : List Placed
  written = map (with_locals number) ops

  used : Key → Bool
  used k = is_used ops k.1

  -- a used local has the number of its position behind the parameters
  numbers : (k : Key) → In k keys → (is_used ops k.1 ≡ true) × (number k.1 ≡ params + position keys k.1)
  numbers k i =
      let kept = in_filter (λ (k : Key). is_used ops k.1) k (numbered params locals) (of_order k (filter (λ (k : Key). is_used ops k.1) (numbered params locals)) i) in
      (kept.0, rw (le-ltb k.1 params (in_numbered params locals k kept.1)) refl)

  -- all locals that are written are used
  all_used : filter (λ (k : Key). is_used written k.1) again ≡ again
  all_used =
      all_pass (is_used written) params keys (distinct_order (filter (λ (k : Key). is_used ops k.1) (numbered params locals)) (distinct_filter (λ (k : Key). is_used ops k.1) (numbered params locals) (distinct_numbered params locals)))
      (λ k i. let n = numbers k i in ap (is_used written) (sym n.1) ∙ used_renamed number ops k.1 n.0)

  keys_again : used_keys params (types keys) written ≡ again
  keys_again = ap in_order all_used ∙ order_same again (numbered_ordered params keys (order_ordered (filter (λ (k : Key). is_used ops k.1) (numbered params locals))))

  behind : (p : ℕ) → p ≤ length keys → new_number params again (params + p) ≡ params + p
  behind p h =
      let small : p ≤ length (types keys) = subst (λ (n : ℕ). p ≤ n) (sym (length-map keys (λ (k : Key). k.0))) h in
      rw (not_below params p) (ap (λ (n : ℕ). params + n) (position_at params (types keys) p small))

  -- a second renaming changes no number
  settled : (n : ℕ) → new_number params again (number n) ≡ number n
  settled n = by (nat_lt n params) refl
    where
      by : (b : Bool) → nat_lt n params ≡ b → new_number params again (if b then n else params + position keys n) ≡ (if b then n else params + position keys n)
      by true e = rw e refl
      by false e = behind (position keys n) (position_small keys n)

  body_again : renumbered params (used_keys params (types keys) written) written ≡ renumbered params keys ops
  body_again =
      ap (λ (ks : List Key). renumbered params ks written) keys_again ∙ ap (λ (tys : List ValType). record { locals = tys; ops = map (with_locals (new_number params again)) written }) (types_numbered params (types keys))
      ∙ ap (λ (os : List Placed). record { locals = types keys; ops = os }) (ops_settled number (new_number params again) settled ops)

pub normal_bodies : RenamedAgain → NormalBodiesAreNormal
normal_bodies again pick params b t same nests =
    let ops = normal_ops pick b.ops in
    let ks = used_keys params b.locals ops in
    ap (λ (os : List Placed). renumbered params (used_keys params (types ks) os) os) (again (new_number params ks) pick b.ops t same nests) ∙ body_again params b.locals ops
