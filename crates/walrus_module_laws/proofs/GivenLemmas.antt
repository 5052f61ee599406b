-- What the iterators of a collection give, entry by entry.
use Rattle.std.proofs.Common.{◌≡◌, ◌∙◌, ◌⊎◌, ℕ, zero, suc, List, [], ◌∷◌, map, Some, Contains, refl, ap, subst, inl, inr, arith}
use Rattle.std.specs.List.{slice_get}
use Rattle.std.proofs.lemmas.List.{length-map}
use Rattle.walrus_arena.specs.Arena.{Arena, entries}
use Rattle.walrus_arena.proofs.LawLemmas.{EntriesAreLive-any}
use Rattle.walrus_module_items.specs.walrus_local_function.declared.local_function.LocalFunction.{LocalFunction}
use Rattle.walrus_module_items.specs.declared.function.Function.{Function}
use Rattle.walrus_module_items.specs.declared.function.FunctionKind.{FunctionKind}
use Rattle.walrus_module_items.specs.declared.function.FunctionKind.TheVariants as kinds
use Rattle.walrus_module_items.specs.Functions.{local_of}
use Rattle.walrus_linked.specs.walrus_collections.LookUps.{local_entries}
use Rattle.walrus_module_laws.specs.Given.{ItemsAreLive, LocalsAreLive}

here : {X : Type 0} (x : X) (xs : List X) → Contains (x ∷ xs) x
here x xs = (0, omega arith, refl)

there : {X : Type 0} (y x : X) (xs : List X) → Contains xs x → Contains (y ∷ xs) x
there y x xs (k, less, at) = (suc k, omega (arith, less), at)

module _ {T : Type 0} where
  -- where an entry stands, its id and its item stand
  place_of : (es : List (ℕ × T)) (e : ℕ × T) → Contains es e → (k : ℕ) × (slice_get (map (λ (d : ℕ × T). d.0) es) k ≡ Some e.0) × (slice_get (map (λ (d : ℕ × T). d.1) es) k ≡ Some e.1)
  place_of [] e (k, less, at) = absurd (omega (arith, less))
  place_of (d ∷ es) e (zero, less, at) = (0, ap (λ (x : ℕ × T). Some x.0) at, ap (λ (x : ℕ × T). Some x.1) at)
  place_of (d ∷ es) e (suc k, less, at) = let h = place_of es e (k, omega (arith, less), at) in (suc h.0, h.1, h.2)

  entry_of : (es : List (ℕ × T)) (k : ℕ) (x : T) → slice_get (map (λ (d : ℕ × T). d.1) es) k ≡ Some x → (id : ℕ) × (slice_get (map (λ (d : ℕ × T). d.0) es) k ≡ Some id) × Contains es (id, x)
  entry_of [] k x h = absurd cc
  entry_of (d ∷ es) zero x h =
      let same : d.1 ≡ x = cc in
      let C : T → Type 0 = λ y. Contains (d ∷ es) (d.0, y) in (d.0, refl, subst C same (here d es))
  entry_of (d ∷ es) (suc k) x h = let r = entry_of es k x h in (r.0, r.1, there d (r.0, x) es r.2)

  pub items_live : (a : Arena T) → ItemsAreLive a
  items_live a =
      let law = EntriesAreLive-any a in
      record {
        each = λ id x at. place_of (entries a) (id, x) ((law.live id x).1 at);
        only = λ k x h. let r = entry_of (entries a) k x h in (r.0, r.1, (law.live r.0 x).0 r.2);
        rising = law.rising;
        counted = length-map (entries a) (λ (e : ℕ × T). e.1) ∙ law.counted;
      }

-- functions with a body, one entry more
abbrev entry : ℕ → Function → FunctionKind → ℕ × Function
entry i f kind = (i, record f { kind = kind })

kept : (i : ℕ) (f : Function) (kind : FunctionKind) (es : List (ℕ × Function)) (p : ℕ × LocalFunction) → Contains (local_entries es) p → Contains (local_entries (entry i f kind ∷ es)) p
kept i f (kinds.Local x) es p h = there (i, x) p (local_entries es) h
kept i f (kinds.Import _) es p h = h
kept i f (kinds.Uninitialized _) es p h = h

first : (i : ℕ) (f : Function) (kind : FunctionKind) (es : List (ℕ × Function)) (local : LocalFunction) → local_of kind ≡ Some local → Contains (local_entries (entry i f kind ∷ es)) (i, local)
first i f (kinds.Local x) es local is =
    let same : x ≡ local = cc in
    let C : LocalFunction → Type 0 = λ y. Contains ((i, x) ∷ local_entries es) (i, y) in subst C same (here (i, x) (local_entries es))
first i f (kinds.Import _) es local is = absurd cc
first i f (kinds.Uninitialized _) es local is = absurd cc

first_or : (i : ℕ) (f : Function) (kind : FunctionKind) (es : List (ℕ × Function)) (p : ℕ × LocalFunction) → Contains (local_entries (entry i f kind ∷ es)) p
    → ((i ≡ p.0) × (local_of kind ≡ Some p.1)) ⊎ Contains (local_entries es) p
first_or i f (kinds.Local x) es p (zero, less, at) = inl (ap (λ (q : ℕ × LocalFunction). q.0) at, ap (λ (q : ℕ × LocalFunction). Some q.1) at)
first_or i f (kinds.Local x) es p (suc k, less, at) = inr (k, omega (arith, less), at)
first_or i f (kinds.Import _) es p h = inr h
first_or i f (kinds.Uninitialized _) es p h = inr h

local_each : (es : List (ℕ × Function)) (id : ℕ) (f : Function) (local : LocalFunction) → Contains es (id, f) → local_of f.kind ≡ Some local → Contains (local_entries es) (id, local)
local_each [] id f local (k, less, at) is = absurd (omega (arith, less))
local_each (e ∷ es) id f local (zero, less, at) is =
    let C : ℕ → Type 0 = λ i. Contains (local_entries (e ∷ es)) (i, local) in
    subst C (ap (λ (d : ℕ × Function). d.0) at) (first e.0 e.1 e.1.kind es local (ap (λ (d : ℕ × Function). local_of d.1.kind) at ∙ is))
local_each (e ∷ es) id f local (suc k, less, at) is = kept e.0 e.1 e.1.kind es (id, local) (local_each es id f local (k, omega (arith, less), at) is)

local_only : (es : List (ℕ × Function)) (id : ℕ) (local : LocalFunction) → Contains (local_entries es) (id, local) → (f : Function) × Contains es (id, f) × (local_of f.kind ≡ Some local)
local_only [] id local (k, less, at) = absurd (omega (arith, less))
local_only (e ∷ es) id local h = elim (first_or e.0 e.1 e.1.kind es (id, local) h) as (λ _. (f : Function) × Contains (e ∷ es) (id, f) × (local_of f.kind ≡ Some local)) [
  | inl g ↦ let C : ℕ → Type 0 = λ i. Contains (e ∷ es) (i, e.1) in (e.1, subst C g.0 (here e es), g.1)
  | inr g ↦ let r = local_only es id local g in (r.0, there e (id, r.0) es r.1, r.2)
]

pub locals_live : (a : Arena Function) → LocalsAreLive a
locals_live a =
    let law = EntriesAreLive-any a in
    record {
      each = λ id f local at is. local_each (entries a) id f local ((law.live id f).1 at) is;
      only = λ id local h. let r = local_only (entries a) id local h in (r.0, (law.live id r.0).0 r.1, r.2);
    }
