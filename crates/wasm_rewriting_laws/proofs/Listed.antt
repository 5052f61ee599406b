-- Lemmas: what a plan lists of a module, and in which order, is told by the module.
use Rattle.std.specs.Prelude.{ℕ, ◌≡◌, ◌<◌, ◌+◌, ◌⊎◌, Bool, List, ◌++◌, length, Some, slice_get, refl}
use Rattle.std.proofs.Common.{ap, sym, ◌∙◌, arith, inl, inr}
use Rattle.std.proofs.lemmas.Option.{slice_get_within}
use Rattle.walrus_types.proofs.Places.{Has, append_at, contains_has, left_at, right_at}
use Rattle.wasm_operators.specs.Items.{Space, Types, Functions, Tables, Memories, Tags, Globals, ElementSegments, DataSegments, Locals, Labels}
use Rattle.wasm_grammar.specs.Modules.{Item, Module}
use Rattle.wasm_references.specs.References.{Numbered}
use Rattle.wasm_part.specs.Part.{Plan}
use Rattle.wasm_part.specs.Closed.{IsListed, Rise}
use Rattle.wasm_part.specs.Kept.{HasKept, IsShared}
use Rattle.wasm_part.specs.Order.{InOrder, OwnBefore, brought_by, size_of}
use Rattle.wasm_rewriting_laws.proofs.Lists.{filled_at, one_rising, one_sorted}

pub is_shared : (space : Space) → IsListed space → IsShared space
is_shared Types l = tt
is_shared Functions l = tt
is_shared Tables l = tt
is_shared Memories l = tt
is_shared Tags l = tt
is_shared Globals l = tt
is_shared ElementSegments l = tt
is_shared DataSegments l = tt
is_shared Locals l = absurd l
is_shared Labels l = absurd l

-- ---- the order of a module's own items is strict

sizes_apart : (s t a b : ℕ) → (t < s) ⊎ ((s ≡ t) × (a < b)) → (s < t) ⊎ ((t ≡ s) × (b < a)) → ⊥
sizes_apart s t a b (inl x) (inl y) = omega (arith, x, y)
sizes_apart s t a b (inl x) (inr y) = let e = y.0 in omega (arith, x, e)
sizes_apart s t a b (inr x) (inl y) = let e = x.0 in omega (arith, y, e)
sizes_apart s t a b (inr x) (inr y) = let l = x.1 in let k = y.1 in omega (arith, l, k)

numbers_apart : (a b : ℕ) → a < b → b < a → ⊥
numbers_apart a b x y = omega (arith, x, y)

own_apart : (m : Module) (space : Space) → IsListed space → (a b : ℕ) → OwnBefore m space a b → OwnBefore m space b a → ⊥
own_apart m Types l a b x y = l
own_apart m Functions l a b x y = sizes_apart (size_of m a) (size_of m b) a b x y
own_apart m Tables l a b x y = numbers_apart a b x y
own_apart m Memories l a b x y = numbers_apart a b x y
own_apart m Tags l a b x y = numbers_apart a b x y
own_apart m Globals l a b x y = numbers_apart a b x y
own_apart m ElementSegments l a b x y = numbers_apart a b x y
own_apart m DataSegments l a b x y = numbers_apart a b x y
own_apart m Locals l a b x y = l
own_apart m Labels l a b x y = l

-- each item has its place as its number
abbrev pub IsPlaced : Plan → Type 0
IsPlaced p = (space : Space) (i n : ℕ) → IsListed space → slice_get (p.listed space) i ≡ Some n → p.renames space n ≡ i

module _ (v : Numbered) (keep : Bool) (pushed : List Item) where
  module _ (p q : Plan) (kp : HasKept v keep pushed p) (kq : HasKept v keep pushed q) where
    -- what the one lists the other does
    pub goes : (space : Space) → IsShared space → (n : ℕ) → Has (p.listed space) n → Has (q.listed space) n
    goes space shared n h = (q.renames space n, kq.has space n shared (kp.only space h.0 n shared h.1))

    import_goes : (n : ℕ) → Has p.imports n → Has q.imports n
    import_goes n h =
        let x = filled_at p.imports v.filled.imports h.0 n kp.there.imports h.1 in
        contains_has q.imports n (kq.import n x.0 x.1 (kp.imports h.0 n h.1 x.0 x.1))

    export_goes : (n : ℕ) → Has p.exports n → Has q.exports n
    export_goes n h =
        let x = filled_at p.exports v.filled.exports h.0 n kp.there.exports h.1 in
        contains_has q.exports n (kq.exports n x.0 x.1)

    -- the module's own items, where the same imports are listed
    module _ (op : InOrder v.filled p) (oq : InOrder v.filled q) (placed : IsPlaced p) (same : p.imports ≡ q.imports) where
      own_goes : (space : Space) → IsListed space → (n : ℕ) → Has (op.own space) n → Has (oq.own space) n
      own_goes space listed n h =
          let b : List ℕ = brought_by v.filled space p.imports in
          let d : List ℕ = brought_by v.filled space q.imports in
          let j : ℕ = length b + h.0 in
          let here : slice_get (p.listed space) j ≡ Some n = ap (λ (l : List ℕ). slice_get l j) (op.listed space listed) ∙ right_at b (op.own space) h.0 j n refl h.1 in
          let g = goes space (is_shared space listed) n (j, here) in
          let there : slice_get (d ++ oq.own space) g.0 ≡ Some n = ap (λ (l : List ℕ). slice_get l g.0) (sym (oq.listed space listed)) ∙ g.1 in
          elim (append_at d (oq.own space) g.0 n there) as (λ _. Has (oq.own space) n) [
            | inl front ↦
                let before : slice_get b g.0 ≡ Some n = ap (λ (l : List ℕ). slice_get (brought_by v.filled space l) g.0) same ∙ front in
                let also : slice_get (p.listed space) g.0 ≡ Some n = ap (λ (l : List ℕ). slice_get l g.0) (op.listed space listed) ∙ left_at b (op.own space) g.0 n before in
                let low : g.0 < length b = slice_get_within b g.0 n before in
                let one : g.0 ≡ length b + h.0 = sym (placed space g.0 n listed also) ∙ placed space j n listed here in
                absurd (omega (arith, low, one))
            | inr behind ↦ (behind.0, behind.2)
          ]

  module _ (p q : Plan) (kp : HasKept v keep pushed p) (kq : HasKept v keep pushed q) (op : InOrder v.filled p) (oq : InOrder v.filled q) where
    pub imports_told : p.imports ≡ q.imports
    imports_told = one_rising p.imports q.imports (import_goes p q kp kq) (import_goes q p kq kp) op.imports oq.imports

    pub exports_told : Rise p.exports → Rise q.exports → p.exports ≡ q.exports
    exports_told rp rq = one_rising p.exports q.exports (export_goes p q kp kq) (export_goes q p kq kp) rp rq

    pub listed_told : IsPlaced p → IsPlaced q → (space : Space) → IsListed space → p.listed space ≡ q.listed space
    listed_told pp pq space listed =
        let own : op.own space ≡ oq.own space =
        one_sorted (OwnBefore v.filled space) (own_apart v.filled space listed) (op.own space) (oq.own space)
        (own_goes p q kp kq op oq pp imports_told space listed) (own_goes q p kq kp oq op pq (sym imports_told) space listed) (op.ordered space listed) (oq.ordered space listed) in
        op.listed space listed ∙ ap (λ (l : List ℕ). brought_by v.filled space l ++ op.own space) imports_told
        ∙ ap (λ (l : List ℕ). brought_by v.filled space q.imports ++ l) own ∙ sym (oq.listed space listed)

    -- imports that are listed have the same numbers
    pub brings_told : (n : ℕ) → Has p.imports n → p.brings n ≡ q.brings n
    brings_told n h = op.brings h.0 n h.1 ∙ sym (oq.brings h.0 n (ap (λ (l : List ℕ). slice_get l h.0) (sym imports_told) ∙ h.1))
