-- What is kept.
use Rattle.std.proofs.Common.{◌≡◌, ◌∙◌, ◌⊎◌, ◌<◌, ℕ, Bool, true, false, List, Option, Some, None, length, refl, sym, ap, subst, inl, inr, arith}
use Rattle.std.specs.Prelude.{◌↔◌, Decides, MatchOption, IsSome, IsTrue}
use Rattle.std.proofs.lemmas.List.{get_or_past}
use Rattle.std.proofs.lemmas.Bool.{cases_lt, false≢true}
use Rattle.wasm_formats.specs.declared.fault.Space.TheVariants as spaces
use Rattle.walrus_arena.specs.Arena.{Arena, IsLive}
use Rattle.walrus_refusals.specs.walrus_used.walrus_module.Parts.{Module}
use Rattle.walrus_roots.specs.declared.item.Item.{Item}
use Rattle.walrus_roots.specs.Items.{item, space_number}
use Rattle.walrus_marks.specs.Marks.{State, is_marked}
use Rattle.walrus_refusals.specs.walrus_used.walrus_references.Kept.{IsReached, IsFirstMemory, IsSpared, Kept}
use Rattle.walrus_refusals.specs.walrus_used.walrus_module.Items.{Lives}
use Rattle.walrus_refusals.specs.Checks.{IsMet}
use Rattle.walrus_passes.specs.declared.kept.KeptItems.{KeptItems}
use Rattle.walrus_passes.specs.Keeping.{IsHeld, SparesMemory}

-- what lives was given out
pub live_below : {T : Type 0} (a : Arena T) (id : ℕ) → IsLive a id → id < length a.slots
live_below a id live = elim (cases_lt id (length a.slots)) as (λ _. id < length a.slots) [
  | inl below ↦ below
  | inr past ↦ absurd (false≢true (subst IsSome (get_or_past a.slots id None past) live))
]

-- there is one first memory
pub one_first : (m : Module) (a b : ℕ) → IsFirstMemory m a → IsFirstMemory m b → a ≡ b
one_first m a b p q = elim (cases_lt a b) as (λ _. a ≡ b) [
  | inl below ↦ absurd (q.first a below p.live)
  | inr past ↦ elim (cases_lt b a) as (λ _. a ≡ b) [ inl above ↦ absurd (p.first b above q.live) | inr rest ↦ omega (arith, past, rest) ]
]

-- whether a memory is spared
module _ (m : Module) (s : State) (live : (x : Item) → IsMet s x → Lives m x) where
  abbrev Data : ℕ → Type 0
  Data n = (id : ℕ) × (id < n) × IsMet s (item spaces.Data id)

  abbrev Memories : ℕ → Type 0
  Memories n = (id : ℕ) × (id < n) × IsMet s (item spaces.Memory id)

  pub has_memory : (n : ℕ) (b : Bool) → b ≡ true → Decides b (Memories n) → (memory : ℕ) → SparesMemory m s memory → ⊥
  has_memory n b e d memory p = (let one = d.0 e in p.no_memory one.0 one.2)

  pub has_no_data : (n : ℕ) (b : Bool) → n ≡ length m.data_segments.slots → b ≡ false → Decides b (Data n) → (memory : ℕ) → SparesMemory m s memory → ⊥
  has_no_data n b is e d memory p = false≢true (sym e ∙ d.1 (p.segment, (let below = live_below m.data_segments p.segment (live (item spaces.Data p.segment) p.has_data) in omega (arith, below, is)), p.has_data))

  pub spares_first : (k n : ℕ) (b c : Bool) → n ≡ length m.memories.slots → b ≡ false → Decides b (Memories n) → c ≡ true → Decides c (Data k) → (found : Option ℕ) → MatchOption found ((id : ℕ) → IsLive m.memories id → ⊥) (IsFirstMemory m)
      → MatchOption found ((memory : ℕ) → SparesMemory m s memory → ⊥) (SparesMemory m s)
  spares_first k n b c is e d f g None h = λ memory p. h memory p.first.live
  spares_first k n b c is e d f g (Some memory) h =
      let one = g.0 f in
      record {
        first = h;
        segment = one.0;
        has_data = one.2;
        no_memory = λ other met. false≢true (sym e ∙ d.1 (other, (let below = live_below m.memories other (live (item spaces.Memory other) met) in omega (arith, below, is)), met));
      }

module _ (m : Module) (pushed : List Item) (s : State) (met : (x : Item) → IsMet s x ↔ IsReached m pushed x) where
  spared_from : (x : Item) → IsSpared m pushed x → (memory : ℕ) × (x ≡ item spaces.Memory memory) × SparesMemory m s memory
  spared_from x p = (p.memory, p.is, record { first = p.first; segment = p.segment; has_data = (met (item spaces.Data p.segment)).1 p.has_data; no_memory = λ other h. p.no_memory other ((met (item spaces.Memory other)).0 h) })

  spares : (x : Item) (memory : ℕ) → x ≡ item spaces.Memory memory → SparesMemory m s memory → IsSpared m pushed x
  spares x memory is p = record { memory = memory; is = is; first = p.first; segment = p.segment; has_data = (met (item spaces.Data p.segment)).0 p.has_data; no_memory = λ other r. p.no_memory other ((met (item spaces.Memory other)).1 r) }

  held_from : (spared : Option ℕ) → MatchOption spared ((memory : ℕ) → SparesMemory m s memory → ⊥) (SparesMemory m s) → (x : Item) → IsMet s x ⊎ MatchOption spared ⊥ (λ memory. x ≡ item spaces.Memory memory) → Kept m pushed x
  held_from spared found x (inl h) = inl ((met x).0 h)
  held_from None found x (inr h) = absurd h
  held_from (Some memory) found x (inr is) = inr (spares x memory is found)

  held_spared : (spared : Option ℕ) → MatchOption spared ((memory : ℕ) → SparesMemory m s memory → ⊥) (SparesMemory m s) → (x : Item) → IsSpared m pushed x → MatchOption spared ⊥ (λ memory. x ≡ item spaces.Memory memory)
  held_spared None found x p = (let q = spared_from x p in found q.0 q.2)
  held_spared (Some memory) found x p = (let q = spared_from x p in q.1 ∙ ap (item spaces.Memory) (one_first m q.0 memory q.2.first found.first))

  -- what is held is what is kept
  pub held_kept : (spared : Option ℕ) → MatchOption spared ((memory : ℕ) → SparesMemory m s memory → ⊥) (SparesMemory m s) → (x : Item) → (IsMet s x ⊎ MatchOption spared ⊥ (λ memory. x ≡ item spaces.Memory memory)) ↔ Kept m pushed x
  held_kept spared found x = (held_from spared found x, λ k. elim k as (λ _. IsMet s x ⊎ MatchOption spared ⊥ (λ memory. x ≡ item spaces.Memory memory)) [ inl r ↦ inl ((met x).1 r) | inr p ↦ inr (held_spared spared found x p) ])

-- no type is the memory that is spared
not_spared : (k : ℕ) (o : Option ℕ) → MatchOption o ⊥ (λ memory. item spaces.Type k ≡ item spaces.Memory memory) → ⊥
not_spared k None h = h
not_spared k (Some memory) h = (let same : 0 ≡ 3 = ap (λ (x : Item). space_number x.space) h in omega (arith, same))

by_mark : (b : Bool) (Q : Type 0) → (Q → ⊥) → ((IsTrue b ⊎ Q → ⊥) → ⊥) → IsTrue b ⊎ Q
by_mark true Q none twice = inl refl
by_mark false Q none twice = absurd (twice (λ h. elim h as (λ _. ⊥) [ inl t ↦ false≢true t | inr q ↦ none q ]))

-- a type is held or it isn't
pub surely_held : (kept : KeptItems) (id : ℕ) → ((IsHeld kept (item spaces.Type id) → ⊥) → ⊥) → IsHeld kept (item spaces.Type id)
surely_held kept id twice = by_mark (is_marked kept.marks.met.marks (item spaces.Type id)) (MatchOption kept.spared ⊥ (λ memory. item spaces.Type id ≡ item spaces.Memory memory)) (not_spared id kept.spared) twice
