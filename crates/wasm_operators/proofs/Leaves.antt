-- Accesses to memory, handlers and lists whose numbers are in their ranges are spelled, and no others.
use Rattle.std.proofs.Common.{◌≡◌, ◌+◌, ◌/◌, ◌%◌, ◌^◌, ◌<◌, ◌≤◌, ◌==◌, inl, inr, ℕ, zero, suc, Bool, true, false, List, [], ◌∷◌, ◌++◌, length, refl, arith}
use Rattle.std.specs.List.{All, flat_map}
use Rattle.std.proofs.lemmas.Bool.{cases_Bool, eqb-true}
use Rattle.std.proofs.lemmas.List.Elements.{All-nil, All-cons, All-head, All-tail}
use Rattle.wasm_composite_types.specs.wasm_reader.Items.{SpellsItems, SpellsVec}
use Rattle.wasm_composite_types.specs.wasm_reader.Numbers.{unsigned, Spells}
use Rattle.wasm_composite_types.specs.wasm_reader.Spelled.{IsShortest-unsigned, spelled_unsigned}
use Rattle.wasm_operators.specs.declared.memory_access.MemoryAccess.{MemoryAccess}
use Rattle.wasm_operators.specs.declared.clause.Clause.{Clause}
use Rattle.wasm_operators.specs.declared.clause.Clause.TheVariants as handlers
use Rattle.wasm_operators.specs.Readings.{has_memory, most}
use Rattle.wasm_operators.specs.ItemSpellings.{SpellsMemory, SpellsAccess, SpellsClause}
use Rattle.wasm_operators.specs.Bytes.{unsigned_bytes, access_bytes, clause_bytes, vec_bytes}
use Rattle.wasm_operators.specs.Vecs.{Small, parts_small}
use Rattle.wasm_operators.specs.Leaves.{bare_flags}
use Rattle.wasm_operators.specs.Ranges.{IsU32, AccessFits, ClauseFits, ListFits}
use Rattle.wasm_operators.specs.RangeLaws.{SpelledIfFits}
use Rattle.wasm_operators.proofs.Numbers.{u32_fits}

-- ---- accesses to memory

u64_spelled : (n : ℕ) → n < 2 ^ 64 → Spells unsigned 64 (unsigned_bytes n) n
u64_spelled n h = (IsShortest-unsigned 10 64 n (omega arith) (omega arith) h).spells

other_digit : (q : ℕ) → (q % 2 == 1) ≡ false → q % 2 ≡ 0
other_digit q not = at (q % 2) (omega arith) not
  where
    at : (d : ℕ) → d < 2 → (d == 1) ≡ false → d ≡ 0
    at zero h not = refl
    at (suc zero) h not = let no = not in absurd cc
    at (suc (suc d)) h not = absurd (omega (arith, h))

-- flags with bit 6, which the alignment hasn't
with_bit : (align : ℕ) → IsU32 align → has_memory align ≡ false → IsU32 (align + 64) × (has_memory (align + 64) ≡ true)
with_bit align small apart =
    let low = other_digit (align / 64) apart in
    let odd : (align + 64) / 64 % 2 ≡ 1 = omega (arith, low) in
    (omega (arith, small, low), rw odd refl)

-- memory 0, whose index is left out
first_has : (a : MemoryAccess) → AccessFits a → a.memory ≡ 0 → SpellsAccess (unsigned_bytes a.align ++ unsigned_bytes a.offset) a
first_has a h is = record {
  flags = a.align;
  first = unsigned_bytes a.align;
  middle = [];
  last = unsigned_bytes a.offset;
  joined = refl;
  flagged = u32_fits.has a.align h.align;
  align = rw h.apart refl;
  memory = rw h.apart (refl, is);
  offset = u64_spelled a.offset h.offset;
}

other_has : (a : MemoryAccess) → AccessFits a → SpellsAccess (unsigned_bytes (a.align + 64) ++ (unsigned_bytes a.memory ++ unsigned_bytes a.offset)) a
other_has a h =
    let bit = with_bit a.align h.align h.apart in
    record {
      flags = a.align + 64;
      first = unsigned_bytes (a.align + 64);
      middle = unsigned_bytes a.memory;
      last = unsigned_bytes a.offset;
      joined = refl;
      flagged = u32_fits.has (a.align + 64) bit.0;
      align = rw bit.1 (omega arith);
      memory = rw bit.1 (u32_fits.has a.memory h.memory);
      offset = u64_spelled a.offset h.offset;
    }

access_has : (a : MemoryAccess) → AccessFits a → SpellsAccess (access_bytes a) a
access_has a h = elim (cases_Bool (a.memory == 0)) as (λ _. SpellsAccess (access_bytes a) a) [
  | inl is ↦ rw is (first_has a h (eqb-true a.memory 0 is))
  | inr not ↦ rw not (other_has a h)
]

memory_only : (b : Bool) (bytes : List ℕ) (memory : ℕ) → SpellsMemory b bytes memory → IsU32 memory
memory_only true bytes memory m = spelled_unsigned 32 bytes memory m
memory_only false bytes memory m = let none = m.1 in omega (arith, none)

access_only : (bytes : List ℕ) (a : MemoryAccess) → SpellsAccess bytes a → AccessFits a
access_only bytes a h =
    let below : h.flags < 2 ^ 32 = spelled_unsigned 32 h.first h.flags h.flagged in
    let bare = bare_flags h.flags in
    let less : a.align ≤ h.flags = rw h.align bare.2 in
    record {
      align = omega (arith, below, less);
      apart = rw h.align bare.0;
      memory = memory_only (has_memory h.flags) h.middle a.memory h.memory;
      offset = spelled_unsigned 64 h.last a.offset h.offset;
    }

pub access_fits : SpelledIfFits SpellsAccess access_bytes AccessFits
access_fits = record { has = access_has; only = λ bytes a small h. access_only bytes a h }

-- ---- handlers

clause_has : (x : Clause) → ClauseFits x → SpellsClause (clause_bytes x) x
clause_has (handlers.Catch tag label) h = (unsigned_bytes tag, unsigned_bytes label, refl, u32_fits.has tag h.0, u32_fits.has label h.1)
clause_has (handlers.CatchRef tag label) h = (unsigned_bytes tag, unsigned_bytes label, refl, u32_fits.has tag h.0, u32_fits.has label h.1)
clause_has (handlers.CatchAll label) h = (unsigned_bytes label, refl, u32_fits.has label h)
clause_has (handlers.CatchAllRef label) h = (unsigned_bytes label, refl, u32_fits.has label h)

clause_only : (bytes : List ℕ) (x : Clause) → SpellsClause bytes x → ClauseFits x
clause_only bytes (handlers.Catch tag label) h = (spelled_unsigned 32 h.0 tag h.3, spelled_unsigned 32 h.1 label h.4)
clause_only bytes (handlers.CatchRef tag label) h = (spelled_unsigned 32 h.0 tag h.3, spelled_unsigned 32 h.1 label h.4)
clause_only bytes (handlers.CatchAll label) h = spelled_unsigned 32 h.0 label h.2
clause_only bytes (handlers.CatchAllRef label) h = spelled_unsigned 32 h.0 label h.2

pub clause_fits : SpelledIfFits SpellsClause clause_bytes ClauseFits
clause_fits = record { has = clause_has; only = λ bytes x small h. clause_only bytes x h }

-- ---- lists

module _ {A : Type 0} (spells : List ℕ → A → Type 0) (written : A → List ℕ) (Fits : A → Type 0) (it : SpelledIfFits spells written Fits) where
  items_have : (xs : List A) → All Fits xs → SpellsItems spells (flat_map written xs) xs
  items_have [] h = refl
  items_have (x ∷ xs) h = (written x, flat_map written xs, refl, it.has x (All-head Fits x xs h), items_have xs (All-tail Fits x xs h))

  items_only : (bytes : List ℕ) (xs : List A) → Small bytes → SpellsItems spells bytes xs → All Fits xs
  items_only bytes [] small h = All-nil Fits
  items_only bytes (x ∷ xs) small h =
      let parts = parts_small bytes h.0 h.1 h.2 small in
      All-cons Fits x xs (it.only h.0 x parts.0 h.3) (items_only h.1 xs parts.1 h.4)

  pub list_fits : SpelledIfFits (SpellsVec most spells) (vec_bytes written) (ListFits Fits)
  list_fits = record {
    has = λ xs h. record {
      count = unsigned_bytes (length xs);
      listed = flat_map written xs;
      joined = refl;
      counts = u32_fits.has (length xs) (let few = h.0 in omega (arith, few));
      most = h.0;
      lists = items_have xs h.1;
    };
    only = λ bytes xs small h. (h.most, items_only h.listed xs (parts_small bytes h.count h.listed h.joined small).1 h.lists);
  }
