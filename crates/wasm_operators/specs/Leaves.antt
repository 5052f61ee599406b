-- Lemmas: accesses to memory and handlers that are written are the shortest ones.
use Rattle.std.specs.Prelude.{ℕ, zero, suc, ◌+◌, ◌-◌, ◌/◌, ◌%◌, ◌<◌, ◌≤◌, ◌≡◌, ◌==◌, Bool, true, false, List, [], ◌∷◌, ◌++◌, length, All, refl, if◌then◌else◌}
use Rattle.std.proofs.Common.{ap, sym, ◌∙◌, subst, arith, inl, inr}
use Rattle.std.proofs.lemmas.Bool.{cases_Bool, eqb-true, ne_eqb}
use Rattle.std.proofs.lemmas.List.{length-append}
use Rattle.std.proofs.lemmas.List.Elements.{All-tail}
use Rattle.wasm_composite_types.specs.wasm_reader.Numbers.{unsigned, Spells}
use Rattle.wasm_operators.specs.declared.memory_access.MemoryAccess.{MemoryAccess}
use Rattle.wasm_operators.specs.declared.clause.Clause.{Clause}
use Rattle.wasm_operators.specs.declared.clause.Clause.TheVariants as handlers
use Rattle.wasm_operators.specs.Readings.{has_memory, align_of}
use Rattle.wasm_operators.specs.ItemSpellings.{SpellsU32, SpellsMemory, SpellsAccess, SpellsTagged, SpellsUntagged, SpellsClause}
use Rattle.wasm_composite_types.specs.wasm_reader.Spelled.{spelled_unsigned, IsShortest-unsigned}
use Rattle.wasm_operators.specs.Bytes.{unsigned_bytes, access_bytes, clause_bytes}
use Rattle.wasm_operators.specs.Laws.{WritesShortest}
use Rattle.wasm_operators.specs.Numbers.{u32_short, u64_short, shorter}
use Rattle.wasm_operators.specs.Vecs.{Small, parts_small, parts_short}

-- flags that no memory's index follows: where there was one, it was 0
pub bare_flags : (flags : ℕ) → (has_memory (align_of flags) ≡ false) × (align_of (align_of flags) ≡ align_of flags) × (align_of flags ≤ flags)
bare_flags flags = at (has_memory flags) refl
  where
    at : (b : Bool) → has_memory flags ≡ b → (has_memory (if b then flags - 64 else flags) ≡ false) × (align_of (if b then flags - 64 else flags) ≡ (if b then flags - 64 else flags)) × ((if b then flags - 64 else flags) ≤ flags)
    at true e =
        let odd : flags / 64 % 2 ≡ 1 = eqb-true (flags / 64 % 2) 1 e in
        let even : (flags - 64) / 64 % 2 ≡ 0 = omega (arith, odd) in
        let off : has_memory (flags - 64) ≡ false = ne_eqb ((flags - 64) / 64 % 2) 1 (λ is. omega arith) in
        (off, rw off refl, omega arith)
    at false e = (e, rw e refl, omega arith)

module _ (bytes : List ℕ) (a : MemoryAccess) (small : Small bytes) (h : SpellsAccess bytes a) where
  abbrev Short : List ℕ → Type 0
  Short written = SpellsAccess written a × (length written ≤ length bytes)

  -- with the parts of the bytes
  abbrev tail : List ℕ
  tail = h.middle ++ h.last

  small_first : Small h.first
  small_first = (parts_small bytes h.first tail h.joined small).0

  small_tail : Small tail
  small_tail = (parts_small bytes h.first tail h.joined small).1

  small_middle : Small h.middle
  small_middle = (parts_small tail h.middle h.last refl small_tail).0

  small_last : Small h.last
  small_last = (parts_small tail h.middle h.last refl small_tail).1

  offset_short : Spells unsigned 64 (unsigned_bytes a.offset) a.offset × (length (unsigned_bytes a.offset) ≤ length h.last)
  offset_short = u64_short h.last a.offset small_last h.offset

  tail_size : length h.last ≤ length tail
  tail_size = let e = length-append h.middle h.last in omega (arith, e)

  -- memory 0: its index is left out
  first_short : a.memory ≡ 0 → Short (unsigned_bytes a.align ++ unsigned_bytes a.offset)
  first_short is =
      let bare = bare_flags h.flags in
      let below : h.flags < 4294967296 = spelled_unsigned 32 h.first h.flags h.flagged in
      let lower : a.align ≤ h.flags = rw h.align bare.2 in
      let fits : a.align < 4294967296 = omega (arith, below, lower) in
      let spelled = IsShortest-unsigned 10 32 a.align (omega arith) (omega arith) fits in
      let no : has_memory a.align ≡ false = rw h.align bare.0 in
      let flags = u32_short h.first h.flags small_first h.flagged in
      let less = shorter 10 a.align h.flags lower in (
        record {
          flags = a.align;
          first = unsigned_bytes a.align;
          middle = [];
          last = unsigned_bytes a.offset;
          joined = refl;
          flagged = spelled.spells;
          align = rw no refl;
          memory = rw no (refl, is);
          offset = offset_short.0;
        },
        parts_short bytes h.first tail (unsigned_bytes a.align) (unsigned_bytes a.offset) h.joined (omega (arith, flags.1, less)) (omega (arith, offset_short.1, tail_size)),
      )

  -- another memory: the flags say that its index follows
  other_short : (a.memory ≡ 0 → ⊥) → Short (unsigned_bytes (a.align + 64) ++ (unsigned_bytes a.memory ++ unsigned_bytes a.offset))
  other_short not = at (has_memory h.flags) refl h.memory
    where
      at : (b : Bool) → has_memory h.flags ≡ b → SpellsMemory b h.middle a.memory → Short (unsigned_bytes (a.align + 64) ++ (unsigned_bytes a.memory ++ unsigned_bytes a.offset))
      at false e m = absurd (not m.1)
      at true e m =
          let odd : h.flags / 64 % 2 ≡ 1 = eqb-true (h.flags / 64 % 2) 1 e in
          let align : a.align ≡ h.flags - 64 = rw e at h.align in
          let same : h.flags ≡ a.align + 64 = omega (arith, odd, align) in
          let flags = u32_short h.first h.flags small_first h.flagged in
          let memory = u32_short h.middle a.memory small_middle m in (
            record {
              flags = a.align + 64;
              first = unsigned_bytes (a.align + 64);
              middle = unsigned_bytes a.memory;
              last = unsigned_bytes a.offset;
              joined = refl;
              flagged = subst (λ (n : ℕ). SpellsU32 (unsigned_bytes n) n) same flags.0;
              align = subst (λ (n : ℕ). a.align ≡ align_of n) same h.align;
              memory = let has : has_memory (a.align + 64) ≡ true = subst (λ (n : ℕ). has_memory n ≡ true) same e in rw has memory.0;
              offset = offset_short.0;
            },
            parts_short bytes h.first tail (unsigned_bytes (a.align + 64)) (unsigned_bytes a.memory ++ unsigned_bytes a.offset) h.joined
                (subst (λ (n : ℕ). length (unsigned_bytes n) ≤ length h.first) same flags.1)
                (parts_short tail h.middle h.last (unsigned_bytes a.memory) (unsigned_bytes a.offset) refl memory.1 offset_short.1),
          )

pub access_short : WritesShortest SpellsAccess access_bytes
access_short bytes a small h = elim (cases_Bool (a.memory == 0)) as (λ _. SpellsAccess (access_bytes a) a × (length (access_bytes a) ≤ length bytes)) [
  | inl is ↦ rw is (first_short bytes a small h (eqb-true a.memory 0 is))
  | inr not ↦ rw not (other_short bytes a small h (λ e. let yes : (a.memory == 0) ≡ true = rw e refl in let no = sym yes ∙ not in cc))
]

-- ---- handlers

tagged_short : (b : ℕ) (bytes : List ℕ) (tag label : ℕ) → Small bytes → SpellsTagged b bytes tag label
    → SpellsTagged b (b ∷ (unsigned_bytes tag ++ unsigned_bytes label)) tag label × (length (b ∷ (unsigned_bytes tag ++ unsigned_bytes label)) ≤ length bytes)
tagged_short b bytes tag label small h =
    let all : Small (b ∷ (h.0 ++ h.1)) = subst Small h.2 small in
    let parts = parts_small (h.0 ++ h.1) h.0 h.1 refl (All-tail (λ b. b < 256) b (h.0 ++ h.1) all) in
    let one = u32_short h.0 tag parts.0 h.3 in
    let two = u32_short h.1 label parts.1 h.4 in
    let both = parts_short (h.0 ++ h.1) h.0 h.1 (unsigned_bytes tag) (unsigned_bytes label) refl one.1 two.1 in
    let size : length bytes ≡ length (b ∷ (h.0 ++ h.1)) = ap (λ (l : List ℕ). length l) h.2 in
    ((unsigned_bytes tag, unsigned_bytes label, refl, one.0, two.0), omega (arith, size, both))

untagged_short : (b : ℕ) (bytes : List ℕ) (label : ℕ) → Small bytes → SpellsUntagged b bytes label
    → SpellsUntagged b (b ∷ unsigned_bytes label) label × (length (b ∷ unsigned_bytes label) ≤ length bytes)
untagged_short b bytes label small h =
    let all : Small (b ∷ h.0) = subst Small h.1 small in
    let one = u32_short h.0 label (All-tail (λ b. b < 256) b h.0 all) h.2 in
    let size : length bytes ≡ length (b ∷ h.0) = ap (λ (l : List ℕ). length l) h.1 in
    ((unsigned_bytes label, refl, one.0), omega (arith, size, one.1))

pub clause_short : WritesShortest SpellsClause clause_bytes
clause_short bytes (handlers.Catch tag label) small h = tagged_short 0x00 bytes tag label small h
clause_short bytes (handlers.CatchRef tag label) small h = tagged_short 0x01 bytes tag label small h
clause_short bytes (handlers.CatchAll label) small h = untagged_short 0x02 bytes label small h
clause_short bytes (handlers.CatchAllRef label) small h = untagged_short 0x03 bytes label small h
