-- Lemmas: bytes, accesses to memory and handlers are read from the bytes that spell them, and from no others.
use Rattle.std.specs.Prelude.{ℕ, ◌+◌, ◌<◌, ◌≡◌, ◌==◌, nat_lt, Bool, true, false, List, [], ◌∷◌, ◌++◌, length, Ok, Err, All, if◌then◌else◌, refl}
use Rattle.std.proofs.Common.{ap, sym, ◌∙◌, subst, arith, inl, inr}
use Rattle.std.proofs.lemmas.Bool.{cases_Bool, eqb-true, ltb-true, lt-ltb}
use Rattle.std.proofs.lemmas.List.{append_assoc}
use Rattle.std.proofs.lemmas.List.Elements.{All-tail}
use Rattle.wasm_composite_types.specs.wasm_reader.declared.error.ErrorKind.TheVariants as faults
use Rattle.wasm_composite_types.specs.wasm_reader.Reading.{Reading, Fault, fault, ◌>>=◌, byte_at}
use Rattle.wasm_composite_types.specs.wasm_reader.Numbers.{unsigned, Spells, unsigned_at}
use Rattle.wasm_composite_types.specs.wasm_reader.SmallSpellings.{SpellsByte}
use Rattle.wasm_composite_types.specs.wasm_reader.Laws.{TakesSpelled}
use Rattle.wasm_composite_types.specs.wasm_reader.Spellings.{ok_is, then_was, if_was, number_taken}
use Rattle.wasm_composite_types.specs.wasm_reader.Vecs.{later_bytes}
use Rattle.wasm_composite_types.specs.Taken.{Small, Fronts}
use Rattle.wasm_operators.specs.declared.memory_access.MemoryAccess.{MemoryAccess}
use Rattle.wasm_operators.specs.declared.clause.Clause.{Clause}
use Rattle.wasm_operators.specs.declared.clause.Clause.TheVariants as handlers
use Rattle.wasm_operators.specs.Readings.{below_at, zero_at, has_memory, memory_at, align_of, access_of, access_at, tagged_at, untagged_at, clause_after, clause_at}
use Rattle.wasm_operators.specs.ItemSpellings.{SpellsBelow, SpellsZero, SpellsMemory, SpellsAccess, SpellsTagged, SpellsUntagged, SpellsClause}

-- ---- single bytes

byte_found : (bytes later : List ℕ) (b : ℕ) → byte_at bytes ≡ Ok (b, later) → Fronts SpellsByte bytes later b
byte_found [] later b e = absurd cc
byte_found (x ∷ bytes) later b e =
    let same = ok_is (x, bytes) (b, later) e in
    (x ∷ [], ap (λ (p : ℕ × List ℕ). p.0 ∷ []) same, ap (λ (p : ℕ × List ℕ). x ∷ p.1) same)

pub byte_taken : TakesSpelled byte_at SpellsByte
byte_taken = record { again = λ bytes more b h. rw h refl; found = λ bytes later b small e. byte_found bytes later b e }

below_again : (bound : ℕ) (bytes more : List ℕ) (b : ℕ) → SpellsBelow bound bytes b → below_at bound (bytes ++ more) ≡ Ok (b, more)
unfolding below_at
below_again bound bytes more b h = rw (h.0, lt-ltb b bound h.1) refl

below_found : (bound : ℕ) (bytes later : List ℕ) (b : ℕ) → below_at bound bytes ≡ Ok (b, later) → Fronts (SpellsBelow bound) bytes later b
unfolding below_at
below_found bound [] later b e = absurd cc
below_found bound (x ∷ bytes) later b e =
    let tested = if_was (nat_lt x bound) (x, bytes) (b, later) (fault faults.BadByte (length (x ∷ bytes))) e in
    let is : x ≡ b = ap (λ p. p.0) tested.1 in
    (x ∷ [], (ap (λ (n : ℕ). n ∷ []) is, subst (λ (n : ℕ). n < bound) is (ltb-true x bound tested.0)), ap (λ (p : ℕ × List ℕ). x ∷ p.1) tested.1)

pub below_taken : (bound : ℕ) → TakesSpelled (below_at bound) (SpellsBelow bound)
below_taken bound = record { again = below_again bound; found = λ bytes later b small e. below_found bound bytes later b e }

zero_again : (bytes more : List ℕ) (u : Unit {0}) → SpellsZero bytes u → zero_at (bytes ++ more) ≡ Ok (u, more)
unfolding zero_at
zero_again bytes more u h = rw h refl

zero_found : (bytes later : List ℕ) (u : Unit {0}) → zero_at bytes ≡ Ok (u, later) → Fronts SpellsZero bytes later u
unfolding zero_at
zero_found [] later u e = absurd cc
zero_found (x ∷ bytes) later u e =
    let tested = if_was (x == 0) (tt, bytes) (u, later) (fault faults.BadByte (length (x ∷ bytes))) e in
    let is : x ≡ 0 = eqb-true x 0 tested.0 in
    (x ∷ [], ap (λ (n : ℕ). n ∷ []) is, ap (λ (p : Unit {0} × List ℕ). x ∷ p.1) tested.1)

pub zero_taken : TakesSpelled zero_at SpellsZero
zero_taken = record { again = zero_again; found = λ bytes later u small e. zero_found bytes later u e }

pub u32_taken : TakesSpelled (unsigned_at 32) (λ bytes n. Spells unsigned 32 bytes n)
u32_taken = number_taken unsigned faults.TooLarge 32

u64_taken : TakesSpelled (unsigned_at 64) (λ bytes n. Spells unsigned 64 bytes n)
u64_taken = number_taken unsigned faults.TooLarge 64

-- ---- accesses

memory_taken : (flags : ℕ) → TakesSpelled (memory_at flags) (SpellsMemory (has_memory flags))
unfolding memory_at
memory_taken flags = at (has_memory flags)
  where
    none_found : (bytes later : List ℕ) (n : ℕ) → (let r : Reading ℕ = Ok (0, bytes) in r ≡ Ok (n, later)) → Fronts (SpellsMemory false) bytes later n
    none_found bytes later n e =
        let same = ok_is (0, bytes) (n, later) e in
        ([], (refl, sym (ap (λ (p : ℕ × List ℕ). p.0) same)), ap (λ (p : ℕ × List ℕ). p.1) same)

    at : (b : Bool) → TakesSpelled (λ bytes. if b then unsigned_at 32 bytes else Ok (0, bytes)) (SpellsMemory b)
    at true = u32_taken
    at false = record { again = λ bytes more n h. rw (h.0, h.1) refl; found = λ bytes later n small e. none_found bytes later n e }

access_again : (bytes more : List ℕ) (a : MemoryAccess) → SpellsAccess bytes a → access_at (bytes ++ more) ≡ Ok (a, more)
unfolding access_at
access_again bytes more a h =
    rw (
      h.joined,
      append_assoc h.first (h.middle ++ h.last) more,
      append_assoc h.middle h.last more,
      u32_taken.again h.first (h.middle ++ (h.last ++ more)) h.flags h.flagged,
      (memory_taken h.flags).again h.middle (h.last ++ more) a.memory h.memory,
      u64_taken.again h.last more a.offset h.offset,
    )
    (ap (λ (n : ℕ). Ok (access_of n a.memory a.offset, more)) (sym h.align))

access_found : (bytes later : List ℕ) (a : MemoryAccess) → Small bytes → access_at bytes ≡ Ok (a, later) → Fronts SpellsAccess bytes later a
unfolding access_at
access_found bytes later a small e =
    let one = then_was (unsigned_at 32 bytes) (λ f. memory_at f.0 f.1 >>= λ m. (unsigned_at 64 m.1 >>= λ o. Ok (access_of (align_of f.0) m.0 o.0, o.1))) (a, later) e in
    let two = then_was (memory_at one.0.0 one.0.1) (λ m. unsigned_at 64 m.1 >>= λ o. Ok (access_of (align_of one.0.0) m.0 o.0, o.1)) (a, later) one.2 in
    let three = then_was (unsigned_at 64 two.0.1) (λ o. Ok (access_of (align_of one.0.0) two.0.0 o.0, o.1)) (a, later) two.2 in
    let same = ok_is (access_of (align_of one.0.0) two.0.0 three.0.0, three.0.1) (a, later) three.2 in
    let is : access_of (align_of one.0.0) two.0.0 three.0.0 ≡ a = ap (λ p. p.0) same in
    let back : three.0.1 ≡ later = ap (λ p. p.1) same in
    let f1 = u32_taken.found bytes one.0.1 one.0.0 small one.1 in
    let small1 = later_bytes f1.0 one.0.1 (subst Small f1.2 small) in
    let f2 = (memory_taken one.0.0).found one.0.1 two.0.1 two.0.0 small1 two.1 in
    let small2 = later_bytes f2.0 two.0.1 (subst Small f2.2 small1) in
    let f3 = u64_taken.found two.0.1 three.0.1 three.0.0 small2 three.1 in (
      f1.0 ++ (f2.0 ++ f3.0),
      record {
        flags = one.0.0;
        first = f1.0;
        middle = f2.0;
        last = f3.0;
        joined = refl;
        flagged = f1.1;
        align = sym (ap (λ (x : MemoryAccess). x.align) is);
        memory = subst (λ (n : ℕ). SpellsMemory (has_memory one.0.0) f2.0 n) (ap (λ (x : MemoryAccess). x.memory) is) f2.1;
        offset = subst (λ (n : ℕ). Spells unsigned 64 f3.0 n) (ap (λ (x : MemoryAccess). x.offset) is) f3.1;
      },
      f1.2 ∙ ap (λ (l : List ℕ). f1.0 ++ l) (f2.2 ∙ ap (λ (l : List ℕ). f2.0 ++ l) f3.2)
          ∙ ap (λ (l : List ℕ). f1.0 ++ l) (sym (append_assoc f2.0 f3.0 three.0.1))
          ∙ sym (append_assoc f1.0 (f2.0 ++ f3.0) three.0.1)
          ∙ ap (λ (l : List ℕ). (f1.0 ++ (f2.0 ++ f3.0)) ++ l) back,
    )

pub access_taken : TakesSpelled access_at SpellsAccess
access_taken = record { again = access_again; found = access_found }

-- ---- handlers

tagged_found : (b : ℕ) (make : ℕ → ℕ → Clause) (spelled : (bytes : List ℕ) (tag label : ℕ) → SpellsTagged b bytes tag label → SpellsClause bytes (make tag label))
    → (bytes later : List ℕ) (value : Clause) → Small bytes → tagged_at make bytes ≡ Ok (value, later)
    → Fronts SpellsClause (b ∷ bytes) later value
tagged_found b make spelled bytes later value small e =
    let one = then_was (unsigned_at 32 bytes) (λ t. unsigned_at 32 t.1 >>= λ l. Ok (make t.0 l.0, l.1)) (value, later) e in
    let two = then_was (unsigned_at 32 one.0.1) (λ l. Ok (make one.0.0 l.0, l.1)) (value, later) one.2 in
    let same = ok_is (make one.0.0 two.0.0, two.0.1) (value, later) two.2 in
    let f1 = u32_taken.found bytes one.0.1 one.0.0 small one.1 in
    let f2 = u32_taken.found one.0.1 two.0.1 two.0.0 (later_bytes f1.0 one.0.1 (subst Small f1.2 small)) two.1 in (
      b ∷ (f1.0 ++ f2.0),
      subst (SpellsClause (b ∷ (f1.0 ++ f2.0))) (ap (λ p. p.0) same) (spelled (b ∷ (f1.0 ++ f2.0)) one.0.0 two.0.0 (f1.0, f2.0, refl, f1.1, f2.1)),
      ap (λ (l : List ℕ). b ∷ l) (f1.2 ∙ ap (λ (l : List ℕ). f1.0 ++ l) f2.2 ∙ sym (append_assoc f1.0 f2.0 two.0.1) ∙ ap (λ p. (f1.0 ++ f2.0) ++ p.1) same),
    )

untagged_found : (b : ℕ) (make : ℕ → Clause) (spelled : (bytes : List ℕ) (label : ℕ) → SpellsUntagged b bytes label → SpellsClause bytes (make label))
    → (bytes later : List ℕ) (value : Clause) → Small bytes → untagged_at make bytes ≡ Ok (value, later)
    → Fronts SpellsClause (b ∷ bytes) later value
untagged_found b make spelled bytes later value small e =
    let one = then_was (unsigned_at 32 bytes) (λ l. Ok (make l.0, l.1)) (value, later) e in
    let same = ok_is (make one.0.0, one.0.1) (value, later) one.2 in
    let f1 = u32_taken.found bytes one.0.1 one.0.0 small one.1 in (
      b ∷ f1.0,
      subst (SpellsClause (b ∷ f1.0)) (ap (λ p. p.0) same) (spelled (b ∷ f1.0) one.0.0 (f1.0, refl, f1.1)),
      ap (λ (l : List ℕ). b ∷ l) (f1.2 ∙ ap (λ p. f1.0 ++ p.1) same),
    )

byte_or : {A : Type 0} (x c : ℕ) (bytes : List ℕ) (one other : Reading A) (y : A × List ℕ) (P : ℕ → Type 0) → (if x == c then one else other) ≡ Ok y → (one ≡ Ok y → P c) → (other ≡ Ok y → P x) → P x
byte_or x c bytes one other y P e then_ else_ = elim (cases_Bool (x == c)) [
  | inl is ↦ rw (eqb-true x c is) (then_ (rw is at e))
  | inr apart ↦ else_ (rw apart at e)
]

clause_again : (bytes more : List ℕ) (value : Clause) → SpellsClause bytes value → clause_at (bytes ++ more) ≡ Ok (value, more)
unfolding clause_at
clause_again bytes more (handlers.Catch tag label) h =
    rw (h.2, append_assoc h.0 h.1 more, u32_taken.again h.0 (h.1 ++ more) tag h.3, u32_taken.again h.1 more label h.4) refl
clause_again bytes more (handlers.CatchRef tag label) h =
    rw (h.2, append_assoc h.0 h.1 more, u32_taken.again h.0 (h.1 ++ more) tag h.3, u32_taken.again h.1 more label h.4) refl
clause_again bytes more (handlers.CatchAll label) h = rw (h.1, u32_taken.again h.0 more label h.2) refl
clause_again bytes more (handlers.CatchAllRef label) h = rw (h.1, u32_taken.again h.0 more label h.2) refl

clause_found : (bytes later : List ℕ) (value : Clause) → Small bytes → clause_at bytes ≡ Ok (value, later) → Fronts SpellsClause bytes later value
unfolding clause_at
clause_found [] later value small e = absurd cc
clause_found (b ∷ bytes) later value small e =
    let P : ℕ → Type 0 = λ c. Fronts SpellsClause (c ∷ bytes) later value in
    let rest = All-tail (λ b. b < 256) b bytes small in
    (byte_or b 0 bytes _ _ (value, later) P e (tagged_found 0 (λ t l. handlers.Catch t l) (λ bytes t l h. h) bytes later value rest) (λ e.
    (byte_or b 1 bytes _ _ (value, later) P e (tagged_found 1 (λ t l. handlers.CatchRef t l) (λ bytes t l h. h) bytes later value rest) (λ e.
    (byte_or b 2 bytes _ _ (value, later) P e (untagged_found 2 (λ l. handlers.CatchAll l) (λ bytes l h. h) bytes later value rest) (λ e.
    (byte_or b 3 bytes _ _ (value, later) P e (untagged_found 3 (λ l. handlers.CatchAllRef l) (λ bytes l h. h) bytes later value rest) (λ e. absurd cc))))))))

pub clause_taken : TakesSpelled clause_at SpellsClause
clause_taken = record { again = clause_again; found = clause_found }
