-- Lemmas: vecs are read as they are spelled.
use Rattle.std.specs.Prelude.{ℕ, zero, suc, ◌^◌, ◌<◌, ◌≤◌, ◌≡◌, List, [], ◌∷◌, ◌++◌, length, Ok, All, refl}
use Rattle.std.proofs.Common.{sym, ap, ◌∙◌, subst, arith}
use Rattle.std.proofs.lemmas.List.{append_assoc}
use Rattle.wasm_reader.specs.Reading.{Reading, ◌>>=◌}
use Rattle.wasm_reader.specs.Numbers.{unsigned, Spells}
use Rattle.wasm_reader.specs.Shortest.{shortest_unsigned}
use Rattle.wasm_reader.specs.Spelled.{IsShortest-unsigned}
use Rattle.wasm_reader.specs.Text.{size_at}
use Rattle.wasm_reader.specs.Items.{items_at, vec_at, SpellsItems, SpellsVec}
use Rattle.wasm_reader.specs.Laws.{TakesSpelled}
use Rattle.wasm_reader.specs.Spellings.{ok_is, then_was, size_again, size_was}

-- the later bytes of bytes
pub later_bytes : (front later : List ℕ) → All (λ b. b < 256) (front ++ later) → All (λ b. b < 256) later
later_bytes [] later small = small
later_bytes (b ∷ front) later small = later_bytes front later (λ k d h. small (suc k) d (omega arith))

module _ {A : Type 0} (item : List ℕ → Reading A) (spells : List ℕ → A → Type 0) (taken : TakesSpelled item spells) where
  items_again : (items : List A) (bytes more : List ℕ) → SpellsItems spells bytes items → items_at item (length items) (bytes ++ more) ≡ Ok (items, more)
  unfolding items_at
  items_again [] bytes more h = rw h refl
  items_again (x ∷ items) bytes more h =
      rw (h.2, append_assoc h.0 h.1 more, taken.again h.0 (h.1 ++ more) x h.3, items_again items h.1 more h.4) refl

  -- these bytes begin with so many spelled items
  abbrev pub Found : ℕ → List ℕ → List ℕ → List A → Type 0
  Found count bytes later items = (front : List ℕ) × SpellsItems spells front items × (bytes ≡ front ++ later) × (length items ≡ count)

  found_more : (count : ℕ) (bytes mid later end : List ℕ) (x : A) (xs items : List A) → (first : List ℕ) × spells first x × (bytes ≡ first ++ mid) → Found count mid later xs
      → x ∷ xs ≡ items → later ≡ end → Found (suc count) bytes end items
  found_more count bytes mid later end x xs items first rest all last =
      rw (← all, ← last) (
        first.0 ++ rest.0,
        (first.0, rest.0, refl, first.1, rest.1),
        first.2 ∙ ap (λ (l : List ℕ). first.0 ++ l) rest.2 ∙ sym (append_assoc first.0 rest.0 later),
        let size = rest.3 in omega arith,
      )

  items_was : (count : ℕ) (bytes later : List ℕ) (items : List A) → All (λ b. b < 256) bytes → items_at item count bytes ≡ Ok (items, later) → Found count bytes later items
  unfolding items_at
  items_was zero bytes later items small e =
      let same = ok_is ([], bytes) (items, later) e in
      let none : [] ≡ items = ap (λ p. p.0) same in
      ([], rw (← none) refl, ap (λ p. p.1) same, rw (← none) refl)
  items_was (suc count) bytes later items small e =
      let first = then_was (item bytes) (λ x. items_at item count x.1 >>= λ y. Ok (x.0 ∷ y.0, y.1)) (items, later) e in
      let others = then_was (items_at item count first.0.1) (λ y. Ok (first.0.0 ∷ y.0, y.1)) (items, later) first.2 in
      let same = ok_is (first.0.0 ∷ others.0.0, others.0.1) (items, later) others.2 in
      let found = taken.found bytes first.0.1 first.0.0 small first.1 in
      let rest = items_was count first.0.1 others.0.1 others.0.0 (later_bytes found.0 first.0.1 (subst (λ (l : List ℕ). All (λ b. b < 256) l) found.2 small)) others.1 in
      found_more count bytes first.0.1 others.0.1 later first.0.0 others.0.0 items found rest (ap (λ p. p.0) same) (ap (λ p. p.1) same)

  -- a vec is read exactly if its count and its items are spelled
  pub vec_taken : (limit : ℕ) → TakesSpelled (vec_at limit item) (SpellsVec limit spells)
  unfolding vec_at
  vec_taken limit = record {
    again = λ bytes more items h.
        rw (h.joined, append_assoc h.count h.listed more, size_again limit h.count (h.listed ++ more) (length items) h.counts h.most) (items_again items h.listed more h.lists);
    found = λ bytes later items small e.
        let was = then_was (size_at limit bytes) (λ x. items_at item x.0 x.1) (items, later) e in
        let size = size_was limit bytes was.0.1 was.0.0 small was.1 in
        let body = items_was was.0.0 was.0.1 later items (later_bytes size.0 was.0.1 (subst (λ (l : List ℕ). All (λ b. b < 256) l) size.2 small)) was.2 in (
          size.0 ++ body.0,
          record {
            count = size.0;
            listed = body.0;
            joined = refl;
            counts = subst (λ (n : ℕ). Spells unsigned 32 size.0 n) (sym body.3) size.1;
            most = let n = body.3 in let below = size.3 in omega arith;
            lists = body.1;
          },
          size.2 ∙ ap (λ (l : List ℕ). size.0 ++ l) body.2 ∙ sym (append_assoc size.0 body.0 later),
        );
  }

-- items that all have spellings have one together
items_spelled : {A : Type 0} (spells : List ℕ → A → Type 0) (items : List A) → All (λ x. (bytes : List ℕ) × spells bytes x) items → (bytes : List ℕ) × SpellsItems spells bytes items
items_spelled spells [] each = ([], refl)
items_spelled spells (x ∷ items) each =
    let first = each 0 x (omega arith) in
    let others = items_spelled spells items (λ k d h. each (suc k) d (omega arith)) in
    (first.0 ++ others.0, (first.0, others.0, refl, first.1, others.1))

-- a list that is no longer than the limit, and than a u32 counts, has a spelling as a vec, where its items have some
pub vec_spelled : {A : Type 0} (limit : ℕ) (spells : List ℕ → A → Type 0) (items : List A) → length items ≤ limit → length items < 2 ^ 32 → All (λ x. (bytes : List ℕ) × spells bytes x) items
    → (bytes : List ℕ) × SpellsVec limit spells bytes items
vec_spelled limit spells items most fits each =
    let counted = IsShortest-unsigned 5 32 (length items) (omega arith) (omega arith) fits in
    let listed = items_spelled spells items each in (
      shortest_unsigned 5 (length items) ++ listed.0,
      record { count = shortest_unsigned 5 (length items); listed = listed.0; joined = refl; counts = counted.spells; most = most; lists = listed.1 },
    )
