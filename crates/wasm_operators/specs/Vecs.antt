-- Lemmas: lists that are written are the shortest ones, where their items are.
use Rattle.std.specs.Prelude.{ℕ, ◌+◌, ◌<◌, ◌≤◌, ◌≡◌, List, [], ◌∷◌, ◌++◌, length, All, refl}
use Rattle.std.proofs.Common.{ap, sym, ◌∙◌, subst, arith}
use Rattle.std.proofs.lemmas.List.{length-append}
use Rattle.std.proofs.lemmas.List.Elements.{All-nil, All-cons, All-head, All-tail}
use Rattle.std.specs.List.{flat_map}
use Rattle.wasm_composite_types.specs.wasm_reader.Items.{SpellsItems, SpellsVec}
use Rattle.wasm_composite_types.specs.wasm_reader.Vecs.{later_bytes}
use Rattle.wasm_operators.specs.Bytes.{unsigned_bytes, vec_bytes}
use Rattle.wasm_operators.specs.Laws.{WritesShortest}
use Rattle.wasm_operators.specs.Numbers.{u32_short}

abbrev pub Small : List ℕ → Type 0
Small bytes = All (λ b. b < 256) bytes

front_bytes : (front later : List ℕ) → Small (front ++ later) → Small front
front_bytes [] later small = All-nil (λ b. b < 256)
front_bytes (b ∷ front) later small =
    All-cons (λ b. b < 256) b front (All-head (λ b. b < 256) b (front ++ later) small) (front_bytes front later (All-tail (λ b. b < 256) b (front ++ later) small))

-- two parts of the bytes
pub parts_small : (bytes front later : List ℕ) → bytes ≡ front ++ later → Small bytes → Small front × Small later
parts_small bytes front later e small = let all = subst Small e small in (front_bytes front later all, later_bytes front later all)

-- each part is no longer
pub parts_short : (bytes front later a b : List ℕ) → bytes ≡ front ++ later → length a ≤ length front → length b ≤ length later → length (a ++ b) ≤ length bytes
parts_short bytes front later a b e p q =
    let one : length bytes ≡ length front + length later = ap (λ (l : List ℕ). length l) e ∙ length-append front later in
    let two = length-append a b in
    omega (arith, one, two)

module _ {A : Type 0} (spells : List ℕ → A → Type 0) (written : A → List ℕ) (short : WritesShortest spells written) where
  items_short : (bytes : List ℕ) (xs : List A) → Small bytes → SpellsItems spells bytes xs → SpellsItems spells (flat_map written xs) xs × (length (flat_map written xs) ≤ length bytes)
  items_short bytes [] small h = (refl, omega arith)
  items_short bytes (x ∷ xs) small h =
      let parts = parts_small bytes h.0 h.1 h.2 small in
      let first = short h.0 x parts.0 h.3 in
      let later = items_short h.1 xs parts.1 h.4 in
      ((written x, flat_map written xs, refl, first.0, later.0), parts_short bytes h.0 h.1 (written x) (flat_map written xs) h.2 first.1 later.1)

  pub vec_short : (limit : ℕ) → WritesShortest (SpellsVec limit spells) (vec_bytes written)
  vec_short limit bytes xs small h =
      let parts = parts_small bytes h.count h.listed h.joined small in
      let count = u32_short h.count (length xs) parts.0 h.counts in
      let listed = items_short h.listed xs parts.1 h.lists in (
        record { count = unsigned_bytes (length xs); listed = flat_map written xs; joined = refl; counts = count.0; most = h.most; lists = listed.0 },
        parts_short bytes h.count h.listed (unsigned_bytes (length xs)) (flat_map written xs) h.joined count.1 listed.1,
      )
