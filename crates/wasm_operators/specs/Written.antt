-- Lemmas: operators that are written are the shortest ones, and are read back.
use Rattle.std.specs.Prelude.{ℕ, ◌%◌, ◌<◌, ◌≤◌, ◌≡◌, ◌⊎◌, ◌==◌, Bool, true, false, List, [], ◌∷◌, ◌++◌, length, All, Some, Ok, refl, if◌then◌else◌}
use Rattle.std.proofs.Common.{ap, sym, ◌∙◌, subst, arith, inl, inr}
use Rattle.std.proofs.lemmas.Bool.{cases_Bool, eqb-true}
use Rattle.std.proofs.lemmas.List.Elements.{All-head, All-tail}
use Rattle.std.specs.List.{flat_map}
use Rattle.wasm_composite_types.specs.wasm_features.declared.WasmFeatures.{WasmFeatures}
use Rattle.wasm_composite_types.specs.wasm_ref_types.TypeSpellings.{SpellsHeap, SpellsValue}
use Rattle.wasm_composite_types.specs.wasm_reader.Reading.{SpellsLittle, SpellsRun}
use Rattle.wasm_composite_types.specs.wasm_reader.Numbers.{signed, Spells}
use Rattle.wasm_composite_types.specs.wasm_reader.SmallSpellings.{SpellsByte}
use Rattle.wasm_composite_types.specs.wasm_reader.Items.{SpellsVec}
use Rattle.wasm_operators.specs.Items.{Item, Names, Number, S32, S64, Bits, Byte, Bytes, Heap, Block, Access, ManyLabels, ManyValues, ManyClauses, Form, index, number, s32, s64, bits, run, any_byte, below, zero_byte, heap, block, access, labels, values, clauses}
use Rattle.wasm_operators.specs.Readings.{most}
use Rattle.wasm_operators.specs.ItemSpellings.{SpellsU32, SpellsBelow, SpellsZero, SpellsBlock, SpellsAccess, SpellsClause, Made, SpellsItem, SpellsForms}
use Rattle.wasm_operators.specs.declared.op_code.OpCode.{OpCode}
use Rattle.wasm_operators.specs.Kinds.{forms}
use Rattle.wasm_operators.specs.Operators.{is_prefix, Seen, operator_at}
use Rattle.wasm_operators.specs.Spellings.{SpellsCode, SpellsOperator}
use Rattle.wasm_operators.specs.Taken.{either_taken}
use Rattle.wasm_operators.specs.Bytes.{unsigned_bytes, signed_bytes, heap_bytes, block_bytes, access_bytes, vec_bytes, value_bytes, clause_bytes, little_bytes, item_bytes, code_bytes, operator_bytes}
use Rattle.wasm_operators.specs.Laws.{WritesShortest, ReadsBack}
use Rattle.wasm_operators.specs.Numbers.{same_short, u32_short, s32_short, s64_short, little_short, run_short}
use Rattle.wasm_operators.specs.Types.{heap_short, value_short, block_short}
use Rattle.wasm_operators.specs.Vecs.{Small, parts_small, parts_short, vec_short}
use Rattle.wasm_operators.specs.Leaves.{access_short, clause_short}

-- an item made of a value that is written so
made_short : {A : Type 0} (make : A → Item) (spells : List ℕ → A → Type 0) (written : A → List ℕ) → WritesShortest spells written → ((x : A) → item_bytes (make x) ≡ written x)
    → (bytes : List ℕ) (item : Item) → Small bytes → Made make spells bytes item → Made make spells (item_bytes item) item × (length (item_bytes item) ≤ length bytes)
made_short make spells written short is bytes item small h =
    let s = short bytes h.0 small h.2 in
    let e : item_bytes item ≡ written h.0 = ap item_bytes h.1 ∙ is h.0 in
    subst (λ (l : List ℕ). Made make spells l item × (length l ≤ length bytes)) (sym e) ((h.0, h.1, s.0), s.1)

module _ (features : WasmFeatures) where
  item_short : (form : Form) → WritesShortest (SpellsItem features form) item_bytes
  item_short (index space) = made_short (Names space) SpellsU32 unsigned_bytes u32_short (λ x. refl)
  item_short number = made_short Number SpellsU32 unsigned_bytes u32_short (λ x. refl)
  item_short s32 = made_short S32 (λ bytes z. Spells signed 32 bytes z) signed_bytes s32_short (λ x. refl)
  item_short s64 = made_short S64 (λ bytes z. Spells signed 64 bytes z) signed_bytes s64_short (λ x. refl)
  item_short (bits size) = made_short (Bits size) (SpellsLittle size) (little_bytes size) (little_short size) (λ x. refl)
  item_short (run size) = made_short Bytes (SpellsRun size) (λ x. x) (run_short size) (λ x. refl)
  item_short any_byte = made_short Byte SpellsByte (λ b. b ∷ []) (λ bytes b small h. same_short SpellsByte b bytes (b ∷ []) h h) (λ x. refl)
  item_short (below bound) = made_short Byte (SpellsBelow bound) (λ b. b ∷ []) (λ bytes b small h. same_short (SpellsBelow bound) b bytes (b ∷ []) h.0 h) (λ x. refl)
  item_short zero_byte = made_short (λ _. Byte 0) SpellsZero (λ _. 0x00 ∷ []) (λ bytes u small h. same_short SpellsZero u bytes (0x00 ∷ []) h h) (λ x. refl)
  item_short heap = made_short Heap (SpellsHeap features) heap_bytes (heap_short features) (λ x. refl)
  item_short block = made_short Block (SpellsBlock features) block_bytes (block_short features) (λ x. refl)
  item_short access = made_short Access SpellsAccess access_bytes access_short (λ x. refl)
  item_short labels = made_short ManyLabels (SpellsVec most SpellsU32) (vec_bytes unsigned_bytes) (vec_short SpellsU32 unsigned_bytes u32_short most) (λ x. refl)
  item_short values = made_short ManyValues (SpellsVec most (SpellsValue features)) (vec_bytes value_bytes) (vec_short (SpellsValue features) value_bytes (value_short features) most) (λ x. refl)
  item_short clauses = made_short ManyClauses (SpellsVec most SpellsClause) (vec_bytes clause_bytes) (vec_short SpellsClause clause_bytes clause_short most) (λ x. refl)

  pub forms_short : (forms : List Form) → WritesShortest (SpellsForms features forms) (flat_map item_bytes)
  forms_short [] bytes items small h = rw h.1 ((refl, refl), omega arith)
  forms_short (form ∷ forms) bytes items small h =
      let parts = parts_small bytes h.2 h.3 h.5 small in
      let first = item_short form h.2 h.0 parts.0 h.6 in
      let later = forms_short forms h.3 h.1 parts.1 h.7 in
      rw h.4 ((h.0, h.1, item_bytes h.0, flat_map item_bytes h.1, refl, refl, first.0, later.0), parts_short bytes h.2 h.3 (item_bytes h.0) (flat_map item_bytes h.1) h.5 first.1 later.1)

pub prefix_not_zero : (p : ℕ) → is_prefix p ≡ true → (p == 0) ≡ false
prefix_not_zero p h = elim (cases_Bool (p == 0)) [
  | inl is ↦ let z : p ≡ 0 = eqb-true p 0 is in let no : is_prefix 0 ≡ true = subst (λ (n : ℕ). is_prefix n ≡ true) z h in absurd cc
  | inr not ↦ not
]

pub code_short : WritesShortest SpellsCode code_bytes
code_short bytes code small (inl h) =
    let one : Small (code.number ∷ []) = subst Small h.2 small in
    let low : code.number < 256 = All-head (λ b. b < 256) code.number [] one in
    let byte : code.number % 256 ≡ code.number = omega (arith, low) in
    let e : code_bytes code ≡ code.number ∷ [] = rw (h.1, byte) refl in
    subst (λ (l : List ℕ). SpellsCode l code × (length l ≤ length bytes)) (sym e) (same_short SpellsCode code bytes (code.number ∷ []) h.2 (inl h))
code_short bytes code small (inr h) =
    let e : code_bytes code ≡ code.prefix ∷ unsigned_bytes code.number = rw (prefix_not_zero code.prefix h.0) refl in
    let all : Small (code.prefix ∷ h.1) = subst Small h.2 small in
    let s = u32_short h.1 code.number (All-tail (λ b. b < 256) code.prefix h.1 all) h.3 in
    let size : length bytes ≡ length (code.prefix ∷ h.1) = ap (λ (l : List ℕ). length l) h.2 in
    subst (λ (l : List ℕ). SpellsCode l code × (length l ≤ length bytes)) (sym e) (inr (h.0, unsigned_bytes code.number, refl, s.0), omega (arith, size, s.1))

pub operator_short : (features : WasmFeatures) → WritesShortest (SpellsOperator features) operator_bytes
operator_short features bytes op small h =
    let parts = parts_small bytes h.first h.later h.joined small in
    let code = code_short h.first op.code parts.0 h.code in
    let items = forms_short features (forms h.kind) h.later op.items parts.1 h.items in (
      record { kind = h.kind; first = code_bytes op.code; later = flat_map item_bytes op.items; joined = refl; code = code.0; listed = h.listed; items = items.0 },
      parts_short bytes h.first h.later (code_bytes op.code) (flat_map item_bytes op.items) h.joined code.1 items.1,
    )

pub reads_back : (features : WasmFeatures) → ReadsBack features
reads_back features bytes more op small h = (either_taken features).again (operator_bytes op) more (Some op) (operator_short features bytes op small h).0
