-- Operators whose immediates are in their ranges are spelled, and no others.
use Rattle.std.proofs.Common.{◌≡◌, ℕ, List, [], ◌∷◌, Some, refl, ap, sym, ◌∙◌, subst}
use Rattle.std.specs.List.{flat_map}
use Rattle.wasm_composite_types.specs.wasm_features.declared.WasmFeatures.{WasmFeatures}
use Rattle.wasm_composite_types.specs.wasm_ref_types.TypeSpellings.{SpellsHeap, SpellsValue}
use Rattle.wasm_composite_types.specs.wasm_reader.Reading.{SpellsLittle, SpellsRun}
use Rattle.wasm_composite_types.specs.wasm_reader.Numbers.{signed, Spells}
use Rattle.wasm_composite_types.specs.wasm_reader.SmallSpellings.{SpellsByte}
use Rattle.wasm_composite_types.specs.wasm_reader.Items.{SpellsVec}
use Rattle.wasm_operators.specs.Items.{Item, Names, Number, S32, S64, Bits, Byte, Bytes, Heap, Block, Access, ManyLabels, ManyValues, ManyClauses, Form, index, number, s32, s64, bits, run, any_byte, below, zero_byte, heap, block, access, labels, values, clauses}
use Rattle.wasm_operators.specs.Readings.{most}
use Rattle.wasm_operators.specs.ItemSpellings.{SpellsU32, SpellsBelow, SpellsBlock, SpellsAccess, SpellsClause, Made, SpellsItem, SpellsForms}
use Rattle.wasm_operators.specs.Kinds.{forms}
use Rattle.wasm_operators.specs.Operators.{Seen}
use Rattle.wasm_operators.specs.Spellings.{SpellsOperator}
use Rattle.wasm_operators.specs.Taken.{either_taken}
use Rattle.wasm_operators.specs.Bytes.{unsigned_bytes, signed_bytes, heap_bytes, block_bytes, access_bytes, vec_bytes, value_bytes, clause_bytes, little_bytes, item_bytes, code_bytes, operator_bytes}
use Rattle.wasm_operators.specs.Vecs.{Small, parts_small}
use Rattle.wasm_operators.specs.Written.{operator_short}
use Rattle.wasm_operators.specs.Ranges.{IsU32, ValueFits, ClauseFits, Of, ItemFits, ItemsFit, OperatorFits}
use Rattle.wasm_operators.specs.RangeLaws.{SpelledIfFits, WritesIt}
use Rattle.wasm_operators.proofs.Numbers.{u32_fits, s32_fits, s64_fits, little_fits, run_fits, byte_fits, below_fits}
use Rattle.wasm_operators.proofs.Types.{heap_fits, value_fits, block_fits}
use Rattle.wasm_operators.proofs.Leaves.{access_fits, clause_fits, list_fits}
use Rattle.wasm_operators.proofs.Codes.{code_has}

-- an item made of a value
made_fits : {A : Type 0} (make : A → Item) (spells : List ℕ → A → Type 0) (written : A → List ℕ) (Fits : A → Type 0) → ((x : A) → item_bytes (make x) ≡ written x) → SpelledIfFits spells written Fits
    → SpelledIfFits (Made make spells) item_bytes (Of make Fits)
made_fits make spells written Fits is it = record {
  has = λ item h. (h.0, h.1, subst (λ (l : List ℕ). spells l h.0) (sym (ap item_bytes h.1 ∙ is h.0)) (it.has h.0 h.2));
  only = λ bytes item small h. (h.0, h.1, it.only bytes h.0 small h.2);
}

module _ (features : WasmFeatures) where
  zero_fits : SpelledIfFits (SpellsItem features zero_byte) item_bytes (ItemFits features zero_byte)
  zero_fits = record {
    has = λ item h. let e : item ≡ Byte 0 = h.1 ∙ ap Byte h.2 in (tt, e, ap item_bytes e);
    only = λ bytes item small h. (0, h.1, refl);
  }

  item_fits : (form : Form) → SpelledIfFits (SpellsItem features form) item_bytes (ItemFits features form)
  item_fits (index space) = made_fits (Names space) SpellsU32 unsigned_bytes IsU32 (λ x. refl) u32_fits
  item_fits number = made_fits Number SpellsU32 unsigned_bytes IsU32 (λ x. refl) u32_fits
  item_fits s32 = made_fits S32 (λ bytes z. Spells signed 32 bytes z) signed_bytes _ (λ x. refl) s32_fits
  item_fits s64 = made_fits S64 (λ bytes z. Spells signed 64 bytes z) signed_bytes _ (λ x. refl) s64_fits
  item_fits (bits size) = made_fits (Bits size) (SpellsLittle size) (little_bytes size) _ (λ x. refl) (little_fits size)
  item_fits (run size) = made_fits Bytes (SpellsRun size) (λ x. x) _ (λ x. refl) (run_fits size)
  item_fits any_byte = made_fits Byte SpellsByte (λ b. b ∷ []) _ (λ x. refl) byte_fits
  item_fits (below bound) = made_fits Byte (SpellsBelow bound) (λ b. b ∷ []) _ (λ x. refl) (below_fits bound)
  item_fits zero_byte = zero_fits
  item_fits heap = made_fits Heap (SpellsHeap features) heap_bytes _ (λ x. refl) (heap_fits features)
  item_fits block = made_fits Block (SpellsBlock features) block_bytes _ (λ x. refl) (block_fits features)
  item_fits access = made_fits Access SpellsAccess access_bytes _ (λ x. refl) access_fits
  item_fits labels = made_fits ManyLabels (SpellsVec most SpellsU32) (vec_bytes unsigned_bytes) _ (λ x. refl) (list_fits SpellsU32 unsigned_bytes IsU32 u32_fits)
  item_fits values = made_fits ManyValues (SpellsVec most (SpellsValue features)) (vec_bytes value_bytes) _ (λ x. refl) (list_fits (SpellsValue features) value_bytes (ValueFits features) (value_fits features))
  item_fits clauses = made_fits ManyClauses (SpellsVec most SpellsClause) (vec_bytes clause_bytes) _ (λ x. refl) (list_fits SpellsClause clause_bytes ClauseFits clause_fits)

  forms_have : (forms : List Form) (items : List Item) → ItemsFit features forms items → SpellsForms features forms (flat_map item_bytes items) items
  forms_have [] items h = (ap (λ (xs : List Item). flat_map item_bytes xs) h, h)
  forms_have (form ∷ forms) items h =
      (h.0, h.1, item_bytes h.0, flat_map item_bytes h.1, h.2, ap (λ (xs : List Item). flat_map item_bytes xs) h.2, (item_fits form).has h.0 h.3, forms_have forms h.1 h.4)

  forms_only : (forms : List Form) (bytes : List ℕ) (items : List Item) → Small bytes → SpellsForms features forms bytes items → ItemsFit features forms items
  forms_only [] bytes items small h = h.1
  forms_only (form ∷ forms) bytes items small h =
      let parts = parts_small bytes h.2 h.3 h.5 small in
      (h.0, h.1, h.4, (item_fits form).only h.2 h.0 parts.0 h.6, forms_only forms h.3 h.1 parts.1 h.7)

  pub operator_fits : SpelledIfFits (SpellsOperator features) operator_bytes (OperatorFits features)
  operator_fits = record {
    has = λ op h. record {
      kind = h.kind;
      first = code_bytes op.code;
      later = flat_map item_bytes op.items;
      joined = refl;
      code = code_has features op.code h.kind h.listed;
      listed = h.listed;
      items = forms_have (forms h.kind) op.items h.items;
    };
    only = λ bytes op small h. record {
      kind = h.kind;
      listed = h.listed;
      items = forms_only (forms h.kind) h.later op.items (parts_small bytes h.first h.later h.joined small).1 h.items;
    };
  }

  pub operator_written : (op : Seen) → OperatorFits features op → WritesIt features op
  operator_written op h = record {
    again = λ more. (either_taken features).again (operator_bytes op) more (Some op) (operator_fits.has op h);
    least = λ bytes small spelled. (operator_short features bytes op small spelled).1;
  }
