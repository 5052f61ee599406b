-- Lemmas: immediates are read from the bytes that spell them, and from no others.
use Rattle.std.specs.Prelude.{ℕ, ◌≡◌, List, [], ◌∷◌, ◌++◌, Ok, refl}
use Rattle.std.proofs.Common.{ap, sym, ◌∙◌, subst}
use Rattle.std.proofs.lemmas.List.{append_assoc}
use Rattle.wasm_composite_types.specs.wasm_features.declared.WasmFeatures.{WasmFeatures}
use Rattle.wasm_composite_types.specs.wasm_reader.declared.error.ErrorKind.TheVariants as faults
use Rattle.wasm_composite_types.specs.wasm_reader.Reading.{◌>>=◌}
use Rattle.wasm_composite_types.specs.wasm_reader.Numbers.{unsigned, signed, Spells, unsigned_at}
use Rattle.wasm_composite_types.specs.wasm_reader.Laws.{TakesSpelled}
use Rattle.wasm_composite_types.specs.wasm_reader.Spellings.{ok_is, then_was, number_taken, run_taken, little_taken}
use Rattle.wasm_composite_types.specs.wasm_reader.Vecs.{later_bytes, vec_taken}
use Rattle.wasm_composite_types.specs.wasm_ref_types.ReadTypes.{heap_at, value_at}
use Rattle.wasm_composite_types.specs.wasm_ref_types.TypeSpellings.{SpellsHeap, SpellsValue}
use Rattle.wasm_composite_types.specs.wasm_ref_types.TypesTaken.{heap_taken, value_taken}
use Rattle.wasm_composite_types.specs.Taken.{Small, Fronts}
use Rattle.wasm_operators.specs.Items.{Item, Names, Number, S32, S64, Bits, Byte, Bytes, Heap, Block, Access, ManyLabels, ManyValues, ManyClauses, Form, index, number, s32, s64, bits, run, any_byte, below, zero_byte, heap, block, access, labels, values, clauses}
use Rattle.wasm_operators.specs.Readings.{clause_at, most, item_at, items_at}
use Rattle.wasm_operators.specs.ItemSpellings.{SpellsClause, SpellsItem, SpellsForms}
use Rattle.wasm_operators.specs.MadeTaken.{made_taken}
use Rattle.wasm_operators.specs.BlockTaken.{block_taken}
use Rattle.wasm_operators.specs.LeavesTaken.{byte_taken, below_taken, zero_taken, u32_taken, access_taken, clause_taken}

pub item_taken : (features : WasmFeatures) (form : Form) → TakesSpelled (item_at features form) (SpellsItem features form)
unfolding item_at
item_taken features (index space) = made_taken (Names space) _ _ u32_taken
item_taken features number = made_taken Number _ _ u32_taken
item_taken features s32 = made_taken S32 _ _ (number_taken signed faults.TooLarge 32)
item_taken features s64 = made_taken S64 _ _ (number_taken signed faults.TooLarge 64)
item_taken features (bits size) = made_taken (Bits size) _ _ (little_taken size)
item_taken features (run size) = made_taken Bytes _ _ (run_taken size)
item_taken features any_byte = made_taken Byte _ _ byte_taken
item_taken features (below bound) = made_taken Byte _ _ (below_taken bound)
item_taken features zero_byte = made_taken (λ _. Byte 0) _ _ zero_taken
item_taken features heap = made_taken Heap _ _ (heap_taken features)
item_taken features block = made_taken Block _ _ (block_taken features)
item_taken features access = made_taken Access _ _ access_taken
item_taken features labels = made_taken ManyLabels _ _ (vec_taken (unsigned_at 32) (λ bytes n. Spells unsigned 32 bytes n) u32_taken most)
item_taken features values = made_taken ManyValues _ _ (vec_taken (value_at features) (SpellsValue features) (value_taken features) most)
item_taken features clauses = made_taken ManyClauses _ _ (vec_taken clause_at SpellsClause clause_taken most)

module _ (features : WasmFeatures) where
  forms_again : (forms : List Form) (bytes more : List ℕ) (items : List Item) → SpellsForms features forms bytes items → items_at features forms (bytes ++ more) ≡ Ok (items, more)
  unfolding items_at
  forms_again [] bytes more items h = rw (h.0, h.1) refl
  forms_again (form ∷ forms) bytes more items h =
      rw (h.4, h.5, append_assoc h.2 h.3 more, (item_taken features form).again h.2 (h.3 ++ more) h.0 h.6, forms_again forms h.3 more h.1 h.7) refl

  forms_found : (forms : List Form) (bytes later : List ℕ) (items : List Item) → Small bytes → items_at features forms bytes ≡ Ok (items, later) → Fronts (SpellsForms features forms) bytes later items
  unfolding items_at
  forms_found [] bytes later items small e =
      let same = ok_is ([], bytes) (items, later) e in
      ([], (refl, sym (ap (λ p. p.0) same)), ap (λ p. p.1) same)
  forms_found (form ∷ forms) bytes later items small e =
      let one = then_was (item_at features form bytes) (λ x. items_at features forms x.1 >>= λ y. Ok (x.0 ∷ y.0, y.1)) (items, later) e in
      let two = then_was (items_at features forms one.0.1) (λ y. Ok (one.0.0 ∷ y.0, y.1)) (items, later) one.2 in
      let same = ok_is (one.0.0 ∷ two.0.0, two.0.1) (items, later) two.2 in
      let f1 = (item_taken features form).found bytes one.0.1 one.0.0 small one.1 in
      let f2 = forms_found forms one.0.1 two.0.1 two.0.0 (later_bytes f1.0 one.0.1 (subst Small f1.2 small)) two.1 in (
        f1.0 ++ f2.0,
        (one.0.0, two.0.0, f1.0, f2.0, sym (ap (λ p. p.0) same), refl, f1.1, f2.1),
        f1.2 ∙ ap (λ (l : List ℕ). f1.0 ++ l) f2.2 ∙ sym (append_assoc f1.0 f2.0 two.0.1) ∙ ap (λ p. (f1.0 ++ f2.0) ++ p.1) same,
      )

  pub forms_taken : (forms : List Form) → TakesSpelled (items_at features forms) (SpellsForms features forms)
  forms_taken forms = record { again = forms_again forms; found = forms_found forms }
