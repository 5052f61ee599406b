-- Lemmas: what holds of all locals that a body names holds of all that its normal form names.
use Rattle.std.specs.Prelude.{ℕ, List, [], ◌∷◌, ◌++◌, map}
use Rattle.std.specs.List.{flat_map}
use Rattle.std.proofs.Common.{◌≡◌, ap, ◌∙◌, refl, sym, subst}
use Rattle.walrus_named_bodies.specs.walrus_file_bodies.walrus_body_trees.walrus_body_nesting.wasm_body_grammar.wasm_operators.Items.{Item, Names, Number, S32, S64, Bits, Byte, Bytes, Heap, Block, Access, ManyLabels, ManyValues, ManyClauses}
use Rattle.walrus_named_bodies.specs.walrus_file_bodies.walrus_body_trees.walrus_body_nesting.wasm_body_grammar.wasm_operators.declared.block_type.BlockType.{BlockType}
use Rattle.walrus_named_bodies.specs.walrus_file_bodies.walrus_items_into.walrus_module_bodies.walrus_body_trees.walrus_meaning.walrus_local_function.walrus_body_locals.wasm_normal_form.Bodies.{local_in}
use Rattle.walrus_named_bodies.specs.walrus_file_bodies.walrus_items_into.walrus_module_bodies.walrus_body_trees.walrus_meaning.walrus_local_function.walrus_body_locals.wasm_normal_form.Normal.{normal_ops, with_pick}
use Rattle.walrus_named_bodies.specs.walrus_file_bodies.walrus_items_into.walrus_module_bodies.walrus_body_trees.walrus_meaning.walrus_local_function.walrus_body_locals.wasm_normal_form.Roles.{Placed}
use Rattle.walrus_parse_laws.proofs.BodiesNormalLemmas.{operators_in}
use Rattle.walrus_parse_laws.proofs.ListLemmas.{AllOf}

module _ (P : ℕ → Type 0) (pick : BlockType → BlockType) where
  -- a pick names no local
  item_same : (x : Item) → local_in (with_pick pick x) ≡ local_in x
  item_same (Names space n) = refl
  item_same (Number n) = refl
  item_same (S32 z) = refl
  item_same (S64 z) = refl
  item_same (Bits size n) = refl
  item_same (Byte b) = refl
  item_same (Bytes run) = refl
  item_same (Heap ty) = refl
  item_same (Block ty) = refl
  item_same (Access a) = refl
  item_same (ManyLabels ns) = refl
  item_same (ManyValues tys) = refl
  item_same (ManyClauses cs) = refl

  items_same : (xs : List Item) → flat_map local_in (map (with_pick pick) xs) ≡ flat_map local_in xs
  items_same [] = refl
  items_same (x ∷ xs) = ap (λ (l : List ℕ). local_in (with_pick pick x) ++ l) (items_same xs) ∙ ap (λ (l : List ℕ). l ++ flat_map local_in xs) (item_same x)

  -- it holds of all locals that an operator names
  abbrev pub Holds : Placed → Type 0
  Holds o = AllOf P (flat_map local_in o.op.items)

  pub normal_ops_in : (ops : List Placed) → AllOf Holds ops → AllOf Holds (normal_ops pick ops)
  normal_ops_in ops h = operators_in (λ o. AllOf P (flat_map local_in o.items)) pick (λ o h. subst (AllOf P) (sym (items_same o.items)) h) (tt, tt) ops h
