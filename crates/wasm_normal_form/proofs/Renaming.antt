-- The normal form of operators whose locals are renamed.
use Rattle.std.proofs.Common.{ℕ, ◌≡◌, Bool, true, false, List, [], ◌∷◌, ◌++◌, map, Option, refl, sym, ap, ◌∙◌}
use Rattle.wasm_operators.specs.declared.block_type.BlockType.{BlockType}
use Rattle.wasm_operators.specs.Items.{Locals, Types, Functions, Tables, Memories, Tags, Globals, ElementSegments, DataSegments, Labels, Item, Names, Number, S32, S64, Bits, Byte, Bytes, Heap, Block, Access, ManyLabels, ManyValues, ManyClauses}
use Rattle.wasm_operators.specs.Operators.{Seen}
use Rattle.wasm_normal_form.specs.Roles.{Placed, placed, cuts, is_if}
use Rattle.wasm_normal_form.specs.Trees.{Tree, Close, Arm, Skip, Run, Nest, flat, IsShaped, NestAs}
use Rattle.wasm_normal_form.specs.Normal.{with_pick, picked, closed, normal_from, normal, normal_ops}
use Rattle.wasm_normal_form.specs.Bodies.{renamed_local, with_locals}
use Rattle.wasm_normal_form.specs.Laws.{IsPick}
use Rattle.wasm_normal_form.proofs.Nesting.{tree_is_one, normal_nests_at, normal_again_at}

module _ (r : ℕ → ℕ) where
  abbrev renamed : Seen → Seen
  renamed o = record { code = o.code; items = map (renamed_local r) o.items }

  -- the tree with its locals renamed
  abbrev renamed_tree : Tree → Tree
  renamed_tree (Close o p) = Close (renamed o) p
  renamed_tree (Arm o p t) = Arm (renamed o) p (renamed_tree t)
  renamed_tree (Skip o p t) = Skip (renamed o) p (renamed_tree t)
  renamed_tree (Run o p t) = Run (renamed o) p (renamed_tree t)
  renamed_tree (Nest o p u t) = Nest (renamed o) p (renamed_tree u) (renamed_tree t)

  map_append : (xs ys : List Placed) → map (with_locals r) (xs ++ ys) ≡ map (with_locals r) xs ++ map (with_locals r) ys
  map_append [] ys = refl
  map_append (x ∷ xs) ys = ap (λ (z : List Placed). with_locals r x ∷ z) (map_append xs ys)

  flat_renamed : (t : Tree) → map (with_locals r) (flat t) ≡ flat (renamed_tree t)
  flat_renamed (Close o p) = refl
  flat_renamed (Arm o p t) = ap (λ (z : List Placed). placed (renamed o) p ∷ z) (flat_renamed t)
  flat_renamed (Skip o p t) = ap (λ (z : List Placed). placed (renamed o) p ∷ z) (flat_renamed t)
  flat_renamed (Run o p t) = ap (λ (z : List Placed). placed (renamed o) p ∷ z) (flat_renamed t)
  flat_renamed (Nest o p u t) =
      ap (λ (z : List Placed). placed (renamed o) p ∷ z)
      (map_append (flat u) (flat t) ∙ ap (λ (z : List Placed). z ++ map (with_locals r) (flat t)) (flat_renamed u) ∙ ap (λ (z : List Placed). flat (renamed_tree u) ++ z) (flat_renamed t))

  shaped_renamed : (t : Tree) → IsShaped t → IsShaped (renamed_tree t)
  shaped_renamed (Close o p) h = h
  shaped_renamed (Arm o p t) h = (h.0, shaped_renamed t h.1)
  shaped_renamed (Skip o p t) h = (h.0, shaped_renamed t h.1)
  shaped_renamed (Run o p t) h = (h.0, shaped_renamed t h.1)
  shaped_renamed (Nest o p u t) h = (h.0, shaped_renamed u h.1, shaped_renamed t h.2)

  module _ (pick : BlockType → BlockType) where
    item_picked : (x : Item) → with_pick pick (renamed_local r x) ≡ renamed_local r (with_pick pick x)
    item_picked (Names Locals n) = refl
    item_picked (Names Types n) = refl
    item_picked (Names Functions n) = refl
    item_picked (Names Tables n) = refl
    item_picked (Names Memories n) = refl
    item_picked (Names Tags n) = refl
    item_picked (Names Globals n) = refl
    item_picked (Names ElementSegments n) = refl
    item_picked (Names DataSegments n) = refl
    item_picked (Names Labels n) = refl
    item_picked (Number n) = refl
    item_picked (S32 z) = refl
    item_picked (S64 z) = refl
    item_picked (Bits size n) = refl
    item_picked (Byte b) = refl
    item_picked (Bytes run) = refl
    item_picked (Heap ty) = refl
    item_picked (Block ty) = refl
    item_picked (Access a) = refl
    item_picked (ManyLabels ns) = refl
    item_picked (ManyValues tys) = refl
    item_picked (ManyClauses cs) = refl

    items_picked : (xs : List Item) → map (with_pick pick) (map (renamed_local r) xs) ≡ map (renamed_local r) (map (with_pick pick) xs)
    items_picked [] = refl
    items_picked (x ∷ xs) =
        ap (λ (y : Item). y ∷ map (with_pick pick) (map (renamed_local r) xs)) (item_picked x) ∙ ap (λ (ys : List Item). renamed_local r (with_pick pick x) ∷ ys) (items_picked xs)

    op_picked : (o : Seen) → picked pick (renamed o) ≡ renamed (picked pick o)
    op_picked o = ap (λ (xs : List Item). record { code = o.code; items = xs }) (items_picked o.items)

    closed_renamed : (bare : Bool) (o : Seen) (p : Option ℕ) → closed bare (renamed o) p ≡ renamed_tree (closed bare o p)
    closed_renamed true o p = refl
    closed_renamed false o p = refl

    normal_renamed : (t : Tree) (bare dropped : Bool) → normal_from pick (renamed_tree t) bare dropped ≡ renamed_tree (normal_from pick t bare dropped)
    normal_renamed (Close o p) bare dropped = closed_renamed bare o p
    normal_renamed (Arm o p t) bare dropped = ap (Arm (renamed o) p) (normal_renamed t false false)
    normal_renamed (Skip o p t) bare dropped = normal_renamed t bare dropped
    normal_renamed (Run o p t) bare true = normal_renamed t bare true
    normal_renamed (Run o p t) bare false = ap (Run (renamed o) p) (normal_renamed t bare (cuts o))
    normal_renamed (Nest o p u t) bare true = normal_renamed t bare true
    normal_renamed (Nest o p u t) bare false =
        ap (λ (x : Seen). Nest x p (normal_from pick (renamed_tree u) (is_if o) false) (normal_from pick (renamed_tree t) bare false)) (op_picked o)
        ∙ ap (λ (v : Tree). Nest (renamed (picked pick o)) p v (normal_from pick (renamed_tree t) bare false)) (normal_renamed u (is_if o) false)
        ∙ ap (Nest (renamed (picked pick o)) p (renamed_tree (normal_from pick u (is_if o) false))) (normal_renamed t bare false)

    -- with its locals renamed, a normal form is its own
    pub renamed_again : (ops : List Placed) (t : Tree) → IsPick pick → NestAs ops t → normal_ops pick (map (with_locals r) (normal_ops pick ops)) ≡ map (with_locals r) (normal_ops pick ops)
    renamed_again ops t same h =
        let u = normal pick t in
        let nests = normal_nests_at pick ops t h in
        let renamed_nests : NestAs (map (with_locals r) (normal_ops pick ops)) (renamed_tree u) =
        record { shaped = shaped_renamed u nests.shaped; flat_is = ap (map (with_locals r)) nests.flat_is ∙ flat_renamed u } in
        let normal_u : flat (normal pick u) ≡ normal_ops pick ops =
        ap (λ (z : Tree). flat (normal pick z)) (sym (tree_is_one (normal_ops pick ops) u nests)) ∙ normal_again_at pick same ops t h in
        ap (λ (z : Tree). flat (normal pick z)) (tree_is_one (map (with_locals r) (normal_ops pick ops)) (renamed_tree u) renamed_nests)
        ∙ ap flat (normal_renamed u false false) ∙ sym (flat_renamed (normal pick u)) ∙ ap (map (with_locals r)) normal_u
