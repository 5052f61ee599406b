-- Trees and their operators; normal forms again.
use Rattle.std.proofs.Common.{ℕ, ◌≡◌, Bool, true, false, if◌then◌else◌, List, [], ◌∷◌, ◌++◌, map, Option, None, refl, sym, ap, ◌∙◌, append-nil}
use Rattle.std.proofs.lemmas.List.{append_assoc}
use Rattle.wasm_operators.specs.declared.block_type.BlockType.{BlockType}
use Rattle.wasm_operators.specs.Items.{Item, Names, Number, S32, S64, Bits, Byte, Bytes, Heap, Block, Access, ManyLabels, ManyValues, ManyClauses}
use Rattle.wasm_operators.specs.Operators.{Seen}
use Rattle.wasm_operators.specs.Table.{structure_rows}
use Rattle.wasm_normal_form.specs.Roles.{Placed, Role, Passes, Runs, Opens, Turns, Ends, role, cuts, is_if, is_delegate, else_op, end_op}
use Rattle.wasm_normal_form.specs.Trees.{Tree, Close, Arm, Skip, Run, Nest, flat, IsShaped, NestAs, prepend, open_in, innermost, tree_of}
use Rattle.wasm_normal_form.specs.Normal.{with_pick, picked, closed, normal_from, normal, normal_ops}
use Rattle.wasm_normal_form.specs.Laws.{TreeIsOne, NormalNests, IsPick, NormalAgain}

-- each tree is read as itself
opened : (t : Tree) (ops : List Placed) → IsShaped t → open_in (flat t ++ ops) ≡ t ∷ open_in ops
opened (Close o p) ops h = ap (λ (r : Role). prepend r o p (open_in ops)) h
opened (Arm o p t) ops h =
    ap (λ (r : Role). prepend r o p (open_in (flat t ++ ops))) h.0 ∙ ap (prepend Turns o p) (opened t ops h.1)
opened (Skip o p t) ops h =
    ap (λ (r : Role). prepend r o p (open_in (flat t ++ ops))) h.0 ∙ ap (prepend Passes o p) (opened t ops h.1)
opened (Run o p t) ops h =
    ap (λ (r : Role). prepend r o p (open_in (flat t ++ ops))) h.0 ∙ ap (prepend Runs o p) (opened t ops h.1)
opened (Nest o p u t) ops h =
    ap (λ (r : Role). prepend r o p (open_in ((flat u ++ flat t) ++ ops))) h.0
    ∙ ap (λ (z : List Placed). prepend Opens o p (open_in z)) (append_assoc (flat u) (flat t) ops)
    ∙ ap (prepend Opens o p) (opened u (flat t ++ ops) h.1) ∙ ap (λ (z : List Tree). prepend Opens o p (u ∷ z)) (opened t ops h.2)

flat_again : (t : Tree) → IsShaped t → tree_of (flat t) ≡ t
flat_again t h = ap (λ (z : List Placed). innermost (open_in z)) (sym (append-nil (flat t))) ∙ ap innermost (opened t [] h)

pub tree_is_one : TreeIsOne
tree_is_one ops t h = ap tree_of h.flat_is ∙ flat_again t h.shaped

-- the roles of what is added
else_turns : role else_op ≡ Turns
unfolding structure_rows
else_turns = refl

end_ends : role end_op ≡ Ends
unfolding structure_rows
end_ends = refl

end_closes : is_delegate end_op ≡ false
unfolding structure_rows
end_closes = refl

module _ (pick : BlockType → BlockType) where
  closed_shaped : (o : Seen) (p : Option ℕ) (bare : Bool) → role o ≡ Ends → IsShaped (closed bare o p)
  closed_shaped o p true h = (else_turns, end_ends)
  closed_shaped o p false h = h

  normal_shaped : (t : Tree) (bare dropped : Bool) → IsShaped t → IsShaped (normal_from pick t bare dropped)
  normal_shaped (Close o p) bare dropped h = closed_shaped o p bare h
  normal_shaped (Arm o p t) bare dropped h = (h.0, normal_shaped t false false h.1)
  normal_shaped (Skip o p t) bare dropped h = normal_shaped t bare dropped h.1
  normal_shaped (Run o p t) bare true h = normal_shaped t bare true h.1
  normal_shaped (Run o p t) bare false h = (h.0, normal_shaped t bare (cuts o) h.1)
  normal_shaped (Nest o p u t) bare true h = normal_shaped t bare true h.2
  normal_shaped (Nest o p u t) bare false h = (h.0, normal_shaped u (is_if o) false h.1, normal_shaped t bare false h.2)

  pub normal_nests_at : (ops : List Placed) (t : Tree) → NestAs ops t → NestAs (normal_ops pick ops) (normal pick t)
  normal_nests_at ops t h = record {
    shaped = normal_shaped t false false h.shaped;
    flat_is = ap (λ (z : Tree). flat (normal pick z)) (tree_is_one ops t h);
  }

  -- a second time nothing changes
  module _ (same : IsPick pick) where
    item_twice : (x : Item) → with_pick pick (with_pick pick x) ≡ with_pick pick x
    item_twice (Names space n) = refl
    item_twice (Number n) = refl
    item_twice (S32 z) = refl
    item_twice (S64 z) = refl
    item_twice (Bits size n) = refl
    item_twice (Byte b) = refl
    item_twice (Bytes run) = refl
    item_twice (Heap ty) = refl
    item_twice (Block ty) = ap Block (same ty)
    item_twice (Access a) = refl
    item_twice (ManyLabels ns) = refl
    item_twice (ManyValues tys) = refl
    item_twice (ManyClauses cs) = refl

    items_twice : (xs : List Item) → map (with_pick pick) (map (with_pick pick) xs) ≡ map (with_pick pick) xs
    items_twice [] = refl
    items_twice (x ∷ xs) = ap (λ (y : Item). y ∷ map (with_pick pick) (map (with_pick pick) xs)) (item_twice x) ∙ ap (λ (ys : List Item). with_pick pick x ∷ ys) (items_twice xs)

    picked_twice : (o : Seen) → picked pick (picked pick o) ≡ picked pick o
    picked_twice o = ap (λ (xs : List Item). record { code = o.code; items = xs }) (items_twice o.items)

    record Again (t : Tree) (bare : Bool) : Type 0 where
      pub dropped : (d : Bool) → normal_from pick (normal_from pick t bare true) bare d ≡ normal_from pick t bare true
      pub reached : normal_from pick (normal_from pick t bare false) bare false ≡ normal_from pick t bare false

    run_again : (c : Bool) (t : Tree) (bare : Bool) → Again t bare → normal_from pick (normal_from pick t bare c) bare c ≡ normal_from pick t bare c
    run_again true t bare h = h.dropped true
    run_again false t bare h = h.reached

    place_again : (v : Bool) (p : Option ℕ) → (if v then None else (if v then None else p)) ≡ (if v then None else p)
    place_again true p = refl
    place_again false p = refl

    again : (t : Tree) (bare : Bool) → Again t bare
    again (Close o p) true = record {
      dropped = λ d. ap (λ (v : Bool). Arm else_op p (Close end_op (if v then None else None))) end_closes;
      reached = ap (λ (v : Bool). Arm else_op p (Close end_op (if v then None else None))) end_closes;
    }
    again (Close o p) false = record { dropped = λ d. ap (Close o) (place_again (is_delegate o) p); reached = ap (Close o) (place_again (is_delegate o) p) }
    again (Arm o p t) bare = let h = again t false in record { dropped = λ d. ap (Arm o p) h.reached; reached = ap (Arm o p) h.reached }
    again (Skip o p t) bare = let h = again t bare in record { dropped = h.dropped; reached = h.reached }
    again (Run o p t) bare = let h = again t bare in record { dropped = h.dropped; reached = ap (Run o p) (run_again (cuts o) t bare h) }
    again (Nest o p u t) bare =
        let g = again u (is_if o) in
        let h = again t bare in
        record {
          dropped = h.dropped;
          reached =
              ap (λ (x : Seen). Nest x p (normal_from pick (normal_from pick u (is_if o) false) (is_if o) false) (normal_from pick (normal_from pick t bare false) bare false)) (picked_twice o)
              ∙ ap (λ (v : Tree). Nest (picked pick o) p v (normal_from pick (normal_from pick t bare false) bare false)) g.reached
              ∙ ap (Nest (picked pick o) p (normal_from pick u (is_if o) false)) h.reached;
        }

    pub normal_again_at : (ops : List Placed) (t : Tree) → NestAs ops t → normal_ops pick (normal_ops pick ops) ≡ normal_ops pick ops
    normal_again_at ops t h =
        ap (λ (z : Tree). flat (normal pick z)) (tree_is_one (normal_ops pick ops) (normal pick t) (normal_nests_at ops t h))
        ∙ ap flat (again t false).reached ∙ ap (λ (z : Tree). flat (normal pick z)) (sym (tree_is_one ops t h))

pub normal_nests : NormalNests
normal_nests pick ops t h = normal_nests_at pick ops t h

pub normal_again : NormalAgain
normal_again pick ops t same h = normal_again_at pick same ops t h
