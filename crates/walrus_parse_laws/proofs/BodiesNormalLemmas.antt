-- Lemmas: what holds of each operator of a body, or of all that it names, holds of its normal form.
use Rattle.std.specs.Prelude.{ℕ, Bool, true, false, List, [], ◌∷◌, ◌++◌, map, Option}
use Rattle.wasm_operators.specs.Items.{Item, Names, Number, S32, S64, Bits, Byte, Bytes, Heap, Block, Access, ManyLabels, ManyValues, ManyClauses}
use Rattle.wasm_operators.specs.declared.block_type.BlockType.{BlockType}
use Rattle.walrus_named_bodies.specs.walrus_file_bodies.walrus_items_into.walrus_module_bodies.walrus_body_trees.walrus_meaning.walrus_linked.walrus_local_function.walrus_body_locals.wasm_normal_form.Normal.{closed, normal_from, normal_ops, picked, with_pick}
use Rattle.walrus_named_bodies.specs.walrus_file_bodies.walrus_items_into.walrus_module_bodies.walrus_body_trees.walrus_meaning.walrus_linked.walrus_local_function.walrus_body_locals.wasm_normal_form.Roles.{Placed, Role, Passes, Runs, Opens, Turns, Ends, cuts, else_op, end_op, is_if, role}
use Rattle.walrus_named_bodies.specs.walrus_file_bodies.walrus_items_into.walrus_module_bodies.walrus_body_trees.walrus_meaning.walrus_linked.walrus_local_function.walrus_body_locals.wasm_normal_form.Trees.{Tree, Close, Arm, Skip, Run, Nest, flat, innermost, open_in, prepend, tree_of}
use Rattle.wasm_operators.specs.Names.{Name, block_names, item_names, operator_names}
use Rattle.walrus_named_bodies.specs.walrus_file_bodies.walrus_body_trees.walrus_body_nesting.wasm_body_grammar.wasm_operators.Operators.{Seen}
use Rattle.std.specs.List.{flat_map}
use Rattle.walrus_parse_laws.proofs.ListLemmas.{AllOf, all_join}

pub all_split : {A : Type 0} (P : A → Type 0) (xs ys : List A) → AllOf P (xs ++ ys) → AllOf P xs × AllOf P ys
all_split P [] ys h = (tt, h)
all_split P (x ∷ xs) ys h = let later = all_split P xs ys h.1 in ((h.0, later.0), later.1)

-- it holds of an operator with picked block types where it holds of the operator, and of an `else` and an `end`
module _ (H : Seen → Type 0) (pick : BlockType → BlockType) (picks : (o : Seen) → H o → H (picked pick o)) (ended : H else_op × H end_op) where
  abbrev pub Holds : Placed → Type 0
  Holds o = H o.op

  abbrev In : Tree → Type 0
  In (Close o p) = H o
  In (Arm o p t) = H o × In t
  In (Skip o p t) = H o × In t
  In (Run o p t) = H o × In t
  In (Nest o p u t) = H o × In u × In t

  prepend_in : (r : Role) (o : Seen) (p : Option ℕ) (ts : List Tree) → H o → AllOf In ts → AllOf In (prepend r o p ts)
  prepend_in Passes o p [] h k = tt
  prepend_in Passes o p (t ∷ ts) h k = ((h, k.0), k.1)
  prepend_in Runs o p [] h k = tt
  prepend_in Runs o p (t ∷ ts) h k = ((h, k.0), k.1)
  prepend_in Turns o p [] h k = tt
  prepend_in Turns o p (t ∷ ts) h k = ((h, k.0), k.1)
  prepend_in Opens o p [] h k = tt
  prepend_in Opens o p (u ∷ []) h k = tt
  prepend_in Opens o p (u ∷ (t ∷ ts)) h k = ((h, k.0, k.1.0), k.1.1)
  prepend_in Ends o p ts h k = (h, k)

  open_all : (ops : List Placed) → AllOf Holds ops → AllOf In (open_in ops)
  open_all [] h = tt
  open_all (o ∷ ops) h = prepend_in (role o.op) o.op o.place (open_in ops) h.0 (open_all ops h.1)

  innermost_in : (ts : List Tree) → AllOf In ts → In (innermost ts)
  innermost_in [] h = ended.1
  innermost_in (t ∷ ts) h = h.0

  closed_in : (bare : Bool) (o : Seen) (p : Option ℕ) → H o → AllOf Holds (flat (closed bare o p))
  closed_in true o p h = (ended.0, (ended.1, tt))
  closed_in false o p h = (h, tt)

  normal_in : (t : Tree) (bare dropped : Bool) → In t → AllOf Holds (flat (normal_from pick t bare dropped))
  normal_in (Close o p) bare dropped h = closed_in bare o p h
  normal_in (Arm o p t) bare dropped h = (h.0, normal_in t false false h.1)
  normal_in (Skip o p t) bare dropped h = normal_in t bare dropped h.1
  normal_in (Run o p t) bare true h = normal_in t bare true h.1
  normal_in (Run o p t) bare false h = (h.0, normal_in t bare (cuts o) h.1)
  normal_in (Nest o p u t) bare true h = normal_in t bare true h.2
  normal_in (Nest o p u t) bare false h =
      (picks o h.0, all_join Holds (flat (normal_from pick u (is_if o) false)) (flat (normal_from pick t bare false)) (normal_in u (is_if o) false h.1) (normal_in t bare false h.2))

  pub operators_in : (ops : List Placed) → AllOf Holds ops → AllOf Holds (normal_ops pick ops)
  operators_in ops h = normal_in (tree_of ops) false false (innermost_in (open_in ops) (open_all ops h))

module _ (Q : Name → Type 0) (pick : BlockType → BlockType) (picks : (ty : BlockType) → AllOf Q (block_names ty) → AllOf Q (block_names (pick ty))) where
  item_in : (x : Item) → AllOf Q (item_names x) → AllOf Q (item_names (with_pick pick x))
  item_in (Names space n) h = h
  item_in (Number n) h = h
  item_in (S32 z) h = h
  item_in (S64 z) h = h
  item_in (Bits size n) h = h
  item_in (Byte b) h = h
  item_in (Bytes run) h = h
  item_in (Heap ty) h = h
  item_in (Block ty) h = picks ty h
  item_in (Access a) h = h
  item_in (ManyLabels ns) h = h
  item_in (ManyValues tys) h = h
  item_in (ManyClauses cs) h = h

  items_in : (xs : List Item) → AllOf Q (flat_map item_names xs) → AllOf Q (flat_map item_names (map (with_pick pick) xs))
  items_in [] h = tt
  items_in (x ∷ xs) h =
      let both = all_split Q (item_names x) (flat_map item_names xs) h in
      all_join Q (item_names (with_pick pick x)) (flat_map item_names (map (with_pick pick) xs)) (item_in x both.0) (items_in xs both.1)

  -- it holds of all that an operator names
  pub normal_ops_in : (ops : List Placed) → AllOf (λ (o : Placed). AllOf Q (operator_names o.op)) ops → AllOf (λ (o : Placed). AllOf Q (operator_names o.op)) (normal_ops pick ops)
  normal_ops_in ops h = operators_in (λ o. AllOf Q (operator_names o)) pick (λ o h. items_in o.items h) (tt, tt) ops h
