-- The trees of operators in normal form and renamed; that places play no part in normal forms.
use Rattle.std.proofs.Common.{ℕ, ◌≡◌, Bool, true, false, List, [], ◌∷◌, ◌++◌, map, refl, sym, ap, subst, ◌∙◌}
use Rattle.std.specs.Prelude.{Option, None}
use Rattle.std.specs.List.{AllByRecursion}
use Rattle.std.proofs.lemmas.List.{map-append, append_assoc}
use Rattle.wasm_operators.specs.declared.block_type.BlockType.{BlockType}
use Rattle.wasm_operators.specs.Items.{Item, Block}
use Rattle.wasm_operators.specs.declared.op_code.OpCode.{OpCode}
use Rattle.wasm_operators.specs.Operators.{Seen, flow_of}
use Rattle.wasm_operators.specs.Table.{structure_rows}
use Rattle.wasm_operators.specs.Names.{Renaming, renamed_operator}
use Rattle.wasm_normal_form.specs.Roles.{Placed, Role, Passes, Runs, Opens, Turns, Ends, role_in, role, cuts_in, cuts, is_if_in, is_if, else_op, end_op}
use Rattle.wasm_normal_form.specs.Trees.{Tree, Close, Arm, Skip, Run, Nest, flat, IsShaped, prepend, open_in, innermost, tree_of}
use Rattle.wasm_normal_form.specs.Normal.{with_pick, picked, normal_from, normal, normal_ops}
use Rattle.wasm_normal_form.specs.Laws.{TreeIsOne, NormalNests}
use Rattle.wasm_runs.specs.Programs.{operators, unplaced, nested}
use Rattle.wasm_run_laws.specs.Stands.{normal_code, renamed_code}
use Rattle.wasm_run_laws.proofs.Images.{each_is, mapped_tree, renamed_tree, AllOf}

-- ---- what operators nest as is shaped

abbrev AllShaped : List Tree → Type 0
AllShaped ts = AllByRecursion IsShaped ts

prepend_shaped : (r : Role) (o : Seen) (p : Option ℕ) (ts : List Tree) → role o ≡ r → AllShaped ts → AllShaped (prepend r o p ts)
prepend_shaped Passes o p [] e h = tt
prepend_shaped Passes o p (t ∷ ts) e h = ((e, h.0), h.1)
prepend_shaped Runs o p [] e h = tt
prepend_shaped Runs o p (t ∷ ts) e h = ((e, h.0), h.1)
prepend_shaped Turns o p [] e h = tt
prepend_shaped Turns o p (t ∷ ts) e h = ((e, h.0), h.1)
prepend_shaped Opens o p [] e h = tt
prepend_shaped Opens o p (u ∷ []) e h = tt
prepend_shaped Opens o p (u ∷ (t ∷ ts)) e h = ((e, h.0, h.1.0), h.1.1)
prepend_shaped Ends o p ts e h = (e, h)

open_shaped : (ops : List Placed) → AllShaped (open_in ops)
open_shaped [] = tt
open_shaped (o ∷ ops) = prepend_shaped (role o.op) o.op o.place (open_in ops) refl (open_shaped ops)

innermost_shaped : (ts : List Tree) → AllShaped ts → IsShaped (innermost ts)
unfolding structure_rows
innermost_shaped [] h = refl
innermost_shaped (t ∷ ts) h = h.0

pub tree_shaped : (ops : List Placed) → IsShaped (tree_of ops)
tree_shaped ops = innermost_shaped (open_in ops) (open_shaped ops)

-- ---- renamed trees

module _ (r : Renaming) where
  abbrev image_of : Placed → Placed
  image_of o = unplaced (renamed_operator r o.op)

  images_of : (ops : List Placed) → map unplaced (renamed_code r (operators ops)) ≡ map image_of ops
  images_of [] = refl
  images_of (o ∷ ops) = ap (λ (z : List Placed). image_of o ∷ z) (images_of ops)

  flat_renamed : (t : Tree) → map image_of (flat t) ≡ flat (renamed_tree r t)
  flat_renamed (Close o p) = refl
  flat_renamed (Arm o p t) = ap (λ (z : List Placed). unplaced (renamed_operator r o) ∷ z) (flat_renamed t)
  flat_renamed (Skip o p t) = ap (λ (z : List Placed). unplaced (renamed_operator r o) ∷ z) (flat_renamed t)
  flat_renamed (Run o p t) = ap (λ (z : List Placed). unplaced (renamed_operator r o) ∷ z) (flat_renamed t)
  flat_renamed (Nest o p u t) =
      ap (λ (z : List Placed). unplaced (renamed_operator r o) ∷ z)
      (map-append image_of (flat u) (flat t) ∙ ap (λ (z : List Placed). z ++ map image_of (flat t)) (flat_renamed u) ∙ ap (λ (z : List Placed). flat (renamed_tree r u) ++ z) (flat_renamed t))

  shaped_renamed : (t : Tree) → IsShaped t → IsShaped (renamed_tree r t)
  shaped_renamed (Close o p) h = h
  shaped_renamed (Arm o p t) h = (h.0, shaped_renamed t h.1)
  shaped_renamed (Skip o p t) h = (h.0, shaped_renamed t h.1)
  shaped_renamed (Run o p t) h = (h.0, shaped_renamed t h.1)
  shaped_renamed (Nest o p u t) h = (h.0, shaped_renamed u h.1, shaped_renamed t h.2)

  -- operators in normal form and renamed nest as the tree in normal form and renamed
  pub nested_image : TreeIsOne → NormalNests → (pick : BlockType → BlockType) (ops : List Seen) → nested (renamed_code r (normal_code pick ops)) ≡ renamed_tree r (normal pick (nested ops))
  nested_image one nests pick ops =
      let t = nested ops in
      let w = normal pick t in
      let shaped : IsShaped w = (nests pick (flat t) t (record { shaped = tree_shaped (map unplaced ops); flat_is = refl })).shaped in
      ap tree_of (images_of (flat w)) ∙ one (map image_of (flat w)) (renamed_tree r w) (record { shaped = shaped_renamed w shaped; flat_is = flat_renamed w })

-- ---- what holds of all operators holds of those of their tree

module _ (Q : Seen → Type 0) where
  all_before : (t : Tree) (rest : List Seen) → AllByRecursion Q (operators (flat t) ++ rest) → AllOf Q t × AllByRecursion Q rest
  all_before (Close o p) rest h = (tt, h.1)
  all_before (Arm o p t) rest h = all_before t rest h.1
  all_before (Skip o p t) rest h = all_before t rest h.1
  all_before (Run o p t) rest h = let k = all_before t rest h.1 in ((h.0, k.0), k.1)
  all_before (Nest o p u t) rest h =
      let e : operators (flat u ++ flat t) ++ rest ≡ operators (flat u) ++ (operators (flat t) ++ rest) =
      ap (λ (z : List Seen). z ++ rest) (map-append (λ (o : Placed). o.op) (flat u) (flat t)) ∙ append_assoc (operators (flat u)) (operators (flat t)) rest in
      let k = all_before u (operators (flat t) ++ rest) (subst (AllByRecursion Q) e h.1) in
      let l = all_before t rest k.1 in
      ((h.0, k.0, l.0), l.1)

  pub all_of : (t : Tree) → AllByRecursion Q (operators (flat t)) → AllOf Q t
  all_of (Close o p) h = tt
  all_of (Arm o p t) h = all_of t h.1
  all_of (Skip o p t) h = all_of t h.1
  all_of (Run o p t) h = (h.0, all_of t h.1)
  all_of (Nest o p u t) h =
      let k = all_before u (operators (flat t)) (subst (AllByRecursion Q) (map-append (λ (o : Placed). o.op) (flat u) (flat t)) h.1) in
      (h.0, k.0, all_of t k.1)

-- of two kinds together
pub both_of : (Q R S : Seen → Type 0) → ((o : Seen) → Q o → R o → S o) → (t : Tree) → AllOf Q t → AllOf R t → AllOf S t
both_of Q R S f (Close o p) h k = tt
both_of Q R S f (Arm o p t) h k = both_of Q R S f t h k
both_of Q R S f (Skip o p t) h k = both_of Q R S f t h k
both_of Q R S f (Run o p t) h k = (f o h.0 k.0, both_of Q R S f t h.1 k.1)
both_of Q R S f (Nest o p u t) h k = (f o h.0 k.0, both_of Q R S f u h.1 k.1, both_of Q R S f t h.2 k.2)

-- of each operator
pub each_of : (Q : Seen → Type 0) → ((o : Seen) → Q o) → (t : Tree) → AllOf Q t
each_of Q f (Close o p) = tt
each_of Q f (Arm o p t) = each_of Q f t
each_of Q f (Skip o p t) = each_of Q f t
each_of Q f (Run o p t) = (f o, each_of Q f t)
each_of Q f (Nest o p u t) = (f o, each_of Q f u, each_of Q f t)

-- of each operator of a list
prepend_all : (Q : Seen → Type 0) (r : Role) (o : Seen) (p : Option ℕ) (ts : List Tree) → Q o → AllByRecursion (AllOf Q) ts → AllByRecursion (AllOf Q) (prepend r o p ts)
prepend_all Q Passes o p [] q h = tt
prepend_all Q Passes o p (t ∷ ts) q h = h
prepend_all Q Runs o p [] q h = tt
prepend_all Q Runs o p (t ∷ ts) q h = ((q, h.0), h.1)
prepend_all Q Turns o p [] q h = tt
prepend_all Q Turns o p (t ∷ ts) q h = h
prepend_all Q Opens o p [] q h = tt
prepend_all Q Opens o p (u ∷ []) q h = tt
prepend_all Q Opens o p (u ∷ (t ∷ ts)) q h = ((q, h.0, h.1.0), h.1.1)
prepend_all Q Ends o p ts q h = (tt, h)

open_all : (Q : Seen → Type 0) (ops : List Seen) → AllByRecursion Q ops → AllByRecursion (AllOf Q) (open_in (map unplaced ops))
open_all Q [] h = tt
open_all Q (o ∷ ops) h = prepend_all Q (role o) o None (open_in (map unplaced ops)) h.0 (open_all Q ops h.1)

innermost_all : (Q : Seen → Type 0) (ts : List Tree) → AllByRecursion (AllOf Q) ts → AllOf Q (innermost ts)
innermost_all Q [] h = tt
innermost_all Q (t ∷ ts) h = h.0

pub nested_all : (Q : Seen → Type 0) (ops : List Seen) → AllByRecursion Q ops → AllOf Q (nested ops)
nested_all Q ops h = innermost_all Q (open_in (map unplaced ops)) (open_all Q ops h)

-- the normal form has operators of the body alone
module _ (Q : Seen → Type 0) (pick : BlockType → BlockType) (picks : (o : Seen) → Q o → Q (picked pick o)) where
  pub normal_all : (t : Tree) (bare dropped : Bool) → AllOf Q t → AllOf Q (normal_from pick t bare dropped)
  normal_all (Close o p) true dropped h = tt
  normal_all (Close o p) false dropped h = tt
  normal_all (Arm o p t) bare dropped h = normal_all t false false h
  normal_all (Skip o p t) bare dropped h = normal_all t bare dropped h
  normal_all (Run o p t) bare true h = normal_all t bare true h.1
  normal_all (Run o p t) bare false h = (h.0, normal_all t bare (cuts o) h.1)
  normal_all (Nest o p u t) bare true h = normal_all t bare true h.2
  normal_all (Nest o p u t) bare false h = (picks o h.0, normal_all u (is_if o) false h.1, normal_all t bare false h.2)

-- ---- normal forms of other operators with the same codes

-- a change of operators, and of picks with it
pub record Commutes (f : Seen → Seen) (pick other : BlockType → BlockType) : Type 0 where
  pub code : (o : Seen) → (f o).code ≡ o.code
  pub picks : (o : Seen) → picked other (f o) ≡ f (picked pick o)
  pub else_is : f else_op ≡ else_op
  pub end_is : f end_op ≡ end_op

module _ (f : Seen → Seen) (pick other : BlockType → BlockType) (c : Commutes f pick other) where
  prepend_mapped : (r : Role) (o : Seen) (p : Option ℕ) (ts : List Tree) → prepend r (f o) None (map (mapped_tree f) ts) ≡ map (mapped_tree f) (prepend r o p ts)
  prepend_mapped Passes o p [] = refl
  prepend_mapped Passes o p (t ∷ ts) = refl
  prepend_mapped Runs o p [] = refl
  prepend_mapped Runs o p (t ∷ ts) = refl
  prepend_mapped Turns o p [] = refl
  prepend_mapped Turns o p (t ∷ ts) = refl
  prepend_mapped Opens o p [] = refl
  prepend_mapped Opens o p (u ∷ []) = refl
  prepend_mapped Opens o p (u ∷ (t ∷ ts)) = refl
  prepend_mapped Ends o p ts = refl

  open_mapped : (ops : List Placed) → open_in (map unplaced (map f (operators ops))) ≡ map (mapped_tree f) (open_in ops)
  open_mapped [] = refl
  open_mapped (o ∷ ops) =
      ap (λ (x : OpCode). prepend (role_in (flow_of x)) (f o.op) None (open_in (map unplaced (map f (operators ops))))) (c.code o.op)
      ∙ ap (prepend (role o.op) (f o.op) None) (open_mapped ops) ∙ prepend_mapped (role o.op) o.op o.place (open_in ops)

  innermost_mapped : (ts : List Tree) → innermost (map (mapped_tree f) ts) ≡ mapped_tree f (innermost ts)
  innermost_mapped [] = ap (λ (o : Seen). Close o None) (sym c.end_is)
  innermost_mapped (t ∷ ts) = refl

  pub tree_mapped : (ops : List Placed) → nested (map f (operators ops)) ≡ mapped_tree f (tree_of ops)
  tree_mapped ops = ap innermost (open_mapped ops) ∙ innermost_mapped (open_in ops)

  normal_mapped : (t : Tree) (bare dropped : Bool) → operators (flat (normal_from other (mapped_tree f t) bare dropped)) ≡ map f (operators (flat (normal_from pick t bare dropped)))
  normal_mapped (Close o p) true dropped = ap (λ (x : Seen). x ∷ end_op ∷ []) (sym c.else_is) ∙ ap (λ (x : Seen). f else_op ∷ x ∷ []) (sym c.end_is)
  normal_mapped (Close o p) false dropped = refl
  normal_mapped (Arm o p t) bare dropped = ap (λ (z : List Seen). f o ∷ z) (normal_mapped t false false)
  normal_mapped (Skip o p t) bare dropped = normal_mapped t bare dropped
  normal_mapped (Run o p t) bare true = normal_mapped t bare true
  normal_mapped (Run o p t) bare false =
      ap (λ (x : OpCode). f o ∷ operators (flat (normal_from other (mapped_tree f t) bare (cuts_in (flow_of x))))) (c.code o) ∙ ap (λ (z : List Seen). f o ∷ z) (normal_mapped t bare (cuts o))
  normal_mapped (Nest o p u t) bare true = normal_mapped t bare true
  normal_mapped (Nest o p u t) bare false =
      let us = normal_from pick u (is_if o) false in
      let ts = normal_from pick t bare false in
      let vs = normal_from other (mapped_tree f u) (is_if o) false in
      let ws = normal_from other (mapped_tree f t) bare false in
      ap (λ (x : OpCode). picked other (f o) ∷ operators (flat (normal_from other (mapped_tree f u) (is_if_in (flow_of x)) false) ++ flat ws)) (c.code o)
      ∙ ap (λ (x : Seen). x ∷ operators (flat vs ++ flat ws)) (c.picks o)
      ∙ ap (λ (z : List Seen). f (picked pick o) ∷ z)
      (map-append (λ (o : Placed). o.op) (flat vs) (flat ws) ∙ ap (λ (z : List Seen). z ++ operators (flat ws)) (normal_mapped u (is_if o) false)
      ∙ ap (λ (z : List Seen). map f (operators (flat us)) ++ z) (normal_mapped t bare false) ∙ sym (map-append f (operators (flat us)) (operators (flat ts)))
      ∙ ap (map f) (sym (map-append (λ (o : Placed). o.op) (flat us) (flat ts))))

  -- the normal form of the changed operators is the normal form, changed; places play no part
  pub normal_changed : (ops : List Placed) → normal_code other (map f (operators ops)) ≡ map f (operators (normal_ops pick ops))
  normal_changed ops = ap (λ (t : Tree). operators (flat (normal other t))) (tree_mapped ops) ∙ normal_mapped (tree_of ops) false false

-- places alone
pub normal_unplaced : (pick : BlockType → BlockType) (ops : List Placed) → normal_code pick (operators ops) ≡ operators (normal_ops pick ops)
normal_unplaced pick ops =
    ap (normal_code pick) (sym (each_is (λ o. o) (λ o. refl) (operators ops)))
    ∙ normal_changed (λ o. o) pick pick (record { code = λ o. refl; picks = λ o. refl; else_is = refl; end_is = refl }) ops ∙ each_is (λ o. o) (λ o. refl) (operators (normal_ops pick ops))

-- ---- block types as they are

abbrev pub as_written : BlockType → BlockType
as_written ty = ty

written_item : (x : Item) → with_pick as_written x ≡ x
written_item (Block ty) = refl
written_item _ = refl

pub written_picked : (o : Seen) → picked as_written o ≡ o
written_picked o = ap (λ (xs : List Item). record { code = o.code; items = xs }) (each_is (with_pick as_written) written_item o.items)

pub operators_of : (ops : List Seen) → operators (map unplaced ops) ≡ ops
operators_of [] = refl
operators_of (o ∷ ops) = ap (λ (z : List Seen). o ∷ z) (operators_of ops)

-- the normal form of renamed operators is the normal form, renamed
pub normal_renamed : (r : Renaming) (ops : List Seen) → normal_code as_written (renamed_code r ops) ≡ renamed_code r (normal_code as_written ops)
normal_renamed r ops =
    ap (λ (os : List Seen). normal_code as_written (renamed_code r os)) (sym (operators_of ops))
    ∙ normal_changed (renamed_operator r) as_written as_written
    (record { code = λ o. refl; picks = λ o. written_picked (renamed_operator r o) ∙ ap (renamed_operator r) (sym (written_picked o)); else_is = refl; end_is = refl }) (map unplaced ops)
