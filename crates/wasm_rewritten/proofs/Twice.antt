-- Lemmas: what the operators of a normal form name, types aside, those of its normal form name, whatever types are picked there.
use Rattle.std.specs.Prelude.{ℕ, ◌≡◌, ◌⊎◌, Bool, true, false, List, [], ◌∷◌, ◌++◌, map, Option, refl}
use Rattle.std.specs.List.{flat_map}
use Rattle.std.proofs.Common.{ap, sym, ◌∙◌, subst, inl, inr}
use Rattle.std.proofs.lemmas.List.{map-append}
use Rattle.walrus_forms.specs.declared.value.ValType.{ValType}
use Rattle.wasm_formats.specs.declared.fault.Space.{Space as FileSpace}
use Rattle.wasm_formats.specs.declared.fault.Space.TheVariants as spaces
use Rattle.wasm_operators.specs.declared.block_type.BlockType.{BlockType}
use Rattle.wasm_operators.specs.Items.{Item as Immediate, Block}
use Rattle.wasm_operators.specs.Operators.{Seen}
use Rattle.wasm_operators.specs.Names.{Name, Renaming, block_names, item_names, operator_names, renamed_operator}
use Rattle.wasm_operators.specs.NameLaws.{NamesAreRenamed, renamed_name}
use Rattle.wasm_grammar.specs.Modules.{Item, Placed}
use Rattle.wasm_references.specs.References.{item, name_items, names_items}
use Rattle.wasm_normal_form.specs.Roles.{Placed as Text, cuts, is_if}
use Rattle.wasm_normal_form.specs.Trees.{Tree, Close, Arm, Skip, Run, Nest, flat}
use Rattle.wasm_normal_form.specs.Normal.{normal, normal_from, normal_ops, picked, with_pick}
use Rattle.wasm_normal_form.specs.Laws.{NormalNests, TreeIsOne}
use Rattle.wasm_ruled_normal.specs.Normal.{located, text_of}
use Rattle.wasm_ruled_renamed.specs.Bodies.{with_numbers}
use Rattle.wasm_ruled_renamed.specs.Renamed.{renamed_placed}
use Rattle.wasm_normal_modules.specs.Modules.{by_types}
use Rattle.wasm_part.specs.Part.{renumbered_item}
use Rattle.wasm_run_laws.specs.wasm_runs.Programs.{nested, operators}
use Rattle.wasm_run_laws.specs.Stands.{normal_code, renamed_code}
use Rattle.wasm_run_laws.proofs.Images.{renamed_tree}
use Rattle.wasm_run_laws.proofs.Nested.{nested_image}
use Rattle.wasm_rewritten.proofs.There.{normal_text}
use Rattle.wasm_rewritten.proofs.Goes.{IsNoType, block_goes, goes_at, name_goes}
use Rattle.wasm_rewritten.proofs.LocalsNamed.{Among, among_left, among_right, among_split, from_flat, from_map, to_flat, to_map}

-- ---- operators

-- the operator is among these, as it is or with the pick of its block type
abbrev pub Stays : (BlockType → BlockType) → Seen → List Seen → Type 0
Stays pick s ops = Among s ops ⊎ Among (picked pick s) ops

wider : (pick : BlockType → BlockType) (s : Seen) (xs ys : List Seen) → ((z : Seen) → Among z xs → Among z ys) → Stays pick s xs → Stays pick s ys
wider pick s xs ys f (inl h) = inl (f s h)
wider pick s xs ys f (inr h) = inr (f (picked pick s) h)

-- in one of two lists
either : (pick : BlockType → BlockType) (s o : Seen) (us ts vs ws : List Text) → (Among s (operators us) → Stays pick s (operators vs)) → (Among s (operators ts) → Stays pick s (operators ws))
    → Among s (operators (us ++ ts)) → Stays pick s (o ∷ operators (vs ++ ws))
either pick s o us ts vs ws f g h =
    let old : operators (us ++ ts) ≡ operators us ++ operators ts = map-append (λ (o : Text). o.op) us ts in
    let new : operators (vs ++ ws) ≡ operators vs ++ operators ws = map-append (λ (o : Text). o.op) vs ws in
    subst (λ (l : List Seen). Stays pick s (o ∷ l)) (sym new) (elim (among_split (operators us) (operators ts) s (subst (λ (l : List Seen). Among s l) old h)) [
      | inl i ↦ wider pick s (operators vs) (o ∷ (operators vs ++ operators ws)) (λ z k. inr (among_left (operators vs) (operators ws) z k)) (f i)
      | inr i ↦ wider pick s (operators ws) (o ∷ (operators vs ++ operators ws)) (λ z k. inr (among_right (operators vs) (operators ws) z k)) (g i)
    ])

module _ (r : Renaming) where
  ops_renamed : (t : Tree) → operators (flat (renamed_tree r t)) ≡ renamed_code r (operators (flat t))
  ops_renamed (Close o p) = refl
  ops_renamed (Arm o p t) = ap (λ (l : List Seen). renamed_operator r o ∷ l) (ops_renamed t)
  ops_renamed (Skip o p t) = ap (λ (l : List Seen). renamed_operator r o ∷ l) (ops_renamed t)
  ops_renamed (Run o p t) = ap (λ (l : List Seen). renamed_operator r o ∷ l) (ops_renamed t)
  ops_renamed (Nest o p u t) =
      ap (λ (l : List Seen). renamed_operator r o ∷ l)
      (map-append (λ (o : Text). o.op) (flat (renamed_tree r u)) (flat (renamed_tree r t)) ∙ ap (λ (l : List Seen). l ++ operators (flat (renamed_tree r t))) (ops_renamed u)
      ∙ ap (λ (l : List Seen). renamed_code r (operators (flat u)) ++ l) (ops_renamed t) ∙ sym (map-append (renamed_operator r) (operators (flat u)) (operators (flat t)))
      ∙ ap (renamed_code r) (sym (map-append (λ (o : Text). o.op) (flat u) (flat t))))

  module _ (pick other : BlockType → BlockType) where
    abbrev once : Tree → Bool → Bool → Tree
    once t bare dropped = renamed_tree r (normal_from pick t bare dropped)

    abbrev twice : Tree → Bool → Bool → Tree
    twice t bare dropped = normal_from other (once t bare dropped) bare dropped

    -- no operator of a normal form is dropped again
    again : (t : Tree) (bare dropped : Bool) (s : Seen) → Among s (operators (flat (once t bare dropped))) → Stays other s (operators (flat (twice t bare dropped)))
    again (Close o p) true dropped s h = inl h
    again (Close o p) false dropped s h = inl h
    again (Arm o p t) bare dropped s (inl e) = inl (inl e)
    again (Arm o p t) bare dropped s (inr h) =
        let ops = operators (flat (twice t false false)) in wider other s ops (renamed_operator r o ∷ ops) (λ z k. inr k) (again t false false s h)
    again (Skip o p t) bare dropped s h = again t bare dropped s h
    again (Run o p t) bare true s h = again t bare true s h
    again (Run o p t) bare false s (inl e) = inl (inl e)
    again (Run o p t) bare false s (inr h) =
        let ops = operators (flat (twice t bare (cuts o))) in wider other s ops (renamed_operator r o ∷ ops) (λ z k. inr k) (again t bare (cuts o) s h)
    again (Nest o p u t) bare true s h = again t bare true s h
    again (Nest o p u t) bare false s (inl e) = inr (inl (ap (picked other) e))
    again (Nest o p u t) bare false s (inr h) =
        either other s (picked other (renamed_operator r (picked pick o))) (flat (once u (is_if o) false)) (flat (once t bare false)) (flat (twice u (is_if o) false)) (flat (twice t bare false))
        (again u (is_if o) false s) (again t bare false s) h

-- these operators are those of a normal form, renamed
pub record IsNormalCode (ops : List Seen) : Type 0 where
  pub renaming : Renaming
  pub pick : BlockType → BlockType
  pub source : List Seen
  pub is : ops ≡ renamed_code renaming (normal_code pick source)

code_again : TreeIsOne → NormalNests → (other : BlockType → BlockType) (ops : List Seen) → IsNormalCode ops → (s : Seen) → Among s ops → Stays other s (normal_code other ops)
code_again one nests other ops n s h =
    let r = n.renaming in
    let t = nested n.source in
    let tree : nested ops ≡ renamed_tree r (normal n.pick t) = ap nested n.is ∙ nested_image r one nests n.pick n.source in
    let here : Among s (operators (flat (renamed_tree r (normal n.pick t)))) = subst (λ (l : List Seen). Among s l) (n.is ∙ sym (ops_renamed r (normal n.pick t))) h in
    subst (λ (t : Tree). Stays other s (operators (flat (normal other t)))) (sym tree) (again r n.pick other t false false s here)

-- ---- names

-- numbers of types and of locals may be others, all else stays
pub numbers_stay : (number r : ℕ → ℕ) (space : FileSpace) (n : ℕ) → IsNoType (item space n) → renumbered_item (with_numbers number (by_types r)) (item space n) ≡ item space n
numbers_stay number r spaces.«Type» n other = absurd (other refl)
numbers_stay number r spaces.Function n other = refl
numbers_stay number r spaces.Table n other = refl
numbers_stay number r spaces.Memory n other = refl
numbers_stay number r spaces.Tag n other = refl
numbers_stay number r spaces.Global n other = refl
numbers_stay number r spaces.Element n other = refl
numbers_stay number r spaces.Data n other = refl
numbers_stay number r spaces.Local n other = refl
numbers_stay number r spaces.Label n other = refl

pub types_stay : (r : ℕ → ℕ) (space : FileSpace) (n : ℕ) → IsNoType (item space n) → renumbered_item (by_types r) (item space n) ≡ item space n
types_stay r spaces.«Type» n other = absurd (other refl)
types_stay r spaces.Function n other = refl
types_stay r spaces.Table n other = refl
types_stay r spaces.Memory n other = refl
types_stay r spaces.Tag n other = refl
types_stay r spaces.Global n other = refl
types_stay r spaces.Element n other = refl
types_stay r spaces.Data n other = refl
types_stay r spaces.Local n other = refl
types_stay r spaces.Label n other = refl

-- what isn't a type is named by the other operator, too
module _ (y : Item) (other : IsNoType y) (locals : ℕ → Option ValType) where
  abbrev IsBehind : Name → Type 0
  IsBehind n = Among y (name_items locals n.0 n.1)

  item_stays : (pick : BlockType → BlockType) (x : Immediate) (n : Name) → IsBehind n → Among n (item_names x) → Among n (item_names (with_pick pick x))
  item_stays pick (Block ty) n is h =
      absurd (goes_at (by_types (λ k. k)) (names_items locals (block_names ty)) [] y (block_goes (by_types (λ k. k)) locals ty []) (to_flat (λ (n : Name). name_items locals n.0 n.1) (block_names ty) n y h is) other)
  item_stays pick x n is h = h

  picked_names : (pick : BlockType → BlockType) (s : Seen) (n : Name) → IsBehind n → Among n (operator_names s) → Among n (operator_names (picked pick s))
  picked_names pick s n is h =
      let x = from_flat item_names s.items n h in
      to_flat item_names (map (with_pick pick) s.items) (with_pick pick x.0) n (to_map (with_pick pick) s.items x.0 x.1) (item_stays pick x.0 n is x.2)

  stays_named : (pick : BlockType → BlockType) (s : Seen) (ops : List Seen) (n : Name) → IsBehind n → Among n (operator_names s) → Stays pick s ops → (o : Seen) × Among o ops × Among n (operator_names o)
  stays_named pick s ops n is h (inl i) = (s, i, h)
  stays_named pick s ops n is h (inr i) = (picked pick s, i, picked_names pick s n is h)

module _ (one : TreeIsOne) (nests : NormalNests) (renamed : NamesAreRenamed) (place : Option ℕ → ℕ) (number r : ℕ → ℕ) (pick : BlockType → BlockType) where
  abbrev R : Renaming
  R = with_numbers number (by_types r)

  abbrev new_ops : List Placed → List Placed
  new_ops xs = map (renamed_placed R) (map (located place) (normal_ops pick (text_of xs)))

  abbrev ops_items : (ℕ → Option ValType) → List Placed → List Item
  ops_items locals ops = flat_map (λ (o : Placed). names_items locals (operator_names o.op)) ops

  pub ops_again : (locals others : ℕ → Option ValType) (xs : List Placed) → IsNormalCode (map (λ (o : Placed). o.op) xs) → (y : Item) → IsNoType y → Among y (ops_items locals xs) → Among y (ops_items others (new_ops xs))
  ops_again locals others xs code y other h =
      let o = from_flat (λ (o : Placed). names_items locals (operator_names o.op)) xs y h in
      let n = from_flat (λ (n : Name). name_items locals n.0 n.1) (operator_names o.0.op) y o.2 in
      let ops = normal_ops pick (text_of xs) in
      let stays : Stays pick o.0.op (operators ops) = subst (λ (l : List Seen). Stays pick o.0.op l) (normal_text pick xs)
      (code_again one nests pick (map (λ (o : Placed). o.op) xs) code o.0.op (to_map (λ (o : Placed). o.op) xs o.0 o.1)) in
      let s = stays_named y other locals pick o.0.op (operators ops) n.0 n.2 n.1 stays in
      let q = from_map (λ (o : Text). o.op) ops s.0 s.1 in
      let written = renamed_placed R (located place q.0) in
      let name : Among n.0 (operator_names q.0.op) = subst (λ (s : Seen). Among n.0 (operator_names s)) (sym q.2) s.2 in
      let new : Among (renamed_name R n.0) (operator_names written.op) = subst (λ (l : List Name). Among (renamed_name R n.0) l) (sym (renamed R q.0.op)) (to_map (renamed_name R) (operator_names q.0.op) n.0 name) in
      let is : Among y (name_items others n.0.0 (R n.0.0 n.0.1)) = subst (λ (z : Item). Among z (name_items others n.0.0 (R n.0.0 n.0.1))) (numbers_stay number r y.space y.number other)
      (goes_at R (name_items locals n.0.0 n.0.1) (name_items others n.0.0 (R n.0.0 n.0.1)) y (name_goes R locals others n.0.0 n.0.1) n.2 other) in
      to_flat (λ (o : Placed). names_items others (operator_names o.op)) (new_ops xs) written y (to_map (renamed_placed R) (map (located place) ops) (located place q.0) (to_map (located place) ops q.0 q.1))
      (to_flat (λ (n : Name). name_items others n.0 n.1) (operator_names written.op) (renamed_name R n.0) y new is)
