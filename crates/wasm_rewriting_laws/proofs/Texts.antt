-- Lemmas: places of operators don't show in normal forms.
use Rattle.std.specs.Prelude.{ℕ, ◌≡◌, ◌+◌, ◌==◌, Bool, true, false, List, [], ◌∷◌, ◌++◌, map, filter, Option, None, refl}
use Rattle.std.specs.List.{flat_map, list_any}
use Rattle.std.proofs.Common.{ap, sym, ◌∙◌}
use Rattle.walrus_forms.specs.declared.value.ValType.{ValType}
use Rattle.walrus_forms.specs.Kinds.{Kind}
use Rattle.walrus_forms.specs.Renaming.{renamed_value}
use Rattle.wasm_operators.specs.declared.block_type.BlockType.{BlockType}
use Rattle.wasm_operators.specs.Items.{Types}
use Rattle.wasm_operators.specs.Names.{Renaming, renamed_operator}
use Rattle.wasm_operators.specs.Operators.{Seen, flow_of}
use Rattle.wasm_grammar.specs.Modules.{Body, Placed, Tag}
use Rattle.wasm_body_grammar.specs.Rules.{Around}
use Rattle.wasm_normal_form.specs.Bodies.{local_in, locals_named, new_number}
use Rattle.wasm_normal_form.specs.Locals.{Key, in_order, numbered}
use Rattle.wasm_normal_form.specs.Normal.{normal, normal_from, normal_ops, picked, size}
use Rattle.wasm_normal_form.specs.Roles.{Placed as Text, cuts, is_if, role, weight_of}
use Rattle.wasm_normal_form.specs.Trees.{Tree, Close, Arm, Skip, Run, Nest, tree_of}
use Rattle.wasm_ruled_normal.specs.Normal.{located, text_of}
use Rattle.wasm_ruled_renamed.specs.Bodies.{normal_renamed, with_numbers}
use Rattle.wasm_ruled_renamed.specs.Renamed.{renamed_placed}
use Rattle.wasm_run_names.specs.Picks.{block_pick}
use Rattle.wasm_run_laws.specs.wasm_runs.Programs.{nested, operators}
use Rattle.wasm_run_laws.specs.Stands.{normal_code}
use Rattle.wasm_run_laws.proofs.Images.{mapped_tree}
use Rattle.wasm_run_laws.proofs.Nested.{Commutes, normal_unplaced, tree_mapped}
use Rattle.wasm_module_bytes.specs.Bytes.{body_unplaced, unplaced}
use Rattle.wasm_part.specs.Handlers.{body_handles, opened_gives, part_handles, text_handles}

-- the operators without their places
abbrev pub codes : List Placed → List Seen
codes xs = map (λ (o : Placed). o.op) xs

pub codes_stay : (xs : List Placed) → codes (map unplaced xs) ≡ codes xs
codes_stay [] = refl
codes_stay (o ∷ xs) = ap (λ (l : List Seen). o.op ∷ l) (codes_stay xs)

codes_of : (xs : List Placed) → operators (text_of xs) ≡ codes xs
codes_of [] = refl
codes_of (o ∷ xs) = ap (λ (l : List Seen). o.op ∷ l) (codes_of xs)

text_stays : (xs : List Placed) → operators (text_of (map unplaced xs)) ≡ operators (text_of xs)
text_stays xs = codes_of (map unplaced xs) ∙ codes_stay xs ∙ sym (codes_of xs)

pub normal_stays : (pick : BlockType → BlockType) (xs : List Placed) → operators (normal_ops pick (text_of (map unplaced xs))) ≡ operators (normal_ops pick (text_of xs))
normal_stays pick xs = sym (normal_unplaced pick (text_of (map unplaced xs))) ∙ ap (normal_code pick) (text_stays xs) ∙ normal_unplaced pick (text_of xs)

named_of : (ops : List Text) → locals_named ops ≡ flat_map (λ (s : Seen). flat_map local_in s.items) (operators ops)
named_of [] = refl
named_of (o ∷ ops) = ap (λ (l : List ℕ). flat_map local_in o.op.items ++ l) (named_of ops)

-- the locals that a normal form names
pub named_stay : (pick : BlockType → BlockType) (xs : List Placed) → locals_named (normal_ops pick (text_of (map unplaced xs))) ≡ locals_named (normal_ops pick (text_of xs))
named_stay pick xs =
    named_of (normal_ops pick (text_of (map unplaced xs))) ∙ ap (λ (l : List Seen). flat_map (λ (s : Seen). flat_map local_in s.items) l) (normal_stays pick xs)
    ∙ sym (named_of (normal_ops pick (text_of xs)))

pub size_stays : (xs : List Placed) → size (text_of (map unplaced xs)) ≡ size (text_of xs)
size_stays [] = refl
size_stays (o ∷ xs) = ap (λ (n : ℕ). weight_of (role o.op) + n) (size_stays xs)

-- ---- the normal form of a body, renamed

-- the locals that are used, where an operator names these
abbrev pub keys_by : ℕ → List ValType → List ℕ → List Key
keys_by params tys named = in_order (filter (λ (k : Key). list_any (λ m. m == k.1) named) (numbered params tys))

module _ (place : Option ℕ → ℕ) (a : Around) (r : Renaming) (params : ℕ) where
  abbrev renamed_by : List Key → List Seen → List Placed
  renamed_by keys ops = map (λ (s : Seen). record { place = 0; op = renamed_operator (with_numbers (new_number params keys) r) s }) ops

  renamed_are : (keys : List Key) (ops : List Text) → map unplaced (map (renamed_placed (with_numbers (new_number params keys) r)) (map (located place) ops)) ≡ renamed_by keys (operators ops)
  renamed_are keys [] = refl
  renamed_are keys (o ∷ ops) = ap (λ (l : List Placed). record { place = 0; op = renamed_operator (with_numbers (new_number params keys) r) o.op } ∷ l) (renamed_are keys ops)

  pub body_stays : (x : Body) → body_unplaced (normal_renamed place a r params (body_unplaced x)) ≡ body_unplaced (normal_renamed place a r params x)
  body_stays x =
      let tys : List ValType = map (renamed_value (r Types)) x.locals in
      let new : List Text = normal_ops (block_pick a) (text_of (map unplaced x.operators)) in
      let old : List Text = normal_ops (block_pick a) (text_of x.operators) in
      let named : locals_named new ≡ locals_named old = named_stay (block_pick a) x.operators in
      let ops : operators new ≡ operators old = normal_stays (block_pick a) x.operators in
      let both : renamed_by (keys_by params tys (locals_named new)) (operators new) ≡ renamed_by (keys_by params tys (locals_named old)) (operators old) =
      λ i. renamed_by (keys_by params tys (named i)) (ops i) in
      let all = renamed_are (keys_by params tys (locals_named new)) new ∙ both ∙ sym (renamed_are (keys_by params tys (locals_named old)) old) in
      λ i. record { locals = map (λ (k : Key). k.0) (keys_by params tys (named i)); operators = all i }

-- ---- what handlers take and give

abbrev as_it_is : Seen → Seen
as_it_is o = o

abbrev as_written : BlockType → BlockType
as_written ty = ty

commutes : Commutes as_it_is as_written as_written
commutes = record { code = λ o. refl; picks = λ o. refl; else_is = refl; end_is = refl }

module _ (types : List Kind) (tags : List (Option Tag)) where
  handles_clear : (t : Tree) (bare dropped : Bool) (results : Option (List ValType))
      → text_handles types tags results (normal_from as_written (mapped_tree as_it_is t) bare dropped) ≡ text_handles types tags results (normal_from as_written t bare dropped)
  handles_clear (Close o p) true dropped results = refl
  handles_clear (Close o p) false dropped results = refl
  handles_clear (Arm o p t) bare dropped results = ap (λ l. part_handles types tags results (flow_of o.code) o.items ++ l) (handles_clear t false false results)
  handles_clear (Skip o p t) bare dropped results = handles_clear t bare dropped results
  handles_clear (Run o p t) bare true results = handles_clear t bare true results
  handles_clear (Run o p t) bare false results = handles_clear t bare (cuts o) results
  handles_clear (Nest o p u t) bare true results = handles_clear t bare true results
  handles_clear (Nest o p u t) bare false results =
      let inside = handles_clear u (is_if o) false (opened_gives types tags (picked as_written o).items) in
      let behind = handles_clear t bare false results in
      λ i. inside i ++ behind i

  trees_clear : (xs : List Placed) → mapped_tree as_it_is (tree_of (text_of (map unplaced xs))) ≡ mapped_tree as_it_is (tree_of (text_of xs))
  trees_clear xs =
      sym (tree_mapped as_it_is as_written as_written commutes (text_of (map unplaced xs))) ∙ ap (λ (l : List Seen). nested (map as_it_is l)) (text_stays xs)
      ∙ tree_mapped as_it_is as_written as_written commutes (text_of xs)

  pub handles_stay : (x : Body) → body_handles types tags (body_unplaced x) ≡ body_handles types tags x
  handles_stay x =
      sym (handles_clear (tree_of (text_of (map unplaced x.operators))) false false None)
      ∙ ap (λ (t : Tree). text_handles types tags None (normal as_written t)) (trees_clear x.operators)
      ∙ handles_clear (tree_of (text_of x.operators)) false false None
