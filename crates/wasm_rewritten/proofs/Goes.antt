-- Lemmas: what items name, types aside, their renumbered ones name, renumbered.
use Rattle.std.specs.Prelude.{ℕ, ◌≡◌, List, [], ◌∷◌, ◌++◌, map, Option, Some, None, refl}
use Rattle.std.specs.List.{AllByRecursion, flat_map}
use Rattle.std.specs.Option.{option_map, option_to_list}
use Rattle.std.proofs.Common.{ap, sym, ◌∙◌, subst, inl, inr}
use Rattle.walrus_forms.specs.declared.value.RefType.{RefType}
use Rattle.walrus_forms.specs.declared.value.ValType.{ValType}
use Rattle.walrus_forms.specs.Values.{ref_name, value_name}
use Rattle.wasm_ref_types.specs.declared.heap.HeapType.{HeapType}
use Rattle.wasm_ref_types.specs.declared.heap.HeapType.TheVariants.{Abstract, Concrete, Exact}
use Rattle.wasm_ref_types.specs.declared.index.UnpackedIndex.{UnpackedIndex}
use Rattle.wasm_ref_types.specs.declared.index.UnpackedIndex.TheVariants as indices
use Rattle.wasm_ref_types.specs.declared.value.ValType.{ValType as Written}
use Rattle.wasm_ref_types.specs.declared.value.ValType.TheVariants as written
use Rattle.wasm_formats.specs.declared.fault.Space.TheVariants as spaces
use Rattle.wasm_operators.specs.declared.block_type.BlockType.{BlockType}
use Rattle.wasm_operators.specs.declared.block_type.BlockType.TheVariants as blocks
use Rattle.wasm_operators.specs.Items.{Space, Types, Functions, Tables, Memories, Tags, Globals, ElementSegments, DataSegments, Locals, Labels}
use Rattle.wasm_operators.specs.Operators.{Seen}
use Rattle.wasm_operators.specs.Names.{Name, Renaming, block_names, heap_names, index_names, operator_names, renamed_operator, value_names}
use Rattle.wasm_operators.specs.NameLaws.{NamesAreRenamed, renamed_name}
use Rattle.wasm_grammar.specs.Modules.{Item, Expr, Origin, Imported, Own, Placed, Body, Table, Mode, Passive, Declared, Active, Elements, Functions as Listed, Expressions, Element}
use Rattle.wasm_references.specs.References.{body_items, element_items, expr_items, held_items, init_items, item, local_items, mode_items, name_items, names_items, no_locals, origin_items, ref_items, table_items, value_items}
use Rattle.wasm_module_bytes.specs.Bytes.{body_unplaced, origin_unplaced, unplaced}
use Rattle.wasm_ruled_normal.proofs.Tests.{all_join}
use Rattle.wasm_part.specs.Part.{renumbered_body, renumbered_element, renumbered_expr, renumbered_item, renumbered_items, renumbered_mode, renumbered_own, renumbered_placed, renumbered_table}
use Rattle.wasm_rewritten.proofs.LocalsNamed.{Among, among_left, among_right}

abbrev pub IsNoType : Item → Type 0
IsNoType y = y.space ≡ spaces.«Type» → ⊥

pub types_only : (ns : List ℕ) (y : Item) → Among y (map (item spaces.«Type») ns) → y.space ≡ spaces.«Type»
types_only [] y h = absurd h
types_only (n ∷ ns) y (inl e) = sym (ap (λ (i : Item). i.space) e)
types_only (n ∷ ns) y (inr h) = types_only ns y h

module _ (r : Renaming) where
  -- each of the one, types aside, is in the other, renumbered
  abbrev pub Goes : List Item → List Item → Type 0
  Goes xs ys = AllByRecursion (λ (y : Item). IsNoType y → Among (renumbered_item r y) ys) xs

  pub goes_wider : (xs ys zs : List Item) → ((z : Item) → Among z ys → Among z zs) → Goes xs ys → Goes xs zs
  goes_wider [] ys zs f h = tt
  goes_wider (x ∷ xs) ys zs f h = (λ other. f (renumbered_item r x) (h.0 other), goes_wider xs ys zs f h.1)

  goes_both : (xs others ys zs : List Item) → Goes xs others → Goes ys zs → Goes (xs ++ ys) (others ++ zs)
  goes_both xs others ys zs h k =
      all_join (λ (y : Item). IsNoType y → Among (renumbered_item r y) (others ++ zs)) xs ys (goes_wider xs others (others ++ zs) (λ z. among_left others zs z) h)
      (goes_wider ys zs (others ++ zs) (λ z. among_right others zs z) k)

  goes_on : (x : Item) (xs ys : List Item) → Goes xs ys → Goes (x ∷ xs) (renumbered_item r x ∷ ys)
  goes_on x xs ys h = (λ other. inl refl, goes_wider xs ys (renumbered_item r x ∷ ys) (λ z a. inr a) h)

  types_go : (ns : List ℕ) (ys : List Item) → Goes (map (item spaces.«Type») ns) ys
  types_go [] ys = tt
  types_go (n ∷ ns) ys = (λ other. absurd (other refl), types_go ns ys)

  pub goes_at : (xs ys : List Item) (y : Item) → Goes xs ys → Among y xs → IsNoType y → Among (renumbered_item r y) ys
  goes_at [] ys y h a other = absurd a
  goes_at (x ∷ xs) ys y h (inl e) other = subst (λ (z : Item). Among (renumbered_item r z) ys) e (h.0 (λ f. other (sym (ap (λ (i : Item). i.space) e) ∙ f)))
  goes_at (x ∷ xs) ys y h (inr a) other = goes_at xs ys y h.1 a other

  -- ---- names

  local_goes : (o : Option ValType) (ys : List Item) → Goes (local_items o) ys
  local_goes None ys = tt
  local_goes (Some ty) ys = types_go (option_to_list (value_name ty)) ys

  pub name_goes : (locals others : ℕ → Option ValType) (space : Space) (n : ℕ) → Goes (name_items locals space n) (name_items others space (r space n))
  name_goes locals others Types n = (λ other. absurd (other refl), tt)
  name_goes locals others Functions n = (λ other. inl refl, tt)
  name_goes locals others Tables n = (λ other. inl refl, tt)
  name_goes locals others Memories n = (λ other. inl refl, tt)
  name_goes locals others Tags n = (λ other. inl refl, tt)
  name_goes locals others Globals n = (λ other. inl refl, tt)
  name_goes locals others ElementSegments n = (λ other. inl refl, tt)
  name_goes locals others DataSegments n = (λ other. inl refl, tt)
  name_goes locals others Locals n = local_goes (locals n) (name_items others Locals (r Locals n))
  name_goes locals others Labels n = tt

  names_go : (locals others : ℕ → Option ValType) (names : List Name) → Goes (names_items locals names) (names_items others (map (renamed_name r) names))
  names_go locals others [] = tt
  names_go locals others (n ∷ names) =
      goes_both (name_items locals n.0 n.1) (name_items others n.0 (r n.0 n.1)) (names_items locals names) (names_items others (map (renamed_name r) names))
      (name_goes locals others n.0 n.1) (names_go locals others names)

  -- types of blocks name types alone
  index_goes : (locals : ℕ → Option ValType) (i : UnpackedIndex) (ys : List Item) → Goes (names_items locals (index_names i)) ys
  index_goes locals (indices.Module n) ys = (λ other. absurd (other refl), tt)
  index_goes locals (indices.RecGroup n) ys = tt
  index_goes locals (indices.Id id) ys = tt

  heap_goes : (locals : ℕ → Option ValType) (ty : HeapType) (ys : List Item) → Goes (names_items locals (heap_names ty)) ys
  heap_goes locals (Abstract shared ty) ys = tt
  heap_goes locals (Concrete i) ys = index_goes locals i ys
  heap_goes locals (Exact i) ys = index_goes locals i ys

  value_goes : (locals : ℕ → Option ValType) (ty : Written) (ys : List Item) → Goes (names_items locals (value_names ty)) ys
  value_goes locals written.I32 ys = tt
  value_goes locals written.I64 ys = tt
  value_goes locals written.F32 ys = tt
  value_goes locals written.F64 ys = tt
  value_goes locals written.V128 ys = tt
  value_goes locals (written.Ref ty) ys = heap_goes locals ty.heap_type ys

  pub block_goes : (locals : ℕ → Option ValType) (ty : BlockType) (ys : List Item) → Goes (names_items locals (block_names ty)) ys
  block_goes locals blocks.Empty ys = tt
  block_goes locals (blocks.Value ty) ys = value_goes locals ty ys
  block_goes locals (blocks.Type n) ys = (λ other. absurd (other refl), tt)

  pub blocks_go : (locals : ℕ → Option ValType) (tys : List BlockType) (ys : List Item) → Goes (flat_map (λ (ty : BlockType). names_items locals (block_names ty)) tys) ys
  blocks_go locals [] ys = tt
  blocks_go locals (ty ∷ tys) ys =
      all_join (λ (y : Item). IsNoType y → Among (renumbered_item r y) ys) (names_items locals (block_names ty)) (flat_map (λ (ty : BlockType). names_items locals (block_names ty)) tys)
      (block_goes locals ty ys) (blocks_go locals tys ys)

  module _ (renamed : NamesAreRenamed) where
    operator_goes : (locals others : ℕ → Option ValType) (op : Seen) → Goes (names_items locals (operator_names op)) (names_items others (operator_names (renamed_operator r op)))
    operator_goes locals others op =
        subst (λ (ns : List Name). Goes (names_items locals (operator_names op)) (names_items others ns)) (sym (renamed r op)) (names_go locals others (operator_names op))

    pub expr_goes : (ops : Expr) → Goes (expr_items ops) (expr_items (renumbered_expr r ops))
    expr_goes [] = tt
    expr_goes (op ∷ ops) =
        goes_both (names_items no_locals (operator_names op)) (names_items no_locals (operator_names (renamed_operator r op))) (expr_items ops) (expr_items (renumbered_expr r ops))
        (operator_goes no_locals no_locals op) (expr_goes ops)

    pub exprs_go : (es : List Expr) → Goes (flat_map expr_items es) (flat_map expr_items (map (renumbered_expr r) es))
    exprs_go [] = tt
    exprs_go (e ∷ es) = goes_both (expr_items e) (expr_items (renumbered_expr r e)) (flat_map expr_items es) (flat_map expr_items (map (renumbered_expr r) es)) (expr_goes e) (exprs_go es)

    pub init_goes : (o : Option Expr) → Goes (init_items o) (init_items (option_map (renumbered_expr r) o))
    init_goes None = tt
    init_goes (Some e) = expr_goes e

    -- ---- records

    pub own_goes : (brings : ℕ → ℕ) (o : Origin Expr) → Goes (origin_items expr_items o) (origin_items expr_items (renumbered_own r brings (renumbered_expr r) o))
    own_goes brings (Imported i) = tt
    own_goes brings (Own e) = expr_goes e

    pub value_first : (ty : ValType) (other : ValType) (xs ys : List Item) → Goes xs ys → Goes (value_items ty ++ xs) (value_items other ++ ys)
    value_first ty other xs ys h = goes_both (value_items ty) (value_items other) xs ys (types_go (option_to_list (value_name ty)) (value_items other)) h

    pub ref_first : (ty : RefType) (other : RefType) (xs ys : List Item) → Goes xs ys → Goes (ref_items ty ++ xs) (ref_items other ++ ys)
    ref_first ty other xs ys h = goes_both (ref_items ty) (ref_items other) xs ys (types_go (option_to_list (ref_name ty)) (ref_items other)) h

    pub table_goes : (brings : ℕ → ℕ) (t : Table) → Goes (table_items t) (table_items (renumbered_table r brings t))
    table_goes brings t =
        ref_first t.element (renumbered_table r brings t).element (init_items t.init) (init_items (option_map (renumbered_expr r) t.init)) (init_goes t.init)

    table_mode_goes : (mode : Mode) → Goes (mode_items spaces.Table mode) (mode_items spaces.Table (renumbered_mode r Tables mode))
    table_mode_goes (Active n offset) = goes_on (item spaces.Table n) (expr_items offset) (expr_items (renumbered_expr r offset)) (expr_goes offset)
    table_mode_goes Passive = tt
    table_mode_goes Declared = tt

    pub memory_mode_goes : (mode : Mode) → Goes (mode_items spaces.Memory mode) (mode_items spaces.Memory (renumbered_mode r Memories mode))
    memory_mode_goes (Active n offset) = goes_on (item spaces.Memory n) (expr_items offset) (expr_items (renumbered_expr r offset)) (expr_goes offset)
    memory_mode_goes Passive = tt
    memory_mode_goes Declared = tt

    functions_go : (ns : List ℕ) → Goes (map (item spaces.Function) ns) (map (item spaces.Function) (map (r Functions) ns))
    functions_go [] = tt
    functions_go (n ∷ ns) = goes_on (item spaces.Function n) (map (item spaces.Function) ns) (map (item spaces.Function) (map (r Functions) ns)) (functions_go ns)

    held_goes : (items : Elements) → Goes (held_items items) (held_items (renumbered_items r items))
    held_goes (Listed ns) = functions_go ns
    held_goes (Expressions ty es) = goes_both (ref_items ty) _ (flat_map expr_items es) _ (types_go (option_to_list (ref_name ty)) _) (exprs_go es)

    pub element_goes : (e : Element) → Goes (element_items e) (element_items (renumbered_element r e))
    element_goes e =
        goes_both (mode_items spaces.Table e.mode) (mode_items spaces.Table (renumbered_mode r Tables e.mode)) (held_items e.items) (held_items (renumbered_items r e.items))
        (table_mode_goes e.mode) (held_goes e.items)

    -- ---- bodies

    abbrev ops_items : (ℕ → Option ValType) → List Placed → List Item
    ops_items locals ops = flat_map (λ (o : Placed). names_items locals (operator_names o.op)) ops

    ops_go : (locals others : ℕ → Option ValType) (ops : List Placed) → Goes (ops_items locals ops) (ops_items others (map (renumbered_placed r) ops))
    ops_go locals others [] = tt
    ops_go locals others (o ∷ ops) =
        goes_both (names_items locals (operator_names o.op)) (names_items others (operator_names (renamed_operator r o.op))) (ops_items locals ops) (ops_items others (map (renumbered_placed r) ops))
        (operator_goes locals others o.op) (ops_go locals others ops)

    places_aside : (locals : ℕ → Option ValType) (ops : List Placed) → ops_items locals (map unplaced ops) ≡ ops_items locals ops
    places_aside locals [] = refl
    places_aside locals (o ∷ ops) = ap (λ (l : List Item). names_items locals (operator_names o.op) ++ l) (places_aside locals ops)

    body_goes : (locals others : ℕ → Option ValType) (parts tys : List BlockType) (b c : Body) → body_unplaced c ≡ body_unplaced (renumbered_body r b)
        → Goes (body_items locals b.operators parts) (body_items others c.operators tys)
    body_goes locals others parts tys b c same =
        let texts : map unplaced c.operators ≡ map unplaced (map (renumbered_placed r) b.operators) = ap (λ (x : Body). x.operators) same in
        let items : ops_items others (map (renumbered_placed r) b.operators) ≡ ops_items others c.operators =
        sym (places_aside others (map (renumbered_placed r) b.operators)) ∙ sym (ap (λ (l : List Placed). ops_items others l) texts) ∙ places_aside others c.operators in
        goes_both (ops_items locals b.operators) (ops_items others c.operators) (flat_map (λ (ty : BlockType). names_items locals (block_names ty)) parts)
        (flat_map (λ (ty : BlockType). names_items others (block_names ty)) tys)
        (subst (λ (l : List Item). Goes (ops_items locals b.operators) l) items (ops_go locals others b.operators)) (blocks_go locals parts _)

    pub origin_goes : (brings : ℕ → ℕ) (locals others : ℕ → Option ValType) (parts tys : List BlockType) (o q : Origin Body)
        → origin_unplaced q ≡ origin_unplaced (renumbered_own r brings (renumbered_body r) o)
        → Goes (origin_items (λ (b : Body). body_items locals b.operators parts) o) (origin_items (λ (b : Body). body_items others b.operators tys) q)
    origin_goes brings locals others parts tys (Imported i) q same = tt
    origin_goes brings locals others parts tys (Own b) (Imported i) same = absurd cc
    origin_goes brings locals others parts tys (Own b) (Own c) same = body_goes locals others parts tys b c (own_same same)
      where
        own_same : {x y : Body} → (let own : Body → Origin Body = λ x. Own x in own x ≡ own y) → x ≡ y
        own_same e = cc
