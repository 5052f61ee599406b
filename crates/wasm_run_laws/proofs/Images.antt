-- A module beside another that holds some of its functions in normal form and renamed: what stands for what.
use Rattle.std.proofs.Common.{ℕ, ◌≡◌, Bool, false, List, [], ◌∷◌, ◌++◌, map, refl, sym, ap, ◌∙◌, ◌⊎◌}
use Rattle.std.specs.Prelude.{Option, Some, None}
use Rattle.std.specs.List.{flat_map}
use Rattle.std.proofs.lemmas.List.{map-append}
use Rattle.wasm_operators.specs.declared.block_type.BlockType.{BlockType}
use Rattle.wasm_operators.specs.declared.clause.Clause.{Clause}
use Rattle.wasm_operators.specs.declared.clause.Clause.TheVariants as clauses
use Rattle.wasm_operators.specs.Items.{Space, Functions, Labels, Item, ManyClauses}
use Rattle.wasm_operators.specs.Operators.{Seen, flow_of}
use Rattle.wasm_operators.specs.Names.{Name, Renaming, operator_names, renamed_operator, renamed_item, renamed_clause}
use Rattle.wasm_operators.specs.NameLaws.{renamed_name}
use Rattle.wasm_operators.specs.Renamed.{names_are_renamed}
use Rattle.wasm_normal_form.specs.Trees.{Tree, Close, Arm, Skip, Run, Nest}
use Rattle.wasm_normal_form.specs.Normal.{with_pick, picked, normal_from}
use Rattle.wasm_runs.specs.Programs.{Code, nested, label_in, labels_of, function_in, functions_of, callee_of, clauses_in, clauses_of}
use Rattle.wasm_runs.specs.Frames.{Handler, clause_handler, passed_by, passed}

pub each_is : {A : Type 0} (f : A → A) → ((x : A) → f x ≡ x) → (xs : List A) → map f xs ≡ xs
each_is f h [] = refl
each_is {A} f h (x ∷ xs) = ap (λ (y : A). y ∷ map f xs) (h x) ∙ ap (λ (ys : List A). x ∷ ys) (each_is f h xs)

-- ---- what renamed operators name

label_same : (r : Renaming) → ((k : ℕ) → r Labels k ≡ k) → (space : Space) (k : ℕ) → label_in space (r space k) ≡ label_in space k
label_same r fixed Labels k = ap (λ (k : ℕ). k ∷ []) (fixed k)
label_same r fixed _ k = refl

labels_same_in : (r : Renaming) → ((k : ℕ) → r Labels k ≡ k) → (ns : List Name) → flat_map (λ (n : Name). label_in n.0 n.1) (map (renamed_name r) ns) ≡ flat_map (λ (n : Name). label_in n.0 n.1) ns
labels_same_in r fixed [] = refl
labels_same_in r fixed (n ∷ ns) =
    ap (λ (l : List ℕ). l ++ flat_map (λ (n : Name). label_in n.0 n.1) (map (renamed_name r) ns)) (label_same r fixed n.0 n.1) ∙ ap (λ (l : List ℕ). label_in n.0 n.1 ++ l) (labels_same_in r fixed ns)

pub labels_same : (r : Renaming) → ((k : ℕ) → r Labels k ≡ k) → (o : Seen) → labels_of (renamed_operator r o) ≡ labels_of o
labels_same r fixed o = ap (λ (ns : List Name). flat_map (λ (n : Name). label_in n.0 n.1) ns) (names_are_renamed r o) ∙ labels_same_in r fixed (operator_names o)

function_renamed : (r : Renaming) (space : Space) (k : ℕ) → function_in space (r space k) ≡ map (r Functions) (function_in space k)
function_renamed r Functions k = refl
function_renamed r _ k = refl

functions_renamed_in : (r : Renaming) (ns : List Name) → flat_map (λ (n : Name). function_in n.0 n.1) (map (renamed_name r) ns) ≡ map (r Functions) (flat_map (λ (n : Name). function_in n.0 n.1) ns)
functions_renamed_in r [] = refl
functions_renamed_in r (n ∷ ns) =
    ap (λ (l : List ℕ). l ++ flat_map (λ (n : Name). function_in n.0 n.1) (map (renamed_name r) ns)) (function_renamed r n.0 n.1)
    ∙ ap (λ (l : List ℕ). map (r Functions) (function_in n.0 n.1) ++ l) (functions_renamed_in r ns)
    ∙ sym (map-append (r Functions) (function_in n.0 n.1) (flat_map (λ (n : Name). function_in n.0 n.1) ns))

pub functions_renamed : (r : Renaming) (o : Seen) → functions_of (renamed_operator r o) ≡ map (r Functions) (functions_of o)
functions_renamed r o = ap (λ (ns : List Name). flat_map (λ (n : Name). function_in n.0 n.1) ns) (names_are_renamed r o) ∙ functions_renamed_in r (operator_names o)

pub passed_same : (r : Renaming) → ((k : ℕ) → r Labels k ≡ k) → (o : Seen) → passed (renamed_operator r o) ≡ passed o
passed_same r fixed o = ap (passed_by (flow_of o.code)) (labels_same r fixed o)

clause_same : (r : Renaming) → ((k : ℕ) → r Labels k ≡ k) → (c : Clause) → clause_handler (renamed_clause r c) ≡ clause_handler c
clause_same r fixed (clauses.Catch tag label) = ap (λ (k : ℕ). clause_handler (clauses.Catch tag k)) (fixed label)
clause_same r fixed (clauses.CatchRef tag label) = ap (λ (k : ℕ). clause_handler (clauses.Catch tag k)) (fixed label)
clause_same r fixed (clauses.CatchAll label) = ap (λ (k : ℕ). clause_handler (clauses.CatchAll k)) (fixed label)
clause_same r fixed (clauses.CatchAllRef label) = ap (λ (k : ℕ). clause_handler (clauses.CatchAll k)) (fixed label)

clauses_same_in : (r : Renaming) → ((k : ℕ) → r Labels k ≡ k) → (cs : List Clause) → map clause_handler (map (renamed_clause r) cs) ≡ map clause_handler cs
clauses_same_in r fixed [] = refl
clauses_same_in r fixed (c ∷ cs) =
    ap (λ (h : Handler). h ∷ map clause_handler (map (renamed_clause r) cs)) (clause_same r fixed c) ∙ ap (λ (hs : List Handler). clause_handler c ∷ hs) (clauses_same_in r fixed cs)

item_clauses : (r : Renaming) (pick : BlockType → BlockType) → ((k : ℕ) → r Labels k ≡ k) → (x : Item) → map clause_handler (clauses_in (renamed_item r (with_pick pick x))) ≡ map clause_handler (clauses_in x)
item_clauses r pick fixed (ManyClauses cs) = clauses_same_in r fixed cs
item_clauses r pick fixed _ = refl

items_clauses : (r : Renaming) (pick : BlockType → BlockType) → ((k : ℕ) → r Labels k ≡ k) → (xs : List Item)
    → map clause_handler (flat_map clauses_in (map (renamed_item r) (map (with_pick pick) xs))) ≡ map clause_handler (flat_map clauses_in xs)
items_clauses r pick fixed [] = refl
items_clauses r pick fixed (x ∷ xs) =
    map-append clause_handler (clauses_in (renamed_item r (with_pick pick x))) (flat_map clauses_in (map (renamed_item r) (map (with_pick pick) xs)))
    ∙ ap (λ (hs : List Handler). hs ++ map clause_handler (flat_map clauses_in (map (renamed_item r) (map (with_pick pick) xs)))) (item_clauses r pick fixed x)
    ∙ ap (λ (hs : List Handler). map clause_handler (clauses_in x) ++ hs) (items_clauses r pick fixed xs)
    ∙ sym (map-append clause_handler (clauses_in x) (flat_map clauses_in xs))

pub handlers_same : (r : Renaming) (pick : BlockType → BlockType) → ((k : ℕ) → r Labels k ≡ k) → (o : Seen) → map clause_handler (clauses_of (renamed_operator r (picked pick o))) ≡ map clause_handler (clauses_of o)
handlers_same r pick fixed o = items_clauses r pick fixed o.items

-- ---- trees

-- with other operators, and without places
abbrev pub mapped_tree : (Seen → Seen) → Tree → Tree
mapped_tree f (Close o p) = Close (f o) None
mapped_tree f (Arm o p t) = Arm (f o) None (mapped_tree f t)
mapped_tree f (Skip o p t) = Skip (f o) None (mapped_tree f t)
mapped_tree f (Run o p t) = Run (f o) None (mapped_tree f t)
mapped_tree f (Nest o p u t) = Nest (f o) None (mapped_tree f u) (mapped_tree f t)

-- with its operators renamed
abbrev pub renamed_tree : Renaming → Tree → Tree
renamed_tree r t = mapped_tree (renamed_operator r) t

-- each operator that may be executed is of Q
abbrev pub AllOf : (Seen → Type 0) → Tree → Type 0
AllOf Q (Close o p) = Unit {0}
AllOf Q (Arm o p t) = AllOf Q t
AllOf Q (Skip o p t) = AllOf Q t
AllOf Q (Run o p t) = Q o × AllOf Q t
AllOf Q (Nest o p u t) = Q o × AllOf Q u × AllOf Q t

-- ---- two modules

-- the numbers of functions, the names in each, and what stands in traces
pub record Images (E : Type 0) : Type 0 where
  pub here : Code E
  pub there : Code E
  pub function : ℕ → ℕ
  pub items : ℕ → Renaming
  pub pick : BlockType → BlockType
  pub entry : E → E
  pub labels : (f k : ℕ) → items f Labels k ≡ k
  pub picks : (f : ℕ) (o : Seen) → entry (here.entry f (picked pick o)) ≡ entry (here.entry f o)

-- both call functions that stand for each other, or functions without a body
abbrev pub SameCallee : {E : Type 0} → (ℕ → Type 0) → Images E → Option ℕ → Option ℕ → Type 0
SameCallee P i None None = Unit {0}
SameCallee P i None (Some h) = ⊥
SameCallee P i (Some g) None = ⊥
SameCallee P i (Some g) (Some h) = (P g × (h ≡ i.function g)) ⊎ ((i.here.body g ≡ None) × (i.there.body h ≡ None))

pub record Good {E : Type 0} (P : ℕ → Type 0) (i : Images E) (f : ℕ) (o : Seen) : Type 0 where
  pub calls : SameCallee P i (callee_of o) (callee_of (renamed_operator (i.items f) o))
  pub shows : i.there.entry (i.function f) (renamed_operator (i.items f) o) ≡ i.entry (i.here.entry f o)

-- the tree that stands for one; `bare`: it is in the first part of an `if` without `else`
abbrev pub image : {E : Type 0} → Images E → ℕ → Tree → Bool → Tree
image i f t bare = renamed_tree (i.items f) (normal_from i.pick t bare false)

abbrev pub IsGood : {E : Type 0} → (ℕ → Type 0) → Images E → ℕ → Tree → Bool → Type 0
IsGood P i f t bare = AllOf (Good P i f) (normal_from i.pick t bare false)

-- the body of function g, and of the one that stands for it
abbrev pub SameBody : {E : Type 0} → (ℕ → Type 0) → Images E → ℕ → Option (List Seen) → Option (List Seen) → Type 0
SameBody P i g None None = Unit {0}
SameBody P i g None (Some ops) = ⊥
SameBody P i g (Some ops) None = ⊥
SameBody P i g (Some ops) (Some others) = (nested others ≡ image i g (nested ops) false) × IsGood P i g (nested ops) false

abbrev pub SameBodies : {E : Type 0} → (ℕ → Type 0) → Images E → Type 0
SameBodies P i = (g : ℕ) → P g → SameBody P i g (i.here.body g) (i.there.body (i.function g))
