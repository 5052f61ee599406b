-- Lemmas: the locals that operators name, once they are renamed.
use Rattle.std.specs.Prelude.{ℕ, ◌≡◌, ◌<◌, ◌≤◌, ◌+◌, ◌==◌, ◌||◌, Bool, false, List, [], ◌∷◌, ◌++◌, map, refl}
use Rattle.std.specs.List.{flat_map}
use Rattle.std.proofs.Common.{ap, sym, ◌∙◌, arith}
use Rattle.std.proofs.lemmas.Bool.{ne_eqb}
use Rattle.std.proofs.lemmas.List.{map-append}
use Rattle.walrus_named_bodies.specs.walrus_file_bodies.walrus_body_trees.walrus_body_nesting.wasm_body_grammar.wasm_operators.Items.{Space, Types, Functions, Tables, Memories, Tags, Globals, ElementSegments, DataSegments, Locals, Labels, Item, Names, Number, S32, S64, Bits, Byte, Bytes, Heap, Block, Access, ManyLabels, ManyValues, ManyClauses}
use Rattle.walrus_named_bodies.specs.walrus_file_bodies.walrus_items_into.walrus_module_bodies.walrus_body_trees.walrus_meaning.walrus_local_function.walrus_body_locals.wasm_normal_form.Bodies.{local_in, locals_named}
use Rattle.walrus_named_bodies.specs.walrus_file_bodies.walrus_items_into.walrus_module_bodies.walrus_body_trees.walrus_meaning.walrus_local_function.walrus_body_locals.wasm_normal_form.Roles.{Placed, placed}
use Rattle.walrus_named_bodies.specs.walrus_file_bodies.walrus_body_trees.walrus_body_nesting.wasm_body_grammar.wasm_operators.Names.{Name, Renaming, item_names, renamed_item, renamed_operator}
use Rattle.walrus_parse_laws.proofs.BodiesNormalLemmas.{all_split}
use Rattle.walrus_parse_laws.proofs.ListLemmas.{AllOf, all_join}
use Rattle.walrus_parse_laws.proofs.KeyLemmas.{eqb_moved, has}

-- ---- operators that are renamed

local_again : (r : Renaming) (x : Item) → local_in (renamed_item r x) ≡ map (r Locals) (local_in x)
local_again r (Names Types n) = refl
local_again r (Names Functions n) = refl
local_again r (Names Tables n) = refl
local_again r (Names Memories n) = refl
local_again r (Names Tags n) = refl
local_again r (Names Globals n) = refl
local_again r (Names ElementSegments n) = refl
local_again r (Names DataSegments n) = refl
local_again r (Names Locals n) = refl
local_again r (Names Labels n) = refl
local_again r (Number n) = refl
local_again r (S32 z) = refl
local_again r (S64 z) = refl
local_again r (Bits size n) = refl
local_again r (Byte b) = refl
local_again r (Bytes run) = refl
local_again r (Heap ty) = refl
local_again r (Block ty) = refl
local_again r (Access a) = refl
local_again r (ManyLabels ns) = refl
local_again r (ManyValues tys) = refl
local_again r (ManyClauses cs) = refl

items_again : (r : Renaming) (xs : List Item) → flat_map local_in (map (renamed_item r) xs) ≡ map (r Locals) (flat_map local_in xs)
items_again r [] = refl
items_again r (x ∷ xs) =
    ap (λ (l : List ℕ). local_in (renamed_item r x) ++ l) (items_again r xs) ∙ ap (λ (l : List ℕ). l ++ map (r Locals) (flat_map local_in xs)) (local_again r x)
    ∙ sym (map-append (r Locals) (local_in x) (flat_map local_in xs))

pub locals_again : (r : Renaming) (ops : List Placed) → locals_named (map (λ (o : Placed). placed (renamed_operator r o.op) o.place) ops) ≡ map (r Locals) (locals_named ops)
locals_again r [] = refl
locals_again r (o ∷ ops) =
    ap (λ (l : List ℕ). flat_map local_in (map (renamed_item r) o.op.items) ++ l) (locals_again r ops)
    ∙ ap (λ (l : List ℕ). l ++ map (r Locals) (locals_named ops)) (items_again r o.op.items)
    ∙ sym (map-append (r Locals) (flat_map local_in o.op.items) (locals_named ops))

-- ---- names that are below a bound

-- a local is below the bound; names of other spaces may be any
abbrev pub LocalBelow : ℕ → Space → ℕ → Type 0
LocalBelow total Locals n = n < total
LocalBelow total space n = Unit {0}

abbrev pub NameBelow : ℕ → Name → Type 0
NameBelow total name = LocalBelow total name.0 name.1

abbrev pub Below : ℕ → ℕ → Type 0
Below total n = n < total

local_below : (total : ℕ) (x : Item) → AllOf (NameBelow total) (item_names x) → AllOf (Below total) (local_in x)
local_below total (Names Types n) h = tt
local_below total (Names Functions n) h = tt
local_below total (Names Tables n) h = tt
local_below total (Names Memories n) h = tt
local_below total (Names Tags n) h = tt
local_below total (Names Globals n) h = tt
local_below total (Names ElementSegments n) h = tt
local_below total (Names DataSegments n) h = tt
local_below total (Names Locals n) h = (h.0, tt)
local_below total (Names Labels n) h = tt
local_below total (Number n) h = tt
local_below total (S32 z) h = tt
local_below total (S64 z) h = tt
local_below total (Bits size n) h = tt
local_below total (Byte b) h = tt
local_below total (Bytes run) h = tt
local_below total (Heap ty) h = tt
local_below total (Block ty) h = tt
local_below total (Access a) h = tt
local_below total (ManyLabels ns) h = tt
local_below total (ManyValues tys) h = tt
local_below total (ManyClauses cs) h = tt

pub items_below : (total : ℕ) (xs : List Item) → AllOf (NameBelow total) (flat_map item_names xs) → AllOf (Below total) (flat_map local_in xs)
items_below total [] h = tt
items_below total (x ∷ xs) h =
    let both = all_split (NameBelow total) (item_names x) (flat_map item_names xs) h in
    all_join (Below total) (local_in x) (flat_map local_in xs) (local_below total x both.0) (items_below total xs both.1)

-- an operator's locals are below the bound
abbrev pub LocalsBelow : ℕ → Placed → Type 0
LocalsBelow total o = AllOf (Below total) (flat_map local_in o.op.items)

-- what holds of all locals of each operator holds of all that are named
pub locals_all : (P : ℕ → Type 0) (ops : List Placed) → AllOf (λ (o : Placed). AllOf P (flat_map local_in o.op.items)) ops → AllOf P (locals_named ops)
locals_all P [] h = tt
locals_all P (o ∷ ops) h = all_join P (flat_map local_in o.op.items) (locals_named ops) h.0 (locals_all P ops h.1)

-- ---- numbers that are all moved

pub has_moved : (first : ℕ) (ns : List ℕ) (k : ℕ) → has (map (λ (n : ℕ). first + n) ns) (first + k) ≡ has ns k
has_moved first [] k = refl
has_moved first (n ∷ ns) k = ap (λ (b : Bool). b || has (map (λ (m : ℕ). first + m) ns) (first + k)) (eqb_moved first n k) ∙ ap (λ (b : Bool). (n == k) || b) (has_moved first ns k)

-- none of them is below the first, or past the last
pub none_before : (first : ℕ) (ns : List ℕ) (k : ℕ) → k < first → has (map (λ (n : ℕ). first + n) ns) k ≡ false
none_before first [] k lt = refl
none_before first (n ∷ ns) k lt = ap (λ (b : Bool). b || has (map (λ (m : ℕ). first + m) ns) k) (ne_eqb (first + n) k (λ e. omega (arith, lt, e))) ∙ none_before first ns k lt

pub none_behind : (first total : ℕ) (ns : List ℕ) (k : ℕ) → AllOf (Below total) ns → first + total ≤ k → has (map (λ (n : ℕ). first + n) ns) k ≡ false
none_behind first total [] k h le = refl
none_behind first total (n ∷ ns) k h le =
    ap (λ (b : Bool). b || has (map (λ (m : ℕ). first + m) ns) k) (let lt = h.0 in ne_eqb (first + n) k (λ e. omega (arith, lt, le, e))) ∙ none_behind first total ns k h.1 le
