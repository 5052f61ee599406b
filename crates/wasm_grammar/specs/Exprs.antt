-- Constant expressions (Core Specification, valid expressions: constant expressions; binary format: expressions).
use Rattle.std.specs.Prelude.{ℕ, ◌≡◌, ◌==◌, ◌&&◌, ◌||◌, nat_le, nat_lt, Bool, true, false, List, [], ◌∷◌, ◌++◌, length, Option, Some, None, Err, ◌⊎◌, if◌then◌else◌, slice_index_or, refl}
use Rattle.std.proofs.Common.{ap, sym, ◌∙◌, subst, inl, inr}
use Rattle.wasm_operators.specs.wasm_features.declared.WasmFeatures.{WasmFeatures}
use Rattle.wasm_formats.specs.wasm_reader.declared.error.ErrorKind.TheVariants as kinds
use Rattle.walrus_forms.specs.declared.value.ValType.{ValType}
use Rattle.walrus_forms.specs.declared.value.ValType.TheVariants.{I32, I64}
use Rattle.walrus_forms.specs.declared.value.HeapType.{HeapType}
use Rattle.walrus_forms.specs.Values.{heap_name}
use Rattle.wasm_operators.specs.Items as immediates
use Rattle.wasm_operators.specs.Items.{Item, Names, Heap}
use Rattle.wasm_operators.specs.Readings.{items_at}
use Rattle.wasm_operators.specs.ItemSpellings.{SpellsForms}
use Rattle.wasm_operators.specs.ItemsTaken.{forms_taken}
use Rattle.wasm_operators.specs.ItemFinals.{items_final}
use Rattle.wasm_operators.specs.declared.entry.Kind.{Kind}
use Rattle.wasm_operators.specs.declared.op_code.OpCode.{OpCode}
use Rattle.wasm_operators.specs.Kinds.{forms}
use Rattle.wasm_operators.specs.Operators.{is_prefix, kind_of, code_at, Seen}
use Rattle.wasm_operators.specs.Spellings.{SpellsCode}
use Rattle.wasm_operators.specs.Taken.{code_taken}
use Rattle.wasm_operators.specs.Finals.{code_final}
use Rattle.wasm_formats.specs.declared.fault.Space.TheVariants as spaces
use Rattle.wasm_formats.specs.declared.fault.Form.TheVariants as unsupported
use Rattle.wasm_formats.specs.Stops.{Trouble, Read, Index, Unsupported, ConstExpr, OffsetType, Stop, stop, can_end}
use Rattle.wasm_formats.specs.Formats.{Format, leaf, refused_is}
use Rattle.wasm_formats.specs.Joined.{checked, only, after, built}
use Rattle.wasm_formats.specs.Until.{until}
use Rattle.wasm_grammar.specs.TypeWords.{heap_of}
use Rattle.wasm_grammar.specs.Modules.{Expr, Global}
use Rattle.wasm_grammar.specs.Values.{must, first_of, named_below}

-- the operators of constant expressions: constants, `global.get`, `ref.null`, `ref.func`, sums, differences and products of integers, and
-- the making of structures, arrays and i31 references
abbrev pub constant_byte : ℕ → Bool
constant_byte n = (nat_le 0x41 n && nat_le n 0x44) || n == 0x23 || n == 0xd0 || n == 0xd2 || (nat_le 0x6a n && nat_le n 0x6c) || (nat_le 0x7c n && nat_le n 0x7e)

abbrev pub constant_fb : ℕ → Bool
constant_fb n = nat_le n 1 || (nat_le 6 n && nat_le n 8) || (nat_le 26 n && nat_le n 28)

abbrev pub is_constant : OpCode → Bool
is_constant code =
    (code.prefix == 0 && constant_byte code.number) || (code.prefix == 0xfb && constant_fb code.number) || (code.prefix == 0xfd && code.number == 12)

abbrev pub code : Format OpCode
code = leaf code_at SpellsCode code_taken code_final

-- what follows a code
abbrev pub forms_of : Option Kind → List immediates.Form
forms_of None = []
forms_of (Some kind) = forms kind

abbrev pub items : WasmFeatures → OpCode → Format (List Item)
items features code =
    leaf (items_at features (forms_of (kind_of features code))) (SpellsForms features (forms_of (kind_of features code)))
    (forms_taken features (forms_of (kind_of features code))) (items_final features (forms_of (kind_of features code)))

abbrev pub seen_of : OpCode × List Item → Seen
seen_of p = record { code = p.0; items = p.1 }

pub seen_once : (x y : OpCode × List Item) → seen_of x ≡ seen_of y → x ≡ y
seen_once x y e = ap (λ (s : Seen). (s.code, s.items)) e

-- an operator that may stand there: any other is refused as soon as its code was read
abbrev pub constant : WasmFeatures → Format Seen
constant features = built (after (only code (λ c. must (is_constant c) ConstExpr)) (λ c. items features c)) seen_of seen_once

-- ---- up to the `end`, which is no constant operator

pub end_is_none : (later : List ℕ) (c : OpCode) → SpellsCode (0x0b ∷ later) c → must (is_constant c) ConstExpr ≡ None → ⊥
end_is_none later c (inl h) e =
    let same : c ≡ record { prefix = 0; number = 0x0b } = go c h.1 (head_is c.number later h.2) in
    let e = subst (λ (c : OpCode). must (is_constant c) ConstExpr ≡ None) same e in absurd cc
  where
    head_is : (n : ℕ) (later : List ℕ) → 0x0b ∷ later ≡ n ∷ [] → n ≡ 0x0b
    head_is n later e = cc

    go : (c : OpCode) → c.prefix ≡ 0 → c.number ≡ 0x0b → c ≡ record { prefix = 0; number = 0x0b }
    go c e f = ap (λ (p : ℕ). record { prefix = p; number = c.number }) e ∙ ap (λ (n : ℕ). record { prefix = 0; number = n }) f
end_is_none later c (inr h) e =
    let same : c.prefix ≡ 0x0b = prefix_is c.prefix later h.1 h.2 in
    let no_prefix : true ≡ false = sym (subst (λ (p : ℕ). is_prefix p ≡ true) same h.0) in absurd cc
  where
    prefix_is : (p : ℕ) (later rest : List ℕ) → 0x0b ∷ later ≡ p ∷ rest → p ≡ 0x0b
    prefix_is p later rest e = cc

pub none_is_none : (c : OpCode) → SpellsCode [] c → ⊥
none_is_none c (inl h) = let e = h.2 in absurd cc
none_is_none c (inr h) = let e = h.2 in absurd cc

-- what is in front of the rest of some bytes
pub front_is : (b : ℕ) (front rest later : List ℕ) → b ∷ later ≡ front ++ rest → (front ≡ []) ⊎ ((more : List ℕ) × (front ≡ b ∷ more))
front_is b [] rest later e = inl refl
front_is b (c ∷ front) rest later e = inr (front, head_is c (front ++ rest) e)
  where
    head_is : (c : ℕ) (more : List ℕ) → b ∷ later ≡ c ∷ more → c ∷ front ≡ b ∷ front
    head_is c more e = cc

pub end_apart : (features : WasmFeatures) (later : List ℕ) (op : Seen) → (constant features).spells (0x0b ∷ later) op → ⊥
end_apart features later op h = go h.0 h.2
  where
    go : (p : OpCode × List Item) → (after (only code (λ c. must (is_constant c) ConstExpr)) (λ c. items features c)).spells (0x0b ∷ later) p → ⊥
    go p h = elim (front_is 0x0b h.0 h.1 later h.2) [
      | inl none ↦ none_is_none p.0 (subst (λ (l : List ℕ). SpellsCode l p.0) none h.3.0)
      | inr first ↦ end_is_none first.0 p.0 (subst (λ (l : List ℕ). SpellsCode l p.0) first.1 h.3.0) h.3.1
    ]

pub takes_some : (features : WasmFeatures) (op : Seen) → (constant features).spells [] op → ⊥
takes_some features op h = go h.0 h.2
  where
    front_none : (front rest : List ℕ) → [] ≡ front ++ rest → front ≡ []
    front_none [] rest e = refl
    front_none (c ∷ front) rest e = absurd cc

    go : (p : OpCode × List Item) → (after (only code (λ c. must (is_constant c) ConstExpr)) (λ c. items features c)).spells [] p → ⊥
    go p h = none_is_none p.0 (subst (λ (l : List ℕ). SpellsCode l p.0) (front_none h.0 h.1 h.2) h.3.0)

-- ---- what an operator names is there: so many types, functions, and globals before it

pub record Known : Type 0 where
  pub types : ℕ
  pub functions : ℕ
  pub globals : List (Option Global)

abbrev pub heap_test : Known → Option HeapType → Option Trouble
heap_test k None = Some (Unsupported unsupported.SharedType)
heap_test k (Some ty) = named_below k.types (heap_name ty)

abbrev pub space_test : Known → immediates.Space → ℕ → Option Trouble
space_test k immediates.Types n = must (nat_lt n k.types) (Index spaces.Type)
space_test k immediates.Functions n = must (nat_lt n k.functions) (Index spaces.Function)
space_test k immediates.Globals n = must (nat_lt n (length k.globals)) (Index spaces.Global)
space_test k _ n = None

abbrev pub item_test : Known → Item → Option Trouble
item_test k (Names space n) = space_test k space n
item_test k (Heap ty) = heap_test k (heap_of ty)
item_test k _ = None

abbrev pub items_test : Known → List Item → Option Trouble
items_test k [] = None
items_test k (i ∷ is) = first_of (item_test k i) (items_test k is)

abbrev pub operator : WasmFeatures → Known → Format Seen
operator features k = checked (constant features) (λ op. items_test k op.items)

pub read_wants : (features : WasmFeatures) (k : Known) (s : Stop) → (operator features k).parse [] ≡ Err s → can_end s.trouble ≡ true
unfolding code_at
read_wants features k s e = subst (λ (s : Stop). can_end s.trouble ≡ true) (refused_is {A = Seen × List ℕ} (stop (Read (kinds.EndOfFile 1)) 0) s e) refl

abbrev pub some_operators : Expr → Bool
some_operators [] = false
some_operators (op ∷ ops) = true

-- one or more constant operators up to the `end`
abbrev pub expr : WasmFeatures → Known → Format Expr
expr features k = checked (until 0x0b (operator features k) (end_apart features) (takes_some features) (read_wants features k)) (λ ops. must (some_operators ops) ConstExpr)

-- ---- offsets: one operator has the type of addresses, longer ones pass

abbrev pub is_address : Bool → ValType → Bool
is_address false I32 = true
is_address true I64 = true
is_address _ _ = false

abbrev pub global_is : Bool → Option Global → Bool
global_is wide None = false
global_is wide (Some g) = is_address wide g.ty

abbrev pub names_address : Bool → Known → List Item → Bool
names_address wide k (Names immediates.Globals n ∷ []) = global_is wide (slice_index_or k.globals n None)
names_address wide k _ = false

abbrev pub gives_address : Bool → Known → Seen → Bool
gives_address wide k op =
    (op.code.prefix == 0 && op.code.number == (if wide then 0x42 else 0x41)) || (op.code.prefix == 0 && op.code.number == 0x23 && names_address wide k op.items)

abbrev pub offset_test : Bool → Known → Expr → Option Trouble
offset_test wide k (op ∷ []) = must (gives_address wide k op) OffsetType
offset_test wide k _ = None

abbrev pub offset : WasmFeatures → Bool → Known → Format Expr
offset features wide k = checked (expr features k) (offset_test wide k)
