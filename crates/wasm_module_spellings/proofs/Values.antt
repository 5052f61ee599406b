-- Lemmas: values that meet the rules of a module meet those of their formats.
use Rattle.std.specs.Prelude.{ℕ, ◌<◌, ◌≡◌, nat_lt, Bool, true, false, List, [], ◌∷◌, length, Option, Some, None, IfSome, refl}
use Rattle.std.proofs.lemmas.Bool.{lt-ltb}
use Rattle.wasm_features.specs.declared.WasmFeatures.{WasmFeatures}
use Rattle.walrus_forms.specs.declared.value.RefType.{RefType}
use Rattle.walrus_forms.specs.declared.value.ValType.{ValType}
use Rattle.walrus_forms.specs.Values.{heap_name, value_name}
use Rattle.walrus_forms.specs.Renaming.{RefBelow, ValueBelow}
use Rattle.wasm_formats.specs.Stops.{Trouble}
use Rattle.wasm_formats.specs.Bytes.{either_type}
use Rattle.wasm_formats.specs.Lists.{EntryRules}
use Rattle.wasm_formats.specs.Until.{UntilRules}
use Rattle.wasm_formats.specs.declared.fault.Space.{Space}
use Rattle.wasm_formats.specs.declared.fault.Space.TheVariants as spaces
use Rattle.wasm_grammar.specs.Modules.{Expr}
use Rattle.wasm_grammar.specs.Values.{must, first_of, named_below, index, ref_type, value_type}
use Rattle.wasm_grammar.specs.Exprs.{Known, operator, end_apart, takes_some, read_wants, some_operators, expr, offset_test, offset}
use Rattle.wasm_grammar.specs.States.{State, count_of, most, has_room, room_test}
use Rattle.wasm_sections.specs.Segments.{pass, functions}
use Rattle.wasm_module_rules.specs.Linked.{AllBelow}
use Rattle.wasm_ruled_modules.specs.Rules.{AreKnown, IsExpr, AreExprs}

pub must_pass : (b : Bool) (t : Trouble) → b ≡ true → must b t ≡ None
must_pass b t e = rw e refl

pub below_passes : (n count : ℕ) (t : Trouble) → n < count → must (nat_lt n count) t ≡ None
below_passes n count t lt = must_pass (nat_lt n count) t (lt-ltb n count lt)

pub first_passes : (a b : Option Trouble) → a ≡ None → b ≡ None → first_of a b ≡ None
first_passes a b e f = rw (e, f) refl

-- ---- where there is room

pub room_passes : (s : State) (space : Space) → count_of s.filled space < most space → room_test s space ≡ None
room_passes s space lt = below_passes (count_of s.filled space) (most space) _ lt

pub with_room : {P : Type 0} (s : State) (space : Space) → count_of s.filled space < most space → P → either_type (has_room s space) P ⊥
with_room {P} s space lt p = go (has_room s space) (lt-ltb (count_of s.filled space) (most space) lt)
  where
    go : (room : Bool) → room ≡ true → either_type room P ⊥
    go true e = p
    go false e = absurd cc

-- ---- types and indices

named_passes : (types : ℕ) (o : Option ℕ) → IfSome o (λ n. n < types) → named_below types o ≡ None
named_passes types None h = refl
named_passes types (Some n) h = below_passes n types _ h

pub ref_ruled : (features : WasmFeatures) (types : ℕ) (ty : RefType) → RefBelow types ty → (ref_type features types).rules ty
ref_ruled features types ty h = ((λ x e. tt), named_passes types (heap_name ty.heap_type) h)

pub value_ruled : (features : WasmFeatures) (types : ℕ) (ty : ValType) → ValueBelow types ty → (value_type features types).rules ty
value_ruled features types ty h = ((λ x e. tt), named_passes types (value_name ty) h)

pub index_ruled : (space : Space) (count n : ℕ) → n < count → (index space count).rules n
index_ruled space count n lt = (tt, below_passes n count _ lt)

pub functions_ruled : (s : State) (ns : List ℕ) → AllBelow (length s.filled.functions) ns → (functions s).rules ns
functions_ruled s [] h = tt
functions_ruled s (n ∷ ns) h = (index_ruled spaces.Function (length s.filled.functions) n h.0, functions_ruled s ns h.1)

-- ---- constant expressions

until_ruled : (features : WasmFeatures) (k : Known) (ops : Expr) → AreKnown k ops → UntilRules 0x0b (operator features k) (end_apart features) (takes_some features) (read_wants features k) ops
until_ruled features k [] h = tt
until_ruled features k (op ∷ ops) h = (((λ p e. (tt, tt)), h.1), until_ruled features k ops h.2)

pub expr_ruled : (features : WasmFeatures) (k : Known) (ops : Expr) → IsExpr k ops → (expr features k).rules ops
expr_ruled features k ops h = (until_ruled features k ops h.0, must_pass (some_operators ops) _ h.1)

pub offset_ruled : (features : WasmFeatures) (wide : Bool) (k : Known) (ops : Expr) → IsExpr k ops → offset_test wide k ops ≡ None → (offset features wide k).rules ops
offset_ruled features wide k ops h e = (expr_ruled features k ops h, e)

pub exprs_ruled : (features : WasmFeatures) (k : Known) (es : List Expr) → AreExprs k es → EntryRules pass (λ _. expr features k) tt es
exprs_ruled features k [] h = tt
exprs_ruled features k (e ∷ es) h = (expr_ruled features k e h.0, exprs_ruled features k es h.1)
