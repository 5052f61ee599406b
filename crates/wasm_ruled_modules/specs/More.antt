-- Lemmas: expressions that name what is known do so where more is known.
use Rattle.std.specs.Prelude.{ℕ, ◌<◌, ◌≤◌, ◌≡◌, ◌==◌, ◌&&◌, ◌||◌, nat_lt, Bool, true, false, List, [], ◌∷◌, ◌++◌, length, Option, Some, None, slice_index_or, if◌then◌else◌, refl}
use Rattle.std.proofs.Common.{ap, sym, subst, arith, inl, inr}
use Rattle.std.proofs.Math.ListN.{get_or-eq_default}
use Rattle.std.proofs.lemmas.Bool.{cases_lt, lt-ltb, ltb-true}
use Rattle.std.proofs.lemmas.List.{append_assoc, append-nil, length-append, get_or_append_left}
use Rattle.walrus_forms.specs.declared.value.HeapType.{HeapType}
use Rattle.walrus_forms.specs.Values.{heap_name}
use Rattle.wasm_operators.specs.Items as immediates
use Rattle.wasm_operators.specs.Items.{Item, Names, Number, S32, S64, Bits, Byte, Bytes, Heap, Block, Access, ManyLabels, ManyValues, ManyClauses}
use Rattle.wasm_formats.specs.Stops.{Trouble, OffsetType}
use Rattle.wasm_module_rules.specs.wasm_modules.wasm_body_grammar.wasm_grammar.TypeWords.{heap_of}
use Rattle.wasm_module_rules.specs.wasm_modules.wasm_body_grammar.wasm_grammar.Modules.{Expr, Table, Global, Mode, Passive, Declared, Active, Elements, Functions, Expressions, Element, Segment}
use Rattle.wasm_module_rules.specs.wasm_modules.wasm_body_grammar.wasm_grammar.Values.{must, named_below}
use Rattle.wasm_module_rules.specs.wasm_modules.wasm_body_grammar.wasm_grammar.Exprs.{Known, heap_test, space_test, item_test, items_test, global_is, names_address, gives_address, offset_test}
use Rattle.wasm_module_rules.specs.Linked.{Each}
use Rattle.wasm_module_rules.specs.Keeps.{each_later, must_holds, first_none}
use Rattle.wasm_ruled_modules.specs.Rules.{AreKnown, IsExpr, AreExprs, IsInit, own_init, Sees, GlobalsSee, IsPlaced, ItemsKnown}

-- more is known
pub record Grows (k j : Known) : Type 0 where
  pub types : k.types ≤ j.types
  pub functions : k.functions ≤ j.functions
  pub more : List (Option Global)
  pub globals : j.globals ≡ k.globals ++ more

lt_more : (n a b : ℕ) (t : Trouble) → a ≤ b → must (nat_lt n a) t ≡ None → must (nat_lt n b) t ≡ None
lt_more n a b t le e = let lt : n < a = ltb-true n a (must_holds (nat_lt n a) t e) in rw (lt-ltb n b (omega (arith, le, lt))) refl

space_more : (k j : Known) → Grows k j → (space : immediates.Space) (n : ℕ) → space_test k space n ≡ None → space_test j space n ≡ None
space_more k j g immediates.Types n e = lt_more n k.types j.types _ g.types e
space_more k j g immediates.Functions n e = lt_more n k.functions j.functions _ g.functions e
space_more k j g immediates.Tables n e = refl
space_more k j g immediates.Memories n e = refl
space_more k j g immediates.Tags n e = refl
space_more k j g immediates.Globals n e = lt_more n (length k.globals) (length j.globals) _ (omega (arith, ap length g.globals, length-append k.globals g.more)) e
space_more k j g immediates.ElementSegments n e = refl
space_more k j g immediates.DataSegments n e = refl
space_more k j g immediates.Locals n e = refl
space_more k j g immediates.Labels n e = refl

name_more : (a b : ℕ) (o : Option ℕ) → a ≤ b → named_below a o ≡ None → named_below b o ≡ None
name_more a b None le e = refl
name_more a b (Some n) le e = lt_more n a b _ le e

heap_more : (k j : Known) → Grows k j → (o : Option HeapType) → heap_test k o ≡ None → heap_test j o ≡ None
heap_more k j g None e = absurd cc
heap_more k j g (Some ty) e = name_more k.types j.types (heap_name ty) g.types e

item_more : (k j : Known) → Grows k j → (i : Item) → item_test k i ≡ None → item_test j i ≡ None
item_more k j g (Names space n) e = space_more k j g space n e
item_more k j g (Heap ty) e = heap_more k j g (heap_of ty) e
item_more k j g (Number n) e = refl
item_more k j g (S32 z) e = refl
item_more k j g (S64 z) e = refl
item_more k j g (Bits size n) e = refl
item_more k j g (Byte b) e = refl
item_more k j g (Bytes run) e = refl
item_more k j g (Block ty) e = refl
item_more k j g (Access x) e = refl
item_more k j g (ManyLabels ns) e = refl
item_more k j g (ManyValues tys) e = refl
item_more k j g (ManyClauses cs) e = refl

items_more : (k j : Known) → Grows k j → (is : List Item) → items_test k is ≡ None → items_test j is ≡ None
items_more k j g [] e = refl
items_more k j g (i ∷ is) e = let parts = first_none (item_test k i) (items_test k is) e in rw (item_more k j g i parts.0, items_more k j g is parts.1) refl

known_more : (k j : Known) → Grows k j → (ops : Expr) → AreKnown k ops → AreKnown j ops
known_more k j g [] h = tt
known_more k j g (op ∷ ops) h = (h.0, items_more k j g op.items h.1, known_more k j g ops h.2)

pub expr_more : (k j : Known) → Grows k j → (ops : Expr) → IsExpr k ops → IsExpr j ops
expr_more k j g ops h = (known_more k j g ops h.0, h.1)

pub exprs_more : (k j : Known) → Grows k j → (es : List Expr) → AreExprs k es → AreExprs j es
exprs_more k j g [] h = tt
exprs_more k j g (e ∷ es) h = (expr_more k j g e h.0, exprs_more k j g es h.1)

pub init_more : (k j : Known) → Grows k j → (o : Option Expr) → IsInit k o → IsInit j o
init_more k j g None h = tt
init_more k j g (Some e) h = expr_more k j g e h

-- ---- offsets

global_more : (wide : Bool) (xs more : List (Option Global)) (n : ℕ) → global_is wide (slice_index_or xs n None) ≡ true → global_is wide (slice_index_or (xs ++ more) n None) ≡ true
global_more wide xs more n e = elim (cases_lt n (length xs)) [
  | inl lt ↦ rw (get_or_append_left xs more None n lt) e
  | inr le ↦ let e : global_is wide None ≡ true = subst (λ (o : Option Global). global_is wide o ≡ true) (get_or-eq_default xs None le) e in absurd cc
]

names_more : (wide : Bool) (k j : Known) → Grows k j → (is : List Item) → names_address wide k is ≡ true → names_address wide j is ≡ true
names_more wide k j g (Names immediates.Globals n ∷ []) e = rw g.globals (global_more wide k.globals g.more n e)
names_more wide k j g _ e = absurd cc

gives_more : (a p q n m : Bool) → (n ≡ true → m ≡ true) → (a || (p && q && n)) ≡ true → (a || (p && q && m)) ≡ true
gives_more true p q n m f e = refl
gives_more false true true n m f e = f e
gives_more false true false n m f e = e
gives_more false false q n m f e = e

pub offset_more : (wide : Bool) (k j : Known) → Grows k j → (ops : Expr) → offset_test wide k ops ≡ None → offset_test wide j ops ≡ None
offset_more wide k j g [] e = refl
offset_more wide k j g (op ∷ []) e =
    let more : gives_address wide j op ≡ true =
    gives_more (op.code.prefix == 0 && op.code.number == (if wide then 0x42 else 0x41)) (op.code.prefix == 0) (op.code.number == 0x23) (names_address wide k op.items) (names_address wide j op.items)
    (names_more wide k j g op.items) (must_holds (gives_address wide k op) OffsetType e) in
    rw more refl
offset_more wide k j g (op ∷ next ∷ ops) e = refl

placed_more : (wide : ℕ → Bool) (k j : Known) → Grows k j → (mode : Mode) → IsPlaced wide k mode → IsPlaced wide j mode
placed_more wide k j g (Active n offset) h = (expr_more k j g offset h.0, offset_more (wide n) k j g offset h.1)
placed_more wide k j g Passive h = tt
placed_more wide k j g Declared h = tt

items_known_more : (k j : Known) → Grows k j → (items : Elements) → ItemsKnown k items → ItemsKnown j items
items_known_more k j g (Functions ns) h = tt
items_known_more k j g (Expressions ty es) h = exprs_more k j g es h

-- ---- slots

pub tables_more : (k j : Known) → Grows k j → (ts : List (Option Table)) → Each (λ (t : Table). IsInit k t.init) ts → Each (λ (t : Table). IsInit j t.init) ts
tables_more k j g ts h = each_later (λ (t : Table). IsInit k t.init) (λ (t : Table). IsInit j t.init) (λ t p. init_more k j g t.init p) ts h

pub offsets_more : (wide : ℕ → Bool) (k j : Known) → Grows k j → (es : List (Option Element)) → Each (λ (e : Element). IsPlaced wide k e.mode) es → Each (λ (e : Element). IsPlaced wide j e.mode) es
offsets_more wide k j g es h = each_later (λ (e : Element). IsPlaced wide k e.mode) (λ (e : Element). IsPlaced wide j e.mode) (λ e p. placed_more wide k j g e.mode p) es h

pub segments_more : (wide : ℕ → Bool) (k j : Known) → Grows k j → (es : List (Option Segment)) → Each (λ (e : Segment). IsPlaced wide k e.mode) es → Each (λ (e : Segment). IsPlaced wide j e.mode) es
segments_more wide k j g es h = each_later (λ (e : Segment). IsPlaced wide k e.mode) (λ (e : Segment). IsPlaced wide j e.mode) (λ e p. placed_more wide k j g e.mode p) es h

pub lists_more : (k j : Known) → Grows k j → (es : List (Option Element)) → Each (λ (e : Element). ItemsKnown k e.items) es → Each (λ (e : Element). ItemsKnown j e.items) es
lists_more k j g es h = each_later (λ (e : Element). ItemsKnown k e.items) (λ (e : Element). ItemsKnown j e.items) (λ e p. items_known_more k j g e.items p) es h

-- ---- globals

sees_more : (k j : Known) → Grows k j → (o : Option Global) → Sees k o → Sees j o
sees_more k j g None h = tt
sees_more k j g (Some x) h = init_more k j g (own_init x.origin) h

pub globals_more : (t f u v : ℕ) → t ≤ u → f ≤ v → (earlier gs : List (Option Global)) → GlobalsSee t f earlier gs → GlobalsSee u v earlier gs
globals_more t f u v le more earlier [] h = tt
globals_more t f u v le more earlier (x ∷ gs) h = (
  sees_more (record { types = t; functions = f; globals = earlier }) (record { types = u; functions = v; globals = earlier })
      (record { types = le; functions = more; more = []; globals = sym (append-nil earlier) }) x h.0,
  globals_more t f u v le more (earlier ++ x ∷ []) gs h.1,
)

pub globals_push : (t f : ℕ) (earlier gs : List (Option Global)) (x : Option Global) → GlobalsSee t f earlier gs → Sees (record { types = t; functions = f; globals = earlier ++ gs }) x → GlobalsSee t f earlier (gs ++ x ∷ [])
globals_push t f earlier [] x h p = (subst (λ (l : List (Option Global)). Sees (record { types = t; functions = f; globals = l }) x) (append-nil earlier) p, tt)
globals_push t f earlier (y ∷ gs) x h p =
    (h.0, globals_push t f (earlier ++ y ∷ []) gs x h.1 (subst (λ (l : List (Option Global)). Sees (record { types = t; functions = f; globals = l }) x) (sym (append_assoc earlier (y ∷ []) gs)) p))
