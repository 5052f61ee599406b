-- Constant expressions and globals as they are read.
use Rattle.std.specs.Prelude.{ℕ, ◌<◌, ◌≤◌, ◌≡◌, ◌==◌, true, false, Bool, slice_index_or, List, [], ◌∷◌, map, length, Option, Some, None, refl}
use Rattle.std.proofs.Common.{arith}
use Rattle.std.proofs.lemmas.Bool.{eqb-true}
use Rattle.std.proofs.lemmas.List.{get_or-map, length-map}
use Rattle.std.proofs.Math.ListN.{get_or-eq_default}
use Rattle.wasm_grammar.specs.wasm_formats.Stops.{OffsetType}
use Rattle.wasm_grammar.specs.Values.{must}
use Rattle.std.specs.Global.{Vec}
use Rattle.walrus_forms.specs.Records.{value_of}
use Rattle.wasm_grammar.specs.Modules.{Expr, Origin, Imported, Own}
use Rattle.wasm_grammar.specs.Exprs as grammar
use Rattle.wasm_grammar.specs.Modules as module_grammar
use Rattle.walrus_operators.specs.declared.operator.Operator.{Operator}
use Rattle.walrus_operators.specs.Operators.{seen}
use Rattle.walrus_section_values.specs.declared.globals.Global.{Global}
use Rattle.walrus_section_values.specs.declared.globals.GlobalOrigin.{GlobalOrigin}
use Rattle.walrus_section_values.specs.declared.globals.GlobalOrigin.TheVariants as origins
use Rattle.walrus_section_values.specs.declared.exprs.Known.{Known}

-- the operators of a constant expression
abbrev pub expr_of : Vec Operator → Expr
expr_of operators = map seen operators.items

abbrev pub origin_of : GlobalOrigin → Origin Expr
origin_of (origins.Import n) = Imported n
origin_of (origins.Own operators) = Own (expr_of operators)

abbrev pub global_of : Global → module_grammar.Global
global_of g = record { ty = value_of g.ty; mutable = g.mutable; origin = origin_of g.origin }

abbrev pub known_of : Known → grammar.Known
known_of k = record { types = k.types; functions = k.functions; globals = map (λ (g : Global). Some (global_of g)) k.globals.now }

-- Lemma: where operators were read, some were
pub some_operators_are : (operators : List Operator) → (length operators == 0) ≡ false → grammar.some_operators (map seen operators) ≡ true
some_operators_are [] none = absurd cc
some_operators_are (op ∷ operators) some = refl

pub no_operators_are : (operators : List Operator) → (length operators == 0) ≡ true → grammar.some_operators (map seen operators) ≡ false
no_operators_are [] none = refl
no_operators_are (op ∷ operators) some = absurd (omega (arith, eqb-true (length (op ∷ operators)) 0 some))

abbrev slot_of : Global → Option module_grammar.Global
slot_of g = Some (global_of g)

-- Lemmas: the global of a number
pub global_there : (gs : List Global) (n : ℕ) (d : Global) → n < length gs → slice_index_or (map (λ (g : Global). Some (global_of g)) gs) n None ≡ Some (global_of (slice_index_or gs n d))
global_there gs n d lt = get_or-map slot_of gs n d None lt

pub global_missing : (gs : List Global) (n : ℕ) → length gs ≤ n → slice_index_or (map (λ (g : Global). Some (global_of g)) gs) n None ≡ None
global_missing gs n le = get_or-eq_default (map slot_of gs) None (omega (arith, le, length-map gs slot_of))

-- Lemmas: the test of an offset
pub one_offset : (wide : Bool) (k : grammar.Known) (operators : List Operator) (d : Operator) → length operators ≡ 1
    → grammar.offset_test wide k (map seen operators) ≡ must (grammar.gives_address wide k (seen (slice_index_or operators 0 d))) OffsetType
one_offset wide k [] d e = absurd (omega (arith, e))
one_offset wide k (op ∷ []) d e = refl
one_offset wide k (op ∷ other ∷ operators) d e = absurd (omega (arith, e))

pub other_offset : (wide : Bool) (k : grammar.Known) (operators : List Operator) → (length operators == 1) ≡ false → grammar.offset_test wide k (map seen operators) ≡ None
other_offset wide k [] e = refl
other_offset wide k (op ∷ []) e = absurd cc
other_offset wide k (op ∷ other ∷ operators) e = refl
