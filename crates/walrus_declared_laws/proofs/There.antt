-- Lemmas: the functions that are wanted of a module that meets the rules are there.
use Rattle.std.specs.Prelude.{ℕ, zero, suc, ◌≡◌, ◌+◌, ◌<◌, nat_lt, List, [], ◌∷◌, ◌++◌, length, Option, Some, None, slice_get, slice_index_or, refl}
use Rattle.std.specs.List.{AllByRecursion}
use Rattle.std.proofs.Common.{ap, subst, ◌∙◌, arith}
use Rattle.std.proofs.lemmas.Bool.{ltb-true}
use Rattle.std.proofs.lemmas.List.{length-map}
use Rattle.std.proofs.lemmas.Option.{none-some, same_Some}
use Rattle.wasm_module_rules.specs.Keeps.{first_none, must_holds}
use Rattle.walrus_types.proofs.Places.{contains_has}
use Rattle.wasm_body_grammar.specs.Bodies.{frames_of}
use Rattle.wasm_body_grammar.specs.Codes.{param_count}
use Rattle.wasm_body_grammar.specs.Frames.{Frame, Plain, label_count, turned}
use Rattle.wasm_body_grammar.specs.Rules.{Around, room}
use Rattle.wasm_formats.specs.Stops.{Index}
use Rattle.wasm_formats.specs.declared.fault.Space.TheVariants as spaces
use Rattle.wasm_grammar.specs.Exprs.{Known, items_test}
use Rattle.wasm_grammar.specs.Modules.{Body, Expr, Function, Global, Imported, Origin, Own, Placed}
use Rattle.wasm_grammar.specs.States.{types_of}
use Rattle.wasm_grammar.specs.Values.{must}
use Rattle.wasm_module_rules.specs.Linked.{Each}
use Rattle.wasm_operators.specs.Items.{Functions, Names}
use Rattle.wasm_operators.specs.Names.{operator_names}
use Rattle.wasm_operators.specs.Operators.{Seen, flow_of, op_code}
use Rattle.wasm_part.specs.Order.{BodyRefers, InitRefers, IsReference, Wants}
use Rattle.wasm_ruled_modules.specs.Rules.{AreKnown, AreOperators, GlobalsSee, HasBody, IsInit, OriginRuled, around_bodies, bare_slot, own_init}
use Rattle.wasm_ruled_normal.proofs.Tests.{Within, names_within, passes}
use Rattle.walrus_declared_laws.specs.Wanted.{WantedAreThere}

each_at : {A : Type 0} (P : A → Type 0) (xs : List (Option A)) (k : ℕ) (x : A) → Each P xs → slice_index_or xs k None ≡ Some x → P x
each_at P [] k x all at = absurd (none-some x at)
each_at P (None ∷ xs) zero x all at = absurd (none-some x at)
each_at P (Some y ∷ xs) zero x all at = subst P (same_Some y x at) all.0
each_at P (None ∷ xs) (suc k) x all at = each_at P xs k x all at
each_at P (Some y ∷ xs) (suc k) x all at = each_at P xs k x all.1 at

-- ---- bodies

ops_there : (a : Around) (n locals : ℕ) (frames : List Frame) (ops : List Placed) (j : ℕ) (o : Placed) → AreOperators a locals frames ops → slice_get ops j ≡ Some o → IsReference n o.op
    → n < length a.filled.functions
ops_there a n locals frames [] j o h at is = absurd (none-some o at)
ops_there a n locals frames (p ∷ ops) zero o h at is =
    let op : p.op ≡ record { code = op_code 0 0xd2; items = Names Functions n ∷ [] } = ap (λ (x : Placed). x.op) (same_Some p o at) ∙ is in
    let rooms = room a locals (label_count (flow_of p.op.code) frames) in
    let all : AllByRecursion (Within rooms) (operator_names p.op) = names_within rooms (operator_names p.op) (passes a locals frames p.op h.1).named in
    let one : AllByRecursion (Within rooms) ((Functions, n) ∷ []) = subst (λ (x : Seen). AllByRecursion (Within rooms) (operator_names x)) op all in
    ltb-true n (rooms Functions) one.0
ops_there a n locals frames (p ∷ ops) (suc j) o h at is = ops_there a n locals (frames_of (turned (flow_of p.op.code) frames) frames) ops j o h.2 at is

body_there : (a : Around) (n params : ℕ) (o : Origin Body) → OriginRuled a params o → BodyRefers n o → n < length a.filled.functions
body_there a n params (Imported i) ruled h = absurd h
body_there a n params (Own x) ruled (o, c, is) = let at = contains_has x.operators o c in ops_there a n (params + length x.locals) (Plain ∷ []) x.operators at.0 o ruled.operators at.1 is

-- ---- initialisers

known_at : (k : Known) (ops : Expr) (j : ℕ) (op : Seen) → AreKnown k ops → slice_get ops j ≡ Some op → items_test k op.items ≡ None
known_at k [] j op h at = absurd (none-some op at)
known_at k (x ∷ ops) zero op h at = subst (λ (y : Seen). items_test k y.items ≡ None) (same_Some x op at) h.1
known_at k (x ∷ ops) (suc j) op h at = known_at k ops j op h.2 at

names_there : (k : Known) (n : ℕ) → items_test k (Names Functions n ∷ []) ≡ None → n < k.functions
names_there k n e = ltb-true n k.functions (must_holds (nat_lt n k.functions) (Index spaces.Function) (first_none (must (nat_lt n k.functions) (Index spaces.Function)) None e).0)

init_there : (k : Known) (n : ℕ) (o : Origin Expr) → IsInit k (own_init o) → InitRefers n o → n < k.functions
init_there k n (Imported i) known h = absurd h
init_there k n (Own e) known (op, c, is) =
    let at = contains_has e op c in
    names_there k n (subst (λ (y : Seen). items_test k y.items ≡ None) is (known_at k e at.0 op known.0 at.1))

globals_at : (types functions : ℕ) (earlier gs : List (Option Global)) (j : ℕ) (g : Global) → GlobalsSee types functions earlier gs → slice_index_or gs j None ≡ Some g
    → (k : Known) × (k.functions ≡ functions) × IsInit k (own_init g.origin)
globals_at types functions earlier [] j g h at = absurd (none-some g at)
globals_at types functions earlier (None ∷ gs) zero g h at = absurd (none-some g at)
globals_at types functions earlier (Some x ∷ gs) zero g h at =
    (record { types = types; functions = functions; globals = earlier }, refl, subst (λ (y : Global). IsInit (record { types = types; functions = functions; globals = earlier }) (own_init y.origin)) (same_Some x g at) h.0)
globals_at types functions earlier (x ∷ gs) (suc j) g h at = globals_at types functions (earlier ++ x ∷ []) gs j g h.1 at

pub wanted_there : WantedAreThere
wanted_there features counted m p rules n (Wants.body k f c at h) =
    let a : Around = around_bodies features counted m in
    let lt = body_there a n (param_count a.filled f.ty) f.origin (each_at (λ (x : Function). HasBody a x) m.functions k f rules.bodies at) h in
    let many = length-map m.functions bare_slot in
    omega (arith, lt, many)
wanted_there features counted m p rules n (Wants.init k g c at h) =
    let s = globals_at (length (types_of m)) (length m.functions) [] m.globals k g rules.expressed.globals at in
    let lt = init_there s.0 n g.origin s.2 h in
    let functions = s.1 in
    omega (arith, lt, functions)
