-- Lemmas: a body that meets the rules names locals of its function alone, and so does its normal form.
use Rattle.std.specs.Prelude.{ℕ, ◌≡◌, ◌+◌, Bool, true, nat_lt, List, [], ◌∷◌, length, map, Some, None}
use Rattle.std.proofs.lemmas.Bool.{ltb-true}
use Rattle.walrus_named_bodies.specs.walrus_file_bodies.walrus_body_trees.walrus_body_nesting.wasm_body_grammar.Bodies.{frames_of}
use Rattle.walrus_named_bodies.specs.walrus_file_bodies.walrus_body_trees.walrus_body_nesting.wasm_body_grammar.Frames.{Frame, turned}
use Rattle.walrus_named_bodies.specs.walrus_file_bodies.walrus_body_trees.walrus_body_nesting.wasm_body_grammar.Rules.{Around, names_test, room, space_of}
use Rattle.walrus_named_bodies.specs.walrus_file_bodies.walrus_body_trees.walrus_body_nesting.wasm_body_grammar.wasm_formats.Stops.{Index}
use Rattle.walrus_named_bodies.specs.walrus_file_bodies.walrus_body_trees.walrus_body_nesting.wasm_body_grammar.wasm_grammar.Modules as grammar
use Rattle.walrus_named_bodies.specs.walrus_file_bodies.walrus_body_trees.walrus_body_nesting.wasm_body_grammar.wasm_grammar.Values.{must}
use Rattle.walrus_named_bodies.specs.walrus_file_bodies.walrus_body_trees.walrus_body_nesting.wasm_body_grammar.wasm_operators.Items.{Space, Types, Functions, Tables, Memories, Tags, Globals, ElementSegments, DataSegments, Locals, Labels}
use Rattle.walrus_named_bodies.specs.walrus_file_bodies.walrus_body_trees.walrus_body_nesting.wasm_body_grammar.wasm_operators.declared.block_type.BlockType.{BlockType}
use Rattle.walrus_named_bodies.specs.walrus_file_bodies.walrus_items_into.wasm_module_rules.Keeps.{first_none, must_holds}
use Rattle.walrus_named_bodies.specs.walrus_file_bodies.walrus_items_into.walrus_module_bodies.walrus_body_trees.walrus_meaning.walrus_local_function.walrus_body_locals.wasm_normal_form.Bodies.{locals_named}
use Rattle.walrus_named_bodies.specs.walrus_file_bodies.walrus_items_into.walrus_module_bodies.walrus_body_trees.walrus_meaning.walrus_local_function.walrus_body_locals.wasm_normal_form.Normal.{normal_ops}
use Rattle.walrus_named_bodies.specs.walrus_file_bodies.walrus_items_into.walrus_module_bodies.walrus_body_trees.walrus_meaning.walrus_local_function.walrus_body_locals.wasm_normal_form.Roles.{placed}
use Rattle.walrus_named_bodies.specs.walrus_file_bodies.walrus_body_trees.walrus_body_nesting.wasm_body_grammar.wasm_operators.Names.{Name, operator_names}
use Rattle.walrus_named_bodies.specs.walrus_file_bodies.walrus_body_trees.walrus_body_nesting.wasm_body_grammar.wasm_operators.Operators.{flow_of}
use Rattle.wasm_import_links.specs.wasm_ruled_modules.Rules.{AreOperators, IsBody}
use Rattle.walrus_parse_laws.proofs.ListLemmas.{AllOf}
use Rattle.walrus_parse_laws.proofs.LocalsNameLemmas.{Below, LocalBelow, LocalsBelow, NameBelow, items_below, locals_all}
use Rattle.walrus_parse_laws.proofs.LocalsNormalLemmas.{normal_ops_in}
use Rattle.walrus_parse_laws.proofs.RankLemmas.{IsKept, all_named, named_kept, text_back, text_names}
use Rattle.walrus_named_bodies.specs.walrus_file_bodies.walrus_items_into.walrus_module_bodies.walrus_body_trees.walrus_meaning.walrus_local_function.walrus_body_locals.Named.{kept_by}

in_room : (a : Around) (locals labels : ℕ) (space : Space) (n : ℕ) → nat_lt n (room a locals labels space) ≡ true → LocalBelow locals space n
in_room a locals labels Types n e = tt
in_room a locals labels Functions n e = tt
in_room a locals labels Tables n e = tt
in_room a locals labels Memories n e = tt
in_room a locals labels Tags n e = tt
in_room a locals labels Globals n e = tt
in_room a locals labels ElementSegments n e = tt
in_room a locals labels DataSegments n e = tt
in_room a locals labels Locals n e = ltb-true n locals e
in_room a locals labels Labels n e = tt

names_below : (a : Around) (locals labels : ℕ) (names : List Name) → names_test (room a locals labels) names ≡ None → AllOf (NameBelow locals) names
names_below a locals labels [] e = tt
names_below a locals labels (n ∷ names) e =
    let both = first_none (must (nat_lt n.1 (room a locals labels n.0)) (Index (space_of n.0))) (names_test (room a locals labels) names) e in
    (in_room a locals labels n.0 n.1 (must_holds (nat_lt n.1 (room a locals labels n.0)) (Index (space_of n.0)) both.0), names_below a locals labels names both.1)

text_below : (a : Around) (locals : ℕ) (frames : List Frame) (ops : List grammar.Placed) → AreOperators a locals frames ops
    → AllOf (LocalsBelow locals) (map (λ (o : grammar.Placed). placed o.op (Some o.place)) ops)
text_below a locals frames [] h = tt
text_below a locals frames (o ∷ ops) h =
    (items_below locals o.op.items (names_below a locals _ (operator_names o.op) (first_none _ _ h.1).0), text_below a locals (frames_of (turned (flow_of o.op.code) frames) frames) ops h.2)

pub normal_below : (a : Around) (params : ℕ) (pick : BlockType → BlockType) (x : grammar.Body) → IsBody a params x
    → AllOf (Below (params + length x.locals)) (locals_named (normal_ops pick (map (λ (o : grammar.Placed). placed o.op (Some o.place)) x.operators)))
normal_below a params pick x h =
    let total = params + length x.locals in
    let text = map (λ (o : grammar.Placed). placed o.op (Some o.place)) x.operators in
    locals_all (Below total) (normal_ops pick text) (normal_ops_in (Below total) pick text (text_below a total _ x.operators h.operators))

-- of the locals that a body declares those are kept that its operators name, or all
pub normal_kept : (a : Around) (params : ℕ) (pick : BlockType → BlockType) (x : grammar.Body) → IsBody a params x → (all : Bool)
    → AllOf (IsKept params (kept_by all params (length x.locals) (map (λ (o : grammar.Placed). o.op) x.operators))) (locals_named (normal_ops pick (map (λ (o : grammar.Placed). placed o.op (Some o.place)) x.operators)))
normal_kept a params pick x h all =
    let total = params + length x.locals in
    let text = map (λ (o : grammar.Placed). placed o.op (Some o.place)) x.operators in
    let P = IsKept params (kept_by all params (length x.locals) (map (λ (o : grammar.Placed). o.op) x.operators)) in
    let names = text_names (Below total) x.operators (text_below a total _ x.operators h.operators) in
    let kept = all_named P (Below total) _ names (λ n e lt. named_kept all params (length x.locals) (map (λ (o : grammar.Placed). o.op) x.operators) n lt e) in
    locals_all P (normal_ops pick text) (normal_ops_in P pick text (text_back P x.operators kept))
