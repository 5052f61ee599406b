-- What holds of the normal form of operators that meet the rules: it meets them, too.
use Rattle.std.specs.Prelude.{ℕ, ◌≡◌, List, [], ◌∷◌, map, Option, Some}
use Rattle.std.specs.List.{AllByRecursion}
use Rattle.wasm_ruled_modules.specs.wasm_module_rules.wasm_modules.wasm_body_grammar.Frames.{Plain}
use Rattle.wasm_ruled_modules.specs.wasm_module_rules.wasm_modules.wasm_body_grammar.Rules.{Around}
use Rattle.wasm_ruled_modules.specs.wasm_module_rules.wasm_modules.wasm_body_grammar.wasm_grammar.Modules as grammar
use Rattle.wasm_normal_form.specs.Laws.{IsPick}
use Rattle.wasm_normal_form.specs.Normal.{normal_ops}
use Rattle.wasm_normal_form.specs.Roles.{Placed, placed, Opens, role}
use Rattle.wasm_normal_form.specs.wasm_operators.Items.{Item, Block}
use Rattle.wasm_ruled_modules.specs.Rules.{AreOperators, GroupsBelow}
use Rattle.wasm_run_names.specs.Picks.{block_pick}

-- the operators of a body, each with the place that it carries
abbrev pub text_of : List grammar.Placed → List Placed
text_of ops = map (λ (o : grammar.Placed). placed o.op (Some o.place)) ops

-- an operator at its place, where some number stands for none
abbrev pub located : (Option ℕ → ℕ) → Placed → grammar.Placed
located place o = record { place = place o.place; op = o.op }

-- the pick for a pick is itself
abbrev pub PicksArePicks : Type 0
PicksArePicks = (a : Around) → IsPick (block_pick a)

-- operators that meet the rules meet them in their normal form, in a file whose types name types that are there
abbrev pub NormalOperatorsAreRuled : Type 0
NormalOperatorsAreRuled = (place : Option ℕ → ℕ) (a : Around) (locals : ℕ) (ops : List grammar.Placed) → GroupsBelow 0 a.filled.groups → AreOperators a locals (Plain ∷ []) ops
    → AreOperators a locals (Plain ∷ []) (map (located place) (normal_ops (block_pick a) (text_of ops)))

-- a block type is its own pick
abbrev pub IsPicked : Around → Item → Type 0
IsPicked a (Block ty) = block_pick a ty ≡ ty
IsPicked a _ = Unit {0}

abbrev pub OpensPicked : Around → grammar.Placed → Type 0
OpensPicked a o = role o.op ≡ Opens → AllByRecursion (IsPicked a) o.op.items

-- in a normal form each block type is its pick
abbrev pub BlockTypesArePicked : Type 0
BlockTypesArePicked = (place : Option ℕ → ℕ) (a : Around) (ops : List grammar.Placed)
    → AllByRecursion (OpensPicked a) (map (located place) (normal_ops (block_pick a) (text_of ops)))
