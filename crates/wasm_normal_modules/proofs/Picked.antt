-- Lemmas: a block type that is its own pick goes to one that is, where types are sent in their order.
use Rattle.std.specs.Prelude.{ℕ, ◌≡◌, ◌+◌, Bool, List, [], ◌∷◌, length, map, Option, None, refl}
use Rattle.std.specs.List.{AllByRecursion, flat_map}
use Rattle.std.specs.Option.{option_map}
use Rattle.std.proofs.Common.{ap, ◌∙◌}
use Rattle.std.proofs.lemmas.Bool.{ltb-true}
use Rattle.wasm_ruled_renamed.specs.wasm_ruled_normal.wasm_ruled_modules.wasm_module_rules.wasm_modules.wasm_body_grammar.wasm_grammar.walrus_forms.Records.{TypeGroup}
use Rattle.wasm_ruled_renamed.specs.wasm_ruled_normal.wasm_ruled_modules.wasm_module_rules.wasm_modules.wasm_body_grammar.wasm_grammar.walrus_forms.Renaming.{renamed_value}
use Rattle.wasm_ruled_renamed.specs.wasm_ruled_normal.wasm_ruled_modules.wasm_module_rules.wasm_modules.wasm_body_grammar.Bodies.{frames_of}
use Rattle.wasm_ruled_renamed.specs.wasm_ruled_normal.wasm_ruled_modules.wasm_module_rules.wasm_modules.wasm_body_grammar.Codes.{param_count}
use Rattle.wasm_ruled_renamed.specs.wasm_ruled_normal.wasm_ruled_modules.wasm_module_rules.wasm_modules.wasm_body_grammar.Frames.{Frame, Plain, label_count, turned}
use Rattle.wasm_ruled_renamed.specs.wasm_ruled_normal.wasm_ruled_modules.wasm_module_rules.wasm_modules.wasm_body_grammar.Rules.{Around, first_in, form_rule, room}
use Rattle.wasm_ruled_renamed.specs.wasm_ruled_normal.wasm_ruled_modules.wasm_module_rules.wasm_modules.wasm_body_grammar.wasm_formats.wasm_features.declared.WasmFeatures.{WasmFeatures}
use Rattle.wasm_ruled_renamed.specs.wasm_ruled_normal.wasm_ruled_modules.wasm_module_rules.wasm_modules.wasm_body_grammar.wasm_grammar.Modules as grammar
use Rattle.wasm_ruled_renamed.specs.wasm_ruled_normal.wasm_ruled_modules.wasm_module_rules.wasm_modules.wasm_body_grammar.wasm_grammar.Modules.{Imported, Own, Origin, Body, Function, Module}
use Rattle.wasm_ruled_renamed.specs.wasm_ruled_normal.wasm_ruled_modules.wasm_module_rules.wasm_modules.wasm_body_grammar.wasm_grammar.States.{types_of}
use Rattle.wasm_ruled_renamed.specs.wasm_ruled_normal.wasm_ruled_modules.wasm_module_rules.wasm_modules.wasm_body_grammar.wasm_operators.Names.{Renaming, item_names, operator_names, renamed_block, renamed_item}
use Rattle.wasm_ruled_renamed.specs.wasm_ruled_normal.wasm_ruled_modules.wasm_module_rules.wasm_modules.wasm_body_grammar.wasm_operators.Items.{Item, Types, Names, Number, S32, S64, Bits, Byte, Bytes, Heap, Block, Access, ManyLabels, ManyValues, ManyClauses}
use Rattle.wasm_ruled_renamed.specs.wasm_ruled_normal.wasm_ruled_modules.wasm_module_rules.wasm_modules.wasm_body_grammar.wasm_operators.declared.block_type.BlockType.TheVariants as blocks
use Rattle.wasm_ruled_renamed.specs.wasm_ruled_normal.wasm_ruled_modules.wasm_module_rules.wasm_modules.wasm_body_grammar.wasm_operators.Operators.{flow_of}
use Rattle.wasm_ruled_renamed.specs.wasm_ruled_normal.wasm_ruled_modules.wasm_module_rules.Linked.{Each}
use Rattle.wasm_ruled_renamed.specs.wasm_ruled_normal.wasm_normal_form.Bodies.{new_number, used_keys}
use Rattle.wasm_ruled_renamed.specs.wasm_ruled_normal.wasm_normal_form.Normal.{normal_ops}
use Rattle.wasm_ruled_renamed.specs.wasm_ruled_normal.wasm_run_names.Picks.{block_pick}
use Rattle.wasm_ruled_renamed.specs.wasm_ruled_normal.wasm_ruled_modules.Rules.{AreOperators, GroupsBelow, HasBody, OriginRuled, around_bodies}
use Rattle.wasm_ruled_renamed.specs.wasm_ruled_normal.wasm_ruled_modules.wasm_module_rules.Keeps.{first_none}
use Rattle.wasm_ruled_renamed.proofs.wasm_ruled_normal.Tests.{Within, all_split, names_within, passes}
use Rattle.wasm_ruled_renamed.specs.wasm_ruled_normal.Normal.{BlockTypesArePicked, IsPicked, NormalOperatorsAreRuled, OpensPicked, located, text_of}
use Rattle.wasm_ruled_renamed.specs.Bodies.{with_numbers}
use Rattle.wasm_ruled_renamed.specs.Renamed.{renamed_placed}
use Rattle.wasm_ruled_renamed.specs.Types.{PicksGoToPicks, RetypesInOrder}
use Rattle.wasm_normal_modules.proofs.Slots.{each_sent}
use Rattle.wasm_normal_modules.specs.Modules.{BlockTypesAreTheirPicks, OriginPicked, by_types, normal_function, normal_module, normal_origin}

module _ (go : PicksGoToPicks) (r : Renaming) (a b : Around) (below : GroupsBelow 0 a.filled.groups) (sent : RetypesInOrder (r Types) a b) (locals : ℕ) where
  item_own : (labels : ℕ) (x : Item) → AllByRecursion (Within (room a locals labels)) (item_names x) → form_rule a x ≡ None → IsPicked a x → IsPicked b (renamed_item r x)
  item_own labels (Block blocks.Empty) h e own = refl
  item_own labels (Block (blocks.Value ty)) h e own = refl
  item_own labels (Block (blocks.Type n)) h e own = go r a b below sent (blocks.Type n) (ltb-true n (length (types_of a.filled)) h.0, e) ∙ ap (renamed_block r) own
  item_own labels (Names space n) h e own = tt
  item_own labels (Number n) h e own = tt
  item_own labels (S32 z) h e own = tt
  item_own labels (S64 z) h e own = tt
  item_own labels (Bits size n) h e own = tt
  item_own labels (Byte x) h e own = tt
  item_own labels (Bytes run) h e own = tt
  item_own labels (Heap ty) h e own = tt
  item_own labels (Access x) h e own = tt
  item_own labels (ManyLabels ns) h e own = tt
  item_own labels (ManyValues tys) h e own = tt
  item_own labels (ManyClauses cs) h e own = tt

  items_own : (labels : ℕ) (xs : List Item) → AllByRecursion (Within (room a locals labels)) (flat_map item_names xs) → first_in (form_rule a) xs ≡ None → AllByRecursion (IsPicked a) xs
      → AllByRecursion (IsPicked b) (map (renamed_item r) xs)
  items_own labels [] h e own = tt
  items_own labels (x ∷ xs) h e own =
      let names = all_split (Within (room a locals labels)) (item_names x) (flat_map item_names xs) h in
      let both = first_none (form_rule a x) (first_in (form_rule a) xs) e in
      (item_own labels x names.0 both.0 own.0, items_own labels xs names.1 both.1 own.1)

  operators_own : (frames : List Frame) (ops : List grammar.Placed) → AreOperators a locals frames ops → AllByRecursion (OpensPicked a) ops → AllByRecursion (OpensPicked b) (map (renamed_placed r) ops)
  operators_own frames [] h own = tt
  operators_own frames (o ∷ ops) h own =
      let labels = label_count (flow_of o.op.code) frames in
      let tests = passes a locals frames o.op h.1 in (
        (λ opens. items_own labels o.op.items (names_within (room a locals labels) (operator_names o.op) tests.named) tests.formed (own.0 opens)),
        operators_own (frames_of (turned (flow_of o.op.code) frames) frames) ops h.2 own.1,
      )

module _ (normal : NormalOperatorsAreRuled) (picked : BlockTypesArePicked) (go : PicksGoToPicks) (place : Option ℕ → ℕ) (features : WasmFeatures) (counted : Bool) (r : ℕ → ℕ) (groups : List TypeGroup) (m : Module) where
  abbrev a : Around
  a = around_bodies features counted m

  abbrev b : Around
  b = around_bodies features counted (normal_module place a r groups m)

  module _ (sent : RetypesInOrder r a b) (below : GroupsBelow 0 m.groups) where
    origin_own : (params : ℕ) (o : Origin Body) → OriginRuled a params o → OriginPicked b (normal_origin place a r params o)
    origin_own params (Imported k) h = tt
    origin_own params (Own x) h =
        operators_own go (with_numbers (new_number params (used_keys params (map (renamed_value r) x.locals) (normal_ops (block_pick a) (text_of x.operators)))) (by_types r)) a b below sent (params + length x.locals) (Plain ∷ [])
        (map (located place) (normal_ops (block_pick a) (text_of x.operators))) (normal place a (params + length x.locals) x.operators below h.operators) (picked place a x.operators)

    functions_own : (fs : List (Option Function)) → Each (λ (f : Function). HasBody a f) fs → Each (λ (f : Function). OriginPicked b f.origin) (map (option_map (normal_function place a r)) fs)
    functions_own fs h =
        each_sent (λ (f : Function). HasBody a f) (λ (f : Function). OriginPicked b f.origin) (normal_function place a r) (λ f k. origin_own (param_count a.filled f.ty) f.origin k) fs h

pub modules_picked : NormalOperatorsAreRuled → BlockTypesArePicked → PicksGoToPicks → BlockTypesAreTheirPicks
modules_picked normal picked go place features counted r groups m sent h = functions_own normal picked go place features counted r groups m sent h.groups m.functions h.bodies
