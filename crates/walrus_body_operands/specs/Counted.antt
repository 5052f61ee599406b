-- What is asked of an operator, frames and all, by what is asked of what it names.
use Rattle.std.specs.Prelude.{◌≡◌, List, ◌∷◌, length, Option, Some, None, refl}
use Rattle.wasm_features.specs.declared.WasmFeatures.{WasmFeatures}
use Rattle.wasm_operators.specs.declared.entry.Flow.{Flow}
use Rattle.wasm_operators.specs.declared.entry.Flow.TheVariants as flows
use Rattle.wasm_operators.specs.Operators.{kind_of, flow_of}
use Rattle.walrus_body_steps.specs.wasm_grammar.Values.{first_of}
use Rattle.walrus_body_steps.specs.wasm_body_grammar.Frames.{Frame, turned, label_count}
use Rattle.walrus_body_steps.specs.wasm_body_grammar.Rules.{turned_test}
use Rattle.walrus_operators.specs.declared.operator.Operator.{Operator}
use Rattle.walrus_operators.specs.Immediates.{kind_is}
use Rattle.walrus_operators.specs.Operators.{seen}
use Rattle.walrus_pairing.proofs.Kept.{entry_of}
use Rattle.walrus_body_steps.specs.walrus_body_rules.Sights.{Sight}
use Rattle.walrus_body_steps.specs.walrus_body_rules.Rules.{items_test, operator_test}
use Rattle.walrus_body_operands.specs.Listed.{IsListed, known_labels}

-- what is read has the kind of immediates that its code is listed with
abbrev pub ReadIsListed : Type 0
ReadIsListed = (features : WasmFeatures) (op : Operator) → kind_of features op.code ≡ Some (kind_is op.immediates) → IsListed op

-- labels are counted as the grammar of bodies counts them
abbrev pub LabelsAreCounted : Type 0
LabelsAreCounted = (flow : Option Flow) (frames : List Frame) → label_count flow frames ≡ known_labels flow (length frames)

-- all that is asked of an operator inside frames: what is asked of what it names, and then what its frames ask
abbrev pub FramesAskLast : Type 0
FramesAskLast = (s : Sight) (op : Operator) (f : Frame) (around : List Frame) → IsListed op
    → operator_test s (f ∷ around) (seen op) ≡ first_of (items_test s (label_count (flow_of op.code) (f ∷ around)) (seen op)) (turned_test (turned (flow_of op.code) (f ∷ around)))

-- ---- lemmas

pub is_listed : ReadIsListed
is_listed features op is = entry_of features op.code (kind_is op.immediates) is

pub counted : LabelsAreCounted
counted None frames = refl
counted (Some flows.Passes) frames = refl
counted (Some flows.Goes) frames = refl
counted (Some flows.Traps) frames = refl
counted (Some flows.OpensBlock) frames = refl
counted (Some flows.OpensLoop) frames = refl
counted (Some flows.OpensIf) frames = refl
counted (Some flows.OpensTry) frames = refl
counted (Some flows.OpensTryTable) frames = refl
counted (Some flows.Else) frames = refl
counted (Some flows.Catch) frames = refl
counted (Some flows.CatchAll) frames = refl
counted (Some flows.Delegate) frames = refl
counted (Some flows.End) frames = refl
counted (Some flows.Branches) frames = refl
counted (Some flows.Chooses) frames = refl
counted (Some flows.Selects) frames = refl
counted (Some flows.Returns) frames = refl
counted (Some flows.Calls) frames = refl
counted (Some flows.CallsIndirectly) frames = refl
counted (Some flows.TailCalls) frames = refl
counted (Some flows.TailCallsIndirectly) frames = refl
counted (Some flows.Throws) frames = refl
counted (Some flows.ThrowsOrTraps) frames = refl
