use Rattle.wasm_ref_types.specs.Subtypes.{itself}
use Rattle.wasm_ref_types.proofs.Below.{transitive, antisymmetric}
use Rattle.wasm_ref_types.proofs.laws.subtypes_are_ordered.Goals as goal

pub returns : goal.returns
returns c = record { reflexive = itself; transitive = transitive; antisymmetric = antisymmetric }
