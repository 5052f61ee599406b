use Rattle.std.proofs.Common.{ap}
use Rattle.wasm_ref_types.specs.Orders.{reference-ties}
use Rattle.wasm_ref_types.proofs.Ranks.{abstract_ord-rank}
use Rattle.wasm_ref_types.proofs.Same.{unpacked_ord-index, reference-same}
use Rattle.wasm_ref_types.specs.contracts.reference.RefTypeHash.TheImpl.{ghosts as reference_hash}
use Rattle.wasm_ref_types.proofs.laws.orders_agree.Goals as goal

pub returns-clause-indices : goal.returns-clause-indices
returns-clause-indices c = unpacked_ord-index

pub returns-clause-abstract_types : goal.returns-clause-abstract_types
returns-clause-abstract_types c = abstract_ord-rank

pub returns-clause-references : goal.returns-clause-references
returns-clause-references c = reference-ties

pub returns-clause-hashes : goal.returns-clause-hashes
returns-clause-hashes c = λ a b e. ap reference_hash.hash_input (reference-same a b e)
