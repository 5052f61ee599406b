use Rattle.wasm_reader.specs.Spellings.{taken_free}
use Rattle.wasm_types.specs.Readings.{sub_at, group_at}
use Rattle.wasm_types.specs.Spellings.{SpellsSub, SpellsGroup}
use Rattle.wasm_types.specs.TypesTaken.{sub_taken, group_taken}
use Rattle.wasm_types.proofs.laws.type_spellings_are_prefix_free.Goals as goal

pub returns-clause-subtype : goal.returns-clause-subtype
returns-clause-subtype c = λ features. taken_free (sub_at features) (SpellsSub features) (sub_taken features)

pub returns-clause-group : goal.returns-clause-group
returns-clause-group c = λ features. taken_free (group_at features) (SpellsGroup features) (group_taken features)
