use Rattle.wasm_ref_types.specs.wasm_reader.Spellings.{taken_free}
use Rattle.wasm_composite_types.specs.Readings.{storage_at, field_at, func_at, array_at, struct_at, composite_at}
use Rattle.wasm_composite_types.specs.Spellings.{SpellsStorage, SpellsField, SpellsFunc, SpellsArray, SpellsStruct, SpellsComposite}
use Rattle.wasm_composite_types.specs.TypesTaken.{storage_taken, field_taken, func_taken, array_taken, struct_taken, composite_taken}
use Rattle.wasm_composite_types.proofs.laws.type_spellings_are_prefix_free.Goals as goal

pub returns-clause-storage : goal.returns-clause-storage
returns-clause-storage c = λ features. taken_free (storage_at features) (SpellsStorage features) (storage_taken features)

pub returns-clause-field : goal.returns-clause-field
returns-clause-field c = λ features. taken_free (field_at features) (SpellsField features) (field_taken features)

pub returns-clause-function : goal.returns-clause-function
returns-clause-function c = λ features. taken_free (func_at features) (SpellsFunc features) (func_taken features)

pub returns-clause-array : goal.returns-clause-array
returns-clause-array c = λ features. taken_free (array_at features) (SpellsArray features) (array_taken features)

pub returns-clause-structure : goal.returns-clause-structure
returns-clause-structure c = λ features. taken_free (struct_at features) (SpellsStruct features) (struct_taken features)

pub returns-clause-composite : goal.returns-clause-composite
returns-clause-composite c = λ features. taken_free (composite_at features) (SpellsComposite features) (composite_taken features)
