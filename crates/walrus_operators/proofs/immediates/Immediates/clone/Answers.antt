use Rattle.std.proofs.Common.{refl, rules}
use Rattle.std.proofs.lemmas.List.Elements.{same_from_all_zip}
use Rattle.walrus_operators.proofs.immediates.Immediates.clone.Goals as goal

pub returns-in-Ok : goal.returns-in-Ok
returns-in-Ok c = rw c.in-TryTable.is (c.in-Ok.found, refl, same_from_all_zip _ _ _ c.in-Ok.ensures.cases.0 (λ x y e. e))

pub returns-in-Ok-clone : goal.returns-in-Ok-clone
returns-in-Ok-clone c = rw c.in-BrTable.is (c.in-Ok-clone.found, refl, search (rules, same_from_all_zip))

pub returns-in-Ok-clone-2 : goal.returns-in-Ok-clone-2
returns-in-Ok-clone-2 c = rw c.in-Select.is (c.in-Ok-clone-2.found, refl, same_from_all_zip _ _ _ c.in-Ok-clone-2.ensures.cases.0 (λ x y e. e))

pub returns-in-Bare : goal.returns-in-Bare
returns-in-Bare c = rw c.in-Bare.is refl

pub returns-in-Block : goal.returns-in-Block
returns-in-Block c = rw c.in-Block.is refl

pub returns-in-Tag : goal.returns-in-Tag
returns-in-Tag c = rw c.in-Tag.is refl

pub returns-in-Label : goal.returns-in-Label
returns-in-Label c = rw c.in-Label.is refl

pub returns-in-Function : goal.returns-in-Function
returns-in-Function c = rw c.in-Function.is refl

pub returns-in-TypeTable : goal.returns-in-TypeTable
returns-in-TypeTable c = rw c.in-TypeTable.is refl

pub returns-in-Type : goal.returns-in-Type
returns-in-Type c = rw c.in-Type.is refl

pub returns-in-Local : goal.returns-in-Local
returns-in-Local c = rw c.in-Local.is refl

pub returns-in-Global : goal.returns-in-Global
returns-in-Global c = rw c.in-Global.is refl

pub returns-in-Table : goal.returns-in-Table
returns-in-Table c = rw c.in-Table.is refl

pub returns-in-Access : goal.returns-in-Access
returns-in-Access c = rw c.in-Access.is refl

pub returns-in-Memory : goal.returns-in-Memory
returns-in-Memory c = rw c.in-Memory.is refl

pub returns-in-F32 : goal.returns-in-F32
returns-in-F32 c = rw c.in-F32.is refl

pub returns-in-F64 : goal.returns-in-F64
returns-in-F64 c = rw c.in-F64.is refl

pub returns-in-Heap : goal.returns-in-Heap
returns-in-Heap c = rw c.in-Heap.is refl

pub returns-in-DataMemory : goal.returns-in-DataMemory
returns-in-DataMemory c = rw c.in-DataMemory.is refl

pub returns-in-Data : goal.returns-in-Data
returns-in-Data c = rw c.in-Data.is refl

pub returns-in-MemoryMemory : goal.returns-in-MemoryMemory
returns-in-MemoryMemory c = rw c.in-MemoryMemory.is refl

pub returns-in-ElementTable : goal.returns-in-ElementTable
returns-in-ElementTable c = rw c.in-ElementTable.is refl

pub returns-in-Element : goal.returns-in-Element
returns-in-Element c = rw c.in-Element.is refl

pub returns-in-TableTable : goal.returns-in-TableTable
returns-in-TableTable c = rw c.in-TableTable.is refl

pub returns-in-TypeNumber : goal.returns-in-TypeNumber
returns-in-TypeNumber c = rw c.in-TypeNumber.is refl

pub returns-in-TypeData : goal.returns-in-TypeData
returns-in-TypeData c = rw c.in-TypeData.is refl

pub returns-in-TypeElement : goal.returns-in-TypeElement
returns-in-TypeElement c = rw c.in-TypeElement.is refl

pub returns-in-TypeType : goal.returns-in-TypeType
returns-in-TypeType c = rw c.in-TypeType.is refl

pub returns-in-Cast : goal.returns-in-Cast
returns-in-Cast c = rw c.in-Cast.is refl

pub returns-in-Vector : goal.returns-in-Vector
returns-in-Vector c = rw c.in-Vector.is refl

pub returns-in-Lane : goal.returns-in-Lane
returns-in-Lane c = rw c.in-Lane.is refl

pub returns-in-AccessLane : goal.returns-in-AccessLane
returns-in-AccessLane c = rw c.in-AccessLane.is refl

pub returns-in-Zero : goal.returns-in-Zero
returns-in-Zero c = rw c.in-Zero.is refl
