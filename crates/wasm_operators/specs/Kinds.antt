-- The immediates of each kind (Core Specification, binary format: instructions).
use Rattle.std.specs.Prelude.{Bool, true, false, List, [], ◌∷◌}
use Rattle.wasm_operators.specs.Items.{Types, Functions, Tables, Memories, Tags, Globals, ElementSegments, DataSegments, Locals, Labels, Form, index, number, s32, s64, bits, run, any_byte, below, zero_byte, heap, block, access, labels, values, clauses}
use Rattle.wasm_operators.specs.declared.entry.Kind.{Kind}
use Rattle.wasm_operators.specs.declared.entry.Kind.TheVariants as kinds

-- their forms, in the order of the bytes
abbrev pub forms : Kind → List Form
forms kinds.Bare = []
forms kinds.Block = block ∷ []
forms kinds.TryTable = block ∷ clauses ∷ []
forms kinds.Tag = index Tags ∷ []
forms kinds.Label = index Labels ∷ []
forms kinds.BrTable = labels ∷ index Labels ∷ []
forms kinds.Function = index Functions ∷ []
forms kinds.TypeTable = index Types ∷ index Tables ∷ []
forms kinds.Type = index Types ∷ []
forms kinds.Select = values ∷ []
forms kinds.Local = index Locals ∷ []
forms kinds.Global = index Globals ∷ []
forms kinds.Table = index Tables ∷ []
forms kinds.Access = access ∷ []
forms kinds.Memory = index Memories ∷ []
forms kinds.I32 = s32 ∷ []
forms kinds.I64 = s64 ∷ []
forms kinds.F32 = bits 4 ∷ []
forms kinds.F64 = bits 8 ∷ []
forms kinds.Heap = heap ∷ []
forms kinds.DataMemory = index DataSegments ∷ index Memories ∷ []
forms kinds.Data = index DataSegments ∷ []
forms kinds.MemoryMemory = index Memories ∷ index Memories ∷ []
forms kinds.ElementTable = index ElementSegments ∷ index Tables ∷ []
forms kinds.Element = index ElementSegments ∷ []
forms kinds.TableTable = index Tables ∷ index Tables ∷ []
forms kinds.TypeNumber = index Types ∷ number ∷ []
forms kinds.TypeData = index Types ∷ index DataSegments ∷ []
forms kinds.TypeElement = index Types ∷ index ElementSegments ∷ []
forms kinds.TypeType = index Types ∷ index Types ∷ []
forms kinds.Cast = below 4 ∷ index Labels ∷ heap ∷ heap ∷ []
forms kinds.Vector = run 16 ∷ []
forms kinds.Lane = any_byte ∷ []
forms kinds.AccessLane = access ∷ any_byte ∷ []
forms kinds.Zero = zero_byte ∷ []

-- a list is among them: they alone take memory
abbrev pub takes_memory : Kind → Bool
takes_memory kinds.TryTable = true
takes_memory kinds.BrTable = true
takes_memory kinds.Select = true
takes_memory _ = false
