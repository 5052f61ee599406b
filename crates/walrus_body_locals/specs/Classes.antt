-- What the table of operators says of those that are read in one way.
use Rattle.std.specs.Prelude.{◌≡◌, Option, Some, None}
use Rattle.wasm_reader.specs.Cursor.{Cursor}
use Rattle.walrus_pairing.specs.wasm_operators.declared.entry.Gate.TheVariants as gates
use Rattle.walrus_pairing.specs.wasm_operators.declared.entry.Kind.{Kind}
use Rattle.walrus_pairing.specs.wasm_operators.declared.entry.Kind.TheVariants as kinds
use Rattle.walrus_pairing.specs.wasm_operators.declared.entry.Flow.{Flow}
use Rattle.walrus_pairing.specs.wasm_operators.declared.entry.Flow.TheVariants as flows
use Rattle.walrus_pairing.specs.wasm_operators.declared.entry.Entry.{Entry}
use Rattle.walrus_operators.specs.Operators.{IsNext}
use Rattle.walrus_body_locals.specs.declared.class.Class.{Class}
use Rattle.walrus_body_locals.specs.declared.class.Class.TheVariants as classes

-- of an operator that is always on
abbrev pub always : Kind → Flow → Entry
always kind flow = record { gate = gates.Always; kind = kind; flow = flow }

-- what the table says of each operator of a class
abbrev pub class_entry : Class → Option Entry
class_entry classes.Local = Some (always kinds.Local flows.Goes)
class_entry classes.Global = Some (always kinds.Global flows.Goes)
class_entry classes.Load = Some (always kinds.Access flows.Goes)
class_entry classes.Store = Some (always kinds.Access flows.Goes)
class_entry classes.I32 = Some (always kinds.I32 flows.Goes)
class_entry classes.I64 = Some (always kinds.I64 flows.Goes)
class_entry classes.F64 = Some (always kinds.F64 flows.Goes)
class_entry classes.Plain = Some (always kinds.Bare flows.Goes)
class_entry classes.Chooses = Some (always kinds.Label flows.Chooses)
class_entry classes.Calls = Some (always kinds.Function flows.Calls)
class_entry classes.End = Some (always kinds.Bare flows.End)
class_entry classes.Else = Some (always kinds.Bare flows.Else)
class_entry (classes.Opens flow) = Some (always kinds.Block flow)
class_entry classes.Rare = None

-- an operator of this class stands next, of which the table says that; of the class of all others nothing is said
abbrev pub IsNextIn : Cursor → Class → Type 0
IsNextIn c k = (e : Entry) → class_entry k ≡ Some e → IsNext c e
