use Rattle.std.proofs.Common.{refl}
use Rattle.walrus_pairing.specs.wasm_operators.declared.entry.Kind.TheVariants as kinds
use Rattle.walrus_pairing.specs.wasm_operators.declared.entry.Flow.TheVariants as flows
use Rattle.walrus_body_locals.specs.Classes.{always}
use Rattle.walrus_body_locals.specs.declared.class.Class.TheVariants as classes
use Rattle.walrus_body_locals.proofs.ClassLemmas.{next_of}
use Rattle.walrus_body_locals.proofs.named.next.Goals as goal

pub read_as-requires : goal.read_as-requires
read_as-requires c = next_of c.args.reader.now c.next_class.result classes.Local (always kinds.Local flows.Goes) c.next_class.ensures c.in-Local.is refl

pub read_as-requires-in-Global : goal.read_as-requires-in-Global
read_as-requires-in-Global c = next_of c.args.reader.now c.next_class.result classes.Global (always kinds.Global flows.Goes) c.next_class.ensures c.in-Global.is refl

pub read_as-requires-in-Load : goal.read_as-requires-in-Load
read_as-requires-in-Load c = next_of c.args.reader.now c.next_class.result classes.Load (always kinds.Access flows.Goes) c.next_class.ensures c.in-Load.is refl

pub read_as-requires-in-Store : goal.read_as-requires-in-Store
read_as-requires-in-Store c = next_of c.args.reader.now c.next_class.result classes.Store (always kinds.Access flows.Goes) c.next_class.ensures c.in-Store.is refl

pub read_as-requires-in-I32 : goal.read_as-requires-in-I32
read_as-requires-in-I32 c = next_of c.args.reader.now c.next_class.result classes.I32 (always kinds.I32 flows.Goes) c.next_class.ensures c.in-I32.is refl

pub read_as-requires-in-I64 : goal.read_as-requires-in-I64
read_as-requires-in-I64 c = next_of c.args.reader.now c.next_class.result classes.I64 (always kinds.I64 flows.Goes) c.next_class.ensures c.in-I64.is refl

pub read_as-requires-in-F64 : goal.read_as-requires-in-F64
read_as-requires-in-F64 c = next_of c.args.reader.now c.next_class.result classes.F64 (always kinds.F64 flows.Goes) c.next_class.ensures c.in-F64.is refl

pub read_as-requires-in-Plain : goal.read_as-requires-in-Plain
read_as-requires-in-Plain c = next_of c.args.reader.now c.next_class.result classes.Plain (always kinds.Bare flows.Goes) c.next_class.ensures c.in-Plain.is refl

pub read_as-requires-in-Chooses : goal.read_as-requires-in-Chooses
read_as-requires-in-Chooses c = next_of c.args.reader.now c.next_class.result classes.Chooses (always kinds.Label flows.Chooses) c.next_class.ensures c.in-Chooses.is refl

pub read_as-requires-in-Calls : goal.read_as-requires-in-Calls
read_as-requires-in-Calls c = next_of c.args.reader.now c.next_class.result classes.Calls (always kinds.Function flows.Calls) c.next_class.ensures c.in-Calls.is refl

pub read_as-requires-in-End : goal.read_as-requires-in-End
read_as-requires-in-End c = next_of c.args.reader.now c.next_class.result classes.End (always kinds.Bare flows.End) c.next_class.ensures c.in-End.is refl

pub read_as-requires-in-Else : goal.read_as-requires-in-Else
read_as-requires-in-Else c = next_of c.args.reader.now c.next_class.result classes.Else (always kinds.Bare flows.Else) c.next_class.ensures c.in-Else.is refl

pub read_as-requires-in-Opens : goal.read_as-requires-in-Opens
read_as-requires-in-Opens c = next_of c.args.reader.now c.next_class.result (classes.Opens c.in-Opens.field-0) (always kinds.Block c.in-Opens.field-0) c.next_class.ensures c.in-Opens.is refl
