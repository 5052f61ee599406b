-- The numbers that emission gives, and its order of bodies, serve for the code section of a plan's part (Core Specification, indices).
use Rattle.std.specs.Prelude.{ℕ, ◌≡◌, List, Some}
use Rattle.std.specs.List.{AllZip}
use Rattle.wasm_operators.specs.Items.{Functions, Locals, Labels}
use Rattle.wasm_part.specs.Part.{Plan}
use Rattle.walrus_arena.specs.Arena.{entries, item_at}
use Rattle.walrus_pairing.specs.Looks.{number_of}
use Rattle.walrus_module.specs.declared.module.Module.{Module}
use Rattle.walrus_module.specs.Parts.{parts, Module as Parts}
use Rattle.walrus_module.specs.walrus_collections.LookUps.{local_entries}
use Rattle.walrus_local_function.specs.declared.local_function.LocalFunction.{LocalFunction}
use Rattle.walrus_local_numbers.specs.Laws.{IsOnce}
use Rattle.walrus_module_items.specs.Functions.{local_of}
use Rattle.walrus_module_items.specs.declared.function.Function.{Function}
use Rattle.walrus_linked.specs.Linked.{IsLinked}
use Rattle.walrus_meaning.specs.Meaning.{means}
use Rattle.walrus_emit_numbers.specs.declared.facts.BodyFacts.{BodyFacts}
use Rattle.walrus_emit_numbers.specs.Facts.{AreFacts}
use Rattle.walrus_emit_numbers.specs.Numbers.{functions_at, numbers_of}
use Rattle.walrus_emit_numbers.specs.Order.{AreWithin}
use Rattle.walrus_emit_code.specs.Code.{facts_at}
use Rattle.walrus_due_laws.specs.Standard.{ServesBy}
use Rattle.walrus_code_laws.specs.Parts.{ServesCode}

-- no function has an argument twice
abbrev pub ArgumentsAreOnce : Parts → Type 0
ArgumentsAreOnce m = (id : ℕ) (f : Function) (local : LocalFunction) → item_at m.funcs id ≡ Some f → local_of f.kind ≡ Some local → IsOnce local.args.items

-- so it is in a linked module
abbrev pub LinkedArgumentsAreOnce : Type 0
LinkedArgumentsAreOnce = (m : Parts) → IsLinked m → ArgumentsAreOnce m

-- a module, the facts of its bodies and the order in which these are written, and which types are
module _ {B : Type 0} (input : Module B) (facts : List BodyFacts) (order types : List ℕ) where
  -- a plan of its numbers, which leaves locals and labels as they are, and whose own functions stand in that order
  pub record IsByNumbers (p : Plan) : Type 0 where
    pub serves : ServesBy (number_of (numbers_of input types (functions_at facts order)) 0) p (means (parts input))
    pub own : serves.order.own Functions ≡ functions_at facts order
    pub locals : (n : ℕ) → p.renames Locals n ≡ n
    pub labels : (n : ℕ) → p.renames Labels n ≡ n

-- then they serve for code, too
abbrev pub EmissionsServeCode : Type 0 → Type 0
EmissionsServeCode B = (input : Module B) (facts : List BodyFacts) (order types : List ℕ) (p : Plan) → IsByNumbers input facts order types p → AllZip AreFacts (local_entries (entries input.funcs)) facts
    → AreWithin facts order → ArgumentsAreOnce (parts input) → ServesCode (numbers_of input types (functions_at facts order)) p (parts input) (facts_at facts order)
