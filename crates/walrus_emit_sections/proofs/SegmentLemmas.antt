-- A memory without a number.
use Rattle.std.specs.Prelude.{ℕ, ◌≡◌, List, Option, None, refl}
use Rattle.std.proofs.Common.{subst, sym}
use Rattle.wasm_formats.specs.declared.fault.Space.TheVariants as spaces
use Rattle.wasm_grammar.specs.Modules.{Expr}
use Rattle.walrus_errors.specs.declared.error.ModuleError.TheVariants.{DeadReference}
use Rattle.walrus_pairing.specs.Looks.{Look}
use Rattle.walrus_emit_parts.specs.Due.{Refused}
use Rattle.walrus_emit_parts.proofs.Lemmas.{lacks_it}
use Rattle.walrus_emit_due.specs.Items.{active}

pub lacks_memory : (look : Look) (number : Option ℕ) (offset : Expr) (bytes old : List ℕ) → number ≡ None → Refused (active look number offset bytes) old old (DeadReference spaces.Memory)
lacks_memory look number offset bytes old none =
    subst (λ (o : Option ℕ). Refused (active look o offset bytes) old old (DeadReference spaces.Memory)) (sym none) (lacks_it (DeadReference spaces.Memory) old old refl)
