-- Lists that are too long.
use Rattle.std.specs.Prelude.{ℕ, ◌<◌, List, length, map, refl}
use Rattle.std.proofs.Common.{arith}
use Rattle.std.proofs.lemmas.List.{length-map}
use Rattle.wasm_formats.specs.declared.fault.Limited.TheVariants as limits
use Rattle.walrus_errors.specs.declared.error.ModuleError.TheVariants.{OutputLimit}
use Rattle.walrus_emit_parts.specs.Due.{Due, Refused, vec}
use Rattle.walrus_emit_parts.proofs.Lemmas.{limit_passed}
use Rattle.walrus_emit_due.specs.Types.{list}

pub too_long : {T A : Type 0} (see : T → A) (due : A → Due) (xs : List T) (most : ℕ) (old : List ℕ) → most < length xs → Refused (list most due (map see xs)) old old (OutputLimit limits.«List»)
too_long see due xs most old lt = limit_passed most (length (map see xs)) limits.«List» (vec due (map see xs)) old old (omega (arith, lt, length-map xs see)) refl
