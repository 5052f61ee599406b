-- The refusal of a body, as that of its module.
use Rattle.std.specs.Prelude.{ℕ, Option, Some, None}
use Rattle.walrus_errors.specs.declared.error.ModuleError.{ModuleError}
use Rattle.walrus_errors.specs.declared.error.ModuleError.TheVariants as errors
use Rattle.walrus_errors.specs.Refusals.{refusal_of}
use Rattle.walrus_body_env.specs.declared.error.BodyError.{BodyError}
use Rattle.walrus_body_env.specs.declared.error.BodyError.TheVariants as bodies

abbrev pub place_of : Option ℕ → ℕ
place_of None = 0
place_of (Some place) = place

-- as that of its module, at the same place; where no bytes are read one is written: then what has no number isn't there, and the limit is one of the output
abbrev pub module_error : BodyError → ModuleError
module_error (bodies.Read error) = refusal_of error
module_error (bodies.Index space None) = errors.DeadReference space
module_error (bodies.Index space (Some place)) = errors.Index space place
module_error (bodies.TypeForm place) = errors.TypeForm (place_of place)
module_error (bodies.Nesting place) = errors.Nesting (place_of place)
module_error (bodies.Position place) = errors.Position (place_of place)
module_error (bodies.Operator place) = errors.Operator (place_of place)
module_error (bodies.Unsupported form place) = errors.Unsupported form place
module_error (bodies.Bounds place) = errors.Bounds (place_of place)
module_error (bodies.Limit of None) = errors.OutputLimit of
module_error (bodies.Limit of (Some place)) = errors.Limit of place
module_error bodies.NoTree = errors.NoTree
module_error bodies.Memory = errors.Memory
