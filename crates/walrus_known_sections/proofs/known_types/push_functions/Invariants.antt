use Rattle.std.proofs.Common.{◌≡◌, ◌≤◌, ◌+◌, ◌-◌, ◌++◌, map, take, length, vec_len, vec_capacity}
use Rattle.walrus_known_sections.specs.Types.{is_function_type}
use Rattle.walrus_known_sections.proofs.known_types.push_functions.Given as goal

abbrev pub invariant-loop-ty : goal.invariant-loop-ty
invariant-loop-ty l =
    (l.functions.items ≡ l.fn.functions.items ++ map is_function_type (take l.ty-index l.types))
    × (vec_len l.functions + (length l.types - l.ty-index) ≤ vec_capacity l.functions)
