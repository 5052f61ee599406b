-- Limits as they are read.
use Rattle.wasm_grammar.specs.Values as grammar
use Rattle.std.specs.Prelude.{ℕ, Option}
use Rattle.walrus_section_values.specs.declared.limits.Limits.{Limits}
use Rattle.walrus_section_values.specs.declared.limits.MemoryType.{MemoryType}

abbrev pub limits_of : Limits → grammar.Limits
limits_of l = (l.flags, (l.minimum, l.maximum))

abbrev pub memory_type_of : MemoryType → grammar.Limits × Option ℕ
memory_type_of m = (limits_of m.limits, m.page_size_log2)
