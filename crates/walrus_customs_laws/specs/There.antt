-- What bears a name that a file gives is there (Core Specification, appendix Custom Sections: name section).
use Rattle.std.specs.Prelude.{◌<◌}
use Rattle.std.specs.List.{AllByRecursion}
use Rattle.wasm_grammar.specs.Modules.{Module}
use Rattle.wasm_grammar.specs.States.{count_of}
use Rattle.wasm_name_payloads.specs.Names.{Bearer, TheModule, AnItem, ALocal, Given, local_count, names_of}

abbrev pub IsThere : Module → Bearer → Type 0
IsThere m TheModule = Unit {0}
IsThere m (AnItem x) = x.number < count_of m x.space
IsThere m (ALocal function local) = local < local_count m function

abbrev pub NamesAreThere : Type 0
NamesAreThere = (m : Module) → AllByRecursion (λ (g : Given). IsThere m g.bearer) (names_of m)
