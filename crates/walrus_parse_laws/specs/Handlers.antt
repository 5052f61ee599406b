-- What handlers of legacy `try`s take and give, by a table of types.
use Rattle.std.specs.Prelude.{List, [], ◌∷◌, Option, Some, None, IsSome}
use Rattle.walrus_forms.specs.declared.value.ValType.{ValType}
use Rattle.walrus_named_bodies.specs.walrus_item_names.walrus_module.walrus_types.Table.{Table}
use Rattle.walrus_named_bodies.specs.walrus_file_bodies.walrus_items_into.walrus_module_env.walrus_handler_types.walrus_handler_laws.declared.handler.Handler.{Handler}
use Rattle.walrus_named_bodies.specs.walrus_file_bodies.walrus_items_into.walrus_module_env.walrus_handler_types.Giving.{block_results, caught}
use Rattle.walrus_parse_laws.specs.Added.{Signature}

abbrev pub signature_of : Option (List ValType) → Option (List ValType) → List Signature
signature_of (Some params) (Some results) = record { params = params; results = results } ∷ []
signature_of _ _ = []

-- that of a sequence, if it is a handler: the parameters of its tag's type, none if it catches all tags, and the results of its block
abbrev pub signatures : Table → Option Handler → List Signature
signatures t None = []
signatures t (Some h) = signature_of (caught t h.tag_type) (block_results t h.block)

-- its tag's type is a live function type, and so is its block's, unless that is a short form: a handler has one signature
abbrev pub HasTypes : Table → Option Handler → Type 0
HasTypes t None = Unit {0}
HasTypes t (Some h) = IsSome (caught t h.tag_type) × IsSome (block_results t h.block)
