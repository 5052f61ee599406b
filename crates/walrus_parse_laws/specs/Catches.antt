-- The handlers of legacy `try`s that stand in the text of a body, in its order.
use Rattle.std.specs.Prelude.{List, [], ◌∷◌, ◌++◌, Option, Some, None}
use Rattle.std.specs.Option.{option_and_then}
use Rattle.walrus_body_laws.specs.walrus_pairing.wasm_operators.Items.{Tags, Item, Names, Block}
use Rattle.walrus_named_bodies.specs.walrus_file_bodies.walrus_items_into.walrus_module_env.walrus_handler_types.walrus_handler_laws.walrus_body_steps.wasm_normal_form.Trees.{Tree, Close, Arm, Skip, Run, Nest}
use Rattle.wasm_operators.specs.Operators.{flow_of}
use Rattle.wasm_operators.specs.declared.entry.Flow.{Flow}
use Rattle.wasm_operators.specs.declared.entry.Flow.TheVariants as flows
use Rattle.walrus_forms.specs.declared.value.ValType.{ValType}
use Rattle.walrus_named_bodies.specs.walrus_file_bodies.walrus_items_into.walrus_module_env.walrus_handler_types.walrus_handler_laws.walrus_body_steps.walrus_body_rules.Sights.{Sight, look, results_of, tag_params, written_block}
use Rattle.walrus_parse_laws.specs.Added.{Signature}
use Rattle.walrus_parse_laws.specs.Handlers.{signature_of}

-- the part that an operator begins in a block of these results: a `catch` takes the parameters of its tag's type, a `catch_all` none
abbrev pub part_signature : Sight → Option (List ValType) → Option Flow → List Item → List Signature
part_signature s results (Some flows.Catch) (Names Tags n ∷ []) = signature_of (tag_params s (option_and_then s.tag_type (look s Tags n))) results
part_signature s results (Some flows.CatchAll) items = signature_of (Some []) results
part_signature s results _ _ = []

-- the results of the block that an operator opens
abbrev pub opened_results : Sight → List Item → Option (List ValType)
opened_results s (Block written ∷ more) = option_and_then (results_of s) (written_block s written)
opened_results s _ = None

-- of the rest of a block of these results
abbrev pub catches : Sight → Option (List ValType) → Tree → List Signature
catches s results (Close o p) = []
catches s results (Arm o p t) = part_signature s results (flow_of o.code) o.items ++ catches s results t
catches s results (Skip o p t) = catches s results t
catches s results (Run o p t) = catches s results t
catches s results (Nest o p u t) = catches s (opened_results s o.items) u ++ catches s results t
