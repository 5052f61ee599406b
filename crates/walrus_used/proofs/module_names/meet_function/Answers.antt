use Rattle.std.proofs.Common.{◌∙◌, ap}
use Rattle.wasm_formats.specs.declared.fault.Space.TheVariants as spaces
use Rattle.walrus_roots.specs.Items.{item}
use Rattle.walrus_marks.specs.Marks.{meet}
use Rattle.walrus_references.specs.walrus_module.Parts.{parts}
use Rattle.walrus_used.proofs.ModuleLemmas.{function_meets, function_dead, not_live}
use Rattle.walrus_used.proofs.module_names.meet_function.Goals as goal

pub returns-in_ok-meet_kind : goal.returns-in_ok-meet_kind
returns-in_ok-meet_kind g c =
    function_meets (parts c.args.input.now) c.args.id c.get-function.result.now c.args.marks.now c.meet.new.self c.meet_kind.new.marks c.get-function.ensures
    (c.meet.ensures ∙ ap (meet c.args.marks.now) (c.new.ensures ∙ ap (item spaces.Type) c.ty.ensures)) c.in_ok-meet_kind.ensures

pub returns-else-contains : goal.returns-else-contains
returns-else-contains g c = function_dead (parts c.args.input.now) c.args.id c.args.marks.now (not_live c.contains.result c.contains.ensures c.if-contains.false)
