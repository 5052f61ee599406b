use Rattle.std.proofs.Common.{◌∙◌, sym}
use Rattle.walrus_emit_numbers.specs.Undeclared.{is_alone}
use Rattle.walrus_emit_numbers.proofs.Marks.{kept}
use Rattle.walrus_emit_numbers.proofs.declared.add_alone.Goals as goal

pub returns-in_ok-push : goal.returns-in_ok-push
returns-in_ok-push c =
    c.in_ok-push.ensures.items
    ∙ kept (is_alone c.args.told.now.flags.items c.args.held.now.flags.items) c.args.at c.args.found.now.items c.from_index.result c.from_index.ensures (sym c.is_alone.ensures ∙ c.if-is_alone.true)
