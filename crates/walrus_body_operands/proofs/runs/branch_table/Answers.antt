use Rattle.std.proofs.Common.{Option, ap, refl, ◌∙◌}
use Rattle.wasm_formats.specs.Stops.{Trouble}
use Rattle.walrus_body_steps.specs.wasm_grammar.Values.{first_of}
use Rattle.walrus_body_operands.specs.Asked.{label_test}
use Rattle.walrus_body_operands.proofs.runs.branch_table.Goals as goal

pub returns : goal.returns
returns g c =
    let ids = g.L.Labels.ids c.args.labels.now in
    let first = c.in_ok-blocks.ensures in
    let last = c.in_ok-default.ensures in
    λ s code. (ap (λ (t : Option Trouble). first_of t (label_test ids c.args.last)) first.0 ∙ last.0, (c.in_ok-blocks.blocks, c.in_ok-default.default, first.1, last.1, refl))
