use Rattle.std.proofs.Common.{◌∙◌, ap, List, ℕ, ◌++◌}
use Rattle.walrus_body_writer.specs.walrus_tree.walrus_builder.Functions.{seqs_of}
use Rattle.walrus_body_writer.specs.walrus_tree.Text.{operators}
use Rattle.walrus_body_names.specs.declared.names.Locals.{Locals}
use Rattle.walrus_body_names.specs.Names.{local_in, text_names}
use Rattle.walrus_body_names.proofs.Gathering.{gathers}
use Rattle.walrus_body_names.proofs.names.named_locals.Goals as goal

pub returns-clause-named : goal.returns-clause-named
returns-clause-named c =
    let ops = operators (seqs_of c.args.body.now) 0 in
    gathers (λ (s : Locals). s.found.items) local_in ops (record { found = c.new.result }) c.visit_once.new.visitor c.in_ok-visit_once.ensures.told
    ∙ ap (λ (z : List ℕ). z ++ text_names local_in ops) c.new.ensures.items
