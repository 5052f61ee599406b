use Rattle.std.proofs.Common.{arith}
use Rattle.walrus_tree.specs.walrus_builder.Functions.{seqs_of}
use Rattle.walrus_tree.specs.Text.{operators}
use Rattle.walrus_body_text.specs.declared.size.Size.{Size}
use Rattle.walrus_body_text.proofs.Folds.{adds_up}
use Rattle.walrus_body_text.proofs.size.body_size.Goals as goal

pub returns-clause-counted : goal.returns-clause-counted
returns-clause-counted c =
    let sum = adds_up (λ (s : Size). s.count) (operators (seqs_of c.args.body.now) 0) (record { count = 0 }) c.visit_once.new.visitor c.in_ok-visit_once.ensures.told in
    omega (arith, sum)
