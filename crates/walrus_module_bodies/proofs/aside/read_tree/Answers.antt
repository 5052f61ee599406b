use Rattle.std.proofs.Common.{length}
use Rattle.walrus_index_maps.specs.Views.{ids}
use Rattle.walrus_module_env.specs.walrus_body_parser.walrus_body_stack.walrus_builder.Functions.{seqs_of}
use Rattle.walrus_module_bodies.proofs.AsideLemmas.{of_ok}
use Rattle.walrus_module_bodies.proofs.ReadingLemmas.{aside_tree}
use Rattle.walrus_module_bodies.proofs.aside.read_tree.Goals as goal

pub returns-clause-tree : goal.returns-clause-tree
returns-clause-tree c =
    of_ok c.read_aside.result
    (λ f aside. aside_tree c.bodies_are_trees.ensures c.args.env.now c.args.function (length c.args.args.items) c.args.body (ids c.args.indices.now) (ids c.read_aside.new.indices) c.args.locals.now c.read_aside.new.locals (seqs_of f.builder) aside c.requires.filed.0 c.requires.filed.1 c.requires.bytes)
    c.read_aside.ensures.read
