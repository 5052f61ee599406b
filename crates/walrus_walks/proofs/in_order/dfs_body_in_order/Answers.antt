use Rattle.std.proofs.Common.{List, [], ◌∷◌, ◌++◌, ap, ◌∙◌}
use Rattle.std.proofs.lemmas.Result.{err_from_is_err_and}
use Rattle.walrus_walks.specs.declared.steps.Step.{Step}
use Rattle.walrus_walks.specs.declared.steps.Step.TheVariants.{Resume}
use Rattle.walrus_walks.proofs.Bodies.{body_told, body_part}
use Rattle.walrus_walks.proofs.Nested.{nested_read}
use Rattle.walrus_walks.proofs.in_order.dfs_body_in_order.Goals as goal

pub returns-in_err-follow-clause-refused : goal.returns-in_err-follow-clause-refused
returns-in_err-follow-clause-refused g c =
    let b = c.args.seqs.now in
    let k = c.args.start in
    let s = c.index-seqs-index.result in
    let known = nested_read b k c.index.result s c.requires c.index.ensures c.index-seqs-index.is in
    let pushed = c.in_ok-push.ensures.items ∙ ap (λ (fs : List Step). fs ++ Resume k 0 ∷ []) c.new-stack.ensures.items in
    let e = err_from_is_err_and c.from_residual-in_err-follow.result c.from_residual-in_err-follow.ensures.1 in
    rw e.1 (body_part g.V.Visitor.step b k s known c.args.visitor.now c.start_instr_seq.new.self c.start_instr_seq.ensures c.push.new.self.items pushed c.follow.new.visitor c.in_err-follow.ensures.refused)

pub returns-clause-walked : goal.returns-clause-walked
returns-clause-walked g c =
    let b = c.args.seqs.now in
    let k = c.args.start in
    let s = c.index-seqs-index.result in
    let known = nested_read b k c.index.result s c.requires c.index.ensures c.index-seqs-index.is in
    let pushed = c.in_ok-push.ensures.items ∙ ap (λ (fs : List Step). fs ++ Resume k 0 ∷ []) c.new-stack.ensures.items in
    body_told g.V.Visitor.step b k s known c.args.visitor.now c.start_instr_seq.new.self c.start_instr_seq.ensures c.push.new.self.items pushed c.follow.new.visitor c.in_ok-follow.ensures.walked
