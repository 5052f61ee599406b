use Rattle.std.proofs.Common.{refl, inl}
use Rattle.std.proofs.lemmas.Result.{err_from_is_err_and}
use Rattle.walrus_arena.specs.Arena.{entries}
use Rattle.walrus_counts.specs.walrus_module.Parts.{parts}
use Rattle.walrus_inspect_cli.proofs.Telling.{kept_none, nothing, refused_none, told_kept, untold_kept}
use Rattle.walrus_inspect_cli.proofs.read.count_kept.Goals as goal

pub returns-in_err-run-clause-refused : goal.returns-in_err-run-clause-refused
returns-in_err-run-clause-refused c =
    let m = c.args.input.now in
    let p = err_from_is_err_and c.from_residual.result c.from_residual.ensures.1 in
    rw (p.1, p.2) (inl (refused_none nothing (λ b. refl) (entries m.customs) (parts m) c.in_err-run.field-0.0 c.in_err-run.ensures.refused))

pub returns-clause-told : goal.returns-clause-told
returns-clause-told c =
    let m = c.args.input.now in
    let n = c.run.new.input in
    told_kept (parts m) (parts n) (kept_none nothing (λ b. refl) (entries m.customs) (parts m) (parts n) c.in_ok-run.ensures.kept) c.count.result c.count.ensures.counted

pub returns-clause-refused : goal.returns-clause-refused
returns-clause-refused c =
    let m = c.args.input.now in
    let n = c.run.new.input in
    untold_kept (parts m) (parts n) (kept_none nothing (λ b. refl) (entries m.customs) (parts m) (parts n) c.in_ok-run.ensures.kept) c.count.result c.count.ensures.refused
