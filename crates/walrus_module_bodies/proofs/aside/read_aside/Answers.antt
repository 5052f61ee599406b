use Rattle.std.proofs.Common.{◌+◌, ◌≤◌, ℕ, length, refl, subst, sym}
use Rattle.walrus_index_maps.specs.Views.{ids}
use Rattle.walrus_module_env.specs.walrus_body_parser.walrus_body_stack.walrus_builder.Built.{contents}
use Rattle.walrus_module_env.specs.walrus_body_parser.walrus_body_stack.walrus_builder.Functions.{seqs_of}
use Rattle.walrus_module_env.specs.walrus_collections.walrus_local_function.walrus_function_parser.Parsed.{telling}
use Rattle.walrus_module_bodies.proofs.AsideLemmas.{aside_read, counted_fault, counted_read, of_err, of_kept, of_ok, one_aside}
use Rattle.walrus_module_bodies.proofs.StopLemmas.{body_fault}
use Rattle.walrus_module_bodies.proofs.TryLemmas.{parsed_quiet}
use Rattle.walrus_module_bodies.specs.contracts.tries.TriesValidator.TheImpl.{ghosts}
use Rattle.walrus_module_bodies.proofs.aside.read_aside.Goals as goal

pub returns-clause-read : goal.returns-clause-read
returns-clause-read c =
    let e = c.args.env.now in
    let i = ids c.args.indices.now in
    let j = ids c.parse.new.indices in
    let any = c.new-any.ensures in
    of_ok c.parse.result
    (λ f p. counted_read e c.args.function (length c.args.args.items) c.args.body i j c.args.locals.now c.parse.new.locals (contents f.builder.builder)
    (aside_read c.files_are_seen.ensures e c.args.function i _ (one_aside e c.args.function i _ _ _ _ _ _ _ any.params any.results any.blocks any.tags any.memories any.counted) (length (i.locals c.args.function)) _ any.start c.args.body j (contents f.builder.builder) p))
    c.parse.ensures.parsed

pub returns-clause-stops : goal.returns-clause-stops
returns-clause-stops c =
    let e = c.args.env.now in
    let i = ids c.args.indices.now in
    let any = c.new-any.ensures in
    of_err c.parse.result
    (λ fault r. counted_fault e c.args.function (length c.args.args.items) c.args.body i fault
    (body_fault c.files_are_seen.ensures e c.args.function i r.met _ (one_aside e c.args.function i _ _ _ _ _ _ _ any.params any.results any.blocks any.tags any.memories any.counted) any.handlers
    (telling ghosts.locals_step ghosts.op_step ghosts.finish_step) (length (i.locals c.args.function)) _ any.start c.args.body _ _ _ _ fault c.requires.tags r.left
    c.requires.within (subst (λ (n : ℕ). n ≤ c.args.body.window.start + c.args.body.position) (sym any.start) c.requires.begins) (λ v offset r. refl) (λ v offset op. refl) (λ v offset. refl) r.refused))
    c.parse.ensures.refused

pub returns-clause-kept : goal.returns-clause-kept
returns-clause-kept c = of_kept _ _ c.parse.result c.parse.ensures.kept

pub returns-clause-tries : goal.returns-clause-tries
returns-clause-tries c =
    of_ok c.parse.result
    (λ f p. parsed_quiet _ _ _ c.args.body _ _ _ (ids c.parse.new.indices) _ _ (seqs_of f.builder) p)
    c.parse.ensures.parsed
