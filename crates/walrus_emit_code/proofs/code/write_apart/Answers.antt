use Rattle.std.proofs.Common.{◌∙◌, ap}
use Rattle.walrus_index_maps.specs.Views.{indices}
use Rattle.walrus_body_writer.specs.declared.output.Output.{Output}
use Rattle.walrus_emit_code.proofs.CodeLemmas.{contents_written}
use Rattle.walrus_emit_code.proofs.PlaceLemmas.{placed_in}
use Rattle.walrus_emit_code.proofs.code.write_apart.Goals as goal

pub returns-clause-written : goal.returns-clause-written
returns-clause-written c =
    contents_written c.args.body.now.locals.now c.args.body.now.facts.now.function c.args.body.now.local.now c.args.body.now.facts.now.used_locals.items (indices c.args.maps.now) _ _ _ _
    c.clear.ensures.bytes c.in_ok-write_locals.ensures.numbered c.in_ok-write_locals.ensures.written c.in_ok-write_locals.ensures.few
    c.in_ok-write_operators.ensures.written c.in_ok-write_operators.ensures.short

pub returns-clause-placed : goal.returns-clause-placed
returns-clause-placed c =
    placed_in c.args.body.now.locals.now c.args.body.now.facts.now.function c.args.body.now.local.now c.args.body.now.facts.now.used_locals.items (indices c.args.maps.now) _ c.args.out.now.keeps_places c.clear.new.self c.write_locals.new.out c.write_operators.new.out
    c.clear.ensures.bytes c.clear.ensures.places c.clear.ensures.keeps c.in_ok-write_locals.ensures.same c.in_ok-write_locals.ensures.numbered c.in_ok-write_locals.ensures.written
    c.in_ok-write_operators.ensures.placed

pub returns-clause-same : goal.returns-clause-same
returns-clause-same c = c.in_ok-write_operators.ensures.same ∙ ap (λ (o : Output). o.keeps_places) c.in_ok-write_locals.ensures.same ∙ c.clear.ensures.keeps
