use Rattle.std.proofs.Common.{◌∙◌, refl}
use Rattle.walrus_module.specs.Parts.{parts}
use Rattle.walrus_emit_numbers.specs.Undeclared.{undeclared_of}
use Rattle.walrus_emit.proofs.DeclaredLemmas.{none_declared, some_declared}
use Rattle.walrus_emit.proofs.segment.declare.Goals as goal

pub returns-then-is_empty-clause-added : goal.returns-then-is_empty-clause-added
returns-then-is_empty-clause-added g c =
    none_declared c.as_slice.result.now (undeclared_of c.args.input.now c.args.facts.now) (parts c.args.input.now) c.is_empty.result c.is_empty.ensures c.if-is_empty.true (c.as_slice.ensures.value ∙ c.in_ok-functions.ensures)

pub returns-clause-added : goal.returns-clause-added
returns-clause-added g c =
    some_declared c.in_ok-functions.functions c.as_slice.result.now (undeclared_of c.args.input.now c.args.facts.now) (parts c.args.input.now) (record (parts c.args.input.now) { elements = c.add.new.self }) c.in_ok-add.field-0
    c.is_empty.result c.is_empty.ensures c.if-is_empty.false c.as_slice.ensures.value c.in_ok-functions.ensures refl c.in_ok-add.ensures.id c.in_ok-add.ensures.added
