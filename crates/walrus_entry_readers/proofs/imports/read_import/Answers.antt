use Rattle.std.proofs.Common.{sym, subst, Err}
use Rattle.std.proofs.lemmas.Result.{err_from_is_err_and}
use Rattle.walrus_known_sections.specs.wasm_sections.Entities.{import_entry}
use Rattle.walrus_section_reader.specs.declared.fault.Fault.{Fault}
use Rattle.walrus_section_reader.specs.Parses.{ParsesExactly}
use Rattle.walrus_entry_readers.specs.Imports.{import_entry_of}
use Rattle.walrus_entry_readers.specs.ImportLemmas.{any_at, entity_at, exactly_on, ahead_err, limit_err, entity_err, entity_ok}
use Rattle.walrus_known_sections.specs.State.{state_of}
use Rattle.walrus_entry_readers.proofs.imports.read_import.Goals as goal

pub returns-in_err-any : goal.returns-in_err-any
returns-in_err-any c =
    let f = c.args.reader.now.window.features in
    let s = state_of c.args.sections.now in
    let p = err_from_is_err_and c.from_residual-in_err-any.result c.from_residual-in_err-any.ensures.1 in
    let names = c.in_ok-module.ensures in
    let o = c.original_position-offset in
    exactly_on (import_entry f s).parse import_entry_of _ _ _ _ _ p.1 p.2
    (ahead_err f s c.args.reader.now o.result o.ensures.place o.ensures.left c.read_front.new.reader c.in_ok-module.module c.in_ok-module.name c.in_ok-module.kind names _ _
    (any_at s c.in_ok-module.kind c.args.reader.now c.read_front.new.reader c.shrink-ahead.result c.read_any_entity.new.reader _ names.moves.window c.shrink-ahead.ensures c.in_err-any.ensures))

pub returns-in-Some : goal.returns-in-Some
returns-in-Some c =
    let f = c.args.reader.now.window.features in
    let s = state_of c.args.sections.now in
    let names = c.in_ok-module.ensures in
    let o = c.original_position-offset in
    subst (λ (e : Fault). ParsesExactly (import_entry f s).parse import_entry_of c.args.reader.now c.read_front.new.reader (Err e)) (sym c.new.ensures)
    (limit_err f s c.args.reader.now o.result o.ensures.place o.ensures.left c.read_front.new.reader c.in_ok-module.module c.in_ok-module.name c.in_ok-module.kind names _ _ c.in-Some.fault _ c.in-Some.is c.import_fault.ensures
    (any_at s c.in_ok-module.kind c.args.reader.now c.read_front.new.reader c.shrink-ahead.result c.read_any_entity.new.reader _ names.moves.window c.shrink-ahead.ensures c.in_ok-any.ensures))

pub returns-in_err-entity : goal.returns-in_err-entity
returns-in_err-entity c =
    let f = c.args.reader.now.window.features in
    let s = state_of c.args.sections.now in
    let p = err_from_is_err_and c.from_residual-in_err-entity.result c.from_residual-in_err-entity.ensures.1 in
    let names = c.in_ok-module.ensures in
    let o = c.original_position-offset in
    exactly_on (import_entry f s).parse import_entry_of _ _ _ _ _ p.1 p.2
    (entity_err f s c.args.reader.now o.result o.ensures.place o.ensures.left c.read_front.new.reader c.in_ok-module.module c.in_ok-module.name c.in_ok-module.kind names _ _ _ _ _ c.in-None.is c.import_fault.ensures
    (any_at s c.in_ok-module.kind c.args.reader.now c.read_front.new.reader c.shrink-ahead.result c.read_any_entity.new.reader _ names.moves.window c.shrink-ahead.ensures c.in_ok-any.ensures)
    (entity_at s c.in_ok-module.kind c.args.reader.now c.read_front.new.reader c.read_entity.new.reader _ names.moves.window c.in_err-entity.ensures))

pub returns : goal.returns
returns c =
    let f = c.args.reader.now.window.features in
    let s = state_of c.args.sections.now in
    let names = c.in_ok-module.ensures in
    let o = c.original_position-offset in
    entity_ok f s c.args.reader.now o.result o.ensures.place o.ensures.left c.read_front.new.reader c.in_ok-module.module c.in_ok-module.name c.in_ok-module.kind names _ _ _ _ _ c.in-None.is c.import_fault.ensures
    (any_at s c.in_ok-module.kind c.args.reader.now c.read_front.new.reader c.shrink-ahead.result c.read_any_entity.new.reader _ names.moves.window c.shrink-ahead.ensures c.in_ok-any.ensures)
    (entity_at s c.in_ok-module.kind c.args.reader.now c.read_front.new.reader c.read_entity.new.reader _ names.moves.window c.in_ok-entity.ensures)
