use Rattle.std.proofs.Common.{ℕ, Option, Ok, sym, ap, ◌∙◌}
use Rattle.walrus_index_maps.specs.Maps.{Ids}
use Rattle.walrus_instr.specs.declared.instr.Instr.{Instr}
use Rattle.walrus_operators.specs.Operators.{seen}
use Rattle.walrus_pairing.specs.Looks.{Or, id_of}
use Rattle.walrus_pairing.specs.Read.{instr_at}
use Rattle.walrus_body_steps.specs.walrus_body_rules.Sights.{look}
use Rattle.walrus_body_operands.proofs.Pairing.{answered}
use Rattle.walrus_body_operands.proofs.runs.paired.Goals as goal

abbrev good : Option Instr → Or (Option Instr)
good o = Ok o

pub unreachable-requires : goal.unreachable-requires
unreachable-requires g c =
    let s = g.S.Scope.sight c.args.scope.now in
    let op = c.args.op.now in
    let same = c.instr_of.ensures ∙ ap (λ (m : Ids). instr_at (id_of m c.function.result) (seen op)) c.indices.ensures ∙ ap (λ (f : ℕ). instr_at (id_of s.ids f) (seen op)) c.function.ensures in
    answered (look s) op c.requires.runs c.requires.plain (sym same ∙ c.in-Ok-None.is ∙ ap good c.in-Ok-None.field-0-is)

pub returns-in-Ok-Some : goal.returns-in-Ok-Some
returns-in-Ok-Some g c =
    let s = g.S.Scope.sight c.args.scope.now in
    let op = c.args.op.now in
    let same = c.instr_of.ensures ∙ ap (λ (m : Ids). instr_at (id_of m c.function.result) (seen op)) c.indices.ensures ∙ ap (λ (f : ℕ). instr_at (id_of s.ids f) (seen op)) c.function.ensures in
    sym same ∙ c.in-Ok-Some.is ∙ ap good c.in-Ok-Some.field-0-is

pub returns-in-Err : goal.returns-in-Err
returns-in-Err g c =
    let s = g.S.Scope.sight c.args.scope.now in
    let op = c.args.op.now in
    let same = c.instr_of.ensures ∙ ap (λ (m : Ids). instr_at (id_of m c.function.result) (seen op)) c.indices.ensures ∙ ap (λ (f : ℕ). instr_at (id_of s.ids f) (seen op)) c.function.ensures in
    (c.in-Err.error, sym same ∙ c.in-Err.is, c.fault_of.ensures)
