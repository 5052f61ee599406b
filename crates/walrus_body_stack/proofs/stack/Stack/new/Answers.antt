use Rattle.std.proofs.Common.{◌≡◌, ◌∙◌, List, Some, ap, sym, subst}
use Rattle.std.specs.Prelude.{slice_index_or}
use Rattle.walrus_instr.specs.declared.seq.InstrSeq.{InstrSeq}
use Rattle.walrus_instr.specs.declared.seq.InstrSeqType.{InstrSeqType}
use Rattle.walrus_body_nesting.specs.walrus_builder.Built.{contents}
use Rattle.walrus_body_nesting.specs.Opens.{type_at}
use Rattle.walrus_body_stack.proofs.Labels.{first_type, body_open}
use Rattle.walrus_body_stack.proofs.stack.Stack.new.Goals as goal

pub returns-clause-opens : goal.returns-clause-opens
returns-clause-opens c =
    let x = c.index-seqs-0.result in
    let F : List InstrSeq → Type 0 = λ ss. type_at (contents c.args.builder.builder) 0 ≡ Some (slice_index_or ss 0 x).ty in (
      c.get-ty.result,
      subst F (sym c.seqs.ensures) (first_type c.args.builder.builder.seqs x c.requires) ∙ ap (λ (ty : InstrSeqType). Some ty) (sym c.get-ty.ensures),
      body_open (record { alloc = c.args.alloc; builder = c.args.builder; nest = c.new.result; handlers = c.new-2.result; clauses = c.new-3.result })
          c.get-ty.result c.default.result c.func_body_id-first.result c.new.ensures c.default.ensures c.func_body_id-first.ensures,
    )
