use Rattle.std.proofs.Common.{◌≡◌, ◌∙◌, ℕ, zero, suc, List, [], ◌∷◌, ap, refl, Some, subst}
use Rattle.std.specs.Prelude.{slice_get, slice_index_or}
use Rattle.std.specs.Option.{option_map}
use Rattle.walrus_handler_types.specs.Giving.{GivesType}
use Rattle.walrus_handlers.specs.walrus_handler_laws.Retyping.{with_type}
use Rattle.walrus_handlers.specs.walrus_tree.walrus_builder.Built.{seq_of}
use Rattle.walrus_handlers.specs.walrus_tree.walrus_builder.Edited.{contents_at, written_edits}
use Rattle.walrus_handlers.specs.walrus_tree.walrus_builder.Functions.{seqs_of}
use Rattle.walrus_handlers.specs.walrus_tree.walrus_walks.walrus_instr.declared.seq.InstrSeq.{InstrSeq}
use Rattle.walrus_handlers.specs.walrus_tree.walrus_walks.walrus_instr.declared.seq.InstrSeqType.{InstrSeqType}
use Rattle.walrus_handler_types.proofs.give.give_handler.Goals as goal

there : (xs : List InstrSeq) (k : ℕ) (d y : InstrSeq) → slice_get xs k ≡ Some y → slice_index_or xs k d ≡ y
there [] k d y e = absurd cc
there (x ∷ xs) zero d y e = cc
there (x ∷ xs) (suc k) d y e = there xs k d y e

pub returns-clause-given : goal.returns-clause-given
returns-clause-given c =
    let ty = c.in_ok-ty.ty in
    let seqs = seqs_of c.args.body.now in
    let y = c.seq_mut-seq.result.now in
    let found = c.seq_mut-seq.ensures.value in
    let d = c.index-seqs-index.result in
    let same = ap (λ (l : List InstrSeq). slice_index_or l c.index.result d) c.seqs.ensures ∙ ap (λ (k : ℕ). slice_index_or seqs k d) c.index.ensures ∙ there seqs c.args.id d y found in (
      seq_of y,
      contents_at c.args.body.now.builder c.args.id ∙ ap (option_map seq_of) found,
      ty,
      subst (λ (z : InstrSeq). GivesType c.args.handler z.ty c.args.types.now ty c.handler_type.new.types) same c.in_ok-ty.ensures.given,
      written_edits (with_type ty) seqs c.args.id y _ found (ap (λ (t : InstrSeqType). with_type t (seq_of y)) c.new-given.ensures),
    )
