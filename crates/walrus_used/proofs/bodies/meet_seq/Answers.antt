use Rattle.std.proofs.Common.{◌≡◌, [], sym, if◌then◌else◌}
use Rattle.std.specs.Prelude.{nat_eq}
use Rattle.std.specs.List.{fold}
use Rattle.walrus_marks.specs.walrus_walks.Events.{block_names}
use Rattle.walrus_marks.specs.Marks.{meet}
use Rattle.walrus_marks.specs.Named.{items_of}
use Rattle.walrus_references.specs.References.{instr_items}
use Rattle.walrus_used.proofs.BodyLemmas.{both_met}
use Rattle.walrus_used.proofs.bodies.meet_seq.Goals as goal

pub returns : goal.returns
returns c =
    let seq = c.args.seq.now in
    let met : c.meet_instrs.new.marks ≡ fold meet c.meet_block_type.new.marks (instr_items seq.instrs.items) = rw (sym c.as_slice-instrs.ensures.value) c.meet_instrs.ensures in
    both_met (if nat_eq c.args.index 0 then [] else items_of (block_names seq.ty)) (instr_items seq.instrs.items) c.args.marks.now c.meet_block_type.new.marks c.meet_instrs.new.marks c.meet_block_type.ensures met
