use Rattle.std.proofs.Common.{◌≡◌, drop}
use Rattle.std.specs.Prelude.{slice_get}
use Rattle.walrus_body_writer.specs.walrus_tree.walrus_builder.Functions.{seqs_of}
use Rattle.walrus_body_names.specs.Names.{all_constant, are_constants}
use Rattle.walrus_body_names.proofs.facts.is_const.Given as goal

abbrev pub invariant-loop-instr : goal.invariant-loop-instr
invariant-loop-instr l = all_constant (drop l.instr-index l.instr-items) ≡ are_constants (slice_get (seqs_of l.body) 0)
