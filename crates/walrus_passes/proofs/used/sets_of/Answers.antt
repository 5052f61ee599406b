use Rattle.std.proofs.Common.{◌^◌, arith}
use Rattle.walrus_refusals.specs.walrus_used.walrus_module.Parts.{parts}
use Rattle.walrus_refusals.specs.walrus_used.Counts.{counts_of}
use Rattle.walrus_passes.specs.Keeping.{IsHeld}
use Rattle.walrus_passes.proofs.SetLemmas.{all_sets, bounded_by}
use Rattle.walrus_passes.proofs.used.sets_of.Goals as goal

pub set_of-requires-2 : goal.set_of-requires-2
set_of-requires-2 g c = bounded_by c.id_counts-counts.result (counts_of (parts c.args.input.now)) (2 ^ 32) c.id_counts-counts.ensures.counts c.id_counts-counts.ensures.bounded 1 (omega arith)

pub set_of-requires-3 : goal.set_of-requires-3
set_of-requires-3 g c = bounded_by c.id_counts-counts.result (counts_of (parts c.args.input.now)) (2 ^ 32) c.id_counts-counts.ensures.counts c.id_counts-counts.ensures.bounded 2 (omega arith)

pub set_of-requires-4 : goal.set_of-requires-4
set_of-requires-4 g c = bounded_by c.id_counts-counts.result (counts_of (parts c.args.input.now)) (2 ^ 32) c.id_counts-counts.ensures.counts c.id_counts-counts.ensures.bounded 3 (omega arith)

pub set_of-requires-5 : goal.set_of-requires-5
set_of-requires-5 g c = bounded_by c.id_counts-counts.result (counts_of (parts c.args.input.now)) (2 ^ 32) c.id_counts-counts.ensures.counts c.id_counts-counts.ensures.bounded 4 (omega arith)

pub set_of-requires-6 : goal.set_of-requires-6
set_of-requires-6 g c = bounded_by c.id_counts-counts.result (counts_of (parts c.args.input.now)) (2 ^ 32) c.id_counts-counts.ensures.counts c.id_counts-counts.ensures.bounded 5 (omega arith)

pub set_of-requires-7 : goal.set_of-requires-7
set_of-requires-7 g c = bounded_by c.id_counts-counts.result (counts_of (parts c.args.input.now)) (2 ^ 32) c.id_counts-counts.ensures.counts c.id_counts-counts.ensures.bounded 6 (omega arith)

pub set_of-requires-8 : goal.set_of-requires-8
set_of-requires-8 g c = bounded_by c.id_counts-counts.result (counts_of (parts c.args.input.now)) (2 ^ 32) c.id_counts-counts.ensures.counts c.id_counts-counts.ensures.bounded 7 (omega arith)

pub returns : goal.returns
returns g c = all_sets (IsHeld c.args.kept.now) c.id_counts-counts.result (counts_of (parts c.args.input.now)) _ c.id_counts-counts.ensures.counts record {
  of_types = c.in_ok-set_of.ensures;
  of_funcs = c.in_ok-set_of-2.ensures;
  of_tables = c.in_ok-set_of-3.ensures;
  of_memories = c.in_ok-set_of-4.ensures;
  of_tags = c.in_ok-set_of-5.ensures;
  of_globals = c.in_ok-set_of-6.ensures;
  of_elements = c.in_ok-set_of-7.ensures;
  of_data_segments = c.in_ok-set_of-8.ensures;
}
