-- The worked bodies, computed.
use Rattle.std.proofs.Common.{refl}
use Rattle.wasm_operators.specs.Table.{structure_rows, call_rows, plain_rows, fc_rows}
use Rattle.wasm_operators.specs.wasm_reader.Shortest.{shortest_unsigned, shortest_signed}
use Rattle.wasm_normal_form.specs.Rows.{Nops, Added, Unused, Cut, Kept, Segments, Handled, Inner, Handed}

pub nops : Nops
unfolding structure_rows call_rows plain_rows shortest_unsigned shortest_signed
nops = record { spelled = refl; used = refl; writes = refl; stands = refl }

pub added : Added
unfolding structure_rows call_rows plain_rows shortest_unsigned shortest_signed
added = record { spelled = refl; used = refl; writes = refl; stands = refl }

pub unused : Unused
unfolding structure_rows call_rows plain_rows shortest_unsigned shortest_signed
unused = record { spelled = refl; used = refl; writes = refl; stands = refl }

pub cut : Cut
unfolding structure_rows call_rows plain_rows shortest_unsigned shortest_signed
cut = record { spelled = refl; used = refl; writes = refl; stands = refl }

pub kept : Kept
unfolding structure_rows call_rows plain_rows shortest_unsigned shortest_signed
kept = record { spelled = refl; used = refl; writes = refl; stands = refl }

pub segments : Segments
unfolding structure_rows fc_rows shortest_unsigned
segments = record { spelled = refl; used = refl; writes = refl; stands = refl }

pub handled : Handled
unfolding structure_rows call_rows plain_rows shortest_unsigned shortest_signed
handled = record { spelled = refl; used = refl; writes = refl; stands = refl }

pub inner : Inner
unfolding structure_rows call_rows plain_rows shortest_unsigned shortest_signed
inner = record { spelled = refl; used = refl; writes = refl; stands = refl }

pub handed : Handed
unfolding structure_rows call_rows plain_rows shortest_unsigned shortest_signed
handed = record { spelled = refl; used = refl; writes = refl; stands = refl }
