use Rattle.wasm_normal_form.proofs.Worked.{nops, added, unused, cut, kept, segments, handled, inner, handed}
use Rattle.wasm_normal_form.proofs.laws.worked_bodies.Goals as goal

pub returns-clause-nops : goal.returns-clause-nops
returns-clause-nops c = nops

pub returns-clause-added : goal.returns-clause-added
returns-clause-added c = added

pub returns-clause-unused : goal.returns-clause-unused
returns-clause-unused c = unused

pub returns-clause-cut : goal.returns-clause-cut
returns-clause-cut c = cut

pub returns-clause-kept : goal.returns-clause-kept
returns-clause-kept c = kept

pub returns-clause-segments : goal.returns-clause-segments
returns-clause-segments c = segments

pub returns-clause-handled : goal.returns-clause-handled
returns-clause-handled c = handled

pub returns-clause-inner : goal.returns-clause-inner
returns-clause-inner c = inner

pub returns-clause-handed : goal.returns-clause-handed
returns-clause-handed c = handed
