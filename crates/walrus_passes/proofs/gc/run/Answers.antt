use Rattle.walrus_refusals.specs.walrus_used.walrus_module.Parts.{parts}
use Rattle.walrus_refusals.specs.Sound.{IsSound}
use Rattle.walrus_passes.specs.Part.{IsKeptPart}
use Rattle.walrus_passes.proofs.AskedLemmas.{refused_these, shared_these, with_these}
use Rattle.walrus_passes.proofs.gc.run.Goals as goal

pub returns-clause-kept : goal.returns-clause-kept
returns-clause-kept g c =
    with_these c.in_ok-roots.ensures c.items.ensures.items (λ items. IsKeptPart (parts c.args.input.now) items (parts c.run_from_roots.new.input)) c.run_from_roots.result c.run_from_roots.ensures.kept

pub returns-clause-sound : goal.returns-clause-sound
returns-clause-sound g c = with_these c.in_ok-roots.ensures c.items.ensures.items (IsSound (parts c.args.input.now)) c.run_from_roots.result c.run_from_roots.ensures.sound

pub returns-clause-refused : goal.returns-clause-refused
returns-clause-refused g c = refused_these c.in_ok-roots.ensures c.items.ensures.items (parts c.args.input.now) c.run_from_roots.result c.run_from_roots.ensures.refused

pub returns-clause-shared : goal.returns-clause-shared
returns-clause-shared g c = shared_these c.in_ok-roots.ensures c.items.ensures.items c.run_from_roots.result c.items.ensures.shared
