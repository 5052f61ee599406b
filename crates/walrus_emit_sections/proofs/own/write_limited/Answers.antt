use Rattle.walrus_item_meaning.specs.Meaning.{slots_of}
use Rattle.walrus_emit_due.specs.Own.{own_section}
use Rattle.walrus_emit_sections.proofs.OwnLemmas.{live_passed, live_within}
use Rattle.walrus_emit_sections.proofs.own.write_limited.Goals as goal

pub returns-in-Err : goal.returns-in-Err
returns-in-Err g c =
    live_passed g.W.OwnEntry.see c.args.all.now c.args.most c.args.of (own_section c.args.id g.W.OwnEntry.has_entry (g.W.OwnEntry.due c.args.writer.now) (slots_of g.W.OwnEntry.see c.args.all.now))
    c.args.out.now.items _ c.in-Err.ensures

pub returns : goal.returns
returns g c =
    live_within g.W.OwnEntry.see c.args.all.now c.args.most c.args.of (own_section c.args.id g.W.OwnEntry.has_entry (g.W.OwnEntry.due c.args.writer.now) (slots_of g.W.OwnEntry.see c.args.all.now))
    _ _ _ c.in-Ok.ensures c.write_own.ensures
