use Rattle.std.proofs.Common.{rules}
use Rattle.walrus_emit_sections.proofs.OwnLemmas.{own_refused, none_written, all_written}
use Rattle.walrus_emit_sections.proofs.own.write_own.Goals as goal

pub returns-in-Err-write_entries : goal.returns-in-Err-write_entries
returns-in-Err-write_entries g c =
    own_refused g.W.OwnEntry.see g.W.OwnEntry.has_entry (g.W.OwnEntry.due c.args.writer.now) c.args.all.now c.args.id _ _ _ _ c.in-Ok.ensures c.in-Err-write_entries.ensures

pub returns-then-count-eq0 : goal.returns-then-count-eq0
returns-then-count-eq0 g c =
    rw c.truncate.ensures.items (none_written g.W.OwnEntry.see g.W.OwnEntry.has_entry (g.W.OwnEntry.due c.args.writer.now) c.args.all.now c.args.id _ _ _ c.len-front.result c.in-Ok-write_entries.count (search rules)
    c.in-Ok.ensures c.if-count-eq0.true c.in-Ok-write_entries.ensures.0 c.in-Ok-write_entries.ensures.1)

pub returns : goal.returns
returns g c =
    all_written g.W.OwnEntry.see g.W.OwnEntry.has_entry (g.W.OwnEntry.due c.args.writer.now) c.args.all.now c.args.id _ _ _ _ c.len-start.result c.in-Ok-write_entries.count _ (search rules)
    c.in-Ok.ensures c.if-count-eq0.false c.in-Ok-write_entries.ensures.0 c.in-Ok-write_entries.ensures.1 c.close.ensures
