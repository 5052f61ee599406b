use Rattle.std.proofs.Common.{rules, sym, ◌∙◌, ◌≡◌, []}
use Rattle.walrus_collections.specs.LookUps.{items}
use Rattle.walrus_emit_sections.proofs.OwnLemmas.{item_refused, item_skipped, item_stopped, item_written, items_begin, items_end}
use Rattle.walrus_emit_sections.proofs.own.write_entries.Goals as goal

pub loop-item-init : goal.loop-item-init
loop-item-init g c = record {
  can = search rules;
  ends = search rules;
  some = items_begin g.W.OwnEntry.see g.W.OwnEntry.has_entry (g.W.OwnEntry.due c.args.writer.now) (items c.args.all.now) c.into_iter-item-iterator.result c.args.out.now.items (search rules);
}

pub returns-in-Err : goal.returns-in-Err
returns-in-Err g c =
    item_refused g.W.OwnEntry.see g.W.OwnEntry.has_entry (g.W.OwnEntry.due c.args.writer.now) (items c.args.all.now) c.loop-item.item-iterator c.next.new.self c.in-Some.item.now _ _ _ c.loop-item.count _
    c.in-Some.ensures.steps (sym c.has_entry.ensures ∙ c.if-has_entry.true) c.loop-item.invariant.some c.in-Err.ensures

pub returns-in_default : goal.returns-in_default
returns-in_default g c =
    item_stopped g.W.OwnEntry.see g.W.OwnEntry.has_entry (g.W.OwnEntry.due c.args.writer.now) (items c.args.all.now) c.loop-item.item-iterator c.next.new.self c.in-Some.item.now _ _ _ c.loop-item.count
    c.in-Some.ensures.steps (sym c.has_entry.ensures ∙ c.if-has_entry.true) c.loop-item.invariant.some c.in-Ok.ensures

pub loop-item-preserved-then-has_entry : goal.loop-item-preserved-then-has_entry
loop-item-preserved-then-has_entry g c = record {
  can = search rules;
  ends = search rules;
  some = item_written g.W.OwnEntry.see g.W.OwnEntry.has_entry (g.W.OwnEntry.due c.args.writer.now) (items c.args.all.now) c.loop-item.item-iterator c.next.new.self c.in-Some.item.now _ _ _ c.loop-item.count _
      c.in-Some.ensures.steps (sym c.has_entry.ensures ∙ c.if-has_entry.true) c.loop-item.invariant.some c.in-Ok.ensures (search rules);
}

pub loop-item-preserved : goal.loop-item-preserved
loop-item-preserved g c = record {
  can = search rules;
  ends = search rules;
  some = item_skipped g.W.OwnEntry.see g.W.OwnEntry.has_entry (g.W.OwnEntry.due c.args.writer.now) (items c.args.all.now) c.loop-item.item-iterator c.next.new.self c.in-Some.item.now _ _ c.loop-item.count
      c.in-Some.ensures.steps (sym c.has_entry.ensures ∙ c.if-has_entry.false) c.loop-item.invariant.some;
}

pub returns : goal.returns
returns g c =
    let none : c.loop-item.item-iterator ≡ [] = search rules in
    items_end g.W.OwnEntry.see g.W.OwnEntry.has_entry (g.W.OwnEntry.due c.args.writer.now) (items c.args.all.now) c.loop-item.item-iterator _ _ c.loop-item.count none c.loop-item.invariant.some
