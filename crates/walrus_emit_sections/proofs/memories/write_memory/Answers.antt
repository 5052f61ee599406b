use Rattle.std.proofs.Common.{ℕ, ◌≡◌, ◌++◌, subst}
use Rattle.walrus_item_meaning.specs.Meaning.{own_memory}
use Rattle.walrus_emit_parts.specs.Due.{Refused, written}
use Rattle.walrus_emit_parts.proofs.Lemmas.{refused_front, writes_on}
use Rattle.walrus_emit_due.specs.Values.{limits, optional}
use Rattle.walrus_emit_due.specs.Items.{memory_flags}
use Rattle.walrus_emit_sections.proofs.memories.write_memory.Goals as goal

pub returns-in-Err : goal.returns-in-Err
returns-in-Err c =
    let it = c.args.item.now in
    refused_front (limits (memory_flags (own_memory it)) it.initial it.maximum) (optional it.page_size_log2) _ _ _
    (subst (λ (f : ℕ). Refused (limits f it.initial it.maximum) c.args.out.now.items c.write_limits.new.out.items c.in-Err.error) c.flags.ensures c.in-Err.ensures)

pub returns : goal.returns
returns c =
    let it = c.args.item.now in
    writes_on _ _ _ (limits (memory_flags (own_memory it)) it.initial it.maximum) (optional it.page_size_log2) _
    (subst (λ (f : ℕ). written c.write_limits.new.out.items ≡ written c.args.out.now.items ++ limits f it.initial it.maximum) c.flags.ensures c.in-Ok.ensures) c.write_page.ensures
