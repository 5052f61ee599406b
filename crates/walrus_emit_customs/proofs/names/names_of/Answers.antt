use Rattle.std.proofs.Common.{rules, ap, ◌∙◌, ◌≡◌, ◌++◌, List, []}
use Rattle.walrus_index_maps.specs.Views.{indices}
use Rattle.walrus_module.specs.walrus_collections.LookUps.{items}
use Rattle.wasm_name_payloads.specs.Written.{NameMap}
use Rattle.walrus_payload_writers.specs.Names.{entries_of}
use Rattle.walrus_payload_writers.specs.declared.entries.NameEntry.{NameEntry}
use Rattle.walrus_emit_customs.specs.Names.{by_number, entry, item_entry}
use Rattle.walrus_emit_customs.proofs.NameLemmas.{all_made, none_made, one_made}
use Rattle.walrus_emit_customs.proofs.names.names_of.Goals as goal

pub loop-item-init : goal.loop-item-init
loop-item-init g c = record {
  can = search rules;
  ends = search rules;
  made = none_made (item_entry (g.T.Named.numbered (indices c.args.maps.now)) g.T.Named.named) (items c.args.items.now) c.into_iter-item-iterator.result (entries_of c.new-entries.result.items) (search rules)
      (ap (λ (l : List NameEntry). entries_of l) c.new-entries.ensures.items);
}

pub loop-item-preserved : goal.loop-item-preserved
loop-item-preserved g c = record {
  can = search rules;
  ends = search rules;
  made = one_made (item_entry (g.T.Named.numbered (indices c.args.maps.now)) g.T.Named.named) (items c.args.items.now) c.loop-item.item-iterator c.next.new.self c.in-Some.item.now _ _
      c.in-Some.ensures.steps c.loop-item.invariant.made (c.in_ok-add.ensures ∙ (λ k. entries_of c.loop-item.entries.items ++ entry (c.number.ensures k) (c.name.ensures k)));
}

pub returns : goal.returns
returns g c =
    let none : c.loop-item.item-iterator ≡ [] = search rules in
    c.in_ok-sort.ensures
    ∙ ap (λ (l : NameMap). by_number l) (all_made (item_entry (g.T.Named.numbered (indices c.args.maps.now)) g.T.Named.named) (items c.args.items.now) c.loop-item.item-iterator _ none c.loop-item.invariant.made)
