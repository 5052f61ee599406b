use Rattle.std.proofs.Common.{◌∙◌, ℕ, List, Option, map, arith, ap, refl, sym, length}
use Rattle.std.specs.List.{range_with_len}
use Rattle.std.proofs.lemmas.List.{length-map}
use Rattle.walrus_type_index.specs.walrus_items.declared.subtype.Type.{«Type» as TypeItem}
use Rattle.walrus_type_index.specs.walrus_items.Items.{Group, group_of}
use Rattle.walrus_type_arenas.specs.Table.{table_of}
use Rattle.walrus_type_arenas.specs.Groups.{member_kind}
use Rattle.walrus_type_arenas.proofs.GroupLemmas.{made-length, group-pushed, adds-group}
use Rattle.walrus_type_arenas.proofs.group.append_members.Goals as goal

pub push_types-requires-clause-types : goal.push_types-requires-clause-types
push_types-requires-clause-types c =
    omega (arith, length-map c.args.members.items member_kind, made-length c.in_ok-made.made.items (map member_kind c.args.members.items) c.next_id-first.result c.in_ok-made.ensures, c.args.members.ok.0, c.in_ok-reserve-2.ensures.room)

pub push_types-requires-clause-homes : goal.push_types-requires-clause-homes
push_types-requires-clause-homes c =
    omega (arith, length-map c.args.members.items member_kind, made-length c.in_ok-made.made.items (map member_kind c.args.members.items) c.next_id-first.result c.in_ok-made.ensures, c.args.members.ok.0, c.in_ok-reserve-3.ensures.ok)

pub push_types-requires-clause-index : goal.push_types-requires-clause-index
push_types-requires-clause-index c =
    omega (arith, length-map c.args.members.items member_kind, made-length c.in_ok-made.made.items (map member_kind c.args.members.items) c.next_id-first.result c.in_ok-made.ensures, c.args.members.ok.0, c.len-count.ensures, ap (λ (xs : List (Option TypeItem)). length xs) c.reserve-2.ensures.items, c.in_ok-reserve.ensures.room)

pub returns-clause-sound : goal.returns-clause-sound
returns-clause-sound c = record {
  held = c.push_types.ensures.held;
  grouped =
      rw (c.push_types.ensures.types, c.reserve-2.ensures.items, c.alloc_reserved-home.ensures.added, c.reserve-4.ensures.items, c.push_types.ensures.homes, c.reserve-3.ensures.items)
      (group-pushed c.args.types.now.slots c.args.groups.now.slots c.args.homes.now.items c.in_ok-made.made.items (map member_kind c.args.members.items)
      c.new.result c.next_id-first.result c.alloc_reserved-home.result c.args.explicit
      c.requires.sound.grouped
      (sym c.next_id-first.ensures)
      (sym (c.alloc_reserved-home.ensures.id ∙ ap length c.reserve-4.ensures.items))
      c.in_ok-made.ensures
      (ap group_of c.new.ensures ∙ ap (λ (xs : List ℕ). let g : Group = record { explicit = c.args.explicit; types = xs } in g)
      (c.in_ok-ids.ensures ∙ ap (λ (k : ℕ). range_with_len c.next_id-first.result k) (c.len-count.ensures ∙ c.args.members.ok.0 ∙ sym (length-map c.args.members.items member_kind)))));
}

pub returns-clause-added : goal.returns-clause-added
returns-clause-added c =
    rw (c.push_types.ensures.types, c.reserve-2.ensures.items, c.alloc_reserved-home.ensures.added, c.reserve-4.ensures.items)
    (adds-group c.args.types.now.slots c.args.groups.now.slots c.in_ok-made.made.items (map member_kind c.args.members.items) c.new.result c.next_id-first.result c.args.explicit (table_of c.args.types.now.slots c.args.groups.now.slots)
    refl
    (sym c.next_id-first.ensures)
    c.in_ok-made.ensures
    (ap group_of c.new.ensures ∙ ap (λ (xs : List ℕ). let g : Group = record { explicit = c.args.explicit; types = xs } in g)
    (c.in_ok-ids.ensures ∙ ap (λ (k : ℕ). range_with_len c.next_id-first.result k) (c.len-count.ensures ∙ c.args.members.ok.0 ∙ sym (length-map c.args.members.items member_kind))))
    (omega (arith, length-map c.args.members.items member_kind, c.args.members.ok.0, c.if-count-eq0.false)))
