use Rattle.std.proofs.Common.{◌≡◌, ◌∙◌, ◌&&◌, ◌==◌, not, ℕ, All, List, ◌+◌, ◌++◌, length, map, false, ◌∷◌, [], subst, sym, ap, slice_index_or, OnOk, arith, length-append}
use Rattle.std.specs.List.{range_with_len}
use Rattle.std.proofs.lemmas.List.{length-map}
use Rattle.std.proofs.lemmas.List.FromFn.{length-range_with_len}
use Rattle.std.proofs.lemmas.Result.{on_ok_weaker}
use Rattle.walrus_type_arenas.specs.walrus_type_index.walrus_items.walrus_forms.Kinds.{Kind}
use Rattle.walrus_type_arenas.specs.walrus_type_index.walrus_items.walrus_forms.declared.record.TypeRecord.{TypeRecord}
use Rattle.walrus_type_arenas.specs.walrus_type_index.walrus_items.walrus_forms.Records.{TypeGroup, record_kind}
use Rattle.walrus_type_arenas.specs.walrus_type_index.walrus_items.walrus_forms.Renaming.{KindBelow, renamed_kind, at}
use Rattle.walrus_type_arenas.specs.Groups.{member_kind}
use Rattle.walrus_type_arenas.specs.Table.{next_id}
use Rattle.walrus_types.specs.Parsing.{Parsed, parsed_group}
use Rattle.walrus_types.proofs.ParseLemmas.{single-group, group-parsed}
use Rattle.walrus_types.proofs.table.ModuleTypes.parse_group.Goals as goal

pub parse_single-requires : goal.parse_single-requires
parse_single-requires c =
    let ty = c.index-types-0.result in
    let is : ty ≡ slice_index_or c.args.group.now.types.items 0 ty = c.index-types-0.is ∙ ap (λ (ts : List TypeRecord). slice_index_or ts 0 ty) c.as_slice-types.ensures.value in
    let same = single-group c.args.group.now ty (sym c.is_single.ensures ∙ c.if-is_single.true) is in
    let below : All (KindBelow (length c.args.ids.now.items + 1)) (record_kind ty ∷ []) =
    subst (λ (g : TypeGroup). All (KindBelow (length c.args.ids.now.items + length g.kinds)) g.kinds) same c.requires in
    below 0 (record_kind ty) (omega arith)

pub returns-then-is_single-clause-ids : goal.returns-then-is_single-clause-ids
returns-then-is_single-clause-ids c =
    let ty = c.index-types-0.result in
    let is : ty ≡ slice_index_or c.args.group.now.types.items 0 ty = c.index-types-0.is ∙ ap (λ (ts : List TypeRecord). slice_index_or ts 0 ty) c.as_slice-types.ensures.value in
    let same = single-group c.args.group.now ty (sym c.is_single.ensures ∙ c.if-is_single.true) is in
    let s : Parsed = record { ids = c.args.ids.now.items; table = c.args.self.now } in
    subst (λ (g : TypeGroup). OnOk c.parse_single.result (c.parse_single.new.ids.items ≡ (parsed_group g s).ids)) (sym same) c.parse_single.ensures.ids

pub returns-then-is_single-clause-table : goal.returns-then-is_single-clause-table
returns-then-is_single-clause-table c =
    let ty = c.index-types-0.result in
    let is : ty ≡ slice_index_or c.args.group.now.types.items 0 ty = c.index-types-0.is ∙ ap (λ (ts : List TypeRecord). slice_index_or ts 0 ty) c.as_slice-types.ensures.value in
    let same = single-group c.args.group.now ty (sym c.is_single.ensures ∙ c.if-is_single.true) is in
    let s : Parsed = record { ids = c.args.ids.now.items; table = c.args.self.now } in
    subst (λ (g : TypeGroup). OnOk c.parse_single.result (c.parse_single.new.self ≡ (parsed_group g s).table)) (sym same) c.parse_single.ensures.table

pub resolve_all-requires : goal.resolve_all-requires
resolve_all-requires c =
    let items = c.args.group.now.types.items in
    let ids = c.args.ids.now.items in
    let first : ℕ = next_id c.args.self.now in
    let kinds : List Kind = map record_kind items in
    let known : c.extend_from_slice.new.self.items ≡ ids ++ range_with_len first (length kinds) =
    c.in_ok-extend_from_slice.ensures.items ∙ ap (λ (xs : List ℕ). ids ++ xs) (c.as_slice.ensures.value ∙ c.in_ok-own.ensures
    ∙ ap (λ (n : ℕ). range_with_len n (length c.as_slice-types.result.now)) c.next_id-first.ensures
    ∙ ap (λ (n : ℕ). range_with_len first n) (ap (λ (ts : List TypeRecord). length ts) c.as_slice-types.ensures.value ∙ sym (length-map items record_kind))) in
    let count : length ids + length kinds ≡ length c.as_slice-2.result.now =
    omega (arith, length-append ids (range_with_len first (length kinds)), length-range_with_len first (length kinds), ap (λ (xs : List ℕ). length xs) known, ap (λ (xs : List ℕ). length xs) c.as_slice-2.ensures.value) in
    subst (λ (n : ℕ). All (KindBelow n) (map record_kind c.as_slice-types.result.now)) count
    (subst (λ (ts : List TypeRecord). All (KindBelow (length ids + length kinds)) (map record_kind ts)) (sym c.as_slice-types.ensures.value) c.requires)

pub returns-clause-ids : goal.returns-clause-ids
returns-clause-ids c =
    let items = c.args.group.now.types.items in
    let ids = c.args.ids.now.items in
    let first : ℕ = next_id c.args.self.now in
    let kinds : List Kind = map record_kind items in
    let known : c.extend_from_slice.new.self.items ≡ ids ++ range_with_len first (length kinds) =
    c.in_ok-extend_from_slice.ensures.items ∙ ap (λ (xs : List ℕ). ids ++ xs) (c.as_slice.ensures.value ∙ c.in_ok-own.ensures
    ∙ ap (λ (n : ℕ). range_with_len n (length c.as_slice-types.result.now)) c.next_id-first.ensures
    ∙ ap (λ (n : ℕ). range_with_len first n) (ap (λ (ts : List TypeRecord). length ts) c.as_slice-types.ensures.value ∙ sym (length-map items record_kind))) in
    let s : Parsed = record { ids = ids; table = c.args.self.now } in
    let other : (not c.args.group.now.marked && length kinds == 1) ≡ false =
    ap (λ (n : ℕ). not c.args.group.now.marked && n == 1) (length-map items record_kind) ∙ sym c.is_single.ensures ∙ c.if-is_single.false in
    let resolved = c.in_ok-members.ensures ∙ ap (λ (xs : List ℕ). map (renamed_kind (at xs)) (map record_kind c.as_slice-types.result.now)) c.as_slice-2.ensures.value
    ∙ ap (λ (ts : List TypeRecord). map (renamed_kind (at c.extend_from_slice.new.self.items)) (map record_kind ts)) c.as_slice-types.ensures.value in
    on_ok_weaker c.append_group.result (λ adds.
    ap (λ (p : Parsed). p.ids) (group-parsed c.args.group.now.marked kinds (map member_kind c.in_ok-members.members.items) s
    c.extend_from_slice.new.self.items c.append_group.new.self other known resolved adds))
    c.append_group.ensures.added

pub returns-clause-table : goal.returns-clause-table
returns-clause-table c =
    let items = c.args.group.now.types.items in
    let ids = c.args.ids.now.items in
    let first : ℕ = next_id c.args.self.now in
    let kinds : List Kind = map record_kind items in
    let known : c.extend_from_slice.new.self.items ≡ ids ++ range_with_len first (length kinds) =
    c.in_ok-extend_from_slice.ensures.items ∙ ap (λ (xs : List ℕ). ids ++ xs) (c.as_slice.ensures.value ∙ c.in_ok-own.ensures
    ∙ ap (λ (n : ℕ). range_with_len n (length c.as_slice-types.result.now)) c.next_id-first.ensures
    ∙ ap (λ (n : ℕ). range_with_len first n) (ap (λ (ts : List TypeRecord). length ts) c.as_slice-types.ensures.value ∙ sym (length-map items record_kind))) in
    let s : Parsed = record { ids = ids; table = c.args.self.now } in
    let other : (not c.args.group.now.marked && length kinds == 1) ≡ false =
    ap (λ (n : ℕ). not c.args.group.now.marked && n == 1) (length-map items record_kind) ∙ sym c.is_single.ensures ∙ c.if-is_single.false in
    let resolved = c.in_ok-members.ensures ∙ ap (λ (xs : List ℕ). map (renamed_kind (at xs)) (map record_kind c.as_slice-types.result.now)) c.as_slice-2.ensures.value
    ∙ ap (λ (ts : List TypeRecord). map (renamed_kind (at c.extend_from_slice.new.self.items)) (map record_kind ts)) c.as_slice-types.ensures.value in
    on_ok_weaker c.append_group.result (λ adds.
    ap (λ (p : Parsed). p.table) (group-parsed c.args.group.now.marked kinds (map member_kind c.in_ok-members.members.items) s
    c.extend_from_slice.new.self.items c.append_group.new.self other known resolved adds))
    c.append_group.ensures.added
