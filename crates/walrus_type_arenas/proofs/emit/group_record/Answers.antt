use Rattle.std.proofs.Common.{◌∙◌, ◌≡◌, ◌<◌, ◌++◌, ◌∷◌, ℕ, List, [], length, get_or, map, ap, subst}
use Rattle.std.proofs.lemmas.List.{map-append}
use Rattle.walrus_type_index.specs.walrus_items.walrus_forms.Kinds.{Kind}
use Rattle.walrus_type_index.specs.walrus_items.walrus_forms.Records.{record_kind}
use Rattle.walrus_type_index.specs.walrus_items.Items.{kind_of}
use Rattle.walrus_type_arenas.specs.Table.{table_of}
use Rattle.walrus_type_arenas.specs.Emission.{index_at, written_kind}
use Rattle.walrus_type_arenas.proofs.EmitLemmas.{records-skip, records-step, written-entry}
use Rattle.walrus_type_arenas.proofs.emit.group_record.Goals as goal

pub loop-id-preserved-in_default : goal.loop-id-preserved-in_default
loop-id-preserved-in_default c =
    let t = table_of c.args.types.now.slots [] in
    let i = c.loop-id.id-index in
    let small = subst (λ (xs : List ℕ). i < length xs) c.deref-id-items.ensures.value c.loop-id-test.true in
    let is = subst (λ (xs : List ℕ). c.id-item.result ≡ get_or xs i c.id-item.result) c.deref-id-items.ensures.value c.id-item.is in
    records-skip (index_at c.args.indices.now) (written_kind t) c.args.group.now.types.items i c.id-item.result (map record_kind c.loop-id.records.items) small is c.in_default.ensures c.loop-id.invariant

pub loop-id-preserved : goal.loop-id-preserved
loop-id-preserved c =
    let t = table_of c.args.types.now.slots [] in
    let i = c.loop-id.id-index in
    let small = subst (λ (xs : List ℕ). i < length xs) c.deref-id-items.ensures.value c.loop-id-test.true in
    let is = subst (λ (xs : List ℕ). c.id-item.result ≡ get_or xs i c.id-item.result) c.deref-id-items.ensures.value c.id-item.is in
    let k = kind_of c.in-Some.ty.now in
    let r = index_at c.args.indices.now in
    ap (map record_kind) c.in_ok-push.ensures.items ∙ map-append record_kind c.loop-id.records.items (c.in_ok-type_record.field-0 ∷ []) ∙ ap (λ (x : Kind). map record_kind c.loop-id.records.items ++ x ∷ []) c.in_ok-type_record.ensures
    ∙ records-step r (written_kind t) c.args.group.now.types.items i c.id-item.result (map record_kind c.loop-id.records.items) k small is c.in-Some.ensures (written-entry t c.id-item.result k c.in-Some.ensures) c.loop-id.invariant
