use Rattle.std.proofs.Common.{◌∙◌, ◌≡◌, ◌<◌, ◌+◌, ℕ, List, [], Option, length, get_or, drop, flat_map, sym, ap, subst}
use Rattle.std.specs.List.{filter_map}
use Rattle.std.specs.Option.{option_or}
use Rattle.walrus_type_index.specs.walrus_items.walrus_forms.Kinds.{kind_names}
use Rattle.walrus_type_arenas.specs.declared.error.IrError.{IrError}
use Rattle.walrus_type_index.specs.walrus_items.Items.{kind_of}
use Rattle.walrus_type_arenas.specs.Table.{table_of}
use Rattle.walrus_type_arenas.specs.Emission.{fault_at, first_fault, index_at, written_kind}
use Rattle.walrus_type_arenas.proofs.EmitLemmas.{names-step}
use Rattle.walrus_type_arenas.proofs.emit.group_fault.Goals as goal

pub returns-in-Some-2 : goal.returns-in-Some-2
returns-in-Some-2 c =
    let t = table_of c.args.types.now.slots [] in
    let ids = c.args.group.now.types.items in
    let i = c.loop-id.id-index in
    let small = subst (λ (xs : List ℕ). i < length xs) c.deref-id-items.ensures.value c.loop-id-test.true in
    let is = subst (λ (xs : List ℕ). c.id-item.result ≡ get_or xs i c.id-item.result) c.deref-id-items.ensures.value c.id-item.is in
    let f = fault_at t (index_at c.args.indices.now) c.args.end in
    let rest = first_fault f (flat_map kind_names (filter_map (written_kind t) (drop (i + 1) ids))) in
    ap (λ (o : Option IrError). option_or o rest) (sym c.in-Some-2.is ∙ c.in_ok-fault.ensures) ∙ names-step f (written_kind t) ids i c.id-item.result (kind_of c.in-Some.ty.now) small is c.in-Some.ensures ∙ c.loop-id.invariant

pub loop-id-preserved : goal.loop-id-preserved
loop-id-preserved c =
    let t = table_of c.args.types.now.slots [] in
    let ids = c.args.group.now.types.items in
    let i = c.loop-id.id-index in
    let small = subst (λ (xs : List ℕ). i < length xs) c.deref-id-items.ensures.value c.loop-id-test.true in
    let is = subst (λ (xs : List ℕ). c.id-item.result ≡ get_or xs i c.id-item.result) c.deref-id-items.ensures.value c.id-item.is in
    let f = fault_at t (index_at c.args.indices.now) c.args.end in
    let rest = first_fault f (flat_map kind_names (filter_map (written_kind t) (drop (i + 1) ids))) in
    ap (λ (o : Option IrError). option_or o rest) (sym c.in_default-2.is ∙ c.in_ok-fault.ensures) ∙ names-step f (written_kind t) ids i c.id-item.result (kind_of c.in-Some.ty.now) small is c.in-Some.ensures ∙ c.loop-id.invariant
