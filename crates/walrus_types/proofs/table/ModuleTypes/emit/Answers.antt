use Rattle.std.proofs.Common.{◌≡◌, ◌∙◌, ℕ, [], List, Bor, Vec, Global, Result, IfOk, IfErr, None, Some, length, map, refl, sym, ap, subst}
use Rattle.walrus_type_arenas.specs.walrus_type_index.walrus_items.walrus_forms.Records.{TypeGroup, type_group}
use Rattle.walrus_type_arenas.specs.walrus_type_index.walrus_items.walrus_forms.declared.record.GroupRecord.{GroupRecord}
use Rattle.walrus_type_arenas.specs.walrus_type_index.walrus_items.declared.subtype.RecGroup.{RecGroup}
use Rattle.walrus_type_arenas.specs.walrus_type_index.walrus_items.Items.{group_of}
use Rattle.walrus_type_arenas.specs.declared.error.IrError.{IrError}
use Rattle.walrus_type_arenas.specs.Table.{Table, table_of}
use Rattle.walrus_type_arenas.specs.Emission.{IsEmission, IsRefusal, index_at, groups_fault, described_group, written_types}
use Rattle.walrus_types.specs.Inverse.{AreInverse}
use Rattle.walrus_types.specs.Mergers.{entries_of}
use Rattle.walrus_types.specs.Parsing.{AreBelow}
use Rattle.walrus_types.proofs.BelowLemmas.{groups-below}
use Rattle.walrus_type_arenas.proofs.EmitLemmas.{shown-groups, arranged-by, fault-by, described-by, below-by, fault-refuses}
use Rattle.walrus_type_arenas.proofs.LawLemmas.{grouped-law}
use Rattle.walrus_types.proofs.OnceLemmas.{inverse-law, counted-law}
use Rattle.walrus_types.proofs.table.ModuleTypes.emit.Goals as goal

pub indices_of-requires-clause-within : goal.indices_of-requires-clause-within
indices_of-requires-clause-within c =
    below-by c.self.inside.types.slots c.as_slice.result.now c.in_ok-written.written.items c.as_slice-2.result.now c.index-count.result c.in_ok-written.ensures c.as_slice-2.ensures.value (c.index-count.ensures ∙ c.next_id.ensures)

pub returns-clause-refused : goal.returns-clause-refused
returns-clause-refused c =
    let types = c.self.inside.types.slots in
    let groups = c.self.inside.groups.slots in
    let gs = c.in_ok-groups.groups.items in
    let indices = c.in_ok-indices.indices.items in
    let arranged = arranged-by types groups gs c.as_slice.result.now c.in_ok-written.written.items c.as_slice-2.result.now c.index-count.result indices c.in_ok-groups.ensures c.as_slice.ensures.value c.in_ok-written.ensures c.as_slice-2.ensures.value (c.index-count.ensures ∙ c.next_id.ensures) c.in_ok-indices.ensures in
    let faulty = subst (λ (r : Result (Vec GroupRecord Global) IrError). IfErr r (λ fault. groups_fault (table_of types []) (index_at c.as_slice-3.result.now) 0 (shown-groups c.as_slice-4.result.now) ≡ Some fault)) c.in-Err.is c.in_ok-made.ensures.faulty in
    let found = fault-by types groups gs c.as_slice-4.result.now indices c.as_slice-3.result.now (Some c.in-Err.fault) c.as_slice-4.ensures.value c.as_slice-3.ensures.value (sym faulty) in
    subst (λ (t : Table). IsRefusal t c.in-Err.fault) c.self.view_is
    (fault-refuses _ c.in-Err.fault (record { groups = map (λ (g : Bor RecGroup). group_of g.now) gs; indices = indices; arranged = arranged; found = found }))

pub returns-in-Ok-clause-emitted : goal.returns-in-Ok-clause-emitted
returns-in-Ok-clause-emitted c =
    let types = c.self.inside.types.slots in
    let groups = c.self.inside.groups.slots in
    let gs = c.in_ok-groups.groups.items in
    let indices = c.in_ok-indices.indices.items in
    let arranged = arranged-by types groups gs c.as_slice.result.now c.in_ok-written.written.items c.as_slice-2.result.now c.index-count.result indices c.in_ok-groups.ensures c.as_slice.ensures.value c.in_ok-written.ensures c.as_slice-2.ensures.value (c.index-count.ensures ∙ c.next_id.ensures) c.in_ok-indices.ensures in
    let no-fault = subst (λ (r : Result (Vec GroupRecord Global) IrError). IfOk r (λ records. groups_fault (table_of types []) (index_at c.as_slice-3.result.now) 0 (shown-groups c.as_slice-4.result.now) ≡ None)) c.in-Ok.is c.in_ok-made.ensures.sound in
    let made = subst (λ (r : Result (Vec GroupRecord Global) IrError). IfOk r (λ records. map type_group records.items ≡ map (described_group (table_of types []) (index_at c.as_slice-3.result.now)) (shown-groups c.as_slice-4.result.now))) c.in-Ok.is c.in_ok-made.ensures.described in
    let sound = fault-by types groups gs c.as_slice-4.result.now indices c.as_slice-3.result.now None c.as_slice-4.ensures.value c.as_slice-3.ensures.value (sym no-fault) in
    let described = described-by types groups gs c.as_slice-4.result.now indices c.as_slice-3.result.now (map type_group c.in-Ok.groups.items) c.as_slice-4.ensures.value c.as_slice-3.ensures.value made in
    subst (λ (t : Table). IsEmission t (map type_group c.in-Ok.groups.items) indices) c.self.view_is
    (record { groups = map (λ (g : Bor RecGroup). group_of g.now) gs; arranged = arranged; sound = sound; described = described })

pub returns-in-Ok-clause-below : goal.returns-in-Ok-clause-below
returns-in-Ok-clause-below c =
    let types = c.self.inside.types.slots in
    let groups = c.self.inside.groups.slots in
    let gs = c.in_ok-groups.groups.items in
    let indices = c.in_ok-indices.indices.items in
    let no-fault = subst (λ (r : Result (Vec GroupRecord Global) IrError). IfOk r (λ records. groups_fault (table_of types []) (index_at c.as_slice-3.result.now) 0 (shown-groups c.as_slice-4.result.now) ≡ None)) c.in-Ok.is c.in_ok-made.ensures.sound in
    let made = subst (λ (r : Result (Vec GroupRecord Global) IrError). IfOk r (λ records. map type_group records.items ≡ map (described_group (table_of types []) (index_at c.as_slice-3.result.now)) (shown-groups c.as_slice-4.result.now))) c.in-Ok.is c.in_ok-made.ensures.described in
    let sound = fault-by types groups gs c.as_slice-4.result.now indices c.as_slice-3.result.now None c.as_slice-4.ensures.value c.as_slice-3.ensures.value (sym no-fault) in
    let described = described-by types groups gs c.as_slice-4.result.now indices c.as_slice-3.result.now (map type_group c.in-Ok.groups.items) c.as_slice-4.ensures.value c.as_slice-3.ensures.value made in
    subst (λ (rs : List TypeGroup). AreBelow 0 rs) (sym described) (groups-below (table_of types groups) (index_at indices) 0 (map (λ (g : Bor RecGroup). group_of g.now) gs) sound)

pub returns-in-Ok-clause-inverse : goal.returns-in-Ok-clause-inverse
returns-in-Ok-clause-inverse c =
    let t : Table = table_of c.self.inside.types.slots c.self.inside.groups.slots in
    let gs = c.in_ok-groups.groups.items in
    let indices = c.in_ok-indices.indices.items in
    let arranged = arranged-by c.self.inside.types.slots c.self.inside.groups.slots gs c.as_slice.result.now c.in_ok-written.written.items c.as_slice-2.result.now c.index-count.result indices c.in_ok-groups.ensures c.as_slice.ensures.value c.in_ok-written.ensures c.as_slice-2.ensures.value (c.index-count.ensures ∙ c.next_id.ensures) c.in_ok-indices.ensures in
    let grouped = grouped-law c.self.inside.types.slots c.self.inside.groups.slots c.self.inside.homes.items t c.self.invariant.grouped refl in
    let ids : c.in_ok-written.written.items ≡ written_types t (shown-groups gs) = c.in_ok-written.ensures ∙ ap (λ (xs : List (Bor RecGroup)). written_types t (shown-groups xs)) c.as_slice.ensures.value in
    subst (λ (ns : List ℕ). AreInverse ns indices) (sym ids) (inverse-law t grouped (shown-groups gs) (length t.types) indices arranged.in_order arranged.indexed)

pub returns-in-Ok-clause-counted : goal.returns-in-Ok-clause-counted
returns-in-Ok-clause-counted c =
    let types = c.self.inside.types.slots in
    let groups = c.self.inside.groups.slots in
    let t : Table = table_of types groups in
    let gs = c.in_ok-groups.groups.items in
    let indices = c.in_ok-indices.indices.items in
    let made = subst (λ (r : Result (Vec GroupRecord Global) IrError). IfOk r (λ records. map type_group records.items ≡ map (described_group (table_of types []) (index_at c.as_slice-3.result.now)) (shown-groups c.as_slice-4.result.now))) c.in-Ok.is c.in_ok-made.ensures.described in
    let described = described-by types groups gs c.as_slice-4.result.now indices c.as_slice-3.result.now (map type_group c.in-Ok.groups.items) c.as_slice-4.ensures.value c.as_slice-3.ensures.value made in
    let ids : c.in_ok-written.written.items ≡ written_types t (shown-groups gs) = c.in_ok-written.ensures ∙ ap (λ (xs : List (Bor RecGroup)). written_types t (shown-groups xs)) c.as_slice.ensures.value in
    ap (λ (ns : List ℕ). length ns) ids
    ∙ counted-law t (index_at indices) (shown-groups gs)
    ∙ ap (λ (rs : List TypeGroup). length (entries_of rs)) (sym described)
