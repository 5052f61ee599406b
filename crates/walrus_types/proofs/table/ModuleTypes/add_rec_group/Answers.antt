use Rattle.std.proofs.Common.{◌∙◌, ℕ, map, ap, subst, true}
use Rattle.std.specs.Fn.{FnOnceReturnsAt}
use Rattle.std.specs.List.{range_with_len}
use Rattle.std.proofs.lemmas.Result.{err_from_is_err_and}
use Rattle.walrus_type_arenas.specs.Groups.{AddsGroup, member_kind}
use Rattle.walrus_type_arenas.specs.Table.{Table, next_id, table_of}
use Rattle.walrus_type_arenas.proofs.GroupLemmas.{next-seen}
use Rattle.walrus_types.proofs.CauseLemmas.{cause-of}
use Rattle.walrus_types.proofs.table.ModuleTypes.add_rec_group.Goals as goal

pub returns-in_err-append_counted-clause-cause : goal.returns-in_err-append_counted-clause-cause
returns-in_err-append_counted-clause-cause g c =
    let next = next-seen c.self.inside.types.slots c.self.inside.groups.slots c.next_id-first.result c.args.self.now c.self.view_is c.next_id-first.ensures in
    let shown = c.as_slice.ensures.value ∙ c.in_ok-ids.ensures ∙ ap (λ (n : ℕ). range_with_len n c.args.count) next in
    let p = err_from_is_err_and c.from_residual-in_err-append_counted.result c.from_residual-in_err-append_counted.ensures.1 in
    rw (p.1, p.2) (cause-of (FnOnceReturnsAt g.F.FnOnce c.args.build (range_with_len (next_id c.args.self.now) c.args.count)) c.args.count c.in_err-append_counted.field-0.0
    c.in_ok-members.members (c.as_slice.result, c.in_ok-members.ensures, shown) c.in_err-append_counted.ensures.cause)

pub returns-clause-added : goal.returns-clause-added
returns-clause-added g c =
    let next = next-seen c.self.inside.types.slots c.self.inside.groups.slots c.next_id-first.result c.args.self.now c.self.view_is c.next_id-first.ensures in
    let shown = c.as_slice.ensures.value ∙ c.in_ok-ids.ensures ∙ ap (λ (n : ℕ). range_with_len n c.args.count) next in
    record {
      members = c.in_ok-members.members;
      returned = (c.as_slice.result, c.in_ok-members.ensures, shown);
      counted = c.in_ok-append_counted.ensures.counted;
      added = subst (λ (t : Table). AddsGroup true (map member_kind c.in_ok-members.members.items) t (table_of c.append_counted.new.types.slots c.append_counted.new.groups.slots))
          c.self.view_is c.in_ok-append_counted.ensures.added;
    }
