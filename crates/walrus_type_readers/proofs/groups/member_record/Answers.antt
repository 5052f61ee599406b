use Rattle.std.proofs.Common.{sym, ap, ◌∙◌}
use Rattle.std.specs.Option.{option_map}
use Rattle.walrus_forms.specs.Records.{record_kind}
use Rattle.std.proofs.lemmas.Result.{err_from_is_err_and}
use Rattle.walrus_type_readers.proofs.MemberLemmas.{name_fails, shared_fails, room_fails, member_is, wants_memory}
use Rattle.walrus_type_readers.proofs.groups.member_record.Goals as goal

pub returns-then-has_name_from-clause-tells : goal.returns-then-has_name_from-clause-tells
returns-then-has_name_from-clause-tells c = name_fails c.args.end c.args.number c.args.offset c.args.ty.now _ c.new.ensures (sym c.has_name_from.ensures ∙ c.if-has_name_from.true)

pub returns-in_err-record-clause-tells : goal.returns-in_err-record-clause-tells
returns-in_err-record-clause-tells c =
    let p = err_from_is_err_and c.from_residual.result c.from_residual.ensures.1 in
    wants_memory c.args.end c.args.number c.args.offset c.args.ty.now _ _ p.1 p.2

pub returns-in_default-clause-tells : goal.returns-in_default-clause-tells
returns-in_default-clause-tells c = shared_fails c.args.end c.args.number c.args.offset c.args.ty.now _ c.new-in_default.ensures (sym c.has_name_from.ensures ∙ c.if-has_name_from.false) (sym c.in_ok-record.ensures ∙ ap (option_map record_kind) c.in_default.is)

pub returns-then-number-ge-MAX_WASM_TYPES-clause-tells : goal.returns-then-number-ge-MAX_WASM_TYPES-clause-tells
returns-then-number-ge-MAX_WASM_TYPES-clause-tells c =
    room_fails c.args.end c.args.number c.args.offset c.args.ty.now _ (record_kind c.in-Some.record) c.new-then-number-ge-MAX_WASM_TYPES.ensures (sym c.has_name_from.ensures ∙ c.if-has_name_from.false) (sym c.in_ok-record.ensures ∙ ap (option_map record_kind) c.in-Some.is) c.if-number-ge-MAX_WASM_TYPES.true

pub returns-clause-tells : goal.returns-clause-tells
returns-clause-tells c = member_is c.args.end c.args.number c.args.offset c.args.ty.now c.in-Some.record (sym c.has_name_from.ensures ∙ c.if-has_name_from.false) (sym c.in_ok-record.ensures ∙ ap (option_map record_kind) c.in-Some.is) c.if-number-ge-MAX_WASM_TYPES.false
