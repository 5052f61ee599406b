use Rattle.walrus_forms.specs.Records.{record_form}
use Rattle.walrus_emit_values.proofs.Lemmas.{byte_refused}
use Rattle.walrus_emit_due.specs.Types.{form, supertypes}
use Rattle.walrus_emit_types.proofs.kinds.write_open.Goals as goal

pub returns-in-Err-write_supertypes : goal.returns-in-Err-write_supertypes
returns-in-Err-write_supertypes c =
    byte_refused c.args.first (supertypes c.args.ty.now.supertype) (form (record_form c.args.ty.now.kind)) _ _ _ _ c.in-Ok.ensures c.in-Err-write_supertypes.ensures
