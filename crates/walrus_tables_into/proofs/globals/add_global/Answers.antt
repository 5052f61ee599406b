use Rattle.std.proofs.Common.{refl, sym, false, None}
use Rattle.walrus_tables_into.proofs.globals.add_global.Goals as goal

pub returns-clause-added : goal.returns-clause-added
returns-clause-added c = (
  record { id = c.in_ok-add_kind.field-0; ty = c.in_ok-ty.ty; mutable = c.args.global.now.mutable; shared = false; kind = c.in_ok-kind.kind; name = None },
  record { id = c.in_ok-add_kind.ensures.id; ty = sym c.in_ok-ty.ensures; mutable = refl; shared = refl; origin = c.in_ok-kind.ensures.becomes; no_name = refl },
  c.in_ok-add_kind.ensures.added,
)
