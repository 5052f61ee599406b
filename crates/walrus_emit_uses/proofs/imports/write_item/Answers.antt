use Rattle.std.proofs.Common.{ℕ, List, string_bytes, subst}
use Rattle.walrus_emit_parts.specs.Due.{Refused}
use Rattle.walrus_emit_parts.proofs.Lemmas.{refused_front}
use Rattle.walrus_emit_due.specs.Imports.{name}
use Rattle.walrus_emit_uses.proofs.imports.write_item.Goals as goal

pub returns-in-Err : goal.returns-in-Err
returns-in-Err g c =
    refused_front (name (string_bytes c.args.item.now.name)) _ _ _ _
    (subst (λ (bytes : List ℕ). Refused (name bytes) c.args.out.now.items c.write_name.new.out.items c.in-Err.error) c.as_str.ensures.value c.in-Err.ensures)
