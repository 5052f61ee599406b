use Rattle.std.specs.Prelude.{ℕ, List, ◌∷◌}
use Rattle.std.proofs.Common.{sym, subst, arith}
use Rattle.wasm_name_payloads.specs.Names.{section_name}
use Rattle.walrus_payload_writers.specs.Sections.{section_of}
use Rattle.walrus_payload_laws.specs.Laws.{IsCustom, FitsSection}
use Rattle.walrus_payload_laws.proofs.CustomLemmas.{custom_read, names_utf8}
use Rattle.walrus_payload_laws.proofs.written_names_are_read.Goals as goal

pub returns : goal.returns
returns c = λ m n b bytes is fits small. (
  subst (λ (payload : List ℕ). IsCustom (section_of payload) section_name payload) (sym is)
      (custom_read section_name (b ∷ bytes) (omega arith) names_utf8 (subst (FitsSection section_name) is small)),
  c.names_are_read_back.ensures m n fits,
)
