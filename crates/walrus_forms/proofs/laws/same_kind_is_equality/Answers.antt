use Rattle.walrus_forms.proofs.EqLemmas.{same-kind-law}
use Rattle.walrus_forms.proofs.laws.same_kind_is_equality.Goals as goal

pub returns : goal.returns
returns c = same-kind-law
