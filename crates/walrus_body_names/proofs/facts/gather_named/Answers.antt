use Rattle.std.proofs.Common.{◌∙◌, ap, List, ℕ, ◌++◌, subst, sym}
use Rattle.std.specs.Option.{option_to_list}
use Rattle.std.specs.Prelude.{OnOk}
use Rattle.walrus_body_names.specs.Names.{HaveSame, local_in}
use Rattle.walrus_body_names.proofs.Same.{told_none}
use Rattle.walrus_body_names.proofs.facts.gather_named.Goals as goal

pub returns-in-Some-clause-told : goal.returns-in-Some-clause-told
returns-in-Some-clause-told c =
    subst (λ (z : List ℕ). OnOk c.gather.result (HaveSame c.gather.new.found.items (c.args.found.now.items ++ z))) (sym (ap option_to_list c.in-Some.is) ∙ c.local_of.ensures) c.gather.ensures.told

pub returns-in-None-clause-told : goal.returns-in-None-clause-told
returns-in-None-clause-told c = told_none c.args.found.now.items (local_in c.args.instr.now) (sym (ap option_to_list c.in-None.is) ∙ c.local_of.ensures)
