use Rattle.walrus_body_rules.specs.Agreeing.{tests_agree}
use Rattle.walrus_body_rules.proofs.laws.rules_are_the_grammars.Goals as goal

pub returns : goal.returns
returns c = tests_agree
