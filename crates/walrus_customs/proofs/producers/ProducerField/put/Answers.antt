use Rattle.std.proofs.Common.{rules, ◌≡◌, [], ◌∷◌, ◌++◌, ◌∙◌, ap}
use Rattle.walrus_customs.specs.Producers.{value_of, values_of}
use Rattle.walrus_customs.proofs.EditLemmas.{edited, added}
use Rattle.walrus_customs.proofs.ProducerLemmas.{values_edited}
use Rattle.walrus_customs.proofs.producers.ProducerField.put.Goals as goal

pub returns-in-Some-clause-put : goal.returns-in-Some-clause-put
returns-in-Some-clause-put c =
    edited value_of _ _ _ _ (values_edited c.args.name.now c.args.version.now) c.args.self.now.values.items c.in-Some.index c.in_ok-value.value c.index_mut.result.now
    (search rules) (search rules) c.in_ok-value.ensures

pub returns-in_ok-push-in-None-clause-put : goal.returns-in_ok-push-in-None-clause-put
returns-in_ok-push-in-None-clause-put c =
    let held = c.args.self.now.values.items in
    let pushed : c.push.new.self.items ≡ held ++ c.in_ok-value.value ∷ [] = search rules in
    ap values_of pushed ∙ added value_of _ _ _ _ (values_edited c.args.name.now c.args.version.now) held c.in_ok-value.value (search rules) c.in_ok-value.ensures
