use Rattle.std.proofs.Common.{rules, ◌≡◌, ◌∙◌, ap, sym, slice_set}
use Rattle.walrus_customs.specs.Producers.{field_of, fields_of}
use Rattle.walrus_customs.proofs.EditLemmas.{edited, added}
use Rattle.walrus_customs.proofs.ProducerLemmas.{fields_edited, field_put, field_same, seen_alike}
use Rattle.walrus_customs.proofs.producers.ModuleProducers.put.Goals as goal

pub returns-in_ok-put-in-Some-clause-added : goal.returns-in_ok-put-in-Some-clause-added
returns-in_ok-put-in-Some-clause-added c =
    let held = c.self.inside.fields.items in
    rw (← c.self.view_is)
    (edited field_of _ _ _ _ (fields_edited c.args.of.now c.args.name.now c.args.version.now) held c.in-Some.index c.put.new.self c.index_mut-field.result.now
    (search rules) (sym c.index_mut-field.ensures.value)
    (field_put c.args.name.now c.args.version.now c.index_mut-field.result.now c.put.new.self c.put.ensures.name (search rules)))

pub returns-in_err-put-in-Some-clause-refused : goal.returns-in_err-put-in-Some-clause-refused
returns-in_err-put-in-Some-clause-refused c =
    let held = c.self.inside.fields.items in
    let same : fields_of (slice_set held c.in-Some.index c.put.new.self) ≡ fields_of c.args.self.now =
    rw (← c.self.view_is)
    (seen_alike held c.in-Some.index c.index_mut-field.result.now c.put.new.self (sym c.index_mut-field.ensures.value)
    (field_same c.index_mut-field.result.now c.put.new.self c.put.ensures.name (search rules)))
    in
    search rules

pub returns-in_ok-push-in-None-clause-added : goal.returns-in_ok-push-in-None-clause-added
returns-in_ok-push-in-None-clause-added c =
    let held = c.self.inside.fields.items in
    rw (← c.self.view_is)
    (ap fields_of c.in_ok-push-in-None.ensures.items
    ∙ added field_of _ _ _ _ (fields_edited c.args.of.now c.args.name.now c.args.version.now) held c.in_ok-field-in-None.field (search rules) c.in_ok-field-in-None.ensures)
