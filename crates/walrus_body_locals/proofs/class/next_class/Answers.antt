use Rattle.std.proofs.Common.{◌∙◌, sym}
use Rattle.walrus_body_locals.proofs.ClassLemmas.{next_in}
use Rattle.walrus_body_locals.proofs.class.next_class.Goals as goal

pub returns-in-Some : goal.returns-in-Some
returns-in-Some c = next_in c.args.reader.now _ c.in-Some.byte (sym c.in-Some.is ∙ c.peek.ensures) c.class_of.ensures
