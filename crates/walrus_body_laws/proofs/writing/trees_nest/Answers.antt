use Rattle.walrus_body_laws.proofs.Nesting.{trees_nest}
use Rattle.walrus_body_laws.proofs.writing.trees_nest.Goals as goal

pub returns : goal.returns
returns c = trees_nest c.trees_are_nested.ensures c.text_is_plain.ensures.plain c.trees_are_sound.ensures.labels
