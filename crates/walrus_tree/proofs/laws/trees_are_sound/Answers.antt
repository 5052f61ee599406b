use Rattle.walrus_tree.proofs.Texts.{trees_are_sound, parts_are_whole}
use Rattle.walrus_tree.proofs.laws.trees_are_sound.Goals as goal

pub returns-clause-labels : goal.returns-clause-labels
returns-clause-labels c = trees_are_sound

pub returns-clause-parts : goal.returns-clause-parts
returns-clause-parts c = parts_are_whole
