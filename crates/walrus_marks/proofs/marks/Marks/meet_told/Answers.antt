use Rattle.walrus_marks.proofs.WalkLemmas.{folds_meet}
use Rattle.walrus_marks.proofs.marks.Marks.meet_told.Goals as goal

pub returns : goal.returns
returns g c = folds_meet (g.T.Visit.tells c.args.told.now) c.args.self.now c.visit.new.visitor c.visit.ensures
