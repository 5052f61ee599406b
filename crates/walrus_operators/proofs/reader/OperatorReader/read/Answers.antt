use Rattle.walrus_operators.proofs.Unknown.{unknown_here}
use Rattle.walrus_operators.proofs.reader.OperatorReader.read.Goals as goal

pub returns-in-Err : goal.returns-in-Err
returns-in-Err c =
    rw (← c.self.view_is) (unknown_here c.self.inside.reader c.read.new.reader c.in_ok-code.code c.in_ok-code.kind c.in-Err.offset c.in_ok-code.ensures.code c.in_ok-code.ensures.kind c.in-Err.is)
