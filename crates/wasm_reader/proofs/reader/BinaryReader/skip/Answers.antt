use Rattle.std.proofs.Common.{refl}
use Rattle.wasm_reader.proofs.reader.BinaryReader.skip.Goals as goal

pub returns-in_err-read-clause-moves : goal.returns-in_err-read-clause-moves
returns-in_err-read-clause-moves g c = λ reads_on. reads_on c.args.self.now c.read.new.arg2 c.read.result (record { shown = _; shows = refl; left = _; met = c.read.ensures; leaves = refl })

pub returns-clause-moves : goal.returns-clause-moves
returns-clause-moves g c = λ reads_on. reads_on c.args.self.now c.read.new.arg2 c.read.result (record { shown = _; shows = refl; left = _; met = c.read.ensures; leaves = refl })
