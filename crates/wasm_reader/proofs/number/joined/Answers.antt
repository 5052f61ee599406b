use Rattle.wasm_reader.proofs.Bits.{joined_is}
use Rattle.wasm_reader.proofs.number.joined.Goals as goal

pub returns : goal.returns
returns c = rw c.from.ensures (joined_is c.args.low c.args.group c.args.shift c.requires.within c.requires.below c.requires.fits)
