use Rattle.walrus_pairing.specs.Together as lemmas
use Rattle.walrus_pairing.proofs.laws.instructions_come_back.Goals as goal

pub returns : goal.returns
returns c = lemmas.instr_comes_back
