use Rattle.wasm_section_bytes.specs.Flags.{flags_tell}
use Rattle.wasm_section_bytes.proofs.laws.flags_tell.Goals as goal

pub returns : goal.returns
returns c = flags_tell
