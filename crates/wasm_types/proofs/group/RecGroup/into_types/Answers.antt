use Rattle.std.proofs.Common.{sym, subst}
use Rattle.std.proofs.lemmas.Slice.Zip.{seconds-zip}
use Rattle.wasm_types.specs.Members.{IsPaired}
use Rattle.wasm_types.proofs.group.RecGroup.into_types.Goals as goal

pub returns : goal.returns
returns c =
    let paired : IsPaired c.args.self = subst IsPaired c.self.view_is c.self.invariant in
    rw (c.new.ensures, c.into_types_and_offsets.ensures) (seconds-zip c.args.self.offsets c.args.self.types (sym paired))
