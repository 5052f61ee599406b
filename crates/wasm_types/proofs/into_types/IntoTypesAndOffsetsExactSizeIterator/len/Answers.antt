use Rattle.std.proofs.Common.{arith, subst}
use Rattle.std.proofs.lemmas.Slice.Zip.{length-zip}
use Rattle.std.specs.Vec.Iter.{into_iter_items}
use Rattle.wasm_types.specs.MembersLeft.{IsPaired}
use Rattle.wasm_types.specs.declared.into_types.MembersLeft.TheVariants.{Explicit}
use Rattle.wasm_types.proofs.into_types.IntoTypesAndOffsetsExactSizeIterator.len.Goals as goal

pub returns-in-Explicit-clause-value : goal.returns-in-Explicit-clause-value
returns-in-Explicit-clause-value c =
    let o = c.in-Explicit.offsets in
    let t = c.in-Explicit.types in
    let paired : IsPaired (Explicit o t) = subst IsPaired c.in-Explicit.is c.self.invariant in
    rw (c.len.ensures, ← c.self.view_is, c.in-Explicit.is) (omega (arith, paired, t.rest.ok.0, length-zip (into_iter_items o) (into_iter_items t)))
