use Rattle.std.proofs.Common.{◌∙◌, ◌+◌, refl, ap, arith}
use Rattle.wasm_formats.specs.declared.fault.Space.TheVariants as spaces
use Rattle.walrus_roots.specs.Items.{item}
use Rattle.walrus_types.specs.Table.{marked}
use Rattle.walrus_passes.specs.Keeping.{IsHeld}
use Rattle.walrus_passes.proofs.TypeLemmas.{none_listed, all_listed, mark_listed, one_longer}
use Rattle.walrus_passes.proofs.types.unkept_types.Goals as goal

pub loop-index-init : goal.loop-index-init
loop-index-init c = rw c.new-marks.ensures.items (record { sized = refl; listed = none_listed (λ k. IsHeld c.args.kept.now (item spaces.Type k) → ⊥) })

pub loop-index-preserved : goal.loop-index-preserved
loop-index-preserved c =
    rw c.in_ok-push.ensures.items
    (record {
      sized = one_longer c.loop-index.marks.items c.is_unkept-unkept.result ∙ ap (λ n. n + 1) c.loop-index.invariant.sized;
      listed = mark_listed (λ k. IsHeld c.args.kept.now (item spaces.Type k) → ⊥) c.loop-index.marks.items c.loop-index.index c.from_index.result c.is_unkept-unkept.result c.loop-index.invariant.sized c.from_index.ensures
          c.is_unkept-unkept.ensures c.loop-index.invariant.listed;
    })

pub returns : goal.returns
returns c =
    all_listed (λ k. IsHeld c.args.kept.now (item spaces.Type k)) c.args.types.now (marked c.loop-index.marks.items) c.loop-index.index (omega (arith, c.loop-index-test.false, c.loop-index.auto.index-end, c.type_count-index-end.ensures.count)) c.loop-index.invariant.listed
