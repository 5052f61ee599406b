use Rattle.std.proofs.Common.{◌<◌, ℕ}
use Rattle.std.specs.Prelude.{slice_get}
use Rattle.wasm_formats.specs.declared.fault.Space.TheVariants as spaces
use Rattle.walrus_items.specs.declared.local.Local.{Local}
use Rattle.walrus_exact.specs.Exact.{val_exact}
use Rattle.walrus_roots.specs.Items.{item}
use Rattle.walrus_refusals.specs.Checks.{IsMet}
use Rattle.walrus_refusals.specs.Written.{HasNone}
use Rattle.walrus_refusals.proofs.written.locals_have_none.Given as goal

abbrev pub invariant-loop-index : goal.invariant-loop-index
invariant-loop-index l = (id : ℕ) → id < l.index → IsMet l.marks (item spaces.Local id) → HasNone (λ (x : Local). val_exact x.ty) (slice_get l.locals id)
