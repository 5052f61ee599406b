use Rattle.std.proofs.Common.{◌≡◌, ◌++◌, length, take}
use Rattle.std.specs.List.{range_with_len}
use Rattle.walrus_module.specs.Replaced.{arguments}
use Rattle.walrus_module.proofs.build.add_arguments.Given as goal

abbrev pub invariant-loop-ty : goal.invariant-loop-ty
invariant-loop-ty l = record {
  ids : l.args.items ≡ range_with_len (length l.fn.locals) l.ty-index;
  added : l.locals ≡ l.fn.locals ++ arguments (length l.fn.locals) (take l.ty-index l.params);
}
