use Rattle.std.proofs.Common.{◌≡◌, length, take}
use Rattle.walrus_handler_types.specs.Giving.{Gives}
use Rattle.walrus_handlers.specs.Gathering.{listed}
use Rattle.walrus_handlers.specs.walrus_tree.walrus_builder.Built.{contents}
use Rattle.walrus_handlers.specs.walrus_tree.walrus_builder.Functions.{seqs_of}
use Rattle.walrus_handler_types.proofs.give.give_each.Given as goal

abbrev pub invariant-loop-id : goal.invariant-loop-id
invariant-loop-id l = record {
  given : Gives (listed l.handlers) (take l.id-index l.order) (contents l.fn.body.builder) l.fn.types (contents l.body.builder) l.types;
  ty : l.body.ty ≡ l.fn.body.ty;
  name : l.body.name ≡ l.fn.body.name;
  many : length (seqs_of l.body) ≡ length (seqs_of l.fn.body);
}
