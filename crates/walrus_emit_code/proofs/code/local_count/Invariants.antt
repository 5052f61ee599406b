use Rattle.std.specs.Prelude.{ℕ, ◌≡◌, take, fold}
use Rattle.walrus_index_maps.specs.Views.{indices}
use Rattle.walrus_emit_code.specs.Code.{behind}
use Rattle.walrus_emit_code.proofs.code.local_count.Given as goal

abbrev pub invariant-loop-id : goal.invariant-loop-id
invariant-loop-id l = l.count ≡ fold (λ (count id : ℕ). behind count ((indices l.maps).locals l.function id)) l.arguments (take l.id-index l.used)
