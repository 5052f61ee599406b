use Rattle.std.proofs.Common.{refl}
use Rattle.walrus_index_maps.specs.Views.{ids}
use Rattle.walrus_pairing.specs.Spaces.{first_of, second_of, space}
use Rattle.walrus_pairing.proofs.Found.{missing, known}
use Rattle.walrus_pairing.proofs.named.read_pair.Goals as goal

pub returns-in-Err : goal.returns-in-Err
returns-in-Err c = rw (missing (ids c.args.maps.now) (space (first_of c.args.pair)) c.args.m _ _ (rw c.first_of.ensures at c.id_at.ensures) c.in-Err.is) refl

pub returns-in-Err-id_at : goal.returns-in-Err-id_at
returns-in-Err-id_at c = rw (known (ids c.args.maps.now) (space (first_of c.args.pair)) c.args.m _ _ (rw c.first_of.ensures at c.id_at.ensures) c.in-Ok.is, missing (ids c.args.maps.now) (space (second_of c.args.pair)) c.args.n _ _ (rw c.second_of.ensures at c.id_at-2.ensures) c.in-Err-id_at.is) refl

pub returns : goal.returns
returns c = rw (known (ids c.args.maps.now) (space (first_of c.args.pair)) c.args.m _ _ (rw c.first_of.ensures at c.id_at.ensures) c.in-Ok.is, known (ids c.args.maps.now) (space (second_of c.args.pair)) c.args.n _ _ (rw c.second_of.ensures at c.id_at-2.ensures) c.in-Ok-id_at.is, c.pair_instr.ensures) refl
