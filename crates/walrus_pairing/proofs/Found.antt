-- What a look-up gives, as the readings have it: the id, or the space in which the index names nothing.
use Rattle.std.proofs.Common.{ℕ, ◌≡◌, Option, Some, None, Result, Ok, Err, sym, ◌∙◌}
use Rattle.std.specs.Option.{ok_or}
use Rattle.walrus_operators.specs.wasm_operators.Items.{Space as Named}
use Rattle.walrus_index_maps.specs.Maps.{Ids}
use Rattle.walrus_index_maps.specs.declared.indices_to_ids.UnknownIndex.{UnknownIndex}
use Rattle.walrus_index_maps.specs.declared.space.Space.{Space}
use Rattle.walrus_pairing.specs.declared.error.PairError.TheVariants as errors
use Rattle.walrus_pairing.specs.Looks.{found, id_of, word}

pub absent : (o : Option ℕ) (s : Space) (r : Result ℕ UnknownIndex) (u : UnknownIndex) → r ≡ ok_or o (record { 0 = s }) → r ≡ Err u
    → ok_or o (errors.Unknown s) ≡ Err (errors.Unknown u.0)
absent None s r u e h = let k = sym e ∙ h in cc
absent (Some x) s r u e h = let k = sym e ∙ h in absurd cc

pub present : (o : Option ℕ) (s : Space) (r : Result ℕ UnknownIndex) (id : ℕ) → r ≡ ok_or o (record { 0 = s }) → r ≡ Ok id
    → ok_or o (errors.Unknown s) ≡ Ok id
present None s r id e h = let k = sym e ∙ h in absurd cc
present (Some x) s r id e h = let k = sym e ∙ h in cc

-- the same of the first of two look-ups, or of both, each with what is looked up
pub missing : (ids : Ids) (space : Named) (n : ℕ) (r : Result ℕ UnknownIndex) (u : UnknownIndex) → r ≡ ok_or (id_of ids 0 space n) (record { 0 = word space })
    → r ≡ Err u → found (id_of ids 0) space n ≡ Err (errors.Unknown u.0)
missing ids space n r u e h = absent (id_of ids 0 space n) (word space) r u e h

pub known : (ids : Ids) (space : Named) (n : ℕ) (r : Result ℕ UnknownIndex) (id : ℕ) → r ≡ ok_or (id_of ids 0 space n) (record { 0 = word space })
    → r ≡ Ok id → found (id_of ids 0) space n ≡ Ok id
known ids space n r id e h = present (id_of ids 0 space n) (word space) r id e h
