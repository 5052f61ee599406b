-- The pairs of one body are true, rise, and are whole.
use Rattle.std.specs.Prelude.{ℕ, ◌≡◌, ◌<◌, List, All, AllPairs, Contains, Some, slice_get}
use Rattle.wasm_grammar.specs.Modules.{Placed}
use Rattle.wasm_places_laws.specs.Begun.{begun}
use Rattle.wasm_places_laws.specs.Pairs.{pairs_at}

-- the operator that begins at `new` stands for the one that carries `old`, which isn't what stands for no place
pub record IsPair (none : ℕ) (sources targets : List Placed) (old new : ℕ) : Type 0 where
  pub i : ℕ
  pub source : Placed
  pub target : Placed
  pub carries : slice_get sources i ≡ Some source
  pub from : source.place ≡ old
  pub some : old ≡ none → ⊥
  pub stands : slice_get targets i ≡ Some target
  pub to : target.place ≡ new

pub record ArePairs (none : ℕ) (sources targets : List Placed) (pairs : List (ℕ × ℕ)) : Type 0 where
  pub true_pairs : All (λ (q : ℕ × ℕ). IsPair none sources targets q.0 q.1) pairs
  pub rising : AllPairs (λ (q r : ℕ × ℕ). q.1 < r.1) pairs
  pub whole : (old new : ℕ) → IsPair none sources targets old new → Contains pairs (old, new)

abbrev pub BodyPairsAreTrue : Type 0
BodyPairsAreTrue = (none at : ℕ) (ops : List Placed) → ArePairs none ops (begun at ops) (pairs_at none at ops)
