-- Laws of names and producers.
use Rattle.std.specs.Prelude.{ℕ, ◌≡◌, List, [], ◌∷◌, ◌++◌, Option, Some}
use Rattle.std.specs.List.{flat_map}
use Rattle.wasm_formats.specs.Formats.{Small}
use Rattle.wasm_body_grammar.specs.wasm_grammar.Modules.{Module}
use Rattle.wasm_name_payloads.specs.Keepers.{Behind, Wrong}
use Rattle.wasm_name_payloads.specs.Names.{Bearer, Given, given, names_in, names_rest, SpellsNames, last_name}
use Rattle.wasm_name_payloads.specs.Producers.{Field, fields, producers_in, with_entry}
use Rattle.wasm_name_payloads.specs.Written.{Names, FitsNames, payload_bytes, names_given, FitsVec, FitsField, producers_bytes}

-- of a payload without a fault all names are kept, and what is read to the end is one
pub record NamesAreRead : Type 0 where
  pub again : (m : Module) (bytes : List ℕ) (parts : List (List Given)) → SpellsNames m bytes parts → names_in m bytes ≡ flat_map (λ names. names) parts
  pub found : (m : Module) (bytes later : List ℕ) → Small bytes → names_rest m bytes ≡ Behind later
      → (parts : List (List Given)) × SpellsNames m bytes parts × (names_in m bytes ≡ flat_map (λ names. names) parts)

-- the names of a front of a payload are the first names of the whole
abbrev pub FrontNamesStay : Type 0
FrontNamesStay = (m : Module) (bytes more : List ℕ) → Small bytes → (others : List Given) × (names_in m (bytes ++ more) ≡ names_in m bytes ++ others)

-- bytes behind a fault give nothing
abbrev pub FaultsEndNames : Type 0
FaultsEndNames = (m : Module) (bytes more : List ℕ) → Small bytes → names_rest m bytes ≡ Wrong → names_in m (bytes ++ more) ≡ names_in m bytes

-- names that were written are read back
abbrev pub NamesAreReadBack : Type 0
NamesAreReadBack = (m : Module) (n : Names) → FitsNames m n → names_in m (payload_bytes n) ≡ names_given m n

-- the last name wins
abbrev pub LastNamesWin : Type 0
LastNamesWin = (bearer : Bearer) (found : Option (List ℕ)) (names : List Given) (name : List ℕ) → last_name bearer found (names ++ given bearer name ∷ []) ≡ Some name

-- the same of producers
pub record ProducersAreRead : Type 0 where
  pub again : (bytes more : List ℕ) (list : List Field) → fields.spells bytes list → producers_in (bytes ++ more) ≡ list
  pub front : (bytes more : List ℕ) → Small bytes → (others : List Field) × (producers_in (bytes ++ more) ≡ producers_in bytes ++ others)
  pub fault : (bytes more : List ℕ) → Small bytes → (fields.keeps bytes).rest ≡ Wrong → producers_in (bytes ++ more) ≡ producers_in bytes
  pub back : (list : List Field) → FitsVec FitsField list → producers_in (producers_bytes list) ≡ list

-- an entry that is there stays
abbrev pub EntriesStay : Type 0
EntriesStay = (of name version : List ℕ) (list : List Field) → with_entry of name version (with_entry of name version list) ≡ with_entry of name version list
