-- What look-ups answer that can be refused.
use Rattle.std.specs.Prelude.{◌≡◌, ℕ, Bool, List, [], ◌∷◌, Option, Some, None, Result, Ok, Err, MatchOption, map, filter, slice_set}
use Rattle.walrus_arena.specs.Arena.{Arena, entries, lowest_id}
use Rattle.walrus_errors.specs.declared.error.ModuleError.{ModuleError}
use Rattle.walrus_errors.specs.declared.error.ModuleError.TheVariants.{NotFound, Several}

-- what was found, or that nothing was
abbrev pub found : Option ℕ → Result ℕ ModuleError
found (Some id) = Ok id
found None = Err NotFound

-- the one of these, if there is one, unless there are several
abbrev pub at_most_one : List ℕ → Result (Option ℕ) ModuleError
at_most_one [] = Ok None
at_most_one (id ∷ []) = Ok (Some id)
at_most_one (_ ∷ _ ∷ _) = Err Several

-- the only one of these
abbrev pub only : List ℕ → Result ℕ ModuleError
only [] = Err NotFound
only (id ∷ []) = Ok id
only (_ ∷ _ ∷ _) = Err Several

module _ {T : Type 0} where
  -- the live ids whose items pass the test, rising
  abbrev pub ids_of : (T → Bool) → Arena T → List ℕ
  ids_of test a = map (λ e. e.0) (filter (λ e. test e.1) (entries a))

  -- the item of the lowest id that passes the test is deleted, or there is none and nothing changes
  abbrev pub Removes : (T → Bool) → Arena T → Result (Unit {0}) ModuleError → Arena T → Type 0
  Removes test old result new =
      MatchOption (lowest_id test old) ((result ≡ Err NotFound) × (new ≡ old)) (λ id. (result ≡ Ok tt) × (new.slots ≡ slice_set old.slots id None))
