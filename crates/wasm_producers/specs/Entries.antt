-- What made a module: fields, each a name and the names of what was used, with versions; and adding an entry.
use Rattle.std.specs.Prelude.{ℕ, List, [], ◌∷◌, if◌then◌else◌}
use Rattle.std.specs.Str.{bytes_eq}

pub record Value : Type 0 where
  pub name : List ℕ
  pub version : List ℕ

pub record Field : Type 0 where
  pub name : List ℕ
  pub values : List Value

-- ---- an entry: the version of a name in the first field of that name is replaced, or the entry added to it, or a new field

abbrev pub with_value : List ℕ → List ℕ → List Value → List Value
with_value name version [] = record { name = name; version = version } ∷ []
with_value name version (v ∷ values) =
    if bytes_eq v.name name then (record { name = name; version = version } ∷ values) else (v ∷ with_value name version values)

abbrev pub with_entry : List ℕ → List ℕ → List ℕ → List Field → List Field
with_entry of name version [] = record { name = of; values = with_value name version [] } ∷ []
with_entry of name version (f ∷ fields) =
    if bytes_eq f.name of then (record { name = f.name; values = with_value name version f.values } ∷ fields) else (f ∷ with_entry of name version fields)
