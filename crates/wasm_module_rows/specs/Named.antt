-- Files with sections `name`: which modules they are, and which names are kept of them.
use Rattle.std.specs.Prelude.{ℕ, ◌≡◌, List, [], ◌∷◌, ◌++◌, map, Option, Some, None}
use Rattle.walrus_forms.specs.declared.value.ValType.TheVariants.{I32}
use Rattle.wasm_operators.specs.Items.{Locals, Names}
use Rattle.wasm_formats.specs.declared.fault.Space.TheVariants as spaces
use Rattle.wasm_grammar.specs.Modules.{Body, Module}
use Rattle.wasm_name_payloads.specs.Names.{Bearer, TheModule, ALocal, Given, given, item_in, section_name, names_of, name_of}
use Rattle.wasm_module_rows.specs.Files.{magic, plain_type, one_function, exported, base, shortest, usual, AreModules}
use Rattle.wasm_module_rows.specs.Read.{op, at, just, custom, simple}

-- a function of this body, which is exported as `f`, and sections `name` of these payloads
abbrev pub named : Body → List (List ℕ) → Module
named body payloads = record (simple 0 (body ∷ [])) { customs = map (custom section_name) payloads }

-- `end` alone
abbrev pub bare : Body
bare = just (at 3 (op 0x0b []) ∷ [])

-- a local that is read and dropped
abbrev pub one_local : Body
one_local = record { locals = I32 ∷ []; operators = at 5 (op 0x20 (Names Locals 0 ∷ [])) ∷ at 7 (op 0x1a []) ∷ at 8 (op 0x0b []) ∷ [] }

abbrev pub first_function : Bearer
first_function = item_in spaces.Function 0

abbrev pub called_a : Given
called_a = given first_function (0x61 ∷ [])

abbrev pub called_b : Given
called_b = given first_function (0x62 ∷ [])

-- ---- payloads: a local, a function and an entry that is cut, a size past the end, a function, the same with another name, and then the module

abbrev pub local_x : List ℕ
local_x = 0x02 ∷ 0x06 ∷ 0x01 ∷ 0x00 ∷ 0x01 ∷ 0x00 ∷ 0x01 ∷ 0x78 ∷ []

abbrev pub cut_entry : List ℕ
cut_entry = 0x01 ∷ 0x07 ∷ 0x02 ∷ 0x00 ∷ 0x01 ∷ 0x61 ∷ 0x01 ∷ 0x05 ∷ 0x62 ∷ []

abbrev pub past_end : List ℕ
past_end = 0x01 ∷ 0x7f ∷ 0x00 ∷ []

abbrev pub just_a : List ℕ
just_a = 0x01 ∷ 0x04 ∷ 0x01 ∷ 0x00 ∷ 0x01 ∷ 0x61 ∷ []

abbrev pub just_b : List ℕ
just_b = 0x01 ∷ 0x04 ∷ 0x01 ∷ 0x00 ∷ 0x01 ∷ 0x62 ∷ []

abbrev pub b_and_m : List ℕ
b_and_m = 0x01 ∷ 0x04 ∷ 0x01 ∷ 0x00 ∷ 0x01 ∷ 0x62 ∷ 0x00 ∷ 0x02 ∷ 0x01 ∷ 0x6d ∷ []

-- bytes, the module that they are, and the names that are kept of it, in the order of the file
abbrev pub Named : Type 0
Named = List ℕ × Module × List Given

abbrev pub files : List Named
files =
    ((base ++ 0x0a ∷ 0x09 ∷ 0x01 ∷ 0x07 ∷ 0x01 ∷ 0x01 ∷ 0x7f ∷ 0x20 ∷ 0x00 ∷ 0x1a ∷ 0x0b ∷ 0x00 ∷ 0x0d ∷ 0x04 ∷ 0x6e ∷ 0x61 ∷ 0x6d ∷ 0x65 ∷ 0x02 ∷ 0x06 ∷ 0x01 ∷ 0x00 ∷ 0x01 ∷ 0x00 ∷ 0x01 ∷ 0x78 ∷ []), named one_local (local_x ∷ []), given (ALocal 0 0) (0x78 ∷ []) ∷ [])
    -- the same section behind the code, and behind the header
    ∷ ((shortest ++ 0x00 ∷ 0x0e ∷ 0x04 ∷ 0x6e ∷ 0x61 ∷ 0x6d ∷ 0x65 ∷ 0x01 ∷ 0x07 ∷ 0x02 ∷ 0x00 ∷ 0x01 ∷ 0x61 ∷ 0x01 ∷ 0x05 ∷ 0x62 ∷ []), named bare (cut_entry ∷ []), called_a ∷ [])
    ∷ ((magic ++ 0x00 ∷ 0x0e ∷ 0x04 ∷ 0x6e ∷ 0x61 ∷ 0x6d ∷ 0x65 ∷ 0x01 ∷ 0x07 ∷ 0x02 ∷ 0x00 ∷ 0x01 ∷ 0x61 ∷ 0x01 ∷ 0x05 ∷ 0x62 ∷ [] ++ plain_type ++ one_function ++ exported ++ 0x0a ∷ 0x04 ∷ 0x01 ∷ 0x02 ∷ 0x00 ∷ 0x0b ∷ []), named bare (cut_entry ∷ []), called_a ∷ [])
    -- no payload, and one without a whole subsection
    ∷ ((shortest ++ 0x00 ∷ 0x05 ∷ 0x04 ∷ 0x6e ∷ 0x61 ∷ 0x6d ∷ 0x65 ∷ []), named bare ([] ∷ []), [])
    ∷ ((shortest ++ 0x00 ∷ 0x08 ∷ 0x04 ∷ 0x6e ∷ 0x61 ∷ 0x6d ∷ 0x65 ∷ 0x01 ∷ 0x7f ∷ 0x00 ∷ []), named bare (past_end ∷ []), [])
    -- two sections: both are read, also behind one with a fault
    ∷ ((shortest ++ 0x00 ∷ 0x0b ∷ 0x04 ∷ 0x6e ∷ 0x61 ∷ 0x6d ∷ 0x65 ∷ 0x01 ∷ 0x04 ∷ 0x01 ∷ 0x00 ∷ 0x01 ∷ 0x61 ∷ 0x00 ∷ 0x0b ∷ 0x04 ∷ 0x6e ∷ 0x61 ∷ 0x6d ∷ 0x65 ∷ 0x01 ∷ 0x04 ∷ 0x01 ∷ 0x00 ∷ 0x01 ∷ 0x62 ∷ []), named bare (just_a ∷ just_b ∷ []), called_a ∷ called_b ∷ [])
    ∷ ((shortest ++ 0x00 ∷ 0x0e ∷ 0x04 ∷ 0x6e ∷ 0x61 ∷ 0x6d ∷ 0x65 ∷ 0x01 ∷ 0x07 ∷ 0x02 ∷ 0x00 ∷ 0x01 ∷ 0x61 ∷ 0x01 ∷ 0x05 ∷ 0x62 ∷ 0x00 ∷ 0x0f ∷ 0x04 ∷ 0x6e ∷ 0x61 ∷ 0x6d ∷ 0x65 ∷ 0x01 ∷ 0x04 ∷ 0x01 ∷ 0x00 ∷ 0x01 ∷ 0x62 ∷ 0x00 ∷ 0x02 ∷ 0x01 ∷ 0x6d ∷ []), named bare (cut_entry ∷ b_and_m ∷ []), called_a ∷ called_b ∷ given TheModule (0x6d ∷ []) ∷ [])
    ∷ []

-- modules, what has a name there, and the name that it gets: the last one
abbrev pub Called : Type 0
Called = Module × Bearer × Option (List ℕ)

abbrev pub calls : List Called
calls =
    (named one_local (local_x ∷ []), ALocal 0 0, Some (0x78 ∷ []))
    ∷ (named one_local (local_x ∷ []), first_function, None)
    ∷ (named bare (cut_entry ∷ []), first_function, Some (0x61 ∷ []))
    ∷ (named bare ([] ∷ []), first_function, None)
    ∷ (named bare (past_end ∷ []), first_function, None)
    ∷ (named bare (just_a ∷ just_b ∷ []), first_function, Some (0x62 ∷ []))
    ∷ (named bare (just_b ∷ just_a ∷ []), first_function, Some (0x61 ∷ []))
    ∷ (named bare (cut_entry ∷ b_and_m ∷ []), first_function, Some (0x62 ∷ []))
    ∷ (named bare (b_and_m ∷ cut_entry ∷ []), first_function, Some (0x61 ∷ []))
    ∷ (named bare (cut_entry ∷ b_and_m ∷ []), TheModule, Some (0x6d ∷ []))
    ∷ []

abbrev pub AreNamed : List Named → Type 0
AreNamed rows = map (λ r. names_of r.1) rows ≡ map (λ (r : Named). r.2) rows

abbrev pub AreCalled : List Called → Type 0
AreCalled rows = map (λ r. name_of r.0 r.1) rows ≡ map (λ (r : Called). r.2) rows

pub record NamesKept : Type 0 where
  pub of_modules : AreModules usual (map (λ r. (r.0, r.1)) files)
  pub of_names : AreNamed files
  pub of_calls : AreCalled calls
