-- What names and renamings have to do with one another.
use Rattle.std.specs.Prelude.{ℕ, ◌≡◌, List, map}
use Rattle.wasm_operators.specs.Items.{Space}
use Rattle.wasm_operators.specs.Operators.{Seen}
use Rattle.wasm_operators.specs.Names.{Name, Renaming, operator_names, renamed_operator}

-- a name, renamed
abbrev pub renamed_name : Renaming → Name → Name
renamed_name r name = (name.0, r name.0 name.1)

-- each number stays
abbrev pub same : Renaming
same space n = n

-- one renaming after another
abbrev pub after : Renaming → Renaming → Renaming
after s r space n = s space (r space n)

-- the names of a renamed operator are its names, renamed
abbrev pub NamesAreRenamed : Type 0
NamesAreRenamed = (r : Renaming) (op : Seen) → operator_names (renamed_operator r op) ≡ map (renamed_name r) (operator_names op)

-- a renaming that keeps each number keeps each operator
abbrev pub SameIsSame : Type 0
SameIsSame = (op : Seen) → renamed_operator same op ≡ op

-- to rename twice is to rename once
abbrev pub RenamesTwice : Type 0
RenamesTwice = (r s : Renaming) (op : Seen) → renamed_operator s (renamed_operator r op) ≡ renamed_operator (after s r) op
