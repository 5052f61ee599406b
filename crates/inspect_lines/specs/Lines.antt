-- The text in which counts are told: a line each, of a name and a number in decimal.
use Rattle.std.specs.Prelude.{ℕ, List, ◌++◌, codes, decimal}
use Rattle.inspect_lines.specs.declared.counts.Counts.{Counts}

-- a line: the name, a colon, a space, the number, a line feed
abbrev pub line_of : List ℕ → ℕ → List ℕ
line_of name count = name ++ codes ": " ++ decimal count ++ codes "\n"

-- the lines of the counts, in the order in which they are told
abbrev pub lines_of : Counts → List ℕ
lines_of c =
    line_of (codes "types") c.types
    ++ line_of (codes "functions") c.functions
    ++ line_of (codes "tables") c.tables
    ++ line_of (codes "memories") c.memories
    ++ line_of (codes "tags") c.tags
    ++ line_of (codes "globals") c.globals
    ++ line_of (codes "elements") c.elements
    ++ line_of (codes "data") c.data
    ++ line_of (codes "imports") c.imports
    ++ line_of (codes "exports") c.exports
    ++ line_of (codes "operators") c.operators
