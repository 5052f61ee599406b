-- What bytes begin with, behind white space.
use Rattle.std.specs.Prelude.{ℕ, List, cond, fold, ◌==◌, ◌||◌}
use Rattle.input_words.specs.declared.start.Start.{Start}
use Rattle.input_words.specs.declared.start.Start.TheVariants.{Blank, Text, Other}

-- the white space of the text format: a space, a tab, a line feed, a carriage return; and its `(`
abbrev pub start_of : ℕ → Start
start_of b = cond (b == 32 || b == 9 || b == 10 || b == 13) Blank (cond (b == 40) Text Other)

abbrev pub start_then : Start → ℕ → Start
start_then Blank b = start_of b
start_then Text b = Text
start_then Other b = Other

abbrev pub start_after : Start → List ℕ → Start
start_after start bytes = fold start_then start bytes
