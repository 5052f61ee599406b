-- What element segments list.
use Rattle.std.specs.Prelude.{ℕ, ◌+◌, ◌<◌, ◌≡◌, List, [], ◌∷◌, ◌++◌, map, Result, Ok}
use Rattle.std.specs.Global.{Vec}
use Rattle.std.proofs.Common.{subst}
use Rattle.std.proofs.lemmas.List.{map_push}
use Rattle.wasm_reader.specs.Cursor.{Window, Cursor}
use Rattle.wasm_reader.specs.Reading.{plain}
use Rattle.walrus_entry_readers.specs.walrus_known_sections.wasm_sections.wasm_grammar.wasm_formats.declared.fault.Space.TheVariants as spaces
use Rattle.walrus_entry_readers.specs.walrus_known_sections.wasm_sections.wasm_grammar.wasm_formats.Stops.{Parsing, ◌>>=◌}
use Rattle.walrus_entry_readers.specs.walrus_known_sections.wasm_sections.wasm_grammar.wasm_formats.Formats.{Format}
use Rattle.walrus_entry_readers.specs.walrus_known_sections.wasm_sections.wasm_grammar.wasm_formats.Wholes.{u32}
use Rattle.walrus_entry_readers.specs.walrus_known_sections.wasm_sections.wasm_grammar.Modules.{Expr}
use Rattle.walrus_entry_readers.specs.walrus_known_sections.wasm_sections.wasm_grammar.Exprs.{expr, Known}
use Rattle.walrus_entry_readers.specs.walrus_known_sections.wasm_sections.wasm_grammar.Values.{index}
use Rattle.walrus_entry_readers.specs.walrus_operators.declared.operator.Operator.{Operator}
use Rattle.walrus_entry_readers.specs.walrus_section_values.walrus_section_reader.declared.fault.Fault.{Fault}
use Rattle.walrus_entry_readers.specs.walrus_section_values.walrus_section_reader.Parses.{Parses, ParsesExactly}
use Rattle.walrus_entry_readers.specs.walrus_section_values.walrus_section_reader.Repeats.{Collects, collects, collects_none, listed_at, unless_memory, then_parses}
use Rattle.walrus_entry_readers.specs.walrus_section_values.Globals.{expr_of}

abbrev pub numbers_of : Vec ℕ → List ℕ
numbers_of v = v.items

abbrev pub exprs_of : Vec (Vec Operator) → List Expr
exprs_of v = map expr_of v.items

-- a count, and so many
abbrev pub many_at : {A : Type 0} → Format A → List ℕ → Parsing (List A)
many_at f bytes = u32.parse bytes >>= λ n. listed_at f n.0 n.1

-- the count of functions in other words
pub counted_as : {X : Type 0} (m n : ℕ) (view : X → List ℕ) (old new : Cursor) (result : Result X Fault) → m ≡ n → Parses (many_at (index spaces.Function m)) view old new result
    → Parses (many_at (index spaces.Function n)) view old new result
counted_as m n view old new result e p = subst (λ (k : ℕ). Parses (many_at (index spaces.Function k)) view old new result) e p

-- a count, and then so many
pub many_parse : {A X : Type 0} (f : Format A) (view : X → List A) (old mid new : Cursor) (n : ℕ) (result : Result X Fault) → ParsesExactly u32.parse (plain {X = ℕ}) old mid (Ok n)
    → Parses (listed_at f n) view mid new result → Parses (many_at f) view old new result
many_parse f view old mid new n result one two =
    then_parses u32.parse (λ n. listed_at f n.0 n.1) (plain {X = ℕ}) view old mid new n result (unless_memory u32.parse (plain {X = ℕ}) old mid (Ok n) one) two

pub listed_under : {X : Type 0} (k : Known) (n : ℕ) (view : X → List Expr) (old mid new : Cursor) (result : Result X Fault) → mid.window ≡ old.window
    → Parses (listed_at (expr mid.window.features k) n) view mid new result → Parses (listed_at (expr old.window.features k) n) view mid new result
listed_under k n view old mid new result same p = subst (λ (w : Window). Parses (listed_at (expr w.features k) n) view mid new result) same p

pub expr_under : {X : Type 0} (k : Known) (view : X → Expr) (old mid new : Cursor) (result : Result X Fault) → mid.window ≡ old.window
    → Parses (expr mid.window.features k).parse view mid new result → Parses (expr old.window.features k).parse view mid new result
expr_under k view old mid new result same p = subst (λ (w : Window). Parses (expr w.features k).parse view mid new result) same p

-- expressions that are collected
pub exprs_none : (f : Format Expr) (start : Cursor) (count : ℕ) (items : List (Vec Operator)) → items ≡ [] → Collects f start start count 0 (map expr_of items)
exprs_none f start count items none = rw none (collects_none f start count)

pub exprs_more : (f : Format Expr) (start here new : Cursor) (count i : ℕ) (items later : List (Vec Operator)) (x : Vec Operator) → later ≡ items ++ x ∷ [] → Collects f start here count i (map expr_of items)
    → i < count → Parses f.parse expr_of here new (Ok x) → Collects f start new count (i + 1) (map expr_of later)
exprs_more f start here new count i items later x push so below p = rw (push, map_push expr_of items x) (collects f expr_of start here new count i (map expr_of items) x so below p)
