-- What the numbers of a file name in a module that began empty: each type has the id of what stands for it, and the other items have the
-- ids 0, 1 and on, in the file's order.
use Rattle.std.specs.Prelude.{◌≡◌, ◌++◌, length}
use Rattle.walrus_read_laws.specs.walrus_tables_into.walrus_sections_into.walrus_index_maps.Maps.{Ids, no_ids}
use Rattle.walrus_read_laws.specs.walrus_tables_into.walrus_sections_into.walrus_instr.walrus_types.Parsing.{Parsed, parsed, unparsed}
use Rattle.walrus_module_bodies.specs.walrus_functions_into.walrus_types_into.Into.{no_types}
use Rattle.walrus_read_laws.specs.walrus_tables_into.walrus_sections_into.Numbers.{upto}
use Rattle.walrus_read_laws.specs.walrus_tables_into.walrus_sections_into.walrus_known_sections.declared.sections.Sections.{Sections}

-- the types of the file, in a table that began empty
abbrev pub types_in : Sections → Parsed
types_in s = parsed s.types (unparsed no_types)

-- the map with the numbers of all items but types and functions behind those before
abbrev pub with_items : Sections → Ids → Ids
with_items s m = record m {
  tables = m.tables ++ upto (length s.tables.items);
  memories = m.memories ++ upto (length s.memories.items);
  tags = m.tags ++ upto (length s.tags.items);
  globals = m.globals ++ upto (length s.globals.items);
  elements = m.elements ++ upto (length s.elements.items);
  segments = m.segments ++ upto (length s.segments.items);
}

-- the map of a file; no function has a local yet
abbrev pub numbers_of : Sections → Ids
numbers_of s = record no_ids {
  types = (types_in s).ids;
  functions = upto (length s.functions.items);
  tables = upto (length s.tables.items);
  memories = upto (length s.memories.items);
  tags = upto (length s.tags.items);
  globals = upto (length s.globals.items);
  elements = upto (length s.elements.items);
  segments = upto (length s.segments.items);
}

-- the map numbers what the file has; whether all locals are wanted is another matter
abbrev pub AreNumbersOf : Sections → Ids → Type 0
AreNumbersOf s i = i ≡ record (numbers_of s) { all_locals = i.all_locals }
