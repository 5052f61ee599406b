-- What was read so far, in words of the grammar.
use Rattle.std.specs.Prelude.{List, map, Option, Some}
use Rattle.std.specs.Option.{option_map}
use Rattle.std.specs.Global.{Vec}
use Rattle.wasm_sections.specs.wasm_grammar.States as grammar
use Rattle.walrus_section_values.specs.Globals.{global_of}
use Rattle.walrus_known_sections.specs.Items.{import_of, function_of, table_of, memory_of, tag_of, export_of, element_of, data_of, custom_of, chunk_of}
use Rattle.walrus_known_sections.specs.declared.sections.Sections.{Sections}

-- slots that are all filled
abbrev pub slots : {X Y : Type 0} → (X → Y) → Vec X → List (Option Y)
slots f v = map (λ x. Some (f x)) v.items

abbrev pub state_of : Sections → grammar.State
state_of s = record {
  filled = record {
    groups = s.types;
    imports = slots import_of s.imports;
    functions = slots function_of s.functions;
    tables = slots table_of s.tables;
    memories = slots memory_of s.memories;
    tags = slots tag_of s.tags;
    globals = slots global_of s.globals;
    exports = slots export_of s.exports;
    start = s.start;
    elements = slots element_of s.elements;
    segments = slots data_of s.segments;
    customs = slots custom_of s.customs;
  };
  imported = s.imported;
  last = s.last;
  data_count = s.data_count;
  bodies = option_map (λ v. map chunk_of v.items) s.bodies;
  code_start = s.code_start;
  offset = s.offset;
}
