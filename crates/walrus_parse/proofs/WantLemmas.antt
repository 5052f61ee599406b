-- Lemmas: a module stays filled when all locals are wanted, or not.
use Rattle.std.specs.Prelude.{ℕ, ◌≡◌, Bool, [], Option, refl}
use Rattle.std.proofs.Common.{ap, sym, subst}
use Rattle.walrus_named_bodies.specs.walrus_file_bodies.walrus_items_into.Filled.{IsFilledFrom}
use Rattle.walrus_named_bodies.specs.walrus_file_bodies.walrus_items_into.Numbers.{AreNumbersOf}
use Rattle.walrus_named_bodies.specs.walrus_file_bodies.walrus_items_into.Spaces.{Spaces}
use Rattle.walrus_named_bodies.specs.walrus_file_bodies.walrus_items_into.walrus_tables_into.Elements.{IsElementOf}
use Rattle.walrus_named_bodies.specs.walrus_file_bodies.walrus_items_into.walrus_tables_into.Globals.{IsGlobalOf}
use Rattle.walrus_named_bodies.specs.walrus_file_bodies.walrus_items_into.walrus_tables_into.Tables.{IsTableOf}
use Rattle.walrus_named_bodies.specs.walrus_file_bodies.walrus_items_into.walrus_tables_into.walrus_sections_into.Becomes.{look_of}
use Rattle.walrus_named_bodies.specs.walrus_file_bodies.walrus_items_into.walrus_tables_into.walrus_sections_into.Exports.{IsExportOf, StartBecomes}
use Rattle.walrus_named_bodies.specs.walrus_file_bodies.walrus_items_into.walrus_tables_into.walrus_sections_into.Imports.{IsImportOf}
use Rattle.walrus_named_bodies.specs.walrus_file_bodies.walrus_items_into.walrus_tables_into.walrus_sections_into.Segments.{IsSegmentOf}
use Rattle.walrus_named_bodies.specs.walrus_file_bodies.walrus_items_into.walrus_tables_into.walrus_sections_into.Slots.{Filled}
use Rattle.walrus_named_bodies.specs.walrus_file_bodies.walrus_items_into.walrus_tables_into.walrus_sections_into.Tags.{IsTagOf}
use Rattle.walrus_named_bodies.specs.walrus_file_bodies.walrus_items_into.walrus_tables_into.walrus_sections_into.walrus_index_maps.Maps.{Ids}
use Rattle.walrus_named_bodies.specs.walrus_file_bodies.walrus_items_into.walrus_tables_into.walrus_sections_into.walrus_known_sections.declared.sections.Sections.{Sections}
use Rattle.walrus_named_bodies.specs.walrus_file_bodies.walrus_items_into.walrus_tables_into.walrus_sections_into.walrus_pairing.Looks.{Look}
use Rattle.walrus_named_bodies.specs.walrus_file_bodies.walrus_items_into.walrus_tables_into.walrus_sections_into.walrus_pairing.wasm_operators.Items.{Space, Types, Functions, Tables, Memories, Tags, Globals, ElementSegments, DataSegments, Locals, Labels}

-- what indices name is the same
look_wanting : (i : Ids) (c : Bool) → look_of i ≡ look_of (record i { all_locals = c })
look_wanting i c = λ k space n. at space n k
  where
    at : (space : Space) (n : ℕ) → look_of i space n ≡ look_of (record i { all_locals = c }) space n
    at Types n = refl
    at Functions n = refl
    at Tables n = refl
    at Memories n = refl
    at Tags n = refl
    at Globals n = refl
    at ElementSegments n = refl
    at DataSegments n = refl
    at Locals n = refl
    at Labels n = refl

pub filled_wanting : {B : Type 0} (s : Sections) (begin : Option ℕ) (i j : Ids) (m : Spaces B) (c : Bool) → j ≡ record i { all_locals = c } → IsFilledFrom s begin i m → IsFilledFrom s begin j m
filled_wanting {B} s begin i j m c e f = subst (λ (k : Ids). IsFilledFrom s begin k m) (sym e) (record {
  numbers = ap (λ (k : Ids). record k { all_locals = c }) f.numbers;
  types = f.types;
  functions = f.functions;
  imports = subst (λ (l : Look). Filled (IsImportOf l) s.imports.items [] m.imports.slots) same f.imports;
  tables = subst (λ (l : Look). Filled (IsTableOf l) s.tables.items [] m.tables.slots) same f.tables;
  memories = f.memories;
  tags = subst (λ (l : Look). Filled (IsTagOf l) s.tags.items [] m.tags.slots) same f.tags;
  globals = subst (λ (l : Look). Filled (IsGlobalOf l) s.globals.items [] m.globals.slots) same f.globals;
  exports = subst (λ (l : Look). Filled (IsExportOf l) s.exports.items [] m.exports.slots) same f.exports;
  elements = subst (λ (l : Look). Filled (IsElementOf l) s.elements.items [] m.elements.slots) same f.elements;
  segments = subst (λ (l : Look). Filled (IsSegmentOf l) s.segments.items [] m.segments.slots) same f.segments;
  customs = f.customs;
  start = subst (λ (l : Look). StartBecomes l s.start begin) same f.start;
})
  where
    same : look_of i ≡ look_of (record i { all_locals = c })
    same = look_wanting i c
