-- Lemmas: nothing that was read lacks anything that the new map names, so that an error is want of memory.
use Rattle.std.proofs.Common.{◌≡◌, ◌∙◌, List, Some, Result, Ok, Err, IfErr, IsErr, refl, sym, subst}
use Rattle.std.specs.Prelude.{IsErrAnd}
use Rattle.std.specs.List.{Any}
use Rattle.walrus_read_laws.specs.walrus_tables_into.walrus_sections_into.walrus_index_maps.Maps.{Ids}
use Rattle.walrus_read_laws.specs.walrus_tables_into.walrus_sections_into.walrus_known_sections.Items.{function_of, table_of, memory_of, tag_of}
use Rattle.walrus_read_laws.specs.walrus_tables_into.walrus_section_values.Globals.{global_of}
use Rattle.walrus_read_laws.specs.walrus_tables_into.walrus_sections_into.walrus_known_sections.State.{state_of}
use Rattle.walrus_read_laws.specs.walrus_tables_into.walrus_sections_into.walrus_known_sections.declared.sections.Sections.{Sections}
use Rattle.walrus_read_laws.specs.walrus_tables_into.walrus_sections_into.declared.error.IntoError.{IntoError}
use Rattle.walrus_read_laws.specs.walrus_tables_into.walrus_sections_into.declared.error.IntoError.TheVariants as errors
use Rattle.walrus_read_laws.specs.walrus_tables_into.walrus_sections_into.Becomes.{look_of}
use Rattle.walrus_module_bodies.specs.walrus_functions_into.walrus_types_into.Into.{TypesNameBelow, NewTypesStand}
use Rattle.walrus_read_laws.specs.Whole.{AreNumbered, LackNothing, ReadSectionsLackNothing}
use Rattle.walrus_items_into.specs.Filled.{AreRead, WereRead}
use Rattle.walrus_items_into.specs.Numbers.{numbers_of}
use Rattle.walrus_items_into.proofs.FillLemmas.{below}
use Rattle.walrus_items_into.proofs.FiledLemmas.{many}

-- the map of a file numbers all of it
all_numbered : (s : Sections) → TypesNameBelow → NewTypesStand → AreRead s → AreNumbered (numbers_of s) (state_of s).filled
all_numbered s names stand read = record {
  types = let t = stand s.types (below s names read) in t.sized;
  functions = many (numbers_of s).functions s.functions.items (λ x. Some (function_of x)) refl;
  tables = many (numbers_of s).tables s.tables.items (λ x. Some (table_of x)) refl;
  memories = many (numbers_of s).memories s.memories.items (λ x. Some (memory_of x)) refl;
  tags = many (numbers_of s).tags s.tags.items (λ x. Some (tag_of x)) refl;
  globals = many (numbers_of s).globals s.globals.items (λ x. Some (global_of x)) refl;
}

nothing_lacks : (s : Sections) (l : Ids) → ReadSectionsLackNothing → TypesNameBelow → NewTypesStand → AreRead s → l ≡ numbers_of s → LackNothing (look_of l) s
nothing_lacks s l law names stand read same =
    subst (λ (l : Ids). LackNothing (look_of l) s) (sym same) (law read.0 read.1 s (numbers_of s) read.2 read.3 (all_numbered s names stand read))

-- nor does what is left of it
pub left_lacks : (left : Sections) (l : Ids) → ReadSectionsLackNothing → TypesNameBelow → NewTypesStand → WereRead left l → LackNothing (look_of l) left
left_lacks left l law names stand (s, same, read, numbered) =
    let n = nothing_lacks s l law names stand read numbered in
    subst (LackNothing (look_of l)) (sym same) (record {
      imports = n.imports;
      tables = n.tables;
      tags = n.tags;
      globals = n.globals;
      exports = n.exports;
      start = n.start;
      elements = n.elements;
      segments = n.segments;
    })

only_memory : (e : IntoError) → (e ≡ errors.Unknown → ⊥) → e ≡ errors.Memory
only_memory errors.Memory h = refl
only_memory errors.Unknown h = absurd (h refl)

-- a refusal that `?` hands on is want of memory, where none of the items lacks anything
pub refused_by : {A X : Type 0} (Lacks : X → Type 0) (xs ys : List X) (e : IntoError) (result : Result A IntoError) → ys ≡ xs → (Any Lacks xs → ⊥)
    → (e ≡ errors.Unknown → Any Lacks ys) → IsErr result × IsErrAnd result (λ x. x ≡ e) → IfErr result (λ x. x ≡ errors.Memory)
refused_by Lacks xs ys e (Ok x) same none unknown h = tt
refused_by {A} {X} Lacks xs ys e (Err x) same none unknown h = h.1 ∙ only_memory e (λ is. none (subst (λ (xs : List X). Any Lacks xs) same (unknown is)))

-- and so is that of a start function which is there
pub never_refused : {A : Type 0} (Lacks : Type 0) (result : Result A IntoError) → (Lacks → ⊥) → IfErr result (λ e. (e ≡ errors.Unknown) × Lacks) → IfErr result (λ e. e ≡ errors.Memory)
never_refused Lacks (Ok x) none h = tt
never_refused Lacks (Err e) none h = absurd (none h.1)
