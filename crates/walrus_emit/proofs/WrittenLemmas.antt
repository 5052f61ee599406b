-- A whole module was written.
use Rattle.std.specs.Prelude.{ℕ, ◌+◌, ◌≡◌, true, false, List, [], ◌++◌, length, Option, Result, Ok, Err, IfOk}
use Rattle.std.specs.declared.ops.Range.{Range}
use Rattle.std.specs.List.{AllZip}
use Rattle.std.proofs.Common.{ap, sym, ◌∙◌, subst, arith}
use Rattle.walrus_arena.specs.Arena.{Arena, entries}
use Rattle.walrus_errors.specs.declared.error.ModuleError.{ModuleError}
use Rattle.walrus_index_maps.specs.Maps.{Indices, no_indices}
use Rattle.walrus_index_maps.specs.Views.{indices}
use Rattle.walrus_module.specs.Parts.{Module as Parts, parts}
use Rattle.walrus_module.specs.declared.module.Module.{Module}
use Rattle.walrus_module.specs.walrus_collections.LookUps.{local_entries}
use Rattle.walrus_sections.specs.declared.section.Section.{Section}
use Rattle.walrus_sections.specs.declared.transform.CodeTransform.{CodeTransform}
use Rattle.walrus_types.specs.declared.emit.EmittedTypes.{EmittedTypes}
use Rattle.walrus_emit_code.specs.Code.{facts_at}
use Rattle.walrus_emit_code.specs.Places.{code_start}
use Rattle.walrus_emit_code.specs.declared.emission.Emission.{Emission}
use Rattle.walrus_emit_numbers.specs.Facts.{AreFacts}
use Rattle.walrus_emit_numbers.specs.Order.{IsOrder}
use Rattle.walrus_emit_numbers.specs.Undeclared.{undeclared_of}
use Rattle.walrus_emit_numbers.specs.declared.facts.BodyFacts.{BodyFacts}
use Rattle.walrus_emit_parts.specs.Due.{Due, Writes, written}
use Rattle.walrus_emit_parts.proofs.Lemmas.{writes_on}
use Rattle.walrus_emit.specs.Left.{Declares}
use Rattle.walrus_emit.specs.Places.{ArePlaces, AreRanges, Tells}
use Rattle.walrus_emit.specs.Settled.{AreEmitted}
use Rattle.walrus_emit.specs.Whole.{code_begin, first, header, locations, numbers, opening, ranges, sections, standard, whole, with_bodies}
use Rattle.walrus_emit.specs.Written.{IsEmitted, IsStandard, IsTransformed, IsWritten, StandsIn}

-- it is told where these stand
pub told_of : (transform : CodeTransform) (locations taken : List (ℕ × ℕ)) (ranges found : List (ℕ × Range ℕ)) (start : ℕ) → taken ≡ locations → found ≡ ranges → ArePlaces taken start transform.instruction_map.items
    → AreRanges found start transform.function_ranges.items → transform.code_section_start ≡ start → Tells locations ranges start transform
told_of transform locations taken ranges found start same like map bodies begins = record {
  map = subst (λ (l : List (ℕ × ℕ)). ArePlaces l start transform.instruction_map.items) same map;
  bodies = subst (λ (r : List (ℕ × Range ℕ)). AreRanges r start transform.function_ranges.items) like bodies;
  begins = begins;
}

module _ {B : Type 0} where
  -- a module is its parts and its custom sections
  abbrev joined : Parts → Arena (Section B) → Module B
  joined p customs = record {
    alloc = p.alloc;
    config = p.config;
    imports = p.imports;
    tables = p.tables;
    types = p.types;
    funcs = p.funcs;
    globals = p.globals;
    locals = p.locals;
    exports = p.exports;
    memories = p.memories;
    tags = p.tags;
    data_segments = p.data_segments;
    elements = p.elements;
    start = p.start;
    producers = p.producers;
    customs = customs;
    name = p.name;
  }

  same_module : (mid new : Module B) (customs : Arena (Section B)) → parts new ≡ parts mid → mid.customs ≡ customs → mid ≡ record new { customs = customs }
  same_module mid new customs rest same = ap (λ (p : Parts). joined p mid.customs) (sym rest) ∙ ap (λ (a : Arena (Section B)). joined (parts new) a) same

module _ {B : Type 0} (own_name : B → List ℕ) (contents : B → Indices → Option (List ℕ)) where
  -- nothing was there before
  pub stands_in : (input : Module B) (facts : List BodyFacts) (taken order : List ℕ) (emitted : EmittedTypes) (none : List ℕ) (i : Indices) (l : List (ℕ × ℕ)) (r : List (ℕ × Range ℕ)) (before : ℕ) (emission : Emission)
      → taken ≡ order → none ≡ [] → i ≡ numbers input facts order emitted → l ≡ [] → r ≡ [] → before ≡ 0
      → emission.locations.items ≡ l ++ locations input facts taken i → emission.ranges.items ≡ r ++ ranges input facts taken i
      → emission.code_section_start ≡ code_start input.locals input.funcs i before (length none + length (opening own_name contents input facts taken emitted i)) (facts_at facts taken)
      → StandsIn own_name contents input facts order emitted emission
  stands_in input facts taken order emitted none i l r before emission same empty is no_locations no_ranges at_first located ranged begins =
      let at : length none + length (opening own_name contents input facts taken emitted i) ≡ length (opening own_name contents input facts taken emitted i) = omega (arith, ap length empty) in
      record {
        located = located ∙ ap (λ (x : List (ℕ × ℕ)). x ++ locations input facts taken i) no_locations ∙ ap (λ (o : List ℕ). locations input facts o i) same
            ∙ ap (λ (k : Indices). locations input facts order k) is;
        ranged = ranged ∙ ap (λ (x : List (ℕ × Range ℕ)). x ++ ranges input facts taken i) no_ranges ∙ ap (λ (o : List ℕ). ranges input facts o i) same ∙ ap (λ (k : Indices). ranges input facts order k) is;
        begins = begins ∙ ap (λ (b : ℕ). code_start input.locals input.funcs i b (length none + length (opening own_name contents input facts taken emitted i)) (facts_at facts taken)) at_first
            ∙ ap (λ (n : ℕ). code_start input.locals input.funcs i 0 n (facts_at facts taken)) at
            ∙ ap (λ (o : List ℕ). code_begin own_name contents input facts o emitted i) same
            ∙ ap (λ (k : Indices). code_begin own_name contents input facts order emitted k) is;
      }

  pub is_standard : (input : Module B) (facts : List BodyFacts) (taken order : List ℕ) (emitted : EmittedTypes) (none : List ℕ) (i : Indices) (emission : Emission) → taken ≡ order
      → IsOrder facts order → AreEmitted input.types emitted → none ≡ [] → i ≡ numbers input facts order emitted → indices emission.indices ≡ with_bodies input facts taken i
      → written emission.bytes.items ≡ written none ++ standard own_name contents input facts taken emitted i → StandsIn own_name contents input facts order emitted emission
      → IsStandard own_name contents input facts emission
  is_standard input facts taken order emitted none i emission same ordered types empty is numbered w stands = record {
    order = order;
    ordered = ordered;
    emitted = emitted;
    types = types;
    numbers_are = numbered ∙ ap (λ (o : List ℕ). with_bodies input facts o i) same ∙ ap (λ (k : Indices). with_bodies input facts order k) is;
    bytes_are = w ∙ ap (λ (l : List ℕ). written l ++ standard own_name contents input facts taken emitted i) empty
        ∙ ap (λ (o : List ℕ). standard own_name contents input facts o emitted i) same
        ∙ ap (λ (k : Indices). standard own_name contents input facts order emitted k) is;
    stands = stands;
  }

  -- the places that were found stay, as custom sections are written behind all others
  still_stands : (mid new : Module B) (customs : Arena (Section B)) (facts : List BodyFacts) (order : List ℕ) (emitted : EmittedTypes) (emission out : Emission) → parts new ≡ parts mid → mid.customs ≡ customs
      → out ≡ record emission { bytes = out.bytes } → StandsIn own_name contents mid facts order emitted emission → StandsIn own_name contents (record new { customs = customs }) facts order emitted out
  still_stands mid new customs facts order emitted emission out rest same kept h =
      subst (λ (m : Module B). StandsIn own_name contents m facts order emitted out) (same_module mid new customs rest same) (record {
        located = ap (λ (e : Emission). e.locations.items) kept ∙ h.located;
        ranged = ap (λ (e : Emission). e.ranges.items) kept ∙ h.ranged;
        begins = ap (λ (e : Emission). e.code_section_start) kept ∙ h.begins;
      })

  pub is_emitted : (old mid new : Module B) (facts taken : List BodyFacts) (emission : Emission) (r : Result Emission ModuleError) → taken ≡ facts
      → AllZip AreFacts (local_entries (entries old.funcs)) facts → Declares (undeclared_of old taken) (parts old) (parts mid) → mid.customs ≡ old.customs
      → IsStandard own_name contents mid taken emission → parts new ≡ parts mid
      → IfOk r (λ (out : Emission). written out.bytes.items ≡ written emission.bytes.items ++ sections own_name contents false (indices emission.indices) new.customs)
      → IfOk r (λ (out : Emission). out ≡ record emission { bytes = out.bytes })
      → IfOk r (λ (out : Emission). IsEmitted own_name contents old new out)
  is_emitted old mid new facts taken emission (Ok out) same known declared customs s rest last kept = record {
    written = record {
      facts = taken;
      known = subst (λ (l : List BodyFacts). AllZip AreFacts (local_entries (entries old.funcs)) l) (sym same) known;
      declared = subst (λ (p : Parts). Declares (undeclared_of old taken) (parts old) p) (sym rest) declared;
      order = s.order;
      ordered = s.ordered;
      emitted = s.emitted;
      types = subst (λ (p : Parts). AreEmitted p.types s.emitted) (sym rest) s.types;
      bytes_are = last ∙ ap (λ (l : Due). l ++ sections own_name contents false (indices emission.indices) new.customs) s.bytes_are
          ∙ ap (λ (k : Indices). standard own_name contents mid taken s.order s.emitted (numbers mid taken s.order s.emitted) ++ sections own_name contents false k new.customs) s.numbers_are
          ∙ ap (λ (m : Module B). whole own_name contents m taken s.order s.emitted new.customs) (same_module mid new old.customs rest customs);
    };
    stands = still_stands mid new old.customs taken s.order s.emitted emission out rest customs kept s.stands;
  }
  is_emitted old mid new facts taken emission (Err e) same known declared customs s rest last kept = tt

  pub is_written : (old new : Module B) (r : Result Emission ModuleError) → IfOk r (λ (out : Emission). IsEmitted own_name contents old new out)
      → IfOk r (λ (out : Emission). IsWritten own_name contents old new out.bytes.items)
  is_written old new (Ok out) h = h.written
  is_written old new (Err e) h = tt

  pub is_transformed : (old new : Module B) (emission : Emission) (transform : CodeTransform) → IsEmitted own_name contents old new emission
      → Tells emission.locations.items emission.ranges.items emission.code_section_start transform → IsTransformed own_name contents old new emission.bytes.items transform
  is_transformed old new emission transform h tells = record {
    written = h.written;
    tells = subst (λ (n : ℕ). Tells (locations new w.facts w.order i) (ranges new w.facts w.order i) n transform) h.stands.begins
        (subst (λ (r : List (ℕ × Range ℕ)). Tells (locations new w.facts w.order i) r emission.code_section_start transform) h.stands.ranged
        (subst (λ (l : List (ℕ × ℕ)). Tells l emission.ranges.items emission.code_section_start transform) h.stands.located tells));
  }
    where
      w : IsWritten own_name contents old new emission.bytes.items
      w = h.written

      i : Indices
      i = numbers new w.facts w.order w.emitted

  -- the header, then the custom sections that stand first
  pub first_written : (a : Arena (Section B)) (i : Indices) (old mid new : List ℕ) (r : Result (Unit {0}) ModuleError) → i ≡ no_indices → written mid ≡ written old ++ written header
      → Writes (sections own_name contents true i a) mid new r → Writes (first own_name contents a) old new r
  first_written a i old mid new r none h w =
      writes_on old mid new (written header) (sections own_name contents true no_indices a) r h (subst (λ (k : Indices). Writes (sections own_name contents true k a) mid new r) none w)
