-- Lemmas: modules in which the listed slots agree have one part.
use Rattle.std.specs.Prelude.{ℕ, zero, suc, ◌≡◌, List, [], ◌∷◌, ◌++◌, map, Option, Some, None, slice_index_or, refl}
use Rattle.std.specs.Option.{option_map}
use Rattle.std.proofs.Common.{ap, ◌∙◌}
use Rattle.wasm_operators.specs.Items.{Functions, Tables, Memories, Tags, Globals, ElementSegments, DataSegments}
use Rattle.wasm_part.specs.Part.{declaring, picked, renumbered_element, renumbered_export, renumbered_function, renumbered_global, renumbered_import, renumbered_memory, renumbered_segment, renumbered_table, renumbered_tag}
use Rattle.wasm_part.specs.Agree.{PartsAgree, SlotsAgree}

picked_agree : {A : Type 0} (f : A → A) (ns : List ℕ) (xs ys : List (Option A)) → SlotsAgree ns xs ys → picked f ns xs ≡ picked f ns ys
picked_agree f [] xs ys h = refl
picked_agree f (n ∷ ns) xs ys h =
    ap (λ (o : Option _). option_map f o ∷ picked f ns xs) (h zero n refl) ∙ ap (λ (l : List (Option _)). option_map f (slice_index_or ys n None) ∷ l) (picked_agree f ns xs ys (λ i k e. h (suc i) k e))

pub parts_agree : PartsAgree
parts_agree p m k h =
    let imports = picked_agree (renumbered_import p.renames) p.imports m.imports k.imports h.imports in
    let functions = picked_agree (renumbered_function p.renames p.brings) (p.listed Functions) m.functions k.functions h.functions in
    let tables = picked_agree (renumbered_table p.renames p.brings) (p.listed Tables) m.tables k.tables h.tables in
    let memories = picked_agree (renumbered_memory p.renames p.brings) (p.listed Memories) m.memories k.memories h.memories in
    let tags = picked_agree (renumbered_tag p.renames p.brings) (p.listed Tags) m.tags k.tags h.tags in
    let globals = picked_agree (renumbered_global p.renames p.brings) (p.listed Globals) m.globals k.globals h.globals in
    let exports = picked_agree (renumbered_export p.renames) p.exports m.exports k.exports h.exports in
    let elements = picked_agree (renumbered_element p.renames) (p.listed ElementSegments) m.elements k.elements h.elements in
    let segments = picked_agree (renumbered_segment p.renames) (p.listed DataSegments) m.segments k.segments h.segments in
    λ i. record {
      groups = p.groups;
      imports = imports i;
      functions = functions i;
      tables = tables i;
      memories = memories i;
      tags = tags i;
      globals = globals i;
      exports = exports i;
      start = option_map (p.renames Functions) (h.start i);
      elements = elements i ++ map (λ ns. Some (declaring p.renames ns)) p.declared;
      segments = segments i;
      customs = [];
    }
