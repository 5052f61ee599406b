-- Lemmas: the pairs that the writing of bodies leaves, one behind another.
use Rattle.std.specs.Prelude.{ℕ, ◌+◌, ◌≡◌, List, [], ◌∷◌, ◌++◌, length, take, drop, Option, Some, None, refl}
use Rattle.std.specs.List.{AllByRecursion}
use Rattle.std.specs.Option.{option_map}
use Rattle.std.proofs.Common.{ap, ◌∙◌, arith}
use Rattle.std.proofs.lemmas.List.{length-append}
use Rattle.wasm_formats.specs.declared.fault.Space.TheVariants.{Function as FunctionSpace}
use Rattle.wasm_operators.specs.Bytes.{unsigned_bytes}
use Rattle.wasm_operators.specs.Items.{Types}
use Rattle.wasm_operators.specs.Names.{Renaming}
use Rattle.wasm_body_grammar.specs.Codes.{param_count}
use Rattle.wasm_body_grammar.specs.Rules.{Around}
use Rattle.wasm_grammar_bytes.specs.Shortest.{body_bytes}
use Rattle.wasm_part.specs.Part.{renumbered_body, renumbered_function, renumbered_own}
use Rattle.wasm_places_laws.specs.Begun.{behind_origin, behind_slot}
use Rattle.wasm_places_laws.specs.Pairs.{body_pairs, functions_pairs, origin_pairs, slot_pairs}
use Rattle.walrus_arena.specs.Arena.{Arena, item_at}
use Rattle.walrus_errors.specs.declared.error.ModuleError.TheVariants.{DeadReference, NotLinked}
use Rattle.walrus_index_maps.specs.Maps.{Indices}
use Rattle.walrus_items.specs.declared.local.Local.{Local}
use Rattle.walrus_local_function.specs.declared.local_function.LocalFunction.{LocalFunction}
use Rattle.walrus_local_numbers.specs.Laws.{ArgumentsFirst, OthersFollow}
use Rattle.walrus_module_items.specs.Functions.{local_of, type_of}
use Rattle.walrus_module_items.specs.declared.function.Function.{Function}
use Rattle.walrus_module_items.specs.declared.function.FunctionKind.{FunctionKind}
use Rattle.walrus_module_items.specs.declared.function.FunctionKind.TheVariants as kinds
use Rattle.walrus_meaning.specs.Bodies.{local_ids, own_body}
use Rattle.walrus_body_laws.specs.EmissionLaws.{LocalsAreMeant}
use Rattle.walrus_emit_numbers.specs.declared.facts.BodyFacts.{BodyFacts}
use Rattle.walrus_emit_parts.specs.Due.{Due, number, sized, written}
use Rattle.walrus_emit_parts.proofs.Lemmas.{written_size}
use Rattle.walrus_emit_code.specs.Code.{bodies_due, body_due, body_numbers, contents, kind_due, slot_due}
use Rattle.walrus_emit_code.specs.Places.{bodies_locations, kind_locations, slot_locations}
use Rattle.walrus_code_laws.specs.Bodies.{BodiesAreSpelled, IsKnown}
use Rattle.walrus_code_laws.specs.Code.{BodiesHavePlaces, KnowsBody}
use Rattle.walrus_code_laws.specs.Numbered.{numbered_body, numbered_function, numbered_origin}
use Rattle.walrus_code_laws.specs.Spelled.{HavePlaces, ServesBodies}
use Rattle.walrus_code_laws.proofs.Spellings.{serves_slot, slot_stands}
use Rattle.walrus_code_laws.proofs.Texts.{lacking_not, parts}
use Rattle.walrus_places_laws.specs.Bodies.{BodyPlacesArePairs, no_place}
use Rattle.walrus_places_laws.specs.Code.{CodePlacesArePairs, meant_at, meant_of}

number_size : (n : ℕ) → length (number n) ≡ length (unsigned_bytes n)
number_size n = written_size (unsigned_bytes n)

-- where it can be written and stands there, these are its pairs, and what follows stands here
abbrev HasPairs : Due → ℕ → List (ℕ × ℕ) → List (ℕ × ℕ) → ℕ → Type 0
HasPairs due at left pairs next = (bytes : List ℕ) → due ≡ written bytes → (left ≡ pairs) × (at + length due ≡ next)

module _ (spelling : BodiesAreSpelled) (pairs : BodyPlacesArePairs) (first : ArgumentsFirst) (others : OthersFollow) (meant : LocalsAreMeant) (a : Around) (r : Renaming) (brings : ℕ → ℕ) (locals : List Local) (functions : Arena Function) where
  -- ---- one body

  module _ (i : Indices) (serves : ServesBodies r i) (facts : BodyFacts) (at : ℕ) where
    kind_pairs : (k : FunctionKind) → ((local : LocalFunction) → local_of k ≡ Some local → IsKnown local facts.used_locals.items)
        → ((local : LocalFunction) → local_of k ≡ Some local → HavePlaces (local_ids locals local) (i.locals facts.function))
        → HasPairs (kind_due locals functions i facts (local_of k)) at (kind_locations locals functions i facts at (local_of k))
        (origin_pairs no_place a (param_count a.filled (r Types (type_of k))) at (renumbered_own r brings (renumbered_body r) (numbered_origin locals k)))
        (behind_origin a (param_count a.filled (r Types (type_of k))) at (renumbered_own r brings (renumbered_body r) (numbered_origin locals k)))
    kind_pairs (kinds.Import imported) known stand bytes e = absurd (lacking_not NotLinked bytes e)
    kind_pairs (kinds.Uninitialized ty) known stand bytes e = absurd (lacking_not NotLinked bytes e)
    kind_pairs (kinds.Local local) known stand bytes e =
        let params = param_count a.filled (r Types (type_of (kinds.Local local))) in
        let x = renumbered_body r (numbered_body (local_ids locals local) (own_body locals local)) in
        let body = body_bytes a params x in
        let used = facts.used_locals.items in
        let c = contents locals facts.function local used i in
        let size = number (length c) in
        let p = parts size c bytes e in
        let inner = drop (length size) bytes in
        let same : length c ≡ length body =
        ap length p.1 ∙ written_size inner ∙ ap length (spelling a params r i serves locals facts.function local used (known local refl) (stand local refl) inner p.1) in
        let sizes : length size ≡ length (unsigned_bytes (length body)) = number_size (length c) ∙ ap (λ (n : ℕ). length (unsigned_bytes n)) same in
        let all = length-append size c in (
          pairs a params r i serves locals facts.function local used (known local refl) (stand local refl) inner p.1 (at + length size) ∙ ap (λ (n : ℕ). body_pairs no_place a params (at + n) x) sizes,
          omega (arith, all, same, sizes),
        )

    function_pairs : KnowsBody locals functions facts → BodiesHavePlaces locals functions i → (o : Option Function) → item_at functions facts.function ≡ o
        → HasPairs (slot_due locals functions i facts o) at (slot_locations locals functions i facts at o)
        (slot_pairs no_place a at (option_map (renumbered_function r brings) (option_map (numbered_function locals) o)))
        (behind_slot a at (option_map (renumbered_function r brings) (option_map (numbered_function locals) o)))
    function_pairs knows stand None is bytes e = absurd (lacking_not (DeadReference FunctionSpace) bytes e)
    function_pairs knows stand (Some f) is bytes e = kind_pairs f.kind (λ local has. knows f local is has) (λ local has. stand facts.function f local is has) bytes e

  -- ---- all of them

  bodies_pairs : (fs : List BodyFacts) (i : Indices) (at : ℕ) → ServesBodies r i → BodiesHavePlaces locals functions i → AllByRecursion (KnowsBody locals functions) fs → (bytes : List ℕ)
      → bodies_due locals functions i fs ≡ written bytes → bodies_locations locals functions i at fs ≡ functions_pairs no_place a at (meant_of locals functions r brings fs)
  bodies_pairs [] i at serves stand known bytes e = refl
  bodies_pairs (f ∷ fs) i at serves stand known bytes e =
      let due = body_due locals functions i f in
      let numbers = body_numbers locals functions i f in
      let p = parts due (bodies_due locals functions numbers fs) bytes e in
      let front = take (length due) bytes in
      let o = item_at functions f.function in
      let one = function_pairs i serves f at known.0 stand o refl front p.0 in
      let next = behind_slot a at (meant_at locals functions r brings f.function) in
      let later = bodies_pairs fs numbers next (serves_slot spelling first others meant a r brings locals functions i serves f o)
      (slot_stands spelling first others meant a r brings locals functions i serves f known.0 stand o refl front p.0) known.1 (drop (length due) bytes) p.1 in
      ap (λ (n : ℕ). slot_locations locals functions i f at o ++ bodies_locations locals functions numbers n fs) one.1
      ∙ ap (λ (l : List (ℕ × ℕ)). slot_locations locals functions i f at o ++ l) later
      ∙ ap (λ (l : List (ℕ × ℕ)). l ++ functions_pairs no_place a next (meant_of locals functions r brings fs)) one.0

pub code_pairs : BodiesAreSpelled → BodyPlacesArePairs → ArgumentsFirst → OthersFollow → LocalsAreMeant → CodePlacesArePairs
code_pairs spelling pairs first others meant a r brings i serves locals functions stand [] known bytes e = refl
code_pairs spelling pairs first others meant a r brings i serves locals functions stand (f ∷ fs) known bytes e =
    let count = number (length (f ∷ fs)) in
    let due = bodies_due locals functions i (f ∷ fs) in
    let all : Due = count ++ due in
    let p = parts (written (10 ∷ [])) (sized all) bytes e in
    let q = parts (number (length all)) all (drop 1 bytes) p.1 in
    let inner = drop (length (number (length all))) (drop 1 bytes) in
    let s = parts count due inner q.1 in
    bodies_pairs spelling pairs first others meant a r brings locals functions (f ∷ fs) i (length count) serves stand known (drop (length count) inner) s.1
    ∙ ap (λ (n : ℕ). functions_pairs no_place a n (meant_of locals functions r brings (f ∷ fs))) (number_size (length (f ∷ fs)))
