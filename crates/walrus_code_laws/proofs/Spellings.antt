-- Lemmas: what is due for bodies, one behind another.
use Rattle.std.specs.Prelude.{ℕ, suc, ◌≡◌, ◌==◌, Bool, true, false, List, [], ◌∷◌, ◌++◌, length, map, take, drop, Option, Some, None, refl}
use Rattle.std.specs.List.{AllByRecursion, cons_option, filter_map, flat_map}
use Rattle.std.specs.Option.{option_map}
use Rattle.std.proofs.Common.{ap, sym, ◌∙◌, arith}
use Rattle.std.proofs.lemmas.Bool.{eqb-true, eq-eqb, false≢true}
use Rattle.std.proofs.lemmas.List.{take-append-drop}
use Rattle.wasm_features.specs.declared.WasmFeatures.{WasmFeatures}
use Rattle.wasm_formats.specs.declared.fault.Space.TheVariants.{Function as FunctionSpace}
use Rattle.wasm_operators.specs.Bytes.{unsigned_bytes}
use Rattle.wasm_operators.specs.Items as items
use Rattle.wasm_operators.specs.Names.{Renaming}
use Rattle.wasm_grammar.specs.States.{nothing_yet}
use Rattle.wasm_body_grammar.specs.Codes.{param_count}
use Rattle.wasm_body_grammar.specs.Rules.{Around}
use Rattle.wasm_grammar_bytes.specs.Shortest.{body_bytes}
use Rattle.wasm_sections.specs.Sections.{CodeSection}
use Rattle.wasm_section_bytes.specs.Files.{entry_bytes}
use Rattle.wasm_section_bytes.specs.Placed.{chunk_bytes}
use Rattle.wasm_section_bytes.specs.Segments.{sized_bytes}
use Rattle.wasm_canonical.specs.Due.{chunk_due, code_due, code_if, entry, origin_bytes, own_bytes}
use Rattle.wasm_part.specs.Part.{renumbered_body, renumbered_function, renumbered_own}
use Rattle.walrus_arena.specs.Arena.{Arena, item_at}
use Rattle.walrus_errors.specs.declared.error.ModuleError.TheVariants.{DeadReference, NotLinked}
use Rattle.walrus_index_maps.specs.Maps.{Indices}
use Rattle.walrus_items.specs.declared.local.Local.{Local}
use Rattle.walrus_local_function.specs.declared.local_function.LocalFunction.{LocalFunction}
use Rattle.walrus_local_numbers.specs.Declared.{local_ids as declared_ids}
use Rattle.walrus_local_numbers.specs.Laws.{ArgumentsFirst, OthersFollow}
use Rattle.walrus_module_items.specs.Functions.{local_of, type_of}
use Rattle.walrus_module_items.specs.declared.function.Function.{Function}
use Rattle.walrus_module_items.specs.declared.function.FunctionKind.{FunctionKind}
use Rattle.walrus_module_items.specs.declared.function.FunctionKind.TheVariants as kinds
use Rattle.walrus_meaning.specs.Bodies.{depth_of, local_ids, own_body}
use Rattle.walrus_body_laws.specs.EmissionLaws.{LocalsAreMeant}
use Rattle.walrus_emit_numbers.specs.declared.facts.BodyFacts.{BodyFacts}
use Rattle.walrus_emit_parts.specs.Due.{Due, number, section, sized, written}
use Rattle.walrus_emit_code.specs.Code.{bodies_due, body_due, body_numbers, contents, kind_due, kind_numbers, slot_due, slot_numbers, with_locals}
use Rattle.walrus_due_laws.specs.Spelled.{SpelledAs, spelled}
use Rattle.walrus_due_laws.proofs.Parts.{alone, both, plain, section_as, sized_as}
use Rattle.walrus_code_laws.specs.Bodies.{BodiesAreSpelled, IsKnown}
use Rattle.walrus_code_laws.specs.Code.{BodiesHavePlaces, CodeIsSpelled, KnowsBody, meant_bytes}
use Rattle.walrus_code_laws.specs.Numbered.{numbered_body, numbered_function, numbered_origin}
use Rattle.walrus_code_laws.specs.Spelled.{HavePlaces, ServesBodies}
use Rattle.walrus_code_laws.proofs.Bodies.{KeysMeant, contents_keys, stand_next}
use Rattle.walrus_code_laws.proofs.Places.{others_kept}
use Rattle.walrus_code_laws.proofs.Texts.{lacking_not, parts}

some_one : {A : Type 0} (x y : A) → (let some : A → Option A = λ z. Some z in some x ≡ some y) → x ≡ y
some_one x y e = cc

-- what can be written is a body with its size, and there is a body
abbrev IsSpelled : Due → Option (List ℕ) → Type 0
IsSpelled due o = (bytes : List ℕ) → due ≡ written bytes → (body : List ℕ) × (o ≡ Some body) × (bytes ≡ sized_bytes body)

module _ (spelling : BodiesAreSpelled) (first : ArgumentsFirst) (others : OthersFollow) (meant : LocalsAreMeant) (a : Around) (r : Renaming) (brings : ℕ → ℕ) (locals : List Local) (functions : Arena Function) where
  -- ---- one body

  module _ (i : Indices) (serves : ServesBodies r i) (facts : BodyFacts) where
    kind_as : (k : FunctionKind) → ((local : LocalFunction) → local_of k ≡ Some local → IsKnown local facts.used_locals.items)
        → ((local : LocalFunction) → local_of k ≡ Some local → HavePlaces (local_ids locals local) (i.locals facts.function))
        → IsSpelled (kind_due locals functions i facts (local_of k))
        (origin_bytes a (param_count a.filled (r items.Types (type_of k))) (renumbered_own r brings (renumbered_body r) (numbered_origin locals k)))
    kind_as (kinds.Import imported) known stand bytes e = absurd (lacking_not NotLinked bytes e)
    kind_as (kinds.Uninitialized ty) known stand bytes e = absurd (lacking_not NotLinked bytes e)
    kind_as (kinds.Local local) known stand bytes e =
        let params = param_count a.filled (r items.Types (type_of (kinds.Local local))) in
        let body = body_bytes a params (renumbered_body r (numbered_body (local_ids locals local) (own_body locals local))) in
        let used = facts.used_locals.items in (
          body,
          refl,
          sized_as (contents locals facts.function local used i) body (spelling a params r i serves locals facts.function local used (known local refl) (stand local refl)) bytes e,
        )

    slot_as : KnowsBody locals functions facts → BodiesHavePlaces locals functions i → (o : Option Function) → item_at functions facts.function ≡ o
        → IsSpelled (slot_due locals functions i facts o) (own_bytes a (option_map (renumbered_function r brings) (option_map (numbered_function locals) o)))
    slot_as knows stand None is bytes e = absurd (lacking_not (DeadReference FunctionSpace) bytes e)
    slot_as knows stand (Some f) is bytes e = kind_as f.kind (λ local has. knows f local is has) (λ local has. stand facts.function f local is has) bytes e

    -- ---- the numbers behind it

    serves_kind : (l : Option LocalFunction) → ServesBodies r (kind_numbers locals functions i facts l)
    serves_kind None = serves
    serves_kind (Some local) = record { follows = serves.follows; types = serves.types; locals = serves.locals; labels = serves.labels }

    pub serves_slot : (o : Option Function) → ServesBodies r (slot_numbers locals functions i facts o)
    serves_slot None = serves
    serves_slot (Some f) = serves_kind (local_of f.kind)

    module _ (knows : KnowsBody locals functions facts) (stand : BodiesHavePlaces locals functions i) (f : Function) (is : item_at functions facts.function ≡ Some f) where
      local_stands : (local : LocalFunction) → local_of f.kind ≡ Some local → KeysMeant locals local facts.used_locals.items → (g : ℕ) (h : Function) (other : LocalFunction) → item_at functions g ≡ Some h
          → local_of h.kind ≡ Some other → (b : Bool) → (g == facts.function) ≡ b
          → HavePlaces (local_ids locals other) ((with_locals locals facts.function local facts.used_locals.items i).locals g)
      local_stands local has keys g h other there kind true same id n e =
          let used = facts.used_locals.items in
          let at : g ≡ facts.function = eqb-true g facts.function same in
          let one : h ≡ f = some_one h f (sym there ∙ ap (item_at functions) at ∙ is) in
          let body : other ≡ local = some_one other local (sym kind ∙ ap (λ (f : Function). local_of f.kind) one ∙ has) in
          let next = stand_next first others locals local used (knows f local is has) keys facts.function i.locals (stand facts.function f local is has) in
          next id n (ap (λ (k : ℕ). (with_locals locals facts.function local used i).locals k id) (sym at) ∙ e) ∙ ap (λ (l : LocalFunction). depth_of (local_ids locals l) id) (sym body)
      local_stands local has keys g h other there kind false same id n e =
          let used = facts.used_locals.items in
          let apart : facts.function ≡ g → ⊥ = λ at. false≢true (sym same ∙ eq-eqb g facts.function (sym at)) in
          stand g h other there kind id n (sym (others_kept facts.function g 0 (declared_ids locals local.args.items used) i.locals id apart) ∙ e)

      kind_stands : (l : Option LocalFunction) → local_of f.kind ≡ l → (bytes : List ℕ) → kind_due locals functions i facts l ≡ written bytes
          → BodiesHavePlaces locals functions (kind_numbers locals functions i facts l)
      kind_stands None has bytes e = stand
      kind_stands (Some local) has bytes e =
          let used = facts.used_locals.items in
          let all = contents locals facts.function local used i in
          let size = number (length all) in
          let p = parts size all bytes e in
          let keys = contents_keys meant locals facts.function local used i (knows f local is has) (drop (length size) bytes) p.1 in
          λ g h other there kind. local_stands local has keys g h other there kind (g == facts.function) refl

    pub slot_stands : KnowsBody locals functions facts → BodiesHavePlaces locals functions i → (o : Option Function) → item_at functions facts.function ≡ o → (bytes : List ℕ)
        → slot_due locals functions i facts o ≡ written bytes → BodiesHavePlaces locals functions (slot_numbers locals functions i facts o)
    slot_stands knows stand None is bytes e = stand
    slot_stands knows stand (Some f) is bytes e = kind_stands knows stand f is (local_of f.kind) refl bytes e

  -- ---- all of them

  abbrev own : BodyFacts → Option (List ℕ)
  own f = meant_bytes locals functions a r brings f.function

  bodies_as : (fs : List BodyFacts) (i : Indices) → ServesBodies r i → BodiesHavePlaces locals functions i → AllByRecursion (KnowsBody locals functions) fs → (bytes : List ℕ)
      → bodies_due locals functions i fs ≡ written bytes → (bytes ≡ flat_map sized_bytes (filter_map own fs)) × (length (filter_map own fs) ≡ length fs)
  bodies_as [] i serves stand known bytes e = (plain [] bytes e, refl)
  bodies_as (f ∷ fs) i serves stand known bytes e =
      let due = body_due locals functions i f in
      let p = parts due (bodies_due locals functions (body_numbers locals functions i f) fs) bytes e in
      let front = take (length due) bytes in
      let back = drop (length due) bytes in
      let o = item_at functions f.function in
      let one = slot_as i serves f known.0 stand o refl front p.0 in
      let later = bodies_as fs (body_numbers locals functions i f) (serves_slot i serves f o) (slot_stands i serves f known.0 stand o refl front p.0) known.1 back p.1 in
      let rest = filter_map own fs in (
        sym (take-append-drop (length due) bytes) ∙ ap (λ (l : List ℕ). l ++ back) one.2 ∙ ap (λ (l : List ℕ). sized_bytes one.0 ++ l) later.0
            ∙ ap (λ (o : Option (List ℕ)). flat_map sized_bytes (cons_option o rest)) (sym one.1),
        ap (λ (o : Option (List ℕ)). length (cons_option o rest)) one.1 ∙ ap (λ (n : ℕ). suc n) later.1,
      )

-- ---- the section

chunks : (bodies : List (List ℕ)) → flat_map sized_bytes bodies ≡ flat_map chunk_bytes (map chunk_due bodies)
chunks [] = refl
chunks (b ∷ bodies) = ap (λ (l : List ℕ). sized_bytes b ++ l) (chunks bodies)

-- their count, and each with its size
abbrev listed : List (List ℕ) → List ℕ
listed bodies = unsigned_bytes (length bodies) ++ flat_map chunk_bytes (map chunk_due bodies)

abbrev AreSpelled : Due → ℕ → List (List ℕ) → Type 0
AreSpelled due n bodies = (bytes : List ℕ) → due ≡ written bytes → (bytes ≡ flat_map sized_bytes bodies) × (length bodies ≡ n)

list_as : (due : Due) (n : ℕ) (bodies : List (List ℕ)) → AreSpelled due n bodies → SpelledAs (number n ++ due) (listed bodies)
list_as due n bodies h bytes e =
    let p = parts (number n) due bytes e in
    let count = (h (drop (length (number n)) bytes) p.1).1 in
    both (number n) due (unsigned_bytes n) (flat_map sized_bytes bodies) (plain (unsigned_bytes n)) (λ back is. (h back is).0) bytes e
    ∙ ap (λ (k : ℕ). unsigned_bytes k ++ flat_map sized_bytes bodies) (sym count) ∙ ap (λ (l : List ℕ). unsigned_bytes (length bodies) ++ l) (chunks bodies)

section_by : (features : WasmFeatures) (due : Due) (n : ℕ) (bodies : List (List ℕ)) → AreSpelled due (suc n) bodies
    → SpelledAs (section 10 (number (suc n) ++ due)) (spelled features (code_if bodies))
section_by features due n [] h bytes e =
    let all = number (suc n) ++ due in
    let p = parts (written (10 ∷ [])) (sized all) bytes e in
    let q = parts (number (length all)) all (drop 1 bytes) p.1 in
    let inner = drop (length (number (length all))) (drop 1 bytes) in
    let s = parts (number (suc n)) due inner q.1 in
    let none : 0 ≡ suc n = (h (drop (length (number (suc n))) inner) s.1).1 in
    absurd (omega (arith, none))
section_by features due n (b ∷ bodies) h bytes e =
    let all = number (suc n) ++ due in
    let list = b ∷ bodies in
    alone (section 10 all) (10 ∷ sized_bytes (listed list)) (entry_bytes features nothing_yet (entry (CodeSection (code_due list)))) refl
    (section_as 10 all (listed list) (list_as due (suc n) list h)) bytes e

pub code_spelled : BodiesAreSpelled → ArgumentsFirst → OthersFollow → LocalsAreMeant → CodeIsSpelled
code_spelled spelling first others meant features a r brings i serves locals functions stand [] known = plain []
code_spelled spelling first others meant features a r brings i serves locals functions stand (f ∷ fs) known =
    section_by features (bodies_due locals functions i (f ∷ fs)) (length fs) (filter_map (λ (f : BodyFacts). meant_bytes locals functions a r brings f.function) (f ∷ fs))
    (bodies_as spelling first others meant a r brings locals functions (f ∷ fs) i serves stand known)
