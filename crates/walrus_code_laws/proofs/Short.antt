-- Lemmas: bodies that can be written are no longer than a reader takes.
use Rattle.std.specs.Prelude.{ℕ, suc, ◌≡◌, Bool, List, [], ◌∷◌, ◌++◌, length, take, drop, Option, Some, None, refl, ◌≤◌, ◌<◌, ◌⊎◌, if◌then◌else◌}
use Rattle.std.specs.List.{AllByRecursion, cons_option, filter_map}
use Rattle.std.specs.Option.{option_map}
use Rattle.std.proofs.Common.{ap, sym, ◌∙◌, arith, subst, inl, inr}
use Rattle.wasm_formats.specs.declared.fault.Space.TheVariants.{Function as FunctionSpace}
use Rattle.wasm_operators.specs.Items as items
use Rattle.wasm_operators.specs.Names.{Renaming}
use Rattle.wasm_body_grammar.specs.Codes.{param_count}
use Rattle.wasm_body_grammar.specs.Rules.{Around}
use Rattle.wasm_grammar_bytes.specs.Shortest.{body_bytes}
use Rattle.wasm_canonical.specs.Due.{origin_bytes, own_bytes}
use Rattle.wasm_part.specs.Part.{renumbered_body, renumbered_function, renumbered_own}
use Rattle.walrus_arena.specs.Arena.{Arena, item_at}
use Rattle.walrus_errors.specs.declared.error.ModuleError.TheVariants.{DeadReference, NotLinked, OutputLimit}
use Rattle.walrus_index_maps.specs.Maps.{Indices}
use Rattle.walrus_items.specs.declared.local.Local.{Local}
use Rattle.walrus_local_function.specs.declared.local_function.LocalFunction.{LocalFunction}
use Rattle.walrus_local_numbers.specs.Laws.{ArgumentsFirst, OthersFollow}
use Rattle.walrus_module_items.specs.Functions.{local_of, type_of}
use Rattle.walrus_module_items.specs.declared.function.Function.{Function}
use Rattle.walrus_module_items.specs.declared.function.FunctionKind.{FunctionKind}
use Rattle.walrus_module_items.specs.declared.function.FunctionKind.TheVariants as kinds
use Rattle.walrus_meaning.specs.Bodies.{local_ids, own_body}
use Rattle.walrus_body_laws.specs.EmissionLaws.{LocalsAreMeant}
use Rattle.walrus_emit_numbers.specs.declared.facts.BodyFacts.{BodyFacts}
use Rattle.walrus_emit_parts.specs.Due.{Due, number, sized, written, limited, lacking}
use Rattle.walrus_emit_code.specs.Code.{bodies_due, body_due, body_numbers, contents, kind_due, slot_due, with_locals, code, declarations, operators_due, local_count}
use Rattle.walrus_code_laws.specs.Bodies.{BodiesAreSpelled, IsKnown}
use Rattle.walrus_code_laws.specs.Code.{BodiesHavePlaces, KnowsBody, meant_bytes}
use Rattle.walrus_code_laws.specs.Numbered.{numbered_body, numbered_function, numbered_origin}
use Rattle.walrus_code_laws.specs.Spelled.{HavePlaces, ServesBodies}
use Rattle.walrus_code_laws.proofs.Texts.{lacking_not, parts}
use Rattle.std.proofs.lemmas.Bool.{cases_lt, le-ltb, lt-ltb}
use Rattle.std.proofs.lemmas.Option.{same_Some}
use Rattle.wasm_formats.specs.declared.fault.Limited.{Limited}
use Rattle.wasm_formats.specs.declared.fault.Limited.TheVariants.{Locals as LocalsLimit, Body as BodyLimit}
use Rattle.wasm_canonical.specs.Formed.{AreNotLong}
use Rattle.walrus_code_laws.specs.Short.{PartBodiesAreShort}
use Rattle.walrus_code_laws.proofs.Bodies.{limit_off}
use Rattle.walrus_code_laws.proofs.Spellings.{serves_slot, slot_stands}
use Rattle.walrus_code_laws.proofs.Parts.{bytes_at, facts_bodies, part_bodies}

limit_kept : (most n : ℕ) (of : Limited) (due : Due) (bytes : List ℕ) → limited most n of due ≡ written bytes → (n ≤ most) × (due ≡ written bytes)
limit_kept most n of due bytes e = go (cases_lt most n)
  where
    go : (most < n) ⊎ (n ≤ most) → (n ≤ most) × (due ≡ written bytes)
    go (inl lt) = absurd (lacking_not (OutputLimit of) bytes (sym (ap (λ (b : Bool). if b then lacking (OutputLimit of) else due) (lt-ltb most n lt)) ∙ e))
    go (inr le) = (le, sym (ap (λ (b : Bool). if b then lacking (OutputLimit of) else due) (le-ltb most n le)) ∙ e)

written_size : (bytes : List ℕ) → length (written bytes) ≡ length bytes
written_size [] = refl
written_size (b ∷ bytes) = ap (λ (n : ℕ). suc n) (written_size bytes)

abbrev IsShort : Option (List ℕ) → Type 0
IsShort o = (body : List ℕ) → o ≡ Some body → length body ≤ 7654321

joined : (o : Option (List ℕ)) (rest : List (List ℕ)) → IsShort o → AreNotLong rest → AreNotLong (cons_option o rest)
joined None rest h more = more
joined (Some body) rest h more = (h body refl, more)

module _ (spelling : BodiesAreSpelled) (first : ArgumentsFirst) (others : OthersFollow) (meant : LocalsAreMeant) (a : Around) (r : Renaming) (brings : ℕ → ℕ) (locals : List Local) (functions : Arena Function) where
  module _ (i : Indices) (serves : ServesBodies r i) (facts : BodyFacts) where
    local_short : (local : LocalFunction) (params : ℕ) → IsKnown local facts.used_locals.items → HavePlaces (local_ids locals local) (i.locals facts.function)
        → (bytes : List ℕ) → sized (contents locals facts.function local facts.used_locals.items i) ≡ written bytes
        → length (body_bytes a params (renumbered_body r (numbered_body (local_ids locals local) (own_body locals local)))) ≤ 7654321
    local_short local params known stand bytes e =
        let used = facts.used_locals.items in
        let numbers = with_locals locals facts.function local used i in
        let inner : Due = declarations locals local used i ++ operators_due facts.function local numbers in
        let all : Due = contents locals facts.function local used i in
        let back = drop (length (number (length all))) bytes in
        let can : all ≡ written back = (parts (number (length all)) all bytes e).1 in
        let limited_so = limit_off 50000 (local_count (numbers.locals facts.function) (length local.args.items) used) LocalsLimit (limited 7654321 (length inner) BodyLimit inner) back can in
        let kept = limit_kept 7654321 (length inner) BodyLimit inner back limited_so in
        let same : length inner ≡ length back = ap length kept.1 ∙ written_size back in
        let is = ap length (spelling a params r i serves locals facts.function local used known stand back can) in
        let most = kept.0 in
        omega (arith, same, is, most)

    kind_short : (k : FunctionKind) → ((local : LocalFunction) → local_of k ≡ Some local → IsKnown local facts.used_locals.items)
        → ((local : LocalFunction) → local_of k ≡ Some local → HavePlaces (local_ids locals local) (i.locals facts.function))
        → (bytes : List ℕ) → kind_due locals functions i facts (local_of k) ≡ written bytes
        → IsShort (origin_bytes a (param_count a.filled (r items.Types (type_of k))) (renumbered_own r brings (renumbered_body r) (numbered_origin locals k)))
    kind_short (kinds.Import imported) known stand bytes e body is = absurd (lacking_not NotLinked bytes e)
    kind_short (kinds.Uninitialized ty) known stand bytes e body is = absurd (lacking_not NotLinked bytes e)
    kind_short (kinds.Local local) known stand bytes e body is =
        let params = param_count a.filled (r items.Types (type_of (kinds.Local local))) in
        subst (λ (b : List ℕ). length b ≤ 7654321) (same_Some (body_bytes a params (renumbered_body r (numbered_body (local_ids locals local) (own_body locals local)))) body is)
        (local_short local params (known local refl) (stand local refl) bytes e)

    slot_short : KnowsBody locals functions facts → BodiesHavePlaces locals functions i → (o : Option Function) → item_at functions facts.function ≡ o
        → (bytes : List ℕ) → slot_due locals functions i facts o ≡ written bytes → IsShort (own_bytes a (option_map (renumbered_function r brings) (option_map (numbered_function locals) o)))
    slot_short knows stand None is bytes e body has = absurd (lacking_not (DeadReference FunctionSpace) bytes e)
    slot_short knows stand (Some f) is bytes e body has = kind_short f.kind (λ local has. knows f local is has) (λ local has. stand facts.function f local is has) bytes e body has

  abbrev own : BodyFacts → Option (List ℕ)
  own f = meant_bytes locals functions a r brings f.function

  bodies_short : (fs : List BodyFacts) (i : Indices) → ServesBodies r i → BodiesHavePlaces locals functions i → AllByRecursion (KnowsBody locals functions) fs → (bytes : List ℕ)
      → bodies_due locals functions i fs ≡ written bytes → AreNotLong (filter_map own fs)
  bodies_short [] i serves stand known bytes e = tt
  bodies_short (f ∷ fs) i serves stand known bytes e =
      let due = body_due locals functions i f in
      let p = parts due (bodies_due locals functions (body_numbers locals functions i f) fs) bytes e in
      let front = take (length due) bytes in
      let back = drop (length due) bytes in
      let o = item_at functions f.function in
      let serves_on = serves_slot spelling first others meant a r brings locals functions i serves f o in
      let stand_on = slot_stands spelling first others meant a r brings locals functions i serves f known.0 stand o refl front p.0 in
      joined (own f) (filter_map own fs) (slot_short i serves f known.0 stand o refl front p.0)
      (bodies_short fs (body_numbers locals functions i f) serves_on stand_on known.1 back p.1)

  code_short : (fs : List BodyFacts) (i : Indices) → ServesBodies r i → BodiesHavePlaces locals functions i → AllByRecursion (KnowsBody locals functions) fs → (bytes : List ℕ)
      → code locals functions i fs ≡ written bytes → AreNotLong (filter_map own fs)
  code_short [] i serves stand known bytes e = tt
  code_short (f ∷ fs) i serves stand known bytes e =
      let bodies = bodies_due locals functions i (f ∷ fs) in
      let all = number (length (f ∷ fs)) ++ bodies in
      let p = parts (written (10 ∷ [])) (sized all) bytes e in
      let q = parts (number (length all)) all (drop 1 bytes) p.1 in
      let inner = drop (length (number (length all))) (drop 1 bytes) in
      let s = parts (number (length (f ∷ fs))) bodies inner q.1 in
      bodies_short (f ∷ fs) i serves stand known (drop (length (number (length (f ∷ fs)))) inner) s.1

pub part_short : BodiesAreSpelled → ArgumentsFirst → OthersFollow → LocalsAreMeant → PartBodiesAreShort
part_short spelling first others meant a i p m facts serves bytes e =
    subst AreNotLong
    (facts_bodies p m a facts ∙ ap (λ (ns : List ℕ). filter_map (bytes_at p m a) ns) serves.order ∙ sym (part_bodies p m a serves.items.linked serves.items.order))
    (code_short spelling first others meant a p.renames p.brings m.locals m.funcs facts i serves.bodies serves.places serves.known bytes e)
