-- Lemmas: the pairs of a part that is written in canonical bytes.
use Rattle.std.specs.Prelude.{ℕ, ◌+◌, ◌≡◌, ◌++◌, List, [], ◌∷◌, length, map, Option, Some, None, refl}
use Rattle.std.specs.List.{cons_option, filter_map}
use Rattle.std.proofs.Common.{ap, ◌∙◌}
use Rattle.wasm_operators.specs.Bytes.{operator_bytes, unsigned_bytes}
use Rattle.wasm_grammar.specs.Modules.{Origin, Imported, Own, Placed, Body, Function, Module}
use Rattle.wasm_body_grammar.specs.Codes.{param_count}
use Rattle.wasm_body_grammar.specs.Rules.{Around}
use Rattle.wasm_grammar_bytes.specs.Bodies.{runs_bytes}
use Rattle.wasm_grammar_bytes.specs.Maximal.{maximal_of}
use Rattle.wasm_grammar_bytes.specs.Shortest.{body_bytes}
use Rattle.wasm_modules.specs.Laws.{ReadsOnce}
use Rattle.wasm_module_bytes.specs.Bytes.{body_unplaced, origin_unplaced, slot_unplaced, unplaced, without_places}
use Rattle.wasm_canonical.specs.Canonical.{canonical_bytes}
use Rattle.wasm_canonical.specs.Due.{origin_bytes, own_bytes}
use Rattle.wasm_part.specs.Part.{part}
use Rattle.wasm_places_laws.specs.Begun.{begun, behind_origin, behind_size, behind_slot, body_begun, first_body, first_operator, functions_begun, module_begun, origin_begun, slot_begun}
use Rattle.wasm_places_laws.specs.Places.{PartPairsArePlaces, WrittenPairsArePlaces, around_written}
use Rattle.wasm_places_laws.specs.Read.{CanonicalAreReadAtPlaces, begun_in}
use Rattle.wasm_places_laws.proofs.Bodies.{ops_bytes}

-- ---- where operators begin doesn't depend on the places that they had

ops_bytes_same : (ps : List Placed) → ops_bytes (map unplaced ps) ≡ ops_bytes ps
ops_bytes_same [] = refl
ops_bytes_same (p ∷ ps) = ap (λ (l : List ℕ). operator_bytes p.op ++ l) (ops_bytes_same ps)

ops_begun_same : (at : ℕ) (ps : List Placed) → begun at (map unplaced ps) ≡ begun at ps
ops_begun_same at [] = refl
ops_begun_same at (p ∷ ps) = ap (λ (l : List Placed). record { place = at; op = p.op } ∷ l) (ops_begun_same (at + length (operator_bytes p.op)) ps)

module _ (a : Around) where
  body_same : (params : ℕ) (x : Body) → body_bytes a params (body_unplaced x) ≡ body_bytes a params x
  body_same params x = ap (λ (l : List ℕ). runs_bytes a params (maximal_of x.locals) ++ l) (ops_bytes_same x.operators)

  size_same : (params at : ℕ) (x : Body) → behind_size a params at (body_unplaced x) ≡ behind_size a params at x
  size_same params at x = ap (λ (l : List ℕ). at + length (unsigned_bytes (length l))) (body_same params x)

  origin_same : (params at : ℕ) (o : Origin Body) → origin_begun a params at (origin_unplaced o) ≡ origin_begun a params at o
  origin_same params at (Imported n) = refl
  origin_same params at (Own x) =
      let begins = size_same params at x in
      let old = behind_size a params at x in
      ap (λ (n : ℕ). Own (body_begun a params n (body_unplaced x))) begins
      ∙ ap (λ (l : List Placed). Own (record { locals = x.locals; operators = l })) (ops_begun_same (first_operator a params old x) x.operators)

  origin_end_same : (params at : ℕ) (o : Origin Body) → behind_origin a params at (origin_unplaced o) ≡ behind_origin a params at o
  origin_end_same params at (Imported n) = refl
  origin_end_same params at (Own x) = ap (λ (l : List ℕ). (at + length (unsigned_bytes (length l))) + length l) (body_same params x)

  slot_same : (at : ℕ) (f : Option Function) → slot_begun a at (slot_unplaced f) ≡ slot_begun a at f
  slot_same at None = refl
  slot_same at (Some f) = ap (λ (o : Origin Body). Some (record { ty = f.ty; origin = o })) (origin_same (param_count a.filled f.ty) at f.origin)

  slot_end_same : (at : ℕ) (f : Option Function) → behind_slot a at (slot_unplaced f) ≡ behind_slot a at f
  slot_end_same at None = refl
  slot_end_same at (Some f) = origin_end_same (param_count a.filled f.ty) at f.origin

  functions_same : (at : ℕ) (fs : List (Option Function)) → functions_begun a at (map slot_unplaced fs) ≡ functions_begun a at fs
  functions_same at [] = refl
  functions_same at (f ∷ fs) =
      ap (λ (g : Option Function). g ∷ functions_begun a (behind_slot a at (slot_unplaced f)) (map slot_unplaced fs)) (slot_same at f)
      ∙ ap (λ (n : ℕ). slot_begun a at f ∷ functions_begun a n (map slot_unplaced fs)) (slot_end_same at f)
      ∙ ap (λ (l : List (Option Function)). slot_begun a at f ∷ l) (functions_same (behind_slot a at f) fs)

  origin_bytes_same : (params : ℕ) (o : Origin Body) → origin_bytes a params (origin_unplaced o) ≡ origin_bytes a params o
  origin_bytes_same params (Imported n) = refl
  origin_bytes_same params (Own x) = ap (λ (l : List ℕ). Some l) (body_same params x)

  own_same : (f : Option Function) → own_bytes a (slot_unplaced f) ≡ own_bytes a f
  own_same None = refl
  own_same (Some f) = origin_bytes_same (param_count a.filled f.ty) f.origin

  bodies_same : (fs : List (Option Function)) → filter_map (own_bytes a) (map slot_unplaced fs) ≡ filter_map (own_bytes a) fs
  bodies_same [] = refl
  bodies_same (f ∷ fs) = λ i. cons_option (own_same f i) (bodies_same fs i)

  module_same : (m : Module) → (module_begun a (without_places m)).functions ≡ (module_begun a m).functions
  module_same m =
      ap (λ (l : List (List ℕ)). functions_begun a (length (unsigned_bytes (length l))) (map slot_unplaced m.functions)) (bodies_same m.functions)
      ∙ functions_same (first_body a m) m.functions

-- ---- the part

pub written_pairs : CanonicalAreReadAtPlaces → ReadsOnce → PartPairsArePlaces → WrittenPairsArePlaces
written_pairs read once pairs none features normal k p places is n reads =
    let a = around_written features k in
    let one : n ≡ begun_in features k = once features (canonical_bytes features k) n (begun_in features k) reads (read features k is.dense is.ruled is.customs is.spelled is.short) in
    let same =
    ap (λ (m : Module). m.functions) one
    ∙ ap (λ (m : Module). (module_begun a m).functions) is.whole ∙ module_same a (part p normal) in
    pairs none a normal n p places same
