-- Lemmas: the bodies of a file that was read are those of its own functions, in their order.
use Rattle.std.proofs.Common.{◌≡◌, ◌∙◌, ℕ, suc, List, [], ◌∷◌, ◌++◌, length, map, Option, Some, None, if◌then◌else◌, refl, sym, ap, subst, arith}
use Rattle.std.specs.List.{filter_map, cons_option}
use Rattle.std.specs.Option.{option_map}
use Rattle.std.specs.Global.{Vec}
use Rattle.std.proofs.lemmas.List.{append_assoc, length-append, length-map}
use Rattle.walrus_collections.specs.walrus_tree.walrus_walks.walrus_types.walrus_forms.Renaming.{at}
use Rattle.walrus_types_into.specs.wasm_module_rules.wasm_modules.wasm_body_grammar.wasm_grammar.Modules.{Module, Function as GrammarFunction}
use Rattle.walrus_types_into.specs.wasm_module_rules.wasm_modules.wasm_body_grammar.wasm_grammar.States.{State}
use Rattle.walrus_types_into.specs.wasm_module_rules.wasm_modules.wasm_body_grammar.Codes.{Code, coded, own_type, param_count, type_if_own}
use Rattle.walrus_types_into.specs.wasm_module_rules.wasm_modules.Modules.{chunks_of}
use Rattle.walrus_types_into.specs.wasm_ruled_modules.Codes.{bodies_match}
use Rattle.walrus_types_into.specs.walrus_known_sections.declared.items.Chunk.{Chunk}
use Rattle.walrus_types_into.specs.walrus_known_sections.declared.items.Function.{Function as ReadFunction}
use Rattle.walrus_types_into.specs.walrus_known_sections.Items.{function_of, function_origin, chunk_of}
use Rattle.walrus_types_into.specs.walrus_known_sections.State.{state_of}
use Rattle.walrus_functions_into.specs.declared.bodies.FunctionBody.{FunctionBody}
use Rattle.walrus_functions_into.specs.Functions.{functions_from, kind_of}
use Rattle.walrus_functions_into.specs.Bodies.{bodiless_from, is_bodiless, paired}
use Rattle.walrus_functions_into.specs.Laws.{ReadBodiesArePaired, read_bodies}

-- ---- ids and bodies, as many of both

both_given : (ids : List ℕ) (chunks : List Chunk) → length ids ≡ length chunks
    → (map (λ (b : FunctionBody). b.number) (paired ids chunks) ≡ ids) × (map (λ (b : FunctionBody). b.chunk) (paired ids chunks) ≡ chunks)
both_given [] [] e = (refl, refl)
both_given [] (c ∷ chunks) e = absurd (omega (arith, e))
both_given (id ∷ ids) [] e = absurd (omega (arith, e))
both_given (id ∷ ids) (c ∷ chunks) e =
    let rest = both_given ids chunks (omega (arith, e)) in
    (ap (λ (l : List ℕ). id ∷ l) rest.0, ap (λ (l : List Chunk). c ∷ l) rest.1)

-- ---- one function more: it is imported, or the next body is its

abbrev read_slot : ReadFunction → Option GrammarFunction
read_slot f = Some (function_of f)

abbrev own_types : List ReadFunction → List ℕ
own_types reads = filter_map own_type (map read_slot reads)

abbrev numbers : List ReadFunction → List ℕ
numbers reads = map (λ (f : ReadFunction). f.ty) reads

abbrev code_at : Module → List ReadFunction → FunctionBody → Code
code_at m reads b = record { params = param_count m (at (numbers reads) b.number); chunk = chunk_of b.chunk }

-- the function of this id gets the next body, or none
abbrev next_if : ℕ → Option ℕ → ℕ → List ℕ → List ℕ
next_if ty import id ids = if is_bodiless (kind_of ty import) then id ∷ ids else ids

bodiless_own : (types : List ℕ) (id : ℕ) (r : ReadFunction) (reads : List ReadFunction) → r.import ≡ None → bodiless_from id (functions_from types id (r ∷ reads)) ≡ id ∷ bodiless_from (suc id) (functions_from types (suc id) reads)
bodiless_own types id r reads e = ap (λ (o : Option ℕ). next_if (at types r.ty) o id (bodiless_from (suc id) (functions_from types (suc id) reads))) e

bodiless_other : (types : List ℕ) (id : ℕ) (r : ReadFunction) (reads : List ReadFunction) (n : ℕ) → r.import ≡ Some n → bodiless_from id (functions_from types id (r ∷ reads)) ≡ bodiless_from (suc id) (functions_from types (suc id) reads)
bodiless_other types id r reads n e = ap (λ (o : Option ℕ). next_if (at types r.ty) o id (bodiless_from (suc id) (functions_from types (suc id) reads))) e

types_own : (r : ReadFunction) (reads : List ReadFunction) → r.import ≡ None → own_types (r ∷ reads) ≡ r.ty ∷ own_types reads
types_own r reads e = ap (λ (o : Option ℕ). cons_option (type_if_own r.ty (function_origin o)) (own_types reads)) e

types_other : (r : ReadFunction) (reads : List ReadFunction) (n : ℕ) → r.import ≡ Some n → own_types (r ∷ reads) ≡ own_types reads
types_other r reads n e = ap (λ (o : Option ℕ). cons_option (type_if_own r.ty (function_origin o)) (own_types reads)) e

-- as many functions want a body as are the file's own
as_many : (types : List ℕ) (id : ℕ) (reads : List ReadFunction) → length (bodiless_from id (functions_from types id reads)) ≡ length (own_types reads)
as_many types id [] = refl
as_many types id (r ∷ reads) = go r.import refl (as_many types (suc id) reads)
  where
    go : (o : Option ℕ) → r.import ≡ o → length (bodiless_from (suc id) (functions_from types (suc id) reads)) ≡ length (own_types reads) → length (bodiless_from id (functions_from types id (r ∷ reads))) ≡ length (own_types (r ∷ reads))
    go None e rest = ap length (bodiless_own types id r reads e) ∙ ap suc rest ∙ sym (ap length (types_own r reads e))
    go (Some n) e rest = ap length (bodiless_other types id r reads n e) ∙ rest ∙ sym (ap length (types_other r reads n e))

number_at : (front : List ReadFunction) (r : ReadFunction) (reads : List ReadFunction) → at (numbers (front ++ r ∷ reads)) (length front) ≡ r.ty
number_at [] r reads = refl
number_at (f ∷ front) r reads = number_at front r reads

-- what these ids are paired with is what the grammar gives functions of these types
abbrev AreCodes : Module → List ReadFunction → List ℕ → List ℕ → List Chunk → Type 0
AreCodes m all ids types chunks = map (code_at m all) (paired ids chunks) ≡ coded m types (map chunk_of chunks)

one_own : (m : Module) (all : List ReadFunction) (id ty : ℕ) (ids types : List ℕ) (chunks : List Chunk) → at (numbers all) id ≡ ty → ((cs : List Chunk) → AreCodes m all ids types cs) → AreCodes m all (id ∷ ids) (ty ∷ types) chunks
one_own m all id ty ids types [] number rest = refl
one_own m all id ty ids types (c ∷ cs) number rest =
    ap (λ (n : ℕ). record { params = param_count m n; chunk = chunk_of c } ∷ map (code_at m all) (paired ids cs)) number
    ∙ ap (λ (l : List Code). record { params = param_count m ty; chunk = chunk_of c } ∷ l) (rest cs)

one_more : (m : Module) (types : List ℕ) (all : List ReadFunction) (r : ReadFunction) (reads : List ReadFunction) (id : ℕ) (chunks : List Chunk) → at (numbers all) id ≡ r.ty
    → ((cs : List Chunk) → AreCodes m all (bodiless_from (suc id) (functions_from types (suc id) reads)) (own_types reads) cs) → AreCodes m all (bodiless_from id (functions_from types id (r ∷ reads))) (own_types (r ∷ reads)) chunks
one_more m types all r reads id chunks number rest = go r.import refl
  where
    go : (o : Option ℕ) → r.import ≡ o → AreCodes m all (bodiless_from id (functions_from types id (r ∷ reads))) (own_types (r ∷ reads)) chunks
    go None p =
        ap (λ (ids : List ℕ). map (code_at m all) (paired ids chunks)) (bodiless_own types id r reads p)
        ∙ one_own m all id r.ty (bodiless_from (suc id) (functions_from types (suc id) reads)) (own_types reads) chunks number rest
        ∙ sym (ap (λ (tys : List ℕ). coded m tys (map chunk_of chunks)) (types_own r reads p))
    go (Some n) p =
        ap (λ (ids : List ℕ). map (code_at m all) (paired ids chunks)) (bodiless_other types id r reads n p)
        ∙ rest chunks
        ∙ sym (ap (λ (tys : List ℕ). coded m tys (map chunk_of chunks)) (types_other r reads n p))

codes_from : (m : Module) (types : List ℕ) (reads front : List ReadFunction) (id : ℕ) (chunks : List Chunk) → id ≡ length front → AreCodes m (front ++ reads) (bodiless_from id (functions_from types id reads)) (own_types reads) chunks
codes_from m types [] front id chunks e = refl
codes_from m types (r ∷ reads) front id chunks e =
    let number : at (numbers (front ++ r ∷ reads)) id ≡ r.ty = ap (at (numbers (front ++ r ∷ reads))) e ∙ number_at front r reads in
    one_more m types (front ++ r ∷ reads) r reads id chunks number (λ cs.
    subst (λ (fs : List ReadFunction). AreCodes m fs (bodiless_from (suc id) (functions_from types (suc id) reads)) (own_types reads) cs) (append_assoc front (r ∷ []) reads)
    (codes_from m types reads (front ++ r ∷ []) (suc id) cs (omega (arith, e, length-append front (r ∷ [])))))

-- ---- the bodies of a file

chunks_same : (bodies : Option (Vec Chunk)) → chunks_of (option_map (λ (v : Vec Chunk). map chunk_of v.items) bodies) ≡ map chunk_of (read_bodies bodies)
chunks_same None = refl
chunks_same (Some chunks) = refl

pub read_bodies_are_paired : ReadBodiesArePaired
read_bodies_are_paired features bytes s types reads =
    let all = s.functions.items in
    let ids = bodiless_from 0 (functions_from types 0 all) in
    let chunks = read_bodies s.bodies in
    let counted : length (chunks_of (state_of s).bodies) ≡ length (own_types all) =
    subst (λ (s : State). length (chunks_of s.bodies) ≡ length (filter_map own_type s.filled.functions)) reads.2 (bodies_match features bytes reads.0 reads.1.0 reads.1.1) in
    let same = chunks_same s.bodies in
    let size : length ids ≡ length chunks = as_many types 0 all ∙ sym counted ∙ ap length same ∙ length-map chunks chunk_of in
    let both = both_given ids chunks size in
    record {
      functions_are = both.0;
      chunks_are = both.1;
      codes_are = codes_from (state_of s).filled types all [] 0 chunks refl ∙ sym (ap (coded (state_of s).filled (own_types all)) same);
    }
