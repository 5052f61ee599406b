-- Lemmas: bodies that were read are those of the file, and its functions name their locals.
use Rattle.std.proofs.Common.{ℕ, zero, suc, ◌≡◌, ◌≢◌, ◌+◌, ◌∙◌, Bool, false, List, [], ◌∷◌, length, map, refl, sym, ap, subst, arith, if◌then◌else◌}
use Rattle.std.specs.Prelude.{All, Option, None, Some, slice_get}
use Rattle.std.specs.List.{AllZip}
use Rattle.walrus_arena.specs.Arena.{item_at}
use Rattle.walrus_file_bodies.proofs.PairLemmas.{From, behind, chunks_fit, one}
use Rattle.walrus_file_bodies.specs.Ready.{FilledModulesAreReady, bodies_in}
use Rattle.walrus_items_into.specs.Laws.{FilledFunctionsStand, FilledModulesAreFiled}
use Rattle.walrus_items_into.specs.walrus_functions_into.Bodies.{bodiless_from, is_bodiless, paired}
use Rattle.walrus_items_into.specs.walrus_functions_into.Functions.{function_as, functions_from, kind_of}
use Rattle.walrus_items_into.specs.walrus_functions_into.Laws.{code_of, read_bodies}
use Rattle.walrus_items_into.specs.walrus_functions_into.declared.bodies.FunctionBody.{FunctionBody}
use Rattle.walrus_items_into.specs.walrus_tables_into.walrus_sections_into.walrus_collections.walrus_local_function.walrus_body_locals.wasm_body_grammar.Codes.{Code, ReadsCodes}
use Rattle.walrus_items_into.specs.walrus_tables_into.walrus_sections_into.walrus_collections.walrus_local_function.walrus_body_locals.wasm_body_grammar.Rules.{Around}
use Rattle.walrus_items_into.specs.walrus_tables_into.walrus_sections_into.walrus_collections.walrus_local_function.walrus_body_locals.wasm_grammar.Modules.{Body}
use Rattle.walrus_items_into.specs.walrus_tables_into.walrus_sections_into.walrus_forms.Renaming.{at}
use Rattle.walrus_items_into.specs.walrus_tables_into.walrus_sections_into.walrus_index_maps.Maps.{Ids}
use Rattle.walrus_items_into.specs.walrus_tables_into.walrus_sections_into.walrus_known_sections.Items.{chunk_of}
use Rattle.walrus_items_into.specs.walrus_tables_into.walrus_sections_into.walrus_known_sections.State.{state_of}
use Rattle.walrus_items_into.specs.walrus_tables_into.walrus_sections_into.walrus_known_sections.declared.items.Chunk.{Chunk}
use Rattle.walrus_items_into.specs.walrus_tables_into.walrus_sections_into.walrus_known_sections.declared.items.Function.{Function as ReadFunction}
use Rattle.walrus_items_into.specs.walrus_tables_into.walrus_sections_into.walrus_known_sections.declared.sections.Sections.{Sections}
use Rattle.walrus_items_into.specs.walrus_tables_into.walrus_sections_into.walrus_module_items.declared.function.Function.{Function}
use Rattle.walrus_items_into.specs.wasm_module_rules.wasm_modules.Modules.{around, codes}
use Rattle.walrus_items_into.specs.wasm_sections.Within.{ChunksFit, bodies_inside}
use Rattle.walrus_items_into.specs.walrus_module_bodies.Laws.{AreCodesOf, NamesAll, StepsReadCodes}
use Rattle.walrus_items_into.specs.walrus_module_bodies.Steps.{State, state}
use Rattle.walrus_file_bodies.specs.Laws.{BodiesReadFiles}
use Rattle.walrus_file_bodies.specs.Read.{AreCounted}
use Rattle.walrus_file_bodies.proofs.StopLemmas.{chunks_fit_in, count_in, functions_counted}

-- ---- a function that an import brings wants no body

-- functions behind it are others
later_are_others : (slots : List (Option Function)) (id n : ℕ) (chunks : List Chunk) → id ≡ n → All (λ (b : FunctionBody). b.number ≢ n) (paired (bodiless_from (suc id) slots) chunks)
later_are_others slots id n chunks is =
    let far = behind slots (suc id) (suc id) chunks (omega arith) in
    λ k d lt same. let le = far k d lt in absurd (omega (arith, le, same, is))

imported_is_none : (types : List ℕ) (id : ℕ) (reads : List ReadFunction) (chunks : List Chunk) (at_ n by : ℕ) (f : ReadFunction) → slice_get reads at_ ≡ Some f → f.import ≡ Some by → n ≡ id + at_
    → All (λ (b : FunctionBody). b.number ≢ n) (paired (bodiless_from id (functions_from types id reads)) chunks)
imported_is_none types id [] chunks at_ n by f there brings is = absurd cc
imported_is_none types id (r ∷ reads) chunks zero n by f there brings is =
    let same : r.import ≡ Some by = ap (λ (o : Option ReadFunction). import_of o) there ∙ brings in
    let here : id ≡ n = omega (arith, is) in
    subst (λ (o : Option ℕ). All (λ (b : FunctionBody). b.number ≢ n) (paired (if is_bodiless (kind_of (at types r.ty) o) then id ∷ bodiless_from (suc id) (functions_from types (suc id) reads) else bodiless_from (suc id) (functions_from types (suc id) reads)) chunks))
    (sym same) (later_are_others (functions_from types (suc id) reads) id n chunks here)
  where
    import_of : Option ReadFunction → Option ℕ
    import_of None = None
    import_of (Some r) = r.import
imported_is_none types id (r ∷ reads) chunks (suc k) n by f there brings is =
    let on : n ≡ suc id + k = omega (arith, is) in
    let apart : (c : Chunk) → id ≢ n = λ c same. absurd (omega (arith, is, same)) in
    one (λ (b : FunctionBody). b.number ≢ n) (is_bodiless (function_as types id r).kind) id (bodiless_from (suc id) (functions_from types (suc id) reads)) chunks apart
    (λ chunks. imported_is_none types (suc id) reads chunks k n by f there brings on)

-- ---- the bodies as the grammar has them

module _ (s : Sections) (old : State) (counted : AreCounted (count_in s) old.types (item_at old.functions)) where
  are_codes : (start end : ℕ) (bs : List FunctionBody) → ChunksFit start end (map (λ (b : FunctionBody). chunk_of b.chunk) bs) → AreCodesOf old bs (map (code_of s) bs)
  are_codes start end [] fit = tt
  are_codes start end (b ∷ bs) fit = (record { place_is = refl; bytes_are = refl; small = fit.0.0; counted = λ item there. counted b.number item there }, are_codes start end bs fit.1)

names_zip : (s : Sections) (names : ℕ → List ℕ) (bs : List FunctionBody) (xs : List Body) → NamesAll names bs (map (code_of s) bs) xs
    → AllZip (λ (b : FunctionBody) (x : Body). length (names b.number) ≡ (code_of s b).params + length x.locals) bs xs
names_zip s names [] [] h = tt
names_zip s names [] (x ∷ xs) h = absurd h
names_zip s names (b ∷ bs) [] h = absurd h
names_zip s names (b ∷ bs) (x ∷ xs) h = (h.0, names_zip s names bs xs h.1)

pub bodies_read : {B : Type 0} → FilledFunctionsStand B → FilledModulesAreFiled B → FilledModulesAreReady B → StepsReadCodes → BodiesReadFiles B
bodies_read functions law ready read features bytes s begin i m file locals new short small reads f o steps =
    let r = ready features bytes s begin i m file short small reads f o in
    let a : Around = around features (state_of s) in
    let bs : List FunctionBody = bodies_in s m.functions in
    let st = state m.types locals i m.functions in
    let asked = r.ready locals in
    let stand = functions features bytes s begin i m reads f in
    let fit = chunks_fit_in s.code_start (length bytes) bs (read_bodies s.bodies) stand.paired.chunks_are (chunks_fit s.code_start (length bytes) s.bodies (bodies_inside features bytes (state_of s) small reads)) in
    let all = read file features a bs (map (code_of s) bs) st new r.is_module asked.ready asked.apart (are_codes s st (functions_counted features bytes s begin i m file law reads f o) s.code_start (length bytes) bs fit) steps in (
      all.bodies,
      subst (λ (cs : List Code). ReadsCodes a cs all.bodies) r.codes_are all.reads,
      record {
        own = names_zip s new.ids.locals bs all.bodies all.named;
        imported = λ function by g there brings.
            all.others function (subst (λ (slots : List (Option Function)). All (λ (b : FunctionBody). b.number ≢ function) (paired (bodiless_from 0 slots) (read_bodies s.bodies))) (sym f.functions)
            (imported_is_none i.types 0 s.functions.items (read_bodies s.bodies) function function by g there brings (omega arith)))
            ∙ ap (λ (x : Ids). x.locals function) f.numbers;
      },
      all.names,
    )
