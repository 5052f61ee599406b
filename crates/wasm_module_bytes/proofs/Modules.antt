-- Lemmas: what reads as sections and bodies reads so in their shortest bytes.
use Rattle.std.specs.Prelude.{ℕ, ◌≤◌, ◌≡◌, ◌^◌, ◌&&◌, true, List, [], ◌∷◌, ◌++◌, length, Option, Some, None, refl}
use Rattle.std.specs.List.{filter_map}
use Rattle.std.proofs.Common.{ap, sym, ◌∙◌, subst, arith, inl, inr}
use Rattle.wasm_features.specs.declared.WasmFeatures.{WasmFeatures}
use Rattle.wasm_grammar.specs.Modules.{Body, Function, Module}
use Rattle.wasm_grammar.specs.States.{Chunk, State, nothing_yet}
use Rattle.wasm_body_grammar.specs.Rules.{Around}
use Rattle.wasm_body_grammar.specs.Codes.{own_type, codes_of, ReadsCodes}
use Rattle.wasm_sections.specs.Modules.{magic, FileEntry, file, state_of, has_bodies, has_data}
use Rattle.wasm_sections.specs.Within.{ChunksFit, BodiesFit, bodies_inside}
use Rattle.wasm_section_bytes.specs.Files.{file_short, file_bytes, sections_bytes, IsElsewhere}
use Rattle.wasm_formats.specs.Lists.{SpellsEntries, EntryRules}
use Rattle.wasm_sections.specs.Sections.{section_entry, next}
use Rattle.wasm_module_rules.specs.wasm_modules.Modules.{around, chunks_of, codes, module_of, IsShort, Reads}
use Rattle.wasm_ruled_modules.specs.Codes.{bodies_match}
use Rattle.wasm_module_bytes.specs.Bytes.{bodies_bytes, sections_with, without_places, ModulesHaveShortest}
use Rattle.wasm_module_bytes.proofs.Sections.{AreBelow, no_longer, sections_at, Rewritten, rewritten}
use Rattle.wasm_module_bytes.proofs.Bodies.{AreSmall, bytes_of, AreAlike, codes_below, codes_again, bodies_alike}
use Rattle.wasm_module_bytes.proofs.Chunks.{Beside, sections_beside, bodies_there}

chunks_small : (start end : ℕ) (cs : List Chunk) → ChunksFit start end cs → AreSmall cs
chunks_small start end [] h = tt
chunks_small start end (c ∷ cs) h = (h.0.0, chunks_small start end cs h.1)

bodies_small : (start end : ℕ) (bodies : Option (List Chunk)) → BodiesFit start end bodies → AreSmall (chunks_of bodies)
bodies_small start end None h = tt
bodies_small start end (Some cs) h = chunks_small start end cs h

-- no bodies are of no bytes
below_none : (bs : List (List ℕ)) → AreBelow bs [] → [] ≡ bs
below_none [] h = refl
below_none (b ∷ bs) h = absurd h

beside_bytes : (bs : List (List ℕ)) (old new : Option (List Chunk)) → AreBelow bs (chunks_of old) → Beside bs old new → bytes_of (chunks_of new) ≡ bs
beside_bytes bs old new below (inl h) =
    subst (λ (o : Option (List Chunk)). bytes_of (chunks_of o) ≡ bs) (sym h.1) (below_none bs (subst (λ (o : Option (List Chunk)). AreBelow bs (chunks_of o)) h.0 below))
beside_bytes bs old new below (inr h) = subst (λ (o : Option (List Chunk)). bytes_of (chunks_of o) ≡ bs) (sym h.3) h.4

-- a file whose state is the other's elsewhere
there : (features : WasmFeatures) (s t : State) (ys : List Body) → IsElsewhere features s t → ReadsCodes (around features s) (codes_of s.filled (chunks_of t.bodies)) ys → ReadsCodes (around features t) (codes t) ys
there features s t ys e h =
    let same : around features s ≡ around features t = sym (ap (λ (u : State). around features u) e) in
    let filled : s.filled ≡ t.filled = sym (ap (λ (u : State). u.filled) e) in
    subst (λ (m : Module). ReadsCodes (around features t) (codes_of m (chunks_of t.bodies)) ys) filled (subst (λ (a : Around). ReadsCodes a (codes_of s.filled (chunks_of t.bodies)) ys) same h)

alike : (features : WasmFeatures) (s t : State) (xs ys : List Body) → IsElsewhere features s t → AreAlike xs ys → without_places (module_of t ys) ≡ without_places (module_of s xs)
alike features s t xs ys e h =
    ap (λ (u : State). without_places (module_of u ys)) e
    ∙ ap (λ (fs : List (Option Function)). record s.filled { functions = fs }) (bodies_alike s.filled.functions xs ys h)

-- ---- files

through : (a b c : ℕ) → a ≤ b → b ≤ c → a ≤ c
through a b c h k = omega (arith, h, k)

-- what reads in its own bytes
reads_there : (features : WasmFeatures) (bytes : List ℕ) (y : FileEntry) (ys : List Body) → IsShort bytes → (file features).spells bytes y → (file features).rules y
    → ReadsCodes (around features (state_of y)) (codes (state_of y)) ys → Reads features bytes (module_of (state_of y) ys)
reads_there features bytes y ys short spelled rules h = (short, (state_of y, ys, (y, (spelled, rules), refl), h, refl))

complete_there : (features : WasmFeatures) (bs : List (List ℕ)) (s t : State) → IsElsewhere features s t → Beside bs s.bodies t.bodies → (has_bodies s && has_data s) ≡ true → (has_bodies t && has_data t) ≡ true
complete_there features bs s t e beside h =
    let bodies : has_bodies t ≡ has_bodies s = ap has_bodies e ∙ bodies_there bs s t.bodies t.code_start t.offset beside in
    let counts : has_data t ≡ has_data s = ap has_data e in
    (λ i. bodies i && counts i) ∙ h

-- a file whose sections were rewritten, and whose state is the other's elsewhere
again_there : (features : WasmFeatures) (bs : List (List ℕ)) (bytes : List ℕ) (s : State) (y : FileEntry) (xs : List Body) → IsShort bytes → (file features).spells bytes y
    → EntryRules next (section_entry features) nothing_yet y.1 → IsElsewhere features s (state_of y) → Beside bs s.bodies (state_of y).bodies → (has_bodies s && has_data s) ≡ true
    → length (chunks_of s.bodies) ≡ length (filter_map own_type s.filled.functions) → AreSmall (chunks_of s.bodies) → ReadsCodes (around features s) (codes s) xs → AreBelow bs (chunks_of s.bodies)
    → bs ≡ bodies_bytes (around features s) (codes s) xs → (n : Module) × Reads features bytes n × (without_places n ≡ without_places (module_of s xs))
again_there features bs bytes s y xs short spelled rules e beside complete count small h below is =
    let again = codes_again (around features s) s.filled (filter_map own_type s.filled.functions) (chunks_of s.bodies) (chunks_of (state_of y).bodies) xs count small h
    (beside_bytes bs s.bodies (state_of y).bodies below beside ∙ is) in (
      module_of (state_of y) again.0,
      reads_there features bytes y again.0 short spelled ((tt, rules), complete_there features bs s (state_of y) e beside complete) (there features s (state_of y) again.0 e again.1),
      alike features s (state_of y) xs again.0 e again.2,
    )

rewritten_there : (features : WasmFeatures) (bs : List (List ℕ)) (others inner : List ℕ) (x : FileEntry) (xs : List Body) → SpellsEntries next (section_entry features) nothing_yet inner x.1
    → EntryRules next (section_entry features) nothing_yet x.1 → IsShort others → length (file_bytes features x) ≤ length others → Rewritten features bs nothing_yet nothing_yet x.1
    → (has_bodies (state_of x) && has_data (state_of x)) ≡ true → length (chunks_of (state_of x).bodies) ≡ length (filter_map own_type (state_of x).filled.functions) → AreSmall (chunks_of (state_of x).bodies)
    → ReadsCodes (around features (state_of x)) (codes (state_of x)) xs → AreBelow bs (chunks_of (state_of x).bodies) → bs ≡ bodies_bytes (around features (state_of x)) (codes (state_of x)) xs
    → (n : Module) × Reads features (magic ++ sections_with features bs nothing_yet x.1) n × (without_places n ≡ without_places (module_of (state_of x) xs)) × (length (magic ++ sections_with features bs nothing_yet x.1) ≤ length others)
rewritten_there features bs others inner x xs spelled rules short least new complete count small h below is =
    let less = through (length (magic ++ sections_with features bs nothing_yet x.1)) (length (file_bytes features x)) (length others)
    (no_longer magic (sections_with features bs nothing_yet x.1) magic (sections_bytes features nothing_yet x.1) (omega arith) new.short) least in
    let all = again_there features bs (magic ++ sections_with features bs nothing_yet x.1) (state_of x) (tt, sections_at features bs nothing_yet nothing_yet x.1) xs
    (through (length (magic ++ sections_with features bs nothing_yet x.1)) (length others) (2 ^ 30) less short)
    (magic, sections_with features bs nothing_yet x.1, refl, refl, new.spelled) new.ruled new.leaves
    (sections_beside features bs nothing_yet nothing_yet inner x.1 spelled rules below (inl (refl, refl))) complete count small h below is in
    (all.0, all.1, all.2, less)

pub modules_have_shortest : ModulesHaveShortest
modules_have_shortest features others x xs small short spelled rules h =
    let s = state_of x in
    let bs = bodies_bytes (around features s) (codes s) xs in
    let count = bodies_match features others x spelled rules in
    let all = bodies_small s.code_start (length others) s.bodies (bodies_inside features others s small (x, (spelled, rules), refl)) in
    let below = codes_below (around features s) s.filled (filter_map own_type s.filled.functions) (chunks_of s.bodies) xs count all h in
    let fits = file_short features others x small spelled in
    let sections = rules.0 in
    rewritten_there features bs others spelled.1 x xs spelled.4 sections.1 short fits.1 (rewritten features bs nothing_yet nothing_yet spelled.1 x.1 refl spelled.4 sections.1 fits.0 below) rules.1 count all h below refl
