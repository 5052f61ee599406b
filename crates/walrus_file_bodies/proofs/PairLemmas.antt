-- Lemmas: bodies with the functions that have none.
use Rattle.std.proofs.Common.{◌≡◌, ◌∙◌, ◌<◌, ◌≤◌, ℕ, suc, ◌+◌, Bool, true, false, List, [], ◌∷◌, length, map, slice_index_or, All, Option, Some, None, if◌then◌else◌, ap, sym, arith}
use Rattle.std.proofs.lemmas.List.Elements.{All-nil, All-cons}
use Rattle.std.specs.Global.{Vec}
use Rattle.std.specs.Option.{option_map}
use Rattle.walrus_items_into.specs.walrus_functions_into.Bodies.{bodiless_from, is_bodiless, paired}
use Rattle.walrus_items_into.specs.walrus_functions_into.Laws.{read_bodies}
use Rattle.walrus_items_into.specs.walrus_functions_into.declared.bodies.FunctionBody.{FunctionBody}
use Rattle.walrus_items_into.specs.walrus_tables_into.walrus_sections_into.walrus_known_sections.declared.items.Chunk.{Chunk}
use Rattle.walrus_items_into.specs.walrus_tables_into.walrus_sections_into.walrus_known_sections.Items.{chunk_of}
use Rattle.walrus_items_into.specs.walrus_tables_into.walrus_sections_into.walrus_module_items.declared.function.Function.{Function}
use Rattle.walrus_items_into.specs.wasm_module_rules.Linked.{Each}
use Rattle.walrus_items_into.specs.wasm_sections.Within.{BodiesFit, ChunksFit}
use Rattle.walrus_items_into.specs.walrus_module_bodies.declared.file.FileEnv.{FileEnv}
use Rattle.walrus_items_into.specs.walrus_module_bodies.Steps.{AreApart, IsPlaced}

-- ---- what holds of each of them

pub none : (P : FunctionBody → Type 0) (chunks : List Chunk) → All P (paired [] chunks)
none P [] = All-nil P
none P (c ∷ chunks) = All-nil P

-- one more function, which may want a body
pub one : (P : FunctionBody → Type 0) (b : Bool) (id : ℕ) (ids : List ℕ) (chunks : List Chunk) → ((c : Chunk) → P (record { number = id; chunk = c }))
    → ((chunks : List Chunk) → All P (paired ids chunks)) → All P (paired (if b then id ∷ ids else ids) chunks)
one P false id ids chunks p h = h chunks
one P true id ids [] p h = All-nil P
one P true id ids (c ∷ chunks) p h = All-cons P (record { number = id; chunk = c }) (paired ids chunks) (p c) (h chunks)

-- ---- their functions

-- its function is there, and this holds of it
abbrev pub Has : (Function → Type 0) → (ℕ → Option Function) → FunctionBody → Type 0
Has P look b = (f : Function) × (look b.number ≡ Some f) × P f

pub all_have : (P : Function → Type 0) (look : ℕ → Option Function) (slots : List (Option Function)) (id : ℕ) (chunks : List Chunk) → Each P slots
    → ((k : ℕ) → slice_index_or slots k None ≡ look (id + k)) → All (Has P look) (paired (bodiless_from id slots) chunks)
all_have P look [] id chunks e at = none (Has P look) chunks
all_have P look (None ∷ slots) id chunks e at = all_have P look slots (suc id) chunks e (λ k. let n : id + suc k ≡ suc id + k = omega arith in at (suc k) ∙ ap look n)
all_have P look (Some f ∷ slots) id chunks e at =
    let n : id + 0 ≡ id = omega arith in
    let here : Some f ≡ look id = at 0 ∙ ap look n in
    one (Has P look) (is_bodiless f.kind) id (bodiless_from (suc id) slots) chunks (λ c. (f, sym here, e.0))
    (λ chunks. all_have P look slots (suc id) chunks e.1 (λ k. let n : id + suc k ≡ suc id + k = omega arith in at (suc k) ∙ ap look n))

-- ---- they are apart

abbrev pub From : ℕ → FunctionBody → Type 0
From n b = n ≤ b.number

pub behind : (slots : List (Option Function)) (n id : ℕ) (chunks : List Chunk) → n ≤ id → All (From n) (paired (bodiless_from id slots) chunks)
behind [] n id chunks le = none (From n) chunks
behind (None ∷ slots) n id chunks le = behind slots n (suc id) chunks (omega (arith, le))
behind (Some f ∷ slots) n id chunks le = one (From n) (is_bodiless f.kind) id (bodiless_from (suc id) slots) chunks (λ c. le) (λ chunks. behind slots n (suc id) chunks (omega (arith, le)))

no_pairs : (chunks : List Chunk) → AreApart (paired [] chunks)
no_pairs [] = tt
no_pairs (c ∷ chunks) = tt

one_apart : (b : Bool) (id : ℕ) (ids : List ℕ) (chunks : List Chunk) → ((chunks : List Chunk) → All (From (suc id)) (paired ids chunks)) → ((chunks : List Chunk) → AreApart (paired ids chunks))
    → AreApart (paired (if b then id ∷ ids else ids) chunks)
one_apart false id ids chunks far h = h chunks
one_apart true id ids [] far h = tt
one_apart true id ids (c ∷ chunks) far h = (λ k d lt same. let le : suc id ≤ (slice_index_or (paired ids chunks) k d).number = far chunks k d lt in absurd (omega (arith, le, same)), h chunks)

pub are_apart : (slots : List (Option Function)) (id : ℕ) (chunks : List Chunk) → AreApart (paired (bodiless_from id slots) chunks)
are_apart [] id chunks = no_pairs chunks
are_apart (None ∷ slots) id chunks = are_apart slots (suc id) chunks
are_apart (Some f ∷ slots) id chunks =
    one_apart (is_bodiless f.kind) id (bodiless_from (suc id) slots) chunks (λ chunks. behind slots (suc id) (suc id) chunks (omega arith)) (λ chunks. are_apart slots (suc id) chunks)

-- ---- they lie in the file

pub are_placed : (file : FileEnv) (start end : ℕ) (ids : List ℕ) (chunks : List Chunk) → file.code_start ≡ start → end < 4294967295 → ChunksFit start end (map chunk_of chunks) → All (IsPlaced file) (paired ids chunks)
are_placed file start end [] chunks from short h = none (IsPlaced file) chunks
are_placed file start end (id ∷ ids) [] from short h = All-nil (IsPlaced file)
are_placed file start end (id ∷ ids) (c ∷ chunks) from short h =
    let le : start + (c.place + length c.bytes.now) ≤ end = h.0.1 in
    All-cons (IsPlaced file) (record { number = id; chunk = c }) (paired ids chunks) (omega (arith, le, from, short)) (are_placed file start end ids chunks from short h.1)

pub chunks_fit : (start end : ℕ) (bodies : Option (Vec Chunk)) → BodiesFit start end (option_map (λ (v : Vec Chunk). map chunk_of v.items) bodies) → ChunksFit start end (map chunk_of (read_bodies bodies))
chunks_fit start end None h = tt
chunks_fit start end (Some v) h = h
