-- Lemmas: in a file's module imported globals stand in the order of their imports, and in front of the module's own.
use Rattle.std.specs.Prelude.{ℕ, zero, suc, ◌≡◌, ◌+◌, ◌<◌, ◌≤◌, List, [], ◌∷◌, ◌++◌, length, Option, Some, None, slice_index_or}
use Rattle.std.specs.List.{AllByRecursion}
use Rattle.std.specs.Option.{option_map}
use Rattle.std.proofs.Common.{subst, arith, inl, inr}
use Rattle.std.proofs.lemmas.List.{length-append}
use Rattle.std.proofs.lemmas.Option.{none-some}
use Rattle.wasm_features.specs.declared.WasmFeatures.{WasmFeatures}
use Rattle.wasm_grammar.specs.Modules.{Expr, Global, Imported, Import, Module, Origin, Own, empty}
use Rattle.wasm_grammar.specs.States.{State}
use Rattle.wasm_modules.specs.Modules.{Reads, module_of}
use Rattle.wasm_sections.specs.Entities.{Entity, FunctionOf, TableOf, MemoryOf, GlobalOf, TagOf, TableEntry, add_entity, add_table, global_of, import_of, with_import}
use Rattle.wasm_ruled_modules.specs.Keeping.{EntriesKeepAt, file_kept_at}
use Rattle.wasm_normal_modules.specs.Modules.{each, retyped_global, retyped_origin}

-- ---- globals in turn

abbrev pub OriginBefore : Origin Expr → Origin Expr → Type 0
OriginBefore (Imported i) (Imported j) = i < j
OriginBefore (Imported i) (Own f) = Unit {0}
OriginBefore (Own e) (Imported j) = ⊥
OriginBefore (Own e) (Own f) = Unit {0}

abbrev pub Before : Option Global → Option Global → Type 0
Before None h = Unit {0}
Before (Some g) None = Unit {0}
Before (Some g) (Some h) = OriginBefore g.origin h.origin

abbrev pub InTurn : List (Option Global) → Type 0
InTurn [] = Unit {0}
InTurn (g ∷ gs) = AllByRecursion (Before g) gs × InTurn gs

-- those that imports below a number bring
abbrev OriginBelow : ℕ → Origin Expr → Type 0
OriginBelow k (Imported i) = i < k
OriginBelow k (Own e) = ⊥

abbrev Below : ℕ → Option Global → Type 0
Below k None = Unit {0}
Below k (Some g) = OriginBelow k g.origin

all_more : {A : Type 0} (P : A → Type 0) (xs : List A) (x : A) → AllByRecursion P xs → P x → AllByRecursion P (xs ++ x ∷ [])
all_more P [] x h p = (p, tt)
all_more P (y ∷ xs) x h p = (h.0, all_more P xs x h.1 p)

all_to : {A : Type 0} (P Q : A → Type 0) → ((x : A) → P x → Q x) → (xs : List A) → AllByRecursion P xs → AllByRecursion Q xs
all_to P Q to [] h = tt
all_to P Q to (x ∷ xs) h = (to x h.0, all_to P Q to xs h.1)

turn_more : (gs : List (Option Global)) (x : Option Global) → InTurn gs → AllByRecursion (λ (g : Option Global). Before g x) gs → InTurn (gs ++ x ∷ [])
turn_more [] x h b = (tt, tt)
turn_more (g ∷ gs) x h b = (all_more (Before g) gs x h.0 b.0, turn_more gs x h.1 b.1)

all_at : {A : Type 0} (P : Option A → Type 0) (xs : List (Option A)) → AllByRecursion P xs → (n : ℕ) (x : A) → slice_index_or xs n None ≡ Some x → P (Some x)
all_at P [] h n x e = absurd (none-some x e)
all_at P (y ∷ xs) h zero x e = subst P e h.0
all_at P (y ∷ xs) h (suc n) x e = all_at P xs h.1 n x e

pub turn_at : (gs : List (Option Global)) → InTurn gs → (a b : ℕ) (g h : Global) → a < b → slice_index_or gs a None ≡ Some g → slice_index_or gs b None ≡ Some h → OriginBefore g.origin h.origin
turn_at [] t a b g h lt at_a at_b = absurd (none-some g at_a)
turn_at (x ∷ gs) t zero zero g h lt at_a at_b = absurd (omega (arith, lt))
turn_at (x ∷ gs) t zero (suc b) g h lt at_a at_b = all_at (λ (y : Option Global). Before (Some g) y) gs (subst (λ (y : Option Global). AllByRecursion (Before y) gs) at_a t.0) b h at_b
turn_at (x ∷ gs) t (suc a) zero g h lt at_a at_b = absurd (omega (arith, lt))
turn_at (x ∷ gs) t (suc a) (suc b) g h lt at_a at_b = turn_at gs t.1 a b g h (omega (arith, lt)) at_a at_b

-- ---- what each entry keeps, where sections stand in this place

record Keeps (place : ℕ) (m : Module) : Type 0 where
  turn : InTurn m.globals
  brought : place < 7 → AllByRecursion (Below (length m.imports)) m.globals

origin_before : (k : ℕ) (o : Origin Expr) → OriginBelow k o → OriginBefore o (Imported k)
origin_before k (Imported i) h = h
origin_before k (Own e) h = absurd h

before_import : (k : ℕ) (ty : _) (g : Option Global) → Below k g → Before g (Some (global_of ty (Imported k)))
before_import k ty None h = tt
before_import k ty (Some g) h = origin_before k g.origin h

own_last : (o : Origin Expr) (e : Expr) → OriginBefore o (Own e)
own_last (Imported i) e = tt
own_last (Own f) e = tt

before_own : (ty : _) (e : Expr) (gs : List (Option Global)) → AllByRecursion (λ (g : Option Global). Before g (Some (global_of ty (Own e)))) gs
before_own ty e [] = tt
before_own ty e (None ∷ gs) = (tt, before_own ty e gs)
before_own ty e (Some g ∷ gs) = (own_last g.origin e, before_own ty e gs)

origin_less : (k l : ℕ) (o : Origin Expr) → k ≤ l → OriginBelow k o → OriginBelow l o
origin_less k l (Imported i) le h = omega (arith, le, h)
origin_less k l (Own e) le h = absurd h

below_more : (k l : ℕ) → k ≤ l → (g : Option Global) → Below k g → Below l g
below_more k l le None h = tt
below_more k l le (Some g) h = origin_less k l g.origin le h

moves : (a b : ℕ) (m : Module) → a ≤ b → Keeps a m → Keeps b m
moves a b m le h = record { turn = h.turn; brought = λ lt. h.brought (omega (arith, le, lt)) }

one_longer : {A : Type 0} (xs : List A) (x : A) → length (xs ++ x ∷ []) ≡ length xs + 1
one_longer xs x = length-append xs (x ∷ [])

still : (k l : ℕ) (gs : List (Option Global)) → l ≡ k + 1 → AllByRecursion (Below k) gs → AllByRecursion (Below l) gs
still k l gs e h = all_to (Below k) (Below l) (below_more k l (omega (arith, e))) gs h

entity_kept : (s : State) (x : Import) (e : Entity) → Keeps 2 s.filled → Keeps 2 (add_entity (with_import s x) (length s.filled.imports) e).filled
entity_kept s x (FunctionOf ty) h = record { turn = h.turn; brought = λ lt. still (length s.filled.imports) _ s.filled.globals (one_longer s.filled.imports (Some x)) (h.brought lt) }
entity_kept s x (TableOf ty) h = record { turn = h.turn; brought = λ lt. still (length s.filled.imports) _ s.filled.globals (one_longer s.filled.imports (Some x)) (h.brought lt) }
entity_kept s x (MemoryOf ty) h = record { turn = h.turn; brought = λ lt. still (length s.filled.imports) _ s.filled.globals (one_longer s.filled.imports (Some x)) (h.brought lt) }
entity_kept s x (TagOf ty) h = record { turn = h.turn; brought = λ lt. still (length s.filled.imports) _ s.filled.globals (one_longer s.filled.imports (Some x)) (h.brought lt) }
entity_kept s x (GlobalOf ty) h =
    let n : ℕ = length s.filled.imports in
    let below = h.brought (omega arith) in
    let more : length (s.filled.imports ++ Some x ∷ []) ≡ n + 1 = one_longer s.filled.imports (Some x) in
    record {
      turn = turn_more s.filled.globals (Some (global_of ty (Imported n))) h.turn (all_to (Below n) (λ (g : Option Global). Before g (Some (global_of ty (Imported n)))) (before_import n ty) s.filled.globals below);
      brought = λ lt. all_more (Below (length (s.filled.imports ++ Some x ∷ []))) s.filled.globals (Some (global_of ty (Imported n))) (still n _ s.filled.globals more below)
          (let lt2 : n < length (s.filled.imports ++ Some x ∷ []) = omega (arith, more) in lt2);
    }

entries_keep : (features : WasmFeatures) → EntriesKeepAt features Keeps
entries_keep features = record {
  customs = λ place s x h. record { turn = h.turn; brought = h.brought };
  groups = λ s bytes x _ r h. record { turn = h.turn; brought = h.brought };
  imports = λ s bytes x _ r h. entity_kept s (import_of s x) x.1.1.1 h;
  functions = λ s bytes x _ r h. record { turn = h.turn; brought = h.brought };
  tables = λ s bytes x _ r h. table_kept s x h;
  memories = λ s bytes x _ r h. record { turn = h.turn; brought = h.brought };
  tags = λ s bytes x _ r h. record { turn = h.turn; brought = h.brought };
  globals = λ s bytes x _ r h. record { turn = turn_more s.filled.globals (Some (global_of x.0 (Own x.1))) h.turn (before_own x.0 x.1 s.filled.globals); brought = λ lt. absurd (omega (arith, lt)) };
  exports = λ s bytes x _ r h. record { turn = h.turn; brought = h.brought };
  start = λ s n r h. record { turn = h.turn; brought = h.brought };
  elements = λ s bytes x _ r h. record { turn = h.turn; brought = h.brought };
  segments = λ s bytes x _ r h. record { turn = h.turn; brought = h.brought };
}
  where
    table_kept : (s : State) (x : TableEntry) → Keeps 4 s.filled → Keeps 4 (add_table s x).filled
    table_kept s (inl x) h = record { turn = h.turn; brought = h.brought }
    table_kept s (inr ty) h = record { turn = h.turn; brought = h.brought }

none_kept : Keeps 0 empty
none_kept = record { turn = tt; brought = λ lt. tt }

pub read_turns : (features : WasmFeatures) (bytes : List ℕ) (m : Module) → Reads features bytes m → InTurn m.globals
read_turns features bytes m h =
    let s = h.1.0 in
    let reads = h.1.2 in
    let kept = file_kept_at features Keeps moves (entries_keep features) none_kept bytes reads.0 reads.1.0 reads.1.1 in
    let all : (t : State) → t ≡ s → Keeps t.last t.filled → InTurn (module_of s h.1.1).globals = λ t e k. rw_state t e k in
    subst (λ (x : Module). InTurn x.globals) h.1.4 (all _ reads.2 kept)
  where
    rw_state : (t : State) → t ≡ h.1.0 → Keeps t.last t.filled → InTurn (module_of h.1.0 h.1.1).globals
    rw_state t e k = let l = subst (λ (t : State). Keeps t.last t.filled) e k in l.turn

-- ---- with their types sent elsewhere

origin_sent : (r : ℕ → ℕ) (o w : Origin Expr) → OriginBefore o w → OriginBefore (retyped_origin r o) (retyped_origin r w)
origin_sent r (Imported i) (Imported j) h = h
origin_sent r (Imported i) (Own f) h = tt
origin_sent r (Own e) (Imported j) h = absurd h
origin_sent r (Own e) (Own f) h = tt

all_sent : (r : ℕ → ℕ) (g : Option Global) (gs : List (Option Global)) → AllByRecursion (Before g) gs → AllByRecursion (Before (option_map (retyped_global r) g)) (each (retyped_global r) gs)
all_sent r g [] h = tt
all_sent r None (x ∷ gs) h = (tt, all_sent r None gs h.1)
all_sent r (Some g) (None ∷ gs) h = (tt, all_sent r (Some g) gs h.1)
all_sent r (Some g) (Some x ∷ gs) h = (origin_sent r g.origin x.origin h.0, all_sent r (Some g) gs h.1)

pub turn_sent : (r : ℕ → ℕ) (gs : List (Option Global)) → InTurn gs → InTurn (each (retyped_global r) gs)
turn_sent r [] h = tt
turn_sent r (g ∷ gs) h = (all_sent r g gs h.0, turn_sent r gs h.1)
