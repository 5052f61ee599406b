-- Lemmas: bodies given in turn to the functions that have none.
use Rattle.std.proofs.Common.{◌≡◌, ◌∙◌, ◌<◌, ◌⊎◌, ℕ, zero, suc, ◌+◌, Bool, true, false, List, [], ◌∷◌, ◌++◌, length, drop, slice_get, slice_index_or, Option, Some, None, if◌then◌else◌, refl, sym, ap, subst, arith, add-one, inl, inr}
use Rattle.std.proofs.lemmas.List.{append-nil, append_assoc, drop_all, length-append}
use Rattle.walrus_collections.specs.walrus_module_items.declared.function.Function.{Function}
use Rattle.walrus_types_into.specs.walrus_known_sections.declared.items.Chunk.{Chunk}
use Rattle.walrus_functions_into.specs.declared.bodies.FunctionBody.{FunctionBody}
use Rattle.walrus_functions_into.specs.Bodies.{bodiless_from, paired, wants_body}

slot_at : (slots : List (Option Function)) (n : ℕ) → n < length slots → drop n slots ≡ slice_index_or slots n None ∷ drop (suc n) slots
slot_at [] n lt = absurd (omega (arith, lt))
slot_at (s ∷ slots) zero lt = refl
slot_at (s ∷ slots) (suc n) lt = slot_at slots n (omega (arith, lt))

chunk_at : (chunks : List Chunk) (i : ℕ) (c : Chunk) → slice_get chunks i ≡ Some c → drop i chunks ≡ c ∷ drop (suc i) chunks
chunk_at [] i c e = absurd cc
chunk_at (x ∷ chunks) zero c e = ap (λ (y : Chunk). y ∷ chunks) (some_is e)
  where
    some_is : Some x ≡ Some c → x ≡ c
    some_is e = cc
chunk_at (x ∷ chunks) (suc i) c e = chunk_at chunks i c e

none_at : (chunks : List Chunk) (i : ℕ) → slice_get chunks i ≡ None → drop i chunks ≡ []
none_at [] zero e = refl
none_at [] (suc i) e = refl
none_at (x ∷ chunks) zero e = absurd cc
none_at (x ∷ chunks) (suc i) e = none_at chunks i e

no_chunks : (ids : List ℕ) → paired ids [] ≡ []
no_chunks [] = refl
no_chunks (id ∷ ids) = refl

if_some : {A : Type 0} (b : Bool) (o : Option A) (x : A) → (if b then o else None) ≡ Some x → (b ≡ true) × (o ≡ Some x)
if_some true o x e = (refl, e)
if_some false o x e = absurd cc

if_none : {A : Type 0} (b : Bool) (o : Option A) → (if b then o else None) ≡ None → (b ≡ false) ⊎ (o ≡ None)
if_none true o e = inr e
if_none false o e = inl refl

-- those that were given their bodies, and those still to come
abbrev pub Goes : List (Option Function) → List Chunk → ℕ → List FunctionBody → Type 0
Goes slots chunks n pairs = pairs ++ paired (bodiless_from n (drop n slots)) (drop (length pairs) chunks) ≡ paired (bodiless_from 0 slots) chunks

-- the next slot wants a body and there is one
gives_one : (slots : List (Option Function)) (chunks : List Chunk) (n : ℕ) (pairs new : List FunctionBody) (o : Option Chunk) (c : Chunk) → n < length slots
    → o ≡ (if wants_body (slice_index_or slots n None) then slice_get chunks (length pairs) else None) → o ≡ Some c → Goes slots chunks n pairs → new ≡ pairs ++ record { number = n; chunk = c } ∷ []
    → Goes slots chunks (n + 1) new
gives_one slots chunks n pairs new o c lt is some h same =
    let both = if_some (wants_body (slice_index_or slots n None)) (slice_get chunks (length pairs)) c (sym is ∙ some) in
    let x : FunctionBody = record { number = n; chunk = c } in
    let size : length (pairs ++ x ∷ []) ≡ suc (length pairs) = omega (arith, length-append pairs (x ∷ [])) in
    let ids : bodiless_from n (drop n slots) ≡ n ∷ bodiless_from (suc n) (drop (suc n) slots) = ap (bodiless_from n) (slot_at slots n lt) ∙ rw both.0 refl in
    let later : List FunctionBody = paired (bodiless_from (suc n) (drop (suc n) slots)) (drop (suc (length pairs)) chunks) in
    let split : paired (bodiless_from n (drop n slots)) (drop (length pairs) chunks) ≡ x ∷ later = rw (ids, chunk_at chunks (length pairs) c both.1) refl in
    rw (same, add-one, size) (append_assoc pairs (x ∷ []) later ∙ ap (λ (l : List FunctionBody). pairs ++ l) (sym split) ∙ h)

-- it wants none, or there is none
gives_none : (slots : List (Option Function)) (chunks : List Chunk) (n : ℕ) (pairs : List FunctionBody) (o : Option Chunk) → n < length slots
    → o ≡ (if wants_body (slice_index_or slots n None) then slice_get chunks (length pairs) else None) → o ≡ None → Goes slots chunks n pairs → Goes slots chunks (n + 1) pairs
gives_none slots chunks n pairs o lt is none h = go (if_none (wants_body (slice_index_or slots n None)) (slice_get chunks (length pairs)) (sym is ∙ none))
  where
    go : (wants_body (slice_index_or slots n None) ≡ false) ⊎ (slice_get chunks (length pairs) ≡ None) → Goes slots chunks (n + 1) pairs
    go (inl unlike) =
        let ids : bodiless_from n (drop n slots) ≡ bodiless_from (suc n) (drop (suc n) slots) = ap (bodiless_from n) (slot_at slots n lt) ∙ rw unlike refl in
        rw add-one (ap (λ (ks : List ℕ). pairs ++ paired ks (drop (length pairs) chunks)) (sym ids) ∙ h)
    go (inr past) =
        let all = none_at chunks (length pairs) past in
        let end : (ks : List ℕ) → pairs ++ paired ks (drop (length pairs) chunks) ≡ pairs = λ ks. ap (λ (l : List Chunk). pairs ++ paired ks l) all ∙ ap (λ (l : List FunctionBody). pairs ++ l) (no_chunks ks) ∙ append-nil pairs in
        end (bodiless_from (n + 1) (drop (n + 1) slots)) ∙ sym (end (bodiless_from n (drop n slots))) ∙ h

-- the same, as the code has it
looked_up : (slots : List (Option Function)) (chunks : List Chunk) (id other i j : ℕ) (o : Option Chunk) → o ≡ (if wants_body (slice_index_or slots id None) then slice_get chunks i else None) → id ≡ other → i ≡ j
    → o ≡ (if wants_body (slice_index_or slots other None) then slice_get chunks j else None)
looked_up slots chunks id other i j o is own at =
    is
    ∙ ap (λ (k : ℕ). if wants_body (slice_index_or slots k None) then slice_get chunks i else None) own
    ∙ ap (λ (k : ℕ). if wants_body (slice_index_or slots other None) then slice_get chunks k else None) at

pub goes_on : (slots : List (Option Function)) (chunks : List Chunk) (n id i k : ℕ) (pairs new : List FunctionBody) (o : Option Chunk) (c : Chunk) → o ≡ (if wants_body (slice_index_or slots id None) then slice_get chunks i else None)
    → o ≡ Some c → new ≡ pairs ++ record { number = k; chunk = c } ∷ [] → n < length slots → id ≡ n → i ≡ length pairs → k ≡ n → Goes slots chunks n pairs → Goes slots chunks (n + 1) new
goes_on slots chunks n id i k pairs new o c is some same lt own at number h =
    gives_one slots chunks n pairs new o c lt (looked_up slots chunks id n i (length pairs) o is own at) some h (same ∙ ap (λ (m : ℕ). pairs ++ record { number = m; chunk = c } ∷ []) number)

pub goes_past : (slots : List (Option Function)) (chunks : List Chunk) (n id i : ℕ) (pairs new : List FunctionBody) (o : Option Chunk) → o ≡ (if wants_body (slice_index_or slots id None) then slice_get chunks i else None)
    → o ≡ None → new ≡ pairs → n < length slots → id ≡ n → i ≡ length pairs → Goes slots chunks n pairs → Goes slots chunks (n + 1) new
goes_past slots chunks n id i pairs new o is none same lt own at h =
    subst (λ (ps : List FunctionBody). Goes slots chunks (n + 1) ps) (sym same) (gives_none slots chunks n pairs o lt (looked_up slots chunks id n i (length pairs) o is own at) none h)

-- behind the last slot
pub gone : (slots : List (Option Function)) (chunks : List Chunk) (n : ℕ) (pairs : List FunctionBody) → n ≡ length slots → Goes slots chunks n pairs → pairs ≡ paired (bodiless_from 0 slots) chunks
gone slots chunks n pairs is h =
    let none : drop n slots ≡ [] = drop_all n slots (omega (arith, is)) in
    sym (ap (λ (l : List (Option Function)). pairs ++ paired (bodiless_from n l) (drop (length pairs) chunks)) none ∙ append-nil pairs) ∙ h
