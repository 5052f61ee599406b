-- That each sequence has the id that it is found by.
use Rattle.std.specs.Prelude.{◌≡◌, ◌⊎◌, ℕ, zero, suc, List, [], ◌∷◌, ◌++◌, length, slice_get, Option, Some, None, refl}
use Rattle.std.specs.Option.{option_map}
use Rattle.std.proofs.Common.{ap, sym, ◌∙◌, inl, inr}
use Rattle.std.proofs.lemmas.Bool.{cases_eq}
use Rattle.walrus_walks.specs.walrus_instr.declared.seq.InstrSeqType.{InstrSeqType}
use Rattle.walrus_builder.specs.declared.function.FunctionBuilder.{FunctionBuilder}
use Rattle.walrus_builder.specs.Built.{Seq, contents, empty_seq, edited}
use Rattle.walrus_builder.specs.Edited.{edited_here, edited_others}
use Rattle.walrus_builder.specs.Functions.{IsOf}

-- each sequence has the id that it is found by
abbrev pub HaveOwnIds : List Seq → Type 0
HaveOwnIds ss = (k : ℕ) (s : Seq) → slice_get ss k ≡ Some s → s.id ≡ k

-- a function that was just made has its own ids
abbrev pub NewHaveOwnIds : Type 0
NewHaveOwnIds = (f : FunctionBuilder) (ty : ℕ) (entry : InstrSeqType) → IsOf f ty entry → HaveOwnIds (contents f.builder)

-- an edit that leaves the id keeps that
abbrev pub EditsKeepOwnIds : Type 0
EditsKeepOwnIds = (f : Seq → Seq) (ss : List Seq) (k : ℕ) → ((s : Seq) → (f s).id ≡ s.id) → HaveOwnIds ss → HaveOwnIds (edited f ss k)

-- so does an empty sequence more
abbrev pub AddedHaveOwnIds : Type 0
AddedHaveOwnIds = (ss : List Seq) (ty : InstrSeqType) → HaveOwnIds ss → HaveOwnIds (ss ++ empty_seq (length ss) ty ∷ [])

mapped : (f : Seq → Seq) (o : Option Seq) (t : Seq) → option_map f o ≡ Some t → (s : Seq) × (o ≡ Some s) × (t ≡ f s)
mapped f None t e = absurd cc
mapped f (Some s) t e = (s, refl, cc)

snoc_cases : (ss : List Seq) (t : Seq) (k : ℕ) (s : Seq) → slice_get (ss ++ t ∷ []) k ≡ Some s → (slice_get ss k ≡ Some s) ⊎ ((k ≡ length ss) × (s ≡ t))
snoc_cases [] t zero s e = inr (refl, cc)
snoc_cases [] t (suc k) s e = absurd cc
snoc_cases (u ∷ ss) t zero s e = inl e
snoc_cases (u ∷ ss) t (suc k) s e =
    elim (snoc_cases ss t k s e) as (λ _. (slice_get (u ∷ ss) (suc k) ≡ Some s) ⊎ ((suc k ≡ length (u ∷ ss)) × (s ≡ t))) [
      | inl h ↦ inl h
      | inr h ↦ inr (ap suc h.0, h.1)
    ]

pub edits_keep_own_ids : EditsKeepOwnIds
edits_keep_own_ids f ss k keeps own j t e =
    elim (cases_eq j k) as (λ _. t.id ≡ j) [
      | inl h ↦
          let here = ap (λ (i : ℕ). slice_get (edited f ss i) j) h ∙ e in
          let m = mapped f (slice_get ss j) t (sym (edited_here f ss j) ∙ here) in
          ap (λ (u : Seq). u.id) m.2 ∙ keeps m.0 ∙ own j m.0 m.1
      | inr n ↦ own j t (sym (edited_others f ss k j n) ∙ e)
    ]

pub added_have_own_ids : AddedHaveOwnIds
added_have_own_ids ss ty own k s e =
    elim (snoc_cases ss (empty_seq (length ss) ty) k s e) as (λ _. s.id ≡ k) [
      | inl h ↦ own k s h
      | inr h ↦ ap (λ (u : Seq). u.id) h.1 ∙ sym h.0
    ]

pub new_have_own_ids : NewHaveOwnIds
new_have_own_ids f ty entry h k s e = one (contents f.builder) h.body k s e
  where
    one : (ss : List Seq) → ss ≡ empty_seq 0 entry ∷ [] → HaveOwnIds ss
    one ss q j t g = let none : HaveOwnIds [] = (λ i u d. absurd cc) in added_have_own_ids [] entry none j t (ap (λ (us : List Seq). slice_get us j) (sym q) ∙ g)
