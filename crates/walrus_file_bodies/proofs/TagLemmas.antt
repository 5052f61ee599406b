-- Lemmas: tags that were read of a file have live function types.
use Rattle.std.proofs.Common.{◌≡◌, ◌∙◌, ◌⊎◌, inl, inr, ◌<◌, ℕ, zero, suc, List, [], ◌∷◌, ◌++◌, length, map, slice_get, slice_index_or, Option, Some, None, IsTrue, refl, sym, ap, subst, arith}
use Rattle.std.proofs.lemmas.List.{length-append}
use Rattle.walrus_items_into.specs.walrus_tables_into.walrus_sections_into.walrus_collections.walrus_local_function.walrus_body_locals.wasm_grammar.Modules.{Tag as GrammarTag}
use Rattle.walrus_items_into.specs.walrus_tables_into.walrus_sections_into.walrus_collections.walrus_local_function.walrus_body_locals.wasm_grammar.States.{form_test}
use Rattle.walrus_items_into.specs.walrus_tables_into.walrus_sections_into.walrus_forms.Forms.{Form, FunctionForm, StructForm, ArrayForm, is_function}
use Rattle.walrus_items_into.specs.walrus_tables_into.walrus_sections_into.walrus_forms.Kinds.{Kind}
use Rattle.walrus_items_into.specs.walrus_tables_into.walrus_sections_into.walrus_forms.Renaming.{at, renamed_form}
use Rattle.walrus_items_into.specs.walrus_tables_into.walrus_sections_into.walrus_instr.walrus_types.Table.{IsFunctionType, Table, type_at}
use Rattle.walrus_items_into.specs.walrus_tables_into.walrus_sections_into.walrus_known_sections.declared.items.Tag.{Tag as ReadTag}
use Rattle.walrus_items_into.specs.walrus_tables_into.walrus_sections_into.walrus_known_sections.Items.{tag_of}
use Rattle.walrus_items_into.specs.walrus_tables_into.walrus_sections_into.walrus_module_items.declared.tag.Tag.{Tag}
use Rattle.walrus_items_into.specs.walrus_tables_into.walrus_sections_into.wasm_operators.Items.{Types}
use Rattle.walrus_items_into.specs.walrus_tables_into.walrus_sections_into.walrus_pairing.Looks.{Look}
use Rattle.walrus_items_into.specs.walrus_tables_into.walrus_sections_into.Numbers.{upto}
use Rattle.walrus_items_into.specs.walrus_tables_into.walrus_sections_into.Slots.{Become}
use Rattle.walrus_items_into.specs.walrus_tables_into.walrus_sections_into.Tags.{IsTagOf}
use Rattle.walrus_items_into.specs.walrus_module_env.Filled.{AreFiled}
use Rattle.walrus_items_into.specs.wasm_module_rules.Linked.{Each}

-- ---- numbers in turn

some_number : (x y : ℕ) → Some x ≡ Some y → x ≡ y
some_number x y e = cc

last_or : (xs : List ℕ) (y n x : ℕ) → slice_get (xs ++ y ∷ []) n ≡ Some x → (slice_get xs n ≡ Some x) ⊎ ((n ≡ length xs) × (x ≡ y))
last_or [] y zero x e = inr (refl, sym (some_number y x e))
last_or [] y (suc n) x e = absurd cc
last_or (z ∷ xs) y zero x e = inl e
last_or (z ∷ xs) y (suc n) x e = elim (last_or xs y n x e) as (λ _. (slice_get xs n ≡ Some x) ⊎ ((suc n ≡ suc (length xs)) × (x ≡ y))) [ inl a ↦ inl a | inr b ↦ inr (ap suc b.0, b.1) ]

upto_length : (n : ℕ) → length (upto n) ≡ n
upto_length zero = refl
upto_length (suc n) = omega (arith, length-append (upto n) (n ∷ []), upto_length n)

pub upto_is : (count n x : ℕ) → slice_get (upto count) n ≡ Some x → (x ≡ n) × (n < count)
upto_is zero n x e = absurd cc
upto_is (suc count) n x e = elim (last_or (upto count) count n x e) as (λ _. (x ≡ n) × (n < suc count)) [
  | inl a ↦ let h = upto_is count n x a in (h.0, omega (arith, h.1))
  | inr b ↦ let size = upto_length count in (omega (arith, b.0, b.1, size), omega (arith, b.0, size))
]

-- ---- types

form_stays : (r : ℕ → ℕ) (form : Form) (kind : Kind) → form_test (Some (record kind { form = form })) ≡ None → IsTrue (is_function (renamed_form r form))
form_stays r (FunctionForm params results) kind e = refl
form_stays r (StructForm fields) kind e = absurd cc
form_stays r (ArrayForm field) kind e = absurd cc

-- the id of a function type of the file
pub typed_at : (kinds : List Kind) (ids : List ℕ) (own : ℕ) (t : Table) → AreFiled kinds ids own t → (n id : ℕ) → form_test (slice_get kinds n) ≡ None → slice_get ids n ≡ Some id → IsFunctionType t id
typed_at kinds ids own t filed n id typed named = go (slice_get kinds n) refl typed
  where
    go : (o : Option Kind) → slice_get kinds n ≡ o → form_test o ≡ None → IsFunctionType t id
    go None e typed = absurd cc
    go (Some kind) e typed =
        let s = filed.stand n kind e in
        let same : s.id ≡ id = some_number s.id id (sym s.named ∙ named) in
        let live : type_at t id ≡ Some s.item = ap (λ (k : ℕ). type_at t k) (sym same) ∙ s.live in
        rw live (subst (λ (k : Kind). IsTrue (is_function k.form)) (sym s.kind_is) (form_stays (at ids) kind.form kind typed))

-- ---- tags

module _ (look : Look) (P Q : ℕ → Type 0) (one : (n id : ℕ) → P n → look Types n ≡ Some id → Q id) where
  -- what a tag of the file became
  pub tag_at : (xs : List ReadTag) (ys : List (Option Tag)) (n first : ℕ) → n < length xs → Become (IsTagOf look) xs ys first → Each (λ (t : GrammarTag). P t.ty) (map (λ x. Some (tag_of x)) xs)
      → (t : Tag) × (slice_index_or ys n None ≡ Some t) × Q t.ty
  tag_at [] ys n first lt h p = absurd (omega (arith, lt))
  tag_at (x ∷ xs) [] n first lt h p = absurd h
  tag_at (x ∷ xs) (None ∷ ys) n first lt h p = absurd h
  tag_at (x ∷ xs) (Some y ∷ ys) zero first lt h p = (y, refl, one x.ty y.ty p.0 h.0.ty)
  tag_at (x ∷ xs) (Some y ∷ ys) (suc n) first lt h p = tag_at xs ys n (suc first) (omega (arith, lt)) h.1 p.1
