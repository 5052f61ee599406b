-- Kinds and items under a renaming that is its own inverse.
use Rattle.std.proofs.Common.{◌≡◌, ◌∙◌, ℕ, inl, inr, Bool, true, false, not, ◌&&◌, ◌||◌, ◌==◌, List, [], ◌∷◌, map, refl, sym, ap, subst}
use Rattle.std.specs.List.{list_any}
use Rattle.std.proofs.lemmas.Bool.{cases_Bool, cases_eq, eq-eqb, ne_eqb}
use Rattle.walrus_forms.specs.Kinds.{Kind, kind_names}
use Rattle.walrus_forms.specs.Renaming.{renamed_kind}
use Rattle.walrus_forms.specs.Same.{same_kind}
use Rattle.walrus_forms.proofs.EqLemmas.{same-kind-law}
use Rattle.walrus_forms.proofs.RenamingLemmas.{In, kinds-agree, kinds-twice, kinds-names}
use Rattle.walrus_types.specs.Items.{Item}
use Rattle.walrus_types.specs.Table.{names_itself, merges}
use Rattle.walrus_type_laws.proofs.KindOrder.{kinds-kept}

-- where each name stays, the kind does
pub kind-fixed : (f : ℕ → ℕ) (k : Kind) → ((m : ℕ) → In m (kind_names k) → f m ≡ m) → renamed_kind f k ≡ k
kind-fixed f k each = kinds-agree f (λ m. m) k each ∙ kinds-kept k

pub plain-fixed : (f : ℕ → ℕ) (k : Kind) → kind_names k ≡ [] → renamed_kind f k ≡ k
plain-fixed f k none = kind-fixed f k (λ m i. absurd (subst (λ (ns : List ℕ). In m ns) none i))

-- renaming back
kind-back : (r : ℕ → ℕ) → ((x : ℕ) → r (r x) ≡ x) → (k : Kind) → renamed_kind r (renamed_kind r k) ≡ k
kind-back r twice k = kinds-twice r r k ∙ kind-fixed (λ m. r (r m)) k (λ m i. twice m)

kinds-alike : (r : ℕ → ℕ) → ((x : ℕ) → r (r x) ≡ x) → (a b : Kind) → same_kind (renamed_kind r a) (renamed_kind r b) ≡ same_kind a b
kinds-alike r twice a b =
    elim (cases_Bool (same_kind a b)) as (λ _. same_kind (renamed_kind r a) (renamed_kind r b) ≡ same_kind a b) [
      | inl holds ↦ (same-kind-law (renamed_kind r a) (renamed_kind r b)).1 (ap (renamed_kind r) ((same-kind-law a b).0 holds)) ∙ sym holds
      | inr fails ↦ elim (cases_Bool (same_kind (renamed_kind r a) (renamed_kind r b))) as (λ _. same_kind (renamed_kind r a) (renamed_kind r b) ≡ same_kind a b) [
        | inl same ↦
            let one : a ≡ b = sym (kind-back r twice a) ∙ ap (renamed_kind r) ((same-kind-law (renamed_kind r a) (renamed_kind r b)).0 same) ∙ kind-back r twice b in
            let wrong : true ≡ false = sym ((same-kind-law a b).1 one) ∙ fails in
            absurd cc
        | inr other ↦ other ∙ sym fails
      ]
    ]

equal-alike : (r : ℕ → ℕ) → ((x : ℕ) → r (r x) ≡ x) → (x y : ℕ) → (r x == r y) ≡ (x == y)
equal-alike r twice x y =
    elim (cases_eq x y) as (λ _. (r x == r y) ≡ (x == y)) [
      | inl e ↦ eq-eqb (r x) (r y) (ap r e) ∙ sym (eq-eqb x y e)
      | inr apart ↦ ne_eqb (r x) (r y) (λ e. apart (sym (twice x) ∙ ap r e ∙ twice y)) ∙ sym (ne_eqb x y apart)
    ]

any-alike : (r : ℕ → ℕ) → ((x : ℕ) → r (r x) ≡ x) → (y : ℕ) (xs : List ℕ) → list_any (λ x. x == r y) (map r xs) ≡ list_any (λ x. x == y) xs
any-alike r twice y [] = refl
any-alike r twice y (x ∷ xs) =
    ap (λ (b : Bool). b || list_any (λ x. x == r y) (map r xs)) (equal-alike r twice x y) ∙ ap (λ (b : Bool). (x == y) || b) (any-alike r twice y xs)

pub itself-alike : (r : ℕ → ℕ) → ((x : ℕ) → r (r x) ≡ x) → (id : ℕ) (k : Kind) → names_itself (r id) (renamed_kind r k) ≡ names_itself id k
itself-alike r twice id k = ap (λ (ns : List ℕ). list_any (λ name. name == r id) ns) (kinds-names r k) ∙ any-alike r twice id (kind_names k)

-- an item whose id and names are replaced
abbrev pub renamed_item : (ℕ → ℕ) → Item → Item
renamed_item r item = record { id = r item.id; kind = renamed_kind r item.kind; name = item.name }

pub item-fixed : (r : ℕ → ℕ) (x : Item) → r x.id ≡ x.id → renamed_kind r x.kind ≡ x.kind → renamed_item r x ≡ x
item-fixed r x id kind =
    ap (λ (i : ℕ). let y : Item = record { id = i; kind = renamed_kind r x.kind; name = x.name } in y) id
    ∙ ap (λ (k : Kind). let y : Item = record { id = x.id; kind = k; name = x.name } in y) kind

pub merges-alike : (r : ℕ → ℕ) → ((x : ℕ) → r (r x) ≡ x) → (k : Kind) (id : ℕ) (x : Item) → merges (renamed_kind r k) (r id, renamed_item r x) ≡ merges k (id, x)
merges-alike r twice k id x =
    ap (λ (b : Bool). b && not (names_itself (r id) (renamed_kind r x.kind))) (kinds-alike r twice x.kind k)
    ∙ ap (λ (b : Bool). same_kind x.kind k && not b) (itself-alike r twice id x.kind)
