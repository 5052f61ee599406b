-- Lemmas: what a list of entries leaves that each append something to a list of the module.
use Rattle.std.specs.Prelude.{ℕ, ◌≡◌, List, [], ◌∷◌, ◌++◌, map, refl}
use Rattle.std.specs.List.{fold}
use Rattle.std.proofs.Common.{ap, sym, ◌∙◌}
use Rattle.std.proofs.lemmas.List.{append_assoc, append-nil}
use Rattle.wasm_grammar.specs.Modules.{Module}
use Rattle.wasm_grammar.specs.States.{State}
use Rattle.wasm_sections.specs.Sections.{Section, next, put}
use Rattle.wasm_canonical.specs.Due.{section_if}

-- ---- a module with more in one of its lists

pub record Grows {B : Type 0} (grow : Module → List B → Module) : Type 0 where
  pub joins : (m : Module) (k l : List B) → grow (grow m k) l ≡ grow m (k ++ l)
  pub none : (m : Module) → grow m [] ≡ m

abbrev pub grown : State → Module → State
grown s m = record s { filled = m }

module _ {A B : Type 0} (grow : Module → List B → Module) (grows : Grows grow) (add : State → A → State) (item : A → B) (adds : (s : State) (x : A) → add s x ≡ grown s (grow s.filled (item x ∷ []))) where
  pub fold_grows : (s : State) (xs : List A) → fold add s xs ≡ grown s (grow s.filled (map item xs))
  fold_grows s [] = ap (grown s) (sym (grows.none s.filled))
  fold_grows s (x ∷ xs) =
      ap (λ (t : State). fold add t xs) (adds s x) ∙ fold_grows (grown s (grow s.filled (item x ∷ []))) xs ∙ ap (grown s) (grows.joins s.filled (item x ∷ []) (map item xs))

-- ---- states that agree but for the places of sections

pub record Agree (s t : State) : Type 0 where
  pub filled : s.filled ≡ t.filled
  pub imported : s.imported ≡ t.imported
  pub data_count : s.data_count ≡ t.data_count
  pub bodies : s.bodies ≡ t.bodies

pub agrees : (s t : State) → s ≡ t → Agree s t
agrees s t e = record { filled = ap (λ (s : State). s.filled) e; imported = ap (λ (s : State). s.imported) e; data_count = ap (λ (s : State). s.data_count) e; bodies = ap (λ (s : State). s.bodies) e }

-- a section of a list leaves what its entries do, and so does none at all where the list is empty
pub section_leaves : {A : Type 0} (add : State → A → State) (into : List A → Section) → ((s : State) (end : ℕ) (xs : List A) → put s end (into xs) ≡ fold add s xs) → (s : State) (xs : List A)
    → Agree (fold next s (section_if into xs)) (fold add s xs)
section_leaves add into is s [] = record { filled = refl; imported = refl; data_count = refl; bodies = refl }
section_leaves add into is s (x ∷ xs) = record {
  filled = ap (λ (s : State). s.filled) (is s 0 (x ∷ xs));
  imported = ap (λ (s : State). s.imported) (is s 0 (x ∷ xs));
  data_count = ap (λ (s : State). s.data_count) (is s 0 (x ∷ xs));
  bodies = ap (λ (s : State). s.bodies) (is s 0 (x ∷ xs));
}

-- ---- growing one list

pub groups_grow : Grows (λ m l. record m { groups = m.groups ++ l })
groups_grow = record { joins = λ m k l. ap (λ gs. record m { groups = gs }) (append_assoc m.groups k l); none = λ m. ap (λ gs. record m { groups = gs }) (append-nil m.groups) }

pub functions_grow : Grows (λ m l. record m { functions = m.functions ++ l })
functions_grow = record { joins = λ m k l. ap (λ gs. record m { functions = gs }) (append_assoc m.functions k l); none = λ m. ap (λ gs. record m { functions = gs }) (append-nil m.functions) }

pub tables_grow : Grows (λ m l. record m { tables = m.tables ++ l })
tables_grow = record { joins = λ m k l. ap (λ gs. record m { tables = gs }) (append_assoc m.tables k l); none = λ m. ap (λ gs. record m { tables = gs }) (append-nil m.tables) }

pub memories_grow : Grows (λ m l. record m { memories = m.memories ++ l })
memories_grow = record { joins = λ m k l. ap (λ gs. record m { memories = gs }) (append_assoc m.memories k l); none = λ m. ap (λ gs. record m { memories = gs }) (append-nil m.memories) }

pub tags_grow : Grows (λ m l. record m { tags = m.tags ++ l })
tags_grow = record { joins = λ m k l. ap (λ gs. record m { tags = gs }) (append_assoc m.tags k l); none = λ m. ap (λ gs. record m { tags = gs }) (append-nil m.tags) }

pub globals_grow : Grows (λ m l. record m { globals = m.globals ++ l })
globals_grow = record { joins = λ m k l. ap (λ gs. record m { globals = gs }) (append_assoc m.globals k l); none = λ m. ap (λ gs. record m { globals = gs }) (append-nil m.globals) }

pub exports_grow : Grows (λ m l. record m { exports = m.exports ++ l })
exports_grow = record { joins = λ m k l. ap (λ gs. record m { exports = gs }) (append_assoc m.exports k l); none = λ m. ap (λ gs. record m { exports = gs }) (append-nil m.exports) }

pub elements_grow : Grows (λ m l. record m { elements = m.elements ++ l })
elements_grow = record { joins = λ m k l. ap (λ gs. record m { elements = gs }) (append_assoc m.elements k l); none = λ m. ap (λ gs. record m { elements = gs }) (append-nil m.elements) }

pub segments_grow : Grows (λ m l. record m { segments = m.segments ++ l })
segments_grow = record { joins = λ m k l. ap (λ gs. record m { segments = gs }) (append_assoc m.segments k l); none = λ m. ap (λ gs. record m { segments = gs }) (append-nil m.segments) }

pub customs_grow : Grows (λ m l. record m { customs = m.customs ++ l })
customs_grow = record { joins = λ m k l. ap (λ gs. record m { customs = gs }) (append_assoc m.customs k l); none = λ m. ap (λ gs. record m { customs = gs }) (append-nil m.customs) }
