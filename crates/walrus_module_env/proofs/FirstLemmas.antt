-- Lemmas: the types of a file that stand first in a table stay so where it grows.
use Rattle.std.proofs.Common.{◌≡◌, ◌∙◌, ◌⊎◌, inl, inr, ℕ, ◌<◌, ◌≤◌, List, length, sym, ap, arith}
use Rattle.std.proofs.lemmas.Bool.{cases_lt}
use Rattle.std.proofs.lemmas.List.{length-append}
use Rattle.std.specs.Prelude.{Option, Some, None, slice_index_or}
use Rattle.walrus_forms.specs.Kinds.{Kind}
use Rattle.walrus_function_types.specs.Growth.{Grows}
use Rattle.walrus_function_types.proofs.GrowthLemmas.{front, lives_on}
use Rattle.walrus_handler_types.specs.walrus_tree.walrus_walks.walrus_types.Items.{Item}
use Rattle.walrus_handler_types.specs.walrus_tree.walrus_walks.walrus_types.Table.{Table, next_id, type_at}
use Rattle.walrus_module_env.specs.First.{AreFirst, FirstTypesStay}

module _ (kinds : List Kind) (ids : List ℕ) (own : ℕ) (t v : Table) (h : AreFirst kinds ids own t) (g : Grows t v) where
  -- what stands at an id of the table before stood there
  before : (id : ℕ) (item : Item) → id < next_id t → type_at v id ≡ Some item → type_at t id ≡ Some item
  before id item lt e = sym (ap (λ (l : List (Option Item)). slice_index_or l id None) g.behind ∙ front t.types g.more id lt) ∙ e

  owned : (id : ℕ) (item : Item) → id < own → type_at v id ≡ Some item → type_at t id ≡ Some item
  owned id item lt e = let le = h.room in before id item (omega (arith, lt, le)) e

  apart : (id other : ℕ) (x y : Item) → id < own → own ≤ other → type_at t id ≡ Some x → type_at v other ≡ Some y → (other < next_id t) ⊎ (next_id t ≤ other) → x.kind ≡ y.kind → ⊥
  apart id other x y lt le live there (inl within) = h.filed.apart id other x y lt le live (before other y within there)
  apart id other x y lt le live there (inr behind) = λ alike. g.apart id other x y live behind there (sym (ap (λ (k : Kind). k.entry) alike) ∙ h.declared id x lt live) alike

  pub stay : AreFirst kinds ids own v
  stay = record {
    filed = record {
      sized = h.filed.sized;
      stand = λ index kind there. let s = h.filed.stand index kind there in record { id = s.id; named = s.named; owned = s.owned; item = s.item; live = lives_on t v g s.id s.item s.live; kind_is = s.kind_is };
      only = λ id item lt live. h.filed.only id item lt (owned id item lt live);
      names = h.filed.names;
      apart = λ id other x y lt le live there. apart id other x y lt le (owned id x lt live) there (cases_lt other (next_id t));
      rising = h.filed.rising;
    };
    room = let le = h.room in let size = ap (λ (l : List (Option Item)). length l) g.behind ∙ length-append t.types g.more in omega (arith, le, size);
    declared = λ id item lt live. h.declared id item lt (owned id item lt live);
  }

pub first_types_stay : FirstTypesStay
first_types_stay kinds ids own t v h g = stay kinds ids own t v h g
