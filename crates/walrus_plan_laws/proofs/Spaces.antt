-- Lemmas: a space whose items imports bring, and then the module's own.
use Rattle.std.specs.Prelude.{ℕ, ◌≡◌, ◌⊎◌, true, is_none, List, ◌++◌, Option, Some, None, slice_get, slice_index_or, IsSome, refl}
use Rattle.std.specs.List.{AllByRecursion}
use Rattle.std.specs.Option.{unwrap_or}
use Rattle.std.proofs.Common.{ap, sym, ◌∙◌, subst, inl, inr, true≢false}
use Rattle.std.proofs.lemmas.Option.{none-some}
use Rattle.wasm_operators.specs.Items.{Space}
use Rattle.wasm_grammar.specs.Modules.{Module}
use Rattle.wasm_import_links.specs.Links.{ImportsLink}
use Rattle.wasm_part.specs.Order.{brought_by, import_of}
use Rattle.walrus_emit_due.specs.Slots.{live_at}
use Rattle.walrus_plan_laws.specs.Plans.{living, own_of}
use Rattle.walrus_plan_laws.proofs.Lists.{Apart, In, RiseFrom, all_in, apart_join, filter_in, filter_rises, in_back, in_either, in_filter, in_front, rise_apart}
use Rattle.walrus_plan_laws.proofs.Means.{IsBrought, brought_apart, brought_has, has_brought}
use Rattle.walrus_plan_laws.proofs.Slots.{has_living, living_has, living_rises}
use Rattle.walrus_plan_laws.proofs.Turns.{AreNumbers}

pub none_of : {A : Type 0} (o : Option A) → is_none o ≡ true → o ≡ None
none_of None e = refl
none_of (Some x) e = absurd (true≢false (sym e))

pub is_filled : {A : Type 0} (o : Option A) (x : A) → o ≡ Some x → IsSome o
is_filled o x e = subst IsSome (sym e) refl

-- an id stands at its number
pub at_number : (ids : List ℕ) (number : ℕ → Option ℕ) → AreNumbers ids number → (n : ℕ) → In ids n → slice_get ids (unwrap_or (number n) 0) ≡ Some n
at_number ids number h n at = subst (λ (o : Option ℕ). slice_get ids (unwrap_or o 0) ≡ Some n) (sym (h.has n at.0 at.1)) at.1

-- ---- the module's own items are given

module _ (m : Module) (link : ImportsLink m) (space : Space) (to : IsBrought space) (own : List ℕ) (are_own : (n : ℕ) → In own n → import_of m space n ≡ None) where
  abbrev front : List ℕ
  front = brought_by m space (living m.imports)

  pub joined_apart : Apart own → Apart (front ++ own)
  joined_apart apart = apart_join front own (brought_apart m link space) apart (λ n at there. let h = brought_has m link space n at in none-some h.0 (sym (are_own n there) ∙ h.1))

  pub in_joined : (n : ℕ) → (import_of m space n ≡ None → In own n) → In (front ++ own) n
  in_joined n has = by_import (import_of m space n) refl
    where
      by_import : (o : Option ℕ) → import_of m space n ≡ o → In (front ++ own) n
      by_import None e = in_back front own n (has e)
      by_import (Some k) e = in_front front own n (has_brought m link space to n k e)

  pub joined_lives : (P : ℕ → Type 0) → ((n k : ℕ) → import_of m space n ≡ Some k → P n) → ((n : ℕ) → In own n → P n) → (n : ℕ) → In (front ++ own) n → P n
  joined_lives P brought have n at = go (in_either front own n at)
    where
      go : In front n ⊎ In own n → P n
      go (inl at) = let h = brought_has m link space n at in brought n h.0 h.1
      go (inr at) = have n at

-- ---- they are those that no import brings

module _ {A : Type 0} (m : Module) (link : ImportsLink m) (space : Space) (to : IsBrought space) (slots : List (Option A)) where
  abbrev ids : List ℕ
  ids = own_of m space (living slots)

  pub own_rises : RiseFrom 0 ids
  own_rises = filter_rises (λ n. is_none (import_of m space n)) 0 (living slots) (living_rises slots)

  pub own_none : (n : ℕ) → In ids n → import_of m space n ≡ None
  own_none n at = none_of (import_of m space n) (filter_in (λ n. is_none (import_of m space n)) (living slots) n at).1

  pub space_own : AllByRecursion (λ n. import_of m space n ≡ None) ids
  space_own = all_in (λ n. import_of m space n ≡ None) ids own_none

  pub space_apart : Apart (brought_by m space (living m.imports) ++ ids)
  space_apart = joined_apart m link space to ids own_none (rise_apart 0 ids own_rises)

  pub space_has : (n : ℕ) (x : A) → slice_index_or slots n None ≡ Some x → In (brought_by m space (living m.imports) ++ ids) n
  space_has n x e =
      in_joined m link space to ids own_none n
      (λ none. in_filter (λ n. is_none (import_of m space n)) (living slots) n (living_has slots n x e) (ap is_none none))

  pub space_lives : ((n k : ℕ) → import_of m space n ≡ Some k → IsSome (live_at slots n)) → (n : ℕ) → In (brought_by m space (living m.imports) ++ ids) n → IsSome (live_at slots n)
  space_lives brought =
      joined_lives m link space to ids own_none (λ n. IsSome (live_at slots n)) brought
      (λ n at. let h = has_living slots n (filter_in (λ n. is_none (import_of m space n)) (living slots) n at).0 in is_filled (live_at slots n) h.0 h.1)
