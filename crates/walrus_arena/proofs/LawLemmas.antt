-- The laws of the words on an arena.
use Rattle.std.proofs.Common.{◌≡◌, ◌∙◌, ℕ, ◌+◌, Bool, false, find, Contains, Some, None, is_some, refl, sym, ap, arith}
use Rattle.std.specs.Option.{option_map, MatchOption}
use Rattle.std.specs.declared.cmp.Ordering.{Ordering}
use Rattle.std.specs.declared.cmp.Ordering.TheVariants.{Less, Equal, Greater}
use Rattle.std.specs.Ordering.{ordering_then}
use Rattle.std.proofs.lemmas.List.Sums.{length-filter}
use Rattle.walrus_arena.specs.Arena.{Arena, item_at, entries}
use Rattle.walrus_arena.specs.Laws.{EntriesAreLive, IsLowest, FindsLowest}
use Rattle.walrus_arena.proofs.ArenaLemmas.{entry-live, live-entry, ids-rise, entries-counted, find-is-none, find-is-some}

module _ {T : Type 0} where
  contains-live : (a : Arena T) (id : ℕ) (item : T) → Contains (entries a) (id, item) → item_at a id ≡ Some item
  contains-live a id item (k, less, is) =
      let h = entry-live 0 a.slots k (id, item) less in
      let e : h.0 ≡ id = omega (arith, h.1, ap (λ (x : ℕ × T). x.0) is) in
      ap (λ (i : ℕ). item_at a i) (sym e) ∙ h.2 ∙ ap (λ (x : ℕ × T). Some x.1) is

  pub EntriesAreLive-any : (a : Arena T) → EntriesAreLive a
  EntriesAreLive-any a = record {
    live = λ id item. (contains-live a id item, λ at. live-entry 0 a.slots id item id at (omega arith));
    rising = λ k less. ids-rise 0 a.slots k (k + 1) refl less;
    counted = entries-counted 0 a.slots ∙ length-filter is_some a.slots;
  }

  pub FindsLowest-any : (a : Arena T) (test : T → Bool) → FindsLowest test a
  FindsLowest-any a test =
      elim (find (λ (e : ℕ × T). test e.1) (entries a)) as (λ o. find (λ (e : ℕ × T). test e.1) (entries a) ≡ o
      → MatchOption (option_map (λ (e : ℕ × T). e.0) o) ((id : ℕ) (item : T) → item_at a id ≡ Some item → test item ≡ false) (IsLowest test a)) [
        | None ↦ λ is. find-is-none test 0 a.slots is
        | Some e ↦ λ is.
            let h = find-is-some test 0 a.slots e.0 e.1 is in
            let id : h.0 ≡ e.0 = omega (arith, h.1) in
            record {
              item = e.1;
              live = ap (λ (i : ℕ). item_at a i) (sym id) ∙ h.2;
              passes = h.3;
              lowest = λ other x less at. h.4 other x (omega arith) at;
            }
      ] refl

pub then-equal : (o : Ordering) → ordering_then o Equal ≡ o
then-equal Less = refl
then-equal Equal = refl
then-equal Greater = refl
