-- A name that is sent to what it is given to, and names one after another.
use Rattle.std.proofs.Common.{◌≡◌, ◌∙◌, ◌+◌, ◌<◌, ℕ, Bool, true, false, List, [], ◌∷◌, length, map, take, Option, Some, None, slice_index_or, if◌then◌else◌, sym, ap, subst}
use Rattle.std.specs.Option.{option_map}
use Rattle.wasm_name_payloads.specs.Names.{Bearer, Given, given}
use Rattle.walrus_index_maps.specs.Maps.{Ids}
use Rattle.walrus_item_names.specs.Holder.{Holder}
use Rattle.walrus_item_names.specs.Sent.{is_skipped, sent, given_if, sent_name, sent_names, one_more}
use Rattle.walrus_item_names.specs.Gives.{GivesNames, gives_none, gives_both}
use Rattle.walrus_item_names.specs.Targets.{target_bearer}
use Rattle.walrus_item_names.specs.declared.target.Target.{Target}

module _ (skips : Bool) (maps : Ids) (g : Given) where
  skipped_is : is_skipped skips g ≡ true → sent_name skips maps g ≡ []
  skipped_is is = ap (λ (b : Bool). if b then [] else given_if (sent maps g.bearer) g.name) is

  pub gives_skipped : (m : Holder) → is_skipped skips g ≡ true → GivesNames (sent_name skips maps g) m m
  gives_skipped m is = subst (λ (names : List Given). GivesNames names m m) (sym (skipped_is is)) (gives_none m)

  sent_is : (to : Option Target) → is_skipped skips g ≡ false → option_map target_bearer to ≡ sent maps g.bearer → sent_name skips maps g ≡ given_if (option_map target_bearer to) g.name
  sent_is to not h = ap (λ (b : Bool). if b then [] else given_if (sent maps g.bearer) g.name) not ∙ ap (λ (o : Option Bearer). given_if o g.name) (sym h)

  pub gives_missing : (m : Holder) → is_skipped skips g ≡ false → option_map target_bearer None ≡ sent maps g.bearer → GivesNames (sent_name skips maps g) m m
  gives_missing m not h = subst (λ (names : List Given). GivesNames names m m) (sym (sent_is None not h)) (gives_none m)

  pub gives_sent : (m n : Holder) (to : Target) (name : List ℕ) → is_skipped skips g ≡ false → option_map target_bearer (Some to) ≡ sent maps g.bearer → name ≡ g.name
      → GivesNames (given (target_bearer to) name ∷ []) m n → GivesNames (sent_name skips maps g) m n
  gives_sent m n to name not h named gives =
      subst (λ (names : List Given). GivesNames names m n) (ap (λ (l : List ℕ). given (target_bearer to) l ∷ []) named ∙ sym (sent_is (Some to) not h)) gives

-- names that were given one after another, and one more
pub gives_next : {X : Type 0} (skips : Bool) (maps : Ids) (v : X → Given) (xs : List X) (i : ℕ) (other now : X) (a b c : Holder) → now ≡ slice_index_or xs i other → i < length xs
    → GivesNames (sent_names skips maps (map v (take i xs))) a b → GivesNames (sent_name skips maps (v now)) b c → GivesNames (sent_names skips maps (map v (take (i + 1) xs))) a c
gives_next skips maps v xs i other now a b c is lt first second =
    subst (λ (names : List Given). GivesNames names a c) (sym (one_more (sent_name skips maps) v xs i other now is lt))
    (gives_both (sent_names skips maps (map v (take i xs))) (sent_name skips maps (v now)) a b c first second)
