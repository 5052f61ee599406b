-- Lemmas: ids behind those before, one by one.
use Rattle.std.proofs.Common.{◌≡◌, ◌∙◌, ◌<◌, Result, Err, OnErr, ℕ, ◌+◌, List, [], ◌∷◌, ◌++◌, length, take, drop, slice_index_or, refl, sym, ap, add-one}
use Rattle.std.proofs.Math.Seq.{take-suc}
use Rattle.std.proofs.lemmas.List.{append-nil, append_assoc, take-append-drop}
use Rattle.walrus_index_maps.specs.Maps.{Ids}
use Rattle.walrus_types_into.specs.Into.{with_types, AddsSome}

pub none_yet : (m : Ids) → m ≡ with_types [] m
none_yet m = rw (append-nil m.types) refl

pub one_more : (types : List ℕ) (i x : ℕ) (old now new : Ids) → i < length types → x ≡ slice_index_or types i x → now ≡ with_types (take i types) old → new ≡ record now { types = now.types ++ x ∷ [] }
    → new ≡ with_types (take (i + 1) types) old
one_more types i x old now new lt is so_far push =
    let more : take (i + 1) types ≡ take i types ++ x ∷ [] = rw (add-one, take-suc types i x lt) (ap (λ (y : ℕ). take i types ++ y ∷ []) (sym is)) in
    push ∙ rw (so_far, more, append_assoc old.types (take i types) (x ∷ [])) refl

pub all_pushed : (types : List ℕ) (i : ℕ) (old now : Ids) → take i types ≡ types → now ≡ with_types (take i types) old → now ≡ with_types types old
all_pushed types i old now all so_far = so_far ∙ ap (λ (l : List ℕ). with_types l old) all

pub some_pushed : (types : List ℕ) (i : ℕ) (old now new : Ids) → now ≡ with_types (take i types) old → new ≡ now → AddsSome types old new
some_pushed types i old now new so_far same = (take i types, drop i types, sym (take-append-drop i types), same ∙ so_far)

pub none_pushed : (types : List ℕ) (old : Ids) → AddsSome types old old
none_pushed types old = ([], types, refl, none_yet old)

pub on_err : {T E P : Type 0} (result : Result T E) (d : E) → result ≡ Err d → P → OnErr result P
on_err result d is h = rw is h
