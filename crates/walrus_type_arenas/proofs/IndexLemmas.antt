-- What a table's index knows, through the lists of the code.
use Rattle.std.proofs.Common.{◌≡◌, ◌∙◌, ℕ, ◌+◌, ◌≤◌, Bool, cond, not, List, [], ◌∷◌, ◌++◌, length, Option, Some, None, true, false, ◌==◌, slice_index_or, slice_set, IsSome, filter, refl, subst, sym, ap, arith, ⊎_elim, length-append}
use Rattle.std.specs.Option.{option_map, option_map_or}
use Rattle.std.specs.Prelude.{is_some}
use Rattle.walrus_type_index.specs.walrus_items.declared.subtype.Type.{«Type» as TypeItem}
use Rattle.walrus_type_index.specs.walrus_items.Items.{kind_of}
use Rattle.walrus_type_index.specs.declared.node.Hashed.{Hashed}
use Rattle.walrus_type_index.specs.Hashes.{hash_of}
use Rattle.walrus_type_index.specs.Places.{kinds_in, hashed_at}
use Rattle.walrus_type_index.specs.Ordered.{Indexed, IsOrdered, IsHeld, is_marked, lives_at}
use Rattle.walrus_type_index.proofs.OrderedLemmas.{ordered-written, ordered-dead, ordered-swept, ordered-new}
use Rattle.walrus_type_index.specs.walrus_items.walrus_forms.Kinds.{Kind}
use Rattle.walrus_type_arenas.proofs.MarkLemmas.{IsCleared}
use Rattle.walrus_type_arenas.proofs.TableLemmas.{at-map}
use Rattle.walrus_type_index.proofs.walrus_forms.walrus_arena.ArenaLemmas.{at-kept, at-last, at-other, live-within}
use Rattle.std.proofs.Math.ListN.{length-set}
use Rattle.std.proofs.lemmas.List.{get_or-set_same, get_or_past, length-map}
use Rattle.std.proofs.lemmas.Bool.{eq-eqb, false≢true, cases_lt}

some-kind : (slot : Option TypeItem) → IsSome slot → is_some (option_map kind_of slot) ≡ true
some-kind None live = live
some-kind (Some ty) live = refl

-- a live type, as the index sees it
pub lives-seen : (slots : List (Option TypeItem)) (id : ℕ) → IsSome (slice_index_or slots id None) → lives_at (kinds_in slots) id ≡ true
lives-seen slots id live = ap is_some (at-map kind_of slots id) ∙ some-kind (slice_index_or slots id None) live

-- the kinds at ids at which slots agree
kinds-agree : (slots more : List (Option TypeItem)) (y : ℕ) → slice_index_or slots y None ≡ slice_index_or more y None
    → slice_index_or (kinds_in slots) y None ≡ slice_index_or (kinds_in more) y None
kinds-agree slots more y same = at-map kind_of slots y ∙ ap (option_map kind_of) same ∙ sym (at-map kind_of more y)

-- the kinds apart from a slot that is set
kinds-apart : (slots : List (Option TypeItem)) (slot : Option TypeItem) (id y : ℕ) → (id == y) ≡ false
    → slice_index_or (kinds_in slots) y None ≡ slice_index_or (kinds_in (slice_set slots id slot)) y None
kinds-apart slots slot id y apart =
    kinds-agree slots (slice_set slots id slot) y (sym (at-other slots slot id y (λ e. false≢true (sym apart ∙ eq-eqb id y (sym e)))))

-- a lent type changes
pub lent-written : (slots : List (Option TypeItem)) (index : List Hashed) (id : ℕ) (old new : TypeItem) → slice_index_or slots id None ≡ Some old
    → IsOrdered (Some id) index (kinds_in slots) → IsOrdered (Some id) index (kinds_in (slice_set slots id (Some new)))
lent-written slots index id old new at o =
    ordered-written id index (kinds_in slots) (kinds_in (slice_set slots id (Some new))) o (kinds-apart slots (Some new) id)
    (ap is_some (at-map kind_of (slice_set slots id (Some new)) id ∙ ap (option_map kind_of) (get_or-set_same slots id (Some new) None (live-within slots id old at))))

-- a type that is out of the index is deleted
pub lent-dead : (slots : List (Option TypeItem)) (index : List Hashed) (id : ℕ) (old : TypeItem) → slice_index_or slots id None ≡ Some old
    → IsOrdered (Some id) index (kinds_in slots) → IsOrdered None index (kinds_in (slice_set slots id None))
lent-dead slots index id old at o =
    ordered-dead id index (kinds_in slots) (kinds_in (slice_set slots id None)) o (kinds-apart slots None id)
    (ap is_some (at-map kind_of (slice_set slots id None) id ∙ ap (option_map kind_of) (get_or-set_same slots id None None (live-within slots id old at))))

kind-left : (dies : Bool) (slot : Option TypeItem) → option_map kind_of (cond dies None slot) ≡ cond dies None (option_map kind_of slot)
kind-left true slot = refl
kind-left false slot = refl

-- the types of the marked ids died, and these are taken out of the index
pub swept_order : (old new : List (Option TypeItem)) (marks : List Bool) (index : List Hashed) → IsOrdered None index (kinds_in old) → IsCleared marks old new
    → IsOrdered None (filter (λ x. not (is_marked marks x.id)) index) (kinds_in new)
swept_order old new marks index o cleared =
    ordered-swept (is_marked marks) index (kinds_in old) (kinds_in new) o
    (λ id. at-map kind_of new id
    ∙ ap (option_map kind_of) (cleared id)
    ∙ kind-left (is_marked marks id) (slice_index_or old id None)
    ∙ ap (λ (k : Option Kind). cond (is_marked marks id) None k) (sym (at-map kind_of old id)))

-- the slots apart from one that is added
slots-apart : (slots : List (Option TypeItem)) (ty : TypeItem) (y : ℕ) → (length slots == y) ≡ false
    → slice_index_or slots y None ≡ slice_index_or (slots ++ Some ty ∷ []) y None
slots-apart slots ty y apart = ⊎_elim
    (λ less. sym (at-kept slots (Some ty) y less))
    (λ past. ⊎_elim
    (λ beyond. get_or_past slots y None past ∙ sym (get_or_past (slots ++ Some ty ∷ []) y None (omega (arith, length-append slots (Some ty ∷ []), beyond))))
    (λ upto. let here : length slots ≡ y = omega (arith, past, upto) in absurd (false≢true (sym apart ∙ eq-eqb (length slots) y here)))
    (cases_lt (length slots) y))
    (cases_lt y (length slots))

-- a type was added, and is yet to be entered
pub one-born : (slots : List (Option TypeItem)) (ty : TypeItem) (index : List Hashed) (id : ℕ) → id ≡ length slots
    → IsOrdered None index (kinds_in slots) → IsOrdered (Some id) index (kinds_in (slots ++ Some ty ∷ []))
one-born slots ty index id is o =
    subst (λ (k : ℕ). IsOrdered (Some k) index (kinds_in (slots ++ Some ty ∷ []))) (sym is)
    (ordered-new (length slots) index (kinds_in slots) (kinds_in (slots ++ Some ty ∷ [])) o
    (ap is_some (at-map kind_of slots (length slots) ∙ ap (option_map kind_of) (get_or_past slots (length slots) None (omega arith))))
    (λ y apart. kinds-agree slots (slots ++ Some ty ∷ []) y (slots-apart slots ty y apart))
    (ap is_some (at-map kind_of (slots ++ Some ty ∷ []) (length slots) ∙ ap (option_map kind_of) (at-last slots (Some ty) (length slots) refl))))

-- as many kinds as slots
kinds-length : (slots : List (Option TypeItem)) → length (kinds_in slots) ≡ length slots
kinds-length slots = length-map slots (option_map kind_of)

-- what is in order has a place for as many slots as there were
still-held : (old new : List (Option TypeItem)) (lent : Option ℕ) (index : Indexed) → length new ≡ length old → length (kinds_in old) ≤ index.room
    → IsOrdered lent index.ids (kinds_in new) → IsHeld lent index (kinds_in new)
still-held old new lent index sized room o = record { ordered = o; room = omega (arith, kinds-length old, kinds-length new, sized, room) }

-- a lent type changes
pub held-written : (slots : List (Option TypeItem)) (index : Indexed) (id : ℕ) (old new : TypeItem) → slice_index_or slots id None ≡ Some old
    → IsHeld (Some id) index (kinds_in slots) → IsHeld (Some id) index (kinds_in (slice_set slots id (Some new)))
held-written slots index id old new at h =
    still-held slots (slice_set slots id (Some new)) (Some id) index (length-set slots id (Some new)) h.room (lent-written slots index.ids id old new at h.ordered)

-- a type that is out of the index is deleted
pub held-dead : (slots : List (Option TypeItem)) (index : Indexed) (id : ℕ) (old : TypeItem) → slice_index_or slots id None ≡ Some old
    → IsHeld (Some id) index (kinds_in slots) → IsHeld None index (kinds_in (slice_set slots id None))
held-dead slots index id old at h = still-held slots (slice_set slots id None) None index (length-set slots id None) h.room (lent-dead slots index.ids id old at h.ordered)

-- the types of the marked ids died, and these are taken out of the index
pub held-swept : (old new : List (Option TypeItem)) (marks : List Bool) (before after : Indexed) → IsHeld None before (kinds_in old) → length new ≡ length old
    → IsCleared marks old new → after.ids ≡ filter (λ x. not (is_marked marks x.id)) before.ids → after.room ≡ before.room → IsHeld None after (kinds_in new)
held-swept old new marks before after h sized cleared ids room =
    still-held old new None after sized (omega (arith, room, h.room))
    (subst (λ (xs : List Hashed). IsOrdered None xs (kinds_in new)) (sym ids) (swept_order old new marks before.ids h.ordered cleared))

-- a type was added for which there is a place, and is yet to be entered
pub held-born : (slots : List (Option TypeItem)) (ty : TypeItem) (index : Indexed) (id : ℕ) → id ≡ length slots → length slots + 1 ≤ index.room
    → IsHeld None index (kinds_in slots) → IsHeld (Some id) index (kinds_in (slots ++ Some ty ∷ []))
held-born slots ty index id is room h = record {
  ordered = one-born slots ty index.ids id is h.ordered;
  room = omega (arith, kinds-length (slots ++ Some ty ∷ []), length-append slots (Some ty ∷ []), room);
}

-- the index has more room
pub held-grown : (lent : Option ℕ) (ks : List (Option Kind)) (before after : Indexed) → IsHeld lent before ks → after.ids ≡ before.ids → before.room ≤ after.room → IsHeld lent after ks
held-grown lent ks before after h ids room = record {
  ordered = subst (λ (xs : List Hashed). IsOrdered lent xs ks) (sym ids) h.ordered;
  room = omega (arith, h.room, room);
}

-- the hash of a type that was added
pub hash-born : (slots : List (Option TypeItem)) (ty : TypeItem) (hash id : ℕ) → id ≡ length slots → hash ≡ hash_of (kind_of ty)
    → record { hash = hash; id = id } ≡ hashed_at (kinds_in (slots ++ Some ty ∷ [])) id
hash-born slots ty hash id is known =
    let added = slots ++ Some ty ∷ [] in
    let at : slice_index_or (kinds_in added) id None ≡ Some (kind_of ty) = at-map kind_of added id ∙ ap (option_map kind_of) (at-last slots (Some ty) id (sym is)) in
    ap (λ (h : ℕ). let x : Hashed = record { hash = h; id = id } in x) (known ∙ sym (ap (λ (k : Option Kind). option_map_or hash_of k 0) at))
