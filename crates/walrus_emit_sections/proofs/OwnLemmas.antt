-- The own items of a space, one behind another.
use Rattle.std.specs.Prelude.{ℕ, zero, suc, ◌+◌, ◌<◌, ◌≤◌, ◌≡◌, ◌⊎◌, Bool, true, false, List, [], ◌∷◌, ◌++◌, length, map, filter, take, drop, Option, Some, None, Result, Ok, Err, MatchResult, refl}
use Rattle.std.specs.List.{flat_map}
use Rattle.std.specs.Option.{option_map}
use Rattle.std.proofs.Common.{ap, sym, ◌∙◌, subst, arith, inl, inr}
use Rattle.std.proofs.lemmas.List.{append_assoc, append-nil, take-append-drop, take_at, drop_at, length-append, length-map}
use Rattle.wasm_operators.specs.Bytes.{unsigned_bytes}
use Rattle.walrus_operators.specs.Appended.{Keeps}
use Rattle.wasm_operators.proofs.Keeps.{keeps_all, keeps_on}
use Rattle.walrus_arena.specs.Arena.{Arena, entries_from}
use Rattle.walrus_collections.specs.LookUps.{items}
use Rattle.walrus_item_meaning.specs.Meaning.{slots_of}
use Rattle.wasm_formats.specs.declared.fault.Limited.{Limited}
use Rattle.walrus_errors.specs.declared.error.ModuleError.{ModuleError}
use Rattle.walrus_errors.specs.declared.error.ModuleError.TheVariants.{Memory, OutputLimit}
use Rattle.walrus_emit_parts.specs.Due.{Due, IsTooMany, Lacks, Refused, Writes, entries, limited, number, section, sized, vec, written}
use Rattle.walrus_emit_parts.proofs.Lemmas.{behind_it, limit_passed, nothing, put_before, refused_behind, refused_front, size_is, within, writes_on}
use Rattle.walrus_emit_sections.specs.Own.{WroteSome}
use Rattle.walrus_emit_due.specs.Own.{live, own_section}

module _ {A : Type 0} (is_own : A → Bool) (due : A → Due) where
  abbrev own_due : List A → Due
  own_due xs = flat_map due (filter is_own xs)

  pub begins : (xs : List A) (old : List ℕ) → WroteSome is_own due xs xs old old 0
  begins xs old = record { done = []; wrote = nothing old; parts = refl; counts = omega arith }

  pub skips : (all left : List A) (x : A) (old now : List ℕ) (count : ℕ) → is_own x ≡ false → WroteSome is_own due all (x ∷ left) old now count → WroteSome is_own due all left old now count
  skips all left x old now count fails h = record {
    done = h.done;
    wrote = h.wrote;
    parts = h.parts ∙ ap (λ (l : List A). h.done ++ flat_map due l) (rw fails refl);
    counts = h.counts ∙ ap (λ (l : List A). count + length l) (rw fails refl);
  }

  yes_first : (left : List A) (x : A) → is_own x ≡ true → filter is_own (x ∷ left) ≡ x ∷ filter is_own left
  yes_first left x passes = rw passes refl

  pub goes_on : (all left : List A) (x : A) (old mid new : List ℕ) (count : ℕ) → is_own x ≡ true → WroteSome is_own due all (x ∷ left) old mid count → written new ≡ written mid ++ due x
      → WroteSome is_own due all left old new (count + 1)
  goes_on all left x old mid new count passes h wrote =
      let first = yes_first left x passes in record {
        done = h.done ++ due x;
        wrote = wrote ∙ ap (λ (l : Due). l ++ due x) h.wrote ∙ append_assoc (written old) h.done (due x);
        parts = h.parts ∙ ap (λ (l : List A). h.done ++ flat_map due l) first ∙ sym (append_assoc h.done (due x) (own_due left));
        counts = h.counts ∙ ap (λ (l : List A). count + length l) first ∙ omega arith;
      }

  pub ends : (all : List A) (old now : List ℕ) (count : ℕ) → WroteSome is_own due all [] old now count
      → (count ≡ length (filter is_own all)) × (written now ≡ written old ++ own_due all)
  ends all old now count h =
      (omega (arith, h.counts), h.wrote ∙ ap (λ (l : Due). written old ++ l) (sym (h.parts ∙ append-nil h.done)))

  pub refused : (all left : List A) (x : A) (old mid new : List ℕ) (count : ℕ) (e : ModuleError) → is_own x ≡ true → WroteSome is_own due all (x ∷ left) old mid count → Refused (due x) mid new e
      → Refused (own_due all) old new e
  refused all left x old mid new count e passes h r =
      let parts : own_due all ≡ h.done ++ (due x ++ own_due left) = h.parts ∙ ap (λ (l : List A). h.done ++ flat_map due l) (yes_first left x passes) in
      subst (λ (l : Due). Refused l old new e) (sym parts) (writes_on old mid new h.done (due x ++ own_due left) (Err e) h.wrote (refused_front (due x) (own_due left) mid new e r))

  -- memory is wanted at any place
  pub stopped : (all left : List A) (old mid : List ℕ) (now : List ℕ) (count : ℕ) → WroteSome is_own due all left old mid count → Keeps mid now → Refused (own_due all) old now Memory
  stopped all left old mid now count h keeps =
      subst (λ (l : Due). Refused l old now Memory) (sym h.parts) (writes_on old mid now h.done (own_due left) (Err Memory) h.wrote (record { keeps = keeps; cause = inl refl }))

-- ---- slots

live_from : {T A : Type 0} (see : T → A) (id : ℕ) (slots : List (Option T)) → map see (map (λ (e : ℕ × T). e.1) (entries_from id slots)) ≡ live (map (option_map see) slots)
live_from see id [] = refl
live_from see id (None ∷ slots) = live_from see (id + 1) slots
live_from {T} {A} see id (Some x ∷ slots) = ap (λ (l : List A). see x ∷ l) (live_from see (id + 1) slots)

pub live_is : {T A : Type 0} (see : T → A) (a : Arena T) → map see (items a) ≡ live (slots_of see a)
live_is see a = live_from see 0 a.slots

-- ---- limits

live_size : {T A : Type 0} (see : T → A) (a : Arena T) → length (live (slots_of see a)) ≡ length (items a)
live_size {T} {A} see a = ap (λ (l : List A). length l) (sym (live_is see a)) ∙ length-map (items a) see

-- there are no more than so many
pub live_within : {T A : Type 0} (see : T → A) (a : Arena T) (most : ℕ) (of : Limited) (due : Due) (old new : List ℕ) (result : Result (Unit {0}) ModuleError) → length (items a) ≤ most
    → Writes due old new result → Writes (limited most (length (live (slots_of see a))) of due) old new result
live_within see a most of due old new result le h = within most (length (live (slots_of see a))) of due old new result (omega (arith, le, live_size see a)) h

-- there are more, or memory was wanted
pub live_passed : {T A : Type 0} (see : T → A) (a : Arena T) (most : ℕ) (of : Limited) (due : Due) (old : List ℕ) (e : ModuleError)
    → (e ≡ Memory) ⊎ ((e ≡ OutputLimit of) × (most < length (items a))) → Refused (limited most (length (live (slots_of see a))) of due) old old e
live_passed see a most of due old e (inl h) = record { keeps = keeps_all old old refl; cause = inl h }
live_passed see a most of due old e (inr h) =
    subst (λ (x : ModuleError). Refused (limited most (length (live (slots_of see a))) of due) old old x) (sym h.0)
    (limit_passed most (length (live (slots_of see a))) of due old old (omega (arith, h.1, live_size see a)) refl)

-- one more is counted
pub one_counted : {T : Type 0} (all had left : List T) (x : T) (count more : ℕ) → had ≡ x ∷ left → length all ≡ count + length had → more ≡ count + 1 → length all ≡ more + length left
one_counted {T} all had left x count more step h one = h ∙ ap (λ (l : List T). count + length l) step ∙ omega (arith, one)

-- ---- sections

-- there is no entry
none_is : {A : Type 0} (id : ℕ) (due : A → Due) (xs : List A) → 0 ≡ length xs → entries id due xs ≡ []
none_is id due [] h = refl
none_is id due (x ∷ xs) h = absurd (omega (arith, h))

some_is : {A : Type 0} (id : ℕ) (due : A → Due) (xs : List A) → 0 < length xs → entries id due xs ≡ section id (vec due xs)
some_is id due [] h = absurd (omega (arith, h))
some_is id due (x ∷ xs) h = refl

nothing_lacks : (e : ModuleError) → Lacks [] e → ⊥
nothing_lacks e h = let size : 0 ≡ length (h.front ++ Err e ∷ h.back) = ap (λ (l : Due). length l) h.parts in omega (arith, size, length-append h.front (Err e ∷ h.back))

only_memory : (e : ModuleError) → (e ≡ Memory) ⊎ (Lacks [] e ⊎ IsTooMany 0 e) → e ≡ Memory
only_memory e (inl h) = h
only_memory e (inr (inl h)) = absurd (nothing_lacks e h)
only_memory e (inr (inr h)) = absurd (omega (arith, h.1))

behind_first : (id : ℕ) (old mid new : List ℕ) → Keeps mid new → written mid ≡ written old ++ written (id ∷ []) → Keeps old new
behind_first id old mid new keeps first = keeps_on old mid new (id ∷ []) (behind_it old mid (written (id ∷ [])) first) keeps

entries_refused : {A : Type 0} (id : ℕ) (due : A → Due) (xs : List A) (old mid new : List ℕ) (e : ModuleError) → written mid ≡ written old ++ written (id ∷ []) → Refused (flat_map due xs) mid new e
    → Refused (entries id due xs) old new e
entries_refused id due [] old mid new e first h = record { keeps = behind_first id old mid new h.keeps first; cause = inl (only_memory e h.cause) }
entries_refused id due (x ∷ xs) old mid new e first h =
    writes_on old mid new (written (id ∷ [])) (sized (vec due (x ∷ xs))) (Err e) first
    (refused_behind (number (length (vec due (x ∷ xs)))) (vec due (x ∷ xs)) mid new e (refused_behind (number (length (x ∷ xs))) (flat_map due (x ∷ xs)) mid new e h))

module _ {T A : Type 0} (see : T → A) (is_own : A → Bool) (due : A → Due) (a : Arena T) (id : ℕ) where
  abbrev xs : List A
  xs = filter is_own (map see (items a))

  abbrev due_here : Due
  due_here = own_section id is_own due (slots_of see a)

  same : entries id due xs ≡ due_here
  same = ap (λ (l : List A). entries id due (filter is_own l)) (live_is see a)

  -- no entry was written: what was written before is cut off
  pub none_written : (old mid now : List ℕ) (front count : ℕ) → front ≡ length old → written mid ≡ written old ++ written (id ∷ []) → count ≡ 0 → count ≡ length xs
      → written now ≡ written mid ++ flat_map due xs → written (take front now) ≡ written old ++ due_here
  none_written old mid now front count e first nil h wrote =
      let it = behind_it old now (written (id ∷ []) ++ flat_map due xs) (wrote ∙ ap (λ (l : Due). l ++ flat_map due xs) first ∙ append_assoc (written old) (written (id ∷ [])) (flat_map due xs)) in
      let cut : take front now ≡ old = ap (λ (l : List ℕ). take front l) it ∙ take_at old _ front (sym e) in
      ap (λ (l : List ℕ). written l) cut ∙ nothing old ∙ ap (λ (l : Due). written old ++ l) (sym (none_is id due xs (sym nil ∙ h)) ∙ same)

  -- an entry is refused
  pub own_refused : (old mid new : List ℕ) (e : ModuleError) → written mid ≡ written old ++ written (id ∷ []) → Refused (flat_map due xs) mid new e → Refused due_here old new e
  own_refused old mid new e first h = subst (λ (l : Due). Refused l old new e) same (entries_refused id due xs old mid new e first h)

  abbrev headed : ℕ → List ℕ → List ℕ
  headed count bytes = unsigned_bytes count ++ bytes

  -- the entries are counted and sized
  pub all_written : (old mid now new : List ℕ) (start count : ℕ) (result : Result (Unit {0}) ModuleError) → start ≡ length mid → written mid ≡ written old ++ written (id ∷ []) → (count ≡ 0 → ⊥)
      → count ≡ length xs → written now ≡ written mid ++ flat_map due xs
      → MatchResult result (λ _. new ≡ take start now ++ (unsigned_bytes (length (headed count (drop start now))) ++ headed count (drop start now))) (λ e. (e ≡ Memory) × (take start new ≡ take start now))
      → Writes due_here old new result
  all_written old mid now new start count (Ok x) e first some h wrote is =
      let bytes = headed count (drop start now) in
      let mine : take start now ≡ mid = ap (λ (l : List ℕ). take start l) (behind_it mid now (flat_map due xs) wrote) ∙ take_at mid _ start (sym e) in
      let inner : written (mid ++ bytes) ≡ written mid ++ vec due xs =
      put_before mid now (mid ++ bytes) (flat_map due xs) start count e wrote (ap (λ (l : List ℕ). l ++ bytes) (sym mine)) ∙ ap (λ (n : ℕ). written mid ++ (number n ++ flat_map due xs)) h in
      let size : length bytes ≡ length (vec due xs) = omega (arith, size_is mid (mid ++ bytes) (vec due xs) inner, length-append mid bytes) in
      let outer : written new ≡ written mid ++ sized (vec due xs) =
      put_before mid (mid ++ bytes) new (vec due xs) start (length bytes) e inner
      (is ∙ ap (λ (l : List ℕ). l ++ (unsigned_bytes (length bytes) ++ bytes)) (mine ∙ sym (take_at mid bytes start (sym e))) ∙ ap (λ (l : List ℕ). take start (mid ++ bytes) ++ (unsigned_bytes (length bytes) ++ l)) (sym (drop_at mid bytes start (sym e))))
      ∙ ap (λ (n : ℕ). written mid ++ (number n ++ vec due xs)) size in
      let there : 0 < length xs = omega (arith, h, positive count some) in
      writes_on old mid new (written (id ∷ [])) (sized (vec due xs)) (Ok x) first outer ∙ ap (λ (l : Due). written old ++ l) (sym (some_is id due xs there) ∙ same)
    where
      positive : (n : ℕ) → (n ≡ 0 → ⊥) → 0 < n
      positive zero fails = absurd (fails refl)
      positive (suc n) fails = omega arith
  all_written old mid now new start count (Err x) e first some h wrote is =
      let mine : take start now ≡ mid = ap (λ (l : List ℕ). take start l) (behind_it mid now (flat_map due xs) wrote) ∙ take_at mid _ start (sym e) in
      let keeps : Keeps mid new = record { more = drop start new; behind = sym (take-append-drop start new) ∙ ap (λ (l : List ℕ). l ++ drop start new) (is.1 ∙ mine) } in
      record { keeps = behind_first id old mid new keeps first; cause = inl is.0 }

-- ---- the loop, item by item

module _ {T A : Type 0} (see : T → A) (is_own : A → Bool) (due : A → Due) (all : List T) where
  abbrev pub Wrote : List T → List ℕ → List ℕ → ℕ → Type 0
  Wrote left old now count = WroteSome is_own due (map see all) (map see left) old now count

  at_item : (had left : List T) (x : T) (old now : List ℕ) (count : ℕ) → had ≡ x ∷ left → Wrote had old now count → Wrote (x ∷ left) old now count
  at_item had left x old now count e h = subst (λ (l : List T). Wrote l old now count) e h

  pub item_refused : (had left : List T) (x : T) (old mid new : List ℕ) (count : ℕ) (e : ModuleError) → had ≡ x ∷ left → is_own (see x) ≡ true → Wrote had old mid count → Refused (due (see x)) mid new e
      → Refused (flat_map due (filter is_own (map see all))) old new e
  item_refused had left x old mid new count e step passes h r =
      refused is_own due (map see all) (map see left) (see x) old mid new count e passes (at_item had left x old mid count step h) r

  pub item_written : (had left : List T) (x : T) (old mid new : List ℕ) (count more : ℕ) → had ≡ x ∷ left → is_own (see x) ≡ true → Wrote had old mid count → written new ≡ written mid ++ due (see x)
      → more ≡ count + 1 → Wrote left old new more
  item_written had left x old mid new count more step passes h wrote one =
      subst (λ (n : ℕ). Wrote left old new n) (sym one) (goes_on is_own due (map see all) (map see left) (see x) old mid new count passes (at_item had left x old mid count step h) wrote)

  pub item_stopped : (had left : List T) (x : T) (old mid new : List ℕ) (count : ℕ) → had ≡ x ∷ left → is_own (see x) ≡ true → Wrote had old mid count → written new ≡ written mid ++ due (see x)
      → Refused (flat_map due (filter is_own (map see all))) old new Memory
  item_stopped had left x old mid new count step passes h wrote =
      stopped is_own due (map see all) (map see left) old new new (count + 1) (item_written had left x old mid new count (count + 1) step passes h wrote refl) (keeps_all new new refl)

  pub item_skipped : (had left : List T) (x : T) (old now : List ℕ) (count : ℕ) → had ≡ x ∷ left → is_own (see x) ≡ false → Wrote had old now count → Wrote left old now count
  item_skipped had left x old now count step fails h = skips is_own due (map see all) (map see left) (see x) old now count fails (at_item had left x old now count step h)

  pub items_begin : (left : List T) (old : List ℕ) → left ≡ all → Wrote left old old 0
  items_begin left old is = subst (λ (l : List T). Wrote l old old 0) (sym is) (begins is_own due (map see all) old)

  pub items_end : (had : List T) (old now : List ℕ) (count : ℕ) → had ≡ [] → Wrote had old now count
      → (count ≡ length (filter is_own (map see all))) × (written now ≡ written old ++ flat_map due (filter is_own (map see all)))
  items_end had old now count none h = ends is_own due (map see all) old now count (subst (λ (l : List T). Wrote l old now count) none h)
