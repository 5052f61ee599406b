-- Sequences in one list: how it changes.
use Rattle.std.proofs.Common.{ℕ, zero, suc, ◌-◌, ◌≤◌, ◌≡◌, Bool, true, false, List, [], ◌∷◌, ◌++◌, length, take, drop, refl, sym, ap, subst, arith, ◌∙◌}
use Rattle.std.specs.Prelude.{slice_get}
use Rattle.std.specs.Option.{option_map}
use Rattle.std.proofs.lemmas.List.{drop-append-le, take-append-le, take-take, take_all, drop_all, length-append, length-take-le}
use Rattle.walrus_instr.specs.declared.instr.Instr.{Instr}
use Rattle.walrus_instr.specs.declared.seq.InstrLocId.{InstrLocId}
use Rattle.walrus_body_stack.specs.declared.frame.Frame.{Frame}
use Rattle.walrus_body_stack.specs.declared.nest.Slot.{Slot}
use Rattle.walrus_body_stack.specs.Held.{Nested, added, bare, emptied, entered, seqs_of, seqs_in}
use Rattle.walrus_body_stack.specs.Slots.{Instrs, Lists, Fits, further, helds, lower, nested_in}

abbrev slot : ℕ → Frame → Bool → Slot
slot b f a = record { begin = b; frame = f; apart = a }

-- the sequences around one stay, where its list is the same up to its own
lower_stays : (a : Bool) (b : ℕ) (l m : Instrs) (ks : Lists) → take b m ≡ take b l → lower a b m ks ≡ lower a b l ks
lower_stays false b l m ks e = e
lower_stays true b l m [] e = refl
lower_stays true b l m (k ∷ ks) e = refl

pub nested_stays : (s : Slot) (ss : List Slot) (l m : Instrs) (ks : Lists) (is : Instrs) → take s.begin m ≡ take s.begin l → drop s.begin m ≡ is
    → nested_in s ss m ks ≡ record { inner = record { frame = s.frame; instrs = is }; outer = helds ss (lower s.apart s.begin l ks) (further s.apart ks) }
nested_stays s ss l m ks is e f =
    ap (λ (js : Instrs). let n : Nested = record { inner = record { frame = s.frame; instrs = js }; outer = helds ss (lower s.apart s.begin m ks) (further s.apart ks) } in n) f
    ∙ ap (λ (k : Instrs). let n : Nested = record { inner = record { frame = s.frame; instrs = is }; outer = helds ss k (further s.apart ks) } in n) (lower_stays s.apart s.begin l m ks e)

pub fits_stay : (s : Slot) (ss : List Slot) (l m : Instrs) (ks : Lists) → take s.begin m ≡ take s.begin l → s.begin ≤ length m → Fits (s ∷ ss) l ks → Fits (s ∷ ss) m ks
fits_stay s ss l m ks e n h =
    let F : Instrs → Type 0 = λ k. Fits ss k (further s.apart ks) in
    (n, subst F (sym (lower_stays s.apart s.begin l m ks e)) h.1)

-- ---- an instruction more

pub nested_added : (s : Slot) (ss : List Slot) (l m : Instrs) (ks : Lists) (i : Instr × InstrLocId) → s.begin ≤ length l → m ≡ l ++ i ∷ [] → nested_in s ss m ks ≡ added i (nested_in s ss l ks)
nested_added s ss l m ks i n e =
    nested_stays s ss l m ks (drop s.begin l ++ i ∷ []) (ap (take s.begin) e ∙ take-append-le s.begin l (i ∷ []) n) (ap (drop s.begin) e ∙ drop-append-le s.begin l (i ∷ []) n)

pub fits_added : (s : Slot) (ss : List Slot) (l m : Instrs) (ks : Lists) (i : Instr × InstrLocId) → m ≡ l ++ i ∷ [] → Fits (s ∷ ss) l ks → Fits (s ∷ ss) m ks
fits_added s ss l m ks i e h =
    let n = h.0 in
    fits_stay s ss l m ks (ap (take s.begin) e ∙ take-append-le s.begin l (i ∷ []) n) (omega (arith, n, ap length e, length-append l (i ∷ []))) h

-- ---- they are taken

pub nested_emptied : (s : Slot) (ss : List Slot) (l m : Instrs) (ks : Lists) → s.begin ≤ length l → m ≡ take s.begin l → nested_in s ss m ks ≡ emptied (nested_in s ss l ks)
nested_emptied s ss l m ks n e =
    let b = s.begin in
    nested_stays s ss l m ks [] (ap (take b) e ∙ take-take b b l (omega arith)) (ap (drop b) e ∙ drop_all b (take b l) (omega (arith, length-take-le b l n)))

pub fits_emptied : (s : Slot) (ss : List Slot) (l m : Instrs) (ks : Lists) → m ≡ take s.begin l → Fits (s ∷ ss) l ks → Fits (s ∷ ss) m ks
fits_emptied s ss l m ks e h =
    let b = s.begin in
    let n = h.0 in
    fits_stay s ss l m ks (ap (take b) e ∙ take-take b b l (omega arith)) (omega (arith, ap length e, length-take-le b l n)) h

-- ---- one is entered

pub nested_entered : (s : Slot) (ss rs : List Slot) (l : Instrs) (ks : Lists) (b : ℕ) (f : Frame) → b ≡ length l → rs ≡ s ∷ ss → nested_in (slot b f false) rs l ks ≡ entered f (nested_in s ss l ks)
nested_entered s ss rs l ks b f e r =
    let n : length l ≤ b = omega (arith, e) in
    ap (λ (qs : List Slot). nested_in (slot b f false) qs l ks) r
    ∙ ap (λ (k : Instrs). let v : Nested = record { inner = record { frame = f; instrs = k }; outer = helds (s ∷ ss) (take b l) ks } in v) (drop_all b l n)
    ∙ ap (λ (k : Instrs). let v : Nested = record { inner = bare f; outer = helds (s ∷ ss) k ks } in v) (take_all b l n)

pub fits_entered : (s : Slot) (ss rs : List Slot) (l : Instrs) (ks : Lists) (b : ℕ) (f : Frame) → b ≡ length l → rs ≡ s ∷ ss → Fits (s ∷ ss) l ks → Fits (slot b f false ∷ rs) l ks
fits_entered s ss rs l ks b f e r h =
    let F : Instrs → Type 0 = λ k. Fits (s ∷ ss) k ks in
    let G : List Slot → Type 0 = λ qs. Fits (slot b f false ∷ qs) l ks in
    subst G (sym r) (omega (arith, e), subst F (sym (take_all b l (omega (arith, e)))) h)

-- ---- what labels name

pub ids_held : (ss : List Slot) (l : Instrs) (ks : Lists) (n : ℕ) → slice_get (seqs_of (helds ss l ks)) n ≡ option_map (λ (s : Slot). s.frame.seq) (slice_get ss n)
ids_held [] l ks n = refl
ids_held (s ∷ ss) l ks zero = refl
ids_held (s ∷ ss) l ks (suc n) = ids_held ss (lower s.apart s.begin l ks) (further s.apart ks) n

pub seq_around : (s : Slot) (ss : List Slot) (l : Instrs) (ks : Lists) (n : ℕ) → (n ≡ 0 → ⊥) → slice_get (seqs_in (nested_in s ss l ks)) n ≡ option_map (λ (s : Slot). s.frame.seq) (slice_get ss (n - 1))
seq_around s ss l ks zero h = absurd (h refl)
seq_around s ss l ks (suc n) h =
    let e : n ≡ suc n - 1 = omega arith in
    ids_held ss (lower s.apart s.begin l ks) (further s.apart ks) n ∙ ap (λ (k : ℕ). option_map (λ (s : Slot). s.frame.seq) (slice_get ss k)) e

pub held_count : (ss : List Slot) (l : Instrs) (ks : Lists) → length (helds ss l ks) ≡ length ss
held_count [] l ks = refl
held_count (s ∷ ss) l ks = ap suc (held_count ss (lower s.apart s.begin l ks) (further s.apart ks))
