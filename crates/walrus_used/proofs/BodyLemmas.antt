-- What is met of a body.
use Rattle.std.proofs.Common.{◌≡◌, ◌∙◌, ◌<◌, ℕ, zero, suc, true, false, List, [], ◌∷◌, ◌++◌, length, map, get_or, Option, Some, Contains, refl, sym, ap, subst, arith}
use Rattle.std.specs.Prelude.{slice_get}
use Rattle.std.specs.List.{fold, flat_map}
use Rattle.std.proofs.lemmas.List.{map-append}
use Rattle.std.proofs.lemmas.List.Sums.{fold-append}
use Rattle.std.proofs.lemmas.Bool.{false≢true}
use Rattle.wasm_formats.specs.declared.fault.Space.{Space}
use Rattle.wasm_formats.specs.declared.fault.Space.TheVariants as spaces
use Rattle.walrus_instr.specs.declared.instr.LegacyCatch.{LegacyCatch}
use Rattle.walrus_instr.specs.declared.seq.InstrSeq.{InstrSeq}
use Rattle.walrus_walks.specs.Tree.{handler, handlers}
use Rattle.walrus_roots.specs.declared.item.Item.{Item}
use Rattle.walrus_roots.specs.Items.{item}
use Rattle.walrus_marks.specs.Marks.{State, is_marked, meet}
use Rattle.walrus_marks.specs.Chains.{FitsIn, IsReached, Meets}
use Rattle.walrus_references.specs.References.{BodyNames, Reaches, Holds, IsEntry, held, held_in, known_items}
use Rattle.walrus_used.specs.Bodies.{SeqNames, seq_counts}
use Rattle.walrus_used.specs.Picks.{Below}
use Rattle.walrus_used.proofs.MeetsLemmas.{meets_same, below_all}

pub handlers_flat : (cs : List LegacyCatch) → map (item spaces.Label) (handlers cs) ≡ flat_map (λ c. map (item spaces.Label) (handler c)) cs
handlers_flat [] = refl
handlers_flat (c ∷ cs) = map-append (item spaces.Label) (handler c) (handlers cs) ∙ ap (λ (xs : List Item). map (item spaces.Label) (handler c) ++ xs) (handlers_flat cs)

-- these, and then those
pub both_met : (xs ys : List Item) (a b c : State) → b ≡ fold meet a xs → c ≡ fold meet b ys → c ≡ fold meet a (xs ++ ys)
both_met xs ys a b c first then = then ∙ ap (λ (s : State). fold meet s ys) first ∙ sym (fold-append meet a xs ys)

none_in : (x : Item) → Contains [] x → ⊥
none_in x c = omega (arith, c.1)

known_below : (b : List InstrSeq) (k : ℕ) (y : Item) → Contains (held (slice_get b k)) y → k < length b
known_below [] k y c = absurd (none_in y c)
known_below (s ∷ b) zero y c = omega arith
known_below (s ∷ b) (suc k) y c = (let h = known_below b k y c in omega (arith, h))

-- only a known sequence holds others
fits_in : (b : List InstrSeq) (space : Space) (k : ℕ) (y : Item) → Contains (held_in b space k) y → FitsIn (seq_counts b) (item space k)
fits_in b spaces.Label k y c = known_below b k y c
fits_in b spaces.Type k y c = absurd (none_in y c)
fits_in b spaces.Function k y c = absurd (none_in y c)
fits_in b spaces.Table k y c = absurd (none_in y c)
fits_in b spaces.Memory k y c = absurd (none_in y c)
fits_in b spaces.Tag k y c = absurd (none_in y c)
fits_in b spaces.Global k y c = absurd (none_in y c)
fits_in b spaces.Element k y c = absurd (none_in y c)
fits_in b spaces.Data k y c = absurd (none_in y c)
fits_in b spaces.Local k y c = absurd (none_in y c)

pub holders_fit : (b : List InstrSeq) (x y : Item) → Holds b x y → FitsIn (seq_counts b) x
holders_fit b x y h = fits_in b x.space x.id y h

known_in : (b : List InstrSeq) (k j : ℕ) (y : Item) → Contains (known_items j (slice_get b k)) y → k < length b
known_in [] k j y c = absurd (none_in y c)
known_in (s ∷ b) zero j y c = omega arith
known_in (s ∷ b) (suc k) j y c = (let h = known_in b k j y c in omega (arith, h))

pub get_is : {A : Type 0} (xs : List A) (n : ℕ) (x : A) → n < length xs → x ≡ get_or xs n x → slice_get xs n ≡ Some x
get_is [] n x below e = absurd (omega arith)
get_is (y ∷ xs) zero x below e = ap Some (sym e)
get_is (y ∷ xs) (suc n) x below e = get_is xs n x (omega arith) e

pub named_now : (b : List InstrSeq) (n : ℕ) (s : InstrSeq) (m c : State) → slice_get b n ≡ Some s → Reaches b n → Meets (λ y. Contains (known_items n (Some s)) y) m c → Meets (SeqNames b n) m c
named_now b n s m c at reached now = meets_same (λ y. Contains (known_items n (Some s)) y) (SeqNames b n) m c (λ y. (
  λ h. (reached, subst (λ (o : Option InstrSeq). Contains (known_items n o) y) (sym at) h),
  λ h. subst (λ (o : Option InstrSeq). Contains (known_items n o) y) at h.1,
)) now

pub all_named : (b : List InstrSeq) (a m : State) → Meets (Below (SeqNames b) (length b)) a m → Meets (BodyNames b) a m
all_named b a m before = meets_same (λ y. (k : ℕ) × SeqNames b k y) (BodyNames b) a m (λ y. (λ h. (h.0, h.1.0, h.1.1), λ h. (h.0, (h.1, h.2))))
    (below_all (SeqNames b) (length b) a m (λ k y h. known_in b k k y h.1) before)

-- whether a sequence was reached, as it was marked
pub was_reached : (b : List InstrSeq) (r : State) (n : ℕ) → IsReached (seq_counts b) IsEntry (Holds b) r → is_marked r.met.marks (item spaces.Label n) ≡ true → Reaches b n
was_reached b r n h marked = ((h.marked (item spaces.Label n)).0 marked).0

pub was_not : (b : List InstrSeq) (r : State) (n : ℕ) → n < length b → IsReached (seq_counts b) IsEntry (Holds b) r → is_marked r.met.marks (item spaces.Label n) ≡ false → Reaches b n → ⊥
was_not b r n below h unmarked reached = false≢true (sym unmarked ∙ (h.marked (item spaces.Label n)).1 (reached, below))

pub handlers_met : (cs some : List LegacyCatch) (s t : State) → some ≡ cs → t ≡ fold meet s (flat_map (λ c. map (item spaces.Label) (handler c)) some) → t ≡ fold meet s (map (item spaces.Label) (handlers cs))
handlers_met cs some s t all met = met ∙ ap (λ xs. fold meet s (flat_map (λ c. map (item spaces.Label) (handler c)) xs)) all ∙ ap (λ (xs : List Item). fold meet s xs) (sym (handlers_flat cs))
