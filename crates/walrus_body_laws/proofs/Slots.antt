-- Lemmas: what the blocks of handlers name that a tree tells.
use Rattle.std.proofs.Common.{ℕ, zero, suc, ◌≡◌, Bool, true, false, List, [], ◌∷◌, map, Some, None, refl, inl, inr}
use Rattle.std.specs.Prelude.{◌==◌, Option, IfSome, slice_get, if◌then◌else◌}
use Rattle.std.specs.List.{AllByRecursion}
use Rattle.walrus_marks.specs.walrus_instr.declared.instr.Instr.{Instr}
use Rattle.walrus_marks.specs.walrus_instr.declared.instr.Instr.TheVariants as instrs
use Rattle.walrus_marks.specs.walrus_instr.declared.instr.LegacyCatch.{LegacyCatch}
use Rattle.walrus_marks.specs.walrus_instr.declared.instr.LegacyCatch.TheVariants as legacy
use Rattle.walrus_marks.specs.walrus_instr.declared.seq.InstrLocId.{InstrLocId}
use Rattle.walrus_marks.specs.walrus_instr.declared.seq.InstrSeq.{InstrSeq}
use Rattle.walrus_marks.specs.walrus_instr.declared.seq.InstrSeqType.{InstrSeqType}
use Rattle.walrus_handler_laws.specs.walrus_tree.walrus_builder.Built.{Seq, seq_of}
use Rattle.walrus_handler_laws.specs.walrus_tree.Trees.{Has}
use Rattle.walrus_handler_laws.specs.walrus_body_steps.walrus_body_nesting.Opens.{type_at}
use Rattle.walrus_handler_laws.specs.walrus_body_steps.walrus_body_nesting.Stands.{Turn, Otherwise, Handles, HandlesAll}
use Rattle.walrus_handler_laws.specs.declared.handler.Handler.{Handler}
use Rattle.walrus_handler_laws.specs.Handlers.{Slot, all_slots, handler_in, known_handler, part_slots, seq_slots, slots, slots_in, tag_handler}
use Rattle.walrus_body_laws.specs.WalkingLaws.{TriesAre, try_type}
use Rattle.walrus_body_laws.proofs.Told.{all_join}

-- what holds of the type of each `try` holds of the block of each handler
module _ (P : InstrSeqType → Type 0) (tags : ℕ → Option ℕ) where
  abbrev pub BlockHas : Option Handler → Type 0
  BlockHas o = IfSome o (λ h. P h.block)

  abbrev SlotHas : Slot → Type 0
  SlotHas x = BlockHas x.handles

  tag_has : (o : Option ℕ) (block : InstrSeqType) → P block → BlockHas (tag_handler o block)
  tag_has (Some tag) block h = h
  tag_has None block h = tt

  turn_has : (block : Option InstrSeqType) (turn : Turn) → IfSome block P → BlockHas (known_handler tags block turn)
  turn_has (Some block) Otherwise h = tt
  turn_has (Some block) (Handles tag) h = tag_has (tags tag) block h
  turn_has (Some block) HandlesAll h = h
  turn_has None turn h = tt

  parts_have : (block : Option InstrSeqType) (cs : List LegacyCatch) → IfSome block P → AllByRecursion SlotHas (part_slots tags block cs)
  parts_have block [] h = tt
  parts_have block (legacy.Catch tag k ∷ cs) h = (turn_has block (Handles tag) h, parts_have block cs h)
  parts_have block (legacy.CatchAll k ∷ cs) h = (turn_has block HandlesAll h, parts_have block cs h)
  parts_have block (legacy.Delegate n ∷ cs) h = parts_have block cs h

  instr_has : (b : List Seq) (i : Instr) → IfSome (try_type b i) P → AllByRecursion SlotHas (slots tags b i)
  instr_has b (instrs.Block k) h = (tt, tt)
  instr_has b (instrs.Loop k) h = (tt, tt)
  instr_has b (instrs.IfElse k j) h = (tt, (tt, tt))
  instr_has b (instrs.Try k cs) h = (tt, parts_have (type_at b k) cs.items h)
  instr_has b (instrs.TryTable k cs) h = (tt, tt)
  instr_has b _ h = tt

  instrs_have : (b : List Seq) (is : List (Instr × InstrLocId)) → TriesAre b P is → AllByRecursion SlotHas (slots_in tags b is)
  instrs_have b [] h = tt
  instrs_have b (i ∷ is) h = all_join SlotHas (slots tags b i.0) (slots_in tags b is) (instr_has b i.0 h.0) (instrs_have b is h.1)

  -- in the sequences of this list
  module _ (b : List InstrSeq) where
    seq_has : (k : ℕ) (xs : List InstrSeq) → ((x : InstrSeq) → slice_get xs k ≡ Some x → TriesAre (map seq_of b) P x.instrs.items) → AllByRecursion SlotHas (seq_slots tags (map seq_of b) (slice_get (map seq_of xs) k))
    seq_has k [] h = tt
    seq_has zero (x ∷ xs) h = instrs_have (map seq_of b) x.instrs.items (h x refl)
    seq_has (suc k) (x ∷ xs) h = seq_has k xs h

    all_have : (ks : List ℕ) → ((k : ℕ) (x : InstrSeq) → Has ks k → slice_get b k ≡ Some x → TriesAre (map seq_of b) P x.instrs.items) → AllByRecursion SlotHas (all_slots tags (map seq_of b) ks)
    all_have [] h = tt
    all_have (k ∷ ks) h =
        all_join SlotHas (seq_slots tags (map seq_of b) (slice_get (map seq_of b) k)) (all_slots tags (map seq_of b) ks) (seq_has k b (λ x found. h k x (inl refl) found)) (all_have ks (λ j x has found. h j x (inr has) found))

    found_has : (xs : List Slot) (j : ℕ) → AllByRecursion SlotHas xs → BlockHas (handler_in xs j)
    found_has [] j h = tt
    found_has (x ∷ xs) j h = go (x.seq == j) (found_has xs j h.1)
      where
        go : (c : Bool) → BlockHas (handler_in xs j) → BlockHas (if c then x.handles else handler_in xs j)
        go true later = h.0
        go false later = later

    pub told_has : (ks : List ℕ) → ((k : ℕ) (x : InstrSeq) → Has ks k → slice_get b k ≡ Some x → TriesAre (map seq_of b) P x.instrs.items) → (j : ℕ) → BlockHas (handler_in (all_slots tags (map seq_of b) ks) j)
    told_has ks h j = found_has (all_slots tags (map seq_of b) ks) j (all_have ks h)
