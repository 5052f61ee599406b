-- The walk of a tree meets each sequence of it once.
use Rattle.std.proofs.Common.{ℕ, ◌≡◌, Bool, List, [], ◌∷◌, ◌++◌, map, Option, Some, None, refl, sym, ap, ◌∙◌, append_assoc}
use Rattle.std.specs.Prelude.{slice_get, All}
use Rattle.std.proofs.lemmas.List.{map-append, append-nil}
use Rattle.std.proofs.lemmas.List.Elements.{All-head, All-tail, All-cons, All-nil}
use Rattle.walrus_builder.specs.walrus_walks.walrus_instr.walrus_forms.declared.value.HeapType.{HeapType}
use Rattle.walrus_builder.specs.walrus_walks.walrus_instr.walrus_forms.declared.value.HeapType.TheVariants.{Abstract, Shared, Concrete, Exact}
use Rattle.walrus_builder.specs.walrus_walks.walrus_instr.walrus_forms.declared.value.RefType.{RefType}
use Rattle.walrus_builder.specs.walrus_walks.walrus_instr.walrus_forms.declared.value.ValType.{ValType}
use Rattle.walrus_builder.specs.walrus_walks.walrus_instr.walrus_forms.declared.value.ValType.TheVariants.{Ref}
use Rattle.walrus_builder.specs.walrus_walks.walrus_instr.declared.instr.Instr.{Instr}
use Rattle.walrus_builder.specs.walrus_walks.walrus_instr.declared.instr.Instr.TheVariants.{Try, TryTable, BrTable, BrOnCast, BrOnCastFail, Select, RefNull, RefTest, RefCast}
use Rattle.walrus_builder.specs.walrus_walks.walrus_instr.declared.instr.LegacyCatch.{LegacyCatch}
use Rattle.walrus_builder.specs.walrus_walks.walrus_instr.declared.instr.LegacyCatch.TheVariants as Legacy
use Rattle.walrus_builder.specs.walrus_walks.walrus_instr.declared.instr.TryTableCatch.{TryTableCatch}
use Rattle.walrus_builder.specs.walrus_walks.walrus_instr.declared.instr.TryTableCatch.TheVariants as Clause
use Rattle.walrus_builder.specs.walrus_walks.walrus_instr.declared.seq.InstrLocId.{InstrLocId}
use Rattle.walrus_builder.specs.walrus_walks.walrus_instr.declared.seq.InstrSeq.{InstrSeq}
use Rattle.walrus_builder.specs.walrus_walks.walrus_instr.declared.seq.InstrSeqType.{InstrSeqType}
use Rattle.walrus_builder.specs.walrus_walks.walrus_instr.declared.seq.InstrSeqType.TheVariants.{Simple, MultiValue}
use Rattle.walrus_builder.specs.walrus_walks.Tree.{children, children_in, IsNested}
use Rattle.walrus_builder.specs.walrus_walks.Events.{Event, StartOf, EndOf, NamesSeq, ref_names, val_names, written_names, block_names, legacy_names, clause_names, events_of, names}
use Rattle.walrus_builder.specs.walrus_walks.Plain.{HeldAreNested, WalkIsPlain}
use Rattle.walrus_builder.specs.walrus_walks.Walk.{of_items, walk}
use Rattle.walrus_tree.specs.Trees.{Trees, Nothing, Tree, ids, Stand}
use Rattle.walrus_tree.specs.Once.{begun, TreesAreWalkedOnce}
use Rattle.walrus_tree.proofs.Nests.{trees_are_nested}

begun_append : (es fs : List Event) → begun (es ++ fs) ≡ begun es ++ begun fs
begun_append [] fs = refl
begun_append (StartOf s ∷ es) fs = ap (λ (ss : List InstrSeq). s ∷ ss) (begun_append es fs)
begun_append (_ ∷ es) fs = begun_append es fs

-- ---- nothing begins where something is named
none_begun : {A : Type 0} (f : A → List Event) → ((x : A) → begun (f x) ≡ []) → (xs : List A) → begun (events_of f xs) ≡ []
none_begun f none [] = refl
none_begun f none (x ∷ xs) = begun_append (f x) (events_of f xs) ∙ ap (λ (ss : List InstrSeq). ss ++ begun (events_of f xs)) (none x) ∙ none_begun f none xs

heap_silent : (nullable : Bool) (h : HeapType) → begun (ref_names (record { nullable = nullable; heap_type = h })) ≡ []
heap_silent nullable (Abstract _) = refl
heap_silent nullable (Shared _) = refl
heap_silent nullable (Concrete _) = refl
heap_silent nullable (Exact _) = refl

ref_silent : (ty : RefType) → begun (ref_names ty) ≡ []
ref_silent ty = heap_silent ty.nullable ty.heap_type

val_silent : (ty : ValType) → begun (val_names ty) ≡ []
val_silent (Ref ty) = ref_silent ty
val_silent _ = refl

written_silent : (ty : Option ValType) → begun (written_names ty) ≡ []
written_silent (Some ty) = val_silent ty
written_silent None = refl

block_silent : (ty : InstrSeqType) → begun (block_names ty) ≡ []
block_silent (Simple ty) = written_silent ty
block_silent (MultiValue _) = refl

legacy_silent : (part : LegacyCatch) → begun (legacy_names part) ≡ []
legacy_silent (Legacy.Catch _ _) = refl
legacy_silent (Legacy.CatchAll _) = refl
legacy_silent (Legacy.Delegate _) = refl

clause_silent : (clause : TryTableCatch) → begun (clause_names clause) ≡ []
clause_silent (Clause.Catch _ _) = refl
clause_silent (Clause.CatchRef _ _) = refl
clause_silent (Clause.CatchAll _) = refl
clause_silent (Clause.CatchAllRef _) = refl

refs_silent : (from to : RefType) → begun (ref_names from ++ ref_names to) ≡ []
refs_silent from to = begun_append (ref_names from) (ref_names to) ∙ ap (λ (ss : List InstrSeq). ss ++ begun (ref_names to)) (ref_silent from) ∙ ref_silent to

blocks_silent : (blocks : List ℕ) (other : ℕ) → begun (events_of (λ id. NamesSeq id ∷ []) blocks ++ NamesSeq other ∷ []) ≡ []
blocks_silent [] other = refl
blocks_silent (block ∷ blocks) other = blocks_silent blocks other

silent : (i : Instr) → begun (names i) ≡ []
silent (Try _ catches) = none_begun legacy_names legacy_silent catches.items
silent (TryTable _ catches) = none_begun clause_names clause_silent catches.items
silent (BrTable other blocks) = blocks_silent blocks.items other
silent (BrOnCast block from to) = refs_silent from to
silent (BrOnCastFail block from to) = refs_silent from to
silent (Select ty) = written_silent ty
silent (RefNull ty) = ref_silent ty
silent (RefTest ty) = ref_silent ty
silent (RefCast ty) = ref_silent ty
silent _ = refl

-- ---- what begins in instructions begins in what they hold
events_append : (w : ℕ → List Event) (js ks : List ℕ) → events_of w (js ++ ks) ≡ events_of w js ++ events_of w ks
events_append w [] ks = refl
events_append w (j ∷ js) ks = ap (λ (es : List Event). w j ++ es) (events_append w js ks) ∙ sym (append_assoc (w j) (events_of w js) (events_of w ks))

items_begun : (w : ℕ → List Event) (is : List (Instr × InstrLocId)) → begun (of_items w is) ≡ begun (events_of w (children_in is))
items_begun w [] = refl
items_begun w (i ∷ is) =
    let held = events_of w (children i.0) in
    begun_append (names i.0) (held ++ of_items w is)
    ∙ ap (λ (ss : List InstrSeq). ss ++ begun (held ++ of_items w is)) (silent i.0)
    ∙ begun_append held (of_items w is)
    ∙ ap (λ (ss : List InstrSeq). begun held ++ ss) (items_begun w is)
    ∙ sym (begun_append held (events_of w (children_in is)))
    ∙ ap begun (sym (events_append w (children i.0) (children_in is)))

seq_begun : WalkIsPlain → (b : List InstrSeq) (k : ℕ) (s : InstrSeq) → IsNested b k → slice_get b k ≡ Some s → begun (walk b k) ≡ s ∷ begun (events_of (walk b) (children_in s.instrs.items))
seq_begun plain b k s n e =
    let items = of_items (walk b) s.instrs.items in
    ap begun (plain b k s n e)
    ∙ ap (λ (ss : List InstrSeq). s ∷ ss)
    (begun_append (block_names s.ty) (items ++ EndOf s ∷ [])
    ∙ ap (λ (ss : List InstrSeq). ss ++ begun (items ++ EndOf s ∷ [])) (block_silent s.ty)
    ∙ begun_append items (EndOf s ∷ [])
    ∙ append-nil (begun items)
    ∙ items_begun (walk b) s.instrs.items)

module _ (plain : WalkIsPlain) (held : HeldAreNested) (b : List InstrSeq) where
  stand_begun : (ts : Trees) (around ks : List ℕ) → Stand b ts around ks → All (IsNested b) ks → map Some (begun (events_of (walk b) ks)) ≡ map (slice_get b) (ids ts)
  stand_begun Nothing around [] h n = refl
  stand_begun Nothing around (k ∷ ks) h n = absurd h
  stand_begun (Tree id inside beside) around [] h n = absurd h
  stand_begun (Tree id inside beside) around (k ∷ ks) h n =
      let s = h.1 in
      let nested = All-head (IsNested b) k ks n in
      let within = begun (events_of (walk b) (children_in s.instrs.items)) in
      let after = begun (events_of (walk b) ks) in
      let e = stand_begun inside (k ∷ around) (children_in s.instrs.items) h.4 (held b k s nested h.2) in
      let f = stand_begun beside around ks h.5 (All-tail (IsNested b) k ks n) in
      ap (map Some) (begun_append (walk b k) (events_of (walk b) ks) ∙ ap (λ (ss : List InstrSeq). ss ++ after) (seq_begun plain b k s nested h.2))
      ∙ ap (λ (os : List (Option InstrSeq)). Some s ∷ os) (map-append Some within after)
      ∙ ap (λ (os : List (Option InstrSeq)). Some s ∷ (os ++ map Some after)) e
      ∙ ap (λ (os : List (Option InstrSeq)). Some s ∷ (map (slice_get b) (ids inside) ++ os)) f
      ∙ ap (λ (o : Option InstrSeq). o ∷ (map (slice_get b) (ids inside) ++ map (slice_get b) (ids beside))) (sym h.2 ∙ ap (slice_get b) (sym h.0))
      ∙ ap (λ (os : List (Option InstrSeq)). slice_get b id ∷ os) (sym (map-append (slice_get b) (ids inside) (ids beside)))

pub trees_are_walked_once : WalkIsPlain → HeldAreNested → TreesAreWalkedOnce
trees_are_walked_once plain held b entry t =
    let n = All-cons (IsNested b) entry [] (trees_are_nested b entry t) (All-nil (IsNested b)) in
    ap (λ (es : List Event). map Some (begun es)) (sym (append-nil (walk b entry)))
    ∙ stand_begun plain held b (Tree entry t.inside Nothing) [] (entry ∷ []) t.stands n
