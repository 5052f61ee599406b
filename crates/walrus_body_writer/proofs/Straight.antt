-- Frequent instructions are written straight.
use Rattle.std.proofs.Common.{ℕ, subst, ◌≡◌, List, [], ◌∷◌, ◌++◌, Option, Some, None, Ok, Err, refl, sym, ap, ◌∙◌, inl, inr, length, if◌then◌else◌}
use Rattle.std.proofs.lemmas.List.{append-nil}
use Rattle.std.specs.Prelude.{Bool, Result, true, slice_get}
use Rattle.std.specs.declared.alloc.AllocError.{AllocError}
use Rattle.std.specs.declared.alloc.Global.{Global}
use Rattle.std.specs.declared.vec.Vec.{Vec}
use Rattle.wasm_operators.specs.Items.{Access, Block, Item, Locals, Functions, Globals, Memories, Names, Space}
use Rattle.wasm_operators.specs.declared.op_code.OpCode.{OpCode}
use Rattle.wasm_operators.specs.Operators.{Seen}
use Rattle.walrus_operators.specs.Appended.{Appends, Keeps}
use Rattle.walrus_operators.specs.wasm_operators.Bytes.{code_bytes, item_bytes, operator_bytes}
use Rattle.walrus_operators.proofs.Appends.{appends_on}
use Rattle.walrus_operators.proofs.Keeps.{keeps_all, keeps_front}
use Rattle.walrus_body_text.specs.walrus_tree.walrus_walks.walrus_instr.declared.instr.Instr.{Instr}
use Rattle.walrus_body_text.specs.walrus_tree.walrus_walks.walrus_instr.declared.instr.Instr.TheVariants as instrs
use Rattle.walrus_pairing.specs.walrus_codes.walrus_instr.declared.instr.Value.{Value}
use Rattle.walrus_body_text.specs.walrus_tree.walrus_walks.walrus_instr.declared.seq.InstrLocId.{InstrLocId}
use Rattle.walrus_body_text.specs.walrus_tree.walrus_walks.walrus_instr.declared.seq.InstrSeq.{InstrSeq}
use Rattle.walrus_body_text.specs.walrus_tree.walrus_walks.walrus_instr.declared.seq.InstrSeqType.{InstrSeqType}
use Rattle.wasm_operators.specs.declared.block_type.BlockType.{BlockType}
use Rattle.walrus_body_text.specs.walrus_tree.walrus_walks.walrus_instr.walrus_forms.declared.value.ValType.{ValType}
use Rattle.walrus_pairing.specs.walrus_codes.walrus_instr.declared.memory.MemArg.{MemArg}
use Rattle.walrus_pairing.specs.walrus_codes.walrus_instr.declared.memory.LoadKind.{LoadKind}
use Rattle.walrus_pairing.specs.walrus_codes.walrus_instr.declared.memory.StoreKind.{StoreKind}
use Rattle.walrus_pairing.specs.walrus_codes.Access.{load_code, store_code}
use Rattle.walrus_pairing.specs.walrus_codes.Runs.{byte}
use Rattle.walrus_index_maps.specs.declared.space.Space.{Space as Named}
use Rattle.walrus_index_maps.specs.declared.space.Space.TheVariants as spaces
use Rattle.walrus_pairing.specs.declared.error.PairError.{PairError}
use Rattle.walrus_pairing.specs.declared.error.PairError.TheVariants as errors
use Rattle.walrus_pairing.specs.Looks.{Look, Or, ◌>>=◌, word}
use Rattle.walrus_pairing.specs.Write.{access, access_of, constant, either, lane_items, one, op, operator_at, seen_of}
use Rattle.walrus_pairing.specs.walrus_codes.Binary.{binary_code, binary_lane}
use Rattle.walrus_pairing.specs.walrus_codes.Unary.{unary_code, unary_lane}
use Rattle.walrus_body_text.specs.walrus_tree.walrus_walks.walrus_instr.declared.operators.BinaryOp.{BinaryOp}
use Rattle.walrus_body_text.specs.walrus_tree.walrus_walks.walrus_instr.declared.operators.UnaryOp.{UnaryOp}
use Rattle.walrus_body_writer.specs.declared.output.Output.{Output}
use Rattle.walrus_body_writer.specs.Appended.{IsAppended, IsBehind, named}
use Rattle.walrus_body_writer.specs.Emitting.{IsDone}
use Rattle.walrus_body_writer.specs.Outputs.{IsCut, IsEnded, IsNoted, IsSame}
use Rattle.walrus_body_writer.specs.Refusals.{Gives, IsLarge, value_in, value_of}
use Rattle.walrus_body_writer.specs.Spelled.{block, opening, type_in, written_instr}

-- ---- one operator

-- a code, and what stands behind it
pub one_item : (code : OpCode) (x : Item) (old mid new : List ℕ) (result : Result (Unit {0}) AllocError)
    → mid ≡ old ++ code_bytes code → Appends (item_bytes x) mid new result → Appends (operator_bytes (seen_of code (x ∷ []))) old new result
one_item code x old mid new result e h =
    let F : List ℕ → Type 0 = λ z. Appends z old new result in
    subst F (ap (λ (z : List ℕ). code_bytes code ++ z) (sym (append-nil (item_bytes x)))) (appends_on old mid new (code_bytes code) (item_bytes x) result e h)

pub no_item : (code : OpCode) (old new : List ℕ) (result : Result (Unit {0}) AllocError)
    → Appends (code_bytes code) old new result → Appends (operator_bytes (seen_of code [])) old new result
no_item code old new result h =
    let F : List ℕ → Type 0 = λ z. Appends z old new result in
    subst F (sym (append-nil (code_bytes code))) h

-- what has no number is refused
pub unnamed : (code : OpCode) (of : Space) (n : Option ℕ) (space : Named) (old new : Vec ℕ Global)
    → n ≡ None → space ≡ word of → new ≡ old → IsAppended ⊥ (named code of n) old new (Err (errors.Unknown space))
unnamed code of n space old new e w same =
    let F : Option ℕ → Type 0 = λ z. IsAppended ⊥ (named code of z) old new (Err (errors.Unknown space)) in
    subst F (sym e) (ap (λ (z : Named). Err (errors.Unknown z)) w, keeps_all old.items new.items (ap (λ (z : Vec ℕ Global). z.items) same))

pub is_named : (code : OpCode) (of : Space) (n : Option ℕ) (m : ℕ) (old new : Vec ℕ Global)
    → n ≡ Some m → new.items ≡ old.items ++ operator_bytes (seen_of code (Names of m ∷ [])) → IsAppended ⊥ (named code of n) old new (Ok true)
is_named code of n m old new e h =
    let F : Option ℕ → Type 0 = λ z. IsAppended ⊥ (named code of z) old new (Ok true) in
    subst F (sym e) h

pub no_memory : (look : Look) (code : OpCode) (memory : ℕ) (arg : MemArg) (old new : Vec ℕ Global)
    → look Memories memory ≡ None → new ≡ old → IsAppended ⊥ (access look code memory arg None) old new (Err (errors.Unknown spaces.Memory))
no_memory look code memory arg old new e same =
    let F : Option ℕ → Type 0 = λ z. IsAppended ⊥ (access (λ space k. z) code memory arg None) old new (Err (errors.Unknown spaces.Memory)) in
    subst F (sym e) (refl, keeps_all old.items new.items (ap (λ (z : Vec ℕ Global). z.items) same))

pub is_access : (look : Look) (code : OpCode) (memory n : ℕ) (arg : MemArg) (old new : Vec ℕ Global)
    → look Memories memory ≡ Some n → new.items ≡ old.items ++ operator_bytes (seen_of code (Access (access_of n arg) ∷ [])) → IsAppended ⊥ (access look code memory arg None) old new (Ok true)
is_access look code memory n arg old new e h =
    let F : Option ℕ → Type 0 = λ z. IsAppended ⊥ (access (λ space k. z) code memory arg None) old new (Ok true) in
    subst F (sym e) h

-- the beginning of a block: of a type that has its numbers, or none
bound : {A B : Type 0} (large : Type 0) (x : Or A) (f : A → Or B) (e : PairError) → Gives large x (Err e) → Gives large (x >>= f) (Err e)
bound large x f (errors.Unknown s) h = ap (λ z. z >>= f) h
bound large x f errors.ContinuationType h = ap (λ z. z >>= f) h
bound large x f errors.Select h = ap (λ z. z >>= f) h
bound large x f errors.Alignment h = ap (λ z. z >>= f) h
bound {A} {B} large x f errors.TypeIndex h = elim h as (λ _. Gives large (x >>= f) (Err errors.TypeIndex)) [ inl i ↦ inl i | inr i ↦ inr (ap (λ z. z >>= f) i) ]
bound large x f errors.Memory h = tt

abbrev pub begins : ℕ → BlockType → Or (Option Seen)
begins code ty = op (byte code) (Block ty ∷ [])

pub opened : (look : Look) (b : List InstrSeq) (code k : ℕ) (of : InstrSeqType) (ty : BlockType) (old new : Vec ℕ Global)
    → of ≡ type_in (slice_get b k) → Ok ty ≡ block look of → new.items ≡ old.items ++ operator_bytes (seen_of (byte code) (Block ty ∷ []))
    → IsAppended (IsLarge look (value_of (type_in (slice_get b k)))) (opening look b code k) old new (Ok true)
opened look b code k of ty old new is e h =
    let F : InstrSeqType → Type 0 = λ z. IsAppended (IsLarge look (value_of z)) (block look z >>= begins code) old new (Ok true) in
    let G : Or BlockType → Type 0 = λ z. IsAppended (IsLarge look (value_of of)) (z >>= begins code) old new (Ok true) in
    subst F is (subst G e h)

pub unopened : (look : Look) (b : List InstrSeq) (code k : ℕ) (of : InstrSeqType) (e : PairError) (old new : Vec ℕ Global)
    → of ≡ type_in (slice_get b k) → Gives (IsLarge look (value_of of)) (block look of) (Err e) → new ≡ old
    → IsAppended (IsLarge look (value_of (type_in (slice_get b k)))) (opening look b code k) old new (Err e)
unopened look b code k of e old new is h same =
    let F : InstrSeqType → Type 0 = λ z. IsAppended (IsLarge look (value_of z)) (block look z >>= begins code) old new (Err e) in
    subst F is (bound (IsLarge look (value_of of)) (block look of) (begins code) e h, keeps_all old.items new.items (ap (λ (z : Vec ℕ Global). z.items) same))

-- ---- one instruction

-- an instruction that holds no sequence, of which this is the operator
pub straight : (look : Look) (b : List InstrSeq) (number : ℕ → ℕ) (i j : Instr) (x : Or (Option Seen)) (old new : Vec ℕ Global) (r : Result Bool PairError)
    → i ≡ j → value_in b j ≡ None → written_instr look b number j ≡ x → IsAppended ⊥ x old new r → IsAppended (IsLarge look (value_in b i)) (written_instr look b number i) old new r
straight look b number i j x old new r e v w h =
    let F : Instr → Type 0 = λ z. IsAppended (IsLarge look (value_in b z)) (written_instr look b number z) old new r in
    let G : Or (Option Seen) → Type 0 = λ z. IsAppended ⊥ z old new r in
    let H : Option ValType → Type 0 = λ z. IsAppended (IsLarge look z) (written_instr look b number j) old new r in
    subst F (sym e) (subst H (sym v) (subst G (sym w) h))

-- one family alone answers
lone : (x : Or (Option Seen)) → either (either x (Ok None)) (Ok None) ≡ x
lone (Ok (Some s)) = refl
lone (Ok None) = refl
lone (Err e) = refl

module _ (look : Look) (b : List InstrSeq) (number : ℕ → ℕ) where
  pub local_get_is : (k : ℕ) → written_instr look b number (instrs.LocalGet k) ≡ one look (byte 0x20) Locals k
  unfolding operator_at
  local_get_is k = lone (one look (byte 0x20) Locals k)

  pub local_set_is : (k : ℕ) → written_instr look b number (instrs.LocalSet k) ≡ one look (byte 0x21) Locals k
  unfolding operator_at
  local_set_is k = lone (one look (byte 0x21) Locals k)

  pub local_tee_is : (k : ℕ) → written_instr look b number (instrs.LocalTee k) ≡ one look (byte 0x22) Locals k
  unfolding operator_at
  local_tee_is k = lone (one look (byte 0x22) Locals k)

  pub call_is : (k : ℕ) → written_instr look b number (instrs.Call k) ≡ one look (byte 0x10) Functions k
  unfolding operator_at
  call_is k = lone (one look (byte 0x10) Functions k)

  pub global_get_is : (k : ℕ) → written_instr look b number (instrs.GlobalGet k) ≡ one look (byte 0x23) Globals k
  unfolding operator_at
  global_get_is k = lone (one look (byte 0x23) Globals k)

  pub global_set_is : (k : ℕ) → written_instr look b number (instrs.GlobalSet k) ≡ one look (byte 0x24) Globals k
  unfolding operator_at
  global_set_is k = lone (one look (byte 0x24) Globals k)

  pub const_is : (value : Value) → written_instr look b number (instrs.Const value) ≡ constant value
  unfolding operator_at
  const_is value = lone (constant value)

  pub unop_is : (o : UnaryOp) → written_instr look b number (instrs.Unop o) ≡ op (unary_code o) (lane_items (unary_lane o))
  unfolding operator_at
  unop_is o = refl

  pub binop_is : (o : BinaryOp) → written_instr look b number (instrs.Binop o) ≡ op (binary_code o) (lane_items (binary_lane o))
  unfolding operator_at
  binop_is o = refl

  pub load_is : (memory : ℕ) (kind : LoadKind) (arg : MemArg) → written_instr look b number (instrs.Load memory kind arg) ≡ access look (load_code kind) memory arg None
  unfolding operator_at
  load_is memory kind arg = lone (access look (load_code kind) memory arg None)

  pub store_is : (memory : ℕ) (kind : StoreKind) (arg : MemArg) → written_instr look b number (instrs.Store memory kind arg) ≡ access look (store_code kind) memory arg None
  unfolding operator_at
  store_is memory kind arg = lone (access look (store_code kind) memory arg None)

-- ---- the output

abbrev pub with_bytes : Output → Vec ℕ Global → Output
with_bytes out bytes = record out { bytes = bytes }

-- what stands behind the bytes is noted
put_straight : (large : Type 0) (x : Or (Option Seen)) (place : InstrLocId) (at : ℕ) (old : Output) (mid : Vec ℕ Global) (new : Output)
    → IsBehind x old.bytes.items mid.items → at ≡ length old.bytes.items → IsNoted place at (with_bytes old mid) new → IsDone large x place old new (Ok tt)
put_straight large (Ok (Some op)) place at old mid new h e n =
    record {
      bytes = n.bytes ∙ h;
      places = n.places ∙ ap (λ (z : ℕ). if old.keeps_places then old.places.items ++ (place, z) ∷ [] else old.places.items) e;
      keeps = n.keeps;
    }
put_straight large (Ok None) place at old mid new h e n = absurd h
put_straight large (Err x) place at old mid new h e n = absurd h

behind_keeps : (x : Or (Option Seen)) (old new : List ℕ) → IsBehind x old new → Keeps old new
behind_keeps (Ok (Some op)) old new h = record { more = operator_bytes op; behind = h }
behind_keeps (Ok None) old new h = absurd h
behind_keeps (Err e) old new h = absurd h

cut_same : (at : ℕ) (old : Output) (mid : Vec ℕ Global) (new : Output)
    → Keeps old.bytes.items mid.items → at ≡ length old.bytes.items → IsCut at (with_bytes old mid) new → IsSame old new
cut_same at old mid new k e c = record { bytes = c.bytes ∙ keeps_front old.bytes.items mid.items at e k; places = c.places; keeps = c.keeps }

-- or cut off again
pub ended_straight : (large : Type 0) (x : Or (Option Seen)) (place : InstrLocId) (at : ℕ) (old : Output) (mid : Vec ℕ Global) (new : Output) (r : Result (Unit {0}) PairError)
    → IsBehind x old.bytes.items mid.items → at ≡ length old.bytes.items → IsEnded place at (with_bytes old mid) new r → IsDone large x place old new r
ended_straight large x place at old mid new (Ok u) h e n = put_straight large x place at old mid new h e n
ended_straight large x place at old mid new (Err f) h e n =
    let F : PairError → Type 0 = λ z. IsDone large x place old new (Err z) in
    subst F (sym (n.0)) (tt, cut_same at old mid new (behind_keeps x old.bytes.items mid.items h) e n.1)

pub refused_straight : (large : Type 0) (x : Or (Option Seen)) (place : InstrLocId) (at : ℕ) (old : Output) (mid : Vec ℕ Global) (new : Output) (fault : PairError)
    → Gives large x (Err fault) × Keeps old.bytes.items mid.items → at ≡ length old.bytes.items → IsCut at (with_bytes old mid) new → IsDone large x place old new (Err fault)
refused_straight large x place at old mid new fault h e c = (h.0, cut_same at old mid new h.1 e c)

-- what isn't written straight is written as any is
pub any_straight : (large : Type 0) (x : Or (Option Seen)) (place : InstrLocId) (old : Output) (mid : Vec ℕ Global) (new : Output) (r : Result (Unit {0}) PairError)
    → mid ≡ old.bytes → IsDone large x place (with_bytes old mid) new r → IsDone large x place old new r
any_straight large x place old mid new r e h =
    let F : Vec ℕ Global → Type 0 = λ z. IsDone large x place (with_bytes old z) new r in
    subst F e h
