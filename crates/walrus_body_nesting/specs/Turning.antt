-- Lemmas: an operator that begins a further part of a block, over what open sequences grow into.
use Rattle.std.proofs.Common.{ℕ, ◌<◌, ◌≤◌, ◌≡◌, Bool, false, List, [], ◌∷◌, ◌++◌, length, Option, refl, sym, ap, subst, arith, ◌∙◌, append-nil}
use Rattle.std.proofs.lemmas.List.{append_assoc}
use Rattle.walrus_body_env.specs.walrus_instr.declared.instr.Instr.{Instr}
use Rattle.walrus_body_env.specs.walrus_instr.declared.seq.InstrLocId.{InstrLocId}
use Rattle.walrus_body_env.specs.walrus_instr.declared.seq.InstrSeqType.{InstrSeqType}
use Rattle.walrus_builder.specs.Built.{Seq, edited, filled_with, empty_seq}
use Rattle.wasm_body_grammar.specs.wasm_operators.Operators.{Seen}
use Rattle.wasm_body_grammar.specs.Frames.{Frame}
use Rattle.wasm_normal_form.specs.Roles.{Turns}
use Rattle.wasm_normal_form.specs.Trees.{Tree, Arm, prepend}
use Rattle.walrus_body_nesting.specs.declared.frames.Reach.{Reach}
use Rattle.walrus_body_nesting.specs.declared.frames.Reach.TheVariants.{Live, Cut, Dropped}
use Rattle.walrus_body_nesting.specs.Stands.{Turn, Part, part, Meaning, place_in, with, lies, Enters}
use Rattle.walrus_body_nesting.specs.Opens.{Open, is_bare, ids_of, Falling, Grower, kept, joined, joins, up, grown, reach_on, turned_to, Later, nothing, IsSized, Grows, Unless, before_of, weight_in, Reads}
use Rattle.walrus_body_nesting.specs.Seqs.{length_edited, length_begun, later_begun, later_filled, filled_later, last_type, fresh_begun}
use Rattle.walrus_body_nesting.specs.Sizes.{hold_turned}
use Rattle.walrus_body_nesting.specs.Grown.{unless_map, sound_on}

abbrev turn_grower : ℕ → Seen → Option ℕ → Grower → Grower
turn_grower n op p c = record { grow = λ t. c.grow (Arm op p t); met = with n c.met; by = c.by }

turn_sized : (op : Seen) (p : Option ℕ) (grow : Tree → Tree) → IsSized grow → IsSized (λ t. grow (Arm op p t))
turn_sized op p grow h t = let a = h (Arm op p t) in let b = h (Arm op p nothing) in omega (arith, a, b)

turn_weight : (r : Reach) (n : ℕ) (op : Seen) (p : Option ℕ) (c : Grower) → Unless r (IsSized c.grow) → weight_in (reach_on r) (turn_grower n op p c) ≡ weight_in r c
turn_weight Live n op p c h = let a = h (Arm op p nothing) in omega (arith, a)
turn_weight Cut n op p c h = let a = h (Arm op p nothing) in omega (arith, a)
turn_weight Dropped n op p c h = refl

turn_grows : (m : Meaning) (b : List Seq) (ty : InstrSeqType) (ids around : List ℕ) (o : Open) (turn : Turn) (kind : Frame) (op : Seen) (e : InstrLocId) (before : ℕ → Bool) (c : Grower)
    → o.seq < length b → Falling o.seq ids → m.turns o.ty op turn ty
    → Grows m b (o.seq ∷ ids) around o before c
    → Grows m (edited (filled_with o.instrs e) b o.seq ++ empty_seq (length (edited (filled_with o.instrs e) b o.seq)) ty ∷ []) (length (edited (filled_with o.instrs e) b o.seq) ∷ ids) around
    (turned_to turn (length (edited (filled_with o.instrs e) b o.seq)) kind o) before (turn_grower (length (edited (filled_with o.instrs e) b o.seq)) op (place_in e) c)
turn_grows m b ty ids around o turn kind op e before c l fa turns g =
    let b1 = edited (filled_with o.instrs e) b o.seq in
    let n = length b1 in
    let x = empty_seq n ty in
    let same : n ≡ length b = length_edited (filled_with o.instrs e) b o.seq in
    let fresh : (j : ℕ) → n ≤ j → c.met j ≡ false = λ j k. g.fresh j (omega (arith, k, same)) in
    record {
      grows = λ later h s more found items ms f t done lie.
          let h1 : Later b1 ids later = later_begun b1 x ids later h in
          let at = filled_later b o.instrs e o.seq ids later l fa h1 in
          let F : List (Instr × InstrLocId) → Type 0 = λ is. lies m t later around n o.ty (with n c.met) is s.end ms f done in
          let T : List Part → Type 0 = λ us. Enters m later around o.first o.ty before us f (c.grow (Arm op (place_in e) t)) done in
          let Y : InstrSeqType → Type 0 = λ own. m.turns o.ty op turn own in
          subst T (sym (append_assoc o.turns (part turn n ∷ []) ms))
          (g.grows later (later_filled o.instrs e b o.seq ids later h1) at.0 [] at.1 (at.2 ∙ sym (append-nil o.instrs)) (part turn n ∷ ms) f (Arm op (place_in e) t) done
          (ap place_in (sym at.3), fresh n (omega arith), s, found, subst Y (sym (last_type b1 x (n ∷ ids) later s h found)) turns, subst F (sym items) lie));
      fresh = fresh_begun b1 x c.met fresh;
      begun = g.begun;
      sized = turn_sized op (place_in e) c.grow g.sized;
    }

-- where the block isn't reached, nothing is claimed of its parts
turned_in : (r : Reach) (A B C : Type 0) → Unless (reach_on r) A → (A → B → C) → Unless r B → Unless (reach_on r) C
turned_in Live A B C x f h = f x h
turned_in Cut A B C x f h = f x h
turned_in Dropped A B C x f h = tt

kept_turn : (r : Reach) (g : Tree → Tree) (w : Bool) (op : Seen) (p : Option ℕ) (t : Tree) → kept (reach_on r) (λ v. g (Arm op p v)) false t ≡ kept r g w (Arm op p t)
kept_turn Live g w op p t = refl
kept_turn Cut g w op p t = refl
kept_turn Dropped g w op p t = refl

joined_turn : (r : Reach) (by : Seen) (p : Option ℕ) → joined (reach_on r) by p ≡ joined r by p
joined_turn Live by p = refl
joined_turn Cut by p = refl
joined_turn Dropped by p = refl

grown_turn : (n : ℕ) (turn : Turn) (kind : Frame) (op : Seen) (p : Option ℕ) (o : Open) (os : List Open) (c : Grower) (cs : List Grower) (ts : List Tree) → is_bare kind ≡ false
    → grown (turned_to turn n kind o ∷ os) (turn_grower n op p c ∷ cs) ts ≡ grown (o ∷ os) (c ∷ cs) (prepend Turns op p ts)
grown_turn n turn kind op p o os c cs [] e = refl
grown_turn n turn kind op p o os c cs (t ∷ ts) e =
    ap (λ (w : Bool). up os (kept (reach_on o.reach) (λ v. c.grow (Arm op p v)) w t) (joins (turned_to turn n kind o) c) cs ts) e
    ∙ ap (λ (v : Tree). up os v (joins (turned_to turn n kind o) c) cs ts) (kept_turn o.reach c.grow (is_bare o.kind) op p t)
    ∙ ap (λ (j : Tree → (Tree → Tree) → Tree → Tree). up os (kept o.reach c.grow (is_bare o.kind) (Arm op p t)) j cs ts) (joined_turn o.reach c.by (place_in o.place))

pub turn_reads : (m : Meaning) (b : List Seq) (ty : InstrSeqType) (o : Open) (os : List Open) (turn : Turn) (kind : Frame) (op : Seen) (e : InstrLocId) (ts : List Tree) (w : Tree)
    → Falling (length b) (o.seq ∷ ids_of os) → is_bare kind ≡ false → Unless (reach_on o.reach) (m.turns o.ty op turn ty)
    → Reads m false b (o ∷ os) (prepend Turns op (place_in e) ts) w
    → Reads m false (edited (filled_with o.instrs e) b o.seq ++ empty_seq (length (edited (filled_with o.instrs e) b o.seq)) ty ∷ [])
    (turned_to turn (length (edited (filled_with o.instrs e) b o.seq)) kind o ∷ os) ts w
turn_reads m b ty o os turn kind op e ts w fa bare x ([], a, r, h) = absurd a
turn_reads m b ty o os turn kind op e ts w fa bare x (c ∷ cs, a, r, h) =
    let b1 = edited (filled_with o.instrs e) b o.seq in
    let s = empty_seq (length b1) ty in (
      turn_grower (length b1) op (place_in e) c ∷ cs,
      (
        turned_in o.reach _ _ _ x (turn_grows m b ty (ids_of os) (ids_of os) o turn kind op e (before_of cs) c fa.0 fa.1) a.0,
        sound_on m os b (b1 ++ s ∷ []) (o.seq ∷ ids_of os) (length b1 ∷ ids_of os) cs
            (λ later h. later_filled o.instrs e b o.seq (ids_of os) later (later_begun b1 s (ids_of os) later h)) (omega (arith, length_begun b1 s, length_edited (filled_with o.instrs e) b o.seq)) a.1,
      ),
      grown_turn (length b1) turn kind op (place_in e) o os c cs ts bare ∙ r,
      hold_turned b ty o os c _ cs turn kind e fa (turn_weight o.reach (length b1) op (place_in e) c (unless_map o.reach _ _ (λ g. g.sized) a.0)) h,
    )
