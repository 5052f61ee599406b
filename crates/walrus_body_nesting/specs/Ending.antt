-- Lemmas: an operator that ends a block, or the body, over what open sequences grow into.
use Rattle.std.proofs.Common.{ℕ, ◌+◌, ◌<◌, ◌≤◌, ◌≡◌, Bool, true, false, List, [], ◌∷◌, ◌++◌, length, Option, Some, None, refl, sym, ap, subst, arith, ◌∙◌, append-nil}
use Rattle.std.specs.Prelude.{slice_get}
use Rattle.std.proofs.lemmas.List.{append_assoc}
use Rattle.walrus_body_env.specs.walrus_instr.declared.instr.Instr.{Instr}
use Rattle.walrus_body_env.specs.walrus_instr.declared.seq.InstrLocId.{InstrLocId}
use Rattle.walrus_body_env.specs.walrus_instr.declared.seq.InstrSeqType.{InstrSeqType}
use Rattle.walrus_builder.specs.Built.{Seq, edited, filled_with, empty_seq}
use Rattle.wasm_body_grammar.specs.wasm_operators.Operators.{Seen}
use Rattle.wasm_body_grammar.specs.wasm_operators.Table.{structure_rows}
use Rattle.wasm_normal_form.specs.Roles.{Ends, else_op, end_op}
use Rattle.wasm_normal_form.specs.Trees.{Tree, Close, Arm, Nest, prepend, innermost}
use Rattle.wasm_normal_form.specs.Normal.{picked, end_place, closed, normal_from}
use Rattle.walrus_body_nesting.specs.declared.frames.Reach.{Reach}
use Rattle.walrus_body_nesting.specs.declared.frames.Reach.TheVariants.{Live, Cut, Dropped}
use Rattle.walrus_body_nesting.specs.Stands.{Otherwise, Part, part, Finish, Ended, block, Meaning, place_in, with, none, lies, Enters, StandsAs, total, tree_size}
use Rattle.walrus_body_nesting.specs.Opens.{Open, is_bare, ids_of, Falling, same, Grower, kept, joined, joins, grown, Later, IsBegun, Makes, nothing, IsSized, Grows, Unless, before_of, IsReached, IsBody, weight, instrs_at, AreBare, Reads, type_at}
use Rattle.walrus_body_nesting.specs.Seqs.{get_last, length_edited, length_begun, falling_up, away_past, later_added, later_filled, later_now, filled_later, found_type, type_of_found, with_met, fresh_begun}
use Rattle.walrus_body_nesting.specs.Sizes.{total_begun, total_filled, bare_begun, bare_filled, Keeps, hold_nested, hold_left, hold_ended, hold_start}
use Rattle.walrus_body_nesting.specs.Grown.{unless_map, sound_on}

-- once the block is closed, its sequences stand later
pub record Closes (m : Meaning) (b c : List Seq) (ids around : List ℕ) (o : Open) (before : ℕ → Bool) (ms : List Part) (f : Finish) (u : Tree) : Type 0 where
  pub met : ℕ → Bool
  pub enters : (later : List Seq) → Later c ids later → Enters m later around o.first o.ty before ms f u met
  pub fresh : (j : ℕ) → length c ≤ j → met j ≡ false

-- what ends it, at the place that it carries
pub record IsEnd (m : Meaning) (op : Seen) (p : Option ℕ) (f : Finish) (e : InstrLocId) : Type 0 where
  pub ends : m.ends op f
  pub place : place_in e ≡ end_place op p

plain_closes : (m : Meaning) (b : List Seq) (ids around : List ℕ) (o : Open) (op : Seen) (p : Option ℕ) (f : Finish) (e : InstrLocId) (before : ℕ → Bool) (c : Grower)
    → IsEnd m op p f e → o.seq < length b → Falling o.seq ids → Grows m b (o.seq ∷ ids) around o before c
    → Closes m b (edited (filled_with o.instrs e) b o.seq) ids around o before o.turns f (c.grow (Close op (end_place op p)))
plain_closes m b ids around o op p f e before c k l fa g = record {
  met = c.met;
  enters = λ later h.
      let at = filled_later b o.instrs e o.seq ids later l fa h in
      let T : List Part → Type 0 = λ us. Enters m later around o.first o.ty before us f (c.grow (Close op (end_place op p))) c.met in
      subst T (append-nil o.turns)
      (g.grows later (later_filled o.instrs e b o.seq ids later h) at.0 [] at.1 (at.2 ∙ sym (append-nil o.instrs)) [] f (Close op (end_place op p)) c.met
      (k.ends, sym k.place ∙ ap place_in (sym at.3), refl));
  fresh = λ j n. g.fresh j (omega (arith, n, length_edited (filled_with o.instrs e) b o.seq));
}

-- an `end` that stands for an `else` too
pub record IsBareEnd (m : Meaning) (ty : InstrSeqType) (p : Option ℕ) (e : InstrLocId) : Type 0 where
  pub turns : m.turns ty else_op Otherwise ty
  pub ends : m.ends end_op Ended
  pub place : place_in e ≡ p

bare_closes : (m : Meaning) (b : List Seq) (ids around : List ℕ) (o : Open) (p : Option ℕ) (e : InstrLocId) (before : ℕ → Bool) (c : Grower)
    → IsBareEnd m o.ty p e → o.seq < length b → Falling (length b) ids → Falling o.seq ids → Grows m b (o.seq ∷ ids) around o before c
    → Closes m b (edited (filled_with o.instrs e) b o.seq ++ empty_seq (length (edited (filled_with o.instrs e) b o.seq)) o.ty ∷ []) ids around o before
    (o.turns ++ part Otherwise (length (edited (filled_with o.instrs e) b o.seq)) ∷ []) Ended (c.grow (Arm else_op p (Close end_op None)))
bare_closes m b ids around o p e before c k l fb fa g =
    let f = filled_with o.instrs e in
    let b1 = edited f b o.seq in
    let n = length b1 in
    let x = empty_seq n o.ty in
    let known : n ≡ length b = length_edited f b o.seq in
    let fresh : (j : ℕ) → n ≤ j → c.met j ≡ false = λ j i. g.fresh j (omega (arith, i, known)) in
    let F : ℕ → Type 0 = λ i. Falling i ids in
    let away = away_past n ids (subst F (sym known) fb) in
    record {
      met = with n c.met;
      enters = λ later h.
          let h1 : Later b1 ids later = later_added b1 x ids later h in
          let at = filled_later b o.instrs e o.seq ids later l fa h1 in
          g.grows later (later_filled o.instrs e b o.seq ids later h1) at.0 [] at.1 (at.2 ∙ sym (append-nil o.instrs)) (part Otherwise n ∷ []) Ended (Arm else_op p (Close end_op None)) (with n c.met)
          (sym k.place ∙ ap place_in (sym at.3), fresh n (omega arith), x, h.closed n (omega (arith, length_begun b1 x)) away ∙ get_last b1 x, k.turns, (k.ends, refl, refl));
      fresh = fresh_begun b1 x c.met fresh;
    }

abbrev nest_grower : Seen → Option ℕ → Tree → (ℕ → Bool) → Grower → Grower
nest_grower by p u met c = record { grow = λ t. c.grow (Nest (picked same by) p u t); met = met; by = c.by }

nest_sized : (by : Seen) (p : Option ℕ) (u : Tree) (grow : Tree → Tree) → IsSized grow → IsSized (λ t. grow (Nest (picked same by) p u t))
nest_sized by p u grow h t = let a = h (Nest (picked same by) p u t) in let b = h (Nest (picked same by) p u nothing) in omega (arith, a, b)

closed_size : (w : Bool) (op : Seen) (p : Option ℕ) → tree_size (closed w op p) ≡ 0
closed_size true op p = refl
closed_size false op p = refl

-- what is made of a block that ends
nest_weight : (by op : Seen) (p q : Option ℕ) (w : Bool) (met : ℕ → Bool) (x y : Grower) → IsSized x.grow → IsSized y.grow → weight (nest_grower by p (x.grow (closed w op q)) met y) ≡ weight y + weight x + 1
nest_weight by op p q w met x y h k =
    let u = x.grow (closed w op q) in
    let a = k (Nest (picked same by) p u nothing) in
    let b = h (closed w op q) in
    let z = closed_size w op q in
    omega (arith, a, b, z)

nest_grows : (m : Meaning) (b c : List Seq) (all ids around : List ℕ) (o o' : Open) (before : ℕ → Bool) (y x : Grower) (i : Instr) (ms : List Part) (f : Finish) (u : Tree)
    → ((l : List Seq) → Later c ids l → Later b all l)
    → (z : Closes m b c ids (o'.seq ∷ around) o x.met ms f u) → IsBegun m (o'.seq ∷ around) o.opener o.ty y.by → Makes o.opener i (block o.first ms f)
    → Grows m b all around o' before x
    → Grows m c ids around (record o' { instrs = o'.instrs ++ (i, o.place) ∷ [] }) before (nest_grower y.by (place_in o.place) u z.met x)
nest_grows m b c all ids around o o' before y x i ms f u weak z begun made g = record {
  grows = λ later h s more found items ns k t done lie.
      let v = z.enters later h in
      let T : InstrSeqType → Type 0 = λ ty. m.opens (picked same y.by) ty in
      let U : InstrSeqType → Type 0 = λ ty. lies m u later (o'.seq ∷ around) o.first ty (with o.first x.met) v.seq.instrs v.seq.end ms f z.met in
      g.grows later (weak later h) s ((i, o.place) ∷ more) found (items ∙ append_assoc o'.instrs ((i, o.place) ∷ []) more) ns k (Nest (picked same y.by) (place_in o.place) u t) done
      (block o.first ms f, begun.nests i (block o.first ms f) made, refl, v.fresh, v.seq, v.found, subst T (sym v.typed) begun.opens, z.met, subst U (sym v.typed) v.lie, lie);
  fresh = z.fresh;
  begun = g.begun;
  sized = nest_sized y.by (place_in o.place) u x.grow g.sized;
}

-- how an operator closes the innermost sequence's block
pub record Closing (m : Meaning) (b c : List Seq) (ids : List ℕ) (o : Open) (op : Seen) (p : Option ℕ) (ms : List Part) (f : Finish) : Type 0 where
  pub weak : (l : List Seq) → Later c ids l → Later b (o.seq ∷ ids) l
  pub more : length b ≤ length c
  pub keeps : instrs_at b o.seq ≡ [] → AreBare b ids → Keeps b c o ids
  pub closes : (before : ℕ → Bool) (x : Grower) → Grows m b (o.seq ∷ ids) ids o before x → Closes m b c ids ids o before ms f (x.grow (closed (is_bare o.kind) op p))

joined_reached : (r : Reach) (by : Seen) (q : Option ℕ) (w : Bool) (op : Seen) (p : Option ℕ) (k g : Tree → Tree) → IsReached r
    → joined r by q (kept r k w (Close op p)) g ≡ (λ t. g (Nest (picked same by) q (k (closed w op p)) t))
joined_reached Live by q w op p k g n = refl
joined_reached Cut by q w op p k g n = refl
joined_reached Dropped by q w op p k g n = absurd n

joined_dropped : (r : Reach) (by : Seen) (q : Option ℕ) (u : Tree) (g : Tree → Tree) → r ≡ Dropped → joined r by q u g ≡ g
joined_dropped r by q u g e = ap (λ (d : Reach). joined d by q u g) e

-- what the rest of the sequence around it grows into
outer_joined : (o' : Open) (os : List Open) (j k : Tree → Tree) (y : Grower) (cs : List Grower) (ts : List Tree) → j ≡ k
    → grown (o' ∷ os) (record y { grow = k } ∷ cs) ts ≡ grown (o' ∷ os) (record y { grow = j } ∷ cs) ts
outer_joined o' os j k y cs ts e = ap (λ (g : Tree → Tree). grown (o' ∷ os) (record y { grow = g } ∷ cs) ts) (sym e)

grown_end : (o o' : Open) (os : List Open) (x y : Grower) (cs : List Grower) (op : Seen) (p : Option ℕ) (ts : List Tree)
    → grown (o ∷ (o' ∷ os)) (x ∷ (y ∷ cs)) (prepend Ends op p ts) ≡ grown (o' ∷ os) (record y { grow = joins o x (kept o.reach x.grow (is_bare o.kind) (Close op p)) y.grow } ∷ cs) ts
grown_end o o' os x y cs op p [] = refl
grown_end o o' os x y cs op p (t ∷ ts) = refl

grown_met : (o' : Open) (is : List (Instr × InstrLocId)) (os : List Open) (y : Grower) (k : Tree → Tree) (n : ℕ → Bool) (cs : List Grower) (ts : List Tree)
    → grown (record o' { instrs = is } ∷ os) (record y { grow = k; met = n } ∷ cs) ts ≡ grown (o' ∷ os) (record y { grow = k } ∷ cs) ts
grown_met o' is os y k n cs [] = refl
grown_met o' is os y k n cs (t ∷ ts) = refl

pub unless_reached : (r : Reach) (A : Type 0) → IsReached r → Unless r A → A
unless_reached Live A n h = h
unless_reached Cut A n h = h
unless_reached Dropped A n h = absurd n

-- the end of a block that was reached
pub end_reads : (m : Meaning) (b c : List Seq) (o o' : Open) (os : List Open) (i : Instr) (op : Seen) (p : Option ℕ) (ms : List Part) (f : Finish) (ts : List Tree) (w : Tree)
    → Closing m b c (ids_of (o' ∷ os)) o op p ms f → Makes o.opener i (block o.first ms f) → IsReached o.reach
    → Reads m false b (o ∷ (o' ∷ os)) (prepend Ends op p ts) w
    → Reads m false c (record o' { instrs = o'.instrs ++ (i, o.place) ∷ [] } ∷ os) ts w
end_reads m b c o o' os i op p ms f ts w h made n ([], a, r, k) = absurd a
end_reads m b c o o' os i op p ms f ts w h made n (x ∷ [], a, r, k) = absurd a.1
end_reads m b c o o' os i op p ms f ts w h made n (x ∷ (y ∷ cs), a, r, holds) =
    let ids = ids_of (o' ∷ os) in
    let g = unless_reached o.reach _ n a.0 in
    let z = h.closes y.met x g in
    let u = x.grow (closed (is_bare o.kind) op p) in
    let k : Tree → Tree = λ t. y.grow (Nest (picked same x.by) (place_in o.place) u t) in (
      nest_grower x.by (place_in o.place) u z.met y ∷ cs,
      (
        unless_map o'.reach _ _ (nest_grows m b c (o.seq ∷ ids) ids (ids_of os) o o' (before_of cs) x y i ms f u h.weak z g.begun made) a.1.0,
        sound_on m os b c (o.seq ∷ ids) ids cs h.weak h.more a.1.1,
      ),
      grown_met o' (o'.instrs ++ (i, o.place) ∷ []) os y k z.met cs ts
          ∙ outer_joined o' os (joins o x (kept o.reach x.grow (is_bare o.kind) (Close op p)) y.grow) k y cs ts (joined_reached o.reach x.by (place_in o.place) (is_bare o.kind) op p x.grow y.grow n)
          ∙ sym (grown_end o o' os x y cs op p ts) ∙ r,
      (
          let outer = unless_reached o'.reach _ (holds.around.1.0 n) a.1.0 in
          hold_nested b c o o' os x y _ cs (i, o.place) n (nest_weight x.by op (place_in o.place) p (is_bare o.kind) z.met x y g.sized outer.sized) (h.keeps holds.bare.0 holds.bare.1) holds
          ),
    )

-- the end of a block that wasn't
pub end_dropped : (m : Meaning) (b c : List Seq) (o o' : Open) (os : List Open) (op : Seen) (p : Option ℕ) (ts : List Tree) (w : Tree)
    → ((l : List Seq) → Later c (ids_of (o' ∷ os)) l → Later b (o.seq ∷ ids_of (o' ∷ os)) l) → length b ≤ length c
    → (instrs_at b o.seq ≡ [] → AreBare b (ids_of (o' ∷ os)) → Keeps b c o (ids_of (o' ∷ os))) → o.reach ≡ Dropped
    → Reads m false b (o ∷ (o' ∷ os)) (prepend Ends op p ts) w → Reads m false c (o' ∷ os) ts w
end_dropped m b c o o' os op p ts w weak more keeps e ([], a, r, h) = absurd a
end_dropped m b c o o' os op p ts w weak more keeps e (x ∷ [], a, r, h) = absurd a.1
end_dropped m b c o o' os op p ts w weak more keeps e (x ∷ (y ∷ cs), a, r, h) = (
  y ∷ cs,
  sound_on m (o' ∷ os) b c (o.seq ∷ ids_of (o' ∷ os)) (ids_of (o' ∷ os)) (y ∷ cs) weak more a.1,
  outer_joined o' os (joins o x (kept o.reach x.grow (is_bare o.kind) (Close op p)) y.grow) y.grow y cs ts (joined_dropped o.reach x.by (place_in o.place) _ y.grow e)
      ∙ sym (grown_end o o' os x y cs op p ts) ∙ r,
  hold_left b c o o' os x y cs e (keeps h.bare.0 h.bare.1) h,
)

pub plain_closing : (m : Meaning) (b : List Seq) (ids : List ℕ) (o : Open) (op : Seen) (p : Option ℕ) (f : Finish) (e : InstrLocId) → IsEnd m op p f e → Falling (length b) (o.seq ∷ ids) → is_bare o.kind ≡ false
    → Closing m b (edited (filled_with o.instrs e) b o.seq) ids o op p o.turns f
plain_closing m b ids o op p f e k fa bare = record {
  weak = later_filled o.instrs e b o.seq ids;
  more = omega (arith, length_edited (filled_with o.instrs e) b o.seq);
  keeps = λ own others. record { bare = bare_filled o.instrs e b o.seq ids fa.1 others; total_is = total_filled o.instrs e b o.seq fa.0 own };
  closes = λ before x g.
      let T : Bool → Type 0 = λ w. Closes m b (edited (filled_with o.instrs e) b o.seq) ids ids o before o.turns f (x.grow (closed w op p)) in
      subst T (sym bare) (plain_closes m b ids ids o op p f e before x k fa.0 fa.1 g);
}

pub bare_closing : (m : Meaning) (b : List Seq) (ids : List ℕ) (o : Open) (op : Seen) (p : Option ℕ) (e : InstrLocId) → IsBareEnd m o.ty p e → Falling (length b) (o.seq ∷ ids) → is_bare o.kind ≡ true
    → Closing m b (edited (filled_with o.instrs e) b o.seq ++ empty_seq (length (edited (filled_with o.instrs e) b o.seq)) o.ty ∷ []) ids o op p
    (o.turns ++ part Otherwise (length (edited (filled_with o.instrs e) b o.seq)) ∷ []) Ended
bare_closing m b ids o op p e k fa bare =
    let f = filled_with o.instrs e in
    let b1 = edited f b o.seq in
    let x = empty_seq (length b1) o.ty in
    record {
      weak = λ l h. later_filled o.instrs e b o.seq ids l (later_added b1 x ids l h);
      more = omega (arith, length_edited f b o.seq, length_begun b1 x);
      keeps = λ own others. record {
        bare = bare_begun b1 (length b1) o.ty ids (bare_filled o.instrs e b o.seq ids fa.1 others);
        total_is = total_begun b1 (length b1) o.ty ∙ total_filled o.instrs e b o.seq fa.0 own;
      };
      closes = λ before y g.
          let T : Bool → Type 0 = λ w. Closes m b (b1 ++ x ∷ []) ids ids o before (o.turns ++ part Otherwise (length b1) ∷ []) Ended (y.grow (closed w op p)) in
          subst T (sym bare) (bare_closes m b ids ids o p e before y k fa.0 (falling_up o.seq (length b) ids (let q = fa.0 in omega (arith, q)) fa.1) fa.1 g);
    }

-- ---- the body's own end

kept_reached : (r : Reach) (g : Tree → Tree) (w : Bool) (op : Seen) (p : Option ℕ) → IsReached r → kept r g w (Close op p) ≡ g (closed w op p)
kept_reached Live g w op p n = refl
kept_reached Cut g w op p n = refl
kept_reached Dropped g w op p n = absurd n

pub body_reads : (m : Meaning) (b : List Seq) (o : Open) (op : Seen) (p : Option ℕ) (e : InstrLocId) (ts : List Tree) (w : Tree) → IsEnd m op p Ended e → Falling (length b) (o.seq ∷ []) → IsBody o
    → Reads m false b (o ∷ []) (prepend Ends op p ts) w → StandsAs m (edited (filled_with o.instrs e) b o.seq) w
body_reads m b o op p e ts w k fa h ([], a, r, holds) = absurd a
body_reads m b o op p e ts w k fa h (x ∷ (y ∷ cs), a, r, holds) = absurd a.1
body_reads m b o op p e ts w k fa h (x ∷ [], a, r, holds) =
    let c = edited (filled_with o.instrs e) b o.seq in
    let g = unless_reached o.reach _ h.reached a.0 in
    let z = plain_closes m b [] [] o op p Ended e none x k fa.0 fa.1 g in
    let is : x.grow (Close op (end_place op p)) ≡ w = ap (λ (v : Bool). x.grow (closed v op p)) (sym (ap is_bare h.kind)) ∙ sym (kept_reached o.reach x.grow (is_bare o.kind) op p h.reached) ∙ r in
    let A : ℕ → Type 0 = λ k. Enters m c [] k o.ty none o.turns Ended (x.grow (Close op (end_place op p))) z.met in
    let B : List Part → Type 0 = λ ms. Enters m c [] 0 o.ty none ms Ended (x.grow (Close op (end_place op p))) z.met in
    let C : Tree → Type 0 = λ t. Enters m c [] 0 o.ty none [] Ended t z.met in
    record {
      ty = o.ty;
      done = z.met;
      enters = subst C is (subst B h.turns (subst A h.first (z.enters c (later_now c []))));
      just = hold_ended b o x e h.reached fa.0 holds ∙ (let s = g.sized (Close op (end_place op p)) in omega (arith, s)) ∙ ap tree_size is;
    }

-- ---- before the first operator

start_grows : (m : Meaning) (b : List Seq) (o : Open) (by : Seen) → length b ≡ 1 → o.first ≡ 0 → o.seq ≡ 0 → o.turns ≡ [] → o.instrs ≡ []
    → (s : Seq) → slice_get b 0 ≡ Some s → s.ty ≡ o.ty
    → Grows m b (o.seq ∷ []) [] o none (record { grow = λ t. t; met = with 0 none; by = by })
start_grows m b o by one first seq turns empty s at typed = record {
  grows = λ later h x more found items ms f t done lie.
      let F : List (Instr × InstrLocId) → Type 0 = λ is. lies m t later [] o.seq o.ty (with 0 none) is x.end ms f done in
      let is : x.instrs ≡ more = items ∙ ap (λ (l : List (Instr × InstrLocId)). l ++ more) empty in
      let at_zero : slice_get later 0 ≡ Some x = ap (λ (k : ℕ). slice_get later k) (sym seq) ∙ found in
      let K : ℕ → Type 0 = λ k. lies m t later [] k o.ty (with 0 none) x.instrs x.end ms f done in
      let known : x.ty ≡ o.ty = start_type later x s o.ty at_zero (h.typed 0 (omega (arith, one))) at typed in
      let T : List Part → Type 0 = λ us. Enters m later [] o.first o.ty none (us ++ ms) f t done in
      let A : ℕ → Type 0 = λ k. Enters m later [] k o.ty none ms f t done in
      subst T (sym turns) (subst A (sym first) (record { seq = x; fresh = refl; found = at_zero; typed = known; lie = subst K seq (subst F (sym is) lie) }));
  fresh = λ j l. with_met 0 j none (omega (arith, l, one));
  begun = tt;
  sized = λ t. omega arith;
}
  where
    start_type : (later : List Seq) (x s : Seq) (ty : InstrSeqType) → slice_get later 0 ≡ Some x → type_at later 0 ≡ type_at b 0 → slice_get b 0 ≡ Some s → s.ty ≡ ty → x.ty ≡ ty
    start_type later x s ty e t f g = found_type later 0 x ty e (t ∙ type_of_found b 0 s f ∙ ap (λ (y : InstrSeqType). Some y) g)

grown_start : (o : Open) (by : Seen) (ts : List Tree) → o.reach ≡ Live → is_bare o.kind ≡ false
    → grown (o ∷ []) (record { grow = λ t. t; met = with 0 none; by = by } ∷ []) ts ≡ normal_from same (innermost ts) false false
unfolding structure_rows
grown_start o by [] e q = refl
grown_start o by (t ∷ ts) e q = ap (λ (r : Reach). kept r (λ v. v) (is_bare o.kind) t) e ∙ ap (λ (w : Bool). normal_from same t w false) q

pub starts : (m : Meaning) (b : List Seq) (o : Open) (ts : List Tree) (s : Seq) → length b ≡ 1 → total b ≡ 0 → IsBody o → o.seq ≡ 0 → o.instrs ≡ [] → o.reach ≡ Live → slice_get b 0 ≡ Some s → s.ty ≡ o.ty
    → Reads m false b (o ∷ []) ts (normal_from same (innermost ts) false false)
starts m b o ts s one none_yet h seq empty live at typed =
    let F : Reach → Type 0 = λ r. Unless r (Grows m b (o.seq ∷ []) [] o none (record { grow = λ t. t; met = with 0 none; by = end_op })) in (
      record { grow = λ t. t; met = with 0 none; by = end_op } ∷ [],
      (subst F (sym live) (start_grows m b o end_op one h.first seq h.turns empty s at typed), tt),
      grown_start o end_op ts live (ap is_bare h.kind),
      hold_start b o _ one none_yet empty refl,
    )
