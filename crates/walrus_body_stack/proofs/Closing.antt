-- A block that is closed goes into the sequence around it.
use Rattle.std.proofs.Common.{ℕ, ◌≡◌, true, false, List, [], ◌∷◌, ◌++◌, length, refl, sym, ap, subst, ◌∙◌, ◌⊎◌, inl, inr}
use Rattle.std.specs.Global.{Vec}
use Rattle.walrus_instr.specs.declared.instr.Instr.{Instr}
use Rattle.walrus_instr.specs.declared.instr.TryTableCatch.{TryTableCatch}
use Rattle.walrus_instr.specs.declared.seq.InstrLocId.{InstrLocId}
use Rattle.walrus_instr.specs.declared.seq.InstrSeqType.{InstrSeqType}
use Rattle.walrus_body_nesting.specs.walrus_builder.Built.{Seq, empty_seq, no_place}
use Rattle.walrus_body_nesting.specs.declared.frames.Opener.TheVariants as openers
use Rattle.walrus_body_nesting.specs.declared.frames.Reach.{Reach}
use Rattle.walrus_body_nesting.specs.declared.frames.Reach.TheVariants.{Live, Cut, Dropped}
use Rattle.walrus_body_nesting.specs.Stands.{Otherwise, Part, part, Ended, Delegated, block}
use Rattle.walrus_body_nesting.specs.Opens.{Open, is_bare, nested, Makes}
use Rattle.walrus_body_stack.specs.declared.frame.Sort.{Sort}
use Rattle.walrus_body_stack.specs.declared.frame.Sort.TheVariants as sorts
use Rattle.walrus_body_stack.specs.declared.frame.Frame.{Frame}
use Rattle.walrus_body_stack.specs.declared.stack.Stack.{Stack}
use Rattle.walrus_body_stack.specs.Held.{Held, Nested, joined}
use Rattle.walrus_body_stack.specs.Frames.{opener_of, kind_of, turns_of, top, below, handlers_around, clauses_around, open_of, opens_of, inner, opens, blocks, filled, IsMade, IsStraight, IsClosed, IsCompleted, IsTrying}

abbrev pub Clauses : Type 0
Clauses = Vec TryTableCatch

-- all open sequences
abbrev pub all : Nested → List (List Part) → List Clauses → List Open
all n hs cs = open_of n.inner hs cs ∷ opens_of n.outer (handlers_around n.inner.frame.sort hs) (clauses_around n.inner.frame.sort cs)

pub all_are : (s : Stack) (n : Nested) (hs : List (List Part)) (cs : List Clauses) → s.nest ≡ n → s.handlers ≡ hs → s.clauses ≡ cs → opens s ≡ all n hs cs
all_are s n hs cs e f g =
    ap (λ (m : Nested). all m s.handlers s.clauses) e ∙ ap (λ (l : List (List Part)). all n l s.clauses) f ∙ ap (λ (l : List Clauses). all n hs l) g

-- as it was, or with an `else`
abbrev Whole : Sort → ℕ → ℕ → List (List Part) → List Clauses → List Seq → List Seq → Instr → Type 0
Whole s first k hs cs b c i = (is_bare (kind_of s) ≡ false) × (c ≡ b) × Makes (opener_of s cs) i (block first (turns_of s k hs) Ended)

abbrev WithElse : Sort → InstrSeqType → ℕ → ℕ → List (List Part) → List Clauses → List Seq → List Seq → Instr → Type 0
WithElse s ty first k hs cs b c i =
    (is_bare (kind_of s) ≡ true) × (c ≡ b ++ empty_seq (length b) ty ∷ []) × Makes (opener_of s cs) i (block first (turns_of s k hs ++ part Otherwise (length b) ∷ []) Ended)

made_either : (s : Sort) (ty : InstrSeqType) (first k : ℕ) (hs : List (List Part)) (cs : List Clauses) (b c : List Seq) (i : Instr)
    → IsMade s ty first k hs cs b c i → Whole s first k hs cs b c i ⊎ WithElse s ty first k hs cs b c i
made_either sorts.Block ty first k hs cs b c i h = inl (refl, h.0, h.1)
made_either sorts.Loop ty first k hs cs b c i h = inl (refl, h.0, h.1)
made_either sorts.Then ty first k hs cs b c i h = inr (refl, h.0, (length b, h.1, refl, refl))
made_either sorts.Else ty first k hs cs b c i h = inl (refl, h.0, h.1)
made_either sorts.Try ty first k hs cs b c i h = inl (refl, h.0, h.1)
made_either sorts.Catch ty first k hs cs b c i h = inl (refl, h.0, h.1)
made_either sorts.CatchAll ty first k hs cs b c i h = inl (refl, h.0, h.1)
made_either sorts.TryTable ty first k hs cs b c i h = inl (refl, h.0, h.1)

-- the sequence around it, with the block
all_joined : (r : Reach) (i : Instr × InstrLocId) (q : Nested) (hs : List (List Part)) (cs : List Clauses)
    → all (joined r i q) hs cs ≡ nested r i (open_of q.inner hs cs) ∷ opens_of q.outer (handlers_around q.inner.frame.sort hs) (clauses_around q.inner.frame.sort cs)
all_joined Live i q hs cs = refl
all_joined Cut i q hs cs = refl
all_joined Dropped i q hs cs = refl

module _ (p new : Stack) (q : Nested) (i : Instr) (outer : p.nest.outer ≡ q.inner ∷ q.outer)
    (nest : new.nest ≡ joined p.nest.inner.frame.reach (i, p.nest.inner.frame.place) q) (handlers : new.handlers ≡ handlers_around p.nest.inner.frame.sort p.handlers)
    (clauses : new.clauses ≡ clauses_around p.nest.inner.frame.sort p.clauses) where
  abbrev hs : List (List Part)
  hs = handlers_around p.nest.inner.frame.sort p.handlers

  abbrev cs : List Clauses
  cs = clauses_around p.nest.inner.frame.sort p.clauses

  abbrev further : List Open
  further = opens_of q.outer (handlers_around q.inner.frame.sort hs) (clauses_around q.inner.frame.sort cs)

  around_was : opens_of p.nest.outer hs cs ≡ open_of q.inner hs cs ∷ further
  around_was = ap (λ (l : List Held). opens_of l hs cs) outer

  opens_now : opens new ≡ nested (inner p).reach (i, (inner p).place) (open_of q.inner hs cs) ∷ further
  opens_now = all_are new (joined p.nest.inner.frame.reach (i, p.nest.inner.frame.place) q) hs cs nest handlers clauses ∙ all_joined p.nest.inner.frame.reach (i, p.nest.inner.frame.place) q hs cs

  pub ended : (place : InstrLocId)
      → IsMade p.nest.inner.frame.sort p.nest.inner.frame.ty p.nest.inner.frame.first p.nest.inner.frame.seq p.handlers p.clauses (filled place p) (blocks new) i
      → IsClosed place Ended p new ⊎ IsCompleted place p new
  ended place made =
      let f = p.nest.inner.frame in
      elim (made_either f.sort f.ty f.first f.seq p.handlers p.clauses (filled place p) (blocks new) i made) as (λ _. IsClosed place Ended p new ⊎ IsCompleted place p new) [
        | inl h ↦ inl (record {
          nested = record { outer = open_of q.inner hs cs; further = further; parts = (inner p).turns; instr = i; around_is = around_was; makes = h.2; opens_are = opens_now };
          bare = h.0;
          parts = refl;
          blocks_are = h.1;
        })
        | inr h ↦ inr (record {
          nested = record {
            outer = open_of q.inner hs cs;
            further = further;
            parts = (inner p).turns ++ part Otherwise (length (filled place p)) ∷ [];
            instr = i;
            around_is = around_was;
            makes = h.2;
            opens_are = opens_now;
          };
          bare = h.0;
          parts = refl;
          blocks_are = h.1;
        })
      ]

  pub handed : (n : ℕ) → is_bare (inner p).kind ≡ false → blocks new ≡ filled no_place p → Makes (inner p).opener i (block (inner p).first (inner p).turns (Delegated n)) → IsClosed no_place (Delegated n) p new
  handed n bare filled makes = record {
    nested = record { outer = open_of q.inner hs cs; further = further; parts = (inner p).turns; instr = i; around_is = around_was; makes = makes; opens_are = opens_now };
    bare = bare;
    parts = refl;
    blocks_are = filled;
  }

-- a legacy `try` without handlers
trying_is : (s : Sort) → IsTrying (kind_of s) → s ≡ sorts.Try
trying_is sorts.Block h = absurd h
trying_is sorts.Loop h = absurd h
trying_is sorts.Then h = absurd h
trying_is sorts.Else h = absurd h
trying_is sorts.Try h = refl
trying_is sorts.Catch h = absurd h
trying_is sorts.CatchAll h = absurd h
trying_is sorts.TryTable h = absurd h

pub trying_bare : (s : Sort) → IsTrying (kind_of s) → is_bare (kind_of s) ≡ false
trying_bare s h = ap (λ (t : Sort). is_bare (kind_of t)) (trying_is s h)

pub trying_handlers : (s : Sort) (hs : List (List Part)) → IsTrying (kind_of s) → handlers_around s hs ≡ below hs
trying_handlers s hs h = ap (λ (t : Sort). handlers_around t hs) (trying_is s h)

pub trying_clauses : (s : Sort) (cs : List Clauses) → IsTrying (kind_of s) → clauses_around s cs ≡ cs
trying_clauses s cs h = ap (λ (t : Sort). clauses_around t cs) (trying_is s h)

pub trying_makes : (s : Sort) (k first n : ℕ) (hs : List (List Part)) (cs : List Clauses) (i : Instr) → IsTrying (kind_of s) → Makes openers.Try i (block first (top hs) (Delegated n))
    → Makes (opener_of s cs) i (block first (turns_of s k hs) (Delegated n))
trying_makes s k first n hs cs i h makes =
    let O : Sort → Type 0 = λ t. Makes (opener_of t cs) i (block first (turns_of t k hs) (Delegated n)) in
    subst O (sym (trying_is s h)) makes

-- ---- the instruction of a legacy `try`

try_made : (ty : InstrSeqType) (first k : ℕ) (hs : List (List Part)) (cs : List Clauses) (b c : List Seq) (i : Instr) (h : List Part)
    → h ≡ top hs → c ≡ b → Makes openers.Try i (block first h Ended) → (c ≡ b) × Makes openers.Try i (block first (top hs) Ended)
try_made ty first k hs cs b c i h e f makes = (f, (let M : List Part → Type 0 = λ l. Makes openers.Try i (block first l Ended) in subst M e makes))

pub made_try : (s : Sort) (ty : InstrSeqType) (first k : ℕ) (hs : List (List Part)) (cs : List Clauses) (b c : List Seq) (i : Instr) (h : List Part)
    → s ≡ sorts.Try → h ≡ top hs → c ≡ b → Makes openers.Try i (block first h Ended) → IsMade s ty first k hs cs b c i
made_try s ty first k hs cs b c i h is e f makes = let F : Sort → Type 0 = λ t. IsMade t ty first k hs cs b c i in subst F (sym is) (try_made ty first k hs cs b c i h e f makes)

pub made_catch : (s : Sort) (ty : InstrSeqType) (first k : ℕ) (hs : List (List Part)) (cs : List Clauses) (b c : List Seq) (i : Instr) (h : List Part)
    → s ≡ sorts.Catch → h ≡ top hs → c ≡ b → Makes openers.Try i (block first h Ended) → IsMade s ty first k hs cs b c i
made_catch s ty first k hs cs b c i h is e f makes = let F : Sort → Type 0 = λ t. IsMade t ty first k hs cs b c i in subst F (sym is) (try_made ty first k hs cs b c i h e f makes)

pub made_last : (s : Sort) (ty : InstrSeqType) (first k : ℕ) (hs : List (List Part)) (cs : List Clauses) (b c : List Seq) (i : Instr) (h : List Part)
    → s ≡ sorts.CatchAll → h ≡ top hs → c ≡ b → Makes openers.Try i (block first h Ended) → IsMade s ty first k hs cs b c i
made_last s ty first k hs cs b c i h is e f makes = let F : Sort → Type 0 = λ t. IsMade t ty first k hs cs b c i in subst F (sym is) (try_made ty first k hs cs b c i h e f makes)

-- ---- in other words

pub made_so : (f g : Frame) (hs ks : List (List Part)) (cs ds : List Clauses) (b c d e : List Seq) (i : Instr) → f ≡ g → hs ≡ ks → cs ≡ ds → b ≡ c → e ≡ d
    → IsMade f.sort f.ty f.first f.seq hs cs b d i → IsMade g.sort g.ty g.first g.seq ks ds c e i
made_so f g hs ks cs ds b c d e i h1 h2 h3 h4 h5 made =
    let F1 : Frame → Type 0 = λ x. IsMade x.sort x.ty x.first x.seq hs cs b d i in
    let F2 : List (List Part) → Type 0 = λ x. IsMade g.sort g.ty g.first g.seq x cs b d i in
    let F3 : List Clauses → Type 0 = λ x. IsMade g.sort g.ty g.first g.seq ks x b d i in
    let F4 : List Seq → Type 0 = λ x. IsMade g.sort g.ty g.first g.seq ks ds x d i in
    let F5 : List Seq → Type 0 = λ x. IsMade g.sort g.ty g.first g.seq ks ds c x i in
    subst F5 (sym h5) (subst F4 h4 (subst F3 h3 (subst F2 h2 (subst F1 h1 made))))

pub straight_so : (f g : Frame) (i : Instr) (hs : List (List Part)) (cs : List Clauses) (b c : List Seq) → f ≡ g → c ≡ b → IsStraight f i → IsMade g.sort g.ty g.first g.seq hs cs b c i
straight_so f g i hs cs b c is same direct =
    let F : Frame → Type 0 = λ x. IsMade x.sort x.ty x.first x.seq hs cs b b i in
    let G : List Seq → Type 0 = λ x. IsMade g.sort g.ty g.first g.seq hs cs b x i in
    subst G (sym same) (subst F is (direct.made hs cs b))
