-- A body that was written apart, and then put behind what was written.
use Rattle.std.proofs.Common.{ℕ, ◌≡◌, Bool, List, [], refl, true, subst, sym}
use Rattle.std.specs.Bool.{OnTrue}
use Rattle.std.specs.Prelude.{MatchBool}
use Rattle.walrus_body_text.specs.walrus_body_env.declared.error.BodyError.{BodyError}
use Rattle.walrus_body_text.specs.walrus_body_env.declared.error.BodyError.TheVariants.{Memory}
use Rattle.walrus_body_text.specs.walrus_tree.walrus_walks.walrus_instr.declared.seq.InstrSeq.{InstrSeq}
use Rattle.walrus_pairing.specs.Looks.{Look}
use Rattle.walrus_pairing.specs.declared.error.PairError.{PairError}
use Rattle.walrus_body_text.specs.walrus_tree.Text.{operators}
use Rattle.walrus_body_text.specs.walrus_tree.Trees.{IsTree}
use Rattle.walrus_body_writer.specs.declared.output.Output.{Output}
use Rattle.walrus_body_writer.specs.Outputs.{IsAside, IsSame, IsTaken, Wrote, is_short}
use Rattle.walrus_body_writer.specs.Spelled.{Text}
use Rattle.walrus_body_writer.specs.Refusals.{IsRefusal, IsStraightRefusal, LeavesOff, fault_of}
use Rattle.walrus_body_writer.proofs.Outs.{wrote_none, wrote_same, wrote_taken}
use Rattle.walrus_body_writer.proofs.Refused.{refusal, straight_refusal, wants}

pub on_true : (x : Bool) (P : Type 0) → x ≡ true → OnTrue x P → P
on_true x P is h = let F : Bool → Type 0 = λ z. OnTrue z P in subst F is h

pub if_true : (x : Bool) (P Q : Type 0) → x ≡ true → MatchBool x P Q → P
if_true x P Q is h = let F : Bool → Type 0 = λ z. MatchBool z P Q in subst F is h

module _ (look : Look) (b c : List InstrSeq) (k : ℕ) (is : c ≡ b) (first : k ≡ 0) where
  pub is_tree : IsTree c k → IsTree b 0
  is_tree tree =
      let F : List InstrSeq → Type 0 = λ z. IsTree z k in
      let G : ℕ → Type 0 = IsTree b in
      subst G first (subst F is tree)

  pub no_tree : (IsTree c k → ⊥) → IsTree b 0 → ⊥
  no_tree h =
      let F : List InstrSeq → Type 0 = λ z. IsTree z k → ⊥ in
      let G : ℕ → Type 0 = λ n. IsTree b n → ⊥ in
      subst G first (subst F is h)

  -- a body that was written straight
  pub straight : (old new : Output) → Wrote look c (operators c k) old new → Wrote look b (operators b 0) old new
  straight old new w =
      let F : List InstrSeq → Type 0 = λ z. Wrote look z (operators z k) old new in
      let G : ℕ → Type 0 = λ n. Wrote look b (operators b n) old new in
      subst G first (subst F is w)

  pub refused_straight : (old new : Output) (e : PairError) (fault : BodyError) → fault ≡ fault_of e → (IsTree c k → LeavesOff look c (operators c k) old e new) → IsTree b k → IsStraightRefusal look b old fault new
  refused_straight old new e fault it left tree =
      let F : List InstrSeq → Type 0 = λ z. IsTree z k → LeavesOff look z (operators z k) old e new in
      let G : ℕ → Type 0 = λ n. LeavesOff look b (operators b n) old e new in
      let H : BodyError → Type 0 = λ f. IsStraightRefusal look b old f new in
      subst H (sym it) (straight_refusal look b old (subst (IsTree b) first tree) e new (subst G first (subst F is left tree)))

  module _ (start more old new : Output) (aside : IsAside old start) (taken : IsTaken more old new) where
    on : (t : Text) → Wrote look b t start more → Wrote look b t old new
    on t w = wrote_taken look b t start more old new (is_short old) aside taken w

    pub behind : Wrote look c (operators c k) start more → Wrote look b (operators b 0) old new
    behind w =
        let F : List InstrSeq → Type 0 = λ z. Wrote look z (operators z k) start more in
        let G : ℕ → Type 0 = λ n. Wrote look b (operators b n) start more in
        on (operators b 0) (subst G first (subst F is w))

    pub refused_behind : (e : PairError) (fault : BodyError) → fault ≡ fault_of e → (IsTree c k → LeavesOff look c (operators c k) start e more) → IsTree b k → IsRefusal look b old fault new
    refused_behind e fault it left tree =
        let F : List InstrSeq → Type 0 = λ z. IsTree z k → LeavesOff look z (operators z k) start e more in
        let G : ℕ → Type 0 = λ n. LeavesOff look b (operators b n) start e more in
        let h = subst G first (subst F is left tree) in
        let H : BodyError → Type 0 = λ f. IsRefusal look b old f new in
        subst H (sym it) (refusal look b old (subst (IsTree b) first tree) e new (record { front = h.front; back = h.back; parts = h.parts; wrote = on h.front h.wrote; due = h.due }))

-- memory was wanted, and nothing was put there
pub memory_wanted : (look : Look) (b : List InstrSeq) (old new : Output) → IsSame old new → IsRefusal look b old Memory new
memory_wanted look b old new same = wants look b (operators b 0) [] (operators b 0) old new refl (wrote_same look b [] old old new (wrote_none look b old) same)
