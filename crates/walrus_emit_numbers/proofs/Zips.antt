-- What is known of bodies, one after another.
use Rattle.std.proofs.Common.{ℕ, ◌≡◌, List, [], ◌∷◌, ◌++◌, refl, sym, subst, append_assoc, append-nil, inl, inr}
use Rattle.std.specs.List.{AllZip}
use Rattle.walrus_body_names.specs.walrus_body_env.declared.error.BodyError.{BodyError}
use Rattle.walrus_body_names.specs.walrus_body_env.declared.error.BodyError.TheVariants as faults
use Rattle.walrus_body_names.specs.walrus_body_env.Refusals.{module_error}
use Rattle.walrus_body_names.specs.walrus_body_writer.walrus_body_text.Walking.{IsCause}
use Rattle.walrus_instr.specs.declared.seq.InstrSeq.{InstrSeq}
use Rattle.walrus_module.specs.walrus_local_function.declared.local_function.LocalFunction.{LocalFunction}
use Rattle.walrus_emit_numbers.specs.declared.facts.BodyFacts.{BodyFacts}
use Rattle.walrus_emit_numbers.specs.Facts.{AreFacts}
use Rattle.walrus_emit_numbers.specs.Refusals.{IsRefused}

pub refused_of : (seqs : List InstrSeq) (e : BodyError) → IsCause seqs e → IsRefused (module_error e)
refused_of seqs faults.NoTree h = inl refl
refused_of seqs faults.Memory h = inr refl
refused_of seqs (faults.Read error) h = absurd h
refused_of seqs (faults.Index space offset) h = absurd h
refused_of seqs (faults.TypeForm offset) h = absurd h
refused_of seqs (faults.Nesting offset) h = absurd h
refused_of seqs (faults.Position offset) h = absurd h
refused_of seqs (faults.Operator offset) h = absurd h
refused_of seqs (faults.Unsupported form offset) h = absurd h
refused_of seqs (faults.Bounds offset) h = absurd h
refused_of seqs (faults.Limit of offset) h = absurd h

-- whatever is known of those that are left completes what is known of all
pub record Completes (all left : List (ℕ × LocalFunction)) (facts : List BodyFacts) : Type 0 where
  pub by : (rest : List BodyFacts) → AllZip AreFacts left rest → AllZip AreFacts all (facts ++ rest)

pub none_known : (all left : List (ℕ × LocalFunction)) (facts : List BodyFacts) → left ≡ all → facts ≡ [] → Completes all left facts
none_known all left facts same none = record {
  by = λ rest z. subst (λ (l : List BodyFacts). AllZip AreFacts all (l ++ rest)) (sym none) (subst (λ (l : List (ℕ × LocalFunction)). AllZip AreFacts l rest) same z);
}

pub one_known : (all had left : List (ℕ × LocalFunction)) (x : ℕ × LocalFunction) (fact : BodyFacts) (facts new : List BodyFacts) → had ≡ x ∷ left → AreFacts x fact → new ≡ facts ++ fact ∷ []
    → Completes all had facts → Completes all left new
one_known all had left x fact facts new step known is h = record {
  by = λ rest z.
      subst (λ (l : List BodyFacts). AllZip AreFacts all (l ++ rest)) (sym is)
      (subst (λ (l : List BodyFacts). AllZip AreFacts all l) (sym (append_assoc facts (fact ∷ []) rest)) (h.by (fact ∷ rest) (subst (λ (l : List (ℕ × LocalFunction)). AllZip AreFacts l (fact ∷ rest)) (sym step) (known, z))));
}

pub all_known : (all had : List (ℕ × LocalFunction)) (facts : List BodyFacts) → had ≡ [] → Completes all had facts → AllZip AreFacts all facts
all_known all had facts none h =
    subst (λ (l : List BodyFacts). AllZip AreFacts all l) (append-nil facts) (h.by [] (subst (λ (l : List (ℕ × LocalFunction)). AllZip AreFacts l []) (sym none) tt))
