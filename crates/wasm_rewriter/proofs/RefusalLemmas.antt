-- Why an input is refused.
use Rattle.std.proofs.Common.{ℕ, ◌≡◌, ◌<◌, ◌↔◌, ◌^◌, ◌∙◌, List, length, Result, Ok, Err, IfErr, IsErrOf, refl, sym, ap, subst, inl, inr, arith}
use Rattle.walrus_errors.specs.declared.error.ModuleError.{ModuleError}
use Rattle.walrus_errors.specs.declared.error.ModuleError.TheVariants as errors
use Rattle.walrus_config.specs.declared.config.ModuleConfig.{ModuleConfig}
use Rattle.walrus_parse.specs.Parsed.{DoesRead, IsRead, read_features}
use Rattle.walrus_parse.specs.Refusals.{IsRefusal, refusal}
use Rattle.walrus_parse.specs.walrus_file_reader.Files.{read_has_header}
use Rattle.wasm_formats.specs.Stops.{Trouble, Read}
use Rattle.wasm_formats.specs.wasm_reader.declared.error.ErrorKind.{ErrorKind}
use Rattle.wasm_formats.specs.wasm_reader.declared.error.ErrorKind.TheVariants as kinds
use Rattle.walrus_parse.specs.walrus_module.declared.module.Module.{Module as Whole}
use Rattle.wasm_modules.specs.Laws.{ReadDontStop}
use Rattle.wasm_rewriter.specs.declared.fault.Fault.{Fault}
use Rattle.wasm_rewriter.specs.declared.fault.Fault.TheVariants as faults
use Rattle.wasm_rewriter.specs.declared.options.Options.{Options}
use Rattle.wasm_rewriter.specs.Faults.{fault_of, late_fault}
use Rattle.wasm_rewriter.specs.Rewrites.{IsAccepted, IsRefused, MayBeRefused, config_of}

-- what a module was read from is accepted
pub is_accepted : {B : Type 0} (config : ModuleConfig) (bytes : List ℕ) (m : Whole B) → IsRead config bytes m → DoesRead config bytes
is_accepted config bytes m read = let r = read.1.1.reads in (_, (r.short, (_, _, r.sections, r.codes_are, refl)))

pub unread : (o : Options) (input : List ℕ) (error : ModuleError) → IsRefusal (read_features (config_of o)) input error → IsRefused o input (fault_of error)
unread o input error refused = inl (record { error = error; refusal = refused; fault_is = refl })

pub late_may : (error : ModuleError) → MayBeRefused (late_fault error)
late_may (errors.OutputLimit limit) = tt
late_may error = tt

pub may_refuse : (o : Options) (input : List ℕ) (fault : Fault) → IsAccepted o input → MayBeRefused fault → IsRefused o input fault
may_refuse o input faults.Memory reads may = let it = reads.1.1 in unread o input errors.Memory (inl (refl, reads.1.0, read_has_header (read_features (config_of o)) input it.0 it.2))
may_refuse o input (faults.OutputLimit limit) reads may = inr (record { reads = reads; limit = limit; fault_is = refl })
may_refuse o input fault reads may = absurd may

-- what stands in the bytes isn't their number
in_bytes : (t : Trouble) (place : ℕ) → fault_of (refusal t place) ≡ faults.InputTooLong → ⊥
in_bytes (Read kind) place h = by_kind kind h
  where
    by_kind : (kind : ErrorKind) → fault_of (refusal (Read kind) place) ≡ faults.InputTooLong → ⊥
    by_kind kinds.Memory h = cc
    by_kind kind h = cc
in_bytes t place h = cc

-- the fault says that the input is too long just where it is
pub long_told : (o : Options) (input : List ℕ) (fault : Fault) → IsRefused o input fault → fault ≡ faults.InputTooLong → 2 ^ 30 < length input
long_told o input fault (inl u) is = by_error u.refusal
  where
    told : fault_of u.error ≡ faults.InputTooLong
    told = sym u.fault_is ∙ is

    by_error : IsRefusal (read_features (config_of o)) input u.error → 2 ^ 30 < length input
    by_error (inl h) = let bad : faults.Memory ≡ faults.InputTooLong = sym (ap fault_of h.0) ∙ told in absurd cc
    by_error (inr (inl h)) = h.1
    by_error (inr (inr f)) = absurd (in_bytes f.trouble f.place (sym (ap fault_of f.error_is) ∙ told))
long_told o input fault (inr l) is = let bad : faults.OutputLimit l.limit ≡ faults.InputTooLong = sym l.fault_is ∙ is in absurd cc

pub long_tells : (o : Options) (input : List ℕ) (fault : Fault) → 2 ^ 30 < length input → IsRefused o input fault → fault ≡ faults.InputTooLong
long_tells o input fault long (inl u) = u.fault_is ∙ by_error u.refusal
  where
    by_error : IsRefusal (read_features (config_of o)) input u.error → fault_of u.error ≡ faults.InputTooLong
    by_error (inl h) = absurd (omega (arith, long, h.1))
    by_error (inr (inl h)) = ap fault_of h.0
    by_error (inr (inr f)) = absurd (omega (arith, long, f.stops.1.0))
long_tells o input fault long (inr l) = absurd (omega (arith, long, l.reads.1.0))

-- what reads is refused for want of memory or for the output's limits alone
pub accepted_told : ReadDontStop → (o : Options) (input : List ℕ) (fault : Fault) → IsRefused o input fault → IsAccepted o input → MayBeRefused fault
accepted_told law o input fault (inl u) reads = by_error u.refusal
  where
    by_error : IsRefusal (read_features (config_of o)) input u.error → MayBeRefused fault
    by_error (inl h) = subst (λ (f : Fault). MayBeRefused f) (sym (u.fault_is ∙ ap fault_of h.0)) tt
    by_error (inr (inl h)) = absurd (omega (arith, h.1, reads.1.0))
    by_error (inr (inr f)) = absurd (law (read_features (config_of o)) input reads.0 f.trouble f.place reads.1 f.stops)
accepted_told law o input fault (inr l) reads = subst (λ (f : Fault). MayBeRefused f) (sym l.fault_is) tt

module _ {T : Type 0} (o : Options) (input : List ℕ) where
  -- what is said of an input that is refused
  pub refused_long : (fault : Fault) → IsRefused o input fault → (IsErrOf {T = T} (Err fault) faults.InputTooLong ↔ (2 ^ 30 < length input))
  refused_long fault refused = (λ e. let is : fault ≡ faults.InputTooLong = cc in long_told o input fault refused is, λ long. ap Err (long_tells o input fault long refused))

  module _ (reads : IsAccepted o input) (r : Result T Fault) where
    -- and of one that reads
    pub read_refused : IfErr r (λ fault. MayBeRefused fault) → IfErr r (λ fault. IsRefused o input fault)
    read_refused may = by_answer r may
      where
        by_answer : (r : Result T Fault) → IfErr r (λ fault. MayBeRefused fault) → IfErr r (λ fault. IsRefused o input fault)
        by_answer (Ok out) h = h
        by_answer (Err fault) h = may_refuse o input fault reads h

    pub read_long : IfErr r (λ fault. MayBeRefused fault) → (IsErrOf r faults.InputTooLong ↔ (2 ^ 30 < length input))
    read_long may = by_answer r may
      where
        by_answer : (r : Result T Fault) → IfErr r (λ fault. MayBeRefused fault) → (IsErrOf r faults.InputTooLong ↔ (2 ^ 30 < length input))
        by_answer (Ok out) h = (λ e. absurd cc, λ long. absurd (omega (arith, long, reads.1.0)))
        by_answer (Err fault) h = refused_long fault (may_refuse o input fault reads h)
