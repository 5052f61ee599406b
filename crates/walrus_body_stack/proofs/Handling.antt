-- Lists of handlers.
use Rattle.std.proofs.Common.{ℕ, ◌≡◌, List, [], ◌∷◌, ◌++◌, refl, ap}
use Rattle.walrus_instr.specs.declared.instr.LegacyCatch.{LegacyCatch}
use Rattle.walrus_instr.specs.declared.instr.LegacyCatch.TheVariants as legacy
use Rattle.walrus_body_nesting.specs.Stands.{Part, part, Handles, HandlesAll, Ended, Delegated, parts_of, finish_of, EndsOnce}
use Rattle.walrus_body_stack.specs.Catches.{AreHandlers}

pub parts_tag : (cs : List LegacyCatch) (tag k : ℕ) → AreHandlers cs → parts_of (cs ++ legacy.Catch tag k ∷ []) ≡ parts_of cs ++ part (Handles tag) k ∷ []
parts_tag [] tag k h = refl
parts_tag (legacy.Catch t j ∷ cs) tag k h = ap (λ (ps : List Part). part (Handles t) j ∷ ps) (parts_tag cs tag k h)
parts_tag (legacy.CatchAll j ∷ cs) tag k h = ap (λ (ps : List Part). part HandlesAll j ∷ ps) (parts_tag cs tag k h)
parts_tag (legacy.Delegate n ∷ cs) tag k h = absurd h

pub parts_all : (cs : List LegacyCatch) (k : ℕ) → AreHandlers cs → parts_of (cs ++ legacy.CatchAll k ∷ []) ≡ parts_of cs ++ part HandlesAll k ∷ []
parts_all [] k h = refl
parts_all (legacy.Catch t j ∷ cs) k h = ap (λ (ps : List Part). part (Handles t) j ∷ ps) (parts_all cs k h)
parts_all (legacy.CatchAll j ∷ cs) k h = ap (λ (ps : List Part). part HandlesAll j ∷ ps) (parts_all cs k h)
parts_all (legacy.Delegate n ∷ cs) k h = absurd h

pub handlers_tag : (cs : List LegacyCatch) (tag k : ℕ) → AreHandlers cs → AreHandlers (cs ++ legacy.Catch tag k ∷ [])
handlers_tag [] tag k h = tt
handlers_tag (legacy.Catch t j ∷ cs) tag k h = handlers_tag cs tag k h
handlers_tag (legacy.CatchAll j ∷ cs) tag k h = handlers_tag cs tag k h
handlers_tag (legacy.Delegate n ∷ cs) tag k h = h

pub handlers_all : (cs : List LegacyCatch) (k : ℕ) → AreHandlers cs → AreHandlers (cs ++ legacy.CatchAll k ∷ [])
handlers_all [] k h = tt
handlers_all (legacy.Catch t j ∷ cs) k h = handlers_all cs k h
handlers_all (legacy.CatchAll j ∷ cs) k h = handlers_all cs k h
handlers_all (legacy.Delegate n ∷ cs) k h = h

pub finish_end : (cs : List LegacyCatch) → AreHandlers cs → finish_of cs ≡ Ended
finish_end [] h = refl
finish_end (legacy.Catch t j ∷ cs) h = finish_end cs h
finish_end (legacy.CatchAll j ∷ cs) h = finish_end cs h
finish_end (legacy.Delegate n ∷ cs) h = absurd h

pub parts_delegate : (cs : List LegacyCatch) (n : ℕ) → AreHandlers cs → parts_of (cs ++ legacy.Delegate n ∷ []) ≡ parts_of cs
parts_delegate [] n h = refl
parts_delegate (legacy.Catch t j ∷ cs) n h = ap (λ (ps : List Part). part (Handles t) j ∷ ps) (parts_delegate cs n h)
parts_delegate (legacy.CatchAll j ∷ cs) n h = ap (λ (ps : List Part). part HandlesAll j ∷ ps) (parts_delegate cs n h)
parts_delegate (legacy.Delegate m ∷ cs) n h = absurd h

pub finish_delegate : (cs : List LegacyCatch) (n : ℕ) → AreHandlers cs → finish_of (cs ++ legacy.Delegate n ∷ []) ≡ Delegated n
finish_delegate [] n h = refl
finish_delegate (legacy.Catch t j ∷ cs) n h = finish_delegate cs n h
finish_delegate (legacy.CatchAll j ∷ cs) n h = finish_delegate cs n h
finish_delegate (legacy.Delegate m ∷ cs) n h = absurd h

pub once_end : (cs : List LegacyCatch) → AreHandlers cs → EndsOnce cs
once_end [] h = tt
once_end (legacy.Catch t j ∷ cs) h = once_end cs h
once_end (legacy.CatchAll j ∷ cs) h = once_end cs h
once_end (legacy.Delegate n ∷ cs) h = absurd h

pub once_delegate : (cs : List LegacyCatch) (n : ℕ) → AreHandlers cs → EndsOnce (cs ++ legacy.Delegate n ∷ [])
once_delegate [] n h = refl
once_delegate (legacy.Catch t j ∷ cs) n h = once_delegate cs n h
once_delegate (legacy.CatchAll j ∷ cs) n h = once_delegate cs n h
once_delegate (legacy.Delegate m ∷ cs) n h = absurd h
