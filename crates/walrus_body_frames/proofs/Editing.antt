-- A frame of the list is edited.
use Rattle.std.proofs.Common.{ℕ, zero, suc, ◌-◌, ◌<◌, ◌≤◌, ◌≡◌, false, List, [], ◌∷◌, ◌++◌, length, refl, ap, sym, subst, arith, ◌∙◌}
use Rattle.std.specs.Prelude.{Result, Ok, Err, IfErr, IsErr, IsErrAnd, OnErr, Some, slice_get, slice_index_or, slice_set}
use Rattle.walrus_builder.specs.Built.{edited}
use Rattle.walrus_body_frames.specs.declared.frame.ControlFrame.{ControlFrame}
use Rattle.walrus_body_frames.specs.Frames.{Frame, IsUnadded, frame, frames}
use Rattle.walrus_body_env.specs.declared.error.BodyError.{BodyError}
use Rattle.walrus_body_env.specs.declared.error.BodyError.TheVariants.{Memory}

pub set_edits : (f : Frame → Frame) (fs : List ControlFrame) (i : ℕ) (x y : ControlFrame) → x ≡ slice_index_or fs i x → frame y ≡ f (frame x) → frames (slice_set fs i y) ≡ edited f (frames fs) i
set_edits f [] i x y e h = refl
set_edits f (z ∷ fs) zero x y e h = ap (λ (w : Frame). w ∷ frames fs) (h ∙ ap (λ (w : ControlFrame). f (frame w)) e)
set_edits f (z ∷ fs) (suc i) x y e h = ap (λ (ws : List Frame). frame z ∷ ws) (set_edits f fs i x y e h)

pub set_stays : (fs : List ControlFrame) (i : ℕ) (x y : ControlFrame) → x ≡ slice_index_or fs i x → frame y ≡ frame x → frames (slice_set fs i y) ≡ frames fs
set_stays [] i x y e h = refl
set_stays (z ∷ fs) zero x y e h = ap (λ (w : Frame). w ∷ frames fs) (h ∙ ap frame e)
set_stays (z ∷ fs) (suc i) x y e h = ap (λ (ws : List Frame). frame z ∷ ws) (set_stays fs i x y e h)

pub edits_at : (f : Frame → Frame) (fs : List ControlFrame) (i n : ℕ) (x y : ControlFrame) → i ≡ length fs - 1 - n → x ≡ slice_index_or fs i x → frame y ≡ f (frame x) → frames (slice_set fs i y) ≡ edited f (frames fs) (length fs - 1 - n)
edits_at f fs i n x y at e h = set_edits f fs i x y e h ∙ ap (edited f (frames fs)) at

pub frames_append : (fs : List ControlFrame) (x : ControlFrame) → frames (fs ++ x ∷ []) ≡ frames fs ++ frame x ∷ []
frames_append [] x = refl
frames_append (f ∷ fs) x = ap (λ (ws : List Frame). frame f ∷ ws) (frames_append fs x)

pub edits_past : {S : Type 0} (f : S → S) (ss : List S) (k : ℕ) → length ss ≤ k → ss ≡ edited f ss k
edits_past f [] k l = refl
edits_past f (s ∷ ss) zero l = absurd (omega (arith, l))
edits_past {S} f (s ∷ ss) (suc k) l = ap (λ (rs : List S). s ∷ rs) (edits_past f ss k (omega (arith, l)))

pub edits_innermost : (f : Frame → Frame) (fs : List ControlFrame) (i : ℕ) (x y : ControlFrame) → i ≡ length fs - 1 - 0 → x ≡ slice_index_or fs i x → frame y ≡ f (frame x) → frames (slice_set fs i y) ≡ edited f (frames fs) (length fs - 1)
edits_innermost f fs i x y at e h = let is : i ≡ length fs - 1 = omega (arith, at) in set_edits f fs i x y e h ∙ ap (edited f (frames fs)) is

pub on_err : {A E : Type 0} (r : Result A E) (P : Type 0) → P → OnErr r P
on_err (Ok x) P p = tt
on_err (Err e) P p = p

pub frames_length : (fs : List ControlFrame) → length (frames fs) ≡ length fs
frames_length [] = refl
frames_length (f ∷ fs) = ap suc (frames_length fs)

pub frame_at : (fs : List ControlFrame) (i : ℕ) (x : ControlFrame) → i < length fs → x ≡ slice_index_or fs i x → slice_get (frames fs) i ≡ Some (frame x)
frame_at [] i x l e = absurd (omega (arith, l))
frame_at (z ∷ fs) zero x l e = ap (λ (w : ControlFrame). Some (frame w)) (sym e)
frame_at (z ∷ fs) (suc i) x l e = frame_at fs i x (omega (arith, l)) e

pub wants_memory : (fs : List ControlFrame) (i n : ℕ) (x : ControlFrame) → (i ≡ length fs - 1 - n) × (n < length fs) → x ≡ slice_index_or fs i x → x.unreachable ≡ false → IsUnadded (frames fs) n Memory
wants_memory fs i n x at e r =
    let count = frames_length fs in
    let is : i ≡ length (frames fs) - 1 - n = omega (arith, count, at.0) in
    let here : i < length fs = omega (arith, at.0, at.1) in
    (omega (arith, count, at.1), frame x, subst (λ (k : ℕ). slice_get (frames fs) k ≡ Some (frame x)) is (frame_at fs i x here e), r)

pub if_memory : {A : Type 0} (r : Result A BodyError) (P : BodyError → Type 0) → P Memory → IsErr r × IsErrAnd r (λ (e : BodyError). e ≡ Memory) → IfErr r P
if_memory (Ok x) P p h = tt
if_memory (Err e) P p h = subst P (sym h.1) p
