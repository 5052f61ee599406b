-- Lemmas: the loop over operators that are known.
use Rattle.std.proofs.Common.{ℕ, ◌≡◌, ◌<◌, ◌≤◌, ◌+◌, ◌∙◌, Bool, true, false, length, Ok, Err, refl, ap, subst, arith}
use Rattle.wasm_reader.specs.Cursor.{Window, Cursor, Forward, IsWithin, rest, end_of}
use Rattle.walrus_body_locals.specs.walrus_body_nesting.Opens.{Good, Shaped}
use Rattle.walrus_body_locals.specs.walrus_body_env.declared.error.BodyError.{BodyError}
use Rattle.walrus_body_locals.proofs.Answering.{end_stays}
use Rattle.walrus_body_operands.specs.walrus_body_stack.declared.stack.Stack.{Stack}
use Rattle.walrus_body_operands.specs.walrus_body_stack.Frames.{blocks, heading_of, opens}
use Rattle.walrus_body_operands.specs.walrus_body_rules.Sights.{Sight}
use Rattle.walrus_body_parser.specs.Changes.{ReadsNext, entry_of}
use Rattle.walrus_body_parser.specs.Trees.{Validating, Follows}
use Rattle.walrus_body_parser.proofs.Looping.{goes_on, goes_fails}

-- one turn is left as long as the body isn't ended
abbrev pub turns_left : Bool → ℕ
turns_left true = 0
turns_left false = 1

at_most_one : (done : Bool) → turns_left done ≤ 1
at_most_one true = omega arith
at_most_one false = omega arith

pub ended_less : (now before : ℕ) (done was : Bool) → was ≡ false → done ≡ true → now ≤ before → now + turns_left done < before + turns_left was
ended_less now before done was still ended left =
    let a = ap (λ (d : Bool). turns_left d) still in let b = ap (λ (d : Bool). turns_left d) ended in omega (arith, a, b, left)

pub read_less : (now middle before : ℕ) (done was : Bool) → was ≡ false → now < middle → middle ≤ before → now + turns_left done < before + turns_left was
read_less now middle before done was still takes left =
    let a = ap (λ (d : Bool). turns_left d) still in let b = at_most_one done in omega (arith, a, b, takes, left)

module _ {V : Type 0} (s : Sight) (told : Validating V) (code : ℕ) (old : Cursor) (before : Stack) (v : V) where
  -- some were read, and the last one ended the body or not
  pub record Running (done : Bool) (now : Cursor) (stack : Stack) (w : V) : Type 0 where
    pub follows : Follows s told code old before v now stack w (Ok done)
    pub shaped : Good done (blocks stack) (opens stack)
    pub within : IsWithin now
    pub begins : code ≤ now.window.start + now.position
    pub ends : end_of now < code + 4294967295
    pub left : length (rest now) ≤ length (rest old)
    pub ty : heading_of stack ≡ heading_of before
    pub entry : entry_of stack ≡ entry_of before

  pub runs_start : Shaped (blocks before) (opens before) → IsWithin old → code ≤ old.window.start + old.position → end_of old < code + 4294967295 → Running false old before v
  runs_start shaped within begins ends =
      record { follows = λ start u g. g; shaped = shaped; within = within; begins = begins; ends = ends; left = omega arith; ty = refl; entry = refl }

  module _ (now : Cursor) (stack : Stack) (w : V) (next : Cursor) (after : Stack) (u : V) (so : Running false now stack w) where
    pub runs_more : (done : Bool) → ReadsNext s told.op code now stack w next after u (Ok done) → length (rest next) < length (rest now) → heading_of after ≡ heading_of stack → entry_of after ≡ entry_of stack → Forward now next
        → Running done next after u
    runs_more done read takes ty entry moves = record {
      follows = λ start x g. goes_on s told code start x stack now w (so.follows start x g) next after u done read takes moves;
      shaped = read.3.shaped;
      within = moves.within so.within;
      begins = let a = moves.forward in let b = so.begins in omega (arith, a, b, ap (λ (w : Window). w.start) moves.window);
      ends = let a = so.ends in omega (arith, a, end_stays now next moves);
      left = let a = so.left in omega (arith, a, takes);
      ty = ty ∙ so.ty;
      entry = entry ∙ so.entry;
    }

    -- and the answer was looked at
    pub runs_so : (answer done : Bool) → answer ≡ done → ReadsNext s told.op code now stack w next after u (Ok answer) → length (rest next) < length (rest now) → heading_of after ≡ heading_of stack
        → entry_of after ≡ entry_of stack → Forward now next → Running done next after u
    runs_so answer done is read = runs_more done (subst (λ (d : Bool). ReadsNext s told.op code now stack w next after u (Ok d)) is read)

    pub runs_fails : (e : BodyError) → ReadsNext s told.op code now stack w next after u (Err e) → Follows s told code old before v next after u (Err e)
    runs_fails e read = λ start x g. goes_fails s told code start x stack now w (so.follows start x g) next after u e read
