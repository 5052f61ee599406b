use Rattle.std.proofs.Common.{◌≡◌, ◌∙◌, ℕ, ◌<◌, List, All, drop, sym, ap, subst, arith}
use Rattle.std.proofs.lemmas.List.{get_or_default}
use Rattle.wasm_reader.specs.Cursor.{Cursor, rest}
use Rattle.walrus_module_bodies.proofs.body.reader_of.Goals as goal

all_left : (r : Cursor) (bytes : List ℕ) → r.window.bytes ≡ bytes → r.position ≡ 0 → All (λ (b : ℕ). b < 256) bytes → All (λ (b : ℕ). b < 256) (rest r)
all_left r bytes is at h = subst (λ (l : List ℕ). All (λ (b : ℕ). b < 256) l) (sym (ap (λ (n : ℕ). drop n r.window.bytes) at ∙ is)) h

pub returns-clause-bytes : goal.returns-clause-bytes
returns-clause-bytes c =
    all_left c.new_features.result c.args.bytes.now c.new_features.ensures.bytes c.new_features.ensures.position (λ k d lt. let same = get_or_default c.args.bytes.now k d 0 lt in omega (arith, same, c.type_inv.bytes k))
