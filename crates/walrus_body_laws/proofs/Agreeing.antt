-- Lemmas: the text of a body as flat operators.
use Rattle.std.proofs.Common.{arith, ℕ, ◌+◌, ◌≡◌, List, [], ◌∷◌, ◌++◌, map, length, Option, Some, None, Ok, Err, refl, sym, ap, ◌∙◌}
use Rattle.walrus_instr.specs.declared.instr.Instr.{Instr}
use Rattle.walrus_instr.specs.declared.instr.Instr.TheVariants as instrs
use Rattle.walrus_instr.specs.declared.seq.InstrLocId.{InstrLocId}
use Rattle.walrus_instr.specs.declared.seq.InstrSeq.{InstrSeq}
use Rattle.walrus_tree.specs.Text.{Piece, Operator, Else, Catch, CatchAll, Delegate, End}
use Rattle.wasm_operators.specs.Items.{Tags, Locals, DataSegments}
use Rattle.wasm_operators.specs.Operators.{Seen}
use Rattle.wasm_operators.specs.Table.{structure_rows, call_rows}
use Rattle.wasm_normal_form.specs.Roles.{Placed, Role, Turns, Ends, weight_of, role}
use Rattle.wasm_normal_form.specs.Normal.{size}
use Rattle.wasm_normal_form.specs.Places.{code_bytes, if_placed, pairs_from}
use Rattle.wasm_normal_form.specs.Bodies.{locals_named}
use Rattle.walrus_pairing.specs.Looks.{Look, Or}
use Rattle.walrus_body_names.specs.Names.{local_in, segment_in, piece_names, text_names}
use Rattle.walrus_body_names.specs.walrus_body_writer.Spelled.{label, written, bytes_of, pair_of, text_places, IsWritten}
use Rattle.walrus_body_names.specs.walrus_body_writer.walrus_body_text.Visiting.{weight, text_size}
use Rattle.walrus_body_laws.specs.WritingLaws.{place_in, placed_of, text_ops, true_pairs, BytesAgree, PlacesAgree, SizesAgree}
use Rattle.walrus_body_laws.specs.Naming.{instr_role, locals_of, segments_of, segments_named, Told, LocalsAgree, SegmentsAgree}
use Rattle.walrus_body_laws.proofs.Telling.{told}

-- ---- bytes and places

bytes_at : (a : Or (Option Seen)) (l : InstrLocId) (ops : List Placed) → bytes_of a ++ code_bytes ops ≡ code_bytes (placed_of a l ++ ops)
bytes_at (Ok (Some s)) l ops = refl
bytes_at (Ok None) l ops = refl
bytes_at (Err e) l ops = refl

pub bytes_agree : BytesAgree
bytes_agree look b [] = refl
bytes_agree look b (p ∷ ps) = ap (λ (z : List ℕ). bytes_of (written look b p.0) ++ z) (bytes_agree look b ps) ∙ bytes_at (written look b p.0) p.1 (text_ops look b ps)

sum_nil : (n : ℕ) → n + 0 ≡ n
sum_nil n = omega arith

pairs_at : (a : Or (Option Seen)) (l : InstrLocId) (at : ℕ) (ops : List Placed) (later : List (InstrLocId × ℕ)) → true_pairs later ≡ pairs_from (at + length (bytes_of a)) ops
    → true_pairs (pair_of a l at ++ later) ≡ pairs_from at (placed_of a l ++ ops)
pairs_at (Ok (Some s)) l at ops later h = ap (λ (z : List (ℕ × ℕ)). if_placed (place_in l) at ++ z) h
pairs_at (Ok None) l at ops later h = h ∙ ap (λ (n : ℕ). pairs_from n ops) (sum_nil at)
pairs_at (Err e) l at ops later h = h ∙ ap (λ (n : ℕ). pairs_from n ops) (sum_nil at)

pub places_agree : PlacesAgree
places_agree look b at [] = refl
places_agree look b at (p ∷ ps) =
    pairs_at (written look b p.0) p.1 at (text_ops look b ps) (text_places look b (at + length (bytes_of (written look b p.0))) ps)
    (places_agree look b (at + length (bytes_of (written look b p.0))) ps)

-- ---- what counts, and what is named

instr_weighs : (i : Instr) → weight_of (instr_role i) ≡ 1
instr_weighs (instrs.Block _) = refl
instr_weighs (instrs.Loop _) = refl
instr_weighs (instrs.IfElse _ _) = refl
instr_weighs (instrs.Try _ _) = refl
instr_weighs (instrs.TryTable _ _) = refl
instr_weighs _ = refl

abbrev pub piece_role : Piece → Role
piece_role (Operator around i) = instr_role i
piece_role Else = Turns
piece_role (Catch tag) = Turns
piece_role CatchAll = Turns
piece_role (Delegate depth) = Ends
piece_role End = Ends

piece_weighs : (p : Piece) → weight_of (piece_role p) ≡ weight p
piece_weighs (Operator around i) = instr_weighs i
piece_weighs Else = refl
piece_weighs (Catch tag) = refl
piece_weighs CatchAll = refl
piece_weighs (Delegate depth) = refl
piece_weighs End = refl

-- what is written for a piece stands as the piece does, and names what the piece names
abbrev pub ToldPiece : Look → Piece → Or (Option Seen) → Type 0
ToldPiece look p (Ok (Some s)) = (role s ≡ piece_role p) × (map (look Locals) (piece_names local_in p) ≡ map Some (locals_of s.items)) × (map (look DataSegments) (piece_names segment_in p) ≡ map Some (segments_of s.items))
ToldPiece look p (Ok None) = ⊥
ToldPiece look p (Err e) = Unit {0}

instr_told : (look : Look) (around : List ℕ) (i : Instr) (a : Or (Option Seen)) → Told look i a → ToldPiece look (Operator around i) a
instr_told look around i (Ok (Some s)) h = h
instr_told look around i (Ok None) h = h
instr_told look around i (Err e) h = h

catch_told : (look : Look) (tag : ℕ) (o : Option ℕ) → look Tags tag ≡ o → ToldPiece look (Catch tag) (written look [] (Catch tag))
unfolding structure_rows call_rows
catch_told look tag (Some n) e = rw e (refl, refl, refl)
catch_told look tag None e = rw e tt

pub piece_told : (look : Look) (b : List InstrSeq) (p : Piece) → ToldPiece look p (written look b p)
unfolding structure_rows call_rows
piece_told look b (Operator around i) = instr_told look around i (written look b (Operator around i)) (told look b (label around) i)
piece_told look b Else = (refl, refl, refl)
piece_told look b (Catch tag) = catch_told look tag (look Tags tag) refl
piece_told look b CatchAll = (refl, refl, refl)
piece_told look b (Delegate depth) = (refl, refl, refl)
piece_told look b End = (refl, refl, refl)

size_at : (look : Look) (p : Piece) (a : Or (Option Seen)) (l : InstrLocId) (n : ℕ) (ops : List Placed) → ToldPiece look p a → IsWritten a → n ≡ size ops → weight p + n ≡ size (placed_of a l ++ ops)
size_at look p (Ok (Some s)) l n ops h w e = ap (λ (m : ℕ). m + n) (sym (ap weight_of h.0 ∙ piece_weighs p)) ∙ ap (λ (m : ℕ). weight_of (role s) + m) e
size_at look p (Ok None) l n ops h w e = absurd h
size_at look p (Err x) l n ops h w e = absurd w

pub sizes_agree : SizesAgree
sizes_agree look b [] h = refl
sizes_agree look b (p ∷ ps) h = size_at look p.0 (written look b p.0) p.1 (text_size ps) (text_ops look b ps) (piece_told look b p.0) h.0 (sizes_agree look b ps h.1)

map_append : (f : ℕ → Option ℕ) (xs ys : List ℕ) → map f (xs ++ ys) ≡ map f xs ++ map f ys
map_append f [] ys = refl
map_append f (x ∷ xs) ys = ap (λ (z : List (Option ℕ)). f x ∷ z) (map_append f xs ys)

locals_at : (look : Look) (p : Piece) (a : Or (Option Seen)) (l : InstrLocId) (names : List ℕ) (ops : List Placed) → ToldPiece look p a → IsWritten a
    → map (look Locals) names ≡ map Some (locals_named ops) → map (look Locals) (piece_names local_in p ++ names) ≡ map Some (locals_named (placed_of a l ++ ops))
locals_at look p (Ok (Some s)) l names ops h w e =
    map_append (look Locals) (piece_names local_in p) names
    ∙ ap (λ (z : List (Option ℕ)). z ++ map (look Locals) names) h.1
    ∙ ap (λ (z : List (Option ℕ)). map Some (locals_of s.items) ++ z) e
    ∙ sym (map_append Some (locals_of s.items) (locals_named ops))
locals_at look p (Ok None) l names ops h w e = absurd h
locals_at look p (Err x) l names ops h w e = absurd w

pub locals_agree : LocalsAgree
locals_agree look b [] h = refl
locals_agree look b (p ∷ ps) h = locals_at look p.0 (written look b p.0) p.1 (text_names local_in ps) (text_ops look b ps) (piece_told look b p.0) h.0 (locals_agree look b ps h.1)

segments_at : (look : Look) (p : Piece) (a : Or (Option Seen)) (l : InstrLocId) (names : List ℕ) (ops : List Placed) → ToldPiece look p a → IsWritten a
    → map (look DataSegments) names ≡ map Some (segments_named ops) → map (look DataSegments) (piece_names segment_in p ++ names) ≡ map Some (segments_named (placed_of a l ++ ops))
segments_at look p (Ok (Some s)) l names ops h w e =
    map_append (look DataSegments) (piece_names segment_in p) names
    ∙ ap (λ (z : List (Option ℕ)). z ++ map (look DataSegments) names) h.2
    ∙ ap (λ (z : List (Option ℕ)). map Some (segments_of s.items) ++ z) e
    ∙ sym (map_append Some (segments_of s.items) (segments_named ops))
segments_at look p (Ok None) l names ops h w e = absurd h
segments_at look p (Err x) l names ops h w e = absurd w

pub segments_agree : SegmentsAgree
segments_agree look b [] h = refl
segments_agree look b (p ∷ ps) h = segments_at look p.0 (written look b p.0) p.1 (text_names segment_in ps) (text_ops look b ps) (piece_told look b p.0) h.0 (segments_agree look b ps h.1)
