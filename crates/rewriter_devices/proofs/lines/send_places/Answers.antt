-- The lines of the places are those of the chunks, one after the other.
use Rattle.std.proofs.Common.{◌≡◌, ◌≤◌, ◌+◌, ℕ, List, ◌++◌, take, length, arith, ap, sym, ◌∙◌, subst, append_assoc, length-append}
use Rattle.std.specs.Io.KnownBytes.{Appends}
use Rattle.std.proofs.KnownBytes.{Appends-trans}
use Rattle.std.proofs.lemmas.Grind.{flat_map-append}
use Rattle.std.proofs.Math.Seq.{take-append-add}
use Rattle.std.proofs.lemmas.List.{take-append-le}
use Rattle.rewriter_devices.specs.Lines.{line_of, lines_of}
use Rattle.rewriter_devices.proofs.lines.send_places.Goals as goal

-- what a chunk and what comes after it leave of the lines
split_on : (all : List ℕ) (front : List ℕ) (rest chunk more : List (ℕ × ℕ)) → all ≡ front ++ lines_of rest → rest ≡ chunk ++ more → all ≡ front ++ (lines_of chunk ++ lines_of more)
split_on all front rest chunk more p q = p ∙ ap (λ l. front ++ l) (ap lines_of q ∙ flat_map-append line_of chunk more)

-- the front of the lines that ends in a chunk
take_into : (all front part more : List ℕ) (n e : ℕ) → all ≡ front ++ (part ++ more) → n ≡ length front → e ≤ length part → take (n + e) all ≡ front ++ take e part
take_into all front part more n e p q h =
    ap (take (n + e)) p ∙ ap (λ k. take (k + e) (front ++ (part ++ more))) q ∙ take-append-add front (part ++ more) e ∙ ap (λ l. front ++ l) (take-append-le e part more h)

pub loop-chunk-preserved : goal.loop-chunk-preserved
loop-chunk-preserved g c =
    let (front, facts) = c.loop-chunk.invariant in
    let part = lines_of c.in-Some.chunk.now in
    let steps = c.in-Some.ensures.steps in (
      front ++ part,
      record {
        split = split_on _ front _ _ _ facts.split steps.1.0 ∙ sym (append_assoc front part _);
        counted = omega (arith, length-append front part, facts.counted, c.in-Ok.ensures.len);
        short = omega (arith, facts.short, c.in-Ok.ensures.len, c.in-Ok.ensures.short, length-append c.in-Some.chunk.now c.next.new.self.rest.now, ap length steps.1.0);
        sent = Appends-trans _ _ _ front part facts.sent c.in-Ok.ensures.sent;
        stays = λ h. c.in-Ok.ensures.stays_failed (facts.stays h);
      },
    )

pub returns-in-Err-clause-sent : goal.returns-in-Err-clause-sent
returns-in-Err-clause-sent g c =
    let (front, facts) = c.loop-chunk.invariant in
    let part = lines_of c.in-Some.chunk.now in
    let more = lines_of c.next.new.self.rest.now in
    let e = c.in-Err.e.written in
    let sent = c.in-Err.ensures.sent in
    let split = split_on _ front _ _ _ facts.split c.in-Some.ensures.steps.1.0 in (
      omega (arith, sent.0, facts.counted, ap length split, length-append front (part ++ more), length-append part more),
      subst (Appends _ _) (sym (take_into _ front part more _ e split facts.counted (omega (arith, sent.0)))) (Appends-trans _ _ _ front (take e part) facts.sent sent.1),
    )
