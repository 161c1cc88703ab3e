use Rattle.std.proofs.Common.{arith, ◌≡◌, ◌≤◌, ◌+◌, ◌-◌, ◌*◌, ◌∙◌, ap, sym, subst, take, drop, length, List, ℕ}
use Rattle.std.proofs.lemmas.List.{length-take}
use Rattle.bac_keep.specs.Overlay.{CHUNK, chunk}
use Rattle.bac_keep.proofs.Chunks.{last_chunk}
use Rattle.bac_keep_file.proofs.noting.chunk_of.Goals as goal

short : (octets xs : List ℕ) (at : ℕ) → xs ≡ chunk octets at → length xs ≤ CHUNK
short octets xs at is = subst (λ (l : List ℕ). length l ≤ CHUNK) (sym is) (omega (arith, length-take CHUNK (drop (at * CHUNK) octets)))

pub returns-then-octets-start-le-CHUNK : goal.returns-then-octets-start-le-CHUNK
returns-then-octets-start-le-CHUNK c =
    let is =
    last_chunk CHUNK (c.from-start.result * CHUNK) c.args.octets.now (omega (arith, c.if-octets-start-le-CHUNK.true))
    ∙ ap (λ (n : ℕ). take CHUNK (drop (n * CHUNK) c.args.octets.now)) c.from-start.ensures in
    record { is = is; short = short c.args.octets.now _ c.args.at is }

pub returns : goal.returns
returns c =
    let start = c.from-start.result * CHUNK in
    let size : (start + CHUNK) - start ≡ CHUNK = omega arith in
    let is =
    ap (λ (n : ℕ). take n (drop start c.args.octets.now)) size
    ∙ ap (λ (n : ℕ). take CHUNK (drop (n * CHUNK) c.args.octets.now)) c.from-start.ensures in
    record { is = is; short = short c.args.octets.now _ c.args.at is }
