use Rattle.std.proofs.Common.{◌≡◌, ◌∙◌, ◌+◌, ◌<◌, ℕ, List, nat_eq, slice_index, ap, sym, subst, arith}
use Rattle.sqlite_disk.specs.Disk.{Holds}
use Rattle.sqlite_wal.specs.Format.{be32}
use Rattle.sqlite_wal.proofs.PartLemmas.{same_be32}
use Rattle.bac_keep_file.proofs.whole.file_header.Goals as goal

pub returns-clause-marked : goal.returns-clause-marked
returns-clause-marked g c clean marked =
    let same = c.in_ok-read_at.ensures.seen ∙ c.in_ok-len.ensures.seen in
    let held = c.in_ok-read_at-2.ensures.read clean (omega arith) in
    let there : Holds (g.D.Disk.seen c.args.db.now) 60 c.read_at-2.new.buf = subst (λ (file : List ℕ). Holds file 60 c.read_at-2.new.buf) same held in
    let read = same_be32 (g.D.Disk.seen c.args.db.now) c.read_at-2.new.buf 60 0 (λ i low.
    let here : i ≡ 0 + i = omega arith in
    there.each i (omega arith) ∙ ap (slice_index c.read_at-2.new.buf) here) in
    ap (λ (n : ℕ). nat_eq n 1) (c.number_in.ensures ∙ sym read ∙ marked.1)
