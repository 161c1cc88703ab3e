-- Which transactions are printed, and which findings.
use Rattle.std.specs.Prelude.{ℕ, ◌+◌, ◌*◌, ◌==◌, ◌&&◌, ◌||◌, nat_lt, not, Bool, true, false, List, slice_index, Option, Some, None, is_none, is_some}
use Rattle.bac_npdu.specs.Peers.{PeerView}
use Rattle.bac_slots.specs.Slots.{keep}
use Rattle.bac_explain.specs.Keys.{Key}
use Rattle.bac_explain.specs.Sent.{SentView}
use Rattle.bac_explain.specs.Tables.{ClosedView}
use Rattle.bac_explain.specs.Transactions.{TransactionView}
use Rattle.bac_explain.specs.declared.finding.Finding.{Finding}
use Rattle.bac_explain_report.specs.Endings.{delay_of, is_refused, is_unanswered}
use Rattle.bac_explain_report.specs.declared.selection.PeerFilter.{PeerFilter}
use Rattle.bac_explain_report.specs.declared.selection.Selection.{Selection}

-- ---- one transaction

abbrev pub has_finding : TransactionView → Bool
has_finding t = nat_lt 0 t.findings

-- a request: its first APDU was seen again, or more of its other segments were seen than precede the last one
abbrev pub is_sent_again : SentView → Bool
is_sent_again s = nat_lt 1 s.times || nat_lt s.index s.segments

abbrev pub is_repeated : TransactionView → Bool
is_repeated t = is_sent_again t.request

-- no answer, or one that came later
abbrev pub exceeds : (limit : ℕ) → Option ℕ → Bool
exceeds limit None = true
exceeds limit (Some delay) = nat_lt limit delay

-- an unanswered one is slower than any
abbrev pub is_slower : (limit : ℕ) → TransactionView → Bool
is_slower limit t = is_unanswered t || exceeds limit (delay_of t)

abbrev pub is_slow_enough : Option ℕ → TransactionView → Bool
is_slow_enough None t = true
is_slow_enough (Some limit) t = is_slower limit t

-- ---- a client or a server

-- the address of a link (clause J.1.2) is of that host
abbrev pub is_host : (host link : List ℕ) → Bool
is_host host link =
    slice_index link 0 == slice_index host 0 && slice_index link 1 == slice_index host 1 && slice_index link 2 == slice_index host 2
    && slice_index link 3 == slice_index host 3

abbrev pub is_port : Option ℕ → (link : List ℕ) → Bool
is_port None link = true
is_port (Some port) link = slice_index link 4 * 256 + slice_index link 5 == port

-- of a peer behind a router the router is meant
abbrev pub is_at : PeerFilter → PeerView → Bool
is_at f p = is_host f.host p.link && is_port f.port p.link

abbrev pub has_peer : Option PeerFilter → Key → Bool
has_peer None key = true
has_peer (Some f) key = is_at f key.client || is_at f key.server

-- ---- a selection

-- the transaction passes all filters that are given
abbrev pub passes : Selection → Key → TransactionView → Bool
passes s key t =
    (not s.unanswered || is_unanswered t) && (not s.errors || is_refused t) && (not s.repeated || is_repeated t) && (not s.findings || has_finding t)
    && is_slow_enough s.slower t && has_peer s.peer key

-- a filter is given
abbrev pub is_narrow : Selection → Bool
is_narrow s = s.unanswered || s.errors || s.repeated || s.findings || is_some s.slower || is_some s.peer

-- a transaction that is printed when it is closed, or was told before
abbrev pub is_printed : Selection → Key → TransactionView → Bool
is_printed s key t = t.told || passes s key t

-- one that is printed when it is closed
abbrev pub shown : Selection → Option ClosedView → Option ClosedView
shown s c = keep (λ c. not c.transaction.told && passes s c.key c.transaction) c

-- ---- a finding

-- an answer to no request is of no transaction: it is neither unanswered nor refused nor repeated nor slow
abbrev pub takes_alone : Selection → Key → Bool
takes_alone s key = not s.unanswered && not s.errors && not s.repeated && is_none s.slower && has_peer s.peer key

-- a finding is printed where its transaction passes as it stands
abbrev pub takes_finding : Selection → Key → Option TransactionView → Bool
takes_finding s key None = takes_alone s key
takes_finding s key (Some t) = passes s key t

abbrev pub told_finding : Selection → Key → Option TransactionView → Option Finding → Option Finding
told_finding s key t finding = keep (λ _. takes_finding s key t) finding

-- a transaction that a strict report counts as wrong
abbrev pub is_wrong : TransactionView → Bool
is_wrong t = is_unanswered t || has_finding t
