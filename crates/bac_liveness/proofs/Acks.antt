-- What a sender does with SegmentACKs of one piece.
use Rattle.std.proofs.Common.{◌≡◌, ℕ, zero, suc, ◌+◌, ◌%◌, ◌<◌, ◌≤◌, min, Bool, true, false, List, ◌∷◌, ◌++◌, length, Some, None, if◌then◌else◌, nat_lt, refl}
use Rattle.std.proofs.Common.{sym, ap, subst, ◌∙◌, arith, append_assoc, length-append}
use Rattle.std.proofs.lemmas.Bool.Decides.{nat_tests}
use Rattle.bac_apdu.specs.Apdu.{Apdu}
use Rattle.bac_segment.specs.Limits.{N_RETRY}
use Rattle.bac_segment.specs.Numbers.{ahead}
use Rattle.bac_segment.specs.Window.{Outgoing, in_window, acknowledged, Incoming}
use Rattle.bac_protocol.specs.Service.{Octets}
use Rattle.bac_protocol.specs.Wire.{pieces_from}
use Rattle.bac_protocol.specs.Log.{StoreModel}
use Rattle.bac_protocol.specs.Transaction.{Key, Rules}
use Rattle.bac_protocol.proofs.Queue.{Nows, TransactionPair}
use Rattle.bac_protocol.proofs.Readings.{ahead_is}
use Rattle.bac_protocol.proofs.Windows.{next_window, not_finished}
use Rattle.bac_protocol.proofs.Carries.{Sender, moved, Fitting}
use Rattle.bac_liveness.proofs.Deliveries.{Within, within_then, no_step}
use Rattle.bac_liveness.proofs.Windows.{repeated, length_repeated, Channel, Moving}

-- a SegmentACK of a piece of the window
pub acknowledged_some : (actual own : ℕ) (out : Outgoing) (q : ℕ) → in_window out ≤ 256 → out.first ≤ q → q < out.first + in_window out
    → acknowledged own out (q % 256) actual ≡ Some (next_window actual own out q)
acknowledged_some actual own out q small le lt =
    let is = ahead_is q out.first le (omega arith) in
    let e : nat_lt (ahead (q % 256) out.first) (in_window out) ≡ true = grind (arith, nat_tests) in
    ap (λ b. if b then Some (record out { first = out.first + ahead (q % 256) out.first + 1; window = min actual own; retries = N_RETRY }) else None) e
    ∙ ap (λ (i : ℕ). Some (record out { first = i + 1; window = min actual own; retries = N_RETRY })) is

-- one of the piece before it
pub acknowledged_none : (actual own : ℕ) (out : Outgoing) (q : ℕ) → in_window out < 256 → out.first ≡ q + 1 → acknowledged own out (q % 256) actual ≡ None
acknowledged_none actual own out q small at =
    let far : 255 ≤ ahead (q % 256) out.first = omega arith in
    let e : nat_lt (ahead (q % 256) out.first) (in_window out) ≡ false = grind (arith, nat_tests) in
    ap (λ b. if b then Some (record out { first = out.first + ahead (q % 256) out.first + 1; window = min actual own; retries = N_RETRY }) else None) e

module _ (S : Type 0) (model : StoreModel S) (x : Rules) (now : Nows) (number : ℕ) (key : Key) (actual own : ℕ) (ps : List Octets)
    (sizes : Fitting x.overtake actual own ps) (near : actual < 256) (v : Moving S model x now number key actual own ps) where
  abbrev n : ℕ
  n = length ps

  abbrev Goes : ℕ → TransactionPair S → TransactionPair S → Type 0
  Goes most p q = Within S model x now number key most p q

  ignores_on : (j : ℕ) (s : Sender) (nak : Bool) (i : ℕ) (xs : List Apdu) → acknowledged own s.out i actual ≡ None
      → Goes j (v.sending s (repeated j (v.ack nak i) ++ xs)) (v.sending s xs)
  ignores_on zero s nak i xs e = no_step S model x now number key (v.sending s xs) (v.sending s xs) refl
  ignores_on (suc j) s nak i xs e =
      within_then S model x now number key 1 j (suc j) (v.sending s (v.ack nak i ∷ (repeated j (v.ack nak i) ++ xs)))
      (v.sending s (repeated j (v.ack nak i) ++ xs)) (v.sending s xs) (omega arith) (v.ignores s nak i (repeated j (v.ack nak i) ++ xs) e)
      (ignores_on j s nak i xs e)

  -- the sender after the first of them
  abbrev pub after_ack : Sender → ℕ → Sender
  after_ack s q = moved s (next_window actual own s.out q)

  -- SegmentACKs of one piece are delivered: the first moves the window, and the others are ignored
  pub acks_read : (j : ℕ) (s : Sender) (nak : Bool) (q : ℕ) (ys : List Apdu) → s.out.pieces ≡ ps → s.out.window ≤ actual
      → s.out.first ≤ q → q < s.out.first + in_window s.out → q + 1 < n → j + length ys ≤ x.overtake
      → Goes (suc j) (v.sending s (repeated (suc j) (v.ack nak (q % 256)) ++ ys))
      (v.sending (after_ack s q) (ys ++ pieces_from v.piece (q + 1) (in_window (after_ack s q).out)))
  acks_read j s nak q ys pieces most lo hi left few =
      let ack = v.ack nak (q % 256) in
      let s' = after_ack s q in
      let within = sizes.within in
      let len : length s.out.pieces ≡ n = ap length pieces in
      let xs = repeated j ack ++ ys in
      let a = length-append (repeated j ack) ys in
      let b = length_repeated j ack in
      let new = pieces_from v.piece (q + 1) (in_window s'.out) in
      let e = acknowledged_some actual own s.out q (omega arith) lo hi in
      let one = v.moves s nak (q % 256) (next_window actual own s.out q) xs pieces (omega arith) e
      (not_finished (next_window actual own s.out q) (omega arith)) in
      let from = v.sending s (ack ∷ xs) in
      let mid = v.sending s' (xs ++ new) in
      let two = ignores_on j s' nak (q % 256) (ys ++ new) (acknowledged_none actual own s'.out q (omega arith) refl) in
      within_then S model x now number key 1 j (suc j) from mid (v.sending s' (ys ++ new)) (omega arith) one
      (subst (λ (zs : List Apdu). Goes j (v.sending s' zs) (v.sending s' (ys ++ new))) (sym (append_assoc (repeated j ack) ys new)) two)

-- a channel's sender
abbrev pub moving : (S : Type 0) (model : StoreModel S) (x : Rules) (now : Nows) (number : ℕ) (key : Key) (actual own : ℕ) (ps : List Octets)
    → Channel S model x now number key actual own ps → Incoming → ℕ → Moving S model x now number key actual own ps
moving S model x now number key actual own ps c inc m = record {
  sending = λ s xs. c.ends s inc m xs;
  piece = c.piece;
  ack = c.ack;
  moves = λ s. c.moves s inc m;
  ignores = λ s. c.ignores s inc m;
}
