-- Windows are sent again until a transfer's last piece alone is left, wherever its two ends stood.
use Rattle.std.proofs.Common.{◌≡◌, ℕ, zero, suc, ◌+◌, ◌-◌, ◌*◌, ◌%◌, ◌<◌, ◌≤◌, ◌⊎◌, Bool, true, false, List, [], ◌∷◌, ◌++◌, length, get_or, take, nat_lt, refl}
use Rattle.std.proofs.Common.{ap, subst, inl, inr, arith, append-nil}
use Rattle.std.proofs.lemmas.Bool.Decides.{nat_tests}
use Rattle.bac_apdu.specs.Apdu.{Apdu}
use Rattle.bac_segment.specs.Window.{in_window, Incoming}
use Rattle.bac_protocol.specs.Service.{Octets}
use Rattle.bac_protocol.specs.Wire.{pieces_from}
use Rattle.bac_protocol.specs.Log.{StoreModel}
use Rattle.bac_protocol.specs.Transaction.{Key, Rules}
use Rattle.bac_protocol.proofs.Facts.{pieces_length}
use Rattle.bac_protocol.proofs.Queue.{Nows, TransactionPair}
use Rattle.bac_protocol.proofs.Windows.{next_window}
use Rattle.bac_protocol.proofs.Carries.{Sender, moved, Fitting}
use Rattle.bac_liveness.proofs.Deliveries.{Within, within_then}
use Rattle.bac_liveness.proofs.Acks.{acks_read, moving}
use Rattle.bac_liveness.proofs.Windows.{repeated, length_repeated, quiet, takes_old, Channel, Acked, naks_on, took_at, quiet_on, fresh_on}

module _ (S : Type 0) (model : StoreModel S) (x : Rules) (now : Nows) (number : ℕ) (key : Key) (actual own : ℕ) (ps : List Octets)
    (sizes : Fitting x.overtake actual own ps) (near : actual < 256) (c : Channel S model x now number key actual own ps) where
  abbrev n : ℕ
  n = length ps

  abbrev Goes : ℕ → TransactionPair S → TransactionPair S → Type 0
  Goes most p q = Within S model x now number key most p q

  abbrev AckedOf : TransactionPair S → ℕ → Sender → (a before t k : ℕ) → Type 0
  AckedOf from most s a before t k = Acked S model x now number key actual own ps sizes near c from most s a before t k

  -- a sender has sent its window, of which its receiver has taken the pieces below t; its window is the actual one, or it has sent one piece alone
  pub record IsRound (s : Sender) (inc : Incoming) (t : ℕ) : Type 0 where
    pub pieces : s.out.pieces ≡ ps
    pub shape : (s.out.window ≡ actual) ⊎ ((s.out.first ≡ 0) × (s.out.window ≡ 1))
    pub most : s.out.window ≤ actual
    pub some : 0 < s.out.window
    pub actual_is : inc.window ≡ actual
    pub taken : length inc.parts ≡ t
    pub parts : inc.parts ≡ take t ps
    pub behind : s.out.first ≤ t
    pub within : t ≤ s.out.first + in_window s.out
    pub left : t < n

  abbrev pub sent : Sender → Incoming → ℕ → TransactionPair S
  sent s inc m = c.ends s inc m (pieces_from c.piece s.out.first (in_window s.out))

  -- The window is delivered, but for its last k pieces.

  record Delivered (from : TransactionPair S) (most : ℕ) (s : Sender) (t u k : ℕ) : Type 0 where
    acked : AckedOf from most s s.out.first t u k
    some : 0 < most → k ≡ 0 → s.out.first + in_window s.out < n → 0 < acked.acks

  window_full : (s : Sender) (inc : Incoming) (t r : ℕ) → IsRound s inc t → t ≡ s.out.first → t + r ≡ s.out.first + in_window s.out
      → s.out.first + in_window s.out < n → ((actual ≤ inc.unacknowledged + r) ⊎ (t ≡ 0))
  window_full s inc t r h at all left = go h.shape
    where
      len : length s.out.pieces ≡ n
      len = ap length h.pieces

      go : ((s.out.window ≡ actual) ⊎ ((s.out.first ≡ 0) × (s.out.window ≡ 1))) → ((actual ≤ inc.unacknowledged + r) ⊎ (t ≡ 0))
      go (inl is) = let l = len in inl (omega arith)
      go (inr is) = let f = is.0 in inr (omega arith)

  window_new : (s : Sender) (inc : Incoming) (m t r k w : ℕ) → IsRound s inc t → c.is_late m ≡ false → in_window s.out ≡ w → t ≡ s.out.first
      → r + k ≡ w → t + r < n → Delivered (c.ends s inc m (pieces_from c.piece s.out.first w)) r s t (t + r) k
  window_new s inc m t r k w h timely in_w at all left =
      let most = h.most in
      let f = fresh_on S model x now number key actual own ps sizes near c r w t k s.out.first s inc m (omega arith) h.behind left (omega arith) timely
      h.actual_is h.taken h.parts in
      let a = f.acked in
      let few = a.few in
      let from = λ (i : ℕ). c.ends s inc m (pieces_from c.piece i w) in
      record {
        acked = record {
          inc = a.inc;
          m = a.m;
          in_time = a.in_time;
          actual_is = a.actual_is;
          taken = a.taken;
          parts = a.parts;
          nak = a.nak;
          q = a.q;
          acks = a.acks;
          next = a.next;
          next_is = a.next_is;
          few = few;
          new = omega arith;
          old = a.old;
          reaches = subst (λ (i : ℕ). Goes r (from i) (c.ends s a.inc a.m (pieces_from c.piece (t + r) k ++ repeated a.acks (c.ack a.nak (a.q % 256))))) at
              a.reaches;
        };
        some = λ some none part. f.some some (window_full s inc t r h at (omega arith) part);
      }

  window_old : (d w : ℕ) (s : Sender) (inc : Incoming) (m t r k : ℕ) → IsRound s inc t → c.is_late m ≡ false → in_window s.out ≡ w → t ≡ s.out.first + suc d
      → suc d + r + k ≡ w → t + r < n → Delivered (c.ends s inc m (pieces_from c.piece s.out.first w)) (suc d + r) s t (t + r) k
  window_old d zero s inc m t r k h timely in_w at all left = absurd (omega arith)
  window_old d (suc w) s inc m t r k h timely in_w at all left =
      let a = s.out.first in
      let q = a + d in
      let nak = c.ack true (q % 256) in
      let rest = pieces_from c.piece (a + 1) w in
      let most = h.most in
      let taken = h.taken in
      let room = sizes.room in
      let b = pieces_length c.piece (a + 1) w in
      let from = c.ends s inc m (c.piece a ∷ rest) in
      let one = c.naks s inc m a q rest timely h.actual_is (omega arith) (omega arith)
      (takes_old inc a (nat_lt (a + 1) n) (get_or ps a []) (omega arith) (omega arith)) in
      let two = naks_on S model x now number key actual own ps sizes near c d w 1 (a + 1) (r + k) q s inc (omega arith) (omega arith) (omega arith)
      (omega arith) h.actual_is in
      let tail = repeated (1 + d) nak in
      let e = length_repeated (1 + d) nak in
      let g : t ≡ q + 1 = omega arith in
      let three = quiet_on S model x now number key actual own ps sizes near c r (r + k) (q + 1) k s (quiet inc) c.moment tail refl (omega arith) (omega arith)
      (omega arith) (omega arith) c.in_time h.actual_is (omega arith) (subst (λ (i : ℕ). inc.parts ≡ take i ps) g h.parts) in
      let mid = c.ends s (quiet inc) c.moment (pieces_from c.piece (q + 1) (r + k) ++ tail) in
      let z = took_at S model x now number key actual own ps sizes near c mid r s (q + 1 + r) (t + r) k tail (omega arith) three in
      let end = c.ends s z.inc z.m (pieces_from c.piece (t + r) k ++ tail) in
      record {
        acked = record {
          inc = z.inc;
          m = z.m;
          in_time = z.in_time;
          actual_is = z.actual_is;
          taken = z.taken;
          parts = z.parts;
          nak = true;
          q = q;
          acks = 1 + d;
          next = q + 1;
          next_is = λ y. refl;
          few = omega arith;
          new = omega arith;
          old = omega arith;
          reaches = within_then S model x now number key (1 + d) r (suc d + r) from mid end (omega arith)
              (within_then S model x now number key 1 d (1 + d) from (c.ends s (quiet inc) c.moment (rest ++ nak ∷ [])) mid (omega arith) one two) z.reaches;
        };
        some = λ some none part. omega arith;
      }

  window_sent : (d : ℕ) (s : Sender) (inc : Incoming) (m t r k : ℕ) → IsRound s inc t → c.is_late m ≡ false → t ≡ s.out.first + d
      → d + r + k ≡ in_window s.out → t + r < n → Delivered (sent s inc m) (d + r) s t (t + r) k
  window_sent zero s inc m t r k h timely at all left =
      let e : r ≡ 0 + r = omega arith in
      subst (λ (i : ℕ). Delivered (sent s inc m) i s t (t + r) k) e
      (window_new s inc m t r k (in_window s.out) h timely refl (omega arith) (omega arith) left)
  window_sent (suc d) s inc m t r k h timely at all left = window_old d (in_window s.out) s inc m t r k h timely refl at all left

  -- A round that is not the last.

  record Next (from : TransactionPair S) (s : Sender) (t : ℕ) : Type 0 where
    inc : Incoming
    m : ℕ
    next : Sender
    reached : ℕ
    timely : c.is_late m ≡ false
    round : IsRound next inc reached
    most : ℕ
    goes : s.out.first < next.out.first
    cheap : most + s.out.first + s.out.first + t ≤ next.out.first + next.out.first + reached
    reaches : Goes most from (sent next inc m)

  next_round : (d : ℕ) (s : Sender) (inc : Incoming) (m t r : ℕ) → IsRound s inc t → c.is_late m ≡ false → t ≡ s.out.first + d
      → d + r ≡ in_window s.out → s.out.first + in_window s.out < n → Next (sent s inc m) s t
  next_round d s inc m t r h timely at all left = go a.acks refl
    where
      w : ℕ
      w = in_window s.out

      z : Delivered (sent s inc m) (d + r) s t (t + r) 0
      z = window_sent d s inc m t r 0 h timely at (omega arith) (omega arith)

      a : AckedOf (sent s inc m) (d + r) s s.out.first t (t + r) 0
      a = z.acked

      some : 0 < a.acks
      some = let x = h.some in let l : length s.out.pieces ≡ n = ap length h.pieces in z.some (omega arith) refl left

      go : (acks : ℕ) → a.acks ≡ acks → Next (sent s inc m) s t
      go zero e = absurd (let y = some in omega arith)
      go (suc j) e =
          let q = a.q in
          let few = a.few in
          let new = a.new in
          let old = a.old in
          let is = a.next_is some in
          let most = h.most in
          let within = sizes.within in
          let positive = sizes.some in
          let room = sizes.room in
          let len : length s.out.pieces ≡ n = ap length h.pieces in
          let s' = moved s (next_window actual own s.out q) in
          let acks = repeated (suc j) (c.ack a.nak (q % 256)) in
          let mid = c.ends s a.inc a.m acks in
          let one : Goes (d + r) (sent s inc m) mid = subst (λ (i : ℕ). Goes (d + r) (sent s inc m) (c.ends s a.inc a.m
          (repeated i (c.ack a.nak (q % 256))))) e a.reaches in
          let two = acks_read S model x now number key actual own ps sizes near (moving S model x now number key actual own ps c a.inc a.m) j s a.nak q []
          h.pieces most (omega arith) (omega arith) (omega arith) (omega arith) in
          let two' = subst (λ (zs : List Apdu). Goes (suc j) (c.ends s a.inc a.m zs) (sent s' a.inc a.m)) (append-nil acks) two in
          record {
            inc = a.inc;
            m = a.m;
            next = s';
            reached = t + r;
            timely = a.in_time;
            round = record {
              pieces = h.pieces;
              shape = inl (omega arith);
              most = omega arith;
              some = omega arith;
              actual_is = a.actual_is;
              taken = a.taken;
              parts = a.parts;
              behind = omega arith;
              within = omega arith;
              left = omega arith;
            };
            most = d + r + suc j;
            goes = omega arith;
            cheap = omega arith;
            reaches = within_then S model x now number key (d + r) (suc j) (d + r + suc j) (sent s inc m) mid (sent s' a.inc a.m) (omega arith) one two';
          }

  -- Of all pieces the last alone is left; the SegmentACKs on their way are all of one piece.

  pub record LastLeft (from : TransactionPair S) (most : ℕ) : Type 0 where
    pub s : Sender
    pub inc : Incoming
    pub m : ℕ
    pub timely : c.is_late m ≡ false
    pub pieces : s.out.pieces ≡ ps
    pub window : s.out.window ≤ actual
    pub full : s.out.first + in_window s.out ≡ n
    pub p : ℕ
    pub last : p + 1 ≡ n
    pub actual_is : inc.window ≡ actual
    pub taken : length inc.parts ≡ p
    pub parts : inc.parts ≡ take p ps
    pub behind : s.out.first ≤ p
    pub nak : Bool
    pub q : ℕ
    pub acks : ℕ
    pub next : ℕ
    pub next_is : 0 < acks → q + 1 ≡ next
    pub few : acks + s.out.first ≤ next
    pub old : next ≤ p
    pub spent : ℕ
    pub cheap : spent + 2 * n + 1 + acks ≤ most + 2 * next
    pub reaches : Goes spent from (c.ends s inc m (c.piece p ∷ repeated acks (c.ack nak (q % 256))))

  last_round : (d : ℕ) (s : Sender) (inc : Incoming) (m t r most : ℕ) → IsRound s inc t → c.is_late m ≡ false → t ≡ s.out.first + d
      → d + r + 1 ≡ in_window s.out → s.out.first + in_window s.out ≡ n → 3 * n ≤ most + s.out.first + s.out.first + t → LastLeft (sent s inc m) most
  last_round d s inc m t r most h timely at all full enough =
      let z = window_sent d s inc m t r 1 h timely at (omega arith) (omega arith) in
      let a = z.acked in
      let few = a.few in
      let new = a.new in
      record {
        s = s;
        inc = a.inc;
        m = a.m;
        timely = a.in_time;
        pieces = h.pieces;
        window = h.most;
        full = full;
        p = t + r;
        last = omega arith;
        actual_is = a.actual_is;
        taken = a.taken;
        parts = a.parts;
        behind = omega arith;
        nak = a.nak;
        q = a.q;
        acks = a.acks;
        next = a.next;
        next_is = a.next_is;
        few = few;
        old = a.old;
        spent = d + r;
        cheap = omega arith;
        reaches = a.reaches;
      }

  abbrev AllRounds : (fuel : ℕ) → Type 0
  AllRounds fuel = (s : Sender) (inc : Incoming) (m t most : ℕ) → IsRound s inc t → c.is_late m ≡ false → n ≤ s.out.first + fuel
      → 3 * n ≤ most + s.out.first + s.out.first + t → LastLeft (sent s inc m) most

  more_rounds : (fuel : ℕ) → AllRounds fuel → (s : Sender) (inc : Incoming) (m t most : ℕ) → Next (sent s inc m) s t → n ≤ s.out.first + suc fuel
      → 3 * n ≤ most + s.out.first + s.out.first + t → s.out.first + s.out.first + t ≤ 3 * n → LastLeft (sent s inc m) most
  more_rounds fuel ih s inc m t most z enough cheap some =
      let goes = z.goes in
      let spent = z.cheap in
      let round = z.round in
      let behind = round.behind in
      let left = round.left in
      let y = ih z.next z.inc z.m z.reached (most - z.most) z.round z.timely (omega arith) (omega arith) in
      let c' = y.cheap in
      record {
        s = y.s;
        inc = y.inc;
        m = y.m;
        timely = y.timely;
        pieces = y.pieces;
        window = y.window;
        full = y.full;
        p = y.p;
        last = y.last;
        actual_is = y.actual_is;
        taken = y.taken;
        parts = y.parts;
        behind = y.behind;
        nak = y.nak;
        q = y.q;
        acks = y.acks;
        next = y.next;
        next_is = y.next_is;
        few = y.few;
        old = y.old;
        spent = z.most + y.spent;
        cheap = omega arith;
        reaches = within_then S model x now number key z.most y.spent (z.most + y.spent) (sent s inc m) (sent z.next z.inc z.m)
            (c.ends y.s y.inc y.m (c.piece y.p ∷ repeated y.acks (c.ack y.nak (y.q % 256)))) (omega arith) z.reaches y.reaches;
      }

  round_or_last : (fuel : ℕ) → AllRounds fuel → AllRounds (suc fuel)
  round_or_last fuel ih s inc m t most h timely enough cheap = go (nat_lt (s.out.first + in_window s.out) n) refl
    where
      len : length s.out.pieces ≡ n
      len = ap length h.pieces

      go : (b : Bool) → nat_lt (s.out.first + in_window s.out) n ≡ b → LastLeft (sent s inc m) most
      go true e =
          let l : s.out.first + in_window s.out < n = grind (arith, nat_tests) in
          let behind = h.behind in
          let within = h.within in
          let left = h.left in
          more_rounds fuel ih s inc m t most
          (next_round (t - s.out.first) s inc m t (s.out.first + in_window s.out - t) h timely (omega arith) (omega arith) l) enough cheap (omega arith)
      go false e =
          let l : n ≤ s.out.first + in_window s.out = grind (arith, nat_tests) in
          let f = len in
          let behind = h.behind in
          let within = h.within in
          let left = h.left in
          last_round (t - s.out.first) s inc m t (s.out.first + in_window s.out - t - 1) most h timely (omega arith) (omega arith) (omega arith) cheap

  pub all_rounds : (fuel : ℕ) → AllRounds fuel
  all_rounds zero s inc m t most h timely enough cheap = absurd (let l = h.left in let b = h.behind in omega arith)
  all_rounds (suc fuel) s inc m t most h timely enough cheap = round_or_last fuel (all_rounds fuel) s inc m t most h timely enough cheap
