-- A window that is sent again, of which some pieces were taken before: each of its copies is delivered once, in order.
use Rattle.std.proofs.Common.{◌≡◌, ℕ, zero, suc, ◌+◌, ◌%◌, ◌<◌, ◌≤◌, ◌⊎◌, Bool, true, false, ◌||◌, List, [], ◌∷◌, ◌++◌, length, get_or, take, Some, None}
use Rattle.std.proofs.Common.{if◌then◌else◌, nat_lt, nat_le, nat_eq, refl, sym, ap, subst, inl, inr, ◌∙◌, arith, append_assoc, append-nil, length-append}
use Rattle.std.proofs.lemmas.Bool.Decides.{nat_tests}
use Rattle.bac_apdu.specs.Apdu.{Apdu}
use Rattle.bac_segment.specs.Window.{Outgoing, in_window, is_finished, acknowledged, Incoming, is_too_long, takes_expected, takes}
use Rattle.bac_segment.specs.Window.Taking.{Taken, Nak, TooLong}
use Rattle.bac_protocol.specs.Service.{Octets}
use Rattle.bac_protocol.specs.Wire.{pieces_from}
use Rattle.bac_protocol.specs.Log.{StoreModel}
use Rattle.bac_protocol.specs.Transaction.{Key, Rules}
use Rattle.bac_protocol.proofs.Facts.{pieces_length}
use Rattle.bac_protocol.proofs.Queue.{Nows, TransactionPair}
use Rattle.bac_protocol.proofs.Windows.{after_piece, taken_next, parts_next, takes_one}
use Rattle.bac_protocol.proofs.Carries.{Sender, moved, Fitting}
use Rattle.bac_liveness.proofs.Deliveries.{Within, within_then, no_step}

-- Copies of one APDU.

abbrev pub repeated : ℕ → Apdu → List Apdu
repeated zero a = []
repeated (suc n) a = a ∷ repeated n a

repeated_more : (n : ℕ) (a : Apdu) → repeated n a ++ a ∷ [] ≡ a ∷ repeated n a
repeated_more zero a = refl
repeated_more (suc n) a = ap (λ xs. a ∷ xs) (repeated_more n a)

pub one_more : (xs : List Apdu) (n : ℕ) (a : Apdu) → (xs ++ repeated n a) ++ a ∷ [] ≡ xs ++ repeated (suc n) a
one_more xs n a = append_assoc xs (repeated n a) (a ∷ []) ∙ ap (λ ys. xs ++ ys) (repeated_more n a)

pub length_repeated : (n : ℕ) (a : Apdu) → length (repeated n a) ≡ n
length_repeated zero a = refl
length_repeated (suc n) a = ap suc (length_repeated n a)

-- A receiver that has just acknowledged.

abbrev pub quiet : Incoming → Incoming
quiet inc = record inc { unacknowledged = 0 }

-- a piece that was taken before is not expected
pub takes_old : (inc : Incoming) (p : ℕ) (more : Bool) (octets : Octets) → p < length inc.parts → length inc.parts < p + 256
    → takes inc (p % 256) more octets ≡ Nak (quiet inc)
takes_old inc p more octets below near =
    let e : nat_eq (p % 256) (length inc.parts % 256) ≡ false = grind (arith, nat_tests) in
    ap (λ b. if b then (if is_too_long inc octets then TooLong else takes_expected inc more octets) else Nak (quiet inc)) e

-- a sender of these pieces, and that it does what its part says
pub record Moving (S : Type 0) (model : StoreModel S) (x : Rules) (now : Nows) (number : ℕ) (key : Key) (actual own : ℕ) (ps : List Octets) : Type 0 where
  pub sending : Sender → List Apdu → TransactionPair S
  pub piece : ℕ → Apdu
  pub ack : Bool → ℕ → Apdu
  pub moves : (s : Sender) (nak : Bool) (i : ℕ) (out : Outgoing) (xs : List Apdu) → out.pieces ≡ ps → length xs ≤ x.overtake
      → acknowledged own s.out i actual ≡ Some out → is_finished out ≡ false
      → Within S model x now number key 1 (sending s (ack nak i ∷ xs)) (sending (moved s out) (xs ++ pieces_from piece out.first (in_window out)))
  pub ignores : (s : Sender) (nak : Bool) (i : ℕ) (xs : List Apdu) → acknowledged own s.out i actual ≡ None
      → Within S model x now number key 1 (sending s (ack nak i ∷ xs)) (sending s xs)

-- the two ends of a transfer of these pieces, whichever sends, and that they do what their parts say; the receiver's timer runs from a moment
pub record Channel (S : Type 0) (model : StoreModel S) (x : Rules) (now : Nows) (number : ℕ) (key : Key) (actual own : ℕ) (ps : List Octets) : Type 0 where
  pub ends : Sender → Incoming → ℕ → List Apdu → TransactionPair S
  pub piece : ℕ → Apdu
  pub ack : Bool → ℕ → Apdu
  pub is_late : ℕ → Bool
  pub moment : ℕ  -- of its receiver
  pub in_time : is_late moment ≡ false
  pub acks : (s : Sender) (inc inc' : Incoming) (m t : ℕ) (xs : List Apdu) → is_late m ≡ false → inc.window ≡ actual → length xs ≤ x.overtake
      → takes inc (t % 256) (nat_lt (t + 1) (length ps)) (get_or ps t []) ≡ Taken true inc'
      → Within S model x now number key 1 (ends s inc m (piece t ∷ xs)) (ends s inc' moment (xs ++ ack false (t % 256) ∷ []))
  pub keeps : (s : Sender) (inc inc' : Incoming) (m t : ℕ) (xs : List Apdu) → is_late m ≡ false → length xs ≤ x.overtake
      → takes inc (t % 256) (nat_lt (t + 1) (length ps)) (get_or ps t []) ≡ Taken false inc'
      → Within S model x now number key 1 (ends s inc m (piece t ∷ xs)) (ends s inc' moment xs)
  pub naks : (s : Sender) (inc : Incoming) (m p q : ℕ) (xs : List Apdu) → is_late m ≡ false → inc.window ≡ actual → q + 1 ≡ length inc.parts
      → length xs ≤ x.overtake → takes inc (p % 256) (nat_lt (p + 1) (length ps)) (get_or ps p []) ≡ Nak (quiet inc)
      → Within S model x now number key 1 (ends s inc m (piece p ∷ xs)) (ends s (quiet inc) moment (xs ++ ack true (q % 256) ∷ []))
  pub moves : (s : Sender) (inc : Incoming) (m : ℕ) (nak : Bool) (i : ℕ) (out : Outgoing) (xs : List Apdu) → out.pieces ≡ ps → length xs ≤ x.overtake
      → acknowledged own s.out i actual ≡ Some out → is_finished out ≡ false
      → Within S model x now number key 1 (ends s inc m (ack nak i ∷ xs)) (ends (moved s out) inc m (xs ++ pieces_from piece out.first (in_window out)))
  pub ignores : (s : Sender) (inc : Incoming) (m : ℕ) (nak : Bool) (i : ℕ) (xs : List Apdu) → acknowledged own s.out i actual ≡ None
      → Within S model x now number key 1 (ends s inc m (ack nak i ∷ xs)) (ends s inc m xs)

module _ (S : Type 0) (model : StoreModel S) (x : Rules) (now : Nows) (number : ℕ) (key : Key) (actual own : ℕ) (ps : List Octets)
    (sizes : Fitting x.overtake actual own ps) (near : actual < 256) (c : Channel S model x now number key actual own ps) where
  abbrev n : ℕ
  n = length ps

  abbrev pub Goes : ℕ → TransactionPair S → TransactionPair S → Type 0
  Goes most p q = Within S model x now number key most p q

  -- Pieces that were taken before are delivered.

  pub naks_on : (d k i p r q : ℕ) (s : Sender) (inc : Incoming) → k ≡ d + r → q + 1 ≡ length inc.parts → p + d ≡ q + 1 → k + i ≤ actual → inc.window ≡ actual
      → Goes d (c.ends s (quiet inc) c.moment (pieces_from c.piece p k ++ repeated i (c.ack true (q % 256))))
      (c.ends s (quiet inc) c.moment (pieces_from c.piece (q + 1) r ++ repeated (i + d) (c.ack true (q % 256))))
  naks_on zero k i p r q s inc len taken at few is =
      let a : p ≡ q + 1 = omega arith in
      let b : k ≡ r = omega arith in
      let e : i ≡ i + 0 = omega arith in
      no_step S model x now number key (c.ends s (quiet inc) c.moment (pieces_from c.piece p k ++ repeated i (c.ack true (q % 256))))
      (c.ends s (quiet inc) c.moment (pieces_from c.piece (q + 1) r ++ repeated (i + 0) (c.ack true (q % 256))))
      (λ j. c.ends s (quiet inc) c.moment (pieces_from c.piece (a j) (b j) ++ repeated (e j) (c.ack true (q % 256))))
  naks_on (suc d) zero i p r q s inc len taken at few is = absurd (omega arith)
  naks_on (suc d) (suc k) i p r q s inc len taken at few is =
      let nak = c.ack true (q % 256) in
      let rest = pieces_from c.piece (p + 1) k in
      let xs = rest ++ repeated i nak in
      let room = sizes.room in
      let a = length-append rest (repeated i nak) in
      let b = pieces_length c.piece (p + 1) k in
      let e = length_repeated i nak in
      let from = c.ends s (quiet inc) c.moment (c.piece p ∷ xs) in
      let mid = c.ends s (quiet inc) c.moment (rest ++ repeated (suc i) nak) in
      let one = subst (λ (ys : List Apdu). Goes 1 from (c.ends s (quiet inc) c.moment ys)) (one_more rest i nak)
      (c.naks s (quiet inc) c.moment p q xs c.in_time is taken (omega arith)
      (takes_old (quiet inc) p (nat_lt (p + 1) n) (get_or ps p []) (omega arith) (omega arith))) in
      let ih = naks_on d k (suc i) (p + 1) r q s inc (omega arith) taken (omega arith) (omega arith) is in
      let f : suc i + d ≡ i + suc d = omega arith in
      within_then S model x now number key 1 d (suc d) from mid
      (c.ends s (quiet inc) c.moment (pieces_from c.piece (q + 1) r ++ repeated (i + suc d) nak)) (omega arith) one
      (subst (λ (j : ℕ). Goes d mid (c.ends s (quiet inc) c.moment (pieces_from c.piece (q + 1) r ++ repeated j nak))) f ih)

  -- Expected pieces are delivered, and none fills a window.

  pub record Took (from : TransactionPair S) (most : ℕ) (s : Sender) (t k : ℕ) (tail : List Apdu) : Type 0 where
    pub inc : Incoming
    pub m : ℕ
    pub in_time : c.is_late m ≡ false
    pub actual_is : inc.window ≡ actual
    pub taken : length inc.parts ≡ t
    pub parts : inc.parts ≡ take t ps
    pub reaches : Goes most from (c.ends s inc m (pieces_from c.piece t k ++ tail))

  pub took_at : (from : TransactionPair S) (most : ℕ) (s : Sender) (a b k : ℕ) (tail : List Apdu) → a ≡ b → Took from most s a k tail
      → Took from most s b k tail
  took_at from most s a b k tail e h = subst (λ (i : ℕ). Took from most s i k tail) e h

  pub quiet_on : (r j t k : ℕ) (s : Sender) (inc : Incoming) (m : ℕ) (tail : List Apdu) → j ≡ r + k → 0 < t → t + r < n → inc.unacknowledged + r < actual
      → j + length tail ≤ actual → c.is_late m ≡ false → inc.window ≡ actual → length inc.parts ≡ t → inc.parts ≡ take t ps
      → Took (c.ends s inc m (pieces_from c.piece t j ++ tail)) r s (t + r) k tail
  quiet_on zero j t k s inc m tail len some left small few timely is taken parts =
      let a : t ≡ t + 0 = omega arith in
      let b : j ≡ k = omega arith in
      record {
        inc = inc;
        m = m;
        in_time = timely;
        actual_is = is;
        taken = omega arith;
        parts = subst (λ (i : ℕ). inc.parts ≡ take i ps) a parts;
        reaches = no_step S model x now number key (c.ends s inc m (pieces_from c.piece t j ++ tail))
            (c.ends s inc m (pieces_from c.piece (t + 0) k ++ tail)) (λ i. c.ends s inc m (pieces_from c.piece (a i) (b i) ++ tail));
      }
  quiet_on (suc r) zero t k s inc m tail len some left small few timely is taken parts = absurd (omega arith)
  quiet_on (suc r) (suc j) t k s inc m tail len some left small few timely is taken parts =
      let inc' : Incoming = after_piece ps inc t (inc.unacknowledged + 1) in
      let fills : (nat_eq (length inc.parts) 0 || nat_le inc.window (inc.unacknowledged + 1)) ≡ false = grind (arith, nat_tests) in
      let e = takes_one ps inc t (omega arith) sizes.few sizes.short taken parts false fills in
      let rest = pieces_from c.piece (t + 1) j in
      let a = length-append rest tail in
      let b = pieces_length c.piece (t + 1) j in
      let room = sizes.room in
      let one = c.keeps s inc inc' m t (rest ++ tail) timely (omega arith) e in
      let ih = quiet_on r j (t + 1) k s inc' c.moment tail (omega arith) (omega arith) (omega arith) (omega arith) (omega arith) c.in_time is
      (taken_next ps inc t (inc.unacknowledged + 1) taken) (parts_next ps inc t (inc.unacknowledged + 1) (omega arith) parts) in
      let from = c.ends s inc m (c.piece t ∷ (rest ++ tail)) in
      took_at from (suc r) s (t + 1 + r) (t + suc r) k tail (omega arith)
      (record {
        inc = ih.inc;
        m = ih.m;
        in_time = ih.in_time;
        actual_is = ih.actual_is;
        taken = ih.taken;
        parts = ih.parts;
        reaches = within_then S model x now number key 1 r (suc r) from (c.ends s inc' c.moment (rest ++ tail))
            (c.ends s ih.inc ih.m (pieces_from c.piece (t + 1 + r) k ++ tail)) (omega arith) one ih.reaches;
      })

  -- A window is delivered but for its last k pieces. The SegmentACKs that came of it are all of one piece q: for each piece that was taken before, or for
  -- one that filled a window.

  pub record Acked (from : TransactionPair S) (most : ℕ) (s : Sender) (a before t k : ℕ) : Type 0 where
    pub inc : Incoming
    pub m : ℕ
    pub in_time : c.is_late m ≡ false
    pub actual_is : inc.window ≡ actual
    pub taken : length inc.parts ≡ t
    pub parts : inc.parts ≡ take t ps
    pub nak : Bool
    pub q : ℕ
    pub acks : ℕ
    pub next : ℕ  -- the first piece that is not acknowledged when they were read
    pub next_is : 0 < acks → q + 1 ≡ next
    pub few : acks + a ≤ next
    pub new : before ≤ next
    pub old : next ≤ t
    pub reaches : Goes most from (c.ends s inc m (pieces_from c.piece t k ++ repeated acks (c.ack nak (q % 256))))

  -- the pieces were all new; a piece filled a window, where one had to
  pub record Fresh (from : TransactionPair S) (most : ℕ) (s : Sender) (a t k : ℕ) (u r first : ℕ) : Type 0 where
    pub acked : Acked from most s a a t k
    pub some : 0 < r → ((actual ≤ u + r) ⊎ (first ≡ 0)) → 0 < acked.acks

  abbrev FreshOn : ℕ → Type 0
  FreshOn r = (j t k a : ℕ) (s : Sender) (inc : Incoming) (m : ℕ) → j ≡ r + k → a ≤ t → t + r < n → j ≤ actual → c.is_late m ≡ false
      → inc.window ≡ actual → length inc.parts ≡ t → inc.parts ≡ take t ps
      → Fresh (c.ends s inc m (pieces_from c.piece t j)) r s a (t + r) k inc.unacknowledged r t

  fresh_more : (r : ℕ) → FreshOn r → (j t k a : ℕ) (s : Sender) (inc : Incoming) (m : ℕ) → j ≡ r + k → a ≤ t → t + suc r < n → suc j ≤ actual
      → c.is_late m ≡ false → inc.window ≡ actual → length inc.parts ≡ t → inc.parts ≡ take t ps
      → Fresh (c.ends s inc m (pieces_from c.piece t (suc j))) (suc r) s a (t + suc r) k inc.unacknowledged (suc r) t
  fresh_more r next j t k a s inc m len behind left few timely is taken parts =
      go (nat_eq (length inc.parts) 0 || nat_le inc.window (inc.unacknowledged + 1)) refl
    where
      rest : List Apdu
      rest = pieces_from c.piece (t + 1) j

      from : TransactionPair S
      from = c.ends s inc m (c.piece t ∷ rest)

      rest_length : length rest ≤ x.overtake
      rest_length = let room = sizes.room in let b = pieces_length c.piece (t + 1) j in omega arith

      go : (b : Bool) → (nat_eq (length inc.parts) 0 || nat_le inc.window (inc.unacknowledged + 1)) ≡ b
          → Fresh from (suc r) s a (t + suc r) k inc.unacknowledged (suc r) t
      go true fills =
          let inc' : Incoming = after_piece ps inc t 0 in
          let ack = c.ack false (t % 256) in
          let e = takes_one ps inc t (omega arith) sizes.few sizes.short taken parts true fills in
          let one = c.acks s inc inc' m t rest timely is rest_length e in
          let h = quiet_on r j (t + 1) k s inc' c.moment (ack ∷ []) (omega arith) (omega arith) (omega arith) (omega arith) (omega arith) c.in_time is
          (taken_next ps inc t 0 taken) (parts_next ps inc t 0 (omega arith) parts) in
          let g = took_at (c.ends s inc' c.moment (rest ++ ack ∷ [])) r s (t + 1 + r) (t + suc r) k (ack ∷ []) (omega arith) h in
          record {
            acked = record {
              inc = g.inc;
              m = g.m;
              in_time = g.in_time;
              actual_is = g.actual_is;
              taken = g.taken;
              parts = g.parts;
              nak = false;
              q = t;
              acks = 1;
              next = t + 1;
              next_is = λ z. refl;
              few = omega arith;
              new = omega arith;
              old = omega arith;
              reaches = within_then S model x now number key 1 r (suc r) from (c.ends s inc' c.moment (rest ++ ack ∷ []))
                  (c.ends s g.inc g.m (pieces_from c.piece (t + suc r) k ++ ack ∷ [])) (omega arith) one g.reaches;
            };
            some = λ z y. omega arith;
          }
      go false fills =
          let inc' : Incoming = after_piece ps inc t (inc.unacknowledged + 1) in
          let e = takes_one ps inc t (omega arith) sizes.few sizes.short taken parts false fills in
          let one = c.keeps s inc inc' m t rest timely rest_length e in
          let ih = next j (t + 1) k a s inc' c.moment (omega arith) (omega arith) (omega arith) (omega arith) c.in_time is
          (taken_next ps inc t (inc.unacknowledged + 1) taken) (parts_next ps inc t (inc.unacknowledged + 1) (omega arith) parts) in
          let g = ih.acked in
          let at : t + 1 + r ≡ t + suc r = omega arith in
          let old = g.old in
          let not_first : 0 < t = grind (arith, nat_tests) in
          let not_full : inc.unacknowledged + 1 < actual = grind (arith, nat_tests) in
          record {
            acked = record {
              inc = g.inc;
              m = g.m;
              in_time = g.in_time;
              actual_is = g.actual_is;
              taken = g.taken ∙ at;
              parts = subst (λ (i : ℕ). g.inc.parts ≡ take i ps) at g.parts;
              nak = g.nak;
              q = g.q;
              acks = g.acks;
              next = g.next;
              next_is = g.next_is;
              few = g.few;
              new = g.new;
              old = omega arith;
              reaches = within_then S model x now number key 1 r (suc r) from (c.ends s inc' c.moment rest)
                  (c.ends s g.inc g.m (pieces_from c.piece (t + suc r) k ++ repeated g.acks (c.ack g.nak (g.q % 256)))) (omega arith) one
                  (subst (λ (i : ℕ). Goes r (c.ends s inc' c.moment rest)
                  (c.ends s g.inc g.m (pieces_from c.piece i k ++ repeated g.acks (c.ack g.nak (g.q % 256))))) at g.reaches);
            };
            some = λ z y. more not_first not_full ih y;
          }
        where
          more : 0 < t → inc.unacknowledged + 1 < actual
              → (ih : Fresh (c.ends s (after_piece ps inc t (inc.unacknowledged + 1)) c.moment rest) r s a (t + 1 + r) k (inc.unacknowledged + 1) r (t + 1))
              → ((actual ≤ inc.unacknowledged + suc r) ⊎ (t ≡ 0)) → 0 < ih.acked.acks
          more first full ih (inl le) = ih.some (omega arith) (inl (omega arith))
          more first full ih (inr is) = absurd (omega arith)

  pub fresh_on : (r : ℕ) → FreshOn r
  fresh_on zero j t k a s inc m len behind left few timely is taken parts =
      let b : t ≡ t + 0 = omega arith in
      let e : j ≡ k = omega arith in
      let from = c.ends s inc m (pieces_from c.piece t j) in
      let to = c.ends s inc m (pieces_from c.piece (t + 0) k ++ []) in
      record {
        acked = record {
          inc = inc;
          m = m;
          in_time = timely;
          actual_is = is;
          taken = omega arith;
          parts = subst (λ (i : ℕ). inc.parts ≡ take i ps) b parts;
          nak = false;
          q = a;
          acks = 0;
          next = a;
          next_is = λ h. absurd (omega arith);
          few = omega arith;
          new = omega arith;
          old = omega arith;
          reaches = no_step S model x now number key from to
              ((λ i. c.ends s inc m (pieces_from c.piece (b i) (e i)))
              ∙ ap (λ (ys : List Apdu). c.ends s inc m ys) (sym (append-nil (pieces_from c.piece (t + 0) k))));
        };
        some = λ h g. absurd (omega arith);
      }
  fresh_on (suc r) zero t k a s inc m len behind left few timely is taken parts = absurd (omega arith)
  fresh_on (suc r) (suc j) t k a s inc m len behind left few timely is taken parts =
      fresh_more r (fresh_on r) j t k a s inc m (omega arith) behind left few timely is taken parts
